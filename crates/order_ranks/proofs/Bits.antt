-- Bits of a word: of `|`, `&` and `^`, of a power of two, of a word whose bits are all 0, and their count.
use mathlib.Core.Path.{◌≡◌, refl, sym, ap, ◌∙◌, subst}
use mathlib.Core.Bool.{Bool, true, false, cond, not, ◌&&◌}
use mathlib.Core.Logic.{◌⊎◌, inl, inr}
use mathlib.Core.List.{◌∷◌}
use Prim.Native.Nat.{ℕ, zero, suc, ◌+◌, ◌*◌, ◌/◌, ◌%◌, ◌^◌, ◌<◌}
use native.Mathlib.Nat.{mod-lt, div-one, div-add-mod', zero-lt-suc, add_comm, div-lt_iff_lt-mul, pow-suc, lt_of_le_of_lt}
use native.Mathlib.Numerals.{add-one}
use native.Mathlib.Omega.{arith}
use lib.Dec.{lit<, eqb, eqb-suc-suc, eqb-zero-suc, eqb-suc-zero}
use lib.Arith.{lt-one}
use lib.Pow.{shr-shr, shl_exact}
use lib.Bits.{bit_and, bit_or, bit_xor, and_le_l, and_shr, or_shr, xor_shr, and_mod, or_mod, xor_mod, shifted_half, shifted_even}
use lib.Count.{ones, ones_step}
use lib.ListN.{length}
use Rattle.theory_lists.specs.Booleans.{never, either}
use Rattle.model.specs.Calls.{numbers, keep}
use Rattle.order_ranks.specs.Marks.{bit, ones_of, meets, PutBit}
use borrow.Author.Tests.{eqb-true, eqb-false, eq-eqb, ne_eqb}
use Rattle.theory_order.specs.Lists.{in_numbers, length_shift, keep_ext, any_in, any_off}

pub bit_zero : (x : ℕ) → bit x zero ≡ eqb (x % 2) 1
unfolding bit
bit_zero x = rw (div-one x)

pub bit_suc : (x k : ℕ) → bit x (suc k) ≡ bit (x / 2) k
unfolding bit
bit_suc x k = ap (λ (y : ℕ). eqb (y % 2) 1) (ap (λ (d : ℕ). x / 2 ^ d) (sym (add-one k) ∙ add_comm k 1) ∙ sym (shr-shr x 1 k))

-- ---- digit by digit

two_cases : (P : ℕ → Type 0) → P 0 → P 1 → (d : ℕ) → d < 2 → P d
two_cases P a b zero h = a
two_cases P a b (suc zero) h = b
two_cases P a b (suc (suc d)) h = absurd (omega arith)

digit_and : (d e : ℕ) → d < 2 → e < 2 → eqb (bit_and d e) 1 ≡ (eqb d 1 && eqb e 1)
digit_and d e hd he =
    two_cases (λ (x : ℕ). eqb (bit_and x e) 1 ≡ (eqb x 1 && eqb e 1)) refl
    (two_cases (λ (y : ℕ). eqb (bit_and 1 y) 1 ≡ (eqb 1 1 && eqb y 1)) refl refl e he)
    d hd

digit_or : (d e : ℕ) → d < 2 → e < 2 → eqb (bit_or d e) 1 ≡ cond (eqb e 1) true (eqb d 1)
digit_or d e hd he =
    two_cases (λ (y : ℕ). eqb (bit_or d y) 1 ≡ cond (eqb y 1) true (eqb d 1))
    (two_cases (λ (x : ℕ). eqb (bit_or x 0) 1 ≡ cond (eqb 0 1) true (eqb x 1)) refl refl d hd)
    (two_cases (λ (x : ℕ). eqb (bit_or x 1) 1 ≡ cond (eqb 1 1) true (eqb x 1)) refl refl d hd)
    e he

digit_xor : (d e : ℕ) → d < 2 → e < 2 → eqb (bit_xor d e) 1 ≡ cond (eqb e 1) (not (eqb d 1)) (eqb d 1)
digit_xor d e hd he =
    two_cases (λ (y : ℕ). eqb (bit_xor d y) 1 ≡ cond (eqb y 1) (not (eqb d 1)) (eqb d 1))
    (two_cases (λ (x : ℕ). eqb (bit_xor x 0) 1 ≡ cond (eqb 0 1) (not (eqb x 1)) (eqb x 1)) refl refl d hd)
    (two_cases (λ (x : ℕ). eqb (bit_xor x 1) 1 ≡ cond (eqb 1 1) (not (eqb x 1)) (eqb x 1)) refl refl d hd)
    e
    he

pub bit_and_lem : (a b k : ℕ) → bit (bit_and a b) k ≡ (bit a k && bit b k)
unfolding bit
bit_and_lem a b k =
    ap (λ (y : ℕ). eqb (y % 2) 1) (and_shr a b k) ∙ ap (λ (y : ℕ). eqb y 1) (and_mod (a / 2 ^ k) (b / 2 ^ k) 1)
    ∙ digit_and (a / 2 ^ k % 2) (b / 2 ^ k % 2) (mod-lt (a / 2 ^ k) (zero-lt-suc 1)) (mod-lt (b / 2 ^ k) (zero-lt-suc 1))

pub bit_or_lem : (a b k : ℕ) → bit (bit_or a b) k ≡ cond (bit b k) true (bit a k)
unfolding bit
bit_or_lem a b k =
    ap (λ (y : ℕ). eqb (y % 2) 1) (or_shr a b k) ∙ ap (λ (y : ℕ). eqb y 1) (or_mod (a / 2 ^ k) (b / 2 ^ k) 1)
    ∙ digit_or (a / 2 ^ k % 2) (b / 2 ^ k % 2) (mod-lt (a / 2 ^ k) (zero-lt-suc 1)) (mod-lt (b / 2 ^ k) (zero-lt-suc 1))

pub bit_xor_lem : (a b k : ℕ) → bit (bit_xor a b) k ≡ cond (bit b k) (not (bit a k)) (bit a k)
unfolding bit
bit_xor_lem a b k =
    ap (λ (y : ℕ). eqb (y % 2) 1) (xor_shr a b k) ∙ ap (λ (y : ℕ). eqb y 1) (xor_mod (a / 2 ^ k) (b / 2 ^ k) 1)
    ∙ digit_xor (a / 2 ^ k % 2) (b / 2 ^ k % 2) (mod-lt (a / 2 ^ k) (zero-lt-suc 1)) (mod-lt (b / 2 ^ k) (zero-lt-suc 1))

-- ---- one bit set, and none

pub bit-none : (k : ℕ) → bit 0 k ≡ false
bit-none zero = bit_zero 0
bit-none (suc k) = bit_suc 0 k ∙ bit-none k

pub bit_power : (k j : ℕ) → bit (1 * 2 ^ k) j ≡ eqb j k
bit_power zero zero = bit_zero 1
bit_power zero (suc j) = bit_suc 1 j ∙ bit-none j ∙ sym (eqb-suc-zero j)
bit_power (suc k) zero = bit_zero (1 * 2 ^ suc k) ∙ ap (λ (y : ℕ). eqb y 1) (shifted_even 1 k) ∙ sym (eqb-zero-suc k)
bit_power (suc k) (suc j) =
    bit_suc (1 * 2 ^ suc k) j ∙ ap (λ (y : ℕ). bit y j) (shifted_half 1 k) ∙ bit_power k j ∙ sym (eqb-suc-suc j k)

-- `1 << k`
shifted : (k : ℕ) → k < 64 → 1 * 2 ^ k % 18446744073709551616 ≡ 1 * 2 ^ k
shifted k h = shl_exact {a = 1} 1 k 64 (lit< tt) (omega arith)

-- `x | (1 << k)`
pub or_sets : (x k : ℕ) → k < 64 → PutBit true x k (bit_or x (1 * 2 ^ k % 18446744073709551616))
unfolding PutBit
or_sets x k h j l =
    ap (λ (y : ℕ). bit (bit_or x y) j) (shifted k h) ∙ bit_or_lem x (1 * 2 ^ k) j ∙ ap (λ (b : Bool). cond b true (bit x j)) (bit_power k j)

-- `x ^ (1 << k)`
pub xor_clears : (x k : ℕ) → k < 64 → bit x k ≡ true → PutBit false x k (bit_xor x (1 * 2 ^ k % 18446744073709551616))
unfolding PutBit
xor_clears x k h t j l =
    ap (λ (y : ℕ). bit (bit_xor x y) j) (shifted k h) ∙ bit_xor_lem x (1 * 2 ^ k) j ∙ ap (λ (b : Bool). cond b (not (bit x j)) (bit x j)) (bit_power k j) ∙ go (either (eqb j k))
  where
    go : (eqb j k ≡ true) ⊎ (eqb j k ≡ false) → cond (eqb j k) (not (bit x j)) (bit x j) ≡ cond (eqb j k) false (bit x j)
    go (inl e) = let on : bit x j ≡ true = ap (bit x) (eqb-true j k e) ∙ t in rw (e, on)
    go (inr e) = rw e

half_lt : {x : ℕ} (d : ℕ) → x < 2 ^ suc d → x / 2 < 2 ^ d
half_lt {x} d h = (div-lt_iff_lt-mul (zero-lt-suc 1)).1 (subst (λ (y : ℕ). x < y) (pow-suc 2 d) h)

-- a word with no bit set is 0
pub no_bits : (d x : ℕ) → x < 2 ^ d → ((k : ℕ) → k < d → bit x k ≡ false) → x ≡ 0
no_bits zero x h off = lt-one h
no_bits (suc d) x h off =
    let half : x / 2 ≡ 0 = no_bits d (x / 2) (half_lt d h) (λ k l. sym (bit_suc x k) ∙ off (suc k) (omega arith)) in
    let odd : x % 2 ≡ 1 → ⊥ = eqb-false (x % 2) 1 (sym (bit_zero x) ∙ off 0 (omega arith)) in
    let low : x % 2 < 2 = mod-lt x (zero-lt-suc 1) in
    let all : x / 2 * 2 + x % 2 ≡ x = div-add-mod' x 2 in
    omega arith

-- the count of ones is the count of the bits that are set
pub ones_bits : (d x : ℕ) → x < 2 ^ d → length (keep (numbers d 0) (bit x)) ≡ ones x
unfolding numbers keep ones
ones_bits zero x h = ap ones (sym (lt-one h))
ones_bits (suc d) x h =
    let rest : length (keep (numbers d 1) (bit x)) ≡ ones (x / 2) =
    length_shift (bit x) d 0 ∙ ap length (keep_ext (λ k. bit x (suc k)) (bit (x / 2)) (numbers d 0) (λ k _. bit_suc x k)) ∙ ones_bits d (x / 2) (half_lt d h)
    in
    ap (λ (b : Bool). length (cond b (0 ∷ keep (numbers d 1) (bit x)) (keep (numbers d 1) (bit x)))) (bit_zero x) ∙ go (x % 2) (mod-lt x (zero-lt-suc 1)) rest ∙ sym (ones_step x)
  where
    go : (e : ℕ) → e < 2 → length (keep (numbers d 1) (bit x)) ≡ ones (x / 2)
        → length (cond (eqb e 1) (0 ∷ keep (numbers d 1) (bit x)) (keep (numbers d 1) (bit x))) ≡ e + ones (x / 2)
    go zero l r = omega arith
    go (suc zero) l r = omega arith
    go (suc (suc e)) l r = absurd (omega arith)

pub ones_are : (x : ℕ) → x < 2 ^ 64 → ones x ≡ length (ones_of x)
unfolding ones_of
ones_are x h = sym (ones_bits 64 x h)

-- two words have a bit in common if their `&` is not 0
pub meet_is : (x y : ℕ) → x < 2 ^ 64 → not (eqb (bit_and x y) 0) ≡ meets x y
unfolding meets
meet_is x y h = go (either (meets x y))
  where
    common : ℕ → Bool
    common k = bit x k && bit y k

    go : (meets x y ≡ true) ⊎ (meets x y ≡ false) → not (eqb (bit_and x y) 0) ≡ meets x y
    go (inl t) =
        let r = any_in common (numbers 64 0) t in
        let ne : bit_and x y ≡ 0 → ⊥ = λ e. never (bit (bit_and x y) r.0) (bit_and_lem x y r.0 ∙ r.2) (ap (λ (z : ℕ). bit z r.0) e ∙ bit-none r.0) in
        ap not (ne_eqb (bit_and x y) 0 ne) ∙ sym t
    go (inr f) =
        let off : (k : ℕ) → k < 64 → common k ≡ false = λ k l. any_off common (numbers 64 0) f k (in_numbers 64 0 k (omega arith) (omega arith)) in
        let none : bit_and x y ≡ 0 = no_bits 64 (bit_and x y) (lt_of_le_of_lt (and_le_l x y) h) (λ k l. bit_and_lem x y k ∙ off k l) in
        ap not (eq-eqb (bit_and x y) 0 none) ∙ sym f
