-- Sets of marks: what a word with one more bit does to its set, what a meeting of two words says of two sets, and the count of a set.
use mathlib.Core.Path.{◌≡◌, refl, sym, ap, ap₂, ◌∙◌}
use mathlib.Core.Bool.{Bool, true, false, cond, ◌&&◌, ◌||◌}
use mathlib.Core.Logic.{◌⊎◌, inl, inr, ⊎_elim}
use mathlib.Core.List.{List, [], ◌∷◌, ◌++◌, append-nil}
use Prim.Native.Nat.{ℕ, zero, suc, ◌+◌, ◌-◌, ◌*◌, ◌/◌, ◌%◌, ◌≤◌, ◌<◌}
use native.Mathlib.Nat.{mod-lt, div-add-mod', zero-lt-suc, zero-add, suc-add, div-lt_iff_lt-mul}
use native.Mathlib.Numerals.{add-one}
use native.Mathlib.Omega.{arith}
use lib.Dec.{eqb}
use lib.Arith.{digits_div, digits_mod}
use lib.ListN.{length, get_or, set, replicate, length-append, length-set, length-replicate}
use lib.Seq.{get_or-set_same, get_or-set_other}
use borrow.Author.Tests.{eqb-true, eqb-false, eq-eqb, lt-ltb, le-ltb}
use Rattle.std.specs.List.{list_any, sum_by, range_with_len, zip}
use Rattle.theory_lists.specs.Lists.{zeros}
use Rattle.theory_lists.specs.Booleans.{and-true, and_first, and_second, bool_same, never, either}
use Rattle.model.specs.Calls.{In, numbers, any, keep}
use Rattle.order_ranks.specs.declared.FunctionSet.{FunctionSet}
use Rattle.order_ranks.specs.Marks.{bit, ones_of, meets, holds, members, marked, PutBit, PutMark, SetCall, NoCalls, Firsts, Below}
use Rattle.theory_order.specs.Lists.{numbers_in, in_numbers, numbers-append, keep_in, in_keep, keep_append, keep-none, keep_all_lem, keep_ext, any_in, in_any, any_off, not_any, length_shift}
use Rattle.order_ranks.proofs.Bits.{bit-none}

-- ---- the word and the bit of a mark

pub word_of_lem : (w k : ℕ) → k < 64 → (w * 64 + k) / 64 ≡ w
word_of_lem w k h = digits_div w h

pub bit_of : (w k : ℕ) → k < 64 → (w * 64 + k) % 64 ≡ k
bit_of w k h = digits_mod w h

pub low_word : (k : ℕ) → k < 256 → k / 64 < 4
low_word k h = (div-lt_iff_lt-mul {k = 64} {x = k} {y = 4} (zero-lt-suc 63)).1 h

pub low_bit : (k : ℕ) → k % 64 < 64
low_bit k = mod-lt k (zero-lt-suc 63)

-- ---- one more mark

-- bit b of word w is put to x: that bit of that word is x, and all else stays
one-put : (x : Bool) (l : List ℕ) (w b y v c : ℕ) → w < length l → PutBit x (get_or l w 0) b y → c < 64
    → bit (get_or (set l w y) v 0) c ≡ cond (eqb v w && eqb c b) x (bit (get_or l v 0) c)
unfolding PutBit
one-put x l w b y v c hw s hc = go (either (eqb v w))
  where
    go : (eqb v w ≡ true) ⊎ (eqb v w ≡ false) → bit (get_or (set l w y) v 0) c ≡ cond (eqb v w && eqb c b) x (bit (get_or l v 0) c)
    go (inl t) = rw (t, eqb-true v w t, get_or-set_same l w y 0 hw) (s c hc)
    go (inr f) = rw (f, get_or-set_other l w v y 0 (eqb-false v w f))

-- a mark is one by its word and its bit
mark-test : (j k : ℕ) → (eqb (j / 64) (k / 64) && eqb (j % 64) (k % 64)) ≡ eqb j k
mark-test j k =
    let dj = div-add-mod' j 64 in
    let dk = div-add-mod' k 64 in
    bool_same _ _
    (λ t.
    let p : j / 64 ≡ k / 64 = eqb-true _ _ (and_first _ (eqb (j % 64) (k % 64)) t) in
    let q : j % 64 ≡ k % 64 = eqb-true _ _ (and_second (eqb (j / 64) (k / 64)) _ t) in
    eq-eqb j k (omega arith))
    (λ t.
    let p : j ≡ k = eqb-true j k t in
    and-true (eq-eqb _ _ (ap (λ (x : ℕ). x / 64) p)) (eq-eqb _ _ (ap (λ (x : ℕ). x % 64) p)))

mark-put : (x : Bool) (l : List ℕ) (k y : ℕ) → length l ≡ 4 → k < 256 → PutBit x (get_or l (k / 64) 0) (k % 64) y
    → (j : ℕ) → j < 256 → holds (set l (k / 64) y) j ≡ cond (eqb j k) x (holds l j)
unfolding holds
mark-put x l k y long h s j hj =
    let hw : k / 64 < length l = rw long (low_word k h) in
    one-put x l (k / 64) (k % 64) y (j / 64) (j % 64) hw s (low_bit j) ∙ ap (λ (b : Bool). cond b x (bit (get_or l (j / 64) 0) (j % 64))) (mark-test j k)

pub puts : (x : Bool) (l : List ℕ) (k y : ℕ) → length l ≡ 4 → k < 256 → PutBit x (get_or l (k / 64) 0) (k % 64) y → PutMark x l k (set l (k / 64) y)
puts x l k y long h s = record { long = length-set l (k / 64) y; is = mark-put x l k y long h s }

-- function i calls one function more
pub calls_too : (cs : List FunctionSet) (i j : ℕ) (s : FunctionSet) → i < length cs → PutMark true (get_or cs i (record { 0 = [] })).0 j s.0 → SetCall cs i j (set cs i s)
unfolding marked
calls_too cs i j s h p = record { long = length-set cs i s; is = λ k l b. go k l b (either (eqb k i)) }
  where
    go : (k l : ℕ) → l < 256 → (eqb k i ≡ true) ⊎ (eqb k i ≡ false) → marked (set cs i s) k l ≡ cond (eqb k i && eqb l j) true (marked cs k l)
    go k l b (inl t) = rw (t, eqb-true k i t, get_or-set_same cs i s (record { 0 = [] }) h) (p.is l b)
    go k l b (inr f) = rw (f, get_or-set_other cs i k s (record { 0 = [] }) (eqb-false k i f))

-- ---- no marks

pub zeros_hold_none : (k j : ℕ) → holds (replicate k 0) j ≡ false
unfolding holds
zeros_hold_none k j = rw (zeros k (j / 64)) (bit-none (j % 64))

zeros_unmarked : (n i j : ℕ) → marked (replicate n (record { 0 = replicate 4 0 })) i j ≡ false
unfolding marked holds
zeros_unmarked zero i j = bit-none (j % 64)
zeros_unmarked (suc n) zero j = zeros_hold_none 4 j
zeros_unmarked (suc n) (suc i) j = zeros_unmarked n i j

pub zeros_call_none : NoCalls (replicate 256 (record { 0 = replicate 4 0 }))
zeros_call_none = record { long = length-replicate {A = FunctionSet} 256 (record { 0 = replicate 4 0 }); is = zeros_unmarked 256 }

-- ---- the members

pub in_members : (l : List ℕ) (k : ℕ) → k < 256 → holds l k ≡ true → In k (members l)
unfolding members
in_members l k h t = in_keep (holds l) (in_numbers 256 0 k (omega arith) (omega arith)) t

pub members_in : (l : List ℕ) (k : ℕ) → In k (members l) → (k < 256) × (holds l k ≡ true)
unfolding members
members_in l k h =
    let r = keep_in (holds l) (numbers 256 0) h in
    let b = numbers_in 256 0 r.0 in
    (omega arith, r.1)

-- with no mark from n on, the members are those below n
pub members-below : (l : List ℕ) (n : ℕ) → n ≤ 256 → Below n l → members l ≡ keep (numbers n 0) (holds l)
unfolding members Below
members-below l n h b =
    let e : n + (256 - n) ≡ 256 = omega arith in
    ap (λ (m : ℕ). keep (numbers m 0) (holds l)) (sym e)
    ∙ ap (λ (is : List ℕ). keep is (holds l)) (numbers-append n (256 - n) 0)
    ∙ keep_append (holds l) (numbers n 0) (numbers (256 - n) (0 + n))
    ∙ ap (λ (is : List ℕ). keep (numbers n 0) (holds l) ++ is) (keep-none (holds l) (numbers (256 - n) (0 + n)) (λ i g.
    let r = numbers_in (256 - n) (0 + n) g in
    b i (omega arith) (omega arith)))
    ∙ append-nil (keep (numbers n 0) (holds l))

pub firsts-below : (l : List ℕ) (n : ℕ) → Firsts n l → Below n l
unfolding Below
firsts-below l n f k h g = f.is k g ∙ le-ltb k n h

pub firsts-members : (l : List ℕ) (n : ℕ) → n ≤ 256 → Firsts n l → members l ≡ numbers n 0
firsts-members l n h f =
    members-below l n h (firsts-below l n f)
    ∙ keep_all_lem (holds l) (numbers n 0) (λ i g.
    let r = numbers_in n 0 g in
    f.is i (omega arith) ∙ lt-ltb i n (omega arith))

-- ---- two sets meet

-- one number of a range, in the words of the library and of the model
one_of : (p : ℕ → Bool) (d j : ℕ) → list_any p (range_with_len j d) ≡ any (numbers d j) p
unfolding any numbers
one_of p zero j = refl
one_of p (suc d) j = rw add-one (go (p j) (one_of p d (suc j)))
  where
    go : (b : Bool) → list_any p (range_with_len (suc j) d) ≡ any (numbers d (suc j)) p → b || list_any p (range_with_len (suc j) d) ≡ cond b true (any (numbers d (suc j)) p)
    go true e = refl
    go false e = e

module _ (cs ws : List ℕ) where
  -- word w of the one meets word w of the other
  pub meet_calls : (w : ℕ) → w < 4 → meets (get_or cs w 0) (get_or ws w 0) ≡ true → any (members ws) (holds cs) ≡ true
  unfolding meets holds
  meet_calls w h t =
      let a : ℕ = get_or cs w 0 in
      let b : ℕ = get_or ws w 0 in
      let s = any_in (λ k. bit a k && bit b k) (numbers 64 0) t in
      let k : ℕ = s.0 in
      let r = numbers_in 64 0 s.1 in
      let l : k < 64 = omega arith in
      in_any (holds cs) {i = w * 64 + k}
      (in_members ws (w * 64 + k) (omega arith) (rw (word_of_lem w k l, bit_of w k l) (and_second (bit a k) (bit b k) s.2)))
      (rw (word_of_lem w k l, bit_of w k l) (and_first (bit a k) (bit b k) s.2))

  -- no word does
  pub apart-calls : ((w : ℕ) → w < 4 → meets (get_or cs w 0) (get_or ws w 0) ≡ false) → any (members ws) (holds cs) ≡ false
  unfolding meets holds
  apart-calls apart =
      not_any (holds cs) (members ws) (λ k g.
      let r = members_in ws k g in
      let w : ℕ = k / 64 in
      let e : (bit (get_or cs w 0) (k % 64) && bit (get_or ws w 0) (k % 64)) ≡ false =
      any_off (λ m. bit (get_or cs w 0) m && bit (get_or ws w 0) m) (numbers 64 0) (apart w (low_word k r.0))
      (k % 64) (in_numbers 64 0 (k % 64) (omega arith) (low_bit k))
      in
      ⊎_elim
      (λ (t : holds cs k ≡ true). absurd (never _ (and-true t r.1) e))
      (λ f. f)
      (either (holds cs k)))

  -- the sets meet if one of the words has a bit in common
  pub words_meet : list_any (λ w. meets (get_or cs w 0) (get_or ws w 0)) (range_with_len 0 4) ≡ any (members ws) (holds cs)
  words_meet = one_of m 4 0 ∙ go (either (any (numbers 4 0) m))
    where
      m : ℕ → Bool
      m w = meets (get_or cs w 0) (get_or ws w 0)

      go : (any (numbers 4 0) m ≡ true) ⊎ (any (numbers 4 0) m ≡ false) → any (numbers 4 0) m ≡ any (members ws) (holds cs)
      go (inl t) =
          let s = any_in m (numbers 4 0) t in
          let r = numbers_in 4 0 s.1 in
          let l : s.0 < 4 = omega arith in
          t ∙ sym (meet_calls s.0 l s.2)
      go (inr f) = f ∙ sym (apart-calls (λ w h. any_off m (numbers 4 0) f w (in_numbers 4 0 w (omega arith) h)))

-- whether function i calls one of a set
pub calls_one_of : (cs : List FunctionSet) (i : ℕ) (ws : List ℕ) → any (members ws) (holds (get_or cs i (record { 0 = [] })).0) ≡ any (members ws) (marked cs i)
unfolding marked
calls_one_of cs i ws = refl

-- ---- the count of a set

shift_by : (a k : ℕ) (p : ℕ → Bool) → length (keep (numbers k a) p) ≡ length (keep (numbers k 0) (λ i. p (a + i)))
shift_by zero k p = ap length (keep_ext p (λ i. p (0 + i)) (numbers k 0) (λ i g. ap p (sym (zero-add i))))
shift_by (suc a) k p =
    length_shift p k a ∙ shift_by a k (λ i. p (suc i))
    ∙ ap length (keep_ext (λ i. p (suc (a + i))) (λ i. p (suc a + i)) (numbers k 0) (λ i g. ap p (sym (suc-add a i))))

-- the marks of word w
word-marks : (l : List ℕ) (w : ℕ) → length (keep (numbers 64 (w * 64)) (holds l)) ≡ length (ones_of (get_or l w 0))
unfolding holds ones_of
word-marks l w =
    shift_by (w * 64) 64 (holds l)
    ∙ ap length (keep_ext (λ k. holds l (w * 64 + k)) (bit (get_or l w 0)) (numbers 64 0) (λ k g.
    let r = numbers_in 64 0 g in
    let s : k < 64 = omega arith in
    rw (word_of_lem w k s, bit_of w k s)))

cut : (p : ℕ → Bool) (m a : ℕ) → length (keep (numbers (64 + m) a) p) ≡ length (keep (numbers 64 a) p) + length (keep (numbers m (a + 64)) p)
cut p m a =
    ap (λ (is : List ℕ). length (keep is p)) (numbers-append 64 m a) ∙ ap length (keep_append p (numbers 64 a) (numbers m (a + 64)))
    ∙ length-append (keep (numbers 64 a) p) (keep (numbers m (a + 64)) p)

pub counts : (l : List ℕ) → sum_by (λ w. length (ones_of (get_or l w 0))) (range_with_len 0 4) ≡ length (members l)
unfolding members
counts l =
    let x = cut (holds l) 192 0 in
    let y = cut (holds l) 128 64 in
    let z = cut (holds l) 64 128 in
    let w0 = word-marks l 0 in
    let w1 = word-marks l 1 in
    let w2 = word-marks l 2 in
    let w3 = word-marks l 3 in
    omega arith

-- ---- word by word, of a set's four words
pub count_each : (l : List ℕ) → length l ≡ 4 → sum_by (λ w. length (ones_of w)) l ≡ sum_by (λ w. length (ones_of (get_or l w 0))) (range_with_len 0 4)
count_each (a ∷ b ∷ c ∷ d ∷ []) h = refl
count_each [] h = absurd (omega arith)
count_each (a ∷ []) h = absurd (omega arith)
count_each (a ∷ b ∷ []) h = absurd (omega arith)
count_each (a ∷ b ∷ c ∷ []) h = absurd (omega arith)
count_each (a ∷ b ∷ c ∷ d ∷ e ∷ l) h = absurd (omega arith)

word_of_four : (l : List ℕ) → length l ≡ 4 → l ≡ get_or l 0 0 ∷ get_or l 1 0 ∷ get_or l 2 0 ∷ get_or l 3 0 ∷ []
word_of_four (a ∷ b ∷ c ∷ d ∷ []) h = refl
word_of_four [] h = absurd (omega arith)
word_of_four (a ∷ []) h = absurd (omega arith)
word_of_four (a ∷ b ∷ []) h = absurd (omega arith)
word_of_four (a ∷ b ∷ c ∷ []) h = absurd (omega arith)
word_of_four (a ∷ b ∷ c ∷ d ∷ e ∷ l) h = absurd (omega arith)

pub meet_each : (l k : List ℕ) → length l ≡ 4 → length k ≡ 4 → list_any (λ p. meets p.0 p.1) (zip l k) ≡ list_any (λ w. meets (get_or l w 0) (get_or k w 0)) (range_with_len 0 4)
meet_each l k g h = ap₂ (λ x y. list_any (λ p. meets p.0 p.1) (zip x y)) (word_of_four l g) (word_of_four k h)
