-- Single bytes of words, digits of numbers, and runs of bytes put one after the other.
use mathlib.Core.Path.{◌≡◌, refl, sym, ap, ◌∙◌}
use mathlib.Core.List.{List, [], ◌∷◌, ◌++◌, append-nil}
use Prim.Native.Nat.{ℕ, zero, suc, ◌+◌, ◌*◌, ◌-◌, ◌/◌, ◌%◌, ◌≤◌, ◌<◌}
use native.Mathlib.Nat.{div-add-mod', mod-lt, zero-lt-suc}
use native.Mathlib.Numerals.{add-one}
use native.Mathlib.Omega.{arith}
use mathlib.Core.Bool.{Bool, true, false, cond}
use mir.Val.{bool_byte}
use lib.Dec.{ltb}
use lib.ListN.{length, get_or, take, drop, set, length-append, length-drop, length-set}
use lib.Seq.{sets, drop-cons, drop-length, get_or-take, get_or-drop, length-take-le, length-sets}
use borrow.Author.Tests.{ltb-true, ltb-false}
use Rattle.std.proofs.lemmas.List.Edits.{sets-eq}
use Rattle.base_words.specs.Words.{bytes_of}
use borrow.Rule.Slice.PartMut.{put_mid, mid_of}
use Rattle.base_words.proofs.Laws.{length_bytes_of}
use Rattle.base_words.proofs.Loops.{put}
use Rattle.order_lines.specs.Lines.{decimal, text_at, TextEnsures, Room}

-- ---- one byte: byte s of a word
first : (w : ℕ) (ws : List ℕ) (s : ℕ) → s < 4 → get_or (bytes_of (w ∷ ws)) s 0 ≡ get_or (bytes_of (w ∷ [])) s 0
unfolding bytes_of
first w ws zero h = refl
first w ws (suc zero) h = refl
first w ws (suc (suc zero)) h = refl
first w ws (suc (suc (suc zero))) h = refl
first w ws (suc (suc (suc (suc s)))) h = absurd (omega arith)

byte_of : (ws : List ℕ) (q k s : ℕ) → k ≡ 4 * q + s → s < 4 → q < length ws → get_or (bytes_of ws) k 0 ≡ get_or (bytes_of (get_or ws q 0 ∷ [])) s 0
unfolding bytes_of
byte_of [] q k s e h i = absurd (omega arith)
byte_of (w ∷ ws) zero k s e h i = let x : k ≡ s = omega arith in rw x (first w ws s h)
byte_of (w ∷ ws) (suc q) zero s e h i = absurd (omega arith)
byte_of (w ∷ ws) (suc q) (suc zero) s e h i = absurd (omega arith)
byte_of (w ∷ ws) (suc q) (suc (suc zero)) s e h i = absurd (omega arith)
byte_of (w ∷ ws) (suc q) (suc (suc (suc zero))) s e h i = absurd (omega arith)
byte_of (w ∷ ws) (suc q) (suc (suc (suc (suc k)))) s e h i = byte_of ws q k s (omega arith) h (omega arith)

pub byte_is : (ws : List ℕ) (at k : ℕ) → length ws ≡ 16384 → at + k / 4 < 16384 → get_or (bytes_of (get_or ws (at + k / 4) 0 ∷ [])) (k % 4) 0 ≡ get_or (bytes_of (drop at ws)) k 0
byte_is ws at k l h =
    let d : k / 4 * 4 + k % 4 ≡ k = div-add-mod' k 4 in
    let m : k % 4 < 4 = mod-lt k (zero-lt-suc 3) in
    sym (byte_of (drop at ws) (k / 4) k (k % 4) (omega arith) m (rw (length-drop at ws) (omega arith)) ∙ ap (λ w. get_or (bytes_of (w ∷ [])) (k % 4) 0) (get_or-drop at ws (k / 4) 0))

-- ---- runs
pub sets-append : (xs l : List ℕ) (i : ℕ) (ys : List ℕ) → sets (sets l i xs) (i + length xs) ys ≡ sets l i (xs ++ ys)
sets-append [] l i ys = let z : i + 0 ≡ i = omega arith in ap (λ j. sets l j ys) z
sets-append (x ∷ xs) l i ys = let z : i + suc (length xs) ≡ suc i + length xs = omega arith in ap (λ j. sets (sets (set l i x) (suc i) xs) j ys) z ∙ sets-append xs (set l i x) (suc i) ys

pub puts_both : {out xs mid ys out' : List ℕ} {at j r : ℕ} → TextEnsures out at xs mid j → TextEnsures mid j ys out' r → TextEnsures out at (xs ++ ys) out' r
puts_both {out} {xs} {mid} {ys} {out'} {at} {j} {r} p q =
    record {
      is = q.is ∙ ap (λ l. sets l j ys) p.is ∙ ap (λ x. sets (sets out at xs) x ys) p.ends ∙ sets-append xs out at ys;
      ends = omega (arith, p.ends, q.ends, length-append xs ys);
    }

pub puts_long : {out xs out' : List ℕ} {at r : ℕ} → TextEnsures out at xs out' r → length out' ≡ length out
puts_long {out} {xs} {out'} {at} p = ap length p.is ∙ length-sets out at xs

-- ---- a number
pub digits_of : (x : ℕ) → x < 1000 → {a b c i j : ℕ} → a ≡ 48 + x / 100 → b ≡ 48 + x / 10 % 10 → c ≡ 48 + x % 10 → i ≡ bool_byte (ltb x 10) → j ≡ bool_byte (ltb x 100) → take (3 - (i + j)) (drop (i + j) (a ∷ b ∷ c ∷ [])) ≡ decimal x
unfolding decimal
digits_of x few ea eb ec ei ej = rw (ea, eb, ec, ei, ej) (go (ltb x 10) (ltb x 100) (ltb-true x 10) (ltb-false x 10) (ltb-true x 100) (ltb-false x 100))
  where
    go : (p q : Bool) → (p ≡ true → x < 10) → (p ≡ false → 10 ≤ x) → (q ≡ true → x < 100) → (q ≡ false → 100 ≤ x) → take (3 - (bool_byte p + bool_byte q)) (drop (bool_byte p + bool_byte q) ((48 + x / 100) ∷ (48 + x / 10 % 10) ∷ (48 + x % 10) ∷ [])) ≡ cond p ((48 + x) ∷ []) (cond q ((48 + x / 10) ∷ (48 + x % 10) ∷ []) ((48 + x / 100) ∷ (48 + x / 10 % 10) ∷ (48 + x % 10) ∷ []))
    go true true f g h k = let small : x < 10 = f refl in let e : x % 10 ≡ x = omega arith in ap (λ d. (48 + d) ∷ []) e
    go true false f g h k = absurd (omega (arith, f refl, k refl))
    go false true f g h k = let small : x < 100 = h refl in let e : x / 10 % 10 ≡ x / 10 = omega arith in ap (λ d. (48 + d) ∷ (48 + x % 10) ∷ []) e
    go false false f g h k = refl

-- ---- bytes that are copied
pub puts_at : (out part text : List ℕ) (at end : ℕ) → end ≡ at + length text → part ≡ text → end ≤ length out → TextEnsures out at text (put_mid at (end - at) out part) end
puts_at out part text at end e is fits = record { is = put at (end - at) out part text is (omega arith) (omega arith); ends = e }

-- how long a name is
pub text_long : (words : List ℕ) (p : ℕ) → length words ≡ 16384 → p < 16384 → get_or words p 0 ≤ 4 * (16383 - p) → length (text_at words p) ≡ get_or words p 0
unfolding text_at
text_long words p l h k = length-take-le (get_or words p 0) (bytes_of (drop (p + 1) words)) (rw (length_bytes_of (drop (p + 1) words), length-drop (p + 1) words) (omega arith))

-- ---- putting bytes one at a time into a part as long as the text: what is left of the text, put too, is the whole
pub record Putting (text : List ℕ) (k : ℕ) (now : List ℕ) : Type 0 where
  pub high : k ≤ length text
  pub long : length now ≡ length text
  pub is : sets now k (drop k text) ≡ text

begin : (text out : List ℕ) → length out ≡ length text → Putting text 0 out
begin text out l =
    let z : 0 + length text ≡ length out = omega arith in
    record {
      high = omega arith;
      long = l;
      is = sets-eq text out 0 (omega arith) ∙ ap (text ++◌) (ap (λ n. drop n out) z ∙ drop-length out) ∙ append-nil text;
    }

module _ {text : List ℕ} {k : ℕ} {now : List ℕ} (s : Putting text k now) where
  again : k < length text → {b : ℕ} → b ≡ get_or text k 0 → Putting text (k + 1) (set now k b)
  again h {b} e =
      let d : drop k text ≡ b ∷ drop (suc k) text = drop-cons text k 0 h ∙ ap (◌∷ drop (suc k) text) (sym e) in
      record { high = omega arith; long = length-set now k b ∙ s.long; is = rw (add-one k) (sym (ap (sets now k) d) ∙ s.is) }

  finish : length text ≤ k → now ≡ text
  finish h =
      let f : k ≡ length text = omega (arith, s.high) in
      sym (ap (sets now k) (ap (λ j. drop j text) f ∙ drop-length text)) ∙ s.is

-- ---- a name
module _ {words : List ℕ} {p at : ℕ} (q : Room words p at) where
  pub name_long : length (text_at words p) ≡ get_or words p 0
  name_long = text_long words p q.words_long q.here q.within

  pub name_begin : (out : List ℕ) → length out ≡ 65536 → Putting (text_at words p) 0 (mid_of at (at + get_or words p 0 - at) out)
  name_begin out l =
      let e : length (mid_of at (at + get_or words p 0 - at) out) ≡ at + get_or words p 0 - at = length-take-le _ (drop at out) (omega (arith, length-drop at out, q.fits)) in
      begin _ _ (omega (arith, e, name_long))

  module _ {k : ℕ} {now : List ℕ} (s : Putting (text_at words p) k now) where
    pub inside : k < get_or words p 0 → p + 1 + k / 4 < 16384
    inside h =
        let d : k / 4 * 4 + k % 4 ≡ k = div-add-mod' k 4 in
        omega (arith, q.within, q.here)

    pub name_again : k < get_or words p 0 → {b : ℕ} → b ≡ get_or (bytes_of (drop (p + 1) words)) k 0 → Putting (text_at words p) (k + 1) (set now k b)
    unfolding text_at
    name_again h e = again s (omega (arith, name_long)) (e ∙ sym (get_or-take (get_or words p 0) (bytes_of (drop (p + 1) words)) k 0 h))

    pub name_finish : get_or words p 0 ≤ k → now ≡ text_at words p
    name_finish h = finish s (omega (arith, name_long))
