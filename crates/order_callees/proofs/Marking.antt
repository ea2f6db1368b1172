-- Marking the callees between two places: what is left from a place on, marked too, is what is there from the start on.
use mathlib.Core.Path.{◌≡◌, refl, sym, ap, ◌∙◌}
use mathlib.Core.Bool.{Bool, true, false, cond, ◌&&◌}
use mathlib.Core.List.{List, [], ◌∷◌}
use Prim.Native.Nat.{ℕ, ◌+◌, ◌≤◌, ◌<◌}
use native.Mathlib.Numerals.{add-one}
use native.Mathlib.Omega.{arith}
use lib.Dec.{eqb}
use lib.ListN.{length, get_or}
use lib.Seq.{slice_empty, slice-cons}
use borrow.Author.Tests.{eq-eqb, ne_eqb}
use Rattle.model.specs.Table.{CALLEE}
use Rattle.model.specs.Carry.{Each, each_next}
use Rattle.model.specs.Calls.{any}
use Rattle.order_ranks.specs.Marks.{marked, SetCall}
use Rattle.order_ranks.specs.declared.FunctionSet.{FunctionSet}
use Rattle.theory_order.specs.Cells.{picks}
use Rattle.order_callees.specs.Gathering.{picked, Marks}

-- words and tags are arrays, and these callees can be marked
pub record Markable (words tags : List ℕ) (at end i : ℕ) (callees : List FunctionSet) : Type 0 where
  pub words_long : length words ≡ 16384
  pub tags_long : length tags ≡ 16384
  pub rising : at ≤ end
  pub within : end ≤ 16384
  pub row : i < 256
  pub long : length callees ≡ 256
  pub known : Each (λ j. j < 256) (picked words tags at end)

-- whether l is among them
abbrev pub among : List ℕ → ℕ → Bool
among js l = any js (λ j. eqb l j)

-- the callees from a place on, of which the first word is one or none
module _ (words tags : List ℕ) (j end : ℕ) (h : j < end) (a : end ≤ length words) (b : end ≤ length tags) where
  picked_next : picked words tags j end ≡ cond (eqb (get_or tags j 0) CALLEE) (get_or words j 0 ∷ picked words tags (j + 1) end) (picked words tags (j + 1) end)
  unfolding picked picks
  picked_next = rw (add-one j, slice-cons j end tags 0 h b, slice-cons j end words 0 h a)

  pub picked-one : get_or tags j 0 ≡ CALLEE → picked words tags j end ≡ get_or words j 0 ∷ picked words tags (j + 1) end
  picked-one e = picked_next ∙ rw (eq-eqb (get_or tags j 0) CALLEE e)

  pub picked_none : (get_or tags j 0 ≡ CALLEE → ⊥) → picked words tags j end ≡ picked words tags (j + 1) end
  picked_none e = picked_next ∙ rw (ne_eqb (get_or tags j 0) CALLEE e)

pub picked-end : (words tags : List ℕ) (end : ℕ) → picked words tags end end ≡ []
unfolding picked picks
picked-end words tags end = rw (slice_empty end tags)

pub record Scanning (words tags : List ℕ) (at end i : ℕ) (before : List FunctionSet) (j : ℕ) (callees : List FunctionSet) : Type 0 where
  pub high : j ≤ end
  pub long : length callees ≡ length before
  pub known : Each (λ x. x < 256) (picked words tags j end)
  pub is : (k l : ℕ) → l < 256 → cond (eqb k i && among (picked words tags j end) l) true (marked callees k l) ≡ cond (eqb k i && among (picked words tags at end) l) true (marked before k l)

pub head_known : {x : ℕ} {xs : List ℕ} → Each (λ x. x < 256) (x ∷ xs) → x < 256
head_known (each_next p ps) = p

pub tail_known : {x : ℕ} {xs : List ℕ} → Each (λ x. x < 256) (x ∷ xs) → Each (λ x. x < 256) xs
tail_known (each_next p ps) = ps

-- marked now or later
later : (k e r m : Bool) → cond (k && r) true (cond (k && e) true m) ≡ cond (k && cond e true r) true m
later false e r m = refl
later true true true m = refl
later true true false m = refl
later true false r m = refl

module _ {words tags : List ℕ} {at end i : ℕ} {before : List FunctionSet} (p : Markable words tags at end i before) where
  pub begin : Scanning words tags at end i before at before
  begin = record { high = p.rising; long = refl; known = p.known; is = λ k l h. refl }

  module _ {j : ℕ} {callees : List FunctionSet} (s : Scanning words tags at end i before j callees) where
    pub finish : end ≤ j → Marks before i (picked words tags at end) callees
    unfolding any
    finish h =
        let q : j ≡ end = omega (arith, s.high) in
        let e : picked words tags j end ≡ [] = rw q (picked-end words tags end) in
        record { long = s.long; is = λ k l b. sym (ap (λ x. cond x true (marked callees k l)) (ap (λ x. eqb k i && among x l) e ∙ none (eqb k i))) ∙ s.is k l b }
      where
        none : (x : Bool) → (x && false) ≡ false
        none true = refl
        none false = refl

    module _ (h : j < end) where
      a : end ≤ length words
      a = omega (arith, p.within, p.words_long)

      b : end ≤ length tags
      b = omega (arith, p.within, p.tags_long)

      pub may : get_or tags j 0 ≡ CALLEE → {w : ℕ} → w ≡ get_or words j 0 → w < 256
      may e f = rw f (head_known (rw (picked-one words tags j end h a b e) at s.known))

      pub again : get_or tags j 0 ≡ CALLEE → {w : ℕ} {after : List FunctionSet} → w ≡ get_or words j 0 → SetCall callees i w after → Scanning words tags at end i before (j + 1) after
      unfolding any
      again e {w} {after} f m =
          let q = picked-one words tags j end h a b e in
          record {
            high = omega arith;
            long = m.long ∙ s.long;
            known = tail_known (rw q at s.known);
            is = λ k l c.
                ap (cond (eqb k i && among (picked words tags (j + 1) end) l) true) (m.is k l c)
                ∙ later (eqb k i) (eqb l w) (among (picked words tags (j + 1) end) l) (marked callees k l)
                ∙ ap (λ x. cond (eqb k i && cond (eqb l x) true (among (picked words tags (j + 1) end) l)) true (marked callees k l)) f
                ∙ sym (ap (λ x. cond (eqb k i && among x l) true (marked callees k l)) q)
                ∙ s.is k l c;
          }

      pub pass : (get_or tags j 0 ≡ CALLEE → ⊥) → Scanning words tags at end i before (j + 1) callees
      pass e =
          let q = picked_none words tags j end h a b e in
          record {
            high = omega arith;
            long = s.long;
            known = rw q at s.known;
            is = λ k l c. sym (ap (λ x. cond (eqb k i && among x l) true (marked callees k l)) q) ∙ s.is k l c;
          }
