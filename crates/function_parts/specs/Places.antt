-- Cells by the places of their words: what holds of each cell of a run holds of the class and the word at each place, and what test 3 says of cells it says of places.
use Rattle.std.specs.Prelude.{◌≡◌, refl, true, List, [], ◌∷◌, ℕ, zero, suc, ◌+◌, ◌-◌, ◌≤◌, ◌<◌, length, get_or}
use Rattle.std.proofs.Common.{arith, eq-eqb, leb-true}
use Rattle.theory_lists.specs.Booleans.{and_split}
use Rattle.model.specs.Outcome.{Cell, Cells, class, word}
use Rattle.model.specs.Table.{FROM}
use Rattle.model.specs.Carry.{Each}
use Rattle.model.specs.Numbers.{Bounds, bound, below, within, rising, ordered}
use Rattle.theory_image.specs.FunctionViews.{Held, Part as Run, part_end, part-word, part_tag}
use Rattle.theory_image.specs.Members.{each_at}

-- ---- test 3, of a cell
pub within-at : (b : Bounds) (cs : Cells) → within b cs ≡ true → (j : ℕ) → j < length cs → below (bound b (class (get_or cs j (0, 0)))) (word (get_or cs j (0, 0))) ≡ true
unfolding within
within-at b [] h j l = absurd (omega arith)
within-at b (c ∷ cs) h zero l = (and_split (below (bound b (class c)) (word c)) (within b cs) h).0
within-at b (c ∷ cs) h (suc j) l = within-at b cs (and_split (below (bound b (class c)) (word c)) (within b cs) h).1 j (omega arith)

pub ordered_at : (cs : Cells) → ordered cs ≡ true → (j : ℕ) → suc j < length cs → class (get_or cs j (0, 0)) ≡ FROM → word (get_or cs j (0, 0)) ≤ word (get_or cs (suc j) (0, 0))
unfolding ordered rising
ordered_at [] h j l e = absurd (omega arith)
ordered_at (c ∷ []) h j l e = absurd (omega arith)
ordered_at (c ∷ d ∷ cs) h zero l e = let a = and_split (rising c (d ∷ cs)) (ordered (d ∷ cs)) h in leb-true (word c) (word d) (rw (eq-eqb (class c) FROM e, rising) at a.0)
ordered_at (c ∷ d ∷ cs) h (suc j) l e = ordered_at (d ∷ cs) (and_split (rising c (d ∷ cs)) (ordered (d ∷ cs)) h).1 j (omega arith) e

-- ---- a cell by its place
module _ {words tags : List ℕ} {cells cs : Cells} {a b : ℕ} (o : Held words tags cells) (v : Run cells a b cs) (i : ℕ) (low : a ≤ i) (high : i < b) where
  pub place_in : i - a < length cs
  place_in = omega (arith, part_end v)

  at_place : a + (i - a) ≡ i
  at_place = omega arith

  pub place-class : get_or tags i 0 ≡ class (get_or cs (i - a) (0, 0))
  place-class = rw at_place at (part_tag o v (i - a) place_in)

  pub place-word : get_or words i 0 ≡ word (get_or cs (i - a) (0, 0))
  place-word = rw at_place at (part-word o v (i - a) place_in)

  pub place-cell : get_or cs (i - a) (0, 0) ≡ (get_or tags i 0, get_or words i 0)
  place-cell = rw (place-class, place-word) refl

  pub each_place : {P : Cell → Type 0} → Each P cs → P (get_or tags i 0, get_or words i 0)
  each_place ps = rw place-cell at (each_at ps (i - a) (0, 0) place_in)

  pub place-below : (t : Bounds) → within t cs ≡ true → below (bound t (get_or tags i 0)) (get_or words i 0) ≡ true
  place-below t h = rw (place-class, place-word) (within-at t cs h (i - a) place_in)
