-- The model's test whether two lists of words are one, `same`, is that equation.
use Rattle.std.specs.Prelude.{◌≡◌, refl, true, List, [], ◌∷◌, ℕ, eqb}
use Rattle.std.proofs.Common.{ap₂, eqb-true, eq-eqb}
use Rattle.std.proofs.lemmas.Bool.{false≢true}
use Rattle.theory_lists.specs.Booleans.{and_split}
use Rattle.model.specs.Names.{same}

pub same_true : (x y : List ℕ) → same x y ≡ true → x ≡ y
unfolding same
same_true [] [] h = refl
same_true [] (y ∷ ys) h = absurd (false≢true h)
same_true (x ∷ xs) [] h = absurd (false≢true h)
same_true (x ∷ xs) (y ∷ ys) h = let p = and_split (eqb x y) (same xs ys) h in ap₂ ◌∷◌ (eqb-true x y p.0) (same_true xs ys p.1)

pub same_self : (x : List ℕ) → same x x ≡ true
unfolding same
same_self [] = refl
same_self (x ∷ xs) = rw (eq-eqb x x refl, same_self xs)
