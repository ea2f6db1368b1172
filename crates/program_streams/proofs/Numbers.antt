-- The refusal of a number, searched for in the list of all refusals.
use mathlib.Core.Path.{◌≡◌, refl, sym, ap, subst, ◌∙◌}
use mathlib.Core.Bool.{Bool, true, false}
use mathlib.Core.List.{List, [], ◌∷◌}
use Prim.Native.Nat.{ℕ}
use lib.Dec.{eqb}
use borrow.Author.Tests.{eqb-true}
use Rattle.std.specs.Prelude.{Option, None, Some, MatchOption, IsSome, cond, ⊤}
use Rattle.std.specs.List.{find}
use Rattle.base_refusals.specs.declared.Refusal.{Refusal}
use Rattle.base_refusals.specs.declared.Refusal.TheVariants as refusal
use Rattle.base_refusals.specs.Numbers.{number_of}

abbrev pub all : List Refusal
all =
    refusal.BadSize ∷ refusal.BadLayout ∷ refusal.BadRange ∷ refusal.BadReference ∷ refusal.BadNames ∷ refusal.BadScope
    ∷ refusal.ShortOutput ∷ refusal.OriginalNotFound ∷ refusal.ReplacementNotFound ∷ refusal.ArgumentTypes ∷ refusal.ResultTypes ∷ refusal.Ring 0 ∷ refusal.NumberGiven
    ∷ refusal.NoSource ∷ refusal.Full ∷ refusal.UnknownRing
    ∷ []

abbrev pub has_number : ℕ → Refusal → Bool
has_number k r = eqb (number_of r) k

-- what is found has the number
found : (k : ℕ) (rs : List Refusal) → MatchOption (find (has_number k) rs) ⊤ (λ r. number_of r ≡ k)
found k [] = tt
found k (r ∷ rs) = go (eqb (number_of r) k) refl (found k rs)
  where
    go : (b : Bool) → eqb (number_of r) k ≡ b → MatchOption (find (has_number k) rs) ⊤ (λ r. number_of r ≡ k) → MatchOption (cond b (Some r) (find (has_number k) rs)) ⊤ (λ r. number_of r ≡ k)
    go true e m = eqb-true _ _ e
    go false e m = m

-- each refusal's number finds one
finds : (r : Refusal) → IsSome (find (has_number (number_of r)) all)
finds refusal.BadSize = refl
finds refusal.BadLayout = refl
finds refusal.BadRange = refl
finds refusal.BadReference = refl
finds refusal.BadNames = refl
finds refusal.BadScope = refl
finds refusal.ShortOutput = refl
finds refusal.OriginalNotFound = refl
finds refusal.ReplacementNotFound = refl
finds refusal.ArgumentTypes = refl
finds refusal.ResultTypes = refl
finds (refusal.Ring left) = refl
finds refusal.NumberGiven = refl
finds refusal.NoSource = refl
finds refusal.Full = refl
finds refusal.UnknownRing = refl

pub number_is : (k : ℕ) (o : Option Refusal) → o ≡ find (has_number k) all → MatchOption o ((r : Refusal) → number_of r ≡ k → ⊥) (λ r. number_of r ≡ k)
number_is k None e = λ r q. let none : false ≡ true = subst IsSome (ap (λ n. find (has_number n) all) q ∙ sym e) (finds r) in cc
number_is k (Some r) e = subst (λ o. MatchOption o ⊤ (λ r. number_of r ≡ k)) (sym e) (found k all)
