-- What holds of each member of a list of numbers.
use Rattle.std.specs.Prelude.{List, [], ◌∷◌, ◌++◌, ℕ}
use Rattle.std.proofs.Common.{⊎_elim}
use Rattle.model.specs.Initial.{Mem, here, there}
use Rattle.theory_image.specs.Members.{no_mem, mem_cases}

-- P of every member
abbrev pub Each : (ℕ → Type 0) → List ℕ → Type 0
Each P xs = (e : ℕ) → Mem e xs → P e

pub each_none : (P : ℕ → Type 0) → Each P []
each_none P e m = absurd (no_mem m)

pub each_append : {P : ℕ → Type 0} (xs ys : List ℕ) → Each P xs → Each P ys → Each P (xs ++ ys)
each_append xs ys f g e m = ⊎_elim (f e) (g e) (mem_cases xs ys m)

pub each_cons : {P : ℕ → Type 0} {x : ℕ} {xs : List ℕ} → P x → Each P xs → Each P (x ∷ xs)
each_cons p f e here = p
each_cons p f e (there m) = f e m
