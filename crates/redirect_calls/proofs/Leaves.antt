-- Names, lists of names, and one word.
use mathlib.Core.Path.{◌≡◌, refl, ap}
use mathlib.Core.Bool.{◌||◌}
use mathlib.Core.List.{List, [], ◌∷◌}
use Rattle.std.specs.List.{list_any}
use Prim.Native.Nat.{ℕ, suc}
use lib.Dec.{eqb}
use Rattle.model.specs.Redirect.{omitted}

-- ---- omitted
pub omitted_any : (l : List ℕ) (w : ℕ) → omitted l w ≡ list_any (λ o. eqb w (suc o)) l
unfolding omitted
omitted_any [] w = refl
omitted_any (o ∷ os) w = ap (eqb w (suc o) ||◌) (omitted_any os w)
