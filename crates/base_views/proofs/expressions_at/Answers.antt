use mathlib.Core.Path.{refl}
use Rattle.base_views.proofs.Places.{expressions_is}
use native.Mathlib.Omega.{arith}
use Rattle.base_views.proofs.expressions_at.Goals as goal

pub returns : goal.returns
returns c = let e = expressions_is _ _ c.requires _ _ c.locals_at-at.ensures.0 refl in (e, omega (arith, c.requires))
