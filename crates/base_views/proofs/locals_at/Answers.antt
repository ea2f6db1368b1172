use mathlib.Core.Path.{refl}
use Rattle.base_views.proofs.Places.{locals_inside, locals_is}
use native.Mathlib.Omega.{arith}
use Rattle.base_views.proofs.locals_at.Goals as goal

pub returns : goal.returns
returns c = let e = locals_is _ _ c.requires _ _ c.returns_at-at.ensures.0 refl in (e, omega (arith, locals_inside _ _ c.requires))
