use mathlib.Core.Path.{refl}
use native.Mathlib.Omega.{arith}
use Rattle.base_views.proofs.Places.{start_is}
use Rattle.base_views.proofs.start_of.Goals as goal

pub returns : goal.returns
returns c = (start_is _ _ _ _ _ c.offset-at.ensures.0 refl, omega arith)
