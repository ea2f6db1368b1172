use mathlib.Core.Path.{refl}
use Rattle.base_views.proofs.Places.{body_is}
use Rattle.base_views.proofs.Cells.body_at.Goals as goal

pub returns : goal.returns
returns c = body_is c.named_at-at.ensures _ refl c.requires
