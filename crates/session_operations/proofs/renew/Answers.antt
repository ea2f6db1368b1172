-- `renew` meets its contract: each array and each size is written.
use mathlib.Core.Path.{refl}
use Rattle.session_operations.proofs.renew.Goals as goal

pub returns : goal.returns
returns c = rw (c.clear_maps.ensures, c.clear_rays.ensures, c.empty-session.ensures) refl
