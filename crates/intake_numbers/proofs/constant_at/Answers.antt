use native.Mathlib.Omega.{arith}
use Rattle.base_views.proofs.LaidOut.{tape}
use Rattle.intake_numbers.proofs.Tabling.{kinds_inside}
use Rattle.intake_numbers.proofs.constant_at.Goals as goal

pub offset_bounds-image-record_at : goal.offset_bounds-image-record_at
offset_bounds-image-record_at c = omega (arith, c.record_at.ensures, kinds_inside _ _ _ (tape c.args.image) _ c.requires)

pub bounds-image-record_at : goal.bounds-image-record_at
bounds-image-record_at c = omega (arith, c.record_at.ensures, kinds_inside _ _ _ (tape c.args.image) _ c.requires)
