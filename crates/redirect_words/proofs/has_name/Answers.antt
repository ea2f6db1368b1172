-- A function's name is the first of its words.
use native.Mathlib.Omega.{arith}
use Rattle.base_views.proofs.LaidOut.{tape}
use Rattle.redirect_calls.proofs.Places.{start_in}
use Rattle.redirect_words.proofs.has_name.Goals as goal

pub offset_bounds-image-at : goal.offset_bounds-image-at
offset_bounds-image-at c = record { fits = omega (arith, c.record_at-at.ensures, start_in (tape c.args.image).taped c.args.j c.requires) }

pub bounds-image-at : goal.bounds-image-at
bounds-image-at c = omega (arith, c.record_at-at.ensures, start_in (tape c.args.image).taped c.args.j c.requires)
