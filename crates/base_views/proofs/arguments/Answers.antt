use mathlib.Core.Path.{refl}
use Rattle.base_views.proofs.Places.{arguments_inside}
use mathlib.Core.Path.{ap, ◌∙◌}
use native.Mathlib.Omega.{arith}
use lib.ListN.{get_or}
use Rattle.base_views.proofs.arguments.Goals as goal

pub arguments_at-requires : goal.arguments_at-requires
arguments_at-requires c = omega (arith, arguments_inside _ _ c.requires)

pub offset_bounds-words-arguments_at : goal.offset_bounds-words-arguments_at
offset_bounds-words-arguments_at c = let h = arguments_inside _ _ c.requires in record { fits = omega (arith, h, c.arguments_at.ensures) }

pub bounds-words-arguments_at : goal.bounds-words-arguments_at
bounds-words-arguments_at c = omega (arith, arguments_inside _ _ c.requires, c.arguments_at.ensures)

pub returns : goal.returns
returns c = (refl ∙ ap (λ i. get_or c.args.words.now i 0) c.arguments_at.ensures, c.fits-words _)
