use lib.ListN.{get_or}
use mathlib.Core.Path.{refl, ap}
use Rattle.base_views.proofs.Places.{arguments_inside}
use native.Mathlib.Omega.{arith}
use Rattle.intake_numbers.proofs.Framing.{function-inside, function_over, function_done}
use Rattle.intake_numbers.proofs.function.Goals as goal

pub locals_at-locals-requires : goal.locals_at-locals-requires
locals_at-locals-requires c = function-inside _ _ _ _ _ c.requires

pub expressions_at-exprs-requires : goal.expressions_at-exprs-requires
expressions_at-exprs-requires c = function-inside _ _ _ _ _ c.requires

pub arguments_at-requires : goal.arguments_at-requires
arguments_at-requires c = let h = function-inside _ _ _ _ _ c.requires in omega (arith, arguments_inside _ _ h)

pub bounds-cells-arguments_at : goal.bounds-cells-arguments_at
bounds-cells-arguments_at c = let h = arguments_inside _ _ (function-inside _ _ _ _ _ c.requires) in omega (arith, h, c.arguments_at.ensures)

pub returns-else-function_in_range : goal.returns-else-function_in_range
returns-else-function_in_range c = function_over _ _ _ _ _ c.requires _ _ c.locals_at-locals.ensures.0 c.expressions_at-exprs.ensures.0 _ _ _ refl (ap (λ i. get_or c.args.cells.words.now i 0) c.arguments_at.ensures) refl _ _ c.set_function.ensures.owned _ c.function_in_range.ensures c.if-function_in_range.false

pub returns-then-function_in_range : goal.returns-then-function_in_range
returns-then-function_in_range c = function_done _ _ _ _ _ c.requires _ _ c.locals_at-locals.ensures.0 c.expressions_at-exprs.ensures.0 _ _ _ refl (ap (λ i. get_or c.args.cells.words.now i 0) c.arguments_at.ensures) refl _ _ c.set_function.ensures.owned _ c.function_in_range.ensures c.if-function_in_range.true _ c.initialised.ensures
