use mathlib.Core.Path.{refl}
-- `index_parts` meets its contract: the places of expressions are filled, and the place after the last is that of the named expressions.
use Rattle.function_localize.proofs.Locals.{exprs_in, index_in, count_in, named_in}
use Rattle.function_localize.proofs.Sums.{place_low}
use Rattle.function_localize.proofs.index_parts.Goals as goal

pub expressions_at-exprs-requires : goal.expressions_at-exprs-requires
expressions_at-exprs-requires c = exprs_in c.requires

pub index_expressions-requires : goal.index_expressions-requires
index_expressions-requires c = index_in c.requires c.expressions_at-exprs.ensures.0

pub bounds-places-count : goal.bounds-places-count
bounds-places-count c = place_low (count_in c.requires c.expressions_at-exprs.ensures.0 refl)

pub bounds-image-named : goal.bounds-image-named
bounds-image-named c = (named_in c.requires c.expressions_at-exprs.ensures.0 c.index_expressions.ensures refl refl).0
