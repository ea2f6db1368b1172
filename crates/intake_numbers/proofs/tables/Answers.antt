use Rattle.base_views.proofs.LaidOut.{tape}
use Rattle.intake_numbers.proofs.Tabling.{sections-rising, sections_small, special-rising, tables-over, tables-special}
use Rattle.intake_numbers.proofs.tables.Goals as goal

pub in_range-requires-clause-at_le_end : goal.in_range-requires-clause-at_le_end
in_range-requires-clause-at_le_end c = sections-rising _ _ _ (tape c.args.image) _ _ c.offset-types.ensures.0 c.offset-functions.ensures.0

pub in_range-requires-clause-end_bound : goal.in_range-requires-clause-end_bound
in_range-requires-clause-end_bound c = sections_small _ _ _ (tape c.args.image) _ c.offset-functions.ensures.0

pub in_range-requires-then-in_range-clause-at_le_end :
    goal.in_range-requires-then-in_range-clause-at_le_end
in_range-requires-then-in_range-clause-at_le_end c = special-rising _ _ _ (tape c.args.image) _ c.offset-special.ensures.0

pub returns-then-in_range : goal.returns-then-in_range
returns-then-in_range c = tables-special _ _ _ _ _ _ c.offset-types.ensures.0 c.offset-functions.ensures.0 _ (rw (c.cells-cells.ensures.0, c.cells-cells.ensures.1) at c.in_range.ensures) c.if-in_range.true _ c.offset-special.ensures.0 _ (rw (c.cells-cells.ensures.0, c.cells-cells.ensures.1) at c.in_range-then-in_range.ensures)

pub returns-else-in_range : goal.returns-else-in_range
returns-else-in_range c = tables-over _ _ _ _ _ _ c.offset-types.ensures.0 c.offset-functions.ensures.0 _ (rw (c.cells-cells.ensures.0, c.cells-cells.ensures.1) at c.in_range.ensures) c.if-in_range.false
