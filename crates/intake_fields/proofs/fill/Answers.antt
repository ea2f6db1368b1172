-- `intake_fields::fill` meets its contract: what it fills is n words of the class.
use Rattle.std.proofs.Common.{arith, rules}
use Rattle.intake_fields.proofs.Walk.{part_filled, fill_misfit, fill_done}
use Rattle.intake_fields.proofs.fill.Goals as goal

pub returns-then-end-at : goal.returns-then-end-at
returns-then-end-at c = search (fill_misfit, rules)

pub returns : goal.returns
returns c = fill_done _ _ _ _ _ c.requires.at_le_end c.if-end-at.false _ (part_filled c.args.tags.now _ c.args.at _ c.args.n c.args.c (omega arith) (omega arith) (c.fill.ensures.after (λ y h. h)))
