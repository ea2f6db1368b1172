-- `intake_layout::section::Section::record` meets its contract.
use Rattle.std.proofs.Common.{rules}
use Rattle.intake_fields.proofs.Walk.{exit}
use Rattle.intake_layout.proofs.Extents.{extent_out, record_fits, record_short, record_err}
use Rattle.intake_layout.proofs.section.Section.record.Goals as goal

pub returns-then-start-at : goal.returns-then-start-at
returns-then-start-at c = extent_out _ c.args.self.extent.words.now c.args.tags.now _ _ _ _ c.then-start-at.either

pub returns-in_err-i : goal.returns-in_err-i
returns-in_err-i c = let w = c.in_err-i.was in rw (exit _ c.in_err-i.field-0.0 c.from_residual.ensures.1) (search (record_err, rules))

pub returns-then-i-end : goal.returns-then-i-end
returns-then-i-end c = let w = c.in_ok-i.was in search (record_fits, rules)

pub returns-else-i-end : goal.returns-else-i-end
returns-else-i-end c = let w = c.in_ok-i.was in search (record_short, rules)
