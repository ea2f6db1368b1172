-- `intake_layout::section::Section::records` meets its contract.
use Rattle.std.proofs.Common.{rules}
use Rattle.intake_fields.proofs.Walk.{exit}
use Rattle.intake_layout.proofs.Extents.{records-begin, records_bad, records_next, records-short, records-odd, records_done}
use Rattle.intake_layout.proofs.section.Section.records.Goals as goal

pub loop-j-init : goal.loop-j-init
loop-j-init c = search (records-begin, rules)

pub loop-j-preserved : goal.loop-j-preserved
loop-j-preserved c = let w = c.in_ok-odd.ensures in search (records_next, rules)

pub returns-in_err-odd : goal.returns-in_err-odd
returns-in_err-odd c = let w = c.in_err-odd.ensures in rw (exit _ c.in_err-odd.field-0.0 c.from_residual.ensures.1) (search (records_bad, rules))

pub returns-then-at-self : goal.returns-then-at-self
returns-then-at-self c = search (records-short, rules)

pub returns-then-odd : goal.returns-then-odd
returns-then-odd c = search (records-odd, rules)

pub returns-else-odd : goal.returns-else-odd
returns-else-odd c = search (records_done, rules)
