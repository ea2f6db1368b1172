-- `intake_fields::Extent::+opened_part_row_stmt_times` meets its contract.
use Prim.Native.Nat.{◌*◌, ◌+◌, ◌-◌}
use Rattle.intake_fields.specs.Rows.{ROWS}
use Rattle.intake_fields.proofs.Steps.{Rowing, Timing}
use Rattle.intake_fields.proofs.Extent.+opened_part_row_stmt_times.Given as goal

abbrev pub decreases-opened : goal.decreases-opened
decreases-opened l = 4 * (l.self.end - l.at)

abbrev pub decreases-part : goal.decreases-part
decreases-part l = 4 * (l.self.end - l.at) + 1

abbrev pub decreases-row : goal.decreases-row
decreases-row l = 4 * (l.self.end - l.at) + 2

abbrev pub decreases-stmt : goal.decreases-stmt
decreases-stmt l = 4 * (l.self.end - l.at)

abbrev pub decreases-times : goal.decreases-times
decreases-times l = 4 * (l.self.end - l.at) + 3

abbrev pub invariant-row-loop-at : goal.invariant-row-loop-at
invariant-row-loop-at l = Rowing l.self.words.now l.initial.tags l.at l.self.end l.pc l.left l.tags l.i l.p

abbrev pub decreases-row-loop-at : goal.decreases-row-loop-at
decreases-row-loop-at l = ROWS - l.p

abbrev pub invariant-times-loop : goal.invariant-times-loop
invariant-times-loop l = Timing l.self.words.now l.initial.tags l.at l.count l.self.end l.pc l.left l.tags l.i (l.count - l.counter)
