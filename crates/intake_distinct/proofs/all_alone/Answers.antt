-- `intake_distinct::all_alone` meets its contract: the invariant is that those from number j on are alone and have left their marks.
use Rattle.intake_distinct.proofs.Places.{down_fails, down_unmarked, down_asked}
use Rattle.intake_distinct.proofs.all_alone.Goals.{else-not-mark-via-then-not-mark+else-not-alone, else-not-mark-via-else-not-mark}
use Rattle.intake_distinct.proofs.all_alone.Goals as goal

pub returns-then-not-alone : goal.returns-then-not-alone
returns-then-not-alone g c = down_fails c.loop-j.invariant c.loop-j-test.true c.hash-h.ensures c.mark.ensures (rw c.if-not-alone.true at c.alone.ensures)

pub loop-j-preserved : goal.loop-j-preserved
loop-j-preserved g c = elim c.else-not-mark.branch [
  | else-not-mark-via-then-not-mark+else-not-alone w ↦ down_asked c.loop-j.invariant c.loop-j-test.true c.hash-h.ensures c.mark.ensures (rw w.if-not-alone.false at w.alone.ensures)
  | else-not-mark-via-else-not-mark w ↦ down_unmarked c.loop-j.invariant c.loop-j-test.true c.hash-h.ensures c.mark.ensures w.if-not-mark.false
]
