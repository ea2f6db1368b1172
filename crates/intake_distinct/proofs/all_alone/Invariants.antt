use Rattle.intake_distinct.proofs.Places.{Down}
use Rattle.intake_distinct.proofs.all_alone.Given as goal

abbrev pub invariant-loop-j : goal.invariant-loop-j
invariant-loop-j g l = Down (goal.H-post g l.hash) (goal.A-post g l.alone) l.fn.count g.row.MARKS l.seen l.j
