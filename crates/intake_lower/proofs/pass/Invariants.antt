use Rattle.intake_lower.proofs.Steps.{Left}
use Rattle.intake_lower.proofs.pass.Given as goal

abbrev pub invariant-loop-j : goal.invariant-loop-j
invariant-loop-j g l = Left (goal.N-post g l.next) (goal.K-post g l.ok) l.cells.words.now l.cells.tags.now l.at l.end l.count l.j
