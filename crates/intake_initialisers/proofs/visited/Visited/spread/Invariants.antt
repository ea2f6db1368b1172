use Rattle.intake_initialisers.proofs.Visiting.{Spreading}
use Rattle.intake_initialisers.proofs.visited.Visited.spread.Given as goal

abbrev pub invariant-loop-j : goal.invariant-loop-j
invariant-loop-j l = Spreading l.cells.words.now l.cells.tags.now l.at l.end l.initial.self l.j l.self
