use Rattle.intake_initialisers.proofs.Visiting.{Rooting}
use Rattle.intake_initialisers.proofs.visited.Visited.roots.Given as goal

abbrev pub invariant-loop-j : goal.invariant-loop-j
invariant-loop-j l = Rooting l.words l.at l.locals l.initial.self l.j l.self
