use Rattle.intake_initialisers.proofs.Visiting.{Finding}
use Rattle.intake_initialisers.proofs.places.Given as goal

abbrev pub invariant-loop-j : goal.invariant-loop-j
invariant-loop-j g l = Finding g.N.From.from_gives l.tags l.at l.end l.initial.starts l.k l.j l.starts
