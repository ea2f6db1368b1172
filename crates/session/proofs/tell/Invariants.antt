-- `tell` meets its contract: what is left to write from here is the whole.
use Rattle.session.proofs.Running.{Telling}
use Rattle.session.proofs.tell.Given as goal

abbrev pub invariant-loop-j : goal.invariant-loop-j
invariant-loop-j l = Telling l.said l.initial.answers l.from l.n l.answers l.j
