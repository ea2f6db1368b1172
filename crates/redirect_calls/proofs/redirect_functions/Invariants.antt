use Rattle.redirect_calls.proofs.Turning.{Turning}
use Rattle.redirect_calls.proofs.redirect_functions.Given as goal

abbrev pub invariant-loop-j : goal.invariant-loop-j
invariant-loop-j l = Turning l.initial.words l.tags l.n l.redirection l.j-end l.words l.j
