use Rattle.redirect_calls.specs.Turns.{redirecting_by}
use Rattle.redirect_calls.proofs.Pass.{Left}
use Rattle.redirect_calls.proofs.redirect_fn.Given as goal

abbrev pub invariant-loop-j : goal.invariant-loop-j
invariant-loop-j l = Left (redirecting_by l.redirection) l.initial.words l.tags l.at l.end l.words l.j
