-- `replace` meets its contract: what is left to put from here is the whole.
use Rattle.session_operations.proofs.Replacing.{Replacing}
use Rattle.session_operations.proofs.replace.Given as goal

abbrev pub invariant-loop-j : goal.invariant-loop-j
invariant-loop-j l = Replacing l.by l.initial.words l.words l.j

abbrev pub invariant-loop-k : goal.invariant-loop-k
invariant-loop-k l = Replacing l.classes l.initial.tags l.tags l.k
