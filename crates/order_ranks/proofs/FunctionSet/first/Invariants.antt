-- `FunctionSet::first` meets its contract. The invariant: the set has the marks below k.
use Rattle.order_ranks.proofs.Begun.{Begun}
use Rattle.order_ranks.proofs.FunctionSet.first.Given as goal

abbrev pub invariant-loop-k : goal.invariant-loop-k
invariant-loop-k l = Begun l.n l.set.0 l.k
