-- `FunctionSet::first` meets its contract. The invariant: the set has the marks below k.
use Rattle.order_ranks.proofs.Begun.{begin}
use Rattle.order_ranks.proofs.FunctionSet.first.Goals as goal

pub loop-k-init : goal.loop-k-init
loop-k-init c = begin _
