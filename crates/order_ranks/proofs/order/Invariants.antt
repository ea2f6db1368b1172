-- `order_ranks::order` meets its contract. The invariant: what the rounds of those that wait will write and leave is the whole.
use Prim.Native.Nat.{◌-◌}
use lib.ListN.{length}
use Rattle.order_ranks.proofs.Whole.{Under}
use Rattle.order_ranks.proofs.order.Given as goal

abbrev pub invariant-loop-at : goal.invariant-loop-at
invariant-loop-at l = Under l.callees (length l.callees) l.initial.out l.out l.waiting.0 l.at

abbrev pub decreases-loop-at : goal.decreases-loop-at
decreases-loop-at l = l.n - l.at
