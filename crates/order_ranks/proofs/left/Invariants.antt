-- `order_ranks::left` meets its contract. The invariant: the rounds of those that wait leave what is left of the whole.
use lib.ListN.{length}
use Rattle.order_ranks.specs.Marks.{members}
use Rattle.order_ranks.proofs.Leaving.{Leaving}
use Rattle.order_ranks.proofs.left.Given as goal

abbrev pub invariant-loop-out : goal.invariant-loop-out
invariant-loop-out l = Leaving l.callees (length l.callees) l.initial.waiting.0 l.waiting.0

abbrev pub decreases-loop-out : goal.decreases-loop-out
decreases-loop-out l = length (members l.waiting.0)
