-- `order_ranks::no_calls` meets its contract: words of 0 hold no mark.
use Rattle.order_ranks.proofs.Marks.{zeros_call_none}
use Rattle.order_ranks.proofs.no_calls.Goals as goal

pub returns : goal.returns
returns c = zeros_call_none
