-- `order_callees::order_of` meets its contract: the order looks only at calls between functions, and those are the module's.
use mathlib.Core.Path.{sym}
use native.Mathlib.Omega.{arith}
use lib.Seq.{length-take-le}
use Rattle.base_views.proofs.LaidOut.{tape}
use Rattle.order_ranks.proofs.Front.{orders_front}
use Rattle.order_callees.proofs.Whole.{few, enough, lists}
use Rattle.order_callees.proofs.order_of.Goals as goal

pub slice_bounds-callees-end : goal.slice_bounds-callees-end
slice_bounds-callees-end c = enough (tape c.args.image).taped _ c.count-functions.ensures.0 c.gather_requirements.ensures.long

pub slice_bounds-order-end : goal.slice_bounds-order-end
slice_bounds-order-end c = sym (length-take-le _ _ (enough (tape c.args.image).taped _ c.count-functions.ensures.0 c.gather_requirements.ensures.long))

pub order-requires : goal.order-requires
order-requires c =
    let l = length-take-le _ _ (enough (tape c.args.image).taped _ c.count-functions.ensures.0 c.gather_requirements.ensures.long) in
    omega (arith, few (tape c.args.image).taped, c.count-functions.ensures.0, l)

pub returns : goal.returns
returns c = let h = c.count-functions.ensures.0 in lists h c.gather_requirements.ensures (orders_front _ _ (enough (tape c.args.image).taped _ h c.gather_requirements.ensures.long) c.order.ensures)
