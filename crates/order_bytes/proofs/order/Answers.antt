-- `order_bytes::order` meets its contract: the order of an image, or intake's refusal of it.
use Rattle.base_views.proofs.LaidOut.{laid_out}
use Rattle.order_bytes.proofs.Images.{intake_refuses, list_asks, list_tells}
use Rattle.std.proofs.lemmas.Result.{err_from_is_err_and}
use Rattle.order_bytes.proofs.order.Goals as goal

pub invariant_of-list-clause-laid_out : goal.invariant_of-list-clause-laid_out
invariant_of-list-clause-laid_out c = laid_out (list_asks _ _ _ _ c.in_ok-n.ensures).0

pub list-requires : goal.list-requires
list-requires c = (list_asks _ _ _ _ c.in_ok-n.ensures).1

pub returns-in_err-n : goal.returns-in_err-n
returns-in_err-n c = let p = err_from_is_err_and c.from_residual.result c.from_residual.ensures.1 in rw (p.1, p.2) (intake_refuses _ _ _ _ c.in_err-n.ensures _)

pub returns : goal.returns
returns c = list_tells _ _ _ _ c.in_ok-n.ensures _ _ _ c.list.ensures
