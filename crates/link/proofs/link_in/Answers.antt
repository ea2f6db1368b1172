use Prim.Native.Nat.{ℕ}
use lib.ListN.{replicate, length-replicate}
use Rattle.std.proofs.lemmas.Result.{err_from_is_err_and}
use Rattle.base_views.proofs.LaidOut.{laid_out}
use Rattle.link.proofs.Images.{intake_refuses, short_refuses, order_asks, by_asks, by_tells, ring_tells}
use Rattle.link.proofs.link_in.Goals as goal

pub returns-in_err-n : goal.returns-in_err-n
returns-in_err-n c = let p = err_from_is_err_and c.from_residual.result c.from_residual.ensures.1 in rw (p.1, p.2) (intake_refuses _ _ _ _ c.in_err-n.ensures _)

pub returns-then-output-image : goal.returns-then-output-image
returns-then-output-image c = short_refuses _ _ _ _ c.in_ok-n.ensures _ c.if-output-image.true

pub invariant_of-order_of-clause-laid_out : goal.invariant_of-order_of-clause-laid_out
invariant_of-order_of-clause-laid_out c = laid_out (order_asks _ _ _ _ c.in_ok-n.ensures).0

pub order_of-requires : goal.order_of-requires
order_of-requires c = let z = order_asks _ _ _ _ c.in_ok-n.ensures in record { known = z.1; out_len = length-replicate {A = ℕ} 256 0 }

pub link_in_order-requires : goal.link_in_order-requires
link_in_order-requires c = record { linkable = by_asks _ _ _ _ c.in_ok-n.ensures (replicate 256 0) c.order_of.new.out c.order_of.result c.order_of.ensures c.in_ok-order_of.was (length-replicate {A = ℕ} 256 0) c.args.output.now c.if-output-image.false; scratch_lengths = c.requires.scratch_lengths }

pub returns-in_err-order_of : goal.returns-in_err-order_of
returns-in_err-order_of c = let p = err_from_is_err_and c.from_residual-in_err-order_of.result c.from_residual-in_err-order_of.ensures.1 in rw (p.1, p.2) (ring_tells _ _ _ _ c.in_ok-n.ensures (replicate 256 0) c.order_of.new.out c.order_of.result c.order_of.ensures _ c.in_err-order_of.was _ c.if-output-image.false)

pub returns : goal.returns
returns c = by_tells _ _ _ _ c.in_ok-n.ensures (replicate 256 0) c.order_of.new.out c.order_of.result c.order_of.ensures c.in_ok-order_of.was _ c.if-output-image.false _ _ c.link_in_order.ensures
