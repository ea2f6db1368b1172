-- The order, listed: a full order is copied and counted, a ring is refused.
use Rattle.base_views.proofs.LaidOut.{tape}
use Rattle.order_bytes.proofs.Images.{count_few, list_long, listed-all, listed_ring}
use Rattle.std.proofs.lemmas.Result.{err_from_is_err_and}
use native.Mathlib.Omega.{arith}
use lib.Seq.{length-take-le}
use lib.ListN.{replicate, length-replicate}
use Prim.Native.Nat.{ℕ}
use Rattle.order_bytes.proofs.list.Goals as goal

pub slice_bounds-order-end : goal.slice_bounds-order-end
slice_bounds-order-end c = let l = list_long _ _ _ (tape c.args.image) (replicate 256 0) c.order_of.new.out c.order_of.result c.order_of.ensures c.in_ok-order_of.was (length-replicate {A = ℕ} 256 0) in let k = count_few _ _ _ (tape c.args.image) _ c.count-count.ensures.0 in omega (arith, l, k)

pub slice_bounds-copy-end : goal.slice_bounds-copy-end
slice_bounds-copy-end c = let l = list_long _ _ _ (tape c.args.image) (replicate 256 0) c.order_of.new.out c.order_of.result c.order_of.ensures c.in_ok-order_of.was (length-replicate {A = ℕ} 256 0) in let k = count_few _ _ _ (tape c.args.image) _ c.count-count.ensures.0 in omega (arith, length-take-le c.count-count.result c.order_of.new.out (omega (arith, l, k)))

pub returns-in_err-order_of : goal.returns-in_err-order_of
returns-in_err-order_of c = let p = err_from_is_err_and c.from_residual.result c.from_residual.ensures.1 in rw (p.1, p.2) (listed_ring _ _ _ (tape c.args.image) _ _ _ c.in_err-order_of.ensures _)

pub returns : goal.returns
returns c = listed-all _ _ _ (tape c.args.image) (replicate 256 0) c.order_of.new.out c.order_of.result c.order_of.ensures c.in_ok-order_of.was _ c.count-count.ensures.0 _ _ c.copy.ensures
