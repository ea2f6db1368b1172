-- `order_text::tell` meets its contract: there is room for every order and for every ring.
use mathlib.Core.Path.{sym}
use lib.Seq.{length-take-le}
use lib.ListN.{length-replicate}
use Prim.Native.Nat.{ℕ}
use native.Mathlib.Omega.{arith}
use Rattle.base_views.proofs.LaidOut.{tape}
use Rattle.order_text.proofs.Known.{passed-callees}
use Rattle.order_text.proofs.Orders.{long_all, asks_all, tells_all, few_ring, tells_ring}
use Rattle.order_text.proofs.tell.Goals as goal

pub order_of-ended-requires : goal.order_of-ended-requires
order_of-ended-requires c = record { known = passed-callees c.requires.passed; out_len = length-replicate {A = ℕ} 256 0 }

pub slice_bounds-order-end : goal.slice_bounds-order-end
slice_bounds-order-end c = let l = long_all (tape c.args.image) c.requires.passed c.in-Ok.is c.order_of-ended.ensures c.count-functions.ensures.0 in omega (arith, l)

pub slice_bounds-text-end : goal.slice_bounds-text-end
slice_bounds-text-end c = sym (length-take-le c.count-functions.result c.order_of-ended.new.out (long_all (tape c.args.image) c.requires.passed c.in-Ok.is c.order_of-ended.ensures c.count-functions.ensures.0))

pub text-count-requires : goal.text-count-requires
text-count-requires c = asks_all (tape c.args.image) c.requires.passed c.in-Ok.is c.order_of-ended.ensures c.count-functions.ensures.0 c.requires.out_len

pub head-count-requires : goal.head-count-requires
head-count-requires c = record { out_len = c.requires.out_len; label_len_bound = (omega arith, omega (arith, c.count.ensures, few_ring (tape c.args.image) c.in-Err.is c.order_of-ended.ensures)) }

pub returns-in-Ok : goal.returns-in-Ok
returns-in-Ok c = rw c.in-Ok.is (tells_all (tape c.args.image) c.requires.passed c.in-Ok.is c.order_of-ended.ensures c.count-functions.ensures.0 c.requires.out_len c.text-count.ensures)

pub returns-in-Err : goal.returns-in-Err
returns-in-Err c = tells_ring c.in-Err.is c.order_of-ended.ensures c.count.ensures c.requires.out_len c.head-count.ensures
