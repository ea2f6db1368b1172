-- `order_ranks::order` meets its contract. The invariant: what the rounds of those that wait will write and leave is the whole.
use native.Mathlib.Omega.{arith}
use Rattle.order_ranks.proofs.Whole.{begin, again, less, stuck, finish}
use Rattle.order_ranks.proofs.order.Goals as goal

pub loop-at-init : goal.loop-at-init
loop-at-init c = begin _ _ _ c.requires (omega arith) _ c.first-waiting.ensures

pub returns-then-round-at : goal.returns-then-round-at
returns-then-round-at c = stuck _ _ _ c.requires (omega arith) _ _ _ c.loop-at.invariant c.loop-at-test.true _ _ _ c.place-round.ensures c.if-round-at.true _ c.count.ensures

pub loop-at-smaller : goal.loop-at-smaller
loop-at-smaller c = let l = less _ _ _ c.requires (omega arith) _ _ _ c.loop-at.invariant c.loop-at-test.true _ _ _ c.place-round.ensures c.if-round-at.false in omega (arith, c.loop-at-test.true)

pub loop-at-preserved : goal.loop-at-preserved
loop-at-preserved c = again _ _ _ c.requires (omega arith) _ _ _ c.loop-at.invariant c.loop-at-test.true _ _ _ c.place-round.ensures c.if-round-at.false

pub returns : goal.returns
returns c = finish _ _ _ c.requires (omega arith) _ _ _ c.loop-at.invariant c.loop-at-test.false
