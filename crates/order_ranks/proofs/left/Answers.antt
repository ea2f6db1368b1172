-- `order_ranks::left` meets its contract. The invariant: the rounds of those that wait leave what is left of the whole.
use Rattle.order_ranks.proofs.Leaving.{asks, again, less, finish}
use Rattle.order_ranks.proofs.left.Goals as goal

pub place-round-requires : goal.place-round-requires
place-round-requires c = asks _ _ _ c.requires.0 _ c.loop-out.invariant

pub returns-then-round-eq0 : goal.returns-then-round-eq0
returns-then-round-eq0 c = finish _ _ _ c.requires.0 _ c.loop-out.invariant _ _ _ _ c.place-round.ensures c.if-round-eq0.true

pub loop-out-smaller : goal.loop-out-smaller
loop-out-smaller c = less _ _ _ c.requires.0 _ c.loop-out.invariant _ _ _ _ c.place-round.ensures c.if-round-eq0.false

pub loop-out-preserved : goal.loop-out-preserved
loop-out-preserved c = again _ _ _ c.requires.0 _ c.loop-out.invariant _ _ _ _ c.place-round.ensures c.if-round-eq0.false
