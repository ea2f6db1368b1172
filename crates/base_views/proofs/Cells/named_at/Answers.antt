use Rattle.base_views.proofs.Places.{standing-inside, seek_begin, seek_inside, seek_next, seek_done}
use borrow.Author.Rules.{rules}
use Rattle.base_views.proofs.Cells.named_at.Goals as goal

pub expressions_at-i-requires : goal.expressions_at-i-requires
expressions_at-i-requires c = standing-inside c.requires

pub loop-i-init : goal.loop-i-init
loop-i-init c = seek_begin _ c.expressions_at-i.ensures.0

pub bounds-self-i : goal.bounds-self-i
bounds-self-i c = seek_inside c.loop-i.invariant c.requires

pub overflow_add-i-in-loop-i : goal.overflow_add-i-in-loop-i
overflow_add-i-in-loop-i c = let h = seek_inside c.loop-i.invariant c.requires in search rules

pub loop-i-smaller : goal.loop-i-smaller
loop-i-smaller c = let h = seek_inside c.loop-i.invariant c.requires in search rules

pub loop-i-preserved : goal.loop-i-preserved
loop-i-preserved c = seek_next c.loop-i.invariant c.loop-i-test.true

pub returns : goal.returns
returns c = seek_done c.loop-i.invariant c.requires c.loop-i-test.false
