use Rattle.derive_image.proofs.Choosing.{choosing_begin, choosing_in, choosing_next, choosing_done}
use borrow.Author.Rules.{rules}
use Rattle.derive_image.proofs.choose.Goals as goal

pub loop-j-init : goal.loop-j-init
loop-j-init c = search (choosing_begin, rules)

pub bounds-row-k : goal.bounds-row-k
bounds-row-k c = search (choosing_in, rules)

pub loop-j-preserved : goal.loop-j-preserved
loop-j-preserved c = search (choosing_next, rules)

pub returns : goal.returns
returns c = let a = c.args in let l = c.loop-j in choosing_done a.row.now a.order.now l.r l.j l.invariant c.loop-j-test.false
