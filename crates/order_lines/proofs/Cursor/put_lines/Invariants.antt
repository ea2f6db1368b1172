use Rattle.order_lines.specs.Cursors.{SameBuffer}
use Rattle.order_lines.proofs.Joining.{Going}
use Rattle.order_lines.proofs.Cursor.put_lines.Given as goal

abbrev pub invariant-loop-k : goal.invariant-loop-k
invariant-loop-k l = Going l.words l.order l.initial.self.out.now l.initial.self.at l.k l.self.at l.self.out.now × SameBuffer l.initial.self l.self
