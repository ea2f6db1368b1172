-- `order_lines::Cursor::put_name` meets its contract. The invariant: what is left of the text, put too, is the whole.
use Rattle.order_lines.specs.Lines.{text_at}
use Rattle.order_lines.proofs.Bytes.{Putting}
use Rattle.order_lines.proofs.Cursor.put_name.Given as goal

abbrev pub invariant-loop-k : goal.invariant-loop-k
invariant-loop-k l = Putting (text_at l.words l.p) l.k l.name
