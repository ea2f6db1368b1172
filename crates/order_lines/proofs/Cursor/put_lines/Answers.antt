-- `order_lines::Cursor::put_lines` meets its contract: what is left of the lines, put too, is all of them.
use mathlib.Core.Path.{refl, ◌∙◌}
use native.Mathlib.Omega.{arith}
use Rattle.order_lines.proofs.Joining.{line_asks, lines_again, lines_end}
use Rattle.order_lines.proofs.Cursor.put_lines.Goals as goal

pub put_line-requires : goal.put_line-requires
put_line-requires c = line_asks c.requires c.loop-k.invariant.0 (omega arith) refl

pub loop-k-preserved : goal.loop-k-preserved
loop-k-preserved c =
    (lines_again c.requires c.loop-k.invariant.0 (omega arith) refl c.put_line.ensures.puts, c.put_line.ensures.same ∙ c.loop-k.invariant.1)

pub returns-clause-puts : goal.returns-clause-puts
returns-clause-puts c = lines_end c.requires c.loop-k.invariant.0 (omega arith)
