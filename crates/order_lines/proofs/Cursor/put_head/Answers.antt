-- `order_lines::Cursor::put_head` meets its contract: three pieces, one after the other.
use native.Mathlib.Omega.{arith}
use Rattle.order_lines.proofs.Joining.{decimal_long, headed-end}
use Rattle.order_lines.proofs.Cursor.put_head.Goals as goal

pub put_number-requires : goal.put_number-requires
put_number-requires c = (omega (arith, c.put.ensures.puts.ends, c.requires.room, c.requires.label_len_bound.0), c.requires.label_len_bound.1)

pub put-requires-2 : goal.put-requires-2
put-requires-2 c = let q = c.put.ensures.puts in let r = c.put_number.ensures.puts in omega (arith, q.ends, r.ends, c.requires.room, c.requires.label_len_bound.0, (decimal_long c.args.x).1)

pub returns-clause-puts : goal.returns-clause-puts
returns-clause-puts c = headed-end _ _ c.put.ensures.puts c.put_number.ensures.puts c.put-2.ensures.puts
