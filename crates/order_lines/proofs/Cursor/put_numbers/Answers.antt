-- `order_lines::Cursor::put_numbers` meets its contract: four pieces, one after the other.
use native.Mathlib.Omega.{arith}
use Rattle.order_lines.proofs.Joining.{decimal_long, numbers_long, numbers-end}
use Rattle.order_lines.proofs.Cursor.put_numbers.Goals as goal

pub put_number-requires : goal.put_number-requires
put_number-requires c = let a = c.args in (omega (arith, c.requires.room, numbers_long a.new a.s, (decimal_long a.new).0, (decimal_long a.s).0), c.requires.bound.0)

pub put-requires : goal.put-requires
put-requires c = let a = c.args in let q = c.put_number.ensures.puts in omega (arith, q.ends, c.requires.room, numbers_long a.new a.s)

pub put_number-requires-2 : goal.put_number-requires-2
put_number-requires-2 c = let a = c.args in let q = c.put_number.ensures.puts in let r = c.put.ensures.puts in (omega (arith, q.ends, r.ends, c.requires.room, numbers_long a.new a.s, (decimal_long a.s).0), c.requires.bound.1)

pub put-requires-2 : goal.put-requires-2
put-requires-2 c = let a = c.args in let q = c.put_number.ensures.puts in let r = c.put.ensures.puts in let u = c.put_number-2.ensures.puts in omega (arith, q.ends, r.ends, u.ends, c.requires.room, numbers_long a.new a.s)

pub returns-clause-puts : goal.returns-clause-puts
returns-clause-puts c = numbers-end _ _ c.put_number.ensures.puts c.put.ensures.puts c.put_number-2.ensures.puts c.put-2.ensures.puts
