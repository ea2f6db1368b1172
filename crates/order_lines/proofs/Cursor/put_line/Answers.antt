-- `order_lines::Cursor::put_line` meets its contract: its pieces are put one after the other.
use native.Mathlib.Omega.{arith}
use Rattle.order_lines.proofs.Joining.{numbers_fit, name_room, last_fits, line_end}
use Rattle.order_lines.proofs.Cursor.put_line.Goals as goal

pub put_numbers-requires : goal.put_numbers-requires
put_numbers-requires c = let p = c.requires in record { room = numbers_fit p; bound = (p.new_few, p.few) }

pub put_name-requires : goal.put_name-requires
put_name-requires c = name_room c.requires c.put_numbers.ensures.puts c.name_of.ensures

pub put-requires : goal.put-requires
put-requires c = omega (arith, last_fits c.requires c.put_numbers.ensures.puts c.name_of.ensures c.put_name.ensures.puts)

pub returns-clause-puts : goal.returns-clause-puts
returns-clause-puts c = line_end c.requires c.put_numbers.ensures.puts c.name_of.ensures c.put_name.ensures.puts c.put.ensures.puts
