-- `order_lines::Cursor::put_number` meets its contract: the digits without the zeros before them.
use Rattle.order_lines.proofs.Bytes.{digits_of}
use Rattle.order_lines.proofs.Cursor.put_number.Goals as goal

pub returns-clause-puts : goal.returns-clause-puts
returns-clause-puts c = rw (digits_of c.args.x c.requires.1 c.digit.ensures c.digit-2.ensures c.digit-3.ensures c.from.ensures c.from-2.ensures) at c.put.ensures.puts
