-- `order_lines::text` meets its contract: the first line, and the lines.
use Rattle.order_lines.proofs.Joining.{text_lines, text-end}
use borrow.Author.Rules.{rules}
use Rattle.order_lines.proofs.text.Goals as goal

pub put_lines-requires : goal.put_lines-requires
put_lines-requires c = text_lines c.requires c.put_head.ensures.puts

pub returns : goal.returns
returns c = let p = text-end c.requires c.put_head.ensures.puts c.put_lines.ensures.puts in search (p, rules)
