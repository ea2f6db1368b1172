use Rattle.intake_statements.proofs.Laid.{exprs}
use Rattle.intake_statements.proofs.Results.{simple_reads, simple_result}
use borrow.Author.Rules.{rules}
use Rattle.intake_statements.proofs.expressions.Expressions.simple.Goals as goal

pub returns-else-reads : goal.returns-else-reads
returns-else-reads c = rw c.if-reads.false (simple_reads _ _ _ _ _ _ _ _ (exprs c.args.self) c.requires.stop_le_keep c.requires.at_bound _ c.reads.ensures c.if-reads.false)

pub returns-then-reads : goal.returns-then-reads
returns-then-reads c = let x = exprs c.args.self in search (simple_result, x, rules)
