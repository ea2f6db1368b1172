use Rattle.intake_statements.proofs.Leaves.{read_expr, read_none, read_some, read-other}
use borrow.Author.Rules.{rules}
use Rattle.intake_statements.proofs.expressions.Places.read.Goals as goal

pub returns-in-93 : goal.returns-in-93
returns-in-93 c = search (read_expr, rules)

pub returns-then-w-eq0 : goal.returns-then-w-eq0
returns-then-w-eq0 c = search (read_none, rules)

pub returns-else-w-eq0 : goal.returns-else-w-eq0
returns-else-w-eq0 c = search (read_some, rules)

pub returns-in_default : goal.returns-in_default
returns-in_default c = search (read-other, rules)
