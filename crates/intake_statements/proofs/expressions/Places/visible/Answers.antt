use Rattle.intake_statements.proofs.Leaves.{visible_out, visible_in, visible_kind}
use borrow.Author.Rules.{rules}
use Rattle.intake_statements.proofs.expressions.Places.visible.Goals as goal

pub returns-then-at-until : goal.returns-then-at-until
returns-then-at-until c = search (visible_in, rules)

pub returns-else-at-until : goal.returns-else-at-until
returns-else-at-until c = search (visible_kind, rules)

pub returns-else-e-self : goal.returns-else-e-self
returns-else-e-self c = search (visible_out, rules)
