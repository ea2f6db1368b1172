use Rattle.intake_statements.proofs.Laid.{exprs}
use Rattle.intake_statements.proofs.Scopes.{emit_next, emit_wrong, emit_done}
use borrow.Author.Rules.{rules}
use Rattle.intake_statements.proofs.expressions.Expressions.emit.Goals as goal

pub returns-then-not-evaluated : goal.returns-then-not-evaluated
returns-then-not-evaluated c = let x = exprs c.args.self in search (emit_wrong, x, rules)

pub loop-e-preserved : goal.loop-e-preserved
loop-e-preserved c = let x = exprs c.args.self in search (emit_next, x, rules)

pub returns : goal.returns
returns c = let x = exprs c.args.self in search (emit_done, x, rules)
