use Rattle.intake_statements.proofs.Laid.{exprs}
use Rattle.intake_statements.proofs.Results.{function_in_lem, fits_call, fits_no_call, fits_load, fits_atomic}
use borrow.Author.Rules.{rules}
use Rattle.intake_statements.proofs.expressions.Expressions.result_fits.Goals as goal

pub bounds-words-self : goal.bounds-words-self
bounds-words-self c = function_in_lem _ _ _ _ _ (exprs c.args.self) c.requires.e_lt_count _ c.kind-k.ensures c.if-k-eq-CALL_RESULT.true

pub returns-then-k-eq-CALL_RESULT : goal.returns-then-k-eq-CALL_RESULT
returns-then-k-eq-CALL_RESULT c = fits_call _ _ _ _ _ (exprs c.args.self) c.requires.e_lt_count _ c.kind-k.ensures _ _ c.in-15.is c.if-k-eq-CALL_RESULT.true

pub returns-else-k-eq-CALL_RESULT : goal.returns-else-k-eq-CALL_RESULT
returns-else-k-eq-CALL_RESULT c = let x = exprs c.args.self in search (fits_no_call, x, rules)

pub returns-in-14 : goal.returns-in-14
returns-in-14 c = let x = exprs c.args.self in search (fits_load, x, rules)

pub returns-in_default : goal.returns-in_default
returns-in_default c = let x = exprs c.args.self in search (fits_atomic, x, rules)
