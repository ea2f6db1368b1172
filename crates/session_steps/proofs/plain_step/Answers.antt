use native.Mathlib.Omega.{arith}
use Rattle.std.proofs.lemmas.Result.{err_from_is_err_and}
use Rattle.session_steps.proofs.Parts.{plain-wrote, plain_small}
use Rattle.session_steps.proofs.plain_step.Goals as goal

pub overflow_cast-result : goal.overflow_cast-result
overflow_cast-result c = let x = c.args.step in let w = c.well_formed in let h = plain_small x.a x.b c.args.output.now _ _ c.part-from.ensures _ _ _ _ _ c.in_ok-bytes.ensures.finishes.does in omega (arith, h, w)

pub returns-clause-wrote : goal.returns-clause-wrote
returns-clause-wrote c = let x = c.args.step in plain-wrote x.a x.b c.args.output.now _ _ c.part-from.ensures _ _ _ _ _ x.c c.in_ok-bytes.ensures.finishes.does

pub returns-in_err-bytes-clause-wrote : goal.returns-in_err-bytes-clause-wrote
returns-in_err-bytes-clause-wrote c = let x = c.args.step in let p = err_from_is_err_and c.from_residual.result c.from_residual.ensures.1 in rw (p.1, p.2) (plain-wrote x.a x.b c.args.output.now _ _ c.part-from.ensures _ _ _ _ _ x.c c.in_err-bytes.ensures.finishes.does)

pub returns-clause-valid : goal.returns-clause-valid
returns-clause-valid c = (c.in_ok-bytes.ensures.valid c.requires).valid

pub returns-in_err-bytes-clause-valid : goal.returns-in_err-bytes-clause-valid
returns-in_err-bytes-clause-valid c = (c.in_err-bytes.ensures.valid c.requires).valid
