use Rattle.std.proofs.lemmas.Result.{err_from_is_err_and}
use Rattle.session_steps.proofs.Saying.{set-quiet}
use Rattle.session_steps.proofs.Parts.{part-mid}
use Rattle.session_steps.proofs.set_step.Goals as goal

pub returns-clause-quiet : goal.returns-clause-quiet
returns-clause-quiet c = let x = c.args.step in let l = c.args.sources.now in set-quiet x.a x.b x.c l _ _ _ _ (part-mid x.a x.b l _ _ c.part-from.ensures) c.in_ok-set_shader_source.ensures.operates.does

pub returns-in_err-set_shader_source-clause-quiet : goal.returns-in_err-set_shader_source-clause-quiet
returns-in_err-set_shader_source-clause-quiet c = let x = c.args.step in let l = c.args.sources.now in let p = err_from_is_err_and c.from_residual.result c.from_residual.ensures.1 in rw (p.1, p.2) (set-quiet x.a x.b x.c l _ _ _ _ (part-mid x.a x.b l _ _ c.part-from.ensures) c.in_err-set_shader_source.ensures.operates.does)

pub returns-clause-valid : goal.returns-clause-valid
returns-clause-valid c = (c.in_ok-set_shader_source.ensures.valid c.requires).valid

pub returns-in_err-set_shader_source-clause-valid : goal.returns-in_err-set_shader_source-clause-valid
returns-in_err-set_shader_source-clause-valid c = (c.in_err-set_shader_source.ensures.valid c.requires).valid
