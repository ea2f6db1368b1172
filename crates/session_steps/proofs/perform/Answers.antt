-- `perform` meets its contract: each operation is a step of its number.
use mathlib.Core.Logic.{inl, inr}
use mathlib.Core.Path.{refl}
use Rattle.std.proofs.lemmas.Result.{err_from_is_err_and}
use Rattle.derive_state.proofs.State.{arrays_same}
use Rattle.derive_session.specs.Valid.{session_of}
use Rattle.session_operations.specs.Sessions.{meant}
use Rattle.session_operations.proofs.Memory.{memory_same}
use Rattle.session_operations.proofs.Finishing.{unset_valid}
use Rattle.session_steps.proofs.Saying.{first_is, number_is, none_stepped, clear-stepped, clear-live, span_stepped, required_stepped, bit_is, type_recorded, rename_recorded, constant_recorded, override_recorded, global_recorded, expression_recorded, function_recorded, new_recorded, handle_recorded, by_number, by_first}
use Rattle.session_steps.proofs.perform.Goals as goal

pub returns-in_err-try_from : goal.returns-in_err-try_from
returns-in_err-try_from c = let a = c.args in let p = err_from_is_err_and c.from_residual.result c.from_residual.ensures.1 in rw (p.1, p.2, c.in_err-try_from.ensures.0) (record { does = none_stepped a.step.operation a.step.a a.step.b a.step.c a.sources.now a.output.now (meant a.session.now) c.in_err-try_from.ensures.1; valid = c.requires; same = memory_same _ })

pub returns-in-Clear : goal.returns-in-Clear
unfolding session_of
returns-in-Clear c = let a = c.args in record { does = by_number a.step.a a.step.b a.step.c a.sources.now a.output.now (meant a.session.now) (number_is c.in_ok-try_from.ensures c.in-Clear.is) (clear-stepped _ _ _ _ _ _ _ _ _ _ a.step.a a.step.b a.step.c a.sources.now a.output.now); valid = record { session = unset_valid (clear-live _ _ _ _ _ _ _ _ _ _ a.step.a a.step.b a.step.c a.sources.now a.output.now _ _ c.requires.session); stacks = c.requires.stacks }; same = record { words_same = refl; tags_same = refl; derived_same = arrays_same _; special_same = refl; stacks_same = refl } }

pub returns-in_ok-span-in-MapSpan : goal.returns-in_ok-span-in-MapSpan
returns-in_ok-span-in-MapSpan c = let a = c.args in record { does = by_number a.step.a a.step.b a.step.c a.sources.now a.output.now (meant a.session.now) (number_is c.in_ok-try_from.ensures c.in-MapSpan.is) (span_stepped _ _ _ _ _ _ _ _ _ _ a.step.a a.step.b a.step.c a.sources.now a.output.now _ _ _ c.in_ok-span-in-MapSpan.ensures); valid = c.requires; same = memory_same _ }

pub returns-in_err-span-in-MapSpan : goal.returns-in_err-span-in-MapSpan
returns-in_err-span-in-MapSpan c = let a = c.args in let p = err_from_is_err_and c.from_residual-in_err-span-in-MapSpan.result c.from_residual-in_err-span-in-MapSpan.ensures.1 in rw (p.1, p.2) (record { does = by_number a.step.a a.step.b a.step.c a.sources.now a.output.now (meant a.session.now) (number_is c.in_ok-try_from.ensures c.in-MapSpan.is) (span_stepped _ _ _ _ _ _ _ _ _ _ a.step.a a.step.b a.step.c a.sources.now a.output.now _ _ _ c.in_err-span-in-MapSpan.ensures); valid = c.requires; same = memory_same _ })

pub returns-in-HasRequiredSpecialTypes : goal.returns-in-HasRequiredSpecialTypes
returns-in-HasRequiredSpecialTypes c = let a = c.args in record { does = by_number a.step.a a.step.b a.step.c a.sources.now a.output.now (meant a.session.now) (number_is c.in_ok-try_from.ensures c.in-HasRequiredSpecialTypes.is) (required_stepped _ _ _ _ _ _ _ _ _ _ a.step.a a.step.b a.step.c a.sources.now a.output.now _ c.has_required_special_types-held.ensures _ (bit_is _ _ c.from.ensures)); valid = record { session = c.requires.session; stacks = c.requires.stacks }; same = record { words_same = refl; tags_same = refl; derived_same = arrays_same _; special_same = refl; stacks_same = refl } }

pub returns-in-ImportType : goal.returns-in-ImportType
returns-in-ImportType c = let a = c.args in rw c.imported.ensures (record { does = by_first (first_is c.import.result) ((type_recorded (number_is c.in_ok-try_from.ensures c.in-ImportType.is) c.import.ensures.operates.does).is a.sources.now a.output.now); valid = (c.import.ensures.valid c.requires).valid; same = c.import.ensures.operates.same })

pub returns-in-RenameType : goal.returns-in-RenameType
returns-in-RenameType c = let a = c.args in rw c.imported-in-RenameType.ensures (record { does = by_first (first_is c.rename_type.result) ((rename_recorded (number_is c.in_ok-try_from.ensures c.in-RenameType.is) c.rename_type.ensures.operates.does).is a.sources.now a.output.now); valid = (c.rename_type.ensures.valid c.requires).valid; same = c.rename_type.ensures.operates.same })

pub returns-in-ImportConst : goal.returns-in-ImportConst
returns-in-ImportConst c = let a = c.args in rw c.imported-in-ImportConst.ensures (record { does = by_first (first_is c.import-in-ImportConst.result) ((constant_recorded (number_is c.in_ok-try_from.ensures c.in-ImportConst.is) c.import-in-ImportConst.ensures.operates.does).is a.sources.now a.output.now); valid = (c.import-in-ImportConst.ensures.valid c.requires).valid; same = c.import-in-ImportConst.ensures.operates.same })

pub returns-in-ImportPipelineOverride : goal.returns-in-ImportPipelineOverride
returns-in-ImportPipelineOverride c = let a = c.args in rw c.imported-in-ImportPipelineOverride.ensures (record { does = by_first (first_is c.import-in-ImportPipelineOverride.result) ((override_recorded (number_is c.in_ok-try_from.ensures c.in-ImportPipelineOverride.is) c.import-in-ImportPipelineOverride.ensures.operates.does).is a.sources.now a.output.now); valid = (c.import-in-ImportPipelineOverride.ensures.valid c.requires).valid; same = c.import-in-ImportPipelineOverride.ensures.operates.same })

pub returns-in-ImportGlobal : goal.returns-in-ImportGlobal
returns-in-ImportGlobal c = let a = c.args in rw c.imported-in-ImportGlobal.ensures (record { does = by_first (first_is c.import-in-ImportGlobal.result) ((global_recorded (number_is c.in_ok-try_from.ensures c.in-ImportGlobal.is) c.import-in-ImportGlobal.ensures.operates.does).is a.sources.now a.output.now); valid = (c.import-in-ImportGlobal.ensures.valid c.requires).valid; same = c.import-in-ImportGlobal.ensures.operates.same })

pub returns-in-ImportGlobalExpression : goal.returns-in-ImportGlobalExpression
returns-in-ImportGlobalExpression c = let a = c.args in rw c.imported-in-ImportGlobalExpression.ensures (record { does = by_first (first_is c.import-in-ImportGlobalExpression.result) ((expression_recorded (number_is c.in_ok-try_from.ensures c.in-ImportGlobalExpression.is) c.import-in-ImportGlobalExpression.ensures.operates.does).is a.sources.now a.output.now); valid = (c.import-in-ImportGlobalExpression.ensures.valid c.requires).valid; same = c.import-in-ImportGlobalExpression.ensures.operates.same })

pub returns-in-ImportFunction : goal.returns-in-ImportFunction
returns-in-ImportFunction c = let a = c.args in rw c.imported-in-ImportFunction.ensures (record { does = by_first (first_is c.import_function.result) ((function_recorded (number_is c.in_ok-try_from.ensures c.in-ImportFunction.is) c.import_function.ensures.operates.does).is a.sources.now a.output.now); valid = c.import_function.ensures.operates.valid; same = c.import_function.ensures.operates.same })

pub returns-in-ImportFunctionIfNew : goal.returns-in-ImportFunctionIfNew
returns-in-ImportFunctionIfNew c = let a = c.args in let h = c.map_function_handle.ensures.operates in rw c.imported-in-ImportFunctionIfNew.ensures (record { does = by_first (first_is c.map_function_handle.result) (elim c.in-ImportFunctionIfNew.is [ inl e ↦ (new_recorded (number_is c.in_ok-try_from.ensures e) h.does).is a.sources.now a.output.now | inr e ↦ (handle_recorded (number_is c.in_ok-try_from.ensures e) h.does).is a.sources.now a.output.now ]); valid = h.valid; same = h.same })
