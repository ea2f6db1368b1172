-- `finish_plain` meets its contract: refused, or finished, and then the session is a new one.
use mathlib.Core.Path.{refl, ap}
use Rattle.std.proofs.lemmas.Result.{err_from_is_err_and}
use Rattle.derive_state.proofs.State.{arrays_same}
use Rattle.derive_session.specs.Valid.{session_of}
use Rattle.derive_finish.proofs.Refused.{not_zero}
use Rattle.session_operations.proofs.Finishing.{finish_refused, finish_done, unset_valid}
use Rattle.session_operations.specs.Theorems.{finishes_valid}
use Rattle.session_operations.proofs.finish_plain.Goals as goal

pub returns-in_err-bytes-clause-finishes : goal.returns-in_err-bytes-clause-finishes
returns-in_err-bytes-clause-finishes c = let a = c.args in let v = c.view.ensures in let p = err_from_is_err_and c.from_residual.result c.from_residual.ensures.1 in let zz = finish_refused _ _ _ _ _ _ _ _ _ _ _ _ c.requires a.output.now _ _ _ (rw (v.0, v.1, v.2, v.5) at c.in_err-bytes.ensures) (not_zero _) in rw (p.1, p.2) (record { does = zz.0; valid = zz.1; same = record { words_same = refl; tags_same = refl; derived_same = arrays_same _; special_same = refl; stacks_same = refl } })

pub returns-clause-finishes : goal.returns-clause-finishes
unfolding session_of
returns-clause-finishes c = let a = c.args in let v = c.view.ensures in let zz = finish_done _ _ _ _ _ _ _ _ _ _ _ _ c.requires a.output.now _ _ _ (rw (v.0, v.1, v.2, v.5) at c.in_ok-bytes.ensures) refl _ refl _ refl in rw c.renew.ensures (record { does = zz.0; valid = unset_valid zz.1; same = record { words_same = refl; tags_same = refl; derived_same = record { log_same = refl; logtags_same = refl; starts_same = refl; maps_same = refl; buckets_same = refl }; special_same = refl; stacks_same = refl } })

pub returns-in_err-bytes-clause-valid : goal.returns-in_err-bytes-clause-valid
returns-in_err-bytes-clause-valid c = λ v. finishes_valid v refl (returns-in_err-bytes-clause-finishes c)

pub returns-clause-valid : goal.returns-clause-valid
returns-clause-valid c = λ v. finishes_valid {s' = c.renew.new.session} v (ap (λ s. s.stacks.now) c.renew.ensures) (returns-clause-finishes c)
