use mathlib.Core.Path.{refl, ap, sym}
use mathlib.Core.Bool.{false≢true}
use Prim.Native.Nat.{ℕ}
use native.Mathlib.Omega.{arith}
use lib.Seq.{length-take-le}
use lib.ListN.{replicate, length-replicate}
use Rattle.model.specs.Refusals.{answer_by}
use Rattle.theory_finish.specs.Linking.{intake_passes}
use Rattle.base_views.proofs.LaidOut.{laid_out}
use Rattle.derive_state.specs.Sizes.{going}
use Rattle.link_words.proofs.ByOrder.{source_asks, set_room, append_asks, enter_asks, enter_room, answer_fits, links_by}
use Rattle.derive_finish.proofs.Refused.{not_zero}
use Rattle.link_words.proofs.Appending.{seq_taken}
use Rattle.link_words.proofs.link_in_order.Goals as goal

pub invariant_of-image-clause-laid_out : goal.invariant_of-image-clause-laid_out
invariant_of-image-clause-laid_out c = laid_out (record { holds = _; taped = c.requires.linkable.source_is.taped })

pub invariant_of-source-clause-test_3 : goal.invariant_of-source-clause-test_3
invariant_of-source-clause-test_3 c = c.requires.linkable.source_is.three

pub invariant_of-source-clause-test_4 : goal.invariant_of-source-clause-test_4
invariant_of-source-clause-test_4 c = c.requires.linkable.source_is.four

pub invariant_of-source-clause-test_5 : goal.invariant_of-source-clause-test_5
invariant_of-source-clause-test_5 c = (intake_passes _ _ _ c.requires.linkable.linking.passes c.requires.linkable.linking.reads).names

pub source_types-requires-clause-valid_arrays : goal.source_types-requires-clause-valid_arrays
source_types-requires-clause-valid_arrays c = let a = c.args in let e = c.empty in (source_asks a.words.now a.tags.now a.n a.order.now a.output.now c.requires.linkable a.derived.now.log.now a.derived.now.logtags.now a.derived.now.starts.now (replicate 16384 0) a.stacks.now c.requires.scratch_lengths (length-replicate {A = ℕ} 16384 0) (going e.result) (ap (λ y. going y) e.ensures)).2

-- what is imported fits, so the refusals for a full module are not given
pub returns-in_err-set : goal.returns-in_err-set
returns-in_err-set c = let a = c.args in let e = c.empty in absurd (false≢true (sym (set_room a.words.now a.tags.now a.n a.order.now a.output.now c.requires.linkable a.derived.now.log.now a.derived.now.logtags.now a.derived.now.starts.now (replicate 16384 0) a.stacks.now c.requires.scratch_lengths (length-replicate {A = ℕ} 16384 0) (going e.result) (ap (λ y. going y) e.ensures) _ _ _ _ _ _ _ (rw (c.source.ensures.0, c.source.ensures.1, c.new-special.ensures) at c.in_err-set.ensures.does))))

pub append_all-requires-clause-valid_session : goal.append_all-requires-clause-valid_session
append_all-requires-clause-valid_session c = let a = c.args in let e = c.empty in (append_asks a.words.now a.tags.now a.n a.order.now a.output.now c.requires.linkable a.derived.now.log.now a.derived.now.logtags.now a.derived.now.starts.now (replicate 16384 0) a.stacks.now c.requires.scratch_lengths (length-replicate {A = ℕ} 16384 0) (going e.result) (ap (λ y. going y) e.ensures) _ _ _ _ _ _ _ (rw (c.source.ensures.0, c.source.ensures.1, c.new-special.ensures) at c.in_ok-set.ensures.does) _ c.count-all.ensures.0).0

pub append_all-requires-clause-sequence : goal.append_all-requires-clause-sequence
append_all-requires-clause-sequence c = let a = c.args in let e = c.empty in seq_taken _ _ _ _ (append_asks a.words.now a.tags.now a.n a.order.now a.output.now c.requires.linkable a.derived.now.log.now a.derived.now.logtags.now a.derived.now.starts.now (replicate 16384 0) a.stacks.now c.requires.scratch_lengths (length-replicate {A = ℕ} 16384 0) (going e.result) (ap (λ y. going y) e.ensures) _ _ _ _ _ _ _ (rw (c.source.ensures.0, c.source.ensures.1, c.new-special.ensures) at c.in_ok-set.ensures.does) _ c.count-all.ensures.0).2

pub slice_bounds-append_all-end : goal.slice_bounds-append_all-end
slice_bounds-append_all-end c = sym (length-take-le c.count-all.result c.args.order.now (omega (arith, c.requires.linkable.sequence.long, c.count-all.ensures.0)))

pub append_all-requires-clause-roomy : goal.append_all-requires-clause-roomy
append_all-requires-clause-roomy c = let a = c.args in let e = c.empty in (append_asks a.words.now a.tags.now a.n a.order.now a.output.now c.requires.linkable a.derived.now.log.now a.derived.now.logtags.now a.derived.now.starts.now (replicate 16384 0) a.stacks.now c.requires.scratch_lengths (length-replicate {A = ℕ} 16384 0) (going e.result) (ap (λ y. going y) e.ensures) _ _ _ _ _ _ _ (rw (c.source.ensures.0, c.source.ensures.1, c.new-special.ensures) at c.in_ok-set.ensures.does) _ c.count-all.ensures.0).3

pub enter_all-requires-clause-ends_value : goal.enter_all-requires-clause-ends_value
enter_all-requires-clause-ends_value c = let a = c.args in let e = c.empty in (enter_asks a.words.now a.tags.now a.n a.order.now a.output.now c.requires.linkable a.derived.now.log.now a.derived.now.logtags.now a.derived.now.starts.now (replicate 16384 0) a.stacks.now c.requires.scratch_lengths (length-replicate {A = ℕ} 16384 0) (going e.result) (ap (λ y. going y) e.ensures) _ _ _ _ _ _ _ (rw (c.source.ensures.0, c.source.ensures.1, c.new-special.ensures) at c.in_ok-set.ensures.does) _ c.count-all.ensures.0 _ _ _ _ _ _ _ c.in_ok-appended.ensures.does).2

pub returns-in_err-ends : goal.returns-in_err-ends
returns-in_err-ends c = let a = c.args in let e = c.empty in absurd (false≢true (sym (enter_room a.words.now a.tags.now a.n a.order.now a.output.now c.requires.linkable a.derived.now.log.now a.derived.now.logtags.now a.derived.now.starts.now (replicate 16384 0) a.stacks.now c.requires.scratch_lengths (length-replicate {A = ℕ} 16384 0) (going e.result) (ap (λ y. going y) e.ensures) _ _ _ _ _ _ _ (rw (c.source.ensures.0, c.source.ensures.1, c.new-special.ensures) at c.in_ok-set.ensures.does) _ c.count-all.ensures.0 _ _ _ _ _ _ _ c.in_ok-appended.ensures.does _ _ _ _ _ _ _ c.in_err-ends.ensures.does)))

pub overflow_cast-result : goal.overflow_cast-result
overflow_cast-result c = let a = c.args in let e = c.empty in let v = c.view.ensures in let z = answer_fits a.words.now a.tags.now a.n a.order.now a.output.now c.requires.linkable a.derived.now.log.now a.derived.now.logtags.now a.derived.now.starts.now (replicate 16384 0) a.stacks.now c.requires.scratch_lengths (length-replicate {A = ℕ} 16384 0) (going e.result) (ap (λ y. going y) e.ensures) _ _ _ _ _ _ _ (rw (c.source.ensures.0, c.source.ensures.1, c.new-special.ensures) at c.in_ok-set.ensures.does) _ c.count-all.ensures.0 _ _ _ _ _ _ _ c.in_ok-appended.ensures.does _ _ _ _ _ _ _ c.in_ok-ends.ensures.does 0 _ c.finish.new.output (rw (v.0, v.1, v.2, v.5) at c.in_ok-bytes.ensures) in omega (arith, z.1)

pub returns : goal.returns
unfolding answer_by
returns c = let a = c.args in let e = c.empty in let v = c.view.ensures in links_by a.words.now a.tags.now a.n a.order.now a.output.now c.requires.linkable a.derived.now.log.now a.derived.now.logtags.now a.derived.now.starts.now (replicate 16384 0) a.stacks.now c.requires.scratch_lengths (length-replicate {A = ℕ} 16384 0) (going e.result) (ap (λ y. going y) e.ensures) _ _ _ _ _ _ _ (rw (c.source.ensures.0, c.source.ensures.1, c.new-special.ensures) at c.in_ok-set.ensures.does) _ c.count-all.ensures.0 _ _ _ _ _ _ _ c.in_ok-appended.ensures.does _ _ _ _ _ _ _ c.in_ok-ends.ensures.does 0 _ c.finish.new.output (rw (v.0, v.1, v.2, v.5) at c.in_ok-bytes.ensures) _ refl

pub returns-in_err-bytes : goal.returns-in_err-bytes
returns-in_err-bytes c = let a = c.args in let e = c.empty in let v = c.view.ensures in absurd (not_zero _ (answer_fits a.words.now a.tags.now a.n a.order.now a.output.now c.requires.linkable a.derived.now.log.now a.derived.now.logtags.now a.derived.now.starts.now (replicate 16384 0) a.stacks.now c.requires.scratch_lengths (length-replicate {A = ℕ} 16384 0) (going e.result) (ap (λ y. going y) e.ensures) _ _ _ _ _ _ _ (rw (c.source.ensures.0, c.source.ensures.1, c.new-special.ensures) at c.in_ok-set.ensures.does) _ c.count-all.ensures.0 _ _ _ _ _ _ _ c.in_ok-appended.ensures.does _ _ _ _ _ _ _ c.in_ok-ends.ensures.does _ _ c.finish.new.output (rw (v.0, v.1, v.2, v.5) at c.in_err-bytes.ensures)).0)
