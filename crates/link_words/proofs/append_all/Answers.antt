use mathlib.Core.Path.{refl, sym, subst}
use mathlib.Core.Bool.{false≢true}
use lib.ListN.{length, take}
use lib.Seq.{take-length}
use native.Mathlib.Omega.{arith}
use Rattle.model.specs.Link.{append_all}
use Rattle.derive_state.specs.Source.{mod_of}
use Rattle.derive_state.specs.Held.{st_of}
use Rattle.link_words.proofs.Appending.{turn-first, turn_asks, turn-next, turn_last}
use Rattle.derive_state.specs.Sizes.{going}
use Rattle.derive_state.proofs.State.{arrays_same, arrays_then}
use Rattle.link_words.specs.Appends.{Roomy}
use Rattle.link_words.proofs.append_all.Goals as goal

pub loop-f-init : goal.loop-f-init
loop-f-init c = (let a = c.args in turn-first a.image.words.now a.image.tags.now a.image.n a.order.now (length a.order.now) c.requires.sequence a.derived.now.log.now a.derived.now.logtags.now a.derived.now.starts.now a.derived.now.maps.now a.derived.now.buckets.now a.special.now a.stacks.now (going a.ends) c.requires.valid_session c.requires.stacks (subst (λ l. Roomy (mod_of a.image.words.now a.image.n) l (st_of a.image.words.now a.derived.now.log.now a.derived.now.logtags.now a.derived.now.starts.now a.derived.now.maps.now a.special.now (going a.ends))) (sym (take-length a.order.now)) c.requires.roomy), arrays_same _)

pub invariant_of-source-clause-test_3 : goal.invariant_of-source-clause-test_3
invariant_of-source-clause-test_3 c = (c.requires.valid_session.passes refl).numbers

pub invariant_of-source-clause-test_4 : goal.invariant_of-source-clause-test_4
invariant_of-source-clause-test_4 c = (c.requires.valid_session.passes refl).lowers

pub invariant_of-source-clause-test_5 : goal.invariant_of-source-clause-test_5
invariant_of-source-clause-test_5 c = (c.requires.valid_session.passes refl).names

pub append-requires : goal.append-requires
append-requires c = let a = c.args in let l = c.loop-f in let z = turn_asks a.image.words.now a.image.tags.now a.image.n a.order.now (length a.order.now) c.requires.sequence (append_all (take (length a.order.now) a.order.now) 0 (mod_of a.image.words.now a.image.n) (st_of a.image.words.now a.derived.now.log.now a.derived.now.logtags.now a.derived.now.starts.now a.derived.now.maps.now a.special.now (going a.ends))) l.f-index l.derived.log.now l.derived.logtags.now l.derived.starts.now l.derived.maps.now l.derived.buckets.now a.special.now l.stacks (going l.e) l.invariant.0 (omega arith) _ refl in record { f_bound = z.1; nested_f = z.2; stacks = z.3.1; valid_arrays = z.4 }

pub loop-f-preserved : goal.loop-f-preserved
loop-f-preserved c = (let a = c.args in let l = c.loop-f in turn-next a.image.words.now a.image.tags.now a.image.n a.order.now (length a.order.now) c.requires.sequence (append_all (take (length a.order.now) a.order.now) 0 (mod_of a.image.words.now a.image.n) (st_of a.image.words.now a.derived.now.log.now a.derived.now.logtags.now a.derived.now.starts.now a.derived.now.maps.now a.special.now (going a.ends))) l.f-index l.derived.log.now l.derived.logtags.now l.derived.starts.now l.derived.maps.now l.derived.buckets.now a.special.now l.stacks (going l.e) l.invariant.0 (omega arith) _ refl _ _ _ _ _ _ _ c.in_ok-e.ensures.does, arrays_then c.loop-f.invariant.1 c.in_ok-e.ensures.same)

pub returns : goal.returns
returns c = record { does = let a = c.args in let l = c.loop-f in rw (take-length a.order.now) at (turn_last a.image.words.now a.image.tags.now a.image.n a.order.now (length a.order.now) c.requires.sequence (append_all (take (length a.order.now) a.order.now) 0 (mod_of a.image.words.now a.image.n) (st_of a.image.words.now a.derived.now.log.now a.derived.now.logtags.now a.derived.now.starts.now a.derived.now.maps.now a.special.now (going a.ends))) l.f-index l.derived.log.now l.derived.logtags.now l.derived.starts.now l.derived.maps.now l.derived.buckets.now a.special.now l.stacks (going l.e) l.invariant.0 (omega arith) a.derived.now.log.now a.derived.now.logtags.now a.derived.now.starts.now a.derived.now.maps.now (going a.ends) refl); same = c.loop-f.invariant.1 }

-- the next function fits, so this way is not taken
pub returns-in_err-e : goal.returns-in_err-e
returns-in_err-e c = let a = c.args in let l = c.loop-f in absurd (false≢true (sym (turn-next a.image.words.now a.image.tags.now a.image.n a.order.now (length a.order.now) c.requires.sequence (append_all (take (length a.order.now) a.order.now) 0 (mod_of a.image.words.now a.image.n) (st_of a.image.words.now a.derived.now.log.now a.derived.now.logtags.now a.derived.now.starts.now a.derived.now.maps.now a.special.now (going a.ends))) l.f-index l.derived.log.now l.derived.logtags.now l.derived.starts.now l.derived.maps.now l.derived.buckets.now a.special.now l.stacks (going l.e) l.invariant.0 (omega arith) _ refl _ _ _ _ _ _ _ c.in_err-e.ensures.does).live.going))
