-- The loop over the entry points: those before i are entered, or the arrays are full.
use native.Mathlib.Omega.{arith}
use Prim.Native.Nat.{◌<◌}
use Rattle.model.specs.Module.{count_at}
use Rattle.function_entry.proofs.Sources as Sources
use Rattle.function_entry.proofs.Entering.{turn-first, turn_done, nested-entry, turn_full, turn-next}
use Rattle.derive_state.specs.Sizes.{going}
use Rattle.std.proofs.lemmas.Result.{err_from_is_err_and}
use Rattle.derive_state.proofs.State.{arrays_same, arrays_then}
use mathlib.Core.Path.{refl}
use Rattle.function_entry.proofs.enter_all.Goals as goal

pub loop-j-init : goal.loop-j-init
loop-j-init c = (let a = c.args in let L = c.requires.valid_session in let S = c.requires.stacks in let q = c.requires.ends_value in turn-first a.source.image.n a.source.offset a.source.image.words.now a.source.image.tags.now a.derived.now.log.now a.derived.now.logtags.now a.derived.now.starts.now a.derived.now.maps.now a.derived.now.buckets.now a.special.now (going a.ends) L q a.stacks.now S, arrays_same _)

pub enter-requires : goal.enter-requires
enter-requires c = let a = c.args in let L = c.requires.valid_session in let S = c.requires.stacks in let q = c.requires.ends_value in let l = c.loop-j in let h = c.loop-j-test.true in let k = c.count-room.ensures.0 in let k7 = c.count-all.ensures.0 in let i : l.j < count_at 7 a.source.image.words.now = omega arith in record { j_bound = (i, Sources.scope a.source.image.n a.source.offset a.source.image.words.now a.source.image.tags.now a.derived.now.log.now a.derived.now.logtags.now a.derived.now.starts.now a.derived.now.maps.now a.derived.now.buckets.now a.special.now (going a.ends) L); nested_e = nested-entry a.source.image.n a.source.offset a.source.image.words.now a.source.image.tags.now a.derived.now.log.now a.derived.now.logtags.now a.derived.now.starts.now a.derived.now.maps.now a.derived.now.buckets.now a.special.now (going a.ends) L l.derived.log.now l.derived.logtags.now l.derived.starts.now l.derived.maps.now l.derived.buckets.now l.stacks (going l.e) l.j l.invariant.0 i _ k; stacks = l.invariant.0.stacks_are; valid_arrays = l.invariant.0.kept }

pub returns-in_err-e : goal.returns-in_err-e
returns-in_err-e c = let p = err_from_is_err_and c.from_residual.result c.from_residual.ensures.1 in rw (p.1, p.2) (record { does = let a = c.args in let L = c.requires.valid_session in let S = c.requires.stacks in let q = c.requires.ends_value in let l = c.loop-j in let h = c.loop-j-test.true in let k = c.count-room.ensures.0 in let k7 = c.count-all.ensures.0 in let i : l.j < count_at 7 a.source.image.words.now = omega arith in turn_full a.source.image.n a.source.offset a.source.image.words.now a.source.image.tags.now a.derived.now.log.now a.derived.now.logtags.now a.derived.now.starts.now a.derived.now.maps.now a.derived.now.buckets.now a.special.now (going a.ends) L l.derived.log.now l.derived.logtags.now l.derived.starts.now l.derived.maps.now l.derived.buckets.now l.stacks (going l.e) l.j l.invariant.0 i _ k _ _ _ _ _ _ _ c.in_err-e.ensures.does refl; same = arrays_then c.loop-j.invariant.1 c.in_err-e.ensures.same })

pub loop-j-smaller : goal.loop-j-smaller
loop-j-smaller c = let y = c.loop-j-test.true in omega arith

pub loop-j-preserved : goal.loop-j-preserved
loop-j-preserved c = (let a = c.args in let L = c.requires.valid_session in let S = c.requires.stacks in let q = c.requires.ends_value in let l = c.loop-j in let h = c.loop-j-test.true in let k = c.count-room.ensures.0 in let k7 = c.count-all.ensures.0 in let i : l.j < count_at 7 a.source.image.words.now = omega arith in turn-next a.source.image.n a.source.offset a.source.image.words.now a.source.image.tags.now a.derived.now.log.now a.derived.now.logtags.now a.derived.now.starts.now a.derived.now.maps.now a.derived.now.buckets.now a.special.now (going a.ends) L l.derived.log.now l.derived.logtags.now l.derived.starts.now l.derived.maps.now l.derived.buckets.now l.stacks (going l.e) l.j l.invariant.0 i _ k _ _ _ _ _ _ _ c.in_ok-e.ensures.does refl _ (omega arith), arrays_then c.loop-j.invariant.1 c.in_ok-e.ensures.same)

pub returns : goal.returns
returns c = record { does = let a = c.args in let L = c.requires.valid_session in let S = c.requires.stacks in let q = c.requires.ends_value in let l = c.loop-j in let h = c.loop-j-test.false in let k7 = c.count-all.ensures.0 in turn_done a.source.image.n a.source.offset a.source.image.words.now a.source.image.tags.now a.derived.now.log.now a.derived.now.logtags.now a.derived.now.starts.now a.derived.now.maps.now a.derived.now.buckets.now a.special.now (going a.ends) L l.derived.log.now l.derived.logtags.now l.derived.starts.now l.derived.maps.now l.derived.buckets.now l.stacks (going l.e) l.j l.invariant.0 (omega arith); same = c.loop-j.invariant.1 }
