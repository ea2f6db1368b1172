use mathlib.Core.Path.{refl}
use native.Mathlib.Omega.{arith}
use Rattle.std.proofs.lemmas.Result.{err_from_is_err_and}
use Rattle.derive_state.proofs.State.{arrays_same, arrays_then}
use Rattle.derive_source.proofs.Loops.{pairs_first, pairs_done, pairs_low, pairs_in_lem, pairs_full, pairs_next}
use Rattle.derive_state.specs.Sizes.{going}
use Rattle.derive_state.proofs.Sources.{source_of}
use Rattle.derive_source.proofs.pairs.Goals as goal

pub loop-i-init : goal.loop-i-init
loop-i-init c = let a = c.args in let src = source_of c.args.source in let K = c.requires.valid_arrays in let P = c.requires.specials in (pairs_first a.source.image.words.now a.source.image.tags.now a.source.image.n src a.source.offset a.derived.now.log.now a.derived.now.logtags.now a.derived.now.starts.now a.derived.now.maps.now a.derived.now.buckets.now a.special.now (going a.ends) refl K P, arrays_same _)

pub pair_at-at-requires : goal.pair_at-at-requires
pair_at-at-requires c = let z = c.count-c.ensures.1 in let y = c.loop-i-test.true in omega arith

pub offset_bounds-source-at : goal.offset_bounds-source-at
offset_bounds-source-at c = let a = c.args in let src = source_of c.args.source in let K = c.requires.valid_arrays in let P = c.requires.specials in let l = c.loop-i in let z = pairs_in_lem a.source.image.words.now a.source.image.tags.now a.source.image.n src a.source.offset a.derived.now.log.now a.derived.now.logtags.now a.derived.now.starts.now a.derived.now.maps.now a.derived.now.buckets.now a.special.now (going a.ends) refl K P l.derived.log.now l.derived.logtags.now l.derived.starts.now l.derived.maps.now l.derived.buckets.now l.special (going l.e) l.i l.invariant.0 (rw (← c.count-c.ensures.0) c.loop-i-test.true) c.pair_at-at.result c.pair_at-at.ensures in omega arith

pub bounds-source-at : goal.bounds-source-at
bounds-source-at c = let a = c.args in let src = source_of c.args.source in let K = c.requires.valid_arrays in let P = c.requires.specials in let l = c.loop-i in let z = pairs_in_lem a.source.image.words.now a.source.image.tags.now a.source.image.n src a.source.offset a.derived.now.log.now a.derived.now.logtags.now a.derived.now.starts.now a.derived.now.maps.now a.derived.now.buckets.now a.special.now (going a.ends) refl K P l.derived.log.now l.derived.logtags.now l.derived.starts.now l.derived.maps.now l.derived.buckets.now l.special (going l.e) l.i l.invariant.0 (rw (← c.count-c.ensures.0) c.loop-i-test.true) c.pair_at-at.result c.pair_at-at.ensures in omega arith

pub overflow_add-at : goal.overflow_add-at
overflow_add-at c = let a = c.args in let src = source_of c.args.source in let K = c.requires.valid_arrays in let P = c.requires.specials in let l = c.loop-i in let z = pairs_in_lem a.source.image.words.now a.source.image.tags.now a.source.image.n src a.source.offset a.derived.now.log.now a.derived.now.logtags.now a.derived.now.starts.now a.derived.now.maps.now a.derived.now.buckets.now a.special.now (going a.ends) refl K P l.derived.log.now l.derived.logtags.now l.derived.starts.now l.derived.maps.now l.derived.buckets.now l.special (going l.e) l.i l.invariant.0 (rw (← c.count-c.ensures.0) c.loop-i-test.true) c.pair_at-at.result c.pair_at-at.ensures in omega arith

pub offset_bounds-source-at-in-loop-i : goal.offset_bounds-source-at-in-loop-i
offset_bounds-source-at-in-loop-i c = let a = c.args in let src = source_of c.args.source in let K = c.requires.valid_arrays in let P = c.requires.specials in let l = c.loop-i in let z = pairs_in_lem a.source.image.words.now a.source.image.tags.now a.source.image.n src a.source.offset a.derived.now.log.now a.derived.now.logtags.now a.derived.now.starts.now a.derived.now.maps.now a.derived.now.buckets.now a.special.now (going a.ends) refl K P l.derived.log.now l.derived.logtags.now l.derived.starts.now l.derived.maps.now l.derived.buckets.now l.special (going l.e) l.i l.invariant.0 (rw (← c.count-c.ensures.0) c.loop-i-test.true) c.pair_at-at.result c.pair_at-at.ensures in omega arith

pub bounds-source-at-in-loop-i : goal.bounds-source-at-in-loop-i
bounds-source-at-in-loop-i c = let a = c.args in let src = source_of c.args.source in let K = c.requires.valid_arrays in let P = c.requires.specials in let l = c.loop-i in pairs_in_lem a.source.image.words.now a.source.image.tags.now a.source.image.n src a.source.offset a.derived.now.log.now a.derived.now.logtags.now a.derived.now.starts.now a.derived.now.maps.now a.derived.now.buckets.now a.special.now (going a.ends) refl K P l.derived.log.now l.derived.logtags.now l.derived.starts.now l.derived.maps.now l.derived.buckets.now l.special (going l.e) l.i l.invariant.0 (rw (← c.count-c.ensures.0) c.loop-i-test.true) c.pair_at-at.result c.pair_at-at.ensures

pub pair-requires : goal.pair-requires
pair-requires c = let a = c.args in let src = source_of c.args.source in let K = c.requires.valid_arrays in let P = c.requires.specials in let l = c.loop-i in record { h_bound = (pairs_low a.source.image.words.now a.source.image.tags.now a.source.image.n src a.source.offset a.derived.now.log.now a.derived.now.logtags.now a.derived.now.starts.now a.derived.now.maps.now a.derived.now.buckets.now a.special.now (going a.ends) refl K P l.derived.log.now l.derived.logtags.now l.derived.starts.now l.derived.maps.now l.derived.buckets.now l.special (going l.e) l.i l.invariant.0 (rw (← c.count-c.ensures.0) c.loop-i-test.true) c.pair_at-at.result c.pair_at-at.ensures); valid_arrays = l.invariant.0.turn.kept; specials = l.invariant.0.turn.specials }

pub returns-in_err-e : goal.returns-in_err-e
returns-in_err-e c = let a = c.args in let src = source_of c.args.source in let K = c.requires.valid_arrays in let P = c.requires.specials in let l = c.loop-i in let r = err_from_is_err_and c.from_residual.result c.from_residual.ensures.1 in rw (r.1, r.2) (record { does = pairs_full a.source.image.words.now a.source.image.tags.now a.source.image.n src a.source.offset a.derived.now.log.now a.derived.now.logtags.now a.derived.now.starts.now a.derived.now.maps.now a.derived.now.buckets.now a.special.now (going a.ends) refl K P l.derived.log.now l.derived.logtags.now l.derived.starts.now l.derived.maps.now l.derived.buckets.now l.special (going l.e) l.i l.invariant.0 (rw (← c.count-c.ensures.0) c.loop-i-test.true) c.pair_at-at.result c.pair_at-at.ensures _ _ _ _ _ _ _ c.in_err-e.ensures.does refl; same = arrays_then l.invariant.1 c.in_err-e.ensures.same })

pub loop-i-smaller : goal.loop-i-smaller
loop-i-smaller c = let y = c.loop-i-test.true in omega arith

pub loop-i-preserved : goal.loop-i-preserved
loop-i-preserved c = let a = c.args in let src = source_of c.args.source in let K = c.requires.valid_arrays in let P = c.requires.specials in let l = c.loop-i in (pairs_next a.source.image.words.now a.source.image.tags.now a.source.image.n src a.source.offset a.derived.now.log.now a.derived.now.logtags.now a.derived.now.starts.now a.derived.now.maps.now a.derived.now.buckets.now a.special.now (going a.ends) refl K P l.derived.log.now l.derived.logtags.now l.derived.starts.now l.derived.maps.now l.derived.buckets.now l.special (going l.e) l.i l.invariant.0 (rw (← c.count-c.ensures.0) c.loop-i-test.true) c.pair_at-at.result c.pair_at-at.ensures _ _ _ _ _ _ _ c.in_ok-e.ensures.does refl, arrays_then l.invariant.1 c.in_ok-e.ensures.same)

pub returns : goal.returns
returns c = let a = c.args in let src = source_of c.args.source in let K = c.requires.valid_arrays in let P = c.requires.specials in let l = c.loop-i in record { does = pairs_done a.source.image.words.now a.source.image.tags.now a.source.image.n src a.source.offset a.derived.now.log.now a.derived.now.logtags.now a.derived.now.starts.now a.derived.now.maps.now a.derived.now.buckets.now a.special.now (going a.ends) refl K P l.derived.log.now l.derived.logtags.now l.derived.starts.now l.derived.maps.now l.derived.buckets.now l.special (going l.e) l.i l.invariant.0 (rw (← c.count-c.ensures.0) c.loop-i-test.false); same = l.invariant.1 }
