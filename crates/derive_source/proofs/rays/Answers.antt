use mathlib.Core.Path.{refl}
use native.Mathlib.Omega.{arith}
use Rattle.std.proofs.lemmas.Result.{err_from_is_err_and}
use Rattle.derive_state.proofs.State.{arrays_same, arrays_then}
use Rattle.derive_source.proofs.Loops.{rays-first, rays_done, rays_low, rays_in, rays_full, rays-next}
use Rattle.derive_state.specs.Sizes.{going}
use Rattle.derive_state.proofs.Sources.{source_of}
use Rattle.derive_source.proofs.rays.Goals as goal

pub loop-j-init : goal.loop-j-init
loop-j-init c = let a = c.args in let src = source_of c.args.source in let K = c.requires.valid_arrays in let P = c.requires.specials in (rays-first a.source.image.words.now a.source.image.tags.now a.source.image.n src a.source.offset a.derived.now.log.now a.derived.now.logtags.now a.derived.now.starts.now a.derived.now.maps.now a.derived.now.buckets.now a.special.now (going a.ends) refl K P, arrays_same _)

pub overflow_add-at : goal.overflow_add-at
overflow_add-at c = let a = c.args in let src = source_of c.args.source in let K = c.requires.valid_arrays in let P = c.requires.specials in let l = c.loop-j in let z = rays_in a.source.image.words.now a.source.image.tags.now a.source.image.n src a.source.offset a.derived.now.log.now a.derived.now.logtags.now a.derived.now.starts.now a.derived.now.maps.now a.derived.now.buckets.now a.special.now (going a.ends) refl K P l.derived.log.now l.derived.logtags.now l.derived.starts.now l.derived.maps.now l.derived.buckets.now l.special (going l.e) l.j l.invariant.0 c.loop-j-test.true c.offset-at.result c.offset-at.ensures.0 in omega arith

pub offset_bounds-source-at : goal.offset_bounds-source-at
offset_bounds-source-at c = let a = c.args in let src = source_of c.args.source in let K = c.requires.valid_arrays in let P = c.requires.specials in let l = c.loop-j in let z = rays_in a.source.image.words.now a.source.image.tags.now a.source.image.n src a.source.offset a.derived.now.log.now a.derived.now.logtags.now a.derived.now.starts.now a.derived.now.maps.now a.derived.now.buckets.now a.special.now (going a.ends) refl K P l.derived.log.now l.derived.logtags.now l.derived.starts.now l.derived.maps.now l.derived.buckets.now l.special (going l.e) l.j l.invariant.0 c.loop-j-test.true c.offset-at.result c.offset-at.ensures.0 in omega arith

pub bounds-source-at : goal.bounds-source-at
bounds-source-at c = let a = c.args in let src = source_of c.args.source in let K = c.requires.valid_arrays in let P = c.requires.specials in let l = c.loop-j in rays_in a.source.image.words.now a.source.image.tags.now a.source.image.n src a.source.offset a.derived.now.log.now a.derived.now.logtags.now a.derived.now.starts.now a.derived.now.maps.now a.derived.now.buckets.now a.special.now (going a.ends) refl K P l.derived.log.now l.derived.logtags.now l.derived.starts.now l.derived.maps.now l.derived.buckets.now l.special (going l.e) l.j l.invariant.0 c.loop-j-test.true c.offset-at.result c.offset-at.ensures.0

pub ray-requires : goal.ray-requires
ray-requires c = let a = c.args in let src = source_of c.args.source in let K = c.requires.valid_arrays in let P = c.requires.specials in let l = c.loop-j in record { k_bound = (c.loop-j-test.true, rays_low a.source.image.words.now a.source.image.tags.now a.source.image.n src a.source.offset a.derived.now.log.now a.derived.now.logtags.now a.derived.now.starts.now a.derived.now.maps.now a.derived.now.buckets.now a.special.now (going a.ends) refl K P l.derived.log.now l.derived.logtags.now l.derived.starts.now l.derived.maps.now l.derived.buckets.now l.special (going l.e) l.j l.invariant.0 c.loop-j-test.true c.offset-at.result c.offset-at.ensures.0); valid_arrays = l.invariant.0.turn.kept; specials = l.invariant.0.turn.specials }

pub returns-in_err-e : goal.returns-in_err-e
returns-in_err-e c = let a = c.args in let src = source_of c.args.source in let K = c.requires.valid_arrays in let P = c.requires.specials in let l = c.loop-j in let r = err_from_is_err_and c.from_residual.result c.from_residual.ensures.1 in rw (r.1, r.2) (record { does = rays_full a.source.image.words.now a.source.image.tags.now a.source.image.n src a.source.offset a.derived.now.log.now a.derived.now.logtags.now a.derived.now.starts.now a.derived.now.maps.now a.derived.now.buckets.now a.special.now (going a.ends) refl K P l.derived.log.now l.derived.logtags.now l.derived.starts.now l.derived.maps.now l.derived.buckets.now l.special (going l.e) l.j l.invariant.0 c.loop-j-test.true c.offset-at.result c.offset-at.ensures.0 _ _ _ _ _ _ _ c.in_err-e.ensures.does refl; same = arrays_then l.invariant.1 c.in_err-e.ensures.same })

pub loop-j-smaller : goal.loop-j-smaller
loop-j-smaller c = let l = c.loop-j-test.true in omega arith

pub loop-j-preserved : goal.loop-j-preserved
loop-j-preserved c = let a = c.args in let src = source_of c.args.source in let K = c.requires.valid_arrays in let P = c.requires.specials in let l = c.loop-j in (rays-next a.source.image.words.now a.source.image.tags.now a.source.image.n src a.source.offset a.derived.now.log.now a.derived.now.logtags.now a.derived.now.starts.now a.derived.now.maps.now a.derived.now.buckets.now a.special.now (going a.ends) refl K P l.derived.log.now l.derived.logtags.now l.derived.starts.now l.derived.maps.now l.derived.buckets.now l.special (going l.e) l.j l.invariant.0 c.loop-j-test.true c.offset-at.result c.offset-at.ensures.0 _ _ _ _ _ _ _ c.in_ok-e.ensures.does refl, arrays_then l.invariant.1 c.in_ok-e.ensures.same)

pub returns : goal.returns
returns c = let a = c.args in let src = source_of c.args.source in let K = c.requires.valid_arrays in let P = c.requires.specials in let l = c.loop-j in record { does = rays_done a.source.image.words.now a.source.image.tags.now a.source.image.n src a.source.offset a.derived.now.log.now a.derived.now.logtags.now a.derived.now.starts.now a.derived.now.maps.now a.derived.now.buckets.now a.special.now (going a.ends) refl K P l.derived.log.now l.derived.logtags.now l.derived.starts.now l.derived.maps.now l.derived.buckets.now l.special (going l.e) l.j l.invariant.0 c.loop-j-test.false; same = l.invariant.1 }
