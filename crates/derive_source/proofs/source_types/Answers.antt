use mathlib.Core.Path.{refl}
use lib.ListN.{replicate}
use Rattle.std.proofs.lemmas.Result.{err_from_is_err_and}
use Rattle.derive_state.proofs.State.{arrays_then}
use Rattle.derive_source.proofs.Setting.{forget_kept, set_rays_full, set-pairs}
use Rattle.derive_state.specs.Sizes.{going}
use Rattle.derive_state.proofs.Sources.{source_of}
use Rattle.derive_source.proofs.source_types.Goals as goal

pub rays-requires : goal.rays-requires
rays-requires c = let a = c.args in let src = source_of c.args.source in let K = c.requires.valid_arrays in let P = c.requires.specials in record { valid_arrays = forget_kept a.source.image.words.now a.source.image.tags.now a.source.image.n src a.source.offset a.derived.now.log.now a.derived.now.logtags.now a.derived.now.starts.now (replicate 6 (replicate 512 0)) a.derived.now.buckets.now a.special.now (going a.ends) refl K P _ c.clear_maps.ensures; specials = P }

pub returns-in_err-e : goal.returns-in_err-e
returns-in_err-e c = let a = c.args in let src = source_of c.args.source in let K = c.requires.valid_arrays in let P = c.requires.specials in let z = c.in_err-e.ensures.same in let r = err_from_is_err_and c.from_residual.result c.from_residual.ensures.1 in rw (r.1, r.2) (record { does = set_rays_full a.source.image.words.now a.source.image.tags.now a.source.image.n src a.source.offset a.derived.now.log.now a.derived.now.logtags.now a.derived.now.starts.now (replicate 6 (replicate 512 0)) a.derived.now.buckets.now a.special.now (going a.ends) refl K P _ c.clear_maps.ensures _ _ _ _ _ _ _ c.in_err-e.ensures.does refl; same = record { log_same = z.log_same; logtags_same = z.logtags_same; starts_same = z.starts_same; maps_same = z.maps_same; buckets_same = z.buckets_same } })

pub pairs-requires : goal.pairs-requires
pairs-requires c = let D = c.in_ok-e.ensures.does in record { valid_arrays = D.kept refl; specials = D.specials refl }

pub returns : goal.returns
returns c = let a = c.args in let src = source_of c.args.source in let K = c.requires.valid_arrays in let P = c.requires.specials in let z = arrays_then c.in_ok-e.ensures.same c.pairs.ensures.same in record { does = set-pairs a.source.image.words.now a.source.image.tags.now a.source.image.n src a.source.offset a.derived.now.log.now a.derived.now.logtags.now a.derived.now.starts.now (replicate 6 (replicate 512 0)) a.derived.now.buckets.now a.special.now (going a.ends) refl K P _ c.clear_maps.ensures _ _ _ _ _ _ _ c.in_ok-e.ensures.does refl _ _ _ _ _ _ _ c.pairs.ensures.does; same = record { log_same = z.log_same; logtags_same = z.logtags_same; starts_same = z.starts_same; maps_same = z.maps_same; buckets_same = z.buckets_same } }
