use mathlib.Core.Path.{refl, sym, ◌∙◌}
use native.Mathlib.Omega.{arith}
use Prim.Native.Nat.{◌-◌, ◌<◌}
use Rattle.model.specs.Module.{count_at}
use Rattle.std.proofs.lemmas.Result.{err_from_is_err_and}
use Rattle.derive_state.specs.Refers.{tab_of}
use Rattle.derive_imports.proofs.Sources.{small_number}
use Rattle.derive_special.proofs.Steps.{ray-none, ray_old, ray_full, ray-new}
use Rattle.derive_state.proofs.State.{arrays_same}
use Rattle.derive_state.specs.Sizes.{going}
use Rattle.derive_state.proofs.Sources.{source_of}
use Rattle.derive_special.proofs.ray.Goals as goal

pub returns-then-w-eq0 : goal.returns-then-w-eq0
returns-then-w-eq0 c = let a = c.args in let src = source_of c.args.source in let q = c.requires.k_bound in let K = c.requires.valid_arrays in let P = c.requires.specials in record { does = ray-none a.source.image.words.now a.source.image.tags.now a.source.image.n src a.source.offset a.derived.now.log.now a.derived.now.logtags.now a.derived.now.starts.now a.derived.now.maps.now a.derived.now.buckets.now a.special.now (going a.ends) refl K P a.k a.w q.0 q.1 c.if-w-eq0.true; same = arrays_same _ }

pub bounds-derived-i : goal.bounds-derived-i
bounds-derived-i c = let a = c.args in let src = source_of c.args.source in let q = c.requires.k_bound in let K = c.requires.valid_arrays in let P = c.requires.specials in let ne = c.if-w-eq0.false in let x = q.1 in let hk : (a.w - 1) < count_at 1 a.source.image.words.now = omega arith in let z = small_number a.source.image.words.now a.source.image.tags.now a.source.image.n src 1 (a.w - 1) (omega arith) hk in omega arith

pub returns-then-v-ne0 : goal.returns-then-v-ne0
returns-then-v-ne0 c = let a = c.args in let src = source_of c.args.source in let q = c.requires.k_bound in let K = c.requires.valid_arrays in let P = c.requires.specials in rw c.ray-v.ensures (record { does = ray_old a.source.image.words.now a.source.image.tags.now a.source.image.n src a.source.offset a.derived.now.log.now a.derived.now.logtags.now a.derived.now.starts.now a.derived.now.maps.now a.derived.now.buckets.now a.special.now (going a.ends) refl K P a.k a.w q.0 q.1 c.if-w-eq0.false (a.w - 1) refl (λ e. c.if-v-ne0.true (c.ray-v.ensures ∙ e)); same = record { log_same = refl; logtags_same = refl; starts_same = refl; maps_same = refl; buckets_same = refl } })

pub import-requires : goal.import-requires
import-requires c = let a = c.args in let src = source_of c.args.source in let q = c.requires.k_bound in let K = c.requires.valid_arrays in let P = c.requires.specials in let ne = c.if-w-eq0.false in let x = q.1 in rw c.from.ensures (record { number_bound = (omega arith, omega arith); valid_arrays = K })

pub returns-in_err-got : goal.returns-in_err-got
unfolding tab_of
returns-in_err-got c = let a = c.args in let src = source_of c.args.source in let q = c.requires.k_bound in let K = c.requires.valid_arrays in let P = c.requires.specials in let r = err_from_is_err_and c.from_residual.result c.from_residual.ensures.1 in rw (r.1, r.2) (record { does = ray_full a.source.image.words.now a.source.image.tags.now a.source.image.n src a.source.offset a.derived.now.log.now a.derived.now.logtags.now a.derived.now.starts.now a.derived.now.maps.now a.derived.now.buckets.now a.special.now (going a.ends) refl K P a.k a.w q.0 q.1 c.if-w-eq0.false (a.w - 1) refl (sym c.ray-v.ensures ∙ c.if-v-ne0.false) _ _ _ _ _ _ (rw c.from.ensures at c.in_err-got.ensures).does refl; same = c.in_err-got.ensures.same })

pub bounds-derived-i-in_ok-got : goal.bounds-derived-i-in_ok-got
bounds-derived-i-in_ok-got c = let a = c.args in let src = source_of c.args.source in let q = c.requires.k_bound in let K = c.requires.valid_arrays in let P = c.requires.specials in let ne = c.if-w-eq0.false in let x = q.1 in let hk : (a.w - 1) < count_at 1 a.source.image.words.now = omega arith in let z = small_number a.source.image.words.now a.source.image.tags.now a.source.image.n src 1 (a.w - 1) (omega arith) hk in omega arith

pub returns : goal.returns
unfolding tab_of
returns c = let a = c.args in let src = source_of c.args.source in let q = c.requires.k_bound in let K = c.requires.valid_arrays in let P = c.requires.specials in rw c.set_ray.ensures (record { does = ray-new a.source.image.words.now a.source.image.tags.now a.source.image.n src a.source.offset a.derived.now.log.now a.derived.now.logtags.now a.derived.now.starts.now a.derived.now.maps.now a.derived.now.buckets.now a.special.now (going a.ends) refl K P a.k a.w q.0 q.1 c.if-w-eq0.false (a.w - 1) refl (sym c.ray-v.ensures ∙ c.if-v-ne0.false) _ _ _ _ _ _ (rw c.from.ensures at c.in_ok-got.ensures).does refl; same = c.in_ok-got.ensures.same })
