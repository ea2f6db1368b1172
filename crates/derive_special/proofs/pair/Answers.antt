use mathlib.Core.Path.{◌≡◌, refl, sym, ap, ◌∙◌}
use native.Mathlib.Omega.{arith}
use Prim.Native.Nat.{◌<◌}
use lib.ListN.{get_or}
use Rattle.model.specs.Module.{count_at, limits}
use Rattle.std.proofs.lemmas.Result.{err_from_is_err_and}
use Rattle.derive_state.specs.Refers.{tab_of}
use Rattle.derive_imports.proofs.Sources.{small_number}
use Rattle.derive_special.proofs.Steps.{pair_low, pair_old, pair_full, pair-mapped, pair_many, pair_left, pair-new}
use Rattle.derive_state.specs.Sizes.{going}
use Rattle.derive_state.proofs.Sources.{source_of}
use Rattle.derive_special.proofs.pair.Goals as goal
use Rattle.derive_special.proofs.pair.Goals.{then-p-limit-via-then-p-limit, then-p-limit-via-else-p-limit+then-words_left-lt2}

-- how many pairs there may be
most : get_or limits 8 0 ≡ 512
unfolding limits
most = refl

pub overflow_add-derived : goal.overflow_add-derived
overflow_add-derived c = let a = c.args in let src = source_of c.args.source in let q = c.requires.h_bound in let K = c.requires.valid_arrays in let P = c.requires.specials in let z = pair_low a.source.image.words.now a.source.image.tags.now a.source.image.n src a.source.offset a.derived.now.log.now a.derived.now.logtags.now a.derived.now.starts.now a.derived.now.maps.now a.derived.now.buckets.now a.special.now (going a.ends) refl K P a.key a.h.0 q a.h.0 refl _ c.in-Some.ensures in let y = K.few 1 (omega arith) in omega arith

pub bounds-derived-i : goal.bounds-derived-i
bounds-derived-i c = let a = c.args in let src = source_of c.args.source in let q = c.requires.h_bound in let K = c.requires.valid_arrays in let P = c.requires.specials in let hk : a.h.0 < count_at 1 a.source.image.words.now = omega arith in let z = small_number a.source.image.words.now a.source.image.tags.now a.source.image.n src 1 a.h.0 (omega arith) hk in omega arith

pub returns-in-Some : goal.returns-in-Some
returns-in-Some c = let a = c.args in let src = source_of c.args.source in let q = c.requires.h_bound in let K = c.requires.valid_arrays in let P = c.requires.specials in record { does = pair_old a.source.image.words.now a.source.image.tags.now a.source.image.n src a.source.offset a.derived.now.log.now a.derived.now.logtags.now a.derived.now.starts.now a.derived.now.maps.now a.derived.now.buckets.now a.special.now (going a.ends) refl K P a.key a.h.0 q a.h.0 refl _ c.in-Some.ensures (λ e. omega arith); same = record { log_same = refl; logtags_same = refl; starts_same = refl; maps_same = refl; buckets_same = refl } }

pub import-requires : goal.import-requires
import-requires c = let a = c.args in let src = source_of c.args.source in let q = c.requires.h_bound in let K = c.requires.valid_arrays in let P = c.requires.specials in rw c.from.ensures (record { number_bound = (omega arith, q); valid_arrays = K })

pub returns-in_err-got : goal.returns-in_err-got
unfolding tab_of
returns-in_err-got c = let a = c.args in let src = source_of c.args.source in let q = c.requires.h_bound in let K = c.requires.valid_arrays in let P = c.requires.specials in let r = err_from_is_err_and c.from_residual.result c.from_residual.ensures.1 in rw (r.1, r.2) (record { does = pair_full a.source.image.words.now a.source.image.tags.now a.source.image.n src a.source.offset a.derived.now.log.now a.derived.now.logtags.now a.derived.now.starts.now a.derived.now.maps.now a.derived.now.buckets.now a.special.now (going a.ends) refl K P a.key a.h.0 q a.h.0 refl _ c.in_default.ensures refl _ _ _ _ _ _ (rw c.from.ensures at c.in_err-got.ensures).does refl; same = c.in_err-got.ensures.same })

pub returns-then-p-limit : goal.returns-then-p-limit
unfolding tab_of
returns-then-p-limit c =
    let a = c.args in let src = source_of c.args.source in let q = c.requires.h_bound in let K = c.requires.valid_arrays in let P = c.requires.specials in
    elim c.then-p-limit.branch [
      | then-p-limit-via-then-p-limit w ↦ record { does = pair_many a.source.image.words.now a.source.image.tags.now a.source.image.n src a.source.offset a.derived.now.log.now a.derived.now.logtags.now a.derived.now.starts.now a.derived.now.maps.now a.derived.now.buckets.now a.special.now (going a.ends) refl K P a.key a.h.0 q a.h.0 refl _ c.in_default.ensures refl _ _ _ _ _ _ (rw c.from.ensures at c.in_ok-got.ensures).does refl (w.if-p-limit.true ∙ (c.limit.ensures.0 ∙ most)) _ refl; same = c.in_ok-got.ensures.same }
      | then-p-limit-via-else-p-limit+then-words_left-lt2 w ↦ record { does = pair_left a.source.image.words.now a.source.image.tags.now a.source.image.n src a.source.offset a.derived.now.log.now a.derived.now.logtags.now a.derived.now.starts.now a.derived.now.maps.now a.derived.now.buckets.now a.special.now (going a.ends) refl K P a.key a.h.0 q a.h.0 refl _ c.in_default.ensures refl _ _ _ _ _ _ (rw c.from.ensures at c.in_ok-got.ensures).does refl w.words_left.result w.words_left.ensures w.if-words_left-lt2.true _ refl; same = c.in_ok-got.ensures.same }
    ]

pub words_left-requires : goal.words_left-requires
words_left-requires c = ((rw c.from.ensures at c.in_ok-got.ensures).does.kept refl).room

pub set_pair-requires : goal.set_pair-requires
set_pair-requires c = let y = ((rw c.from.ensures at c.in_ok-got.ensures).does.kept refl).few_pairs in let l : c.limit.result ≡ 512 = (c.limit.ensures.0 ∙ most) in let ne = c.if-p-limit.false in omega arith

pub bounds-derived-i-else-words_left-lt2 : goal.bounds-derived-i-else-words_left-lt2
bounds-derived-i-else-words_left-lt2 c = let a = c.args in let src = source_of c.args.source in let q = c.requires.h_bound in let K = c.requires.valid_arrays in let P = c.requires.specials in let hk : a.h.0 < count_at 1 a.source.image.words.now = omega arith in let z = small_number a.source.image.words.now a.source.image.tags.now a.source.image.n src 1 a.h.0 (omega arith) hk in omega arith

pub overflow_sub-derived : goal.overflow_sub-derived
unfolding tab_of
overflow_sub-derived c = let a = c.args in let src = source_of c.args.source in let q = c.requires.h_bound in let K = c.requires.valid_arrays in let P = c.requires.specials in pair-mapped a.source.image.words.now a.source.image.tags.now a.source.image.n src a.source.offset a.derived.now.log.now a.derived.now.logtags.now a.derived.now.starts.now a.derived.now.maps.now a.derived.now.buckets.now a.special.now (going a.ends) refl K P a.key a.h.0 q a.h.0 refl _ c.in_default.ensures refl _ _ _ _ _ _ (rw c.from.ensures at c.in_ok-got.ensures).does refl

pub with_pair-requires : goal.with_pair-requires
with_pair-requires c = let y = ((rw c.from.ensures at c.in_ok-got.ensures).does.kept refl).few_pairs in let l : c.limit.result ≡ 512 = (c.limit.ensures.0 ∙ most) in let ne = c.if-p-limit.false in omega arith

pub returns : goal.returns
unfolding tab_of
returns c = let a = c.args in let src = source_of c.args.source in let q = c.requires.h_bound in let K = c.requires.valid_arrays in let P = c.requires.specials in rw c.set_pair.ensures (record { does = pair-new a.source.image.words.now a.source.image.tags.now a.source.image.n src a.source.offset a.derived.now.log.now a.derived.now.logtags.now a.derived.now.starts.now a.derived.now.maps.now a.derived.now.buckets.now a.special.now (going a.ends) refl K P a.key a.h.0 q a.h.0 refl _ c.in_default.ensures refl _ _ _ _ _ _ (rw c.from.ensures at c.in_ok-got.ensures).does refl (λ e. c.if-p-limit.false (e ∙ sym (c.limit.ensures.0 ∙ most))) c.words_left.result c.words_left.ensures c.if-words_left-lt2.false _ (ap going c.with_pair.ensures); same = c.in_ok-got.ensures.same })
