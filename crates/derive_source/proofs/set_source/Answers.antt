use mathlib.Core.Path.{sym, ◌∙◌}
use Rattle.derive_state.proofs.Fresh.{kept_forgotten}
use Rattle.derive_snapshot.proofs.Over.{undone}
use Rattle.derive_source.proofs.Setting.{set_of, put_back}
use Rattle.derive_state.specs.Sizes.{going}
use Rattle.derive_source.proofs.set_source.Goals as goal

pub source_types-got-requires : goal.source_types-got-requires
source_types-got-requires c = let a = c.args in let K = c.requires.valid_arrays in let P = c.requires.specials in record { valid_arrays = kept_forgotten a.derived.now.log.now a.derived.now.logtags.now a.derived.now.starts.now a.derived.now.maps.now a.derived.now.buckets.now (going a.ends) K; specials = P }

pub returns-then-is_err : goal.returns-then-is_err
returns-then-is_err c =
    let a = c.args in
    let K = c.requires.valid_arrays in
    let P = c.requires.specials in
    let err = sym c.is_err.ensures.value ∙ c.if-is_err.true in
    let same = c.source_types-got.ensures.same in
    record { does = set_of a.source.image.words.now a.source.image.n a.source.offset a.derived.now.log.now a.derived.now.logtags.now a.derived.now.starts.now a.derived.now.maps.now a.derived.now.buckets.now a.special.now (going a.ends) K P _ _ _ _ _ _ _ c.source_types-got.ensures.does _ _ (undone _ err c.restore.ensures) _ (put_back _ err); same = record { log_same = same.log_same; logtags_same = same.logtags_same; starts_same = same.starts_same; maps_same = same.maps_same; buckets_same = same.buckets_same } }
