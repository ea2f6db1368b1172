use mathlib.Core.Path.{sym, ◌∙◌}
use Rattle.derive_snapshot.proofs.Over.{whole_of, undone}
use Rattle.derive_snapshot.proofs.Saving.{in_use}
use Rattle.derive_state.specs.Sizes.{going}
use Rattle.derive_state.proofs.Sources.{source_of}
use Rattle.derive_rollback.proofs.rename_type.Goals as goal

pub of-saved-requires : goal.of-saved-requires
of-saved-requires c = let a = c.args in let zz = in_use a.source.image.words.now a.source.image.tags.now a.source.image.n (source_of c.args.source) a.derived.now.log.now a.derived.now.logtags.now a.derived.now.starts.now a.derived.now.maps.now a.derived.now.buckets.now (going a.ends) c.requires.valid_arrays in let v = c.view.ensures in record { starts_in_use = rw (v.2, v.5) zz.0; maps_in_use = rw v.3 zz.1 }

pub returns-then-is_err : goal.returns-then-is_err
returns-then-is_err c =
    let a = c.args in
    let K = c.requires.valid_arrays in
    let v = c.view.ensures in
    let same = c.rename_type-got.ensures.same in
    let S = rw (v.2, v.3, v.5) at c.of-saved.ensures in
    record { does = whole_of a.source.image.words.now a.derived.now.log.now a.derived.now.logtags.now a.derived.now.starts.now a.derived.now.maps.now a.derived.now.buckets.now (going a.ends) K _ _ S _ _ _ _ _ _ _ c.rename_type-got.ensures.does _ _ (undone _ (sym c.is_err.ensures.value ∙ c.if-is_err.true) c.restore.ensures); same = record { log_same = same.log_same; logtags_same = same.logtags_same; starts_same = same.starts_same; maps_same = same.maps_same; buckets_same = same.buckets_same } }
