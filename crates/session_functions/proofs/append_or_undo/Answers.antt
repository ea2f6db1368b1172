use mathlib.Core.Path.{sym, ◌∙◌}
use Rattle.derive_state.specs.Sizes.{going}
use Rattle.function_entry.proofs.Sources as Sources
use Rattle.session_functions.proofs.Whole.{brings_full}
use Rattle.derive_snapshot.proofs.Over.{full_told, undone}
use Rattle.derive_snapshot.proofs.Saving.{in_use}
use Rattle.session_functions.proofs.append_or_undo.Goals as goal

pub of-saved-requires : goal.of-saved-requires
of-saved-requires c = let a = c.args in let L = c.requires.valid_session in let v = c.view.ensures in let zz = in_use a.source.image.words.now a.source.image.tags.now a.source.image.n (Sources.ground a.source.image.n a.source.offset a.source.image.words.now a.source.image.tags.now a.derived.now.log.now a.derived.now.logtags.now a.derived.now.starts.now a.derived.now.maps.now a.derived.now.buckets.now a.special.now (going a.ends) L).source a.derived.now.log.now a.derived.now.logtags.now a.derived.now.starts.now a.derived.now.maps.now a.derived.now.buckets.now (going a.ends) L.kept in record { starts_in_use = rw (v.2, v.5) zz.0; maps_in_use = rw v.3 zz.1 }

pub append-got-requires : goal.append-got-requires
append-got-requires c = let a = c.args in let L = c.requires.valid_session in let q = c.requires.f_bound in record { f_bound = q.0; nested_f = record { special = a.special.now; scopes = Sources.scope a.source.image.n a.source.offset a.source.image.words.now a.source.image.tags.now a.derived.now.log.now a.derived.now.logtags.now a.derived.now.starts.now a.derived.now.maps.now a.derived.now.buckets.now a.special.now (going a.ends) L; ready = c.requires.ready }; stacks = q.1; valid_arrays = L.kept }

pub returns-then-is_err : goal.returns-then-is_err
returns-then-is_err c = let a = c.args in let L = c.requires.valid_session in let q = c.requires.f_bound in let v = c.view.ensures in let S = rw (v.2, v.3, v.5) at c.of-saved.ensures in let e = sym c.is_err.ensures.value ∙ c.if-is_err.true in let T = c.append-got.ensures.same in record { does = brings_full a.source.image.words.now a.special.now a.derived.now.log.now a.derived.now.logtags.now a.derived.now.starts.now a.derived.now.maps.now a.derived.now.buckets.now a.stacks.now (going a.ends) L.kept q.1 _ _ S _ _ _ _ _ _ _ _ _ c.append-got.ensures.does _ _ (undone _ e c.restore.ensures) c.requires.ready (full_told _ e) _ c.empty_stacks.ensures; same = record { log_same = T.log_same; logtags_same = T.logtags_same; starts_same = T.starts_same; maps_same = T.maps_same; buckets_same = T.buckets_same } }
