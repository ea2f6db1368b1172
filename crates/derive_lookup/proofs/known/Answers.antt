use mathlib.Core.Path.{refl, ◌∙◌}
use native.Mathlib.Omega.{arith}
use Rattle.derive_imports.proofs.Sources.{stretch, refs_small}
use Rattle.derive_lookup.proofs.Finds.{head_in, some_name, name_in_lem, name_few, knows}
use Rattle.derive_state.specs.Sizes.{going}
use Rattle.derive_state.proofs.Sources.{named_source_of}
use Rattle.derive_lookup.proofs.known.Goals as goal

pub offset_bounds-image-s : goal.offset_bounds-image-s
offset_bounds-image-s c = let h = head_in c.args.source.image.words.now c.args.source.image.tags.now c.args.source.image.n (named_source_of c.args.source) c.args.source.test_5 c.args.f c.requires.f_bound _ c.record_at-s.ensures in omega arith

pub bounds-image-s : goal.bounds-image-s
bounds-image-s c = head_in c.args.source.image.words.now c.args.source.image.tags.now c.args.source.image.n (named_source_of c.args.source) c.args.source.test_5 c.args.f c.requires.f_bound _ c.record_at-s.ensures

pub overflow_sub-k : goal.overflow_sub-k
overflow_sub-k c = some_name c.args.source.image.words.now c.args.source.image.tags.now c.args.source.image.n (named_source_of c.args.source) c.args.source.test_5 c.args.f c.requires.f_bound _ c.record_at-s.ensures _ refl

pub record-at-requires : goal.record-at-requires
record-at-requires c = record { k_bound = omega arith; j_bound = name_in_lem c.args.source.image.words.now c.args.source.image.tags.now c.args.source.image.n (named_source_of c.args.source) c.args.source.test_5 c.args.f c.requires.f_bound _ c.record_at-s.ensures _ refl }

pub bounds-derived-k : goal.bounds-derived-k
bounds-derived-k c = let a = c.args in let h = name_few a.source.image.words.now a.source.image.tags.now a.source.image.n (named_source_of c.args.source) c.args.source.test_5 a.f c.requires.f_bound _ c.record_at-s.ensures _ refl in omega arith

pub invariant_of-name-clause-stretch : goal.invariant_of-name-clause-stretch
invariant_of-name-clause-stretch c = let a = c.args in rw (c.cells.ensures.0, c.cells.ensures.1) (stretch a.source.image.words.now a.source.image.tags.now a.source.image.n (named_source_of c.args.source) 0 _ (omega arith) (name_in_lem a.source.image.words.now a.source.image.tags.now a.source.image.n (named_source_of c.args.source) c.args.source.test_5 a.f c.requires.f_bound _ c.record_at-s.ensures _ refl) _ _ c.record-at.ensures.0 c.record-at.ensures.1)

pub invariant_of-name-clause-small : goal.invariant_of-name-clause-small
invariant_of-name-clause-small c = let a = c.args in rw (c.cells.ensures.0, c.cells.ensures.1) (refs_small a.source.image.words.now a.source.image.tags.now a.source.image.n (named_source_of c.args.source) 0 _ (omega arith) (name_in_lem a.source.image.words.now a.source.image.tags.now a.source.image.n (named_source_of c.args.source) c.args.source.test_5 a.f c.requires.f_bound _ c.record_at-s.ensures _ refl) _ _ c.record-at.ensures.0 c.record-at.ensures.1)

pub returns : goal.returns
returns c = let a = c.args in knows a.source.image.words.now a.source.image.tags.now a.source.image.n (named_source_of c.args.source) c.args.source.test_5 a.f c.requires.f_bound _ c.record_at-s.ensures _ refl _ _ c.record-at.ensures.0 c.record-at.ensures.1 a.derived.view.now.log.now a.derived.view.now.logtags.now a.derived.view.now.starts.now (going a.derived.view.now.sizes) _ _ (c.unwrap_or-d.ensures ∙ (rw (c.cells.ensures.0, c.cells.ensures.1) at c.find_name_from.ensures.0)) c.last.ensures
