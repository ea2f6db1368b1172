use Rattle.derive_rings.specs.Rings.{unknown_by}
use Rattle.derive_rings.proofs.Asking.{calls-any}
use Rattle.derive_state.specs.Sizes.{going}
use Rattle.derive_state.proofs.Sources.{named_source_of}
use Rattle.derive_rings.proofs.calls_unknown_name.Goals as goal

pub returns : goal.returns
returns c = let a = c.args in calls-any a.source.image.words.now a.source.image.tags.now a.source.image.n (named_source_of c.args.source) a.f c.requires.f_bound _ _ c.of_function.ensures.1 c.of_function.ensures.2 (unknown_by a.source.image.words.now a.source.image.n a.derived.view.now.log.now a.derived.view.now.logtags.now a.derived.view.now.starts.now (going a.derived.view.now.sizes)) _ (rw c.of_function.ensures.0 at c.calls_unknown.ensures)
