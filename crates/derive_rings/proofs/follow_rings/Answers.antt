use mathlib.Core.Path.{sym, ◌∙◌}
use native.Mathlib.Omega.{arith}
use Rattle.derive_rings.proofs.Wholes.{known-free, leads_not, few, rings-one}
use Rattle.derive_rings.proofs.follow_rings.Goals.{then-is_unknown, else-is_unknown}
use Rattle.derive_state.specs.Sizes.{going}
use Rattle.derive_state.proofs.Sources.{named_source_of}
use Rattle.derive_rings.proofs.follow_rings.Goals as goal

pub has-requires : goal.has-requires
has-requires c = omega (arith, few (named_source_of c.args.source), c.requires.f_bound)

pub returns-then-calls_unknown_name : goal.returns-then-calls_unknown_name
returns-then-calls_unknown_name c = let a = c.args in rings-one a.source.image.words.now a.source.image.n a.derived.view.now.log.now a.derived.view.now.logtags.now a.derived.view.now.starts.now (going a.derived.view.now.sizes) a.source.image.tags.now (named_source_of c.args.source) _ c.stuck.ensures a.f c.requires.f_bound _ c.has.ensures

pub returns-else-calls_unknown_name : goal.returns-else-calls_unknown_name
returns-else-calls_unknown_name c =
    let a = c.args in
    rw c.if-calls_unknown_name.false
    (elim c.if-is_unknown.branch [
      | then-is_unknown w ↦ leads_not a.source.image.words.now a.source.image.n a.derived.view.now.log.now a.derived.view.now.logtags.now a.derived.view.now.starts.now (going a.derived.view.now.sizes) a.source.image.tags.now (named_source_of c.args.source) a.f c.requires.f_bound _ w.calls_unknown_name.ensures (sym w.value-is ∙ c.if-calls_unknown_name.false)
      | else-is_unknown w ↦ known-free a.source.image.words.now a.source.image.n a.derived.view.now.log.now a.derived.view.now.logtags.now a.derived.view.now.starts.now (going a.derived.view.now.sizes) a.source.image.tags.now (named_source_of c.args.source) a.f c.requires.f_bound (sym c.is_unknown.ensures ∙ w.if-is_unknown.false)
    ])
