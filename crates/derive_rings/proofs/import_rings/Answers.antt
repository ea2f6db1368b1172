use native.Mathlib.Omega.{arith}
use Rattle.derive_rings.proofs.Wholes.{calls_not, callees-known, few, rings-itself, rings-callees}
use Prim.Native.Nat.{◌<◌}
use borrow.Author.Rules.{rules}
use borrow.Author.Tests.{not-true}
use mathlib.Core.Bool.{not}
use mathlib.Core.Path.{ap, ◌∙◌}
use Rattle.order_ranks.proofs.Marks.{calls_one_of}
use Rattle.derive_state.specs.Sizes.{going}
use Rattle.derive_state.proofs.Sources.{named_source_of}
use Rattle.derive_rings.proofs.import_rings.Goals as goal

pub returns-then-not-calls_unknown_name : goal.returns-then-not-calls_unknown_name
returns-then-not-calls_unknown_name c = let a = c.args in calls_not a.source.image.words.now a.source.image.n a.derived.view.now.log.now a.derived.view.now.logtags.now a.derived.view.now.starts.now (going a.derived.view.now.sizes) a.source.image.tags.now (named_source_of c.args.source) a.f c.requires.f_bound _ c.calls_unknown_name.ensures (not-true _ (ap not c.if-not-calls_unknown_name.true))

pub gather_requirements-requires : goal.gather_requirements-requires
gather_requirements-requires c = record { known = callees-known (named_source_of c.args.source); no_calls = c.no_calls-callees.ensures }

pub unknown_in_ring-set-requires : goal.unknown_in_ring-set-requires
unknown_in_ring-set-requires c = record { gathered = c.gather_requirements.ensures }

pub has-requires : goal.has-requires
has-requires c = omega (arith, few (named_source_of c.args.source), c.requires.f_bound)

pub returns-then-has : goal.returns-then-has
returns-then-has c = rw (c.if-has.true) (rings-itself c.args.source.image.words.now c.args.source.image.n c.args.derived.view.now.log.now c.args.derived.view.now.logtags.now c.args.derived.view.now.starts.now (going c.args.derived.view.now.sizes) c.args.source.image.tags.now (named_source_of c.args.source) _ c.unknown_in_ring-set.ensures c.args.f c.requires.f_bound _ c.has.ensures c.if-has.true)

pub bounds-callees-f : goal.bounds-callees-f
bounds-callees-f c = omega (arith, few (named_source_of c.args.source), c.requires.f_bound)

pub offset_bounds-callees-f : goal.offset_bounds-callees-f
offset_bounds-callees-f c = let h : c.args.f < 256 = omega (arith, few (named_source_of c.args.source), c.requires.f_bound) in search rules

pub returns-else-has : goal.returns-else-has
returns-else-has c = rings-callees c.args.source.image.words.now c.args.source.image.n c.args.derived.view.now.log.now c.args.derived.view.now.logtags.now c.args.derived.view.now.starts.now (going c.args.derived.view.now.sizes) c.args.source.image.tags.now (named_source_of c.args.source) _ c.gather_requirements.ensures _ c.unknown_in_ring-set.ensures c.args.f c.requires.f_bound _ _ c.has.ensures c.if-has.false (c.meets.ensures ∙ calls_one_of _ _ _)
