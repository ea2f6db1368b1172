use borrow.Author.Tests.{not-true, not-false}
use mathlib.Core.Bool.{not}
-- `derive_rings::unknown` meets its contract. The invariant: of the marks below i those are left whose names are unknown.
use mathlib.Core.Path.{sym, ap, ◌∙◌}
use native.Mathlib.Omega.{arith}
use Rattle.derive_rings.proofs.Sieving.{begin, there, drops, stays, passes}
use Rattle.derive_rings.proofs.Wholes.{few_at, below_at, unknowns}
use Rattle.derive_rings.proofs.unknown.Goals.{then-has+then-not-is_unknown, else-has, else-has-via-then-has+else-not-is_unknown, else-has-via-else-has}
use Rattle.derive_state.specs.Sizes.{going}
use Rattle.derive_state.proofs.Sources.{named_source_of}
use Rattle.derive_rings.proofs.unknown.Goals as goal

pub loop-f-init : goal.loop-f-init
loop-f-init c = begin _ _ _ (omega arith)

pub has-requires : goal.has-requires
has-requires c = let h = few_at (named_source_of c.args.source) c.count-functions.ensures.0 in omega (arith, c.loop-f-test.true)

pub is_unknown-requires : goal.is_unknown-requires
is_unknown-requires c = record { f_bound = omega (arith, c.loop-f-test.true, c.count-functions.ensures.0) }

pub leave-requires : goal.leave-requires
leave-requires c = ((let h = few_at (named_source_of c.args.source) c.count-functions.ensures.0 in omega (arith, c.loop-f-test.true)), there _ _ _ (few_at (named_source_of c.args.source) c.count-functions.ensures.0) (below_at _ c.count-functions.ensures.0 c.requires.began_len) _ _ c.loop-f.invariant c.loop-f-test.true (sym c.has.ensures ∙ c.if-has.true))

pub loop-f-preserved : goal.loop-f-preserved
loop-f-preserved c =
    elim c.if-has.branch [
      | then-has+then-not-is_unknown w ↦ rw w.set-is (drops _ _ _ (few_at (named_source_of c.args.source) c.count-functions.ensures.0) (below_at _ c.count-functions.ensures.0 c.requires.began_len) _ _ c.loop-f.invariant c.loop-f-test.true (sym c.has.ensures ∙ w.if-has.true) (sym w.is_unknown.ensures ∙ not-true _ (ap not w.if-not-is_unknown.true)) _ w.leave.ensures)
      | else-has w ↦ rw w.set-is (elim w.else-has.branch [
        | else-has-via-then-has+else-not-is_unknown v ↦ stays _ _ _ (few_at (named_source_of c.args.source) c.count-functions.ensures.0) (below_at _ c.count-functions.ensures.0 c.requires.began_len) _ _ c.loop-f.invariant c.loop-f-test.true (sym c.has.ensures ∙ v.if-has.true) (sym v.is_unknown.ensures ∙ not-false _ (ap not v.if-not-is_unknown.false))
        | else-has-via-else-has v ↦ passes _ _ _ (few_at (named_source_of c.args.source) c.count-functions.ensures.0) (below_at _ c.count-functions.ensures.0 c.requires.began_len) _ _ c.loop-f.invariant c.loop-f-test.true (sym c.has.ensures ∙ v.if-has.false)
      ])
    ]

pub returns : goal.returns
returns c = let a = c.args in unknowns a.source.image.words.now a.source.image.n a.derived.view.now.log.now a.derived.view.now.logtags.now a.derived.view.now.starts.now (going a.derived.view.now.sizes) _ _ _ _ c.count-functions.ensures.0 (few_at (named_source_of c.args.source) c.count-functions.ensures.0) c.requires.began_len c.loop-f.invariant c.loop-f-test.false
