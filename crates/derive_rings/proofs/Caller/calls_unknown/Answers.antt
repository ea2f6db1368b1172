-- `Caller::calls_unknown` meets its contract: a word that is tested is one of the functions that are called.
use mathlib.Core.Path.{refl, ◌∙◌}
use native.Mathlib.Omega.{arith}
use borrow.Author.Tests.{tests}
use Rattle.std.proofs.Common.{rules, ◌<◌, ◌-◌}
use Rattle.std.proofs.lemmas.Iterator.{YieldsList-from_range, serves_from_Range}
use Rattle.std.proofs.lemmas.Iterator.Search.{any_from_yields_List}
use Rattle.derive_state.specs.Sizes.{going}
use Rattle.derive_rings.specs.Rings.{unknown_by}
use Rattle.derive_rings.proofs.Asking.{calls_p, low, asks}
use Rattle.derive_rings.proofs.Caller.calls_unknown.Goals as goal

pub any-requires-clause-callable : goal.any-requires-clause-callable
any-requires-clause-callable c =
    serves_from_Range (λ x q k. search (rules, tests)) (λ x lo hi.
    let s = c.args.self.scannable in
    let inside : x < 16384 = omega (arith, s.within) in
    let called = low s x lo hi in
    search (rules, tests))

pub returns : goal.returns
returns c =
    let a = c.args in
    let p = (unknown_by a.self.source.image.words.now a.self.source.image.n a.derived.view.now.log.now a.derived.view.now.logtags.now a.derived.view.now.starts.now (going a.derived.view.now.sizes)) in
    any_from_yields_List (calls_p a.self.source.image.words.now a.self.source.image.tags.now p) _ _ c.any.result c.any.ensures.ran (YieldsList-from_range a.self.at a.self.end (a.self.end - a.self.at) refl (omega arith)) (λ x b q k. search (rules, tests)) ∙ asks a.self.scannable p
