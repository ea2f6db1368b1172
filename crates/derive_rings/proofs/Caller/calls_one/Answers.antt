-- `Caller::calls_one` meets its contract: a word that is tested is one of the functions that are called.
use mathlib.Core.Path.{refl, ◌∙◌}
use native.Mathlib.Omega.{arith}
use borrow.Author.Tests.{tests}
use Rattle.std.proofs.Common.{rules, ◌<◌, ◌-◌}
use Rattle.std.proofs.lemmas.Iterator.{YieldsList-from_range, serves_from_Range}
use Rattle.std.proofs.lemmas.Iterator.Search.{any_from_yields_List}
use Rattle.order_ranks.specs.Marks.{holds}
use Rattle.derive_rings.proofs.Wholes.{few}
use Rattle.derive_rings.proofs.Asking.{is_of, holds_is, any_same, calls_p, low, asks, widened}
use Rattle.derive_state.proofs.Sources.{named_source_of}
use Rattle.derive_rings.proofs.Caller.calls_one.Goals as goal

pub any-requires-clause-callable : goal.any-requires-clause-callable
any-requires-clause-callable c =
    serves_from_Range (λ x q k. search (rules, tests)) (λ x lo hi.
    let me = c.args.self in
    let inside : x < 16384 = omega (arith, me.scannable.within) in
    let called = low (widened (few (named_source_of me.source)) me.scannable) x lo hi in
    search (rules, tests))

pub returns : goal.returns
returns c =
    let a = c.args in
    let p = holds a.set.now.0 in
    any_from_yields_List (calls_p a.self.source.image.words.now a.self.source.image.tags.now p) _ _ c.any.result c.any.ensures.ran (YieldsList-from_range a.self.at a.self.end (a.self.end - a.self.at) refl (omega arith)) (λ x b q k. search (rules, tests))
    ∙ asks a.self.scannable p ∙ any_same p (is_of a.set.now.0) (holds_is a.set.now.0) (widened (few (named_source_of a.self.source)) a.self.scannable).known
