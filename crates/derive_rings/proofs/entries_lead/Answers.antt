-- `derive_rings::entries_lead` meets its contract: each entry point is asked whether its function calls one of unknown name.
use mathlib.Core.Path.{refl, ◌∙◌}
use Prim.Native.Nat.{◌-◌}
use native.Mathlib.Omega.{arith}
use borrow.Author.Tests.{tests}
use Rattle.std.proofs.Common.{rules}
use Rattle.std.proofs.lemmas.Iterator.{YieldsList-from_range, serves_from_Range}
use Rattle.std.proofs.lemmas.Iterator.Search.{any_from_yields_List}
use Rattle.derive_state.specs.Sizes.{going}
use Rattle.derive_rings.specs.Rings.{unknown_by}
use Rattle.derive_rings.proofs.Asking.{entry_calls, entries_are}
use Rattle.derive_state.proofs.Sources.{named_source_of}
use Rattle.derive_rings.proofs.entries_lead.Goals as goal

pub any-requires-clause-callable : goal.any-requires-clause-callable
any-requires-clause-callable c = serves_from_Range (λ x q k. search (rules, tests)) (λ x lo hi. let n = c.count.ensures.0 in search (rules, tests))

pub returns : goal.returns
returns c =
    let a = c.args in
    let p = unknown_by a.source.image.words.now a.source.image.n a.derived.view.now.log.now a.derived.view.now.logtags.now a.derived.view.now.starts.now (going a.derived.view.now.sizes) in
    any_from_yields_List (entry_calls (named_source_of c.args.source) p) _ _ c.any.result c.any.ensures.ran (YieldsList-from_range 0 c.count.result (c.count.result - 0) refl (omega arith)) (λ x b q k. search (rules, tests)) ∙ entries_are (named_source_of c.args.source) p c.count.ensures.0
