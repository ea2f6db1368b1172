-- `derive_rings::entries_call` meets its contract: each entry point is asked whether its function calls one.
use mathlib.Core.Path.{refl, ◌∙◌}
use Prim.Native.Nat.{◌-◌}
use native.Mathlib.Omega.{arith}
use borrow.Author.Tests.{tests}
use Rattle.std.proofs.Common.{rules}
use Rattle.std.proofs.lemmas.Iterator.{YieldsList-from_range, serves_from_Range}
use Rattle.std.proofs.lemmas.Iterator.Search.{any_from_yields_List}
use Rattle.derive_rings.proofs.Asking.{is_of, entry_calls, entries_are}
use Rattle.derive_state.proofs.Sources.{named_source_of}
use Rattle.derive_rings.proofs.entries_call.Goals as goal

pub any-requires-clause-callable : goal.any-requires-clause-callable
any-requires-clause-callable c = serves_from_Range (λ x q k. search (rules, tests)) (λ x lo hi. let n = c.count.ensures.0 in search (rules, tests))

pub returns : goal.returns
returns c =
    let a = c.args in
    let src = named_source_of a.source in
    let p = is_of a.set.now.0 in
    any_from_yields_List (entry_calls src p) _ _ c.any.result c.any.ensures.ran (YieldsList-from_range 0 c.count.result (c.count.result - 0) refl (omega arith)) (λ x b q k. search (rules, tests)) ∙ entries_are src p c.count.ensures.0
