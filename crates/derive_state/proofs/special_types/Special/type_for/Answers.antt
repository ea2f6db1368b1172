use native.Mathlib.Omega.{arith}
use borrow.Author.Tests.{tests}
use lib.ListN.{take}
use Rattle.std.proofs.Common.{rules, ◌≤◌, length}
use Rattle.std.proofs.lemmas.Iterator.{YieldsList-from_slice}
use Rattle.std.proofs.lemmas.Iterator.Search.{find_from_yields_List}
use Rattle.derive_state.proofs.Pairs.{has_key, found_type}
use Rattle.derive_state.proofs.special_types.Special.type_for.Goals as goal

pub returns : goal.returns
returns c =
    let i = c.self.inside in
    let a = c.args in
    let few : a.n ≤ length i.pairs = omega (arith, c.requires, c.self.invariant.1) in
    let first = find_from_yields_List (has_key a.key) _ _ c.find.result c.find.ensures.ran (YieldsList-from_slice (take a.n i.pairs) cc) (λ x b q k. search (rules, tests)) in
    rw (← c.self.view_is) (found_type i.rays i.pairs a.n a.key c.self.invariant.0 few _ (rw c.in_ok-pair.was at first))

pub returns-in_err-pair : goal.returns-in_err-pair
returns-in_err-pair c =
    let i = c.self.inside in
    let a = c.args in
    let few : a.n ≤ length i.pairs = omega (arith, c.requires, c.self.invariant.1) in
    let first = find_from_yields_List (has_key a.key) _ _ c.find.result c.find.ensures.ran (YieldsList-from_slice (take a.n i.pairs) cc) (λ x b q k. search (rules, tests)) in
    rw (c.from_residual.ensures, ← c.self.view_is) (found_type i.rays i.pairs a.n a.key c.self.invariant.0 few _ (rw c.in_err-pair.was at first))
