use mathlib.Core.Path.{refl}
use native.Mathlib.Omega.{arith}
use borrow.Author.Tests.{tests}
use Prim.Native.Nat.{◌≤◌}
use lib.ListN.{length, get_or}
use Rattle.std.proofs.Common.{rules}
use Rattle.std.proofs.lemmas.Iterator.{YieldsList-from_range}
use Rattle.std.proofs.lemmas.Iterator.Search.{find_from_yields_List}
use Rattle.model.specs.Between.{between}
use Rattle.derive_state.specs.Held.{row}
use Rattle.derive_state.proofs.Seeking.{is_alike, first_is, number_is}
use Rattle.derive_lookup.proofs.find_name.Goals as goal

pub returns : goal.returns
returns c =
    let a = c.args in
    let n = get_or a.derived.view.now.sizes.counts 0 0 in
    let starts = row a.derived.view.now.starts.now 0 in
    let names = c.args.derived.bearing.names in
    let within : n ≤ length starts = rw names.starts_long names.few in
    let cells = between a.name.cells.tags.now a.name.cells.words.now a.name.at a.name.end in
    let first = number_is a.derived.view.now.log.now a.derived.view.now.logtags.now starts cells n within c.find.result (first_is a.derived.view.now.log.now a.derived.view.now.logtags.now starts cells n within c.find.result (find_from_yields_List (is_alike a.derived.view.now.log.now a.derived.view.now.logtags.now starts cells n within) _ _ c.find.result c.find.ensures.ran (YieldsList-from_range 0 n n refl (omega arith)) (λ x b q k. search (rules, tests)))) in
    (first.0, omega (arith, first.1, names.few))
