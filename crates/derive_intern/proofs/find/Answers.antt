use mathlib.Core.Path.{refl}
use native.Mathlib.Omega.{arith}
use borrow.Author.Tests.{tests}
use Prim.Native.Nat.{◌≤◌}
use lib.ListN.{length, get_or}
use Rattle.std.proofs.Common.{rules}
use Rattle.std.proofs.lemmas.Iterator.{YieldsList-from_range}
use Rattle.std.proofs.lemmas.Iterator.Search.{find_from_yields_List}
use Rattle.derive_state.specs.Refers.{went_r}
use Rattle.derive_state.specs.Held.{row, carried_by}
use Rattle.derive_state.proofs.Seeking.{is_alike, first_is}
use Rattle.derive_intern.proofs.find.Goals as goal

pub returns : goal.returns
returns c =
    let a = c.args in
    let d = a.derived.now in
    let starts = row d.starts.now a.t in
    let q = c.requires.t_bound in
    let n = get_or d.sizes.counts a.t 0 in
    let within : n ≤ length starts = rw q.4 q.1 in
    let cells = carried_by (went_r d.maps.now) a.original.cells.tags.now a.original.cells.words.now a.original.at a.original.end in
    first_is d.log.now d.logtags.now starts cells n within c.find.result (find_from_yields_List (is_alike d.log.now d.logtags.now starts cells n within) _ _ c.find.result c.find.ensures.ran (YieldsList-from_range 0 n n refl (omega arith)) (λ x b q k. search (rules, tests)))
