use lib.ListN.{get_or}
use borrow.Author.Tests.{tests}
use Rattle.std.proofs.Common.{rules}
use Rattle.std.proofs.lemmas.Iterator.Search.{find_from_yields_List}
use Rattle.derive_state.specs.Held.{row}
use Rattle.derive_lookup.proofs.Lasts.{has, last_is, YieldsList-from_rev_range}
use Rattle.derive_lookup.proofs.last.Goals as goal

pub returns : goal.returns
returns c =
    let a = c.args in
    let d = a.derived.view.now in
    let starts = row d.starts.now 6 in
    let n = get_or d.sizes.counts 6 0 in
    let found = find_from_yields_List (has d.log.now d.logtags.now starts n a.w c.args.derived.bearing.functions) _ _ c.find.result c.find.ensures.ran (YieldsList-from_rev_range n c.rev.ensures.source) (λ x b q k. search (rules, tests)) in
    last_is d.log.now d.logtags.now starts n a.w c.args.derived.bearing.functions c.find.result c.map.result found _ c.map.ensures.cases (λ k u p. search rules)
