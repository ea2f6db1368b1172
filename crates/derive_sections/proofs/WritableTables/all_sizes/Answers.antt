use Rattle.std.proofs.Common.{refl, rules, ℕ, arith, tests}
use Rattle.std.specs.List.{range_with_len}
use Rattle.std.proofs.lemmas.Iterator.{YieldsList-from_range, YieldsList-from_map, serves_from_Range}
use Rattle.std.proofs.lemmas.Iterator.Adapters.{at_most_from_yields_List, fits_from_length}
use Rattle.std.proofs.lemmas.Iterator.Consumers.{sum_by_from_yields_List}
use Rattle.derive_state.specs.Held.{table_of}
use Rattle.derive_sections.specs.Flat.{table_size}
use Rattle.derive_sections.proofs.Tables.{table_sum}
use Rattle.derive_sections.proofs.WritableTables.all_sizes.Goals as goal

pub sum-requires-clause-can : goal.sum-requires-clause-can
sum-requires-clause-can c =
    (tt, serves_from_Range (λ x q k. search (rules, tests)) (λ t l h. search rules))

pub sum-requires-clause-fits : goal.sum-requires-clause-fits
sum-requires-clause-fits c = fits_from_length _ _ 8 _ (at_most_from_yields_List (YieldsList-from_range 0 8 8 (cc) refl) (omega arith)) c.map.ensures.closure (omega arith) (λ x r q k. search (rules, tests))

pub returns : goal.returns
returns c =
    let d = c.args.self.view.now in
    let size : ℕ → ℕ = λ t. table_size (table_of d.log.now d.logtags.now d.starts.now d.sizes.counts t) in
    table_sum d.log.now d.logtags.now d.starts.now d.sizes.counts c.args.self.rows _
    (sum_by_from_yields_List size (range_with_len 0 8) c.map.result _ c.sum.ensures.ran
    (YieldsList-from_map _ size (YieldsList-from_range 0 8 8 (cc) refl) c.map.ensures.closure (λ x r q k. search (rules, tests))))
