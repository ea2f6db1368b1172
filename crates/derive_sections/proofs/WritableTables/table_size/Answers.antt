use Rattle.std.proofs.Common.{rules, ◌∙◌, get_or, arith, tests}
use Rattle.std.proofs.lemmas.List.{get_or_default}
use Rattle.std.proofs.lemmas.Iterator.{YieldsList-from_slice, YieldsList-from_map}
use Rattle.std.proofs.lemmas.Iterator.Adapters.{serves_from_places, at_most_from_yields_List, fits_from_length}
use Rattle.std.proofs.lemmas.Iterator.Consumers.{sum_by_from_yields_List}
use Rattle.derive_sections.proofs.Notes.{rows_few}
use Rattle.derive_sections.proofs.Writes.{start_in, sized}
use Rattle.derive_sections.proofs.Tables.{rows_starts}
use Rattle.derive_sections.proofs.WritableTables.table_size.Goals as goal

pub starts_of-starts-requires : goal.starts_of-starts-requires
starts_of-starts-requires c = (c.requires.t_bound, rows_few c.args.self.rows c.args.t c.requires.t_bound)

pub sum-words-requires-clause-can : goal.sum-words-requires-clause-can
sum-words-requires-clause-can c =
    let d = c.args.self.view.now in
    let starts = rows_starts d.log.now d.logtags.now d.starts.now d.sizes.counts c.args.self.rows c.args.t c.requires.t_bound _ c.starts_of-starts.ensures in
    (tt, serves_from_places (YieldsList-from_slice c.starts_of-starts.result.now cc) (λ x q k. search (rules, tests)) (λ x k h e. let low = start_in d.log.now d.logtags.now c.starts_of-starts.result.now starts k x.now h (e ∙ get_or_default c.starts_of-starts.result.now k x.now 0 h) in search rules))

pub sum-words-requires-clause-fits : goal.sum-words-requires-clause-fits
sum-words-requires-clause-fits c =
    let d = c.args.self.view.now in
    let starts = rows_starts d.log.now d.logtags.now d.starts.now d.sizes.counts c.args.self.rows c.args.t c.requires.t_bound _ c.starts_of-starts.ensures in
    fits_from_length _ _ 512 _ (at_most_from_yields_List (YieldsList-from_slice c.starts_of-starts.result.now cc) starts.few) c.map.ensures.closure (omega arith) (λ x r q k. search (rules, tests))

pub overflow_add-result : goal.overflow_add-result
overflow_add-result c =
    let d = c.args.self.view.now in
    let starts = rows_starts d.log.now d.logtags.now d.starts.now d.sizes.counts c.args.self.rows c.args.t c.requires.t_bound _ c.starts_of-starts.ensures in
    let words = sum_by_from_yields_List (λ s. get_or d.log.now s 0) c.starts_of-starts.result.now c.map.result _ c.sum-words.ensures.ran (YieldsList-from_map _ _ (YieldsList-from_slice c.starts_of-starts.result.now cc) c.map.ensures.closure (λ x r q k. search (rules, tests))) in
    omega (arith, (sized d.log.now d.logtags.now c.starts_of-starts.result.now starts c.sum-words.result words).1)

pub returns : goal.returns
returns c =
    let d = c.args.self.view.now in
    let starts = rows_starts d.log.now d.logtags.now d.starts.now d.sizes.counts c.args.self.rows c.args.t c.requires.t_bound _ c.starts_of-starts.ensures in
    let words = sum_by_from_yields_List (λ s. get_or d.log.now s 0) c.starts_of-starts.result.now c.map.result _ c.sum-words.ensures.ran (YieldsList-from_map _ _ (YieldsList-from_slice c.starts_of-starts.result.now cc) c.map.ensures.closure (λ x r q k. search (rules, tests))) in
    rw (← c.starts_of-starts.ensures) (sized d.log.now d.logtags.now c.starts_of-starts.result.now starts c.sum-words.result words)
