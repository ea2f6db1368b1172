-- `intake_fields::pair` meets its contract.
use Rattle.std.proofs.Common.{get_or, ◌∙◌, ap, ◌+◌, ◌*◌}
use Rattle.intake_fields.specs.Rows.{numbers, SIZE}
use Rattle.intake_fields.proofs.pair.Goals as goal

pub returns : goal.returns
unfolding SIZE
returns c = record {
  row_or_group = c.from-2.ensures ∙ c.entry.ensures ∙ ap (λ k. get_or numbers (468 + 2 * k) 0) c.from.ensures;
  limit_or_count = c.from-3.ensures ∙ c.entry-2.ensures ∙ ap (λ k. get_or numbers (468 + 2 * k + 1) 0) c.from.ensures;
}
