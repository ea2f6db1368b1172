-- `intake_layout::lay_out_words` meets its contract.
use Rattle.std.proofs.Common.{rules}
use Rattle.intake_fields.proofs.Walk.{exit}
use Rattle.intake_fields.specs.Walks.{refusal_of}
use Rattle.intake_layout.proofs.Laying.{header_filled, lay_misplaced, lay_fits, lay_err}
use Rattle.intake_layout.proofs.lay_out_words.Goals as goal

pub returns-then-not-sections_fit : goal.returns-then-not-sections_fit
returns-then-not-sections_fit c =
    let h = header_filled c.args.tags.now c.fill.new.self c.told-tags (c.fill.ensures.after (λ y e. e)) in
    search (lay_misplaced, rules)

pub returns-in_err-sections : goal.returns-in_err-sections
returns-in_err-sections c =
    let h = header_filled c.args.tags.now c.fill.new.self c.told-tags (c.fill.ensures.after (λ y e. e)) in
    let w = c.in_err-sections.was in
    rw (exit _ (refusal_of c.in_err-sections.field-0.0) c.from_residual.ensures.1) (search (lay_err, rules))

pub returns : goal.returns
returns c =
    let h = header_filled c.args.tags.now c.fill.new.self c.told-tags (c.fill.ensures.after (λ y e. e)) in
    let w = c.in_ok-sections.was in
    search (lay_fits, rules)
