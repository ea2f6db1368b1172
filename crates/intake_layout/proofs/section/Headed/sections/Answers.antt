-- `intake_layout::section::Headed::sections` meets its contract.
use Rattle.std.proofs.Common.{rules, arith, refl, ◌∙◌}
use Rattle.intake_fields.proofs.Walk.{exit}
use Rattle.intake_layout.proofs.Sections.{sections-begin, sections_forth, sections-within, sections-total, sections-row, sections_bad, sections_next, last_forth, last_err, last-odd, last_fits}
use Rattle.intake_layout.proofs.section.Headed.sections.Goals as goal

pub loop-j-init : goal.loop-j-init
loop-j-init c = search (sections-begin, rules)

pub invariant_of-section-in-loop-j : goal.invariant_of-section-in-loop-j
invariant_of-section-in-loop-j c = search (sections_forth, rules)

pub invariant_of-section-clause-inside : goal.invariant_of-section-clause-inside
invariant_of-section-clause-inside c = sections-within c.args.self.extent.words.now c.args.tags.now c.args.self.extent.end c.args.self.header c.args.self.extent.inside c.requires c.loop-j.j c.loop-j-test.true _ _ c.offset-base.ensures.0 c.offset-stop.ensures.0

pub invariant_of-section-clause-few : goal.invariant_of-section-clause-few
invariant_of-section-clause-few c = let h = sections-total c.args.self.extent.words.now c.args.tags.now c.args.self.extent.end c.args.self.header c.args.self.extent.inside c.requires c.loop-j.j c.loop-j-test.true _ _ c.offset-base.ensures.0 c.offset-stop.ensures.0 in omega arith

pub table-requires : goal.table-requires
table-requires c = sections-row c.args.self.extent.words.now c.args.tags.now c.args.self.extent.end c.args.self.header c.args.self.extent.inside c.requires c.loop-j.j c.loop-j-test.true _ _ c.offset-base.ensures.0 c.offset-stop.ensures.0 _ (c.from-pc.ensures ∙ c.entry.ensures)

pub loop-j-preserved : goal.loop-j-preserved
loop-j-preserved c = let w = c.in_ok-odd.ensures in search (sections_next, rules)

pub returns-in_err-odd : goal.returns-in_err-odd
returns-in_err-odd c = let w = c.in_err-odd.ensures in rw (exit _ c.in_err-odd.field-0.0 c.from_residual.ensures.1) (search (sections_bad, rules))

pub invariant_of-last : goal.invariant_of-last
invariant_of-last c = search (last_forth, rules)

pub returns-in_err-special : goal.returns-in_err-special
returns-in_err-special c = let w = c.in_err-special.was in rw (exit _ c.in_err-special.field-0.0 c.from_residual-in_err-special.ensures.1) (search (last_err, rules))

pub returns-then-odd : goal.returns-then-odd
returns-then-odd c = let w = c.in_ok-special.was in search (last-odd, rules)

pub returns-else-odd : goal.returns-else-odd
returns-else-odd c = let w = c.in_ok-special.was in search (last_fits, rules)
