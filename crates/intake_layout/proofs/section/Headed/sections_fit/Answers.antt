-- `intake_layout::section::Headed::sections_fit` meets its contract.
use Rattle.std.proofs.Common.{rules, refl}
use Rattle.intake_layout.proofs.Header.{placed_out, placed-next, placed_done}
use Rattle.intake_layout.proofs.section.Headed.sections_fit.Goals as goal

pub returns-then-start-at : goal.returns-then-start-at
returns-then-start-at c = placed_out c.args.self.extent.words.now c.args.self.extent.end c.args.self.header c.args.self.extent.inside c.loop-j.at c.loop-j.j c.loop-j.invariant c.loop-j-test.true _ _ _ c.offset-start.ensures.0 c.end_at-end.ensures.0 c.limit-most.ensures.0 (rw c.count-many.ensures.0 at c.then-start-at.either)

pub loop-j-preserved : goal.loop-j-preserved
loop-j-preserved c = search (placed-next, rules)

pub returns : goal.returns
returns c = search (placed_done, rules)
