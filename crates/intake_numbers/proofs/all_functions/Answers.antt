-- `intake_numbers::all_functions` meets its contract: what is passed from record i on is the whole.
use mathlib.Core.Bool.{true, false}
use borrow.Author.Rules.{rules}
use Rattle.intake_numbers.specs.Passes.{done, fails, next}
use Rattle.base_views.proofs.LaidOut.{tape}
use Rattle.intake_numbers.proofs.Framing.{framed_small, tested, table_in, table_out}
use Rattle.intake_numbers.proofs.all_functions.Goals as goal

pub overflow_add-at : goal.overflow_add-at
overflow_add-at g c =
    let h = framed_small _ _ _ (tape c.args.image) _ _ (table_in _ _ _ _ _ c.section-section.ensures c.count-i-end.ensures c.loop-i-test.true) _ _ _ c.section-section.ensures c.record-at.ensures.0 c.head.ensures in
    search rules

pub returns-then-not-fine : goal.returns-then-not-fine
returns-then-not-fine g c = c.loop-i.invariant false _ (fails (table_in _ _ _ _ _ c.section-section.ensures c.count-i-end.ensures c.loop-i-test.true) (tested _ _ _ c.section-section.ensures c.fine.ensures c.record-at.ensures.0 c.head.ensures c.record-at.ensures.1 c.if-not-fine.true))

pub loop-i-preserved : goal.loop-i-preserved
loop-i-preserved g c = λ r s p. c.loop-i.invariant r s (next (table_in _ _ _ _ _ c.section-section.ensures c.count-i-end.ensures c.loop-i-test.true) (tested _ _ _ c.section-section.ensures c.fine.ensures c.record-at.ensures.0 c.head.ensures c.record-at.ensures.1 c.if-not-fine.false) p)

pub returns : goal.returns
returns g c = c.loop-i.invariant true _ (done (table_out _ _ _ _ _ c.section-section.ensures c.count-i-end.ensures c.loop-i-test.false))
