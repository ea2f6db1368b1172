-- `intake_distinct::mark` meets its contract: a mark that is there stays, the first of a place is the fingerprint, and after another one it is SEVERAL.
use mathlib.Core.Path.{sym, ◌∙◌}
use borrow.Author.Tests.{eqb-true, eqb-false, not-true, not-false}
use Rattle.intake_distinct.proofs.Places.{mark_own, mark_several, mark-first, mark-more}
use Rattle.intake_distinct.proofs.mark.Goals as goal
use Rattle.intake_distinct.proofs.mark.Goals.{then-old-own, else-old-own, then-old-eq0, else-old-eq0}

pub returns-after-old-eq0 : goal.returns-after-old-eq0
returns-after-old-eq0 c =
    rw c.if-new.true
    (elim c.if-old-own.branch [
      | then-old-own w ↦ elim c.if-old-eq0.branch [
        | then-old-eq0 v ↦ rw v.seen-is (mark-first _ _ _ c.requires _ c.fingerprint-own.ensures v.if-old-eq0.true)
        | else-old-eq0 v ↦ rw v.seen-is (mark-more _ _ _ c.requires _ c.fingerprint-own.ensures w.if-old-own.true (eqb-false _ 255 (not-true _ (sym w.new-is ∙ c.if-new.true))))
      ]
      | else-old-own w ↦ absurd (eqb-false _ _ (not-true _ (sym w.new-is ∙ c.if-new.true)) w.if-old-own.false)
    ])

pub returns-else-new : goal.returns-else-new
returns-else-new c =
    rw c.if-new.false
    (elim c.if-old-own.branch [
      | then-old-own w ↦ mark_several _ _ _ (eqb-true _ 255 (not-false _ (sym w.new-is ∙ c.if-new.false)))
      | else-old-own w ↦ mark_own _ _ _ _ c.fingerprint-own.ensures w.if-old-own.false
    ])
