-- `intake_names::expressions` meets its contract: the invariant is that what is left from word i on, with the class before it and the marks, says what the whole says.
use native.Mathlib.Omega.{arith}
use mathlib.Core.Path.{refl}
use Rattle.intake_names.proofs.Steps.{marked_all, marked-none, unnamed_fails, list_next, other-next, in_marks, twice, mark-next}
use borrow.Author.Rules.{rules}
use Rattle.intake_names.proofs.expressions.Goals as goal
use Rattle.intake_names.proofs.expressions.Goals.{then-s-eq-NAMED, else-s-eq-NAMED+then-s-eq-NAMED_EXPR+else-marks-e, else-s-eq-NAMED+else-s-eq-NAMED_EXPR}

pub loop-j-init : goal.loop-j-init
loop-j-init c = marked_all _ _ _ _ c.requires.stretch c.requires.each

pub bounds-cells-j : goal.bounds-cells-j
bounds-cells-j c = let p = c.requires.stretch in omega arith

pub offset_bounds-cells-j : goal.offset_bounds-cells-j
offset_bounds-cells-j c = let p = c.requires.stretch in search rules

pub bounds-cells-j-in-loop-j : goal.bounds-cells-j-in-loop-j
bounds-cells-j-in-loop-j c = let p = c.requires.stretch in omega arith

pub returns-then-unnamed : goal.returns-then-unnamed
returns-then-unnamed c = unnamed_fails _ _ _ _ c.requires.stretch _ _ _ _ c.loop-j.invariant c.loop-j-test.true _ c.unnamed.ensures c.if-unnamed.true

pub bounds-marks-e : goal.bounds-marks-e
bounds-marks-e c = in_marks _ _ _ _ c.requires.stretch _ _ _ _ c.loop-j.invariant c.loop-j-test.true _ c.unnamed.ensures c.if-unnamed.false c.if-s-eq-NAMED.false c.if-s-eq-NAMED_EXPR.true _ refl

pub returns-then-marks-e : goal.returns-then-marks-e
returns-then-marks-e c = twice _ _ _ _ c.requires.stretch _ _ _ _ c.loop-j.invariant c.loop-j-test.true _ c.unnamed.ensures c.if-unnamed.false c.if-s-eq-NAMED.false c.if-s-eq-NAMED_EXPR.true _ refl c.if-marks-e.true

pub bounds-marks-e-then-s-eq-NAMED_EXPR : goal.bounds-marks-e-then-s-eq-NAMED_EXPR
bounds-marks-e-then-s-eq-NAMED_EXPR c = in_marks _ _ _ _ c.requires.stretch _ _ _ _ c.loop-j.invariant c.loop-j-test.true _ c.unnamed.ensures c.if-unnamed.false c.if-s-eq-NAMED.false c.if-s-eq-NAMED_EXPR.true _ refl

pub loop-j-preserved : goal.loop-j-preserved
loop-j-preserved c =
    elim c.if-s-eq-NAMED.branch [
      | then-s-eq-NAMED w ↦ rw w.marks-is (list_next _ _ _ _ c.requires.stretch _ _ _ _ c.loop-j.invariant c.loop-j-test.true _ c.unnamed.ensures c.if-unnamed.false w.if-s-eq-NAMED.true)
      | else-s-eq-NAMED+then-s-eq-NAMED_EXPR+else-marks-e w ↦ rw w.marks-is (mark-next _ _ _ _ c.requires.stretch _ _ _ _ c.loop-j.invariant c.loop-j-test.true _ c.unnamed.ensures c.if-unnamed.false w.if-s-eq-NAMED.false w.if-s-eq-NAMED_EXPR.true _ refl w.if-marks-e.false)
      | else-s-eq-NAMED+else-s-eq-NAMED_EXPR w ↦ rw w.marks-is (other-next _ _ _ _ c.requires.stretch _ _ _ _ c.loop-j.invariant c.loop-j-test.true _ c.unnamed.ensures c.if-unnamed.false w.if-s-eq-NAMED.false w.if-s-eq-NAMED_EXPR.false)
    ]

pub returns : goal.returns
returns c = marked-none _ _ _ _ c.requires.stretch _ _ _ _ c.loop-j.invariant c.loop-j-test.false
