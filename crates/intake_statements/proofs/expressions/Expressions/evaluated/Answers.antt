use Rattle.intake_statements.proofs.Laid.{exprs}
use mathlib.Core.Bool.{false≢true}
use mathlib.Core.Path.{sym, ◌∙◌}
use borrow.Author.Tests.{eqb-true, eqb-false}
use Rattle.intake_statements.proofs.Scopes.{evaluated_kind, evaluated_twice, evaluated_initial, evaluated_reads, evaluated_fine}
use Rattle.intake_statements.proofs.expressions.Expressions.evaluated.Goals as goal
use Rattle.intake_statements.proofs.expressions.Expressions.evaluated.Goals.{then-emits, else-emits, then-until-e-eq0+then-initialiser, then-until-e-eq0+else-initialiser, else-until-e-eq0, then-initialiser-2, else-initialiser-2}

pub returns-after-initialiser-2 : goal.returns-after-initialiser-2
returns-after-initialiser-2 c =
    rw c.if-fine.true
    (elim c.if-emits.branch [
      | then-emits v ↦ elim c.if-until-e-eq0.branch [
        | then-until-e-eq0+then-initialiser w ↦ elim c.if-initialiser-2.branch [
          | then-initialiser-2 q ↦ rw q.until-is (evaluated_initial _ _ _ _ _ _ _ _ _ (exprs c.args.self) c.requires.at_lt_keep c.requires.e_lt_count _ c.kind.ensures _ c.emits.ensures v.if-emits.true (eqb-true _ 0 (sym v.value-is ∙ w.if-until-e-eq0.true)) w.if-initialiser.true)
          | else-initialiser-2 q ↦ absurd (false≢true (sym q.if-initialiser-2.false ∙ w.if-initialiser.true))
        ]
        | then-until-e-eq0+else-initialiser w ↦ elim c.if-initialiser-2.branch [
          | then-initialiser-2 q ↦ absurd (false≢true (sym w.if-initialiser.false ∙ q.if-initialiser-2.true))
          | else-initialiser-2 q ↦ rw q.until-is (evaluated_fine _ _ _ _ _ _ _ _ _ (exprs c.args.self) c.requires.at_lt_keep c.requires.e_lt_count _ c.kind.ensures _ c.emits.ensures v.if-emits.true (eqb-true _ 0 (sym v.value-is ∙ w.if-until-e-eq0.true)) w.if-initialiser.false _ w.reads.ensures (sym w.fine-is ∙ c.if-fine.true))
        ]
        | else-until-e-eq0 w ↦ absurd (false≢true (sym (w.fine-is ∙ w.if-until-e-eq0.false) ∙ c.if-fine.true))
      ]
      | else-emits v ↦ let no = v.value-is ∙ v.if-emits.false in elim c.if-until-e-eq0.branch [
        | then-until-e-eq0+then-initialiser w ↦ absurd (false≢true (sym no ∙ w.if-until-e-eq0.true))
        | then-until-e-eq0+else-initialiser w ↦ absurd (false≢true (sym no ∙ w.if-until-e-eq0.true))
        | else-until-e-eq0 w ↦ absurd (false≢true (sym (w.fine-is ∙ no) ∙ c.if-fine.true))
      ]
    ])

pub returns-else-fine : goal.returns-else-fine
returns-else-fine c =
    rw c.if-fine.false
    (elim c.if-emits.branch [
      | then-emits v ↦ elim c.if-until-e-eq0.branch [
        | then-until-e-eq0+then-initialiser w ↦ absurd (false≢true (sym (sym w.fine-is ∙ c.if-fine.false) ∙ w.if-initialiser.true))
        | then-until-e-eq0+else-initialiser w ↦ evaluated_reads _ _ _ _ _ _ _ _ _ (exprs c.args.self) c.requires.at_lt_keep c.requires.e_lt_count _ c.kind.ensures _ c.emits.ensures v.if-emits.true (eqb-true _ 0 (sym v.value-is ∙ w.if-until-e-eq0.true)) w.if-initialiser.false _ w.reads.ensures (sym w.fine-is ∙ c.if-fine.false)
        | else-until-e-eq0 w ↦ evaluated_twice _ _ _ _ _ _ _ _ _ (exprs c.args.self) c.requires.at_lt_keep c.requires.e_lt_count _ c.kind.ensures _ c.emits.ensures v.if-emits.true (eqb-false _ 0 (sym v.value-is ∙ w.if-until-e-eq0.false))
      ]
      | else-emits v ↦ evaluated_kind _ _ _ _ _ _ _ _ _ (exprs c.args.self) c.requires.at_lt_keep c.requires.e_lt_count _ c.kind.ensures _ c.emits.ensures v.if-emits.false
    ])
