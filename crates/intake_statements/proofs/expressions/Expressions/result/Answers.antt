use Rattle.intake_statements.proofs.Laid.{exprs}
use native.Mathlib.Omega.{arith}
use mathlib.Core.Bool.{false≢true}
use mathlib.Core.Path.{sym, ◌∙◌}
use borrow.Author.Tests.{eqb-true, eqb-false, ltb-true}
use Rattle.intake_statements.proofs.Results.{result_in_lem, result_none, result_out, result_unfit, result_twice, result_fine}
use borrow.Author.Rules.{rules}
use Rattle.intake_statements.proofs.expressions.Expressions.result.Goals as goal
use Rattle.intake_statements.proofs.expressions.Expressions.result.Goals.{then-e-self, else-e-self, then-result_fits, else-result_fits}

pub returns-in_default : goal.returns-in_default
returns-in_default c = let x = exprs c.args.self in search (result_none, x, rules)

pub result_fits-requires-clause-at_bound : goal.result_fits-requires-clause-at_bound
result_fits-requires-clause-at_bound c = omega (arith, result_in_lem _ _ _ _ _ (sym c.in-Some.is ∙ c.result_of.ensures), c.requires.stop_bound)

pub returns-then-fine : goal.returns-then-fine
returns-then-fine c =
    let is = sym c.in-Some.is ∙ c.result_of.ensures in
    rw c.if-fine.true
    (elim c.if-result_fits.branch [
      | then-result_fits w ↦ elim c.if-e-self.branch [
        | then-e-self v ↦ result_fine _ _ _ _ _ _ _ _ (exprs c.args.self) c.requires.stop_le_keep c.requires.at_bound _ is v.if-e-self.true _ v.result_fits.ensures (sym v.value-is ∙ w.if-result_fits.true) (eqb-true _ 0 (sym w.fine-is ∙ c.if-fine.true))
        | else-e-self v ↦ absurd (omega (arith, ltb-true _ _ (sym v.value-is ∙ w.if-result_fits.true), v.if-e-self.false))
      ]
      | else-result_fits w ↦ absurd (false≢true (sym (w.fine-is ∙ w.if-result_fits.false) ∙ c.if-fine.true))
    ])

pub returns-else-fine : goal.returns-else-fine
returns-else-fine c =
    let is = sym c.in-Some.is ∙ c.result_of.ensures in
    rw c.if-fine.false
    (elim c.if-e-self.branch [
      | then-e-self v ↦ elim c.if-result_fits.branch [
        | then-result_fits w ↦ result_twice _ _ _ _ _ _ _ _ (exprs c.args.self) c.requires.stop_le_keep c.requires.at_bound _ is v.if-e-self.true _ v.result_fits.ensures (sym v.value-is ∙ w.if-result_fits.true) (eqb-false _ 0 (sym w.fine-is ∙ c.if-fine.false))
        | else-result_fits w ↦ result_unfit _ _ _ _ _ _ _ _ (exprs c.args.self) c.requires.stop_le_keep c.requires.at_bound _ is v.if-e-self.true _ v.result_fits.ensures (sym v.value-is ∙ w.if-result_fits.false)
      ]
      | else-e-self v ↦ result_out _ _ _ _ _ _ _ _ (exprs c.args.self) c.requires.stop_le_keep c.requires.at_bound _ is v.if-e-self.false
    ])
