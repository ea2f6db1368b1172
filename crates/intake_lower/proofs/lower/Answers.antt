-- `intake_lower::lower` meets its contract: the pass over each section is the definition on that table, and the first that fails decides.
use native.Mathlib.Omega.{arith}
use mathlib.Core.Bool.{false≢true}
use mathlib.Core.Path.{sym, ◌∙◌}
use borrow.Author.Rules.{rules}
use Rattle.theory_image.specs.Betweens.{header_stretch}
use Rattle.base_views.proofs.LaidOut.{tape}
use Rattle.intake_lower.proofs.Steps.{type_grows, expr_grows}
use Rattle.intake_lower.proofs.Answer.{types-answer, globals_answer, functions_answer, entries_answer, reach, types_fail, globals_fail, functions_fail, last}
use Rattle.intake_lower.proofs.lower.Goals.{then-pass, else-pass, then-pass-2, else-pass-2}
use Rattle.intake_lower.proofs.lower.Goals as goal

pub pass-requires-clause-stretch : goal.pass-requires-clause-stretch
pass-requires-clause-stretch c = rw (c.cells-cells.ensures.0, c.cells-cells.ensures.1) (header_stretch (tape c.args.image).taped 1 _ _ (omega arith) c.offset-types.ensures.0 c.offset-constants.ensures.0)

pub pass-requires-clause-grows : goal.pass-requires-clause-grows
pass-requires-clause-grows c = λ s n r _ _ is. omega (arith, is, type_grows s n)

pub pass-requires-then-pass-clause-stretch : goal.pass-requires-then-pass-clause-stretch
pass-requires-then-pass-clause-stretch c = rw (c.cells-cells.ensures.0, c.cells-cells.ensures.1) (header_stretch (tape c.args.image).taped 5 _ _ (omega arith) c.offset-exprs.ensures.0 c.offset-functions.ensures.0)

pub pass-requires-then-pass-clause-grows : goal.pass-requires-then-pass-clause-grows
pass-requires-then-pass-clause-grows c = λ s n r _ _ is. omega (arith, is, expr_grows s n)

pub pass-requires-then-pass-clause-tests : goal.pass-requires-then-pass-clause-tests
pass-requires-then-pass-clause-tests c = let h = reach (tape c.args.image) in search rules

pub pass-requires-then-pass-2-clause-stretch : goal.pass-requires-then-pass-2-clause-stretch
pass-requires-then-pass-2-clause-stretch c = rw (c.cells-cells.ensures.0, c.cells-cells.ensures.1) (header_stretch (tape c.args.image).taped 6 _ _ (omega arith) c.offset-functions.ensures.0 c.offset-entries.ensures.0)

pub pass-requires-then-pass-2-clause-grows : goal.pass-requires-then-pass-2-clause-grows
pass-requires-then-pass-2-clause-grows c = λ s n r _ _ is. omega (arith, is, expr_grows s n)

pub pass-requires-then-pass-3-clause-stretch : goal.pass-requires-then-pass-3-clause-stretch
pass-requires-then-pass-3-clause-stretch c = rw (c.cells-cells.ensures.0, c.cells-cells.ensures.1) (header_stretch (tape c.args.image).taped 7 _ _ (omega arith) c.offset-entries.ensures.0 c.offset-special.ensures.0)

pub pass-requires-then-pass-3-clause-grows : goal.pass-requires-then-pass-3-clause-grows
pass-requires-then-pass-3-clause-grows c = λ s n r _ _ is. omega (arith, is, expr_grows s n)

pub returns-then-pass-3 : goal.returns-then-pass-3
returns-then-pass-3 c = λ m t. elim c.if-pass-2.branch [
  | then-pass-2 x ↦ elim c.if-pass.branch [
    | then-pass w ↦ last m _ (types-answer t _ _ c.offset-types.ensures.0 c.offset-constants.ensures.0 _ (rw (c.cells-cells.ensures.0, c.cells-cells.ensures.1) at c.pass.ensures)) w.if-pass.true _ (globals_answer t _ _ c.offset-exprs.ensures.0 c.offset-functions.ensures.0 _ (λ s e n b is. search rules) _ (rw (c.cells-cells.ensures.0, c.cells-cells.ensures.1) at w.pass-then-pass.ensures)) (sym w.value-is ∙ x.if-pass-2.true) _ (functions_answer t _ _ c.offset-functions.ensures.0 c.offset-entries.ensures.0 _ (rw (c.cells-cells.ensures.0, c.cells-cells.ensures.1) at x.pass-then-pass-2.ensures)) (sym x.value-is ∙ c.if-pass-3.true) _ (entries_answer t _ _ c.offset-entries.ensures.0 c.offset-special.ensures.0 _ (rw (c.cells-cells.ensures.0, c.cells-cells.ensures.1) at c.pass-then-pass-3.ensures))
    | else-pass w ↦ absurd (false≢true (sym w.if-pass.false ∙ sym w.value-is ∙ x.if-pass-2.true))
  ]
  | else-pass-2 x ↦ absurd (false≢true (sym x.if-pass-2.false ∙ sym x.value-is ∙ c.if-pass-3.true))
]

pub returns-else-pass-3 : goal.returns-else-pass-3
returns-else-pass-3 c = λ m t.
    rw c.if-pass-3.false
    (elim c.if-pass.branch [
      | then-pass w ↦ elim c.if-pass-2.branch [
        | then-pass-2 x ↦ functions_fail m _ (types-answer t _ _ c.offset-types.ensures.0 c.offset-constants.ensures.0 _ (rw (c.cells-cells.ensures.0, c.cells-cells.ensures.1) at c.pass.ensures)) w.if-pass.true _ (globals_answer t _ _ c.offset-exprs.ensures.0 c.offset-functions.ensures.0 _ (λ s e n b is. search rules) _ (rw (c.cells-cells.ensures.0, c.cells-cells.ensures.1) at w.pass-then-pass.ensures)) (sym w.value-is ∙ x.if-pass-2.true) _ (functions_answer t _ _ c.offset-functions.ensures.0 c.offset-entries.ensures.0 _ (rw (c.cells-cells.ensures.0, c.cells-cells.ensures.1) at x.pass-then-pass-2.ensures)) (sym x.value-is ∙ c.if-pass-3.false)
        | else-pass-2 x ↦ globals_fail m _ (types-answer t _ _ c.offset-types.ensures.0 c.offset-constants.ensures.0 _ (rw (c.cells-cells.ensures.0, c.cells-cells.ensures.1) at c.pass.ensures)) w.if-pass.true _ (globals_answer t _ _ c.offset-exprs.ensures.0 c.offset-functions.ensures.0 _ (λ s e n b is. search rules) _ (rw (c.cells-cells.ensures.0, c.cells-cells.ensures.1) at w.pass-then-pass.ensures)) (sym w.value-is ∙ x.if-pass-2.false)
      ]
      | else-pass w ↦ types_fail m _ (types-answer t _ _ c.offset-types.ensures.0 c.offset-constants.ensures.0 _ (rw (c.cells-cells.ensures.0, c.cells-cells.ensures.1) at c.pass.ensures)) w.if-pass.false
    ])
