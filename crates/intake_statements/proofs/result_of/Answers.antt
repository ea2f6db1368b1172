use mathlib.Core.Path.{◌∙◌}
use Rattle.std.proofs.Common.{rules, Some, None}
use borrow.Author.Tests.{tests}
use Rattle.std.proofs.lemmas.Iterator.{first_from_Range}
use Rattle.intake_statements.proofs.Leaves.{Says, Silent, looked_none, looked_result, looked_optional}
use Rattle.intake_statements.proofs.result_of.Goals as goal

pub returns-in_err-j : goal.returns-in_err-j
returns-in_err-j c =
    let a = c.args in
    let none = first_from_Range _ _ _ None (Says a.cells.tags.now) (Silent a.cells.tags.now) c.in_err-j.ensures.ran (λ x q k. search (rules, tests)) (λ x q k. search (rules, tests)) in
    c.from_residual.ensures ∙ looked_none a.cells.words.now a.cells.tags.now a.from a.to none

pub returns-in-99 : goal.returns-in-99
returns-in-99 c =
    let a = c.args in
    let first = first_from_Range _ _ _ (Some c.in_ok-j.j) (Says a.cells.tags.now) (Silent a.cells.tags.now) c.in_ok-j.ensures.ran (λ x q k. search (rules, tests)) (λ x q k. search (rules, tests)) in
    looked_result a.cells.words.now a.cells.tags.now a.from a.to c.in_ok-j.j first c.in-99.is

pub returns-in_default : goal.returns-in_default
returns-in_default c =
    let a = c.args in
    let first = first_from_Range _ _ _ (Some c.in_ok-j.j) (Says a.cells.tags.now) (Silent a.cells.tags.now) c.in_ok-j.ensures.ran (λ x q k. search (rules, tests)) (λ x q k. search (rules, tests)) in
    looked_optional a.cells.words.now a.cells.tags.now a.from a.to c.in_ok-j.j first (λ e. search rules) _ c.checked_sub.ensures
