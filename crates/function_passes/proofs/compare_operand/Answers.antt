-- `compare_operand` meets its contract: the words from the first code of an atomic function on compare what all of them do.
use mathlib.Core.Path.{refl, ◌∙◌}
use native.Mathlib.Omega.{arith}
use borrow.Author.Tests.{tests}
use Rattle.std.specs.Prelude.{None, Some}
use Rattle.std.proofs.Common.{rules, ◌-◌}
use Rattle.std.proofs.lemmas.Iterator.{YieldsList-from_range}
use Rattle.std.proofs.lemmas.Iterator.Search.{find_from_yields_List}
use Rattle.function_words.proofs.Words.{compare-last, compare_some, compare-other}
use Rattle.model.specs.Operands.{optional}
use Rattle.function_passes.specs.Compared.{compared}
use Rattle.function_passes.proofs.Comparing.{compared_word, is_atomic, first_atomic}
use Rattle.function_passes.proofs.compare_operand.Goals.{else-k-end-via-then-k-end+else-image-k-eq-OPT_EXPR, else-k-end-via-else-k-end}
use Rattle.function_passes.proofs.compare_operand.Goals as goal

pub returns-in_err-k : goal.returns-in_err-k
unfolding compared optional
returns-in_err-k c =
    let a = c.args in
    let q = first_atomic a.image.words.now a.image.tags.now a.i a.end c.requires None (find_from_yields_List (is_atomic a.image.words.now a.image.tags.now a.i a.end c.requires) _ _ None c.in_err-k.ensures.ran (YieldsList-from_range a.i a.end (a.end - a.i) refl (omega arith)) (λ x b q k. search (rules, tests))) in
    rw c.from_residual.ensures q

pub returns-then-image-k-eq-OPT_EXPR : goal.returns-then-image-k-eq-OPT_EXPR
returns-then-image-k-eq-OPT_EXPR c =
    let a = c.args in
    let q = first_atomic a.image.words.now a.image.tags.now a.i a.end c.requires (Some c.in_ok-k.field-0) (find_from_yields_List (is_atomic a.image.words.now a.image.tags.now a.i a.end c.requires) _ _ (Some c.in_ok-k.field-0) c.in_ok-k.ensures.ran (YieldsList-from_range a.i a.end (a.end - a.i) refl (omega arith)) (λ x b q k. search (rules, tests))) in
    compared_word _ _ c.checked_sub.ensures ∙ compare_some q.2 q.0 q.1 c.if-k-end.true c.if-image-k-eq-OPT_EXPR.true

pub returns : goal.returns
unfolding compared optional
returns c =
    let a = c.args in
    let q = first_atomic a.image.words.now a.image.tags.now a.i a.end c.requires (Some c.in_ok-k.field-0) (find_from_yields_List (is_atomic a.image.words.now a.image.tags.now a.i a.end c.requires) _ _ (Some c.in_ok-k.field-0) c.in_ok-k.ensures.ran (YieldsList-from_range a.i a.end (a.end - a.i) refl (omega arith)) (λ x b q k. search (rules, tests))) in
    elim c.else-k-end.branch [
      | else-k-end-via-then-k-end+else-image-k-eq-OPT_EXPR w ↦ compare-other q.2 q.0 q.1 w.if-k-end.true w.if-image-k-eq-OPT_EXPR.false
      | else-k-end-via-else-k-end w ↦ compare-last q.2 q.0 q.1 (let h = w.if-k-end.false in omega arith)
    ]
