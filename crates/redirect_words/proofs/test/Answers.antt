use borrow.Author.Tests.{not-true, not-false}
use mathlib.Core.Bool.{not}
use mathlib.Core.Path.{ap}
use Rattle.std.proofs.lemmas.Result.{err_from_is_err_and}
use Rattle.redirect_words.proofs.Testing.{names_told, found_in, not_found, test-outside, test_original, test_replacement, test_differ, test_agree}
use Rattle.base_refusals.specs.declared.Refusal.TheVariants.{OriginalNotFound, ReplacementNotFound}
use Rattle.redirect_words.proofs.test.Goals as goal

pub returns-then-not-inside : goal.returns-then-not-inside
returns-then-not-inside c = test-outside _ _ _ (names_told _ _ _ _ c.inside.ensures c.count.ensures.0) (not-true _ (ap not c.if-not-inside.true))

pub returns-in_err-a : goal.returns-in_err-a
returns-in_err-a c =
    let p = err_from_is_err_and c.from_residual.result c.from_residual.ensures.1 in
    let q = not_found _ OriginalNotFound _ _ c.ok_or.ensures.value c.in_err-a.was in
    rw (p.1, p.2, q.1) (test_original _ _ _ (names_told _ _ _ _ c.inside.ensures c.count.ensures.0) (not-false _ (ap not c.if-not-inside.false)) _ c.find.ensures q.0)

pub returns-in_err-b : goal.returns-in_err-b
returns-in_err-b c =
    let p = err_from_is_err_and c.from_residual-in_err-b.result c.from_residual-in_err-b.ensures.1 in
    let q = not_found _ ReplacementNotFound _ _ c.ok_or-2.ensures.value c.in_err-b.was in
    rw (p.1, p.2, q.1) (test_replacement _ _ _ (names_told _ _ _ _ c.inside.ensures c.count.ensures.0) (not-false _ (ap not c.if-not-inside.false)) _ c.find.ensures _ c.in_ok-a.ensures.ok_part _ c.find-2.ensures q.0)

pub compare-requires : goal.compare-requires
compare-requires c =
    (found_in _ _ _ _ c.in_ok-a.ensures.ok_part c.find.ensures, found_in _ _ _ _ c.in_ok-b.ensures.ok_part c.find-2.ensures)

pub returns-in_err-compare : goal.returns-in_err-compare
returns-in_err-compare c =
    let p = err_from_is_err_and c.from_residual-in_err-compare.result c.from_residual-in_err-compare.ensures.1 in
    rw (p.1, p.2) (test_differ _ _ _ (names_told _ _ _ _ c.inside.ensures c.count.ensures.0) (not-false _ (ap not c.if-not-inside.false)) _ c.find.ensures _ c.in_ok-a.ensures.ok_part _ c.find-2.ensures _ c.in_ok-b.ensures.ok_part _ c.in_err-compare.ensures)

pub returns : goal.returns
returns c = test_agree _ _ _ (names_told _ _ _ _ c.inside.ensures c.count.ensures.0) (not-false _ (ap not c.if-not-inside.false)) _ c.find.ensures _ c.in_ok-a.ensures.ok_part _ c.find-2.ensures _ c.in_ok-b.ensures.ok_part _ c.in_ok-compare.ensures
