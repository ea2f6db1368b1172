use Rattle.std.proofs.lemmas.Result.{err_from_is_err_and}
use Rattle.base_views.proofs.LaidOut.{laid_out}
use Rattle.redirect_words.proofs.Ending.{words_stay, words_turn}
use Rattle.redirect_words.proofs.redirect_words.Goals as goal

pub invariant_of-test-clause-laid_out : goal.invariant_of-test-clause-laid_out
invariant_of-test-clause-laid_out c = laid_out c.requires

pub returns-in_err-original : goal.returns-in_err-original
returns-in_err-original c =
    let p = err_from_is_err_and c.from_residual.result c.from_residual.ensures.1 in
    rw (p.1, p.2) (words_stay _ _ _ c.in_err-original.ensures)

pub returns : goal.returns
returns c = words_turn _ _ _ _ c.in_ok-original.ensures _ c.redirect_all.ensures
