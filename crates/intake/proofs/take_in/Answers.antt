use Rattle.base_views.proofs.LaidOut.{laid_out}
use Rattle.intake.proofs.Tests.{tape_so, all_passed, one_failed, not_laid}
use Rattle.std.proofs.lemmas.Result.{err_from_is_err_and}
use Rattle.intake.proofs.take_in.Goals as goal

pub invariant_of-test-clause-laid_out : goal.invariant_of-test-clause-laid_out
invariant_of-test-clause-laid_out c = laid_out (tape_so _ _ _ _ _ c.requires.words_len c.requires.tags_len _ c.in_ok-n.ensures)

pub returns-in_err-n : goal.returns-in_err-n
returns-in_err-n c = let p = err_from_is_err_and c.from_residual.result c.from_residual.ensures.1 in rw (p.1, p.2) (not_laid _ _ _ _ _ c.requires.words_len c.requires.tags_len _ c.in_err-n.ensures)

pub returns-in_err-test : goal.returns-in_err-test
returns-in_err-test c = let p = err_from_is_err_and c.from_residual-in_err-test.result c.from_residual-in_err-test.ensures.1 in rw (p.1, p.2) (one_failed _ _ _ _ _ c.requires.words_len c.requires.tags_len _ c.in_ok-n.ensures _ c.in_err-test.ensures)

pub returns : goal.returns
returns c = all_passed _ _ _ _ _ c.requires.words_len c.requires.tags_len _ c.in_ok-n.ensures c.in_ok-test.ensures
