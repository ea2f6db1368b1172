use Rattle.std.proofs.Common.{refl, sym}
use Rattle.std.proofs.lemmas.Result.{err_from_is_err_and}
use Rattle.session.specs.Sessions.{or_else, numbered}
use Rattle.session.proofs.Firsts.{stays_first}
use Rattle.session.proofs.first_of.Goals as goal

pub returns-in_err-first : goal.returns-in_err-first
returns-in_err-first c = let p = err_from_is_err_and c.from_residual.result c.from_residual.ensures.1 in rw (p.1, p.2, c.in_err-first.was) (sym (stays_first _ _ _))

pub returns-in-Ok : goal.returns-in-Ok
unfolding or_else numbered
returns-in-Ok c = rw (c.in_ok-first.was, c.in-Ok.is) refl

pub returns-in-Err : goal.returns-in-Err
unfolding or_else
returns-in-Err c = rw (c.in_ok-first.was, c.in-Err.is) refl
