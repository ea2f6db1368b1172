use Rattle.redirect_calls.proofs.Pass.{begin, finish, next}
use borrow.Author.Rules.{rules}
use Rattle.redirect_calls.proofs.redirect_fn.Goals as goal

pub loop-j-init : goal.loop-j-init
loop-j-init c = search (begin, rules)

pub loop-j-preserved : goal.loop-j-preserved
loop-j-preserved c = search (next, rules)

pub returns : goal.returns
returns c = search (finish, rules)
