use Rattle.redirect_words.proofs.Finding.{differ_arguments, differ-results, differ-none}
use borrow.Author.Rules.{rules}
use Rattle.redirect_words.proofs.compare.Goals as goal

pub returns-then-not-arguments_agree : goal.returns-then-not-arguments_agree
returns-then-not-arguments_agree c = search (differ_arguments, rules)

pub returns-then-not-results_agree : goal.returns-then-not-results_agree
returns-then-not-results_agree c = search (differ-results, rules)

pub returns : goal.returns
returns c = search (differ-none, rules)
