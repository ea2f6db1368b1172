use Rattle.std.proofs.Common.{rules, tests}
use Rattle.std.proofs.lemmas.Iterator.{YieldsList-from_slice}
use Rattle.std.proofs.lemmas.Iterator.Search.{all_from_yields_List}
use lib.Dec.{ltb}
use Rattle.redirect_words.proofs.Lists.{inside-not, inside-rest}
use Rattle.redirect_words.proofs.inside.Goals as goal

pub returns-then-request-names-2 : goal.returns-then-request-names-2
returns-then-request-names-2 c =
    inside-rest _ _ _ _ _ c.if-request-names-2.true.0 c.if-request-names-2.true.1
    (all_from_yields_List (λ x. ltb x c.args.names) _ _ c.all.result c.all.ensures.ran (YieldsList-from_slice c.args.request.omit.now cc) (λ x b q k. search (rules, tests)))

pub returns-else-request-names-2 : goal.returns-else-request-names-2
returns-else-request-names-2 c = inside-not _ _ _ _ c.if-request-names-2.either _ (search rules)
