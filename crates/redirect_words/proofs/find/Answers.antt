-- `redirect_words::find` meets its contract: the first function with the name is the library's search.
use mathlib.Core.Path.{refl}
use native.Mathlib.Omega.{arith}
use borrow.Author.Tests.{tests}
use Rattle.std.proofs.Common.{rules}
use Rattle.std.proofs.lemmas.Iterator.{YieldsList-from_range}
use Rattle.std.proofs.lemmas.Iterator.Search.{find_from_yields_List}
use Rattle.redirect_words.proofs.Finding.{has_name, finds}
use Rattle.redirect_words.proofs.find.Goals as goal

pub returns : goal.returns
returns c =
    let a = c.args in
    let test = has_name a.image a.name in
    finds a.image a.name c.count.result c.count.ensures.0 c.find.result (find_from_yields_List test _ _ c.find.result c.find.ensures.ran (YieldsList-from_range 0 c.count.result c.count.result refl (omega arith)) (λ x b q k. search (rules, tests))) c.map.result _ c.map.ensures.cases (λ j h p. search rules)
