-- `intake_names::present` meets its contract: each number of the section is not 0.
use lib.Dec.{eqb}
use mathlib.Core.Bool.{not}
use mathlib.Core.Path.{refl, ap, ◌∙◌}
use native.Mathlib.Omega.{arith}
use borrow.Author.Tests.{tests}
use Rattle.std.proofs.Common.{rules}
use Rattle.std.proofs.lemmas.Iterator.{YieldsList-from_range}
use Rattle.std.proofs.lemmas.Iterator.Search.{all_from_yields_List}
use Rattle.model.specs.Names.{present}
use Rattle.intake_distinct.specs.Listed.{listing, number_at}
use Rattle.intake_names.proofs.Steps.{present_is}
use Rattle.intake_names.proofs.present.Goals as goal

pub returns : goal.returns
returns c =
    let a = c.args in
    let at = number_at a.words.now a.k in
    all_from_yields_List (λ j. not (eqb (at j) 0)) _ _ c.all.result c.all.ensures.ran (YieldsList-from_range 0 c.count.result c.count.result refl (omega arith)) (λ x v q k. search (rules, tests))
    ∙ present_is at c.count.result 0 ∙ ap (λ n. present (listing at n 0)) c.count.ensures.0
