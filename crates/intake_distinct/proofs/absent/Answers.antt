-- `intake_distinct::absent` meets its contract: each from number `from` on is another.
use mathlib.Core.Bool.{not}
use mathlib.Core.Path.{refl, ap, ◌∙◌}
use Prim.Native.Nat.{◌-◌}
use lib.Dec.{eqb}
use borrow.Author.Tests.{tests}
use Rattle.std.proofs.Common.{rules}
use Rattle.std.proofs.lemmas.Iterator.{YieldsList-from_range}
use Rattle.std.proofs.lemmas.Iterator.Search.{all_from_yields_List}
use Rattle.model.specs.Names.{absent}
use Rattle.intake_distinct.specs.Listed.{listing, number_at}
use Rattle.intake_distinct.proofs.Places.{absent_is}
use Rattle.intake_distinct.proofs.absent.Goals as goal

pub returns : goal.returns
returns c =
    let a = c.args in
    let at = number_at a.words.now a.k in
    all_from_yields_List (λ j. not (eqb a.x (at j))) _ _ c.all.result c.all.ensures.ran (YieldsList-from_range a.from c.count.result (c.count.result - a.from) refl refl) (λ x v q k. search (rules, tests))
    ∙ absent_is at a.x (c.count.result - a.from) a.from ∙ ap (λ n. absent (listing at (n - a.from) a.from) a.x) c.count.ensures.0
