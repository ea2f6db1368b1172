-- `intake_distinct::unlike` meets its contract: each name from number `from` on is another.
use mathlib.Core.Bool.{not}
use mathlib.Core.Path.{refl, ap, ◌∙◌}
use Prim.Native.Nat.{◌-◌}
use borrow.Author.Tests.{tests}
use lib.Pointwise.{pointwise}
use Rattle.std.proofs.Common.{nat_eq, rules}
use Rattle.std.proofs.lemmas.Iterator.{YieldsList-from_range}
use Rattle.std.proofs.lemmas.Iterator.Search.{all_from_yields_List}
use Rattle.model.specs.Names.{unlike}
use Rattle.intake_distinct.specs.Listed.{listing, name_at}
use Rattle.intake_distinct.proofs.Places.{unlike_is}
use Rattle.intake_distinct.proofs.unlike.Goals as goal

pub returns : goal.returns
returns c =
    let a = c.args in
    let at = name_at a.words.now in
    all_from_yields_List (λ j. not (pointwise nat_eq a.x.now (at j))) _ _ c.all.result c.all.ensures.ran (YieldsList-from_range a.from c.count.result (c.count.result - a.from) refl refl) (λ x v q k. search (rules, tests))
    ∙ unlike_is at a.x.now (c.count.result - a.from) a.from ∙ ap (λ n. unlike (listing at (n - a.from) a.from) a.x.now) c.count.ensures.0
