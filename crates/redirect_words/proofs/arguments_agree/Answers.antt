-- `redirect_words::arguments_agree` meets its contract: each argument of the shorter list has the type of the other's.
use mathlib.Core.Path.{refl}
use native.Mathlib.Omega.{arith}
use borrow.Author.Tests.{tests}
use Rattle.std.proofs.Common.{rules}
use Rattle.std.proofs.lemmas.Iterator.{YieldsList-from_range, serves_from_Range}
use Rattle.std.proofs.lemmas.Iterator.Search.{all_from_yields_List}
use Rattle.redirect_words.proofs.Finding.{lists_in, same_type, in_a, in_b, agrees}
use Rattle.redirect_words.proofs.arguments_agree.Goals as goal

pub arguments-requires : goal.arguments-requires
arguments-requires c = lists_in c.args.image c.requires.0 _ c.start-a.ensures

pub arguments-requires-2 : goal.arguments-requires-2
arguments-requires-2 c = lists_in c.args.image c.requires.1 _ c.start-b.ensures

pub all-requires-clause-callable : goal.all-requires-clause-callable
all-requires-clause-callable c =
    serves_from_Range (λ x q k. search rules) (λ x _ less.
    let u = in_a c.args.image c.args.original c.args.replacement c.requires.0 c.requires.1 c.start-a.result c.start-b.result c.start-a.ensures c.start-b.ensures _ _ c.arguments.ensures.0 c.arguments-2.ensures.0 c.min-shorter.result c.min-shorter.ensures x less in
    let v = in_b c.args.image c.args.original c.args.replacement c.requires.0 c.requires.1 c.start-a.result c.start-b.result c.start-a.ensures c.start-b.ensures _ _ c.arguments.ensures.0 c.arguments-2.ensures.0 c.min-shorter.result c.min-shorter.ensures x less in
    (λ _ _ _ _ _ _ _. u, λ _ _ _ _ _ _ _ _ _. v))

pub returns : goal.returns
returns c =
    let a = c.args in
    let test = same_type a.image a.original a.replacement c.requires.0 c.requires.1 c.start-a.result c.start-b.result c.start-a.ensures c.start-b.ensures in
    agrees a.image a.original a.replacement c.requires.0 c.requires.1 c.start-a.result c.start-b.result c.start-a.ensures c.start-b.ensures _ _ c.arguments.ensures.0 c.arguments-2.ensures.0 c.min-shorter.result c.min-shorter.ensures c.all.result
    (all_from_yields_List test _ _ c.all.result c.all.ensures.ran (YieldsList-from_range 0 c.min-shorter.result c.min-shorter.result refl (omega arith)) (λ x b q k. search (rules, tests)))
