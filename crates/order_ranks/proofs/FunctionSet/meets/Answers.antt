-- `FunctionSet::meets` meets its contract: word by word, the sets have a bit in common.
use mathlib.Core.Path.{◌≡◌, refl, ◌∙◌}
use native.Mathlib.Omega.{arith}
use lib.ListN.{length}
use borrow.Author.Tests.{tests}
use Rattle.std.proofs.Common.{rules}
use Rattle.std.proofs.lemmas.Iterator.{YieldsList-from_slice, YieldsList-from_zip}
use Rattle.std.proofs.lemmas.Iterator.Search.{any_from_yields_List}
use Rattle.order_ranks.specs.Marks.{meets}
use Rattle.order_ranks.proofs.Bits.{meet_is}
use Rattle.order_ranks.proofs.Marks.{words_meet, meet_each}
use Rattle.order_ranks.proofs.FunctionSet.meets.Goals as goal

pub returns : goal.returns
returns c =
    let a = c.args.self.now.0 in
    let b = c.args.other.now.0 in
    let h : length a ≡ 4 = omega arith in
    let k : length b ≡ 4 = omega arith in
    any_from_yields_List (λ p. meets p.0 p.1) c.any.new.self _ c.any.result c.any.ensures.ran (YieldsList-from_zip (YieldsList-from_slice a cc) (YieldsList-from_slice b cc)) (λ x b q k.
    let r = meet_is x.0.now x.1.now in search (rules, tests, r))
    ∙ meet_each a b h k
    ∙ words_meet a b
