-- `FunctionSet::count` meets its contract: the words' counts make the set's, and each is 64 at most.
use mathlib.Core.Path.{◌≡◌, refl, ◌∙◌}
use native.Mathlib.Omega.{arith}
use Prim.Native.Nat.{ℕ}
use lib.ListN.{length}
use borrow.Author.Tests.{tests}
use Rattle.std.proofs.Common.{rules}
use Rattle.std.proofs.lemmas.Iterator.{YieldsList-from_slice, YieldsList-from_map}
use Rattle.std.proofs.lemmas.Iterator.Adapters.{at_most_from_yields_List, fits_from_length}
use Rattle.std.proofs.lemmas.Iterator.Consumers.{sum_by_from_yields_List}
use Rattle.order_ranks.specs.Marks.{ones_of}
use Rattle.order_ranks.proofs.Bits.{ones_are}
use Rattle.order_ranks.proofs.Marks.{counts, count_each}
use Rattle.order_ranks.proofs.FunctionSet.count.Goals as goal

pub sum-requires-clause-fits : goal.sum-requires-clause-fits
sum-requires-clause-fits c =
    let h : length c.args.self.now.0 ≡ 4 = omega arith in
    fits_from_length _ _ 4 _ (at_most_from_yields_List (YieldsList-from_slice c.args.self.now.0 cc) (omega (arith, h))) c.map.ensures.closure (omega arith) (λ x r q k. search (rules, tests))

pub returns : goal.returns
returns c =
    let l = c.args.self.now.0 in
    let h : length l ≡ 4 = omega arith in
    let size : ℕ → ℕ = λ w. length (ones_of w) in
    sum_by_from_yields_List size l c.map.result _ c.sum.ensures.ran (YieldsList-from_map _ size (YieldsList-from_slice l cc) c.map.ensures.closure (λ x r q k.
    let o = ones_are x.now in search (rules, tests, o)))
    ∙ count_each l h
    ∙ counts l
