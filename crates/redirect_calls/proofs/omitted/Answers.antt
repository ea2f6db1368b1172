use mathlib.Core.Path.{◌∙◌, sym}
use Rattle.std.proofs.Common.{rules, tests}
use Rattle.std.proofs.lemmas.Iterator.{YieldsList-from_slice}
use Rattle.std.proofs.lemmas.Iterator.Search.{any_from_yields_List}
use Prim.Native.Nat.{suc}
use lib.Dec.{eqb}
use Rattle.redirect_calls.proofs.Leaves.{omitted_any}
use Rattle.redirect_calls.proofs.omitted.Goals as goal

pub returns : goal.returns
returns c =
    any_from_yields_List (λ o. eqb c.args.w (suc o)) _ _ c.any.result c.any.ensures.ran (YieldsList-from_slice c.args.omit.now cc) (λ x b q k. search (rules, tests))
    ∙ sym (omitted_any c.args.omit.now c.args.w)
