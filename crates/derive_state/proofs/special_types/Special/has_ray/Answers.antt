use borrow.Author.Tests.{tests}
use Rattle.std.proofs.Common.{rules, not, eqb}
use Rattle.std.proofs.lemmas.Iterator.{YieldsList-from_slice}
use Rattle.std.proofs.lemmas.Iterator.Search.{any_from_yields_List}
use Rattle.derive_state.proofs.Pairs.{any_found}
use Rattle.derive_state.proofs.special_types.Special.has_ray.Goals as goal

pub returns : goal.returns
returns c =
    let i = c.self.inside in
    rw (← c.self.view_is) (any_found i.rays i.pairs c.self.invariant.0 _ (any_from_yields_List (λ v. not (eqb v 0)) _ _ c.any.result c.any.ensures.ran (YieldsList-from_slice i.rays cc) (λ x b q k. search (rules, tests))))
