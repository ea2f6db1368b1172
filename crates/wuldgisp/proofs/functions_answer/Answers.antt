-- Both numbers are below 65,536, so they have room in one word.
use mathlib.Core.Path.{subst}
use Rattle.redirect_words.specs.Passes.{shown}
use Rattle.redirect_bytes.specs.Answers.{Small}
use Rattle.wuldgisp.proofs.Numbers.{times_fits, number_fits, number_is}
use Rattle.std.specs.Prelude.{Ok}
use Rattle.std.proofs.Common.{rules}
use Rattle.wuldgisp.proofs.functions_answer.Goals as goal

pub map-requires : goal.map-requires
map-requires c both e =
    let small : Small (shown (Ok both)) = subst (λ r. Small (shown r)) e c.requires in
    (λ _ _ _ _ _. times_fits both small, λ _ _ _ _ _ _. number_fits both small)

pub returns : goal.returns
returns c = number_is c.args.r c.map.result _ c.map.ensures.cases (λ p v h. search rules) c.answer.result c.answer.ensures
