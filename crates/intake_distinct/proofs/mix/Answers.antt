-- `intake_distinct::mix` meets its contract: it computes what the definition does.
use mathlib.Core.Path.{refl}
use Rattle.intake_distinct.proofs.Places.{mix_is}
use Rattle.intake_distinct.proofs.mix.Goals as goal

pub returns : goal.returns
returns c = mix_is _ _ _ refl
