-- `intake_distinct::number` meets its contract: the word at the place.
use mathlib.Core.Path.{refl}
use Rattle.intake_distinct.proofs.Steps.{number_is}
use Rattle.intake_distinct.proofs.number.Goals as goal

pub returns : goal.returns
returns c = number_is _ _ _ _ _ c.place-at.ensures.0 refl
