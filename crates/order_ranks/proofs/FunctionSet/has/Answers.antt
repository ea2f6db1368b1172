-- `FunctionSet::has` meets its contract, which says the same.
use mathlib.Core.Path.{refl}
use Rattle.order_ranks.specs.Marks.{bit, holds}
use Rattle.order_ranks.proofs.FunctionSet.has.Goals as goal

pub returns : goal.returns
unfolding holds bit
returns c = refl
