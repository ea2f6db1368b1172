-- `FunctionSet::leave` meets its contract: one bit less in one word.
use mathlib.Core.Bool.{false}
use Rattle.order_ranks.specs.Marks.{holds}
use native.Mathlib.Omega.{arith}
use Rattle.order_ranks.proofs.Bits.{xor_clears}
use Rattle.order_ranks.proofs.Marks.{puts, low_bit}
use Rattle.order_ranks.proofs.FunctionSet.leave.Goals as goal

pub returns : goal.returns
unfolding holds
returns c = puts false _ _ _ (omega arith) c.requires.0 (xor_clears _ _ (low_bit _) c.requires.1)
