-- `FunctionSet::join` meets its contract: a power of two has one bit, so one bit of one word is put.
use mathlib.Core.Bool.{true}
use native.Mathlib.Omega.{arith}
use Rattle.order_ranks.proofs.Bits.{or_sets}
use Rattle.order_ranks.proofs.Marks.{puts, low_bit}
use Rattle.order_ranks.proofs.FunctionSet.join.Goals as goal

pub returns : goal.returns
returns c = puts true _ _ _ (omega arith) c.requires (or_sets _ _ (low_bit _))
