use Rattle.std.proofs.Common.{rules}
use Prim.Native.Nat.{ℕ}
use lib.ListN.{length-replicate}
use Rattle.intake_initialisers.proofs.Reaching.{room_first}
use Rattle.intake_initialisers.proofs.visited.Visited.new.Goals as goal

pub invariant_of-result : goal.invariant_of-result
invariant_of-result c = record { room = room_first _ _ _ (search rules) (length-replicate {A = ℕ} 1024 0) c.requires }
