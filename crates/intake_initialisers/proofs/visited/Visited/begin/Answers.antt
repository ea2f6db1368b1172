use Rattle.std.proofs.Common.{rules}
use Rattle.intake_initialisers.proofs.Reaching.{room_first}
use Rattle.intake_initialisers.proofs.visited.Visited.begin.Goals as goal

pub invariant_of-self : goal.invariant_of-self
invariant_of-self c = record { room = room_first _ _ _ (search rules) c.args.self.now.room.list_long c.requires }
