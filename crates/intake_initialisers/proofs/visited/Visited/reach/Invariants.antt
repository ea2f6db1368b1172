use Prim.Native.Nat.{◌+◌}
use Rattle.intake_initialisers.specs.Room.{blank}
use Rattle.intake_initialisers.proofs.Reaching.{Going}
use Rattle.intake_initialisers.proofs.visited.Visited.reach.Given as goal

abbrev pub invariant-loop-self : goal.invariant-loop-self
invariant-loop-self l = Going l.cells.words.now l.cells.tags.now l.starts l.initial.self l.self

abbrev pub decreases-loop-self : goal.decreases-loop-self
decreases-loop-self l = l.self.top + blank l.self.count l.self.marks
