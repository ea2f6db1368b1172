use Prim.Native.Nat.{◌+◌}
use lib.ListN.{get_or}
use Rattle.intake_statements.proofs.Scopes.{Emitting}
use Rattle.intake_statements.proofs.expressions.Expressions.emit.Given as goal

abbrev pub invariant-loop-e : goal.invariant-loop-e
invariant-loop-e l = Emitting l.self.places.cells.words.now l.self.places.cells.tags.now l.self.places.starts.now l.self.initial.now l.initial.until l.self.places.count l.at l.keep (get_or l.self.places.cells.words.now (l.at + 4) 0) (get_or l.self.places.cells.words.now (l.at + 5) 0) l.until l.e
