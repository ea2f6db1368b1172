use Rattle.base_views.proofs.Places.{Seeking}
use Prim.Native.Nat.{◌-◌}
use Rattle.base_views.proofs.Cells.named_at.Given as goal

abbrev pub invariant-loop-i : goal.invariant-loop-i
invariant-loop-i l = Seeking l.self.words.now l.self.tags.now l.s l.i

abbrev pub decreases-loop-i : goal.decreases-loop-i
decreases-loop-i l = 16384 - l.i
