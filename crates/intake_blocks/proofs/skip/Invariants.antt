use Prim.Native.Nat.{◌+◌}
use lib.ListN.{get_or}
use Rattle.intake_blocks.proofs.Answers.{Skipping}
use Rattle.intake_blocks.proofs.skip.Given as goal

abbrev pub invariant-loop : goal.invariant-loop
invariant-loop l = Skipping l.words (get_or l.words l.at 0) (l.at + 1) l.counter l.i
