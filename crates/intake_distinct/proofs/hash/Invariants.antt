-- `intake_distinct::hash` meets its contract: the invariant is that the words from w on make the hash of all from the hash so far.
use Rattle.intake_distinct.proofs.Places.{Hashing}
use Rattle.intake_distinct.proofs.hash.Given as goal

abbrev pub invariant-loop-w : goal.invariant-loop-w
invariant-loop-w l = Hashing l.name l.h l.w-index
