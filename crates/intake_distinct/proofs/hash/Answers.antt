-- `intake_distinct::hash` meets its contract: the invariant is that the words from w on make the hash of all from the hash so far.
use Rattle.intake_distinct.proofs.Places.{hash-all, hash-next, hash_done}
use Rattle.intake_distinct.proofs.hash.Goals as goal

pub loop-w-init : goal.loop-w-init
loop-w-init c = hash-all _

pub loop-w-preserved : goal.loop-w-preserved
loop-w-preserved c = hash-next _ _ _ c.loop-w.invariant c.loop-w-test.true _ c.mix-h.ensures

pub returns : goal.returns
returns c = hash_done _ _ _ c.loop-w.invariant c.loop-w-test.false
