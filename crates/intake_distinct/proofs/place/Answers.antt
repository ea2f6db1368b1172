-- `intake_distinct::place` meets its contract: the place is in the words, as `Placed` says.
use Rattle.intake_distinct.proofs.Steps.{pair-placed, record_placed}
use Rattle.intake_distinct.proofs.place.Goals as goal

pub returns-then-k-eq-SPECIAL : goal.returns-then-k-eq-SPECIAL
returns-then-k-eq-SPECIAL c = pair-placed _ _ _ _ c.requires.placed c.requires.j_bound c.if-k-eq-SPECIAL.true c.pair_at.ensures

pub start_of-requires : goal.start_of-requires
start_of-requires c = (c.requires.placed.known, c.requires.placed.offset _ c.requires.j_bound c.if-k-eq-SPECIAL.false)

pub returns : goal.returns
returns c = record_placed _ _ _ _ c.requires.placed c.requires.j_bound c.if-k-eq-SPECIAL.false c.start_of.ensures.0
