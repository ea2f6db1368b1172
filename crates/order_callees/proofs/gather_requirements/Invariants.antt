-- `order_callees::gather_requirements` meets its contract. The invariant: the functions passed call what their records call, and the others nothing.
use Rattle.order_callees.proofs.Whole.{Going}
use Rattle.order_callees.proofs.gather_requirements.Given as goal

abbrev pub invariant-loop-f : goal.invariant-loop-f
invariant-loop-f l = Going l.image.words.now l.image.tags.now l.f l.callees
