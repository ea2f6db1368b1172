-- `order_callees::gather_requirements` meets its contract. The invariant: the functions passed call what their records call, and the others nothing.
use native.Mathlib.Omega.{arith}
use Rattle.order_callees.proofs.Whole.{begin, again, finish}
use Rattle.order_callees.proofs.gather_requirements.Goals as goal

pub loop-f-init : goal.loop-f-init
loop-f-init c = begin _ _ c.requires.no_calls

pub function-requires : goal.function-requires
function-requires c = record { known = c.requires.known; i_bound = omega (arith, c.count-f-end.ensures.0) }

pub loop-f-preserved : goal.loop-f-preserved
loop-f-preserved c = again c.loop-f.invariant (omega (arith, c.count-f-end.ensures.0)) c.function.ensures

pub returns : goal.returns
returns c = finish _ c.loop-f.invariant (omega (arith, c.count-f-end.ensures.0))
