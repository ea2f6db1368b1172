-- `tell` meets its contract: what is left to write from here is the whole.
use native.Mathlib.Omega.{arith}
use Rattle.session.proofs.Running.{telling_begin, telling_next, told}
use Rattle.session.proofs.tell.Goals as goal

pub loop-j-init : goal.loop-j-init
loop-j-init c = telling_begin c.args.said.now c.args.answers.now c.min-from.result c.min-n.result

pub loop-j-preserved : goal.loop-j-preserved
loop-j-preserved c = telling_next c.args.said.now c.args.answers.now c.min-from.result c.min-n.result c.loop-j.answers c.loop-j.j c.loop-j.invariant (omega (arith, c.min-n.ensures)) c.loop-j-test.true

pub returns : goal.returns
returns c = told c.args.said.now c.args.answers.now c.min-from.result c.min-n.result c.loop-j.answers c.loop-j.j c.loop-j.invariant c.args.at c.min-from.ensures c.min-n.ensures c.loop-j-test.false
