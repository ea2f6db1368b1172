use Rattle.redirect_calls.proofs.Turning.{turning_begin, turning_asks, turning_next, turning_done}
use Rattle.redirect_calls.proofs.redirect_functions.Goals as goal

pub loop-j-init : goal.loop-j-init
loop-j-init c = turning_begin c.args.words.now c.args.tags.now c.args.n c.args.redirection c.count-j-end.result c.count-j-end.ensures.0

pub redirect_one-requires : goal.redirect_one-requires
redirect_one-requires c = let zz = turning_asks c.args.words.now c.args.tags.now c.args.n c.args.redirection c.requires c.count-j-end.result c.loop-j.j c.loop-j.words c.loop-j.invariant c.loop-j-test.true in record { tape = zz.0; j_bound = zz.1 }

pub loop-j-preserved : goal.loop-j-preserved
loop-j-preserved c = turning_next c.args.words.now c.args.tags.now c.args.n c.args.redirection c.requires c.count-j-end.result c.loop-j.j c.loop-j.words c.loop-j.invariant c.loop-j-test.true c.redirect_one.new.words c.redirect_one.ensures

pub returns : goal.returns
returns c = turning_done c.args.words.now c.args.tags.now c.args.n c.args.redirection c.count-j-end.result c.loop-j.j c.loop-j.words c.loop-j.invariant c.loop-j-test.false
