use borrow.Author.Tests.{not-true, not-false}
use native.Mathlib.Omega.{arith}
use Rattle.base_views.proofs.LaidOut.{laid_out}
use Rattle.redirect_calls.proofs.Places.{start_in}
use Rattle.redirect_calls.proofs.Turning.{one-stays, one-turns, one_asks}
use mathlib.Core.Bool.{not}
use mathlib.Core.Path.{ap}
use Rattle.redirect_calls.proofs.redirect_one.Goals as goal

pub invariant_of-image-clause-laid_out : goal.invariant_of-image-clause-laid_out
invariant_of-image-clause-laid_out c = laid_out c.requires.tape

pub offset_bounds-words-at : goal.offset_bounds-words-at
offset_bounds-words-at c = let h = start_in c.requires.tape.taped c.args.j c.requires.j_bound in let e = c.record-at.ensures.0 in record { fits = omega (arith, h, e) }

pub bounds-words-at : goal.bounds-words-at
bounds-words-at c = let h = start_in c.requires.tape.taped c.args.j c.requires.j_bound in let e = c.record-at.ensures.0 in omega (arith, h, e)

pub redirect_fn-requires : goal.redirect_fn-requires
redirect_fn-requires c = one_asks c.args.words.now c.args.tags.now c.args.n c.args.j c.requires.tape c.requires.j_bound c.record-at.result.0 c.record-at.result.1 c.record-at.ensures.0 c.record-at.ensures.1

pub returns-then-not-stays : goal.returns-then-not-stays
returns-then-not-stays c = one-turns c.args.words.now c.args.tags.now c.args.n c.args.j c.requires.j_bound c.args.redirection c.record-at.result.0 c.record-at.ensures.0 c.stays.result c.stays.ensures c.requires.tape (not-true _ (ap not c.if-not-stays.true)) c.record-at.result.1 c.record-at.ensures.1 c.redirect_fn.new.words c.redirect_fn.ensures

pub returns-else-not-stays : goal.returns-else-not-stays
returns-else-not-stays c = one-stays c.args.words.now c.args.tags.now c.args.n c.args.j c.requires.j_bound c.args.redirection c.record-at.result.0 c.record-at.ensures.0 c.stays.result c.stays.ensures (not-false _ (ap not c.if-not-stays.false))
