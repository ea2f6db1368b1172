-- `copy_tags` meets its contract: what is left to copy from here is the whole.
use native.Mathlib.Omega.{arith}
use Rattle.function_record.proofs.Copying.{copying_begin, copying_next, copying_done}
use borrow.Author.Rules.{rules}
use Rattle.function_record.proofs.copy_tags.Goals as goal

pub loop-j-init : goal.loop-j-init
loop-j-init c = search (copying_begin, rules)

pub loop-j-preserved : goal.loop-j-preserved
loop-j-preserved c = let x = c.args in copying_next x.tags.now x.a x.count x.logtags.now x.p c.loop-j.logtags c.loop-j.j c.loop-j.invariant (omega (arith, c.requires)) c.loop-j-test.true

pub returns : goal.returns
returns c = search (copying_done, rules)
