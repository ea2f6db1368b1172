-- `copy_classes` meets its contract: what is left to copy from here is the whole, and a class fits its byte.
use Prim.Native.Nat.{◌+◌}
use native.Mathlib.Omega.{arith}
use Rattle.derive_state.specs.Held.{row}
use Rattle.function_record.proofs.Copying.{copying_begin, copying_next, copying_done}
use borrow.Author.Rules.{rules}
use Rattle.function_record.proofs.copy_classes.Goals as goal

pub loop-j-init : goal.loop-j-init
loop-j-init c = search (copying_begin, rules)

pub overflow_cast-logtags : goal.overflow_cast-logtags
overflow_cast-logtags c = let h = c.loop-j-test.true in let r = c.requires.by_index (c.args.a + c.loop-j.j) (omega arith) (omega arith) in search (r, rules)

pub loop-j-preserved : goal.loop-j-preserved
loop-j-preserved c = let x = c.args in copying_next (row x.stacks.now 1) x.a x.count x.logtags.now x.p c.loop-j.logtags c.loop-j.j c.loop-j.invariant (omega (arith, c.requires.count_bound)) c.loop-j-test.true

pub returns : goal.returns
returns c = search (copying_done, rules)
