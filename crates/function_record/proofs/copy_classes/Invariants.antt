-- `copy_classes` meets its contract: what is left to copy from here is the whole, and a class fits its byte.
use Rattle.derive_state.specs.Held.{row}
use Rattle.function_record.proofs.Copying.{Copying}
use Rattle.function_record.proofs.copy_classes.Given as goal

abbrev pub invariant-loop-j : goal.invariant-loop-j
invariant-loop-j l = Copying (row l.stacks 1) l.a l.count l.initial.logtags l.p l.logtags l.j
