-- `copy_tags` meets its contract: what is left to copy from here is the whole.
use Rattle.function_record.proofs.Copying.{Copying}
use Rattle.function_record.proofs.copy_tags.Given as goal

abbrev pub invariant-loop-j : goal.invariant-loop-j
invariant-loop-j l = Copying l.tags l.a l.count l.initial.logtags l.p l.logtags l.j
