-- `name_classes` meets its contract: what is left to write from here is the whole.
use Rattle.function_record.proofs.Copying.{Naming}
use Rattle.function_record.proofs.name_classes.Given as goal

abbrev pub invariant-loop-j : goal.invariant-loop-j
invariant-loop-j l = Naming l.count l.initial.logtags l.p l.logtags l.j
