-- `name_classes` meets its contract: what is left to write from here is the whole.
use Rattle.function_record.proofs.Copying.{naming-begin, naming-next, naming_done}
use borrow.Author.Rules.{rules}
use Rattle.function_record.proofs.name_classes.Goals as goal

pub loop-j-init : goal.loop-j-init
loop-j-init c = search (naming-begin, rules)

pub loop-j-preserved : goal.loop-j-preserved
loop-j-preserved c = let x = c.args in naming-next x.count x.logtags.now x.p c.loop-j.logtags c.loop-j.j c.loop-j.invariant c.loop-j-test.true

pub returns : goal.returns
returns c = search (naming_done, rules)
