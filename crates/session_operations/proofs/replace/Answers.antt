-- `replace` meets its contract: what is left to put from here is the whole.
use Rattle.session_operations.proofs.Replacing.{replacing_begin, replacing_done}
use borrow.Author.Rules.{rules}
use Rattle.session_operations.proofs.replace.Goals as goal

pub loop-j-init : goal.loop-j-init
loop-j-init c = replacing_begin _ _

pub loop-k-init : goal.loop-k-init
loop-k-init c = replacing_begin _ _

pub returns : goal.returns
returns c = (search (replacing_done, rules), search (replacing_done, rules))
