-- `base_words::load` meets its contract: each turn puts the next word in place.
use Rattle.base_words.proofs.Loops.{load-begin, load-next, load_done}
use borrow.Author.Rules.{rules}
use Rattle.base_words.proofs.load.Goals as goal

pub loop-j-init : goal.loop-j-init
loop-j-init c = search (load-begin, rules)

pub loop-j-preserved : goal.loop-j-preserved
loop-j-preserved c = search (load-next, rules)

pub returns : goal.returns
returns c = search (load_done, rules)
