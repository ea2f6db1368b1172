-- `base_words::store` meets its contract: each turn puts the next word's four bytes in place.
use Rattle.base_words.proofs.Loops.{store-begin, store-next, store_done}
use borrow.Author.Rules.{rules}
use Rattle.base_words.proofs.store.Goals as goal

pub loop-j-init : goal.loop-j-init
loop-j-init c = search (store-begin, rules)

pub loop-j-preserved : goal.loop-j-preserved
loop-j-preserved c = search (store-next, rules)

pub returns : goal.returns
returns c = search (store_done, rules)
