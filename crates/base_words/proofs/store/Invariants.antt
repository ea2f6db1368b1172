-- `base_words::store` meets its contract: each turn puts the next word's four bytes in place.
use Rattle.base_words.proofs.Loops.{Storing}
use Rattle.base_words.proofs.store.Given as goal

abbrev pub invariant-loop-j : goal.invariant-loop-j
invariant-loop-j l = Storing l.words l.initial.bytes l.bytes l.j
