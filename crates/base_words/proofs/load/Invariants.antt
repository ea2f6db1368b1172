-- `base_words::load` meets its contract: each turn puts the next word in place.
use Rattle.base_words.proofs.Loops.{Loading}
use Rattle.base_words.proofs.load.Given as goal

abbrev pub invariant-loop-j : goal.invariant-loop-j
invariant-loop-j l = Loading l.bytes l.initial.words l.words l.j
