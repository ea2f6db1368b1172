-- `order_callees::function` meets its contract. The invariant: what is left of the record, marked too, is what is there from its start on.
use Rattle.order_callees.proofs.Marking.{Scanning}
use Rattle.order_callees.proofs.function.Given as goal

abbrev pub invariant-loop-k : goal.invariant-loop-k
invariant-loop-k l = Scanning l.image.words.now l.image.tags.now l.at l.end l.i l.initial.callees l.k l.callees
