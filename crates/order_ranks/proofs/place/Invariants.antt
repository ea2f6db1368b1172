-- `order_ranks::place` meets its contract. The invariant: what is to be written from mark f on completes the round.
use lib.ListN.{length}
use Rattle.order_ranks.proofs.Turn.{Turn}
use Rattle.order_ranks.proofs.place.Given as goal

abbrev pub invariant-loop-f : goal.invariant-loop-f
invariant-loop-f l = Turn l.callees (length l.callees) l.began.0 l.initial.out l.at l.waiting.0 l.out l.k l.f
