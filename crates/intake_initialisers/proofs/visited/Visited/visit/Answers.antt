use Rattle.intake_initialisers.proofs.Visiting.{visit_out, visit_again, visit_room, visit_left, visit_push}
use borrow.Author.Rules.{rules}
use Rattle.intake_initialisers.proofs.visited.Visited.visit.Goals.{then-self-place-via-then-self-place, then-self-place-via-else-self-place+then-self-place-2}
use Rattle.intake_initialisers.proofs.visited.Visited.visit.Goals as goal

pub returns-then-self-place : goal.returns-then-self-place
returns-then-self-place c = elim c.then-self-place.branch [
  | then-self-place-via-then-self-place w ↦ visit_out _ _ w.if-self-place.true
  | then-self-place-via-else-self-place+then-self-place-2 w ↦ visit_again _ _ w.if-self-place-2.true
]

pub bounds-self-self : goal.bounds-self-self
bounds-self-self c = search (visit_room, rules)

pub invariant_of-self : goal.invariant_of-self
invariant_of-self c = record { room = visit_left c.args.self.now _ c.if-self-place.false c.if-self-place-2.false }

pub returns : goal.returns
returns c = search (visit_push, rules)
