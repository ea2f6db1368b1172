-- `order_ranks::place` meets its contract. The invariant: what is to be written from mark f on completes the round.
use mathlib.Core.Path.{sym, ◌∙◌}
use native.Mathlib.Omega.{arith}
use borrow.Author.Rules.{rules}
use Rattle.order_ranks.proofs.Marks.{calls_one_of}
use Rattle.order_ranks.proofs.Turn.{begin, there, keeps, places, passes, fits, finish}
use Rattle.order_ranks.proofs.place.Goals as goal
use Rattle.order_ranks.proofs.place.Goals.{then-has+then-not-meets, else-has, else-has-via-then-has+else-not-meets, else-has-via-else-has}

pub loop-f-init : goal.loop-f-init
loop-f-init c = begin _ _ _ c.requires.small c.requires.low _ _ c.requires.long

pub leave-requires : goal.leave-requires
leave-requires c = let p = c.requires in (omega (arith, p.small), there _ _ _ p.small p.low _ _ _ _ _ _ c.loop-f.invariant c.loop-f-test.true (sym c.has.ensures ∙ c.if-has.true))

pub bounds-out-k : goal.bounds-out-k
bounds-out-k c = let p = c.requires in fits _ _ _ p.small p.low _ _ _ _ _ _ c.loop-f.invariant c.loop-f-test.true p.room (sym c.has.ensures ∙ c.if-has.true) (sym (c.meets.ensures ∙ calls_one_of _ _ _) ∙ c.if-not-meets.true)

pub offset_bounds-out-k : goal.offset_bounds-out-k
offset_bounds-out-k c = let p = c.requires in let h = fits _ _ _ p.small p.low _ _ _ _ _ _ c.loop-f.invariant c.loop-f-test.true p.room (sym c.has.ensures ∙ c.if-has.true) (sym (c.meets.ensures ∙ calls_one_of _ _ _) ∙ c.if-not-meets.true) in search rules

pub overflow_add-k : goal.overflow_add-k
overflow_add-k c = let p = c.requires in let h = fits _ _ _ p.small p.low _ _ _ _ _ _ c.loop-f.invariant c.loop-f-test.true p.room (sym c.has.ensures ∙ c.if-has.true) (sym (c.meets.ensures ∙ calls_one_of _ _ _) ∙ c.if-not-meets.true) in search rules

pub loop-f-preserved : goal.loop-f-preserved
loop-f-preserved c =
    let p = c.requires in
    elim c.if-has.branch [
      | then-has+then-not-meets w ↦
          rw (w.out-is, w.waiting-is, w.k-is)
          (places _ _ _ p.small p.low _ _ _ _ _ _ c.loop-f.invariant c.loop-f-test.true _ (sym c.has.ensures ∙ w.if-has.true) (sym (w.meets.ensures ∙ calls_one_of _ _ _) ∙ w.if-not-meets.true) w.leave.ensures)
      | else-has w ↦
          rw (w.out-is, w.waiting-is, w.k-is)
          (elim w.else-has.branch [
            | else-has-via-then-has+else-not-meets v ↦ keeps _ _ _ p.small p.low _ _ _ _ _ _ c.loop-f.invariant c.loop-f-test.true (sym c.has.ensures ∙ v.if-has.true) (sym (v.meets.ensures ∙ calls_one_of _ _ _) ∙ v.if-not-meets.false)
            | else-has-via-else-has v ↦ passes _ _ _ p.small p.low _ _ _ _ _ _ c.loop-f.invariant c.loop-f-test.true (sym c.has.ensures ∙ v.if-has.false)
          ])
    ]

pub returns : goal.returns
returns c = let p = c.requires in finish _ _ _ p.small p.low _ _ _ _ _ _ c.loop-f.invariant c.loop-f-test.false
