-- `function_builder::find_equal` meets its contract. What is left from expression k on is the whole, and the word at p becomes y.
use mathlib.Core.Path.{refl, sym, ◌∙◌}
use mathlib.Core.List.{[]}
use native.Mathlib.Nat.{le_refl}
use native.Mathlib.Omega.{arith}
use Rattle.function_builder.proofs.Stacked.{seat_room}
use Rattle.function_builder.proofs.Sieve.{sieve_first, sieve_last, sieve_seat, sieve_word, sieve_within, sieve_found, sieve_more, sieve_short, sieve_hop, even_end}
use Rattle.derive_state.specs.Sizes.{going}
use Rattle.function_builder.proofs.find_equal.Goals as goal

pub overflow_sub-p : goal.overflow_sub-p
overflow_sub-p c = let h = c.requires.some in omega arith

pub carried_at-y-requires : goal.carried_at-y-requires
carried_at-y-requires c = let h = c.requires.some in record { i_bound = (omega arith, omega arith) }

pub loop-k-init : goal.loop-k-init
loop-k-init c = let a = c.args in let q = c.requires.stacks in sieve_first a.piece.now.legible q.0 q.1 q.2 c.requires.some _ c.carried_at-y.ensures

pub overflow_sub-p-in-loop-k : goal.overflow_sub-p-in-loop-k
overflow_sub-p-in-loop-k c = let h = c.loop-k.invariant.low in omega arith

pub bounds-piece-p : goal.bounds-piece-p
bounds-piece-p c = let q = c.requires.stacks in sieve_word c.args.piece.now.legible q.0 q.1 q.2 c.loop-k.invariant

pub next_candidate-requires : goal.next_candidate-requires
next_candidate-requires c = let a = c.args in let q = c.requires.stacks in let z = sieve_word a.piece.now.legible q.0 q.1 q.2 c.loop-k.invariant in (seat_room a.stacks.now a.e1 (going a.derived.view.now.sizes) [] q.0 q.1 q.2, omega arith, c.loop-k-test.true)

pub returns-in_err-j : goal.returns-in_err-j
returns-in_err-j c = let a = c.args in let q = c.requires.stacks in let g = sieve_hop a.piece.now.legible q.0 q.1 q.2 c.in_err-j.ensures c.loop-k.invariant in rw c.from_residual.ensures (sieve_last a.piece.now.legible q.0 q.1 q.2 g (le_refl _))

pub overflow_add-k : goal.overflow_add-k
overflow_add-k c = let a = c.args in let q = c.requires.stacks in let g = sieve_hop a.piece.now.legible q.0 q.1 q.2 c.in_ok-j.ensures.1 c.loop-k.invariant in let h = c.in_ok-j.ensures.0 in let z = sieve_seat a.piece.now.legible q.0 q.1 q.2 g h in omega arith

pub overflow_add-a : goal.overflow_add-a
overflow_add-a c = let a = c.args in let q = c.requires.stacks in let g = sieve_hop a.piece.now.legible q.0 q.1 q.2 c.in_ok-j.ensures.1 c.loop-k.invariant in let h = c.in_ok-j.ensures.0 in let z = sieve_seat a.piece.now.legible q.0 q.1 q.2 g h in omega arith

pub offset_bounds-stacks-e1 : goal.offset_bounds-stacks-e1
offset_bounds-stacks-e1 c = let a = c.args in let q = c.requires.stacks in let g = sieve_hop a.piece.now.legible q.0 q.1 q.2 c.in_ok-j.ensures.1 c.loop-k.invariant in let h = c.in_ok-j.ensures.0 in let z = sieve_seat a.piece.now.legible q.0 q.1 q.2 g h in omega arith

pub bounds-stacks-e1 : goal.bounds-stacks-e1
bounds-stacks-e1 c = let a = c.args in let q = c.requires.stacks in let g = sieve_hop a.piece.now.legible q.0 q.1 q.2 c.in_ok-j.ensures.1 c.loop-k.invariant in let h = c.in_ok-j.ensures.0 in sieve_seat a.piece.now.legible q.0 q.1 q.2 g h

pub expr_end-b-requires : goal.expr_end-b-requires
expr_end-b-requires c = let a = c.args in let q = c.requires.stacks in let g = sieve_hop a.piece.now.legible q.0 q.1 q.2 c.in_ok-j.ensures.1 c.loop-k.invariant in let h = c.in_ok-j.ensures.0 in (q.0, h, seat_room a.stacks.now a.e1 (going a.derived.view.now.sizes) [] q.0 q.1 q.2)

pub overflow_sub-b : goal.overflow_sub-b
overflow_sub-b c = let a = c.args in let q = c.requires.stacks in let g = sieve_hop a.piece.now.legible q.0 q.1 q.2 c.in_ok-j.ensures.1 c.loop-k.invariant in let h = c.in_ok-j.ensures.0 in let z = sieve_within a.piece.now.legible q.0 q.1 q.2 g h refl c.expr_end-b.ensures in omega arith

pub overflow_sub-piece : goal.overflow_sub-piece
overflow_sub-piece c = let h = c.requires.some in omega arith

pub first_difference-requires : goal.first_difference-requires
first_difference-requires c = let a = c.args in let q = c.requires.stacks in let g = sieve_hop a.piece.now.legible q.0 q.1 q.2 c.in_ok-j.ensures.1 c.loop-k.invariant in let h = c.in_ok-j.ensures.0 in let z = sieve_within a.piece.now.legible q.0 q.1 q.2 g h refl c.expr_end-b.ensures in record { stacks = (q.0, (let w = c.if-b-a.true in omega arith)) }

pub returns-in_default : goal.returns-in_default
returns-in_default c = let a = c.args in let q = c.requires.stacks in let g = sieve_hop a.piece.now.legible q.0 q.1 q.2 c.in_ok-j.ensures.1 c.loop-k.invariant in let h = c.in_ok-j.ensures.0 in let z = sieve_within a.piece.now.legible q.0 q.1 q.2 g h refl c.expr_end-b.ensures in (h, sieve_found a.piece.now.legible q.0 q.1 q.2 g h refl (sym (even_end z.0 c.if-b-a.true) ∙ c.expr_end-b.ensures) c.in_default.ensures)

pub carried_at-y-requires-then-b-a : goal.carried_at-y-requires-then-b-a
carried_at-y-requires-then-b-a c = let x = c.in-Some.ensures in record { i_bound = (x.0, x.1) }

pub loop-k-smaller-then-b-a : goal.loop-k-smaller-then-b-a
loop-k-smaller-then-b-a c = let h = c.in_ok-j.ensures.1.low in let t = c.loop-k-test.true in omega arith

pub loop-k-preserved-then-b-a : goal.loop-k-preserved-then-b-a
loop-k-preserved-then-b-a c = let a = c.args in let q = c.requires.stacks in let g = sieve_hop a.piece.now.legible q.0 q.1 q.2 c.in_ok-j.ensures.1 c.loop-k.invariant in let h = c.in_ok-j.ensures.0 in let z = sieve_within a.piece.now.legible q.0 q.1 q.2 g h refl c.expr_end-b.ensures in sieve_more a.piece.now.legible q.0 q.1 q.2 g h refl (sym (even_end z.0 c.if-b-a.true) ∙ c.expr_end-b.ensures) _ c.in-Some.ensures _ c.carried_at-y-then-b-a.ensures

pub loop-k-smaller : goal.loop-k-smaller
loop-k-smaller c = let h = c.in_ok-j.ensures.1.low in let t = c.loop-k-test.true in omega arith

pub loop-k-preserved : goal.loop-k-preserved
loop-k-preserved c = let a = c.args in let q = c.requires.stacks in let g = sieve_hop a.piece.now.legible q.0 q.1 q.2 c.in_ok-j.ensures.1 c.loop-k.invariant in let h = c.in_ok-j.ensures.0 in sieve_short a.piece.now.legible q.0 q.1 q.2 g h refl c.expr_end-b.ensures c.if-b-a.false

pub returns : goal.returns
returns c = let a = c.args in let q = c.requires.stacks in sieve_last a.piece.now.legible q.0 q.1 q.2 c.loop-k.invariant c.loop-k-test.false
