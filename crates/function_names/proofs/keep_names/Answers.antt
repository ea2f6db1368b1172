-- The named expressions that stay: the loop passes one record at a turn.
use native.Mathlib.Omega.{arith}
use Prim.Native.Nat.{◌+◌, ◌*◌, ◌-◌, ◌<◌}
use mathlib.Core.Path.{refl}
use lib.ListN.{get_or}
use Rattle.function_names.proofs.Keeping.{refused, keep-first, keep-top, keep_few, keep_skip, keep-under, keep_there, keep_full, keep_full_then, keep_stacks, keep-new, keep_done}
use Rattle.function_names.proofs.keep_names.Goals.{then-v-ne0+then-j-eq0+in_ok-e+in_ok-e-2, then-v-ne0+else-j-eq0, else-v-ne0}
use Rattle.std.proofs.lemmas.Result.{err_from_is_err_and}
use Rattle.derive_state.specs.Sizes.{going}
use Rattle.function_names.proofs.keep_names.Goals as goal

pub offset_bounds-words-at : goal.offset_bounds-words-at
offset_bounds-words-at c = let h = c.requires.at_bound.0 in omega arith

pub bounds-words-at : goal.bounds-words-at
bounds-words-at c = c.requires.at_bound.0

pub loop-i-init : goal.loop-i-init
loop-i-init c = let a = c.args in keep-first a.words.now a.exprmap.now a.at a.stacks.now (going a.ends) refl c.requires.stacks

pub overflow_add-q : goal.overflow_add-q
overflow_add-q c = let a = c.args in let l = c.loop-i in let t = c.loop-i-test.true in let h : l.i < get_or a.words.now a.at 0 = c.loop-i-test.true in let b = c.requires.at_bound.1 in omega arith

pub overflow_mul-q : goal.overflow_mul-q
overflow_mul-q c = let a = c.args in let l = c.loop-i in let t = c.loop-i-test.true in let h : l.i < get_or a.words.now a.at 0 = c.loop-i-test.true in let b = c.requires.at_bound.1 in omega arith

pub overflow_add-q-in-loop-i : goal.overflow_add-q-in-loop-i
overflow_add-q-in-loop-i c = let a = c.args in let l = c.loop-i in let t = c.loop-i-test.true in let h : l.i < get_or a.words.now a.at 0 = c.loop-i-test.true in let b = c.requires.at_bound.1 in omega arith

pub offset_bounds-words-q : goal.offset_bounds-words-q
offset_bounds-words-q c = let a = c.args in let l = c.loop-i in let t = c.loop-i-test.true in let h : l.i < get_or a.words.now a.at 0 = c.loop-i-test.true in let b = c.requires.at_bound.1 in omega arith

pub bounds-words-q : goal.bounds-words-q
bounds-words-q c = let a = c.args in let l = c.loop-i in let t = c.loop-i-test.true in let h : l.i < get_or a.words.now a.at 0 = c.loop-i-test.true in let b = c.requires.at_bound.1 in omega arith

pub bounds-exprmap-words : goal.bounds-exprmap-words
bounds-exprmap-words c = let a = c.args in let l = c.loop-i in let t = c.loop-i-test.true in let h : l.i < get_or a.words.now a.at 0 = c.loop-i-test.true in c.requires.by_index l.i h

pub overflow_sub-v : goal.overflow_sub-v
overflow_sub-v c = let a = c.args in let l = c.loop-i in let t = c.loop-i-test.true in let h : l.i < get_or a.words.now a.at 0 = c.loop-i-test.true in let small = c.requires.by_index_2 (get_or a.words.now (a.at + 1 + 2 * l.i) 0) in let s = c.if-v-ne0.true in omega arith

pub offset_bounds-seats-v : goal.offset_bounds-seats-v
offset_bounds-seats-v c = let a = c.args in let l = c.loop-i in let t = c.loop-i-test.true in let h : l.i < get_or a.words.now a.at 0 = c.loop-i-test.true in let small = c.requires.by_index_2 (get_or a.words.now (a.at + 1 + 2 * l.i) 0) in let s = c.if-v-ne0.true in omega arith

pub bounds-seats-v : goal.bounds-seats-v
bounds-seats-v c = let a = c.args in let l = c.loop-i in let t = c.loop-i-test.true in let h : l.i < get_or a.words.now a.at 0 = c.loop-i-test.true in let small = c.requires.by_index_2 (get_or a.words.now (a.at + 1 + 2 * l.i) 0) in let s = c.if-v-ne0.true in omega arith

pub overflow_sub-seats : goal.overflow_sub-seats
overflow_sub-seats c = let a = c.args in let l = c.loop-i in keep-top a.words.now a.exprmap.now a.at a.stacks.now (going a.ends) l.stacks l.seats (going l.e) l.i l.invariant

pub overflow_add-seats : goal.overflow_add-seats
overflow_add-seats c = let a = c.args in let l = c.loop-i in let few = keep_few a.words.now a.exprmap.now a.at a.stacks.now (going a.ends) l.stacks l.seats (going l.e) l.i l.invariant in omega arith

pub overflow_sub-seats-then-j-eq0 : goal.overflow_sub-seats-then-j-eq0
overflow_sub-seats-then-j-eq0 c = let a = c.args in let l = c.loop-i in let t = c.loop-i-test.true in let h : l.i < get_or a.words.now a.at 0 = c.loop-i-test.true in let small = c.requires.by_index_2 (get_or a.words.now (a.at + 1 + 2 * l.i) 0) in let s = c.if-v-ne0.true in omega arith

pub offset_bounds-seats-v-then-j-eq0 : goal.offset_bounds-seats-v-then-j-eq0
offset_bounds-seats-v-then-j-eq0 c = let a = c.args in let l = c.loop-i in let t = c.loop-i-test.true in let h : l.i < get_or a.words.now a.at 0 = c.loop-i-test.true in let small = c.requires.by_index_2 (get_or a.words.now (a.at + 1 + 2 * l.i) 0) in let s = c.if-v-ne0.true in omega arith

pub bounds-seats-v-then-j-eq0 : goal.bounds-seats-v-then-j-eq0
bounds-seats-v-then-j-eq0 c = let a = c.args in let l = c.loop-i in let t = c.loop-i-test.true in let h : l.i < get_or a.words.now a.at 0 = c.loop-i-test.true in let small = c.requires.by_index_2 (get_or a.words.now (a.at + 1 + 2 * l.i) 0) in let s = c.if-v-ne0.true in omega arith

pub overflow_cast-v-then-j-eq0 : goal.overflow_cast-v-then-j-eq0
overflow_cast-v-then-j-eq0 c = let a = c.args in let l = c.loop-i in let t = c.loop-i-test.true in let h : l.i < get_or a.words.now a.at 0 = c.loop-i-test.true in let small = c.requires.by_index_2 (get_or a.words.now (a.at + 1 + 2 * l.i) 0) in let s = c.if-v-ne0.true in omega arith

pub push-requires : goal.push-requires
push-requires c = c.loop-i.invariant.stacks_are

pub returns-in_err-e : goal.returns-in_err-e
returns-in_err-e c = let p = err_from_is_err_and c.from_residual.result c.from_residual.ensures.1 in refused c.from_residual.result p.0 p.1 (let a = c.args in let l = c.loop-i in let t = c.loop-i-test.true in let h : l.i < get_or a.words.now a.at 0 = c.loop-i-test.true in let small = c.requires.by_index_2 (get_or a.words.now (a.at + 1 + 2 * l.i) 0) in let s = c.if-v-ne0.true in keep_full a.words.now a.exprmap.now a.at a.stacks.now (going a.ends) l.stacks l.seats (going l.e) l.i l.invariant h (get_or a.words.now (a.at + 1 + 2 * l.i) 0) (get_or a.exprmap.now (get_or a.words.now (a.at + 1 + 2 * l.i) 0) 0) (get_or a.words.now (a.at + 1 + 2 * l.i + 1) 0) refl refl refl s small (get_or l.seats ((get_or a.exprmap.now (get_or a.words.now (a.at + 1 + 2 * l.i) 0) 0) - 1) 0) refl c.if-j-eq0.true _ _ c.in_err-e.ensures refl)

pub returns-in_err-e-2 : goal.returns-in_err-e-2
returns-in_err-e-2 c = let p = err_from_is_err_and c.from_residual-in_err-e-2.result c.from_residual-in_err-e-2.ensures.1 in refused c.from_residual-in_err-e-2.result p.0 p.1 (let a = c.args in let l = c.loop-i in let t = c.loop-i-test.true in let h : l.i < get_or a.words.now a.at 0 = c.loop-i-test.true in let small = c.requires.by_index_2 (get_or a.words.now (a.at + 1 + 2 * l.i) 0) in let s = c.if-v-ne0.true in keep_full_then a.words.now a.exprmap.now a.at a.stacks.now (going a.ends) l.stacks l.seats (going l.e) l.i l.invariant h (get_or a.words.now (a.at + 1 + 2 * l.i) 0) (get_or a.exprmap.now (get_or a.words.now (a.at + 1 + 2 * l.i) 0) 0) (get_or a.words.now (a.at + 1 + 2 * l.i + 1) 0) refl refl refl s small (get_or l.seats ((get_or a.exprmap.now (get_or a.words.now (a.at + 1 + 2 * l.i) 0) 0) - 1) 0) refl c.if-j-eq0.true (c.in_ok-e.ensures.room refl) _ _ c.in_ok-e.ensures _ _ c.in_err-e-2.ensures refl)

pub overflow_add-q-then-j-eq0 : goal.overflow_add-q-then-j-eq0
overflow_add-q-then-j-eq0 c = let a = c.args in let l = c.loop-i in let t = c.loop-i-test.true in let h : l.i < get_or a.words.now a.at 0 = c.loop-i-test.true in let b = c.requires.at_bound.1 in omega arith

pub offset_bounds-words-q-then-j-eq0 : goal.offset_bounds-words-q-then-j-eq0
offset_bounds-words-q-then-j-eq0 c = let a = c.args in let l = c.loop-i in let t = c.loop-i-test.true in let h : l.i < get_or a.words.now a.at 0 = c.loop-i-test.true in let b = c.requires.at_bound.1 in omega arith

pub bounds-words-q-then-j-eq0 : goal.bounds-words-q-then-j-eq0
bounds-words-q-then-j-eq0 c = let a = c.args in let l = c.loop-i in let t = c.loop-i-test.true in let h : l.i < get_or a.words.now a.at 0 = c.loop-i-test.true in let b = c.requires.at_bound.1 in omega arith

pub push-requires-then-j-eq0 : goal.push-requires-then-j-eq0
push-requires-then-j-eq0 c = let a = c.args in let l = c.loop-i in let t = c.loop-i-test.true in let h : l.i < get_or a.words.now a.at 0 = c.loop-i-test.true in let small = c.requires.by_index_2 (get_or a.words.now (a.at + 1 + 2 * l.i) 0) in let s = c.if-v-ne0.true in keep_stacks a.words.now a.exprmap.now a.at a.stacks.now (going a.ends) l.stacks l.seats (going l.e) l.i l.invariant h (get_or a.words.now (a.at + 1 + 2 * l.i) 0) (get_or a.exprmap.now (get_or a.words.now (a.at + 1 + 2 * l.i) 0) 0) (get_or a.words.now (a.at + 1 + 2 * l.i + 1) 0) refl refl refl s small (get_or l.seats ((get_or a.exprmap.now (get_or a.words.now (a.at + 1 + 2 * l.i) 0) 0) - 1) 0) refl c.if-j-eq0.true (c.in_ok-e.ensures.room refl) _ _ c.in_ok-e.ensures

pub overflow_add-stacks : goal.overflow_add-stacks
overflow_add-stacks c = let a = c.args in let l = c.loop-i in let t = c.loop-i-test.true in let h : l.i < get_or a.words.now a.at 0 = c.loop-i-test.true in let b = c.requires.at_bound.1 in omega arith

pub offset_bounds-words-q-else-j-eq0 : goal.offset_bounds-words-q-else-j-eq0
offset_bounds-words-q-else-j-eq0 c = let a = c.args in let l = c.loop-i in let t = c.loop-i-test.true in let h : l.i < get_or a.words.now a.at 0 = c.loop-i-test.true in let b = c.requires.at_bound.1 in omega arith

pub bounds-words-q-else-j-eq0 : goal.bounds-words-q-else-j-eq0
bounds-words-q-else-j-eq0 c = let a = c.args in let l = c.loop-i in let t = c.loop-i-test.true in let h : l.i < get_or a.words.now a.at 0 = c.loop-i-test.true in let b = c.requires.at_bound.1 in omega arith

pub overflow_mul-stacks : goal.overflow_mul-stacks
overflow_mul-stacks c = let a = c.args in let l = c.loop-i in let t = c.loop-i-test.true in let h : l.i < get_or a.words.now a.at 0 = c.loop-i-test.true in let small = c.requires.by_index_2 (get_or a.words.now (a.at + 1 + 2 * l.i) 0) in let s = c.if-v-ne0.true in let k = keep-under a.words.now a.exprmap.now a.at a.stacks.now (going a.ends) l.stacks l.seats (going l.e) l.i l.invariant h (get_or a.words.now (a.at + 1 + 2 * l.i) 0) (get_or a.exprmap.now (get_or a.words.now (a.at + 1 + 2 * l.i) 0) 0) (get_or a.words.now (a.at + 1 + 2 * l.i + 1) 0) refl refl refl s small (get_or l.seats ((get_or a.exprmap.now (get_or a.words.now (a.at + 1 + 2 * l.i) 0) 0) - 1) 0) refl c.if-j-eq0.false in let m = l.invariant.stacks_are.high' in let o = c.if-j-eq0.false in omega arith

pub overflow_add-stacks-else-j-eq0 : goal.overflow_add-stacks-else-j-eq0
overflow_add-stacks-else-j-eq0 c = let a = c.args in let l = c.loop-i in let t = c.loop-i-test.true in let h : l.i < get_or a.words.now a.at 0 = c.loop-i-test.true in let small = c.requires.by_index_2 (get_or a.words.now (a.at + 1 + 2 * l.i) 0) in let s = c.if-v-ne0.true in let k = keep-under a.words.now a.exprmap.now a.at a.stacks.now (going a.ends) l.stacks l.seats (going l.e) l.i l.invariant h (get_or a.words.now (a.at + 1 + 2 * l.i) 0) (get_or a.exprmap.now (get_or a.words.now (a.at + 1 + 2 * l.i) 0) 0) (get_or a.words.now (a.at + 1 + 2 * l.i + 1) 0) refl refl refl s small (get_or l.seats ((get_or a.exprmap.now (get_or a.words.now (a.at + 1 + 2 * l.i) 0) 0) - 1) 0) refl c.if-j-eq0.false in let m = l.invariant.stacks_are.high' in let o = c.if-j-eq0.false in omega arith

pub overflow_sub-stacks : goal.overflow_sub-stacks
overflow_sub-stacks c = let a = c.args in let l = c.loop-i in let t = c.loop-i-test.true in let h : l.i < get_or a.words.now a.at 0 = c.loop-i-test.true in let small = c.requires.by_index_2 (get_or a.words.now (a.at + 1 + 2 * l.i) 0) in let s = c.if-v-ne0.true in let k = keep-under a.words.now a.exprmap.now a.at a.stacks.now (going a.ends) l.stacks l.seats (going l.e) l.i l.invariant h (get_or a.words.now (a.at + 1 + 2 * l.i) 0) (get_or a.exprmap.now (get_or a.words.now (a.at + 1 + 2 * l.i) 0) 0) (get_or a.words.now (a.at + 1 + 2 * l.i + 1) 0) refl refl refl s small (get_or l.seats ((get_or a.exprmap.now (get_or a.words.now (a.at + 1 + 2 * l.i) 0) 0) - 1) 0) refl c.if-j-eq0.false in let m = l.invariant.stacks_are.high' in let o = c.if-j-eq0.false in omega arith

pub offset_bounds-stacks-b : goal.offset_bounds-stacks-b
offset_bounds-stacks-b c = let a = c.args in let l = c.loop-i in let t = c.loop-i-test.true in let h : l.i < get_or a.words.now a.at 0 = c.loop-i-test.true in let small = c.requires.by_index_2 (get_or a.words.now (a.at + 1 + 2 * l.i) 0) in let s = c.if-v-ne0.true in let k = keep-under a.words.now a.exprmap.now a.at a.stacks.now (going a.ends) l.stacks l.seats (going l.e) l.i l.invariant h (get_or a.words.now (a.at + 1 + 2 * l.i) 0) (get_or a.exprmap.now (get_or a.words.now (a.at + 1 + 2 * l.i) 0) 0) (get_or a.words.now (a.at + 1 + 2 * l.i + 1) 0) refl refl refl s small (get_or l.seats ((get_or a.exprmap.now (get_or a.words.now (a.at + 1 + 2 * l.i) 0) 0) - 1) 0) refl c.if-j-eq0.false in let m = l.invariant.stacks_are.high' in let o = c.if-j-eq0.false in omega arith

pub bounds-stacks-b : goal.bounds-stacks-b
bounds-stacks-b c = let a = c.args in let l = c.loop-i in let t = c.loop-i-test.true in let h : l.i < get_or a.words.now a.at 0 = c.loop-i-test.true in let small = c.requires.by_index_2 (get_or a.words.now (a.at + 1 + 2 * l.i) 0) in let s = c.if-v-ne0.true in let k = keep-under a.words.now a.exprmap.now a.at a.stacks.now (going a.ends) l.stacks l.seats (going l.e) l.i l.invariant h (get_or a.words.now (a.at + 1 + 2 * l.i) 0) (get_or a.exprmap.now (get_or a.words.now (a.at + 1 + 2 * l.i) 0) 0) (get_or a.words.now (a.at + 1 + 2 * l.i + 1) 0) refl refl refl s small (get_or l.seats ((get_or a.exprmap.now (get_or a.words.now (a.at + 1 + 2 * l.i) 0) 0) - 1) 0) refl c.if-j-eq0.false in let m = l.invariant.stacks_are.high' in let o = c.if-j-eq0.false in omega arith

pub loop-i-preserved : goal.loop-i-preserved
loop-i-preserved c =
    elim c.if-v-ne0.branch [
      | then-v-ne0+then-j-eq0+in_ok-e+in_ok-e-2 w ↦ rw (w.stacks-is, w.seats-is, w.e-is) (let a = c.args in let l = c.loop-i in let t = c.loop-i-test.true in let h : l.i < get_or a.words.now a.at 0 = c.loop-i-test.true in let small = c.requires.by_index_2 (get_or a.words.now (a.at + 1 + 2 * l.i) 0) in let s = w.if-v-ne0.true in keep-new a.words.now a.exprmap.now a.at a.stacks.now (going a.ends) l.stacks l.seats (going l.e) l.i l.invariant h (get_or a.words.now (a.at + 1 + 2 * l.i) 0) (get_or a.exprmap.now (get_or a.words.now (a.at + 1 + 2 * l.i) 0) 0) (get_or a.words.now (a.at + 1 + 2 * l.i + 1) 0) refl refl refl s small (get_or l.seats ((get_or a.exprmap.now (get_or a.words.now (a.at + 1 + 2 * l.i) 0) 0) - 1) 0) refl w.if-j-eq0.true (w.in_ok-e.ensures.room refl) _ _ w.in_ok-e.ensures (w.in_ok-e-2.ensures.room refl) _ _ w.in_ok-e-2.ensures _ refl)
      | then-v-ne0+else-j-eq0 w ↦ rw (w.stacks-is, w.seats-is, w.e-is) (let a = c.args in let l = c.loop-i in let t = c.loop-i-test.true in let h : l.i < get_or a.words.now a.at 0 = c.loop-i-test.true in let small = c.requires.by_index_2 (get_or a.words.now (a.at + 1 + 2 * l.i) 0) in let s = w.if-v-ne0.true in keep_there a.words.now a.exprmap.now a.at a.stacks.now (going a.ends) l.stacks l.seats (going l.e) l.i l.invariant h (get_or a.words.now (a.at + 1 + 2 * l.i) 0) (get_or a.exprmap.now (get_or a.words.now (a.at + 1 + 2 * l.i) 0) 0) (get_or a.words.now (a.at + 1 + 2 * l.i + 1) 0) refl refl refl s small (get_or l.seats ((get_or a.exprmap.now (get_or a.words.now (a.at + 1 + 2 * l.i) 0) 0) - 1) 0) refl w.if-j-eq0.false _ refl)
      | else-v-ne0 w ↦ rw (w.stacks-is, w.seats-is, w.e-is) (let a = c.args in let l = c.loop-i in let t = c.loop-i-test.true in let h : l.i < get_or a.words.now a.at 0 = c.loop-i-test.true in let small = c.requires.by_index_2 (get_or a.words.now (a.at + 1 + 2 * l.i) 0) in keep_skip a.words.now a.exprmap.now a.at a.stacks.now (going a.ends) l.stacks l.seats (going l.e) l.i l.invariant h (get_or a.words.now (a.at + 1 + 2 * l.i) 0) (get_or a.exprmap.now (get_or a.words.now (a.at + 1 + 2 * l.i) 0) 0) (get_or a.words.now (a.at + 1 + 2 * l.i + 1) 0) refl refl refl w.if-v-ne0.false)
    ]

pub returns : goal.returns
returns c = let a = c.args in let l = c.loop-i in let t = c.loop-i-test.false in keep_done a.words.now a.exprmap.now a.at a.stacks.now (going a.ends) l.stacks l.seats (going l.e) l.i l.invariant (omega arith)
