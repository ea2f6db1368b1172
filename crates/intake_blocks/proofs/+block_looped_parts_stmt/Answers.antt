-- `intake_blocks::+block_looped_parts_stmt` meets its contract.
use mathlib.Core.Bool.{true}
use mathlib.Core.List.{[]}
use native.Mathlib.Omega.{arith}
use mathlib.Core.Path.{refl}
use Rattle.intake_blocks.proofs.Blocks.{block_begin, block_far, block_on, block_stmt, block_wrong, block_next, block_done}
use Rattle.intake_blocks.proofs.Inner.{parts-begin, parts_skip, parts_far, parts-on, parts_block, parts_wrong, parts_next, word_wrong, word_next, parts_done}
use Rattle.intake_blocks.proofs.Statements.{loop_skip, loop_mid, loop_body, loop_skip₂, loop_wrong, loop_late, loop_continuing, loop_wrong₂, loop_end, stmt_low, emit_asks, stmt_emit, stmt_break, stmt_continue, stmt_switch, stmt_simple, stmt_no_return}
use borrow.Author.Rules.{rules}
use mathlib.Core.Path.{◌∙◌}
use Rattle.intake_blocks.proofs.Answers.{found_is, here_for, stmt_here, block_here, stmt_asks, block_asks}
use native.Mathlib.Nat.{le_refl}
use Rattle.intake_blocks.proofs.+block_looped_parts_stmt.Goals as goal
use Rattle.intake_blocks.proofs.+block_looped_parts_stmt.Goals.{stmt-in_default-via-in-7+else-not-place, stmt-in_default-via-in_default+else-this-lt3}
use lib.ListN.{get_or}
use borrow.Author.Tests.{not-true, not-false}
use Prim.Native.Nat.{◌+◌, ◌<◌}

pub block-loop-i-init : goal.block-loop-i-init
block-loop-i-init t c = block_begin _ _ _ _ _ _ _ _ _ _ (block_here c.args.expressions c.requires)

pub block-stmt-requires : goal.block-stmt-requires
block-stmt-requires t c = let f = block_far _ _ _ _ _ _ _ _ _ _ (block_here c.args.expressions c.requires) _ _ _ c.loop-i.invariant c.loop-i-test.true _ refl in let p = c.loop-i.invariant.past in let l = c.loop-i-test.true in (search rules, stmt_asks c.args.expressions (block_stmt _ _ _ _ _ _ _ _ _ _ (block_here c.args.expressions c.requires) _ _ _ c.loop-i.invariant c.loop-i-test.true _ refl _ c.kept-kept.ensures))

pub block-returns-in_err-stmt : goal.block-returns-in_err-stmt
block-returns-in_err-stmt t c = rw c.from_residual.ensures (block_wrong _ _ _ _ _ _ _ _ _ _ (block_here c.args.expressions c.requires) _ _ _ c.loop-i.invariant c.loop-i-test.true _ refl _ c.kept-kept.ensures _ _ c.stmt.ensures c.in_err-stmt.was)

pub block-loop-i-smaller : goal.block-loop-i-smaller
block-loop-i-smaller t c = let f = block_on _ _ _ _ _ _ _ _ _ _ (block_here c.args.expressions c.requires) _ _ _ c.loop-i.invariant c.loop-i-test.true _ refl in let l = c.loop-i-test.true in search rules

pub block-loop-i-preserved : goal.block-loop-i-preserved
block-loop-i-preserved t c = block_next _ _ _ _ _ _ _ _ _ _ (block_here c.args.expressions c.requires) _ _ _ c.loop-i.invariant c.loop-i-test.true _ refl _ c.kept-kept.ensures _ _ c.stmt.ensures _ c.in_ok-stmt.was _ c.then-flow.ensures

pub block-returns : goal.block-returns
block-returns t c = block_done _ _ _ _ _ _ _ _ _ _ (block_here c.args.expressions c.requires) _ _ _ c.loop-i.invariant c.loop-i-test.false

pub looped-skip-continuing-requires : goal.looped-skip-continuing-requires
looped-skip-continuing-requires t c = let zz = loop_skip _ _ _ [] [] _ _ _ _ true (stmt_here c.args.expressions c.requires.stmt) c.requires.at_value in record { at_bound = zz.0; steps = zz.1 }

pub looped-block-requires : goal.looped-block-requires
looped-block-requires t c = let m = loop_mid _ _ _ [] [] _ _ _ _ true (stmt_here c.args.expressions c.requires.stmt) c.requires.at_value _ c.skip-continuing.ensures in (search rules, block_asks c.args.expressions (loop_body _ _ _ [] [] _ _ _ _ true (stmt_here c.args.expressions c.requires.stmt) c.requires.at_value _ c.skip-continuing.ensures))

pub looped-returns-in_err-block : goal.looped-returns-in_err-block
looped-returns-in_err-block t c = rw c.from_residual.ensures (λ keep h. loop_wrong _ _ _ _ _ _ _ _ _ _ (here_for (stmt_here c.args.expressions c.requires.stmt) h) c.requires.at_value _ c.skip-continuing.ensures _ _ c.block.ensures c.in_err-block.was _ _)

pub looped-skip-break_if-requires : goal.looped-skip-break_if-requires
looped-skip-break_if-requires t c = let zz = loop_skip₂ _ _ _ [] [] _ _ _ _ true (stmt_here c.args.expressions c.requires.stmt) c.requires.at_value _ c.skip-continuing.ensures in record { at_bound = zz.0; steps = zz.1 }

pub looped-block-requires-2 : goal.looped-block-requires-2
looped-block-requires-2 t c = let m = loop_mid _ _ _ [] [] _ _ _ _ true (stmt_here c.args.expressions c.requires.stmt) c.requires.at_value _ c.skip-continuing.ensures in let n = loop_late _ _ _ _ _ _ _ _ _ _ (stmt_here c.args.expressions c.requires.stmt) c.requires.at_value _ c.skip-continuing.ensures _ _ c.block.ensures _ c.in_ok-block.was _ c.skip-break_if.ensures in (search rules, block_asks c.args.expressions (loop_continuing _ _ _ _ _ _ _ _ _ _ (stmt_here c.args.expressions c.requires.stmt) c.requires.at_value _ c.skip-continuing.ensures _ _ c.block.ensures _ c.in_ok-block.was _ c.skip-break_if.ensures))

pub looped-returns-in_err-block-2 : goal.looped-returns-in_err-block-2
looped-returns-in_err-block-2 t c = rw c.from_residual-in_err-block-2.ensures (λ keep h. loop_wrong₂ _ _ _ _ _ _ _ _ _ _ (here_for (stmt_here c.args.expressions c.requires.stmt) h) c.requires.at_value _ c.skip-continuing.ensures _ _ c.block.ensures _ c.in_ok-block.was _ c.skip-break_if.ensures _ _ c.block-2.ensures c.in_err-block-2.was _ _)

pub looped-read-requires : goal.looped-read-requires
looped-read-requires t c = let n = loop_late _ _ _ _ _ _ _ _ _ _ (stmt_here c.args.expressions c.requires.stmt) c.requires.at_value _ c.skip-continuing.ensures _ _ c.block.ensures _ c.in_ok-block.was _ c.skip-break_if.ensures in let h = (stmt_here c.args.expressions c.requires.stmt).holds.within in search rules

pub looped-returns : goal.looped-returns
looped-returns t c = λ keep h. loop_end _ _ _ _ _ _ _ _ _ _ (here_for (stmt_here c.args.expressions c.requires.stmt) h) c.requires.at_value _ c.skip-continuing.ensures _ _ c.block.ensures _ c.in_ok-block.was _ c.skip-break_if.ensures _ _ c.block-2.ensures _ c.in_ok-block-2.was _ c.read.ensures _ (c.then_some.ensures ∙ found_is _) _ _

pub parts-loop-i-init : goal.parts-loop-i-init
parts-loop-i-init t c = λ keep h. parts-begin _ _ _ _ _ _ _ _ _ _ (here_for (stmt_here c.args.expressions c.requires.stmt) h) c.requires.nonzero.0 c.requires.nonzero.1 c.requires.breaks_value

pub parts-skip-fin-requires : goal.parts-skip-fin-requires
parts-skip-fin-requires t c = let zz = parts_skip _ _ _ _ _ _ _ _ _ _ (stmt_here c.args.expressions c.requires.stmt) _ _ _ (c.loop-i.invariant _ (le_refl _)) c.loop-i-test.true c.if-cells-i-eq-BLOCK.true in record { at_bound = zz.0; steps = zz.1 }

pub parts-block-requires : goal.parts-block-requires
parts-block-requires t c = let f = parts_far _ _ _ _ _ _ _ _ _ _ (stmt_here c.args.expressions c.requires.stmt) _ _ _ (c.loop-i.invariant _ (le_refl _)) c.loop-i-test.true c.if-cells-i-eq-BLOCK.true _ c.skip-fin.ensures in let o = parts-on _ _ _ _ _ _ _ _ _ _ (stmt_here c.args.expressions c.requires.stmt) _ _ _ (c.loop-i.invariant _ (le_refl _)) c.loop-i-test.true c.if-cells-i-eq-BLOCK.true _ c.skip-fin.ensures in let p = (c.loop-i.invariant _ (le_refl _)).past in (search rules, block_asks c.args.expressions (parts_block _ _ _ _ _ _ _ _ _ _ (stmt_here c.args.expressions c.requires.stmt) _ _ _ (c.loop-i.invariant _ (le_refl _)) c.loop-i-test.true c.if-cells-i-eq-BLOCK.true _ c.skip-fin.ensures))

pub parts-returns-in_err-block : goal.parts-returns-in_err-block
parts-returns-in_err-block t c = rw c.from_residual.ensures (λ keep h. parts_wrong _ _ _ _ _ _ _ _ _ _ (here_for (stmt_here c.args.expressions c.requires.stmt) h) _ _ _ (c.loop-i.invariant keep h) c.loop-i-test.true c.if-cells-i-eq-BLOCK.true _ c.skip-fin.ensures _ _ c.block.ensures c.in_err-block.was)

pub parts-loop-i-smaller-then-cells-i-eq-BLOCK : goal.parts-loop-i-smaller-then-cells-i-eq-BLOCK
parts-loop-i-smaller-then-cells-i-eq-BLOCK t c = let f = parts_far _ _ _ _ _ _ _ _ _ _ (stmt_here c.args.expressions c.requires.stmt) _ _ _ (c.loop-i.invariant _ (le_refl _)) c.loop-i-test.true c.if-cells-i-eq-BLOCK.true _ c.skip-fin.ensures in let o = parts-on _ _ _ _ _ _ _ _ _ _ (stmt_here c.args.expressions c.requires.stmt) _ _ _ (c.loop-i.invariant _ (le_refl _)) c.loop-i-test.true c.if-cells-i-eq-BLOCK.true _ c.skip-fin.ensures in let l = c.loop-i-test.true in search rules

pub parts-loop-i-preserved-then-cells-i-eq-BLOCK : goal.parts-loop-i-preserved-then-cells-i-eq-BLOCK
parts-loop-i-preserved-then-cells-i-eq-BLOCK t c = λ keep h. parts_next _ _ _ _ _ _ _ _ _ _ (here_for (stmt_here c.args.expressions c.requires.stmt) h) _ _ _ (c.loop-i.invariant keep h) c.loop-i-test.true c.if-cells-i-eq-BLOCK.true _ c.skip-fin.ensures _ _ c.block.ensures _ c.in_ok-block.was _ c.then-flow.ensures

pub parts-returns-else-read : goal.parts-returns-else-read
parts-returns-else-read t c = λ keep h. word_wrong _ _ _ _ _ _ _ _ _ _ (here_for (stmt_here c.args.expressions c.requires.stmt) h) _ _ _ (c.loop-i.invariant keep h) c.loop-i-test.true c.if-cells-i-eq-BLOCK.false _ c.read.ensures c.if-read.false

pub parts-loop-i-preserved : goal.parts-loop-i-preserved
parts-loop-i-preserved t c = λ keep h. word_next _ _ _ _ _ _ _ _ _ _ (here_for (stmt_here c.args.expressions c.requires.stmt) h) _ _ _ (c.loop-i.invariant keep h) c.loop-i-test.true c.if-cells-i-eq-BLOCK.false _ c.read.ensures c.if-read.true

pub parts-returns : goal.parts-returns
parts-returns t c = λ keep h. parts_done _ _ _ _ _ _ _ _ _ _ (here_for (stmt_here c.args.expressions c.requires.stmt) h) _ _ _ (c.loop-i.invariant keep h) c.loop-i-test.false

pub stmt-bounds-expressions-at : goal.stmt-bounds-expressions-at
stmt-bounds-expressions-at t c = let h = stmt_low _ _ _ [] [] _ _ _ _ (stmt_here c.args.expressions c.requires) in let w = c.requires.holds.within in search rules

pub stmt-emit-requires : goal.stmt-emit-requires
stmt-emit-requires t c = let zz = emit_asks _ _ _ [] [] _ _ _ _ (stmt_here c.args.expressions c.requires) c.in-0.is in record { at_lt_keep = zz.0; at_bound = zz.1.0; at_bound_2 = zz.1.1 }

pub stmt-simple-requires : goal.stmt-simple-requires
stmt-simple-requires t c = record { stop_le_keep = c.requires.keeps; stop_bound = c.requires.holds.within; at_bound = stmt_low _ _ _ [] [] _ _ _ _ (stmt_here c.args.expressions c.requires) }

pub stmt-returns-in-0 : goal.stmt-returns-in-0
stmt-returns-in-0 t c = stmt_emit _ _ _ _ _ _ _ _ _ (stmt_here c.args.expressions c.requires) c.in-0.is _ _ _ c.emit.ensures _ (c.then_some.ensures ∙ found_is _)

pub stmt-returns-in-3 : goal.stmt-returns-in-3
stmt-returns-in-3 t c = stmt_switch _ _ _ _ _ _ _ _ _ (stmt_here c.args.expressions c.requires) c.in-3.is _ _ _ _ _ (c.parts.ensures _ c.requires.keeps)

pub stmt-returns-in-5 : goal.stmt-returns-in-5
stmt-returns-in-5 t c = stmt_break _ _ _ _ _ _ _ _ _ (stmt_here c.args.expressions c.requires) c.in-5.is _ _ _ _ (c.then_some-in-5.ensures ∙ found_is _)

pub stmt-returns-in-6 : goal.stmt-returns-in-6
stmt-returns-in-6 t c = rw c.then_some-in-6.ensures (stmt_continue _ _ _ _ _ _ _ _ _ (stmt_here c.args.expressions c.requires) c.in-6.is _ _ _)

pub stmt-returns-in-7 : goal.stmt-returns-in-7
stmt-returns-in-7 t c = stmt_no_return _ _ _ _ _ _ _ _ _ (stmt_here c.args.expressions c.requires) (omega (arith, c.in-7.is)) _ _ _ c.in-7.is (not-true _ c.if-not-place.true)

pub stmt-returns-in_default : goal.stmt-returns-in_default
stmt-returns-in_default t c = elim c.in_default.branch [
  | stmt-in_default-via-in-7+else-not-place w ↦ stmt_simple _ _ _ _ _ _ _ _ _ (stmt_here c.args.expressions c.requires) (omega (arith, w.in-7.is)) _ _ _ _ _ c.simple.ensures _ (c.then_some-in_default.ensures ∙ found_is _) (λ e. not-false _ w.if-not-place.false)
  | stmt-in_default-via-in_default+else-this-lt3 w ↦ let k : 7 < get_or c.args.expressions.places.cells.words.now (c.args.at + 1) 0 = omega arith in stmt_simple _ _ _ _ _ _ _ _ _ (stmt_here c.args.expressions c.requires) (omega (arith, k)) _ _ _ _ _ c.simple.ensures _ (c.then_some-in_default.ensures ∙ found_is _) (λ e. absurd (omega (arith, k, e)))
]
