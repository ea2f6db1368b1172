-- `function_builder::write` meets its contract. Words and classes go to the top of the stack, one after the other.
use mathlib.Core.Path.{◌≡◌, refl, sym, ◌∙◌}
use Prim.Native.Nat.{◌+◌, ◌-◌}
use native.Mathlib.Nat.{le_refl}
use native.Mathlib.Omega.{arith}
use Rattle.function_builder.specs.Stacks.{went_of}
use Rattle.function_builder.proofs.Writes.{lay_begin, lay_done, lay_in, lay_next}
use Rattle.derive_state.specs.Sizes.{going}
use Rattle.derive_state.proofs.Passes.{following_some}
use Rattle.function_builder.proofs.write.Goals as goal

pub loop-j-init : goal.loop-j-init
loop-j-init c = let a = c.args in let z : a.derived.view.now.sizes.exprtop + (a.piece.at - a.piece.at) ≡ a.derived.view.now.sizes.exprtop = omega arith in (rw z (lay_begin a.piece.legible c.requires.stacks.0 c.requires.stacks.1), le_refl _, c.carried_or_end-w.ensures)

pub offset_bounds-stacks-q : goal.offset_bounds-stacks-q
offset_bounds-stacks-q c = let q = lay_in c.args.piece.legible c.requires.stacks.0 c.requires.stacks.1 c.loop-j.invariant.0 c.loop-j-test.true in omega arith

pub bounds-stacks-q : goal.bounds-stacks-q
bounds-stacks-q c = lay_in c.args.piece.legible c.requires.stacks.0 c.requires.stacks.1 c.loop-j.invariant.0 c.loop-j-test.true

pub offset_bounds-stacks-q-in-loop-j : goal.offset_bounds-stacks-q-in-loop-j
offset_bounds-stacks-q-in-loop-j c = let q = lay_in c.args.piece.legible c.requires.stacks.0 c.requires.stacks.1 c.loop-j.invariant.0 c.loop-j-test.true in omega arith

pub bounds-stacks-q-in-loop-j : goal.bounds-stacks-q-in-loop-j
bounds-stacks-q-in-loop-j c = lay_in c.args.piece.legible c.requires.stacks.0 c.requires.stacks.1 c.loop-j.invariant.0 c.loop-j-test.true

pub loop-j-preserved : goal.loop-j-preserved
loop-j-preserved c =
    let a = c.args in
    let l = c.loop-j in
    let low = l.invariant.1 in
    let z : a.derived.view.now.sizes.exprtop + (l.j + 1 - a.piece.at) ≡ (a.derived.view.now.sizes.exprtop + (l.j - a.piece.at)) + 1 = omega (arith, low) in
    let S = a.piece.legible.stretch in
    let f = following_some (went_of a.piece.source.image.words.now a.piece.source.image.n a.derived.view.now.log.now a.derived.view.now.logtags.now a.derived.view.now.starts.now a.derived.view.now.maps.now (going a.derived.view.now.sizes) a.exprmap.now) a.piece.source.image.tags.now a.piece.source.image.words.now l.j a.piece.end c.loop-j-test.true S.in_tags S.in_words _ refl in
    (rw z (lay_next a.piece.legible c.requires.stacks.0 c.requires.stacks.1 l.invariant.0 c.loop-j-test.true _ (l.invariant.2 ∙ sym f) _ (rw c.carried_or_end-next.ensures at c.undefined_at-u.ensures) _ c.moved.ensures _ refl), omega (arith, low), c.carried_or_end-next.ensures)

pub returns : goal.returns
returns c = lay_done c.args.piece.legible c.requires.stacks.0 c.requires.stacks.1 c.loop-j.invariant.0 c.loop-j-test.false
