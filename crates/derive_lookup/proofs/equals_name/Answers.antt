use mathlib.Core.Path.{◌≡◌, refl, sym, ap, ◌∙◌}
use Prim.Native.Nat.{◌+◌, ◌-◌}
use native.Mathlib.Omega.{arith}
use borrow.Author.Tests.{not-true, not-false}
use Rattle.derive_state.proofs.Passes.{compare-short, compare-begin, compare_in, compare_not, compare-next, compare_done}
use Rattle.derive_lookup.proofs.Compares.{stay, word-stays, plainly}
use mathlib.Core.Bool.{not}
use Rattle.derive_lookup.proofs.equals_name.Goals as goal

pub returns-then-derived-s : goal.returns-then-derived-s
returns-then-derived-s c = plainly c.args.name.cells.words.now c.args.name.cells.tags.now c.args.name.at c.args.name.end _ _ (compare-short c.args.name.cells.words.now c.args.name.cells.tags.now c.args.derived.now.log.now c.args.derived.now.logtags.now stay c.args.name.at c.args.name.end c.args.s c.args.name.stretch c.args.name.small c.requires.0 c.requires.1 c.requires.2 _ refl (λ e. c.if-derived-s.true (e ∙ sym c.len.ensures)))

pub loop-j-init : goal.loop-j-init
loop-j-init c = let z : c.args.s + 1 + (c.args.name.at - c.args.name.at) ≡ c.args.s + 1 = omega arith in rw z (compare-begin c.args.name.cells.words.now c.args.name.cells.tags.now c.args.derived.now.log.now c.args.derived.now.logtags.now stay c.args.name.at c.args.name.end c.args.s c.args.name.stretch c.args.name.small c.requires.0 c.requires.1 c.requires.2 _ refl (c.if-derived-s.false ∙ c.len.ensures))

pub bounds-derived-q : goal.bounds-derived-q
bounds-derived-q c = let q = compare_in c.args.name.cells.words.now c.args.name.cells.tags.now c.args.derived.now.log.now c.args.derived.now.logtags.now stay c.args.name.at c.args.name.end c.args.s c.args.name.stretch c.args.name.small c.requires.0 c.requires.1 c.requires.2 c.loop-j.j _ c.loop-j.invariant c.loop-j-test.true in omega arith

pub offset_bounds-derived-q : goal.offset_bounds-derived-q
offset_bounds-derived-q c = let q = compare_in c.args.name.cells.words.now c.args.name.cells.tags.now c.args.derived.now.log.now c.args.derived.now.logtags.now stay c.args.name.at c.args.name.end c.args.s c.args.name.stretch c.args.name.small c.requires.0 c.requires.1 c.requires.2 c.loop-j.j _ c.loop-j.invariant c.loop-j-test.true in omega arith

pub bounds-derived-q-in-loop-j : goal.bounds-derived-q-in-loop-j
bounds-derived-q-in-loop-j c = let q = compare_in c.args.name.cells.words.now c.args.name.cells.tags.now c.args.derived.now.log.now c.args.derived.now.logtags.now stay c.args.name.at c.args.name.end c.args.s c.args.name.stretch c.args.name.small c.requires.0 c.requires.1 c.requires.2 c.loop-j.j _ c.loop-j.invariant c.loop-j-test.true in omega arith

pub returns-then-not-alike_cell : goal.returns-then-not-alike_cell
returns-then-not-alike_cell c = plainly c.args.name.cells.words.now c.args.name.cells.tags.now c.args.name.at c.args.name.end _ _ (compare_not c.args.name.cells.words.now c.args.name.cells.tags.now c.args.derived.now.log.now c.args.derived.now.logtags.now stay c.args.name.at c.args.name.end c.args.s c.args.name.stretch c.args.name.small c.requires.0 c.requires.1 c.requires.2 c.loop-j.j _ c.loop-j.invariant c.loop-j-test.true _ (word-stays _ _) _ c.alike_cell.ensures (not-true _ (ap not c.if-not-alike_cell.true)))

pub loop-j-preserved : goal.loop-j-preserved
loop-j-preserved c = let z : c.args.s + 1 + (c.loop-j.j + 1 - c.args.name.at) ≡ c.args.s + 1 + (c.loop-j.j - c.args.name.at) + 1 = omega arith in rw z (compare-next c.args.name.cells.words.now c.args.name.cells.tags.now c.args.derived.now.log.now c.args.derived.now.logtags.now stay c.args.name.at c.args.name.end c.args.s c.args.name.stretch c.args.name.small c.requires.0 c.requires.1 c.requires.2 c.loop-j.j _ c.loop-j.invariant c.loop-j-test.true _ (word-stays _ _) _ c.alike_cell.ensures (not-false _ (ap not c.if-not-alike_cell.false)))

pub returns : goal.returns
returns c = plainly c.args.name.cells.words.now c.args.name.cells.tags.now c.args.name.at c.args.name.end _ _ (compare_done c.args.name.cells.words.now c.args.name.cells.tags.now c.args.derived.now.log.now c.args.derived.now.logtags.now stay c.args.name.at c.args.name.end c.args.s c.args.name.stretch c.args.name.small c.requires.0 c.requires.1 c.requires.2 c.loop-j.j _ c.loop-j.invariant c.loop-j-test.false)
