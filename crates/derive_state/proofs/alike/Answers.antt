use Rattle.std.proofs.Common.{◌+◌, ◌-◌, arith}
use Rattle.derive_state.specs.Refers.{went_r}
use borrow.Author.Tests.{not-true, not-false}
use Rattle.derive_state.proofs.Passes.{compare-short, compare-begin, compare_small, compare_in, compare_not, compare-next, compare_done}
use mathlib.Core.Bool.{not}
use mathlib.Core.Path.{◌≡◌, refl, sym, ap, ◌∙◌}
use Rattle.derive_state.proofs.alike.Goals as goal

pub returns-then-derived-s : goal.returns-then-derived-s
returns-then-derived-s c = let a = c.args in compare-short a.original.cells.words.now a.original.cells.tags.now a.derived.now.log.now a.derived.now.logtags.now (went_r a.derived.now.maps.now) a.original.at a.original.end a.s a.original.stretch a.original.small c.requires.0 c.requires.1 c.requires.2 _ refl (λ e. c.if-derived-s.true (e ∙ sym c.len.ensures))

pub loop-j-init : goal.loop-j-init
loop-j-init c = let a = c.args in let z : a.s + 1 + (a.original.at - a.original.at) ≡ a.s + 1 = omega arith in rw z (compare-begin a.original.cells.words.now a.original.cells.tags.now a.derived.now.log.now a.derived.now.logtags.now (went_r a.derived.now.maps.now) a.original.at a.original.end a.s a.original.stretch a.original.small c.requires.0 c.requires.1 c.requires.2 _ refl (c.if-derived-s.false ∙ c.len.ensures))

pub carried-y-requires : goal.carried-y-requires
carried-y-requires c = let a = c.args in let l = c.loop-j in let h = c.loop-j-test.true in record { all = compare_small a.original.cells.words.now a.original.cells.tags.now a.derived.now.log.now a.derived.now.logtags.now (went_r a.derived.now.maps.now) a.original.at a.original.end a.s a.original.stretch a.original.small c.requires.0 c.requires.1 c.requires.2 l.j _ l.invariant h }

pub bounds-derived-q : goal.bounds-derived-q
bounds-derived-q c = let a = c.args in let l = c.loop-j in let h = c.loop-j-test.true in compare_in a.original.cells.words.now a.original.cells.tags.now a.derived.now.log.now a.derived.now.logtags.now (went_r a.derived.now.maps.now) a.original.at a.original.end a.s a.original.stretch a.original.small c.requires.0 c.requires.1 c.requires.2 l.j _ l.invariant h

pub offset_bounds-derived-q : goal.offset_bounds-derived-q
offset_bounds-derived-q c = let a = c.args in let l = c.loop-j in let h = c.loop-j-test.true in let q = compare_in a.original.cells.words.now a.original.cells.tags.now a.derived.now.log.now a.derived.now.logtags.now (went_r a.derived.now.maps.now) a.original.at a.original.end a.s a.original.stretch a.original.small c.requires.0 c.requires.1 c.requires.2 l.j _ l.invariant h in omega arith

pub bounds-derived-q-in-loop-j : goal.bounds-derived-q-in-loop-j
bounds-derived-q-in-loop-j c = let a = c.args in let l = c.loop-j in let h = c.loop-j-test.true in compare_in a.original.cells.words.now a.original.cells.tags.now a.derived.now.log.now a.derived.now.logtags.now (went_r a.derived.now.maps.now) a.original.at a.original.end a.s a.original.stretch a.original.small c.requires.0 c.requires.1 c.requires.2 l.j _ l.invariant h

pub returns-then-not-alike_cell : goal.returns-then-not-alike_cell
returns-then-not-alike_cell c = let a = c.args in let l = c.loop-j in let h = c.loop-j-test.true in compare_not a.original.cells.words.now a.original.cells.tags.now a.derived.now.log.now a.derived.now.logtags.now (went_r a.derived.now.maps.now) a.original.at a.original.end a.s a.original.stretch a.original.small c.requires.0 c.requires.1 c.requires.2 l.j _ l.invariant h _ c.carried-y.ensures _ c.alike_cell.ensures (not-true _ (ap not c.if-not-alike_cell.true))

pub loop-j-preserved : goal.loop-j-preserved
loop-j-preserved c = let a = c.args in let l = c.loop-j in let h = c.loop-j-test.true in let z : a.s + 1 + (l.j + 1 - a.original.at) ≡ a.s + 1 + (l.j - a.original.at) + 1 = omega arith in rw z (compare-next a.original.cells.words.now a.original.cells.tags.now a.derived.now.log.now a.derived.now.logtags.now (went_r a.derived.now.maps.now) a.original.at a.original.end a.s a.original.stretch a.original.small c.requires.0 c.requires.1 c.requires.2 l.j _ l.invariant h _ c.carried-y.ensures _ c.alike_cell.ensures (not-false _ (ap not c.if-not-alike_cell.false)))

pub returns : goal.returns
returns c = let a = c.args in let l = c.loop-j in compare_done a.original.cells.words.now a.original.cells.tags.now a.derived.now.log.now a.derived.now.logtags.now (went_r a.derived.now.maps.now) a.original.at a.original.end a.s a.original.stretch a.original.small c.requires.0 c.requires.1 c.requires.2 l.j _ l.invariant c.loop-j-test.false
