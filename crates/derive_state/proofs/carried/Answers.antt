use mathlib.Core.Path.{ap, ◌∙◌}
use Prim.Native.Nat.{pred, ◌-◌}
use Rattle.derive_state.specs.Refers.{code_p, went_r, Small}
use Rattle.derive_state.proofs.Classes.{nothing_through, ref_through, zero_through, some_through, ref_good, some_good, row_is, no_row}
use Rattle.derive_state.proofs.carried.Goals as goal

pub bounds-maps-w : goal.bounds-maps-w
bounds-maps-w c = let a = c.args in ref_good a.s a.w Small c.requires.all c.in-Record.ensures.0

pub bounds-maps-w-in-Own : goal.bounds-maps-w-in-Own
bounds-maps-w-in-Own c = let a = c.args in ref_good a.s a.w Small c.requires.all c.in-Own.ensures.0

pub bounds-maps-w-in-Optional-2 : goal.bounds-maps-w-in-Optional-2
bounds-maps-w-in-Optional-2 c = let a = c.args in some_good a.s a.w Small c.requires.all c.in-Optional-2.ensures.0 c.if-w-eq0.false

pub bounds-maps-w-in-OptionalOwn-2 : goal.bounds-maps-w-in-OptionalOwn-2
bounds-maps-w-in-OptionalOwn-2 c = let a = c.args in some_good a.s a.w Small c.requires.all c.in-OptionalOwn-2.ensures.0 c.if-w-eq0-2.false

pub returns-in-Nothing : goal.returns-in-Nothing
returns-in-Nothing c = let a = c.args in nothing_through a.s a.w c.in-Nothing.ensures.0 (went_r a.maps.now)

pub returns-in-Function : goal.returns-in-Function
returns-in-Function c = let a = c.args in no_row a.maps.now c.told-maps a.w ∙ ref_through a.s a.w c.in-Function.ensures.0 (went_r a.maps.now)

pub returns-in-Record : goal.returns-in-Record
returns-in-Record c = let a = c.args in let e = c.in-Record.ensures in c.number_of.ensures ∙ ap pred (row_is a.maps.now c.in-Record.t e.1 a.w) ∙ ref_through a.s a.w e.0 (went_r a.maps.now)

pub returns-in-Own : goal.returns-in-Own
unfolding went_r code_p
returns-in-Own c = let a = c.args in c.number_of-in-Own.ensures ∙ ref_through a.s a.w c.in-Own.ensures.0 (went_r a.maps.now)

pub returns-in-Optional : goal.returns-in-Optional
returns-in-Optional c = let a = c.args in zero_through a.s a.w c.in-Optional.ensures.0 c.if-w-eq0.true (went_r a.maps.now)

pub returns-in-Optional-2 : goal.returns-in-Optional-2
returns-in-Optional-2 c = let a = c.args in let e = c.in-Optional.ensures in row_is a.maps.now c.in-Optional.field-0 e.1 (a.w - 1) ∙ some_through a.s a.w e.0 c.if-w-eq0.false (went_r a.maps.now)

pub returns-in-OptionalOwn : goal.returns-in-OptionalOwn
returns-in-OptionalOwn c = let a = c.args in zero_through a.s a.w c.in-OptionalOwn.ensures.0 c.if-w-eq0-2.true (went_r a.maps.now)

pub returns-in-OptionalOwn-2 : goal.returns-in-OptionalOwn-2
unfolding went_r code_p
returns-in-OptionalOwn-2 c = let a = c.args in some_through a.s a.w c.in-OptionalOwn-2.ensures.0 c.if-w-eq0-2.false (went_r a.maps.now)
