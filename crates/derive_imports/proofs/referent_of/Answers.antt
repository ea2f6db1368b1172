-- `referent_of` meets its contract: each arm is one kind of class.
use mathlib.Core.Logic.{inl, inr}
use mathlib.Core.Path.{◌∙◌}
use Prim.Native.Nat.{◌-◌}
use Rattle.derive_imports.specs.Referents.{at_place}
use Rattle.derive_imports.proofs.Referring.{none_meant, ref_meant, zero_meant, some_meant, place_table}
use Rattle.derive_imports.proofs.referent_of.Goals as goal

pub returns-in-Nothing : goal.returns-in-Nothing
unfolding at_place
returns-in-Nothing c = let a = c.args in elim c.in-Nothing.is [ inl e ↦ none_meant a.s a.w (rw e at c.target_of.ensures.0) | inr e ↦ ref_meant a.s a.w (rw e at c.target_of.ensures.0) ]

pub returns-in-Record : goal.returns-in-Record
returns-in-Record c = let a = c.args in let e = c.in-Record.ensures in place_table c.in-Record.table e.1 a.w ∙ ref_meant a.s a.w e.0

pub returns-in-Own : goal.returns-in-Own
unfolding at_place
returns-in-Own c = let a = c.args in ref_meant a.s a.w c.in-Own.ensures.0

pub returns-in-Optional : goal.returns-in-Optional
returns-in-Optional c = let a = c.args in zero_meant a.s a.w c.in-Optional.ensures.0 c.if-w-eq0.true

pub returns-in-Optional-2 : goal.returns-in-Optional-2
returns-in-Optional-2 c = let a = c.args in let e = c.in-Optional.ensures in place_table c.in-Optional.field-0 e.1 (a.w - 1) ∙ some_meant a.s a.w e.0 c.if-w-eq0.false

pub returns-in-OptionalOwn : goal.returns-in-OptionalOwn
returns-in-OptionalOwn c = let a = c.args in zero_meant a.s a.w c.in-OptionalOwn.ensures.0 c.if-w-eq0-2.true

pub returns-in-OptionalOwn-2 : goal.returns-in-OptionalOwn-2
unfolding at_place
returns-in-OptionalOwn-2 c = let a = c.args in some_meant a.s a.w c.in-OptionalOwn-2.ensures.0 c.if-w-eq0-2.false
