use native.Mathlib.Omega.{arith}
use Rattle.intake_initialisers.proofs.Reaching.{reach_begin, reach_done, reach_list, reach_start, reach_at, reach_barred, reach_rising, reach_small, reach_less, reach_next}
use mathlib.Core.Bool.{not}
use mathlib.Core.Path.{refl, ap}
use Rattle.intake_initialisers.proofs.visited.Visited.reach.Goals as goal

pub loop-self-init : goal.loop-self-init
loop-self-init c = reach_begin _ _ _ _

pub offset_bounds-self-self : goal.offset_bounds-self-self
offset_bounds-self-self c = record { fits = omega (arith, reach_list _ _ _ _ _ c.loop-self.invariant c.requires c.loop-self-test.true) }

pub bounds-self-self : goal.bounds-self-self
bounds-self-self c = reach_list _ _ _ _ _ c.loop-self.invariant c.requires c.loop-self-test.true

pub bounds-starts-x : goal.bounds-starts-x
bounds-starts-x c = omega (arith, reach_start _ _ _ _ _ c.loop-self.invariant c.requires c.loop-self-test.true _ refl)

pub bounds-cells-at : goal.bounds-cells-at
bounds-cells-at c = reach_at _ _ _ _ _ c.loop-self.invariant c.requires c.loop-self-test.true _ refl _ refl

pub returns-then-not-constant : goal.returns-then-not-constant
returns-then-not-constant c = reach_barred _ _ _ _ _ c.loop-self.invariant c.requires c.loop-self-test.true _ refl _ refl _ c.constant.ensures (ap not c.if-not-constant.true) _

pub bounds-starts-x-in-loop-self : goal.bounds-starts-x-in-loop-self
bounds-starts-x-in-loop-self c = omega (arith, reach_start _ _ _ _ _ c.loop-self.invariant c.requires c.loop-self-test.true _ refl)

pub spread-requires-clause-at_le_end : goal.spread-requires-clause-at_le_end
spread-requires-clause-at_le_end c = reach_rising _ _ _ _ _ c.loop-self.invariant c.requires c.loop-self-test.true _ refl _ refl _ c.constant.ensures (ap not c.if-not-constant.false) _ refl

pub spread-requires-clause-end_bound : goal.spread-requires-clause-end_bound
spread-requires-clause-end_bound c = reach_small _ _ _ _ _ c.loop-self.invariant c.requires c.loop-self-test.true _ refl _ refl _ c.constant.ensures (ap not c.if-not-constant.false) _ refl

pub loop-self-smaller : goal.loop-self-smaller
loop-self-smaller c = reach_less _ _ _ _ _ c.loop-self.invariant c.requires c.loop-self-test.true _ refl _ refl _ c.constant.ensures (ap not c.if-not-constant.false) _ refl _ _ c.spread.ensures

pub loop-self-preserved : goal.loop-self-preserved
loop-self-preserved c = reach_next _ _ _ _ _ c.loop-self.invariant c.requires c.loop-self-test.true _ refl _ refl _ c.constant.ensures (ap not c.if-not-constant.false) _ refl _ _ c.spread.ensures

pub returns : goal.returns
returns c = reach_done _ _ _ _ _ c.loop-self.invariant c.loop-self-test.false
