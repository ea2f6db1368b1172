-- `function_builder::by_maps` meets its contract. Each arm is one kind of class.
use mathlib.Core.Path.{◌∙◌}
use Rattle.function_references.specs.Fits.{Fits, FitN}
use Rattle.function_builder.specs.Stacks.{went_by}
use Rattle.derive_state.proofs.Classes.{ref_through, zero_through, some_through, ref_good, some_good}
use Rattle.function_builder.proofs.Carries.{carries_small, carries_row}
use Rattle.function_builder.proofs.by_maps.Goals as goal

pub bounds-exprmap-w : goal.bounds-exprmap-w
unfolding Fits
bounds-exprmap-w c = let a = c.args in let fit = c.requires.by_index in ref_good a.s a.w (FitN fit.0 1024) fit.1 c.in-Own.ensures.0

pub bounds-exprmap-w-in-OptionalOwn-2 : goal.bounds-exprmap-w-in-OptionalOwn-2
unfolding Fits
bounds-exprmap-w-in-OptionalOwn-2 c = let a = c.args in let fit = c.requires.by_index in some_good a.s a.w (FitN fit.0 1024) fit.1 c.in-OptionalOwn-2.ensures.0 c.if-w-eq0.false

pub carried-requires : goal.carried-requires
carried-requires c = let a = c.args in let fit = c.requires.by_index in record { all = carries_small fit.0 a.maps.now a.exprmap.now a.s a.w c.requires.fact c.target_of.result c.target_of.ensures.0 c.in_default.not-Own c.in_default.not-OptionalOwn fit.1 }

pub returns-in-Own : goal.returns-in-Own
unfolding went_by
returns-in-Own c = let a = c.args in c.number_of.ensures ∙ ref_through a.s a.w c.in-Own.ensures.0 (went_by a.maps.now a.exprmap.now)

pub returns-in-OptionalOwn : goal.returns-in-OptionalOwn
returns-in-OptionalOwn c = let a = c.args in zero_through a.s a.w c.in-OptionalOwn.ensures.0 c.if-w-eq0.true (went_by a.maps.now a.exprmap.now)

pub returns-in-OptionalOwn-2 : goal.returns-in-OptionalOwn-2
unfolding went_by
returns-in-OptionalOwn-2 c = let a = c.args in some_through a.s a.w c.in-OptionalOwn-2.ensures.0 c.if-w-eq0.false (went_by a.maps.now a.exprmap.now)

pub returns-in_default : goal.returns-in_default
returns-in_default c = let a = c.args in c.carried.ensures ∙ carries_row c.requires.by_index.0 a.maps.now a.exprmap.now a.s a.w c.requires.fact c.target_of.result c.target_of.ensures.0 c.in_default.not-Own c.in_default.not-OptionalOwn
