-- `carry` meets its contract: the end of a range is what is made, any other word is carried and moved.
use mathlib.Core.Path.{ap, ◌∙◌}
use Prim.Native.Nat.{ℕ}
use Rattle.model.specs.References.{target, moved}
use Rattle.function_runs.proofs.Quiets.{becomes-made, becomes-other}
use Rattle.function_runs.proofs.carry.Goals as goal

pub returns-then-s-eq-TO : goal.returns-then-s-eq-TO
returns-then-s-eq-TO c = let a = c.args in becomes-made _ a.made a.offset a.s a.w a.u c.if-s-eq-TO.true

pub by_maps-requires : goal.by_maps-requires
by_maps-requires c = record { fact = c.requires.fact.0; by_index = c.requires.by_index }

pub returns : goal.returns
returns c = let a = c.args in c.moved.ensures ∙ ap (λ (x : ℕ). moved (target a.s) x a.offset a.u) c.by_maps.ensures ∙ becomes-other _ a.made a.offset a.s a.w a.u c.if-s-eq-TO.false
