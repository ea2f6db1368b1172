use mathlib.Core.Path.{refl}
use Rattle.function_builder.proofs.Stacked.{next_some, next-none}
use Rattle.derive_state.specs.Sizes.{going}
use Rattle.function_builder.proofs.expr_end.Goals as goal

pub returns-then-k-ends : goal.returns-then-k-ends
returns-then-k-ends c = let a = c.args in let p = c.requires in next_some a.stacks.now a.e1 (going a.ends) p.0 p.2 a.k c.if-k-ends.true _ refl

pub returns : goal.returns
returns c = let a = c.args in let p = c.requires in next-none a.stacks.now a.e1 (going a.ends) p.0 p.2 a.k c.if-k-ends.false
