use Rattle.std.proofs.Common.{rules}
use mathlib.Core.Path.{◌∙◌}
use borrow.Author.Tests.{eq-eqb}
use Rattle.derive_state.proofs.Classes.{alike-class, alike-word, alike_span}
use Rattle.derive_state.proofs.alike_cell.Goals as goal

pub returns-then-x-y : goal.returns-then-x-y
returns-then-x-y c = let a = c.args in eq-eqb a.x a.y c.if-x-y.true ∙ alike-word a.a a.x a.b a.y c.if-a-b.true c.if-x-y.true

pub returns-else-x-y : goal.returns-else-x-y
returns-else-x-y c = let a = c.args in c.is_span.ensures ∙ alike_span a.a a.x a.b a.y c.if-a-b.true c.if-x-y.false

pub returns-else-a-b : goal.returns-else-a-b
returns-else-a-b c = search (alike-class, rules)
