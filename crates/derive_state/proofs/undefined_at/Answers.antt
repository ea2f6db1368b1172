use Rattle.std.proofs.Common.{◌&&◌, eqb}
use mathlib.Core.Path.{sym, ap, ◌∙◌}
use Prim.Native.Nat.{ℕ}
use borrow.Author.Tests.{ne_eqb}
use Rattle.derive_state.proofs.Classes.{undefined-other, undefined_start}
use Rattle.derive_state.proofs.undefined_at.Goals as goal

pub returns-then-w-eq0 : goal.returns-then-w-eq0
returns-then-w-eq0 c = let a = c.args in ap (λ (x : ℕ). eqb x 0 && eqb a.next 0) (sym c.if-w-eq0.true) ∙ undefined_start a.s a.w a.next a.u c.if-s-eq-SPAN.true

pub returns-else-w-eq0 : goal.returns-else-w-eq0
returns-else-w-eq0 c = let a = c.args in let q = ne_eqb a.w 0 c.if-w-eq0.false in rw q (rw q at (undefined_start a.s a.w a.next a.u c.if-s-eq-SPAN.true))

pub returns-else-s-eq-SPAN : goal.returns-else-s-eq-SPAN
returns-else-s-eq-SPAN c = let a = c.args in undefined-other a.s a.w a.next a.u c.if-s-eq-SPAN.false
