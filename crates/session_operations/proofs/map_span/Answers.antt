use Rattle.std.proofs.Common.{inl, inr}
use mathlib.Core.Bool.{true}
use mathlib.Core.Path.{refl}
use Rattle.session_operations.proofs.Plain.{span_undefined, span_moved}
use Rattle.session_operations.proofs.map_span.Goals as goal
use Rattle.session_operations.proofs.map_span.Goals.{else-a-eq0-via-then-a-eq0+else-b-eq0, else-a-eq0-via-else-a-eq0}

pub returns-then-b-eq0 : goal.returns-then-b-eq0
returns-then-b-eq0 c = let a = c.args in rw c.in_ok-set.ensures.ok_part (span_undefined true c.in_ok-set.set.offset a.a a.b refl c.if-a-eq0.true c.if-b-eq0.true)

pub returns : goal.returns
returns c = let a = c.args in rw c.in_ok-set.ensures.ok_part (span_moved true c.in_ok-set.set.offset a.a a.b refl (elim c.else-a-eq0.branch [ else-a-eq0-via-then-a-eq0+else-b-eq0 w ↦ inl (w.if-a-eq0.true, w.if-b-eq0.false) | else-a-eq0-via-else-a-eq0 w ↦ inr w.if-a-eq0.false ]) c.wrapping_add_u32.result c.wrapping_add_u32-2.result c.wrapping_add_u32.ensures.value c.wrapping_add_u32-2.ensures.value)
