use mathlib.Core.Path.{sym, ◌∙◌}
use Rattle.derive_state.proofs.Classes.{moved_other, moved_kept, moved_on}
use Rattle.derive_state.proofs.moved.Goals.{else-is_span-via-then-is_span+else-not-u, else-is_span-via-else-is_span}
use Rattle.derive_state.proofs.moved.Goals as goal

pub returns-then-not-u : goal.returns-then-not-u
returns-then-not-u c = let a = c.args in moved_on a.s a.w a.offset a.u (sym c.is_span.ensures ∙ c.if-is_span.true) c.if-not-u.true _ c.wrapping_add_u32.ensures.value

pub returns-else-is_span : goal.returns-else-is_span
returns-else-is_span c =
    let a = c.args in
    elim c.else-is_span.branch [
      | else-is_span-via-then-is_span+else-not-u w ↦ moved_kept a.s a.w a.offset a.u (sym c.is_span.ensures ∙ w.if-is_span.true) w.if-not-u.false
      | else-is_span-via-else-is_span w ↦ moved_other a.s a.w a.offset a.u (sym c.is_span.ensures ∙ w.if-is_span.false)
    ]
