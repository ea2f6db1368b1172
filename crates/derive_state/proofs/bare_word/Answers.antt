use mathlib.Core.Path.{sym, ◌∙◌}
use Rattle.derive_state.proofs.Classes.{bare_other, bare_span}
use Rattle.derive_state.proofs.bare_word.Goals as goal

pub returns-then-is_span : goal.returns-then-is_span
returns-then-is_span c = bare_span c.args.s c.args.w (sym c.is_span.ensures ∙ c.if-is_span.true)

pub returns-else-is_span : goal.returns-else-is_span
returns-else-is_span c = bare_other c.args.s c.args.w (sym c.is_span.ensures ∙ c.if-is_span.false)
