use mathlib.Core.Path.{sym, ◌∙◌}
use native.Mathlib.Omega.{arith}
use Rattle.base_views.proofs.Places.{end-last, end-next}
use Rattle.base_views.proofs.end_of.Goals as goal

pub returns-then-j-count : goal.returns-then-j-count
returns-then-j-count c = (end-last _ _ _ _ c.requires.0 (c.if-j-count.true ∙ c.count.ensures.0) c.offset.ensures.0, omega arith)

pub returns : goal.returns
returns c = (end-next _ _ _ _ (λ q. c.if-j-count.false (q ∙ sym c.count.ensures.0)) c.start_of.ensures.0, omega arith)
