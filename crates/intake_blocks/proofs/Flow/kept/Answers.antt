use mathlib.Core.Path.{sym, ◌∙◌}
use native.Mathlib.Nat.{le_refl}
use Rattle.intake_blocks.proofs.Answers.{kept_through, kept_continues}
use Rattle.intake_blocks.proofs.Flow.kept.Goals as goal

pub returns-in-Through : goal.returns-in-Through
returns-in-Through c = (λ h p. kept_through _ _ h (sym c.in-Through.is ∙ p), λ h. h)

pub returns-in-Continues : goal.returns-in-Continues
returns-in-Continues c = (λ h p. kept_continues _ _ h (sym c.in-Continues.is ∙ p), λ h. le_refl _)
