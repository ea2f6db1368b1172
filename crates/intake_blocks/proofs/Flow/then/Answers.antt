use mathlib.Core.Path.{sym, ◌∙◌}
use Rattle.intake_blocks.proofs.Answers.{then_through, then_continues}
use Rattle.intake_blocks.proofs.Flow.then.Goals as goal

pub returns-in-Through : goal.returns-in-Through
returns-in-Through c = λ h g p q. then_through _ h g (sym c.in-Through.is ∙ p) q

pub returns-in-Continues : goal.returns-in-Continues
returns-in-Continues c = λ h g p q. c.in-Continues.is ∙ then_continues h g (sym c.in-Continues.is ∙ p)
