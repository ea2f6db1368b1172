use Rattle.intake.proofs.Tests.{answer_so, many_so}
use Rattle.intake.proofs.intake.Goals as goal

pub returns : goal.returns
returns c = record { answer = answer_so _ _ _ _ c.take_in.ensures; many = many_so _ _ _ _ c.take_in.ensures }
