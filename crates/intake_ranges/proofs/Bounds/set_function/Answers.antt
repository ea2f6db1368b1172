use mathlib.Core.Path.{refl}
use Rattle.intake_ranges.specs.Ranges.{with_own}
use Rattle.intake_ranges.proofs.Ranging.{inside_is}
use Rattle.intake_ranges.proofs.Bounds.set_function.Goals as goal

pub returns-clause-is : goal.returns-clause-is
unfolding with_own
returns-clause-is c = refl

pub returns-clause-owned : goal.returns-clause-owned
unfolding with_own
returns-clause-owned c = inside_is _ _ _ _ _ refl
