-- `Bounds::of_codes` meets its contract: the codes are stored in their order (`Coded`).
use Rattle.intake_ranges.proofs.Codes.{Coded}
use Rattle.intake_ranges.proofs.Bounds.of_codes.Given as goal

abbrev pub invariant-loop-i : goal.invariant-loop-i
invariant-loop-i l = Coded l.below l.i
