use Rattle.intake_layout.proofs.Header.{Placing}
use Rattle.intake_layout.proofs.section.Headed.sections_fit.Given as goal

abbrev pub invariant-loop-j : goal.invariant-loop-j
invariant-loop-j l = Placing l.self.extent.words.now l.self.extent.end l.at l.j
