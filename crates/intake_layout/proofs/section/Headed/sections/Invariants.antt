use Rattle.intake_layout.proofs.Sections.{Sectioning}
use Rattle.intake_layout.proofs.section.Headed.sections.Given as goal

abbrev pub invariant-loop-j : goal.invariant-loop-j
invariant-loop-j l = Sectioning l.self.extent.words.now l.initial.tags l.self.extent.end l.tags l.j l.odd
