use Rattle.intake_layout.proofs.Extents.{Recording}
use Rattle.intake_layout.proofs.section.Section.records.Given as goal

abbrev pub invariant-loop-j : goal.invariant-loop-j
invariant-loop-j l = Recording l.self.extent.words.now l.initial.tags l.self.base l.self.extent.end l.n l.pc l.tags l.at l.j l.odd
