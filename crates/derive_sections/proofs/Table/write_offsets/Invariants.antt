use Rattle.derive_sections.proofs.Writes.{Offering}
use Rattle.derive_sections.proofs.Table.write_offsets.Given as goal

abbrev pub invariant-loop-j : goal.invariant-loop-j
invariant-loop-j l = Offering l.self.view.now.log.now l.self.view.now.logtags.now l.self.starts.now l.initial.out l.at l.out l.j l.o
