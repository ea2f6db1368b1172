use Rattle.derive_sections.proofs.Writes.{Joining}
use Rattle.derive_sections.proofs.Table.write_records.Given as goal

abbrev pub invariant-loop-s : goal.invariant-loop-s
invariant-loop-s l = Joining l.self.view.now.log.now l.self.view.now.logtags.now l.self.starts.now l.places l.initial.out l.at l.out l.s-index l.p
