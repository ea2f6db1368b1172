use Rattle.derive_sections.proofs.Tables.{Tabling}
use Rattle.derive_sections.proofs.WritableTables.write_tables.Given as goal

abbrev pub invariant-loop-t : goal.invariant-loop-t
invariant-loop-t l = Tabling l.self.view.now.log.now l.self.view.now.logtags.now l.self.view.now.starts.now l.self.view.now.sizes.counts l.places l.initial.out l.at l.out l.t l.p
