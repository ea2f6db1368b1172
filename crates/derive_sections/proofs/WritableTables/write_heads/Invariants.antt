use Rattle.derive_sections.proofs.Tables.{Heading}
use Rattle.derive_sections.proofs.WritableTables.write_heads.Given as goal

abbrev pub invariant-loop-t : goal.invariant-loop-t
invariant-loop-t l = Heading l.self.view.now.log.now l.self.view.now.logtags.now l.self.view.now.starts.now l.self.view.now.sizes.counts l.pairs l.initial.out l.out l.t l.p
