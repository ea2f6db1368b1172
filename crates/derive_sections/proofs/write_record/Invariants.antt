use Rattle.derive_sections.proofs.Writes.{Copying}
use Rattle.derive_sections.proofs.write_record.Given as goal

abbrev pub invariant-loop-i : goal.invariant-loop-i
invariant-loop-i l = Copying l.derived.log.now l.derived.logtags.now l.places l.initial.out l.s l.at l.out l.i
