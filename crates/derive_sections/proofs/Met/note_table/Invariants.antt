use Rattle.derive_sections.proofs.Notes.{NotingR}
use Rattle.derive_sections.proofs.Met.note_table.Given as goal

abbrev pub ghost-note_record : goal.ghost-note_record
ghost-note_record g a = g.names

abbrev pub invariant-loop-s : goal.invariant-loop-s
invariant-loop-s g l = NotingR g.names l.derived.log.now l.derived.logtags.now l.starts l.initial.self.order l.initial.self.count l.self.order l.self.places l.s-index l.self.count
