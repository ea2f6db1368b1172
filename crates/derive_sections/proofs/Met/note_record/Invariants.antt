use Rattle.derive_sections.proofs.Notes.{Noting}
use Rattle.derive_sections.proofs.Met.note_record.Given as goal

abbrev pub ghost-note_word : goal.ghost-note_word
ghost-note_word g a = g.names

abbrev pub invariant-loop-j : goal.invariant-loop-j
invariant-loop-j g l = Noting g.names l.derived.log.now l.derived.logtags.now l.initial.self.order l.initial.self.count l.s l.end l.self.order l.self.places l.j l.self.count
