use Rattle.derive_sections.proofs.Notes.{NotingT}
use Rattle.derive_sections.proofs.appearing.Given as goal

abbrev pub ghost-note_table : goal.ghost-note_table
ghost-note_table g a = g.names

abbrev pub invariant-loop-t : goal.invariant-loop-t
invariant-loop-t g l = NotingT g.names l.derived.log.now l.derived.logtags.now l.derived.starts.now l.derived.sizes.counts l.met.order l.met.places l.t l.met.count
