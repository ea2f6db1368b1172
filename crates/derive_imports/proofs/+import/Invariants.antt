-- The import ends since what a record refers to has a lower rank; while it passes the record's words, what is left of the references gives the whole.
use Rattle.model.specs.Tables.{rec_at}
use Rattle.model.specs.References.{refs}
use Rattle.derive_state.specs.Refers.{tab_of}
use Rattle.derive_state.specs.Source.{src_of}
use Rattle.theory_records.specs.Well.{rank}
use Rattle.derive_imports.proofs.Turns.{Turn}
use Rattle.derive_state.specs.Sizes.{going}
use Rattle.derive_state.specs.Held.{SameArrays}
use Rattle.derive_imports.proofs.+import.Given as goal

abbrev pub decreases-import : goal.decreases-import
decreases-import l = rank (src_of l.source.image.words.now l.source.image.n) (tab_of l.r.table) l.r.number

abbrev pub invariant-loop-j : goal.invariant-loop-j
invariant-loop-j l = (Turn l.source.image.words.now l.source.image.tags.now l.source.image.n l.source.offset l.r.table l.k (refs (rec_at (src_of l.source.image.words.now l.source.image.n) (tab_of l.r.table) l.k)) l.initial.derived.log.now l.initial.derived.logtags.now l.initial.derived.starts.now l.initial.derived.maps.now l.initial.derived.buckets.now (going l.initial.e) l.end l.derived.log.now l.derived.logtags.now l.derived.starts.now l.derived.maps.now l.derived.buckets.now (going l.e) l.j) × SameArrays l.initial.derived l.derived
