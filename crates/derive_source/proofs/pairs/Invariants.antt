use Rattle.derive_source.proofs.Loops.{Pairing}
use Rattle.derive_state.specs.Sizes.{going}
use Rattle.derive_state.specs.Held.{SameArrays}
use Rattle.derive_source.proofs.pairs.Given as goal

abbrev pub invariant-loop-i : goal.invariant-loop-i
invariant-loop-i l = (Pairing l.source.image.words.now l.source.image.n l.source.offset l.initial.derived.log.now l.initial.derived.logtags.now l.initial.derived.starts.now l.initial.derived.maps.now l.initial.derived.buckets.now l.initial.special (going l.initial.e) l.derived.log.now l.derived.logtags.now l.derived.starts.now l.derived.maps.now l.derived.buckets.now l.special (going l.e) l.i) × SameArrays l.initial.derived l.derived
