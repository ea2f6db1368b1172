-- The loop over the entry points: those before i are entered, or the arrays are full.
use Rattle.function_entry.proofs.Entering.{Turn}
use Rattle.derive_state.specs.Sizes.{going}
use Rattle.derive_state.specs.Held.{SameArrays}
use Rattle.function_entry.proofs.enter_all.Given as goal

abbrev pub invariant-loop-j : goal.invariant-loop-j
invariant-loop-j l = (Turn l.source.image.words.now l.source.image.n l.source.offset l.special l.initial.derived.log.now l.initial.derived.logtags.now l.initial.derived.starts.now l.initial.derived.maps.now l.initial.derived.buckets.now (going l.initial.e) l.derived.log.now l.derived.logtags.now l.derived.starts.now l.derived.maps.now l.derived.buckets.now l.stacks (going l.e) l.j) × SameArrays l.initial.derived l.derived
