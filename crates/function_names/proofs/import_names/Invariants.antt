-- The names of the pairs on the stack are imported one at a turn, and its word is what it is mapped to.
use Prim.Native.Nat.{◌-◌}
use Rattle.function_names.proofs.Naming.{Naming}
use Rattle.derive_state.specs.Sizes.{going}
use Rattle.derive_state.specs.Held.{SameArrays}
use Rattle.function_names.proofs.import_names.Given as goal

abbrev pub invariant-loop-i : goal.invariant-loop-i
invariant-loop-i l = (Naming l.source.image.words.now l.source.image.n l.source.offset l.b l.initial.derived.log.now l.initial.derived.logtags.now l.initial.derived.starts.now l.initial.derived.maps.now l.initial.derived.buckets.now l.initial.stacks (going l.fn.ends) l.derived.log.now l.derived.logtags.now l.derived.starts.now l.derived.maps.now l.derived.buckets.now l.stacks (going l.e) l.i) × SameArrays l.initial.derived l.derived

abbrev pub decreases-loop-i : goal.decreases-loop-i
decreases-loop-i l = l.i-end - l.i
