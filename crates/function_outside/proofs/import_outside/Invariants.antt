-- What a stretch refers to outside the function: the loop passes one word at a turn.
use Rattle.function_outside.proofs.Passing.{Passing}
use Rattle.derive_state.specs.Sizes.{going}
use Rattle.derive_state.specs.Held.{SameArrays}
use Rattle.function_outside.proofs.import_outside.Given as goal

abbrev pub invariant-loop-j : goal.invariant-loop-j
invariant-loop-j l = (Passing l.piece.source.image.words.now l.piece.source.image.tags.now l.piece.source.image.n l.piece.source.offset l.piece.at l.piece.end l.initial.derived.log.now l.initial.derived.logtags.now l.initial.derived.starts.now l.initial.derived.maps.now l.initial.derived.buckets.now (going l.initial.e) l.derived.log.now l.derived.logtags.now l.derived.starts.now l.derived.maps.now l.derived.buckets.now (going l.e) l.j) × SameArrays l.initial.derived l.derived
