-- `first_pass` meets its contract: one expression of the range at a turn.
use Rattle.function_words.specs.Runs.{glances}
use Rattle.function_passes.proofs.Ranges.{Ranging}
use Rattle.derive_state.specs.Sizes.{going}
use Rattle.derive_state.specs.Held.{SameArrays}
use Rattle.function_passes.proofs.first_pass.Given as goal

abbrev pub invariant-loop-y : goal.invariant-loop-y
invariant-loop-y l = (Ranging l.function.source.image.words.now l.function.count (glances l.function.source.offset l.function.source.image.words.now l.function.source.image.tags.now l.function.source.image.n l.function.places.now l.function.count) l.a l.b l.initial.derived.log.now l.initial.derived.logtags.now l.initial.derived.starts.now l.initial.derived.maps.now l.initial.derived.buckets.now l.initial.exprmap l.initial.stacks l.function.base (going l.initial.e) (going l.e) l.derived.log.now l.derived.logtags.now l.derived.starts.now l.derived.maps.now l.derived.buckets.now l.exprmap l.stacks l.y) × SameArrays l.initial.derived l.derived
