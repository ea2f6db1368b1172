-- `second_pass` meets its contract: one expression of the range at a turn.
use Rattle.derive_state.specs.Sizes.{going}
use Rattle.function_passes.proofs.Appending.{Appending}
use Rattle.function_passes.proofs.second_pass.Given as goal

abbrev pub invariant-loop-y : goal.invariant-loop-y
invariant-loop-y l = Appending l.function.source.image.words.now l.function.source.image.tags.now l.function.source.image.n l.function.places.now l.function.count l.function.source.offset l.a l.b l.derived.log.now l.derived.logtags.now l.derived.starts.now l.derived.maps.now l.initial.exprmap l.initial.stacks l.function.base (going l.initial.e) (going l.e) l.exprmap l.stacks l.y
