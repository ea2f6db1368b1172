-- `function_builder::write` meets its contract. Words and classes go to the top of the stack, one after the other.
use mathlib.Core.Path.{◌≡◌}
use Prim.Native.Nat.{◌+◌, ◌-◌, ◌≤◌}
use Rattle.model.specs.References.{first_word}
use Rattle.derive_state.specs.Held.{carried_by}
use Rattle.function_builder.specs.Stacks.{went_of}
use Rattle.function_builder.proofs.Writes.{Laying}
use Rattle.derive_state.specs.Sizes.{going}
use Rattle.function_builder.proofs.write.Given as goal

abbrev pub invariant-loop-j : goal.invariant-loop-j
invariant-loop-j l = (Laying l.piece.source.image.words.now l.piece.source.image.tags.now (went_of l.piece.source.image.words.now l.piece.source.image.n l.derived.view.now.log.now l.derived.view.now.logtags.now l.derived.view.now.starts.now l.derived.view.now.maps.now (going l.derived.view.now.sizes) l.exprmap) l.piece.at l.piece.end l.piece.source.offset l.initial.stacks (going l.derived.view.now.sizes) l.stacks l.j (l.derived.view.now.sizes.exprtop + (l.j - l.piece.at)) l.u) × (l.piece.at ≤ l.j) × (l.w ≡ first_word (carried_by (went_of l.piece.source.image.words.now l.piece.source.image.n l.derived.view.now.log.now l.derived.view.now.logtags.now l.derived.view.now.starts.now l.derived.view.now.maps.now (going l.derived.view.now.sizes) l.exprmap) l.piece.source.image.tags.now l.piece.source.image.words.now l.j l.piece.end))
