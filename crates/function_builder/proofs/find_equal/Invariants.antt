-- `function_builder::find_equal` meets its contract. What is left from expression k on is the whole, and the word at p becomes y.
use Prim.Native.Nat.{◌-◌}
use Rattle.function_builder.specs.Stacks.{went_of}
use Rattle.function_builder.proofs.Sieve.{Sieving}
use Rattle.derive_state.specs.Sizes.{going}
use Rattle.function_builder.proofs.find_equal.Given as goal

abbrev pub invariant-loop-k : goal.invariant-loop-k
invariant-loop-k l = Sieving l.piece.source.image.words.now l.piece.source.image.tags.now (went_of l.piece.source.image.words.now l.piece.source.image.n l.derived.view.now.log.now l.derived.view.now.logtags.now l.derived.view.now.starts.now l.derived.view.now.maps.now (going l.derived.view.now.sizes) l.exprmap) l.piece.at l.piece.end l.stacks l.e1 (going l.derived.view.now.sizes) l.k l.p l.y

abbrev pub decreases-loop-k : goal.decreases-loop-k
decreases-loop-k l = l.derived.view.now.sizes.made - l.k
