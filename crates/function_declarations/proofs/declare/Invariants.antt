-- `declare` meets its contract: at each turn the words that import nothing are written, then one word has what it refers to, and is written.
use Prim.Native.Nat.{◌-◌}
use Rattle.function_words.specs.Runs.{unites}
use Rattle.function_declarations.proofs.Declaring.{Declaring}
use Rattle.derive_state.specs.Sizes.{going}
use Rattle.derive_state.specs.Held.{SameArrays}
use Rattle.function_declarations.proofs.declare.Given as goal

abbrev pub invariant-loop-j : goal.invariant-loop-j
invariant-loop-j l = (Declaring l.function.source.image.words.now l.function.source.image.tags.now l.function.source.image.n l.function.count l.function.source.offset (unites l.function.source.offset l.function.source.image.words.now l.function.source.image.tags.now l.function.source.image.n l.function.places.now l.function.count) l.at l.end l.initial.derived.log.now l.initial.derived.logtags.now l.initial.derived.starts.now l.initial.derived.maps.now l.initial.derived.buckets.now l.initial.exprmap l.initial.stacks l.function.base (going l.initial.r.sizes) (going l.r.sizes) l.derived.log.now l.derived.logtags.now l.derived.starts.now l.derived.maps.now l.derived.buckets.now l.exprmap l.stacks l.r.at l.r.undefined) × SameArrays l.initial.derived l.derived

abbrev pub decreases-loop-j : goal.decreases-loop-j
decreases-loop-j l = l.end - l.r.at
