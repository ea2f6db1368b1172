-- `import_initialiser` meets its contract: the cycle of calls {import_initialiser}. Expression e is mapped; or its words are passed one at a turn, a record of a table imported and an operand, whose number is lower, taken by `import_initialiser` itself; and then it is merged. The measure is the expression's number.
use Rattle.model.specs.Bodies.{import_initialiser as initialiserE}
use Rattle.theory_passes.specs.Light.{still}
use Rattle.derive_state.specs.Source.{mod_of}
use Rattle.function_references.specs.Cuts.{exprs_of}
use Rattle.function_expressions.proofs.Alongs.{Alongs}
use Rattle.derive_state.specs.Sizes.{going}
use Rattle.derive_state.specs.Held.{SameArrays}
use Rattle.function_declarations.proofs.+import_initialiser.Given as goal

abbrev pub decreases-import_initialiser : goal.decreases-import_initialiser
decreases-import_initialiser l = l.e

abbrev pub invariant-loop-j : goal.invariant-loop-j
invariant-loop-j l = (Alongs l.function.source.image.words.now l.function.source.image.tags.now l.function.source.image.n l.function.count l.function.source.offset l.e l.initial.j l.j-end (initialiserE l.function.source.offset (mod_of l.function.source.image.words.now l.function.source.image.n) still (exprs_of l.function.source.image.words.now l.function.source.image.tags.now l.function.places.now l.function.count)) l.initial.derived.log.now l.initial.derived.logtags.now l.initial.derived.starts.now l.initial.derived.maps.now l.initial.derived.buckets.now l.initial.exprmap l.initial.stacks l.function.base (going l.initial.got) l.derived.log.now l.derived.logtags.now l.derived.starts.now l.derived.maps.now l.derived.buckets.now l.exprmap l.stacks (going l.got) l.j) × SameArrays l.initial.derived l.derived
