-- `declare` meets its contract: at each turn the words that import nothing are written, then one word has what it refers to, and is written.
use native.Mathlib.Nat.{le_refl}
use Rattle.derive_lookup.proofs.Bears.{bearing}
use Rattle.function_references.proofs.Sources.{ground}
use Rattle.function_words.proofs.Running.{made_small}
use Rattle.function_words.proofs.Words.{fits_all}
use Rattle.function_words.proofs.Calm.{legible_all, unites-idle}
use Rattle.function_declarations.proofs.Declaring.{declare_begin, declare_in, declare_fits, declare_full, declare_over, declare_next, declare_done, unites_grow}
use Rattle.function_declarations.proofs.Declared.{declare_ran}
use Rattle.derive_state.specs.Sizes.{going}
use Rattle.std.proofs.lemmas.Result.{err_from_is_err_and}
use Rattle.derive_state.proofs.State.{arrays_same, arrays_then}
use mathlib.Core.Path.{refl, ap}
use Rattle.function_declarations.proofs.declare.Goals as goal

pub loop-j-init : goal.loop-j-init
loop-j-init c = (declare_begin c.requires.valid_arrays c.requires.under refl c.requires.declares, arrays_same _)

pub next_word-requires : goal.next_word-requires
next_word-requires c = let D = c.loop-j.invariant.0 in let U = D.runs.under D.going in record { legible = (rw (c.cells-cells.ensures.0, c.cells-cells.ensures.1) (legible_all c.args.function.expressions.few D.left.legible), U.stacks_are.high', made_small U) }

pub import_declaration_word-requires : goal.import_declaration_word-requires
import_declaration_word-requires c = let a = c.args in let l = c.loop-j in let K = c.requires.valid_arrays in let N = rw (c.cells-cells.ensures.0, c.cells-cells.ensures.1) at c.in-Some.ensures in let D = declare_ran K (ground c.args.function.source).source a.function.source.offset (unites-idle c.args.function.expressions a.function.source.image.n a.function.source.offset) a.at a.end a.exprmap.now a.stacks.now a.function.base (going l.r.sizes) l.derived.log.now l.derived.logtags.now l.derived.starts.now l.derived.maps.now l.derived.buckets.now l.exprmap l.invariant.0 N.copied.ran (ap going N.copied.sizes) in let less = N.less in record { i_bound = (declare_in K D less, declare_fits K D less); valid_arrays = D.runs.kept D.going; under = D.runs.under D.going }

pub returns-in_err-e : goal.returns-in_err-e
returns-in_err-e c = let p = err_from_is_err_and c.from_residual.result c.from_residual.ensures.1 in rw (p.1, p.2) (record { does = let a = c.args in let l = c.loop-j in let K = c.requires.valid_arrays in let N = rw (c.cells-cells.ensures.0, c.cells-cells.ensures.1) at c.in-Some.ensures in let D = declare_ran K (ground c.args.function.source).source a.function.source.offset (unites-idle c.args.function.expressions a.function.source.image.n a.function.source.offset) a.at a.end a.exprmap.now a.stacks.now a.function.base (going l.r.sizes) l.derived.log.now l.derived.logtags.now l.derived.starts.now l.derived.maps.now l.derived.buckets.now l.exprmap l.invariant.0 N.copied.ran (ap going N.copied.sizes) in let less = N.less in declare_full K D less N.flag c.in_err-e.ensures.does refl (unites_grow a.function.source.offset a.function.source.image.words.now a.function.source.image.tags.now a.function.source.image.n a.function.places.now a.function.count); same = arrays_then c.loop-j.invariant.1 c.in_err-e.ensures.same })

pub invariant_of-put_word : goal.invariant_of-put_word
invariant_of-put_word c = let v = c.view.ensures in record { bearing = rw (v.0, v.1, v.2, v.5) (bearing (c.in_ok-e.ensures.does.kept refl)) }

pub put_word-requires : goal.put_word-requires
put_word-requires c = let a = c.args in let l = c.loop-j in let K = c.requires.valid_arrays in let N = rw (c.cells-cells.ensures.0, c.cells-cells.ensures.1) at c.in-Some.ensures in let D = declare_ran K (ground c.args.function.source).source a.function.source.offset (unites-idle c.args.function.expressions a.function.source.image.n a.function.source.offset) a.at a.end a.exprmap.now a.stacks.now a.function.base (going l.r.sizes) l.derived.log.now l.derived.logtags.now l.derived.starts.now l.derived.maps.now l.derived.buckets.now l.exprmap l.invariant.0 N.copied.ran (ap going N.copied.sizes) in let less = N.less in let v = c.view.ensures in record { i_bound = (declare_in K D less, fits_all a.function.source.image.words.now _ _ c.args.function.expressions.few (declare_fits K D less)); stacks = rw v.5 (c.in_ok-e.ensures.does.under refl).stacks_are }

pub returns-in_err-r : goal.returns-in_err-r
returns-in_err-r c = let p = err_from_is_err_and c.from_residual-in_err-r.result c.from_residual-in_err-r.ensures.1 in let v = c.view.ensures in rw (p.1, p.2) (record { does = let a = c.args in let l = c.loop-j in let K = c.requires.valid_arrays in let N = rw (c.cells-cells.ensures.0, c.cells-cells.ensures.1) at c.in-Some.ensures in let D = declare_ran K (ground c.args.function.source).source a.function.source.offset (unites-idle c.args.function.expressions a.function.source.image.n a.function.source.offset) a.at a.end a.exprmap.now a.stacks.now a.function.base (going l.r.sizes) l.derived.log.now l.derived.logtags.now l.derived.starts.now l.derived.maps.now l.derived.buckets.now l.exprmap l.invariant.0 N.copied.ran (ap going N.copied.sizes) in let less = N.less in declare_over K D less N.flag c.in_ok-e.ensures.does refl (rw (v.0, v.1, v.2, v.3, v.5) at c.in_err-r.ensures) refl (unites_grow a.function.source.offset a.function.source.image.words.now a.function.source.image.tags.now a.function.source.image.n a.function.places.now a.function.count); same = arrays_then c.loop-j.invariant.1 c.in_ok-e.ensures.same })

pub loop-j-preserved : goal.loop-j-preserved
loop-j-preserved c = (let v = c.view.ensures in let a = c.args in let l = c.loop-j in let K = c.requires.valid_arrays in let N = rw (c.cells-cells.ensures.0, c.cells-cells.ensures.1) at c.in-Some.ensures in let D = declare_ran K (ground c.args.function.source).source a.function.source.offset (unites-idle c.args.function.expressions a.function.source.image.n a.function.source.offset) a.at a.end a.exprmap.now a.stacks.now a.function.base (going l.r.sizes) l.derived.log.now l.derived.logtags.now l.derived.starts.now l.derived.maps.now l.derived.buckets.now l.exprmap l.invariant.0 N.copied.ran (ap going N.copied.sizes) in let less = N.less in rw N.at (declare_next K D less N.flag c.in_ok-e.ensures.does refl (rw (v.0, v.1, v.2, v.3, v.5) at c.in_ok-r.ensures) refl), arrays_then c.loop-j.invariant.1 c.in_ok-e.ensures.same)

pub returns : goal.returns
returns c = record { does = let a = c.args in let l = c.loop-j in let K = c.requires.valid_arrays in let N = rw (c.cells-cells.ensures.0, c.cells-cells.ensures.1) at c.in_default.ensures in let D = declare_ran K (ground c.args.function.source).source a.function.source.offset (unites-idle c.args.function.expressions a.function.source.image.n a.function.source.offset) a.at a.end a.exprmap.now a.stacks.now a.function.base (going l.r.sizes) l.derived.log.now l.derived.logtags.now l.derived.starts.now l.derived.maps.now l.derived.buckets.now l.exprmap l.invariant.0 N.ran (ap going N.sizes) in declare_done K D (le_refl _); same = c.loop-j.invariant.1 }
