use mathlib.Core.Path.{refl}
-- `import_word` meets its contract: a word of a body is the start or the end of an Emit's range, a statement's kind, or any other.
use native.Mathlib.Omega.{arith}
use borrow.Author.Rules.{rules}
use lib.ListN.{get_or}
use Rattle.model.specs.References.{target}
use Rattle.derive_lookup.proofs.Bears.{bearing}
use Rattle.function_outside.proofs.Passing.{legible_here}
use Rattle.function_words.specs.Runs.{needs as needsE, glances}
use Rattle.function_words.proofs.Running.{made_small}
use Rattle.function_words.proofs.Words.{fits_all}
use Rattle.function_words.proofs.Body.{range_in, range_low, pass_from, pass-to, kind_stop, kind-put, plain_stop, plain-put}
use Rattle.std.proofs.lemmas.Result.{err_from_is_err_and}
use Rattle.derive_state.proofs.State.{arrays_same}
use Rattle.function_passes.proofs.import_word.Goals as goal

pub bounds-function-i-in-97-2 : goal.bounds-function-i-in-97-2
bounds-function-i-in-97-2 c = let z = range_in c.requires.bodied.0 c.requires.bodied.1 c.in-97.is in let y = z.0 in let x = z.1 in omega arith

pub emit-requires : goal.emit-requires
emit-requires c = record { b_le_k = range_low c.requires.bodied.0 c.requires.bodied.1 c.in-97.is _ refl; valid_arrays = c.requires.valid_arrays; under = c.requires.under }

pub returns-in-97 : goal.returns-in-97
returns-in-97 c = record { does = let a = c.args in pass_from a.function.source.image.words.now a.function.source.image.tags.now a.function.source.image.n a.function.count a.function.source.offset (needsE a.function.source.offset a.function.source.image.words.now a.function.source.image.tags.now a.function.source.image.n a.function.places.now a.function.count) (glances a.function.source.offset a.function.source.image.words.now a.function.source.image.tags.now a.function.source.image.n a.function.places.now a.function.count) a.i a.end a.u c.requires.valid_arrays c.requires.bodied.0 c.requires.bodied.1 c.in-97.is refl refl c.emit.ensures.does; same = c.emit.ensures.same }

pub overflow_cast-ends : goal.overflow_cast-ends
overflow_cast-ends c = let z = made_small c.requires.under in omega arith

pub returns-in-98 : goal.returns-in-98
returns-in-98 c = record { does = let a = c.args in pass-to a.function.source.image.words.now a.function.source.image.tags.now a.function.source.image.n a.function.count a.function.source.offset (needsE a.function.source.offset a.function.source.image.words.now a.function.source.image.tags.now a.function.source.image.n a.function.places.now a.function.count) (glances a.function.source.offset a.function.source.image.words.now a.function.source.image.tags.now a.function.source.image.n a.function.places.now a.function.count) a.i a.end a.u c.requires.valid_arrays c.in-98.is c.requires.under c.push.ensures; same = arrays_same _ }

pub import_compare-requires : goal.import_compare-requires
import_compare-requires c = record { legible = (c.requires.bodied.0.legible, c.requires.bodied.1); valid_arrays = c.requires.valid_arrays; under = c.requires.under }

pub returns-in_err-got-in-125 : goal.returns-in_err-got-in-125
returns-in_err-got-in-125 c = let p = err_from_is_err_and c.from_residual.result c.from_residual.ensures.1 in rw (p.1, p.2) (record { does = let a = c.args in kind_stop a.function.source.image.words.now a.function.source.image.tags.now a.function.source.image.n a.function.count a.function.source.offset (needsE a.function.source.offset a.function.source.image.words.now a.function.source.image.tags.now a.function.source.image.n a.function.places.now a.function.count) (glances a.function.source.offset a.function.source.image.words.now a.function.source.image.tags.now a.function.source.image.n a.function.places.now a.function.count) a.i a.end a.u c.requires.valid_arrays c.in-125.is c.in_err-got-in-125.ensures.does refl; same = c.in_err-got-in-125.ensures.same })

pub offset_bounds-function-i-in-125 : goal.offset_bounds-function-i-in-125
offset_bounds-function-i-in-125 c = let S = c.requires.bodied.0.legible.stretch.small in let h = c.requires.bodied.1 in omega arith

pub bounds-function-i-in-125 : goal.bounds-function-i-in-125
bounds-function-i-in-125 c = let S = c.requires.bodied.0.legible.stretch.small in let h = c.requires.bodied.1 in omega arith

pub push-requires-in-125 : goal.push-requires-in-125
push-requires-in-125 c = (c.in_ok-got-in-125.ensures.does.under refl).stacks_are

pub returns-in_ok-got-in-125 : goal.returns-in_ok-got-in-125
returns-in_ok-got-in-125 c = record { does = let a = c.args in kind-put a.function.source.image.words.now a.function.source.image.tags.now a.function.source.image.n a.function.count a.function.source.offset (needsE a.function.source.offset a.function.source.image.words.now a.function.source.image.tags.now a.function.source.image.n a.function.places.now a.function.count) (glances a.function.source.offset a.function.source.image.words.now a.function.source.image.tags.now a.function.source.image.n a.function.places.now a.function.count) a.i a.end a.u c.requires.valid_arrays c.in-125.is c.in_ok-got-in-125.ensures.does refl c.push-in-125.ensures; same = c.in_ok-got-in-125.ensures.same }

pub import_body_word-requires : goal.import_body_word-requires
import_body_word-requires c = let B = c.requires.bodied.0 in let h = c.requires.bodied.1 in let S = B.legible.stretch.small in record { i_bound = (omega arith, legible_here B.legible h); valid_arrays = c.requires.valid_arrays; under = c.requires.under }

pub returns-in_err-got-in_default : goal.returns-in_err-got-in_default
returns-in_err-got-in_default c = let p = err_from_is_err_and c.from_residual-in_err-got-in_default.result c.from_residual-in_err-got-in_default.ensures.1 in rw (p.1, p.2) (record { does = let a = c.args in plain_stop a.function.source.image.words.now a.function.source.image.tags.now a.function.source.image.n a.function.count a.function.source.offset (needsE a.function.source.offset a.function.source.image.words.now a.function.source.image.tags.now a.function.source.image.n a.function.places.now a.function.count) (glances a.function.source.offset a.function.source.image.words.now a.function.source.image.tags.now a.function.source.image.n a.function.places.now a.function.count) a.i a.end a.u c.requires.valid_arrays (search rules) (search rules) (search rules) c.in_err-got-in_default.ensures.does refl; same = c.in_err-got-in_default.ensures.same })

pub invariant_of-put_word : goal.invariant_of-put_word
invariant_of-put_word c = let v = c.view.ensures in let a = c.args in let B = c.requires.bodied.0 in let h = c.requires.bodied.1 in let S = B.legible.stretch.small in let A = c.in_ok-got-in_default.ensures.does in let z = refl in record { bearing = rw (v.0, v.1, v.2, v.5) (bearing (A.kept z)) }

pub put_word-requires : goal.put_word-requires
put_word-requires c = let v = c.view.ensures in let a = c.args in let B = c.requires.bodied.0 in let h = c.requires.bodied.1 in let S = B.legible.stretch.small in let A = c.in_ok-got-in_default.ensures.does in let z = refl in record { i_bound = (omega arith, fits_all a.function.source.image.words.now (target (get_or a.function.source.image.tags.now a.i 0)) (get_or a.function.source.image.words.now a.i 0) c.args.function.expressions.few (legible_here B.legible h)); stacks = rw v.5 (A.under z).stacks_are }

pub returns-in_ok-got-in_default : goal.returns-in_ok-got-in_default
returns-in_ok-got-in_default c = let v = c.view.ensures in record { does = let a = c.args in plain-put a.function.source.image.words.now a.function.source.image.tags.now a.function.source.image.n a.function.count a.function.source.offset (needsE a.function.source.offset a.function.source.image.words.now a.function.source.image.tags.now a.function.source.image.n a.function.places.now a.function.count) (glances a.function.source.offset a.function.source.image.words.now a.function.source.image.tags.now a.function.source.image.n a.function.places.now a.function.count) a.i a.end a.u c.requires.valid_arrays (search rules) (search rules) (search rules) c.in_ok-got-in_default.ensures.does refl (legible_here c.requires.bodied.0.legible c.requires.bodied.1) (rw (v.0, v.1, v.2, v.3, v.5) at c.put_word.ensures); same = c.in_ok-got-in_default.ensures.same }
