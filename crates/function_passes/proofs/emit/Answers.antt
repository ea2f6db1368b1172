-- `emit` meets its contract: the first pass, the number of expressions made, the second pass.
use native.Mathlib.Omega.{arith}
use Rattle.derive_state.specs.Source.{mod_of}
use Rattle.function_words.specs.Runs.{needs as needsE, glances}
use Rattle.function_words.proofs.Running.{made_small}
use Rattle.function_passes.proofs.Drawn.{drawn_first}
use Rattle.function_passes.proofs.Ranges.{needs_grow, emit_stop, emit_put, emit_over, emit_done}
use Rattle.std.proofs.lemmas.Result.{err_from_is_err_and}
use mathlib.Core.Path.{refl}
use Rattle.function_passes.proofs.emit.Goals as goal

pub returns-in_err-got : goal.returns-in_err-got
returns-in_err-got c = let p = err_from_is_err_and c.from_residual.result c.from_residual.ensures.1 in rw (p.1, p.2) (record { does = let a = c.args in emit_stop a.function.source.offset (mod_of a.function.source.image.words.now a.function.source.image.n) (needsE a.function.source.offset a.function.source.image.words.now a.function.source.image.tags.now a.function.source.image.n a.function.places.now a.function.count) (glances a.function.source.offset a.function.source.image.words.now a.function.source.image.tags.now a.function.source.image.n a.function.places.now a.function.count) a.a a.b c.requires.valid_arrays c.in_err-got.ensures.does refl (needs_grow a.function.source.offset a.function.source.image.words.now a.function.source.image.tags.now a.function.source.image.n a.function.places.now a.function.count); same = c.in_err-got.ensures.same })

pub overflow_cast-from : goal.overflow_cast-from
overflow_cast-from c = let z = made_small (c.in_ok-got.ensures.does.under refl) in omega arith

pub push-requires : goal.push-requires
push-requires c = (c.in_ok-got.ensures.does.under refl).stacks_are

pub returns-in_err-put : goal.returns-in_err-put
returns-in_err-put c = let p = err_from_is_err_and c.from_residual-in_err-put.result c.from_residual-in_err-put.ensures.1 in rw (p.1, p.2) (record { does = let a = c.args in emit_over a.function.source.offset (mod_of a.function.source.image.words.now a.function.source.image.n) (needsE a.function.source.offset a.function.source.image.words.now a.function.source.image.tags.now a.function.source.image.n a.function.places.now a.function.count) (glances a.function.source.offset a.function.source.image.words.now a.function.source.image.tags.now a.function.source.image.n a.function.places.now a.function.count) a.a a.b c.requires.valid_arrays c.in_ok-got.ensures.does refl c.in_err-put.ensures refl (needs_grow a.function.source.offset a.function.source.image.words.now a.function.source.image.tags.now a.function.source.image.n a.function.places.now a.function.count); same = c.in_ok-got.ensures.same })

pub second_pass-requires : goal.second_pass-requires
second_pass-requires c = let v = c.view.ensures in let a = c.args in let z = refl in let R = emit_put a.function.source.offset (mod_of a.function.source.image.words.now a.function.source.image.n) (needsE a.function.source.offset a.function.source.image.words.now a.function.source.image.tags.now a.function.source.image.n a.function.places.now a.function.count) (glances a.function.source.offset a.function.source.image.words.now a.function.source.image.tags.now a.function.source.image.n a.function.places.now a.function.count) a.a a.b c.requires.valid_arrays c.in_ok-got.ensures.does refl c.in_ok-put.ensures in let D = drawn_first c.args.function.expressions a.function.source.image.n a.function.source.offset c.requires.valid_arrays c.requires.under refl c.requires.b_le_k c.in_ok-got.ensures.does in record { b_le_k = c.requires.b_le_k; by_index = (c.first_pass.new.derived.buckets.now, rw (v.0, v.1, v.2, v.3, v.5) (R.kept z)); under = rw v.5 (R.under z); drawn = rw v.3 D }

pub returns : goal.returns
returns c = let v = c.view.ensures in record { does = let a = c.args in let z = refl in let R = emit_put a.function.source.offset (mod_of a.function.source.image.words.now a.function.source.image.n) (needsE a.function.source.offset a.function.source.image.words.now a.function.source.image.tags.now a.function.source.image.n a.function.places.now a.function.count) (glances a.function.source.offset a.function.source.image.words.now a.function.source.image.tags.now a.function.source.image.n a.function.places.now a.function.count) a.a a.b c.requires.valid_arrays c.in_ok-got.ensures.does refl c.in_ok-put.ensures in emit_done a.function.source.offset (mod_of a.function.source.image.words.now a.function.source.image.n) (needsE a.function.source.offset a.function.source.image.words.now a.function.source.image.tags.now a.function.source.image.n a.function.places.now a.function.count) (glances a.function.source.offset a.function.source.image.words.now a.function.source.image.tags.now a.function.source.image.n a.function.places.now a.function.count) a.a a.b c.requires.valid_arrays c.in_ok-got.ensures.does refl c.in_ok-put.ensures z ((rw (v.0, v.1, v.2, v.3, v.5) at c.second_pass.ensures).lays _ (R.kept z)); same = c.in_ok-got.ensures.same }
