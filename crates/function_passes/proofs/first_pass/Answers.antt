-- `first_pass` meets its contract: one expression of the range at a turn.
use native.Mathlib.Omega.{arith}
use Rattle.function_passes.proofs.Ranges.{range_begin, range_more, range_full, range_done, glances_grow}
use Rattle.std.proofs.lemmas.Result.{err_from_is_err_and}
use Rattle.derive_state.proofs.State.{arrays_same, arrays_then}
use mathlib.Core.Path.{refl}
use Rattle.function_passes.proofs.first_pass.Goals as goal

pub loop-y-init : goal.loop-y-init
loop-y-init c = (range_begin c.requires.valid_arrays c.requires.under refl, arrays_same _)

pub import_standing-requires : goal.import_standing-requires
import_standing-requires c = let inv = c.loop-y.invariant.0 in let l = c.requires.b_le_k in let h = c.loop-y-test.true in record { e_lt_k = omega arith; valid_arrays = inv.makes.kept inv.going; under = inv.makes.under inv.going }

pub returns-in_err-e : goal.returns-in_err-e
returns-in_err-e c = let p = err_from_is_err_and c.from_residual.result c.from_residual.ensures.1 in rw (p.1, p.2) (record { does = let a = c.args in range_full c.requires.valid_arrays c.loop-y.invariant.0 c.loop-y-test.true c.in_err-e.ensures.does refl (glances_grow a.function.source.offset a.function.source.image.words.now a.function.source.image.tags.now a.function.source.image.n a.function.places.now a.function.count); same = arrays_then c.loop-y.invariant.1 c.in_err-e.ensures.same })

pub loop-y-preserved : goal.loop-y-preserved
loop-y-preserved c = (range_more c.requires.valid_arrays c.loop-y.invariant.0 c.loop-y-test.true c.in_ok-e.ensures.does refl, arrays_then c.loop-y.invariant.1 c.in_ok-e.ensures.same)

pub returns : goal.returns
returns c = record { does = range_done c.requires.valid_arrays c.loop-y.invariant.0 c.loop-y-test.false; same = c.loop-y.invariant.1 }
