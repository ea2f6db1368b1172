-- `second_pass` meets its contract: one expression of the range at a turn.
use native.Mathlib.Omega.{arith}
use Rattle.derive_lookup.proofs.Bears.{bearing}
use Rattle.function_passes.proofs.Appending.{refused, appending, append_done, append_skip, append_full, append-more}
use Rattle.function_passes.proofs.second_pass.Goals.{then-exprmap-y-eq0+in_ok-e, else-exprmap-y-eq0}
use Rattle.std.proofs.lemmas.Result.{err_from_is_err_and}
use mathlib.Core.Path.{refl}
use Rattle.function_passes.proofs.second_pass.Goals as goal

pub loop-y-init : goal.loop-y-init
loop-y-init c = appending c.requires.under refl c.requires.drawn

pub offset_bounds-exprmap-y : goal.offset_bounds-exprmap-y
offset_bounds-exprmap-y c = let f = c.args.function.expressions.few in let l = c.requires.b_le_k in let h = c.loop-y-test.true in omega arith

pub bounds-exprmap-y : goal.bounds-exprmap-y
bounds-exprmap-y c = let f = c.args.function.expressions.few in let l = c.requires.b_le_k in let h = c.loop-y-test.true in omega arith

pub invariant_of-append : goal.invariant_of-append
invariant_of-append c = let q = c.requires.by_index in let R = c.loop-y.invariant.ranging q.0 q.1 in let l = c.requires.b_le_k in let h = c.loop-y-test.true in record { bearing = bearing (R.makes.kept R.going) }

pub append-requires : goal.append-requires
append-requires c = let q = c.requires.by_index in let R = c.loop-y.invariant.ranging q.0 q.1 in let l = c.requires.b_le_k in let h = c.loop-y-test.true in record { e_lt_k = omega arith; under = R.makes.under R.going }

pub returns-in_err-e : goal.returns-in_err-e
returns-in_err-e c = let p = err_from_is_err_and c.from_residual.result c.from_residual.ensures.1 in refused c.from_residual.result p.0 p.1 (append_full c.loop-y.invariant c.args.function.expressions c.requires.b_le_k c.loop-y-test.true c.if-exprmap-y-eq0.true c.in_err-e.ensures refl)

pub loop-y-preserved : goal.loop-y-preserved
loop-y-preserved c =
    elim c.if-exprmap-y-eq0.branch [
      | then-exprmap-y-eq0+in_ok-e w ↦ rw (w.exprmap-is, w.stacks-is, w.e-is) (append-more c.loop-y.invariant c.args.function.expressions c.requires.b_le_k c.loop-y-test.true w.if-exprmap-y-eq0.true w.in_ok-e.ensures c.requires.by_index refl)
      | else-exprmap-y-eq0 w ↦ rw (w.exprmap-is, w.stacks-is, w.e-is) (append_skip c.loop-y.invariant c.args.function.expressions c.requires.b_le_k c.loop-y-test.true w.if-exprmap-y-eq0.false)
    ]

pub returns : goal.returns
returns c = append_done c.loop-y.invariant c.loop-y-test.false
