-- `import_operand` meets its contract: expression e is mapped; or what it refers to outside the function comes, and is full, or the expression is appended after it.
use mathlib.Core.Path.{refl}
use Rattle.derive_lookup.proofs.Bears.{bearing}
use Rattle.function_expressions.proofs.Needs.{need-idle, brought, need_full, need_done}
use Rattle.std.proofs.lemmas.Result.{err_from_is_err_and}
use Rattle.derive_state.proofs.State.{arrays_same}
use Rattle.function_expressions.proofs.import_operand.Goals as goal

pub returns-then-exprmap-e-ne0 : goal.returns-then-exprmap-e-ne0
returns-then-exprmap-e-ne0 c = record { does = let a = c.args in need-idle c.args.function.expressions a.function.source.image.n a.function.source.offset refl c.requires.valid_arrays c.requires.under c.requires.e_lt_k c.if-exprmap-e-ne0.true; same = arrays_same _ }

pub import_outside-requires : goal.import_outside-requires
import_outside-requires c = record { valid_arrays = c.requires.valid_arrays }

pub returns-in_err-got : goal.returns-in_err-got
returns-in_err-got c = let p = err_from_is_err_and c.from_residual.result c.from_residual.ensures.1 in rw (p.1, p.2) (record { does = let a = c.args in need_full c.args.function.expressions a.function.source.image.n a.function.source.offset refl c.requires.valid_arrays c.requires.under c.requires.e_lt_k c.if-exprmap-e-ne0.false c.expression.ensures.1 c.expression.ensures.2 (rw c.expression.ensures.0 at c.in_err-got.ensures.does) refl; same = c.in_err-got.ensures.same })

pub invariant_of-append : goal.invariant_of-append
invariant_of-append c = let a = c.args in let q = refl in let A = brought c.args.function.expressions a.function.source.image.n a.function.source.offset refl c.requires.valid_arrays c.requires.under c.requires.e_lt_k c.if-exprmap-e-ne0.false c.expression.ensures.1 c.expression.ensures.2 (rw c.expression.ensures.0 at c.in_ok-got.ensures.does) in let v = c.view.ensures in record { bearing = rw (v.0, v.1, v.2, v.5) (bearing (A.kept q)) }

pub append-requires : goal.append-requires
append-requires c = let a = c.args in let q = refl in let A = brought c.args.function.expressions a.function.source.image.n a.function.source.offset refl c.requires.valid_arrays c.requires.under c.requires.e_lt_k c.if-exprmap-e-ne0.false c.expression.ensures.1 c.expression.ensures.2 (rw c.expression.ensures.0 at c.in_ok-got.ensures.does) in let v = c.view.ensures in record { e_lt_k = c.requires.e_lt_k; under = rw v.5 (A.under q) }

pub returns : goal.returns
returns c = let v = c.view.ensures in record { does = let a = c.args in need_done c.args.function.expressions a.function.source.image.n a.function.source.offset refl c.requires.valid_arrays c.requires.under c.requires.e_lt_k c.if-exprmap-e-ne0.false c.expression.ensures.1 c.expression.ensures.2 (rw c.expression.ensures.0 at c.in_ok-got.ensures.does) refl (rw (v.0, v.1, v.2, v.3, v.5) at c.append.ensures); same = c.in_ok-got.ensures.same }
