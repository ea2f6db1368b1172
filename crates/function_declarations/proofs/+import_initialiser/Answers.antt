-- `import_initialiser` meets its contract: the cycle of calls {import_initialiser}. Expression e is mapped; or its words are passed one at a turn, a record of a table imported and an operand, whose number is lower, taken by `import_initialiser` itself; and then it is merged. The measure is the expression's number.
use mathlib.Core.Path.{refl}
use native.Mathlib.Omega.{arith}
use lib.ListN.{get_or}
use Rattle.function_outside.proofs.Cells.{record_found, own_found, nothing_found}
use Rattle.derive_lookup.proofs.Bears.{bearing}
use Rattle.function_expressions.proofs.Needs.{cells_legible, unique_idle}
use Rattle.function_expressions.proofs.Alongs.{along-begin, along-kept, along_under, along_number, along_record, along-lower, along_own, along_absent, along-next, unique_full, unique_done}
use Rattle.function_declarations.proofs.+import_initialiser.Goals.{in-None, in-Some-Record+in_ok-got-in-Some-Record, in-Some-Own+in_ok-got-in-Some-Own}
use Rattle.std.proofs.lemmas.Result.{err_from_is_err_and}
use Rattle.derive_state.proofs.State.{arrays_same, arrays_then}
use Rattle.function_declarations.proofs.+import_initialiser.Goals as goal

pub returns-then-exprmap-e-ne0 : goal.returns-then-exprmap-e-ne0
returns-then-exprmap-e-ne0 t c = record { does = let a = c.args in unique_idle c.args.function.expressions a.function.source.image.n a.function.source.offset refl c.requires.valid_arrays c.requires.under c.requires.e_lt_k c.if-exprmap-e-ne0.true; same = arrays_same _ }

pub loop-j-init : goal.loop-j-init
loop-j-init t c = (along-begin c.requires.valid_arrays (cells_legible c.args.function.expressions c.requires.e_lt_k c.expression-piece.ensures.1 c.expression-piece.ensures.2) refl c.requires.under, arrays_same _)

pub import_record-requires-clause-r_bound : goal.import_record-requires-clause-r_bound
import_record-requires-clause-r_bound t c = let a = c.args in let l = c.loop-j in let inv = l.invariant.0 in let less = c.loop-j-test.true in let q = record_found (get_or a.function.source.image.tags.now l.j 0) (get_or a.function.source.image.words.now l.j 0) c.in-Some-Record.field-0-is c.in-Some-Record.ensures in along_number c.requires.valid_arrays inv less refl q.1 q.2 q.0

pub returns-in_err-got-in-Some-Record : goal.returns-in_err-got-in-Some-Record
returns-in_err-got-in-Some-Record t c = let p = err_from_is_err_and c.from_residual.result c.from_residual.ensures.1 in rw (p.1, p.2) (record { does = let a = c.args in let l = c.loop-j in let inv = l.invariant.0 in let less = c.loop-j-test.true in let q = record_found (get_or a.function.source.image.tags.now l.j 0) (get_or a.function.source.image.words.now l.j 0) c.in-Some-Record.field-0-is c.in-Some-Record.ensures in unique_full c.args.function.expressions a.function.source.image.n a.function.source.offset refl c.requires.valid_arrays c.requires.under c.requires.e_lt_k c.if-exprmap-e-ne0.false c.expression-piece.ensures.1 c.expression-piece.ensures.2 inv less (along_record c.requires.valid_arrays inv less refl q.1 q.2 q.0 c.in_err-got-in-Some-Record.ensures.does) refl; same = arrays_then c.loop-j.invariant.1 c.in_err-got-in-Some-Record.ensures.same })

pub loop-j-preserved : goal.loop-j-preserved
loop-j-preserved t c =
    elim c.match-referent_of.branch [
      | in-None w ↦ rw (w.derived-is, w.exprmap-is, w.stacks-is, w.got-is) (let a = c.args in let l = c.loop-j in let inv = l.invariant.0 in let less = c.loop-j-test.true in along-next c.requires.valid_arrays inv less (along_absent c.requires.valid_arrays inv less refl refl refl (nothing_found (get_or a.function.source.image.tags.now l.j 0) (get_or a.function.source.image.words.now l.j 0) w.in-None.ensures)) refl, c.loop-j.invariant.1)
      | in-Some-Record+in_ok-got-in-Some-Record w ↦ rw (w.derived-is, w.exprmap-is, w.stacks-is, w.got-is) (let a = c.args in let l = c.loop-j in let inv = l.invariant.0 in let less = c.loop-j-test.true in let q = record_found (get_or a.function.source.image.tags.now l.j 0) (get_or a.function.source.image.words.now l.j 0) w.in-Some-Record.field-0-is w.in-Some-Record.ensures in along-next c.requires.valid_arrays inv less (along_record c.requires.valid_arrays inv less refl q.1 q.2 q.0 w.in_ok-got-in-Some-Record.ensures.does) refl, arrays_then c.loop-j.invariant.1 w.in_ok-got-in-Some-Record.ensures.same)
      | in-Some-Own+in_ok-got-in-Some-Own w ↦ rw (w.derived-is, w.exprmap-is, w.stacks-is, w.got-is) (let a = c.args in let l = c.loop-j in let inv = l.invariant.0 in let less = c.loop-j-test.true in let q = own_found (get_or a.function.source.image.tags.now l.j 0) (get_or a.function.source.image.words.now l.j 0) w.in-Some-Own.field-0-is w.in-Some-Own.ensures in along-next c.requires.valid_arrays inv less (along_own c.requires.valid_arrays inv less refl q.1 q.2 q.0 refl w.in_ok-got-in-Some-Own.ensures.does) refl, arrays_then c.loop-j.invariant.1 w.in_ok-got-in-Some-Own.ensures.same)
    ]

pub import_initialiser-requires : goal.import_initialiser-requires
import_initialiser-requires t c = let a = c.args in let l = c.loop-j in let inv = l.invariant.0 in let less = c.loop-j-test.true in let q = own_found (get_or a.function.source.image.tags.now l.j 0) (get_or a.function.source.image.words.now l.j 0) c.in-Some-Own.field-0-is c.in-Some-Own.ensures in let h = c.requires.e_lt_k in let z = along-lower c.requires.valid_arrays inv less refl q.1 q.2 q.0 refl in (omega arith, (omega arith, (along-kept c.requires.valid_arrays inv, along_under c.requires.valid_arrays inv)))

pub returns-in_err-got-in-Some-Own : goal.returns-in_err-got-in-Some-Own
returns-in_err-got-in-Some-Own t c = let p = err_from_is_err_and c.from_residual-in_err-got-in-Some-Own.result c.from_residual-in_err-got-in-Some-Own.ensures.1 in rw (p.1, p.2) (record { does = let a = c.args in let l = c.loop-j in let inv = l.invariant.0 in let less = c.loop-j-test.true in let q = own_found (get_or a.function.source.image.tags.now l.j 0) (get_or a.function.source.image.words.now l.j 0) c.in-Some-Own.field-0-is c.in-Some-Own.ensures in unique_full c.args.function.expressions a.function.source.image.n a.function.source.offset refl c.requires.valid_arrays c.requires.under c.requires.e_lt_k c.if-exprmap-e-ne0.false c.expression-piece.ensures.1 c.expression-piece.ensures.2 inv less (along_own c.requires.valid_arrays inv less refl q.1 q.2 q.0 refl c.in_err-got-in-Some-Own.ensures.does) refl; same = arrays_then c.loop-j.invariant.1 c.in_err-got-in-Some-Own.ensures.same })

pub invariant_of-merge : goal.invariant_of-merge
invariant_of-merge t c = let inv = c.loop-j.invariant.0 in let K = along-kept c.requires.valid_arrays inv in let v = c.view.ensures in record { bearing = rw (v.0, v.1, v.2, v.5) (bearing K) }

pub merge-requires : goal.merge-requires
merge-requires t c = let inv = c.loop-j.invariant.0 in let K = along-kept c.requires.valid_arrays inv in let v = c.view.ensures in record { e_lt_k = c.requires.e_lt_k; under = rw v.5 (along_under c.requires.valid_arrays inv) }

pub returns : goal.returns
returns t c = let v = c.view.ensures in record { does = let a = c.args in unique_done c.args.function.expressions a.function.source.image.n a.function.source.offset refl c.requires.valid_arrays c.requires.under c.requires.e_lt_k c.if-exprmap-e-ne0.false c.expression-piece.ensures.1 c.expression-piece.ensures.2 c.loop-j.invariant.0 c.loop-j-test.false (rw (v.0, v.1, v.2, v.3, v.5) at c.merge.ensures); same = c.loop-j.invariant.1 }
