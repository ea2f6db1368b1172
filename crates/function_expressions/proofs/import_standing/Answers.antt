-- `import_standing` meets its contract: expression e is mapped; or its words are passed one at a turn, a record of a table that is not mapped is imported, and so is a standing operand that is not mapped.
use mathlib.Core.Path.{refl}
use native.Mathlib.Omega.{arith}
use lib.ListN.{get_or}
use Rattle.derive_imports.proofs.Sources.{small_number}
use Rattle.function_references.proofs.Sources.{ground}
use Rattle.function_outside.proofs.Cells.{record_found, own_found, nothing_found}
use Rattle.function_outside.proofs.Records.{lands_mapped, lands_record}
use Rattle.function_expressions.proofs.Needs.{cells_legible, first_in, glance-idle}
use Rattle.function_expressions.proofs.Alongs.{along-begin, along-kept, along_number, along_record, along_absent, along-next, operand_in, operand-idle, operand_done, glance_full, glance_done}
use Rattle.function_expressions.proofs.import_standing.Goals.{in-None, in-Some-Record+then-missing+in_ok-got-in-Some-Record, in-Some-Record+else-missing, in-Some-Own+then-is_unmapped_standing+in_ok-got-in-Some-Own, in-Some-Own+else-is_unmapped_standing}
use Rattle.std.proofs.lemmas.Result.{err_from_is_err_and}
use Rattle.derive_state.proofs.State.{arrays_same, arrays_then}
use Rattle.function_expressions.proofs.import_standing.Goals as goal

pub returns-then-exprmap-e-ne0 : goal.returns-then-exprmap-e-ne0
returns-then-exprmap-e-ne0 c = record { does = let a = c.args in glance-idle c.args.function.expressions a.function.source.image.n a.function.source.offset refl c.requires.valid_arrays c.requires.under c.requires.e_lt_k c.if-exprmap-e-ne0.true; same = arrays_same _ }

pub loop-j-init : goal.loop-j-init
loop-j-init c = (along-begin c.requires.valid_arrays (cells_legible c.args.function.expressions c.requires.e_lt_k c.expression-piece.ensures.1 c.expression-piece.ensures.2) refl c.requires.under, arrays_same _)

pub missing-requires : goal.missing-requires
missing-requires c = λ h. let a = c.args in let l = c.loop-j in let inv = l.invariant.0 in let less = c.loop-j-test.true in let q = record_found (get_or a.function.source.image.tags.now l.j 0) (get_or a.function.source.image.words.now l.j 0) c.in-Some-Record.field-0-is c.in-Some-Record.ensures in small_number a.function.source.image.words.now a.function.source.image.tags.now a.function.source.image.n (ground a.function.source).source _ _ h (along_number c.requires.valid_arrays inv less refl q.1 q.2 q.0 h)

pub import-requires : goal.import-requires
import-requires c = let a = c.args in let l = c.loop-j in let inv = l.invariant.0 in let less = c.loop-j-test.true in let q = record_found (get_or a.function.source.image.tags.now l.j 0) (get_or a.function.source.image.words.now l.j 0) c.in-Some-Record.field-0-is c.in-Some-Record.ensures in record { number_bound = (q.3, rw c.source.ensures.0 (along_number c.requires.valid_arrays inv less refl q.1 q.2 q.0 q.3)); valid_arrays = along-kept c.requires.valid_arrays inv }

pub returns-in_err-got-in-Some-Record : goal.returns-in_err-got-in-Some-Record
returns-in_err-got-in-Some-Record c = let p = err_from_is_err_and c.from_residual.result c.from_residual.ensures.1 in rw (p.1, p.2) (record { does = let a = c.args in let l = c.loop-j in let inv = l.invariant.0 in let less = c.loop-j-test.true in let q = record_found (get_or a.function.source.image.tags.now l.j 0) (get_or a.function.source.image.words.now l.j 0) c.in-Some-Record.field-0-is c.in-Some-Record.ensures in glance_full c.args.function.expressions a.function.source.image.n a.function.source.offset refl c.requires.valid_arrays c.requires.under c.requires.e_lt_k c.if-exprmap-e-ne0.false c.expression-piece.ensures.1 c.expression-piece.ensures.2 inv less (along_record c.requires.valid_arrays inv less refl q.1 q.2 q.0 (lands_record a.function.source.offset _ _ _ _ q.3 refl (rw (c.source.ensures.0, c.source.ensures.1) at c.in_err-got-in-Some-Record.ensures.does))) refl; same = arrays_then c.loop-j.invariant.1 c.in_err-got-in-Some-Record.ensures.same })

pub loop-j-preserved : goal.loop-j-preserved
loop-j-preserved c =
    elim c.match-referent_of.branch [
      | in-None w ↦ rw (w.derived-is, w.exprmap-is, w.stacks-is, w.got-is) (let a = c.args in let l = c.loop-j in let inv = l.invariant.0 in let less = c.loop-j-test.true in along-next c.requires.valid_arrays inv less (along_absent c.requires.valid_arrays inv less refl refl refl (nothing_found (get_or a.function.source.image.tags.now l.j 0) (get_or a.function.source.image.words.now l.j 0) w.in-None.ensures)) refl, c.loop-j.invariant.1)
      | in-Some-Record+then-missing+in_ok-got-in-Some-Record w ↦ rw (w.derived-is, w.exprmap-is, w.stacks-is, w.got-is) (let a = c.args in let l = c.loop-j in let inv = l.invariant.0 in let less = c.loop-j-test.true in let q = record_found (get_or a.function.source.image.tags.now l.j 0) (get_or a.function.source.image.words.now l.j 0) w.in-Some-Record.field-0-is w.in-Some-Record.ensures in along-next c.requires.valid_arrays inv less (along_record c.requires.valid_arrays inv less refl q.1 q.2 q.0 (lands_record a.function.source.offset _ _ _ _ q.3 refl (rw (w.source.ensures.0, w.source.ensures.1) at w.in_ok-got-in-Some-Record.ensures.does))) refl, arrays_then c.loop-j.invariant.1 w.in_ok-got-in-Some-Record.ensures.same)
      | in-Some-Record+else-missing w ↦ rw (w.derived-is, w.exprmap-is, w.stacks-is, w.got-is) (let a = c.args in let l = c.loop-j in let inv = l.invariant.0 in let less = c.loop-j-test.true in let q = record_found (get_or a.function.source.image.tags.now l.j 0) (get_or a.function.source.image.words.now l.j 0) w.in-Some-Record.field-0-is w.in-Some-Record.ensures in along-next c.requires.valid_arrays inv less (along_record c.requires.valid_arrays inv less refl q.1 q.2 q.0 (lands_mapped (ground a.function.source).source a.function.source.offset (along_number c.requires.valid_arrays inv less refl q.1 q.2 q.0) refl (along-kept c.requires.valid_arrays inv) (w.missing.ensures.h_nonzero w.if-missing.false))) refl, c.loop-j.invariant.1)
      | in-Some-Own+then-is_unmapped_standing+in_ok-got-in-Some-Own w ↦ rw (w.derived-is, w.exprmap-is, w.stacks-is, w.got-is) (let a = c.args in let l = c.loop-j in let inv = l.invariant.0 in let less = c.loop-j-test.true in let q = own_found (get_or a.function.source.image.tags.now l.j 0) (get_or a.function.source.image.words.now l.j 0) w.in-Some-Own.field-0-is w.in-Some-Own.ensures in along-next c.requires.valid_arrays inv less (operand_done c.args.function.expressions c.requires.e_lt_k c.requires.valid_arrays inv less refl q.1 q.2 q.0 refl (w.is_unmapped_standing.ensures.e_value w.if-is_unmapped_standing.true).1 w.in_ok-got-in-Some-Own.ensures.does) refl, arrays_then c.loop-j.invariant.1 w.in_ok-got-in-Some-Own.ensures.same)
      | in-Some-Own+else-is_unmapped_standing w ↦ rw (w.derived-is, w.exprmap-is, w.stacks-is, w.got-is) (let a = c.args in let l = c.loop-j in let inv = l.invariant.0 in let less = c.loop-j-test.true in let q = own_found (get_or a.function.source.image.tags.now l.j 0) (get_or a.function.source.image.words.now l.j 0) w.in-Some-Own.field-0-is w.in-Some-Own.ensures in along-next c.requires.valid_arrays inv less (operand-idle c.args.function.expressions c.requires.e_lt_k c.requires.valid_arrays inv less refl q.1 q.2 q.0 refl (w.is_unmapped_standing.ensures.e_value_2 w.if-is_unmapped_standing.false)) inv.going, c.loop-j.invariant.1)
    ]

pub is_unmapped_standing-requires : goal.is_unmapped_standing-requires
is_unmapped_standing-requires c = let a = c.args in let l = c.loop-j in let inv = l.invariant.0 in let less = c.loop-j-test.true in let q = own_found (get_or a.function.source.image.tags.now l.j 0) (get_or a.function.source.image.words.now l.j 0) c.in-Some-Own.field-0-is c.in-Some-Own.ensures in let h = operand_in c.args.function.expressions c.requires.e_lt_k c.requires.valid_arrays inv less refl q.1 q.2 q.0 refl in let few = c.args.function.expressions.few in (omega arith, first_in c.args.function.expressions h)

pub import_operand-requires-clause-e_lt_k : goal.import_operand-requires-clause-e_lt_k
import_operand-requires-clause-e_lt_k c = let a = c.args in let l = c.loop-j in let inv = l.invariant.0 in let less = c.loop-j-test.true in let q = own_found (get_or a.function.source.image.tags.now l.j 0) (get_or a.function.source.image.words.now l.j 0) c.in-Some-Own.field-0-is c.in-Some-Own.ensures in operand_in c.args.function.expressions c.requires.e_lt_k c.requires.valid_arrays inv less refl q.1 q.2 q.0 refl

pub returns-in_err-got-in-Some-Own : goal.returns-in_err-got-in-Some-Own
returns-in_err-got-in-Some-Own c = let p = err_from_is_err_and c.from_residual-in_err-got-in-Some-Own.result c.from_residual-in_err-got-in-Some-Own.ensures.1 in rw (p.1, p.2) (record { does = let a = c.args in let l = c.loop-j in let inv = l.invariant.0 in let less = c.loop-j-test.true in let q = own_found (get_or a.function.source.image.tags.now l.j 0) (get_or a.function.source.image.words.now l.j 0) c.in-Some-Own.field-0-is c.in-Some-Own.ensures in glance_full c.args.function.expressions a.function.source.image.n a.function.source.offset refl c.requires.valid_arrays c.requires.under c.requires.e_lt_k c.if-exprmap-e-ne0.false c.expression-piece.ensures.1 c.expression-piece.ensures.2 inv less (operand_done c.args.function.expressions c.requires.e_lt_k c.requires.valid_arrays inv less refl q.1 q.2 q.0 refl (c.is_unmapped_standing.ensures.e_value c.if-is_unmapped_standing.true).1 c.in_err-got-in-Some-Own.ensures.does) refl; same = arrays_then c.loop-j.invariant.1 c.in_err-got-in-Some-Own.ensures.same })

pub returns : goal.returns
returns c = record { does = let a = c.args in glance_done c.args.function.expressions a.function.source.image.n a.function.source.offset refl c.requires.valid_arrays c.requires.under c.requires.e_lt_k c.if-exprmap-e-ne0.false c.expression-piece.ensures.1 c.expression-piece.ensures.2 c.loop-j.invariant.0 c.loop-j-test.false; same = c.loop-j.invariant.1 }
