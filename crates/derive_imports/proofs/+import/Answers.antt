-- `derive_imports::import` meets its contract: it passes the record's words as `Turn` says, and then interns the record.
use Rattle.std.proofs.Common.{arith, refl}
use Rattle.std.proofs.lemmas.Result.{err_from_is_err_and}
use Rattle.derive_state.proofs.Sources.{source_of}
use Rattle.derive_state.proofs.State.{arrays_same, arrays_then}
use Rattle.derive_imports.proofs.Sources.{small_number, stretch, refs_small, plain_name}
use Rattle.derive_imports.proofs.Turns.{turn-known, turn-first}
use Rattle.derive_imports.proofs.Importing.{word_in, past, number_in, lower, fails, goes_on, ends}
use Rattle.derive_imports.proofs.+import.Goals.{in-Some+in_ok-e, in_default}
use Rattle.derive_imports.proofs.+import.Goals as goal

pub bounds-derived-k : goal.bounds-derived-k
bounds-derived-k t c = small_number _ _ _ (source_of c.args.source) c.args.r.table c.args.r.number c.requires.number_bound.0 c.requires.number_bound.1

pub returns-then-derived-r-ne0 : goal.returns-then-derived-r-ne0
returns-then-derived-r-ne0 t c = let q = c.requires.number_bound in record { does = turn-known _ _ _ (source_of c.args.source) _ _ _ q.0 q.1 _ _ _ _ _ _ refl c.requires.valid_arrays c.if-derived-r-ne0.true; same = arrays_same _ }

pub record-at-requires : goal.record-at-requires
record-at-requires t c = let q = c.requires.number_bound in record { k_bound = omega (arith, q.0); j_bound = q.1 }

pub loop-j-init : goal.loop-j-init
loop-j-init t c = let q = c.requires.number_bound in (turn-first _ _ _ (source_of c.args.source) _ _ _ q.0 q.1 _ _ _ _ _ _ refl c.requires.valid_arrays c.if-derived-r-ne0.false _ _ c.record-at.ensures.0 c.record-at.ensures.1, arrays_same _)

pub bounds-source-j : goal.bounds-source-j
bounds-source-j t c = word_in (source_of c.args.source) (c.requires.number_bound.0, c.requires.number_bound.1, refl) c.requires.valid_arrays c.if-derived-r-ne0.false c.record-at.ensures.0 c.record-at.ensures.1 c.loop-j.invariant.0 c.loop-j-test.true

pub bounds-source-j-in-loop-j : goal.bounds-source-j-in-loop-j
bounds-source-j-in-loop-j t c = word_in (source_of c.args.source) (c.requires.number_bound.0, c.requires.number_bound.1, refl) c.requires.valid_arrays c.if-derived-r-ne0.false c.record-at.ensures.0 c.record-at.ensures.1 c.loop-j.invariant.0 c.loop-j-test.true

pub offset_bounds-source-j : goal.offset_bounds-source-j
offset_bounds-source-j t c = omega (arith, word_in (source_of c.args.source) (c.requires.number_bound.0, c.requires.number_bound.1, refl) c.requires.valid_arrays c.if-derived-r-ne0.false c.record-at.ensures.0 c.record-at.ensures.1 c.loop-j.invariant.0 c.loop-j-test.true)

pub import-requires : goal.import-requires
import-requires t c =
    let R = c.requires in let S = source_of c.args.source in
    let q = c.in-Some.ensures in
    let inv = c.loop-j.invariant.0 in
    let inside = number_in S (R.number_bound.0, R.number_bound.1, refl) R.valid_arrays c.if-derived-r-ne0.false c.record-at.ensures.0 c.record-at.ensures.1 inv c.loop-j-test.true q.0 q.2 q.1 in
    let falls = lower S (R.number_bound.0, R.number_bound.1, refl) R.valid_arrays c.if-derived-r-ne0.false c.record-at.ensures.0 c.record-at.ensures.1 inv c.loop-j-test.true q.0 q.2 q.1 in
    (rw (← c.decreases) falls, ((q.2, inside), inv.kept))

pub returns-in_err-e : goal.returns-in_err-e
returns-in_err-e t c =
    let q = c.in-Some.ensures in
    let p = err_from_is_err_and c.from_residual.result c.from_residual.ensures.1 in
    rw (p.1, p.2) (record { does = fails (source_of c.args.source) (c.requires.number_bound.0, c.requires.number_bound.1, refl) c.requires.valid_arrays c.if-derived-r-ne0.false c.record-at.ensures.0 c.record-at.ensures.1 c.loop-j.invariant.0 c.loop-j-test.true q.0 q.2 q.1 c.in_err-e.ensures.does refl; same = arrays_then c.loop-j.invariant.1 c.in_err-e.ensures.same })

pub loop-j-preserved : goal.loop-j-preserved
loop-j-preserved t c =
    elim c.match-refers_to.branch [
      | in-Some+in_ok-e w ↦ rw (w.derived-is, w.e-is) (let q = w.in-Some.ensures in (goes_on (source_of c.args.source) (c.requires.number_bound.0, c.requires.number_bound.1, refl) c.requires.valid_arrays c.if-derived-r-ne0.false c.record-at.ensures.0 c.record-at.ensures.1 c.loop-j.invariant.0 c.loop-j-test.true q.0 q.2 q.1 w.in_ok-e.ensures.does refl), arrays_then c.loop-j.invariant.1 w.in_ok-e.ensures.same)
      | in_default w ↦ rw (w.derived-is, w.e-is) ((past (source_of c.args.source) (c.requires.number_bound.0, c.requires.number_bound.1, refl) c.requires.valid_arrays c.if-derived-r-ne0.false c.record-at.ensures.0 c.record-at.ensures.1 c.loop-j.invariant.0 c.loop-j-test.true refl w.in_default.ensures), c.loop-j.invariant.1)
    ]

pub invariant_of-record-clause-stretch : goal.invariant_of-record-clause-stretch
invariant_of-record-clause-stretch t c = let q = c.requires.number_bound in rw (c.cells.ensures.0, c.cells.ensures.1) (stretch _ _ _ (source_of c.args.source) c.args.r.table c.args.r.number q.0 q.1 _ _ c.record-at.ensures.0 c.record-at.ensures.1)

pub invariant_of-record-clause-small : goal.invariant_of-record-clause-small
invariant_of-record-clause-small t c = let q = c.requires.number_bound in rw (c.cells.ensures.0, c.cells.ensures.1) (refs_small _ _ _ (source_of c.args.source) c.args.r.table c.args.r.number q.0 q.1 _ _ c.record-at.ensures.0 c.record-at.ensures.1)

pub intern-requires-clause-number_bound : goal.intern-requires-clause-number_bound
intern-requires-clause-number_bound t c = let q = c.requires.number_bound in rw c.cells.ensures.0 ((q.0, q.1, small_number _ _ _ (source_of c.args.source) c.args.r.table c.args.r.number q.0 q.1))

pub intern-requires-clause-nameless : goal.intern-requires-clause-nameless
intern-requires-clause-nameless t c = let q = c.requires.number_bound in rw (c.cells.ensures.0, c.cells.ensures.1) (plain_name _ _ _ (source_of c.args.source) c.args.r.table c.args.r.number q.0 q.1 _ _ c.record-at.ensures.0 c.record-at.ensures.1)

pub returns : goal.returns
returns t c = record { does = ends (source_of c.args.source) (c.requires.number_bound.0, c.requires.number_bound.1, refl) c.requires.valid_arrays c.if-derived-r-ne0.false c.record-at.ensures.0 c.record-at.ensures.1 c.loop-j.invariant.0 c.loop-j-test.false (rw (c.cells.ensures.0, c.cells.ensures.1) at c.intern.ensures.does); same = arrays_then c.loop-j.invariant.1 c.intern.ensures.same }
