-- `copy_mapped_run` meets its contract: at each turn one word more is written, until one imports something or there is no room.
use mathlib.Core.Bool.{not}
use mathlib.Core.Path.{◌≡◌, refl, ap}
use Prim.Native.Nat.{◌+◌, ◌-◌}
use native.Mathlib.Omega.{arith}
use borrow.Author.Tests.{not-false}
use Rattle.function_runs.proofs.Quiets.{onto_done, onto_all, onto_fits, onto_next, numbers_low}
use Rattle.function_runs.proofs.copy_mapped_run.Goals as goal

pub is_mapped_word-requires : goal.is_mapped_word-requires
is_mapped_word-requires c = record { w_bound = numbers_low c.args.cells.words.now _ _ (onto_fits c.loop-i.invariant.0 c.loop-i-test.true) }

pub returns-then-p-eq-ROW_LEN : goal.returns-then-p-eq-ROW_LEN
returns-then-p-eq-ROW_LEN c = rw (c.pass.ensures, c.loop-i.invariant.1) (record { ran = onto_done c.loop-i.invariant.0; sizes = refl })

pub carry-requires-clause-by_index : goal.carry-requires-clause-by_index
carry-requires-clause-by_index c = (c.args.cells.words.now, onto_fits c.loop-i.invariant.0 c.loop-i-test.true)

pub loop-i-preserved : goal.loop-i-preserved
loop-i-preserved c =
    let a = c.args in
    let l = c.loop-i in
    let low = l.invariant.0.room in
    let full = c.if-p-eq-ROW_LEN.false in
    let reach = l.invariant.0.reach in
    let next : a.reach.now.sizes.bodytop + (l.i + 1 - a.reach.now.at) ≡ (a.reach.now.sizes.bodytop + (l.i - a.reach.now.at)) + 1 = omega arith in
    (rw next (onto_next l.invariant.0 c.loop-i-test.true (omega arith) (c.is_mapped_word.ensures (not-false _ (ap not c.if-not-is_mapped_word.false))) c.span_undefined-u.ensures c.carry.ensures), l.invariant.1)

pub returns : goal.returns
returns c = rw (c.pass-2.ensures, c.loop-i.invariant.1) (record { ran = onto_all c.loop-i.invariant.0 c.loop-i-test.false; sizes = refl })
