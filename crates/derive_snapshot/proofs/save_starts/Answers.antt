use mathlib.Core.Path.{refl}
use Rattle.derive_snapshot.proofs.Saving.{rows_asked, rows_next, rows_done}
use Rattle.derive_snapshot.proofs.save_starts.Goals as goal

pub save_row-requires : goal.save_row-requires
save_row-requires c = rows_asked 8 _ _ _ _ c.loop-t.invariant c.loop-t-test.true _ refl

pub loop-t-preserved : goal.loop-t-preserved
loop-t-preserved c = rows_next 8 _ _ _ _ c.loop-t.invariant c.loop-t-test.true _ refl _ c.save_row.ensures

pub returns : goal.returns
returns c = rows_done 8 _ _ _ _ c.loop-t.invariant c.loop-t-test.false
