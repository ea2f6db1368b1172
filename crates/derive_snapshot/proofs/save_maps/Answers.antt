use Rattle.derive_snapshot.proofs.Saving.{rows_asked, rows_next, rows_done}
use Rattle.derive_snapshot.proofs.save_maps.Goals as goal

pub save_row-requires : goal.save_row-requires
save_row-requires c = rows_asked 6 _ _ _ _ c.loop-t.invariant c.loop-t-test.true _ c.count.ensures.0

pub loop-t-preserved : goal.loop-t-preserved
loop-t-preserved c = rows_next 6 _ _ _ _ c.loop-t.invariant c.loop-t-test.true _ c.count.ensures.0 _ c.save_row.ensures

pub returns : goal.returns
returns c = rows_done 6 _ _ _ _ c.loop-t.invariant c.loop-t-test.false
