use native.Mathlib.Omega.{arith}
use Rattle.derive_sections.proofs.Notes.{rows_few, noting_t_begin, noting_t_starts, noting_t_next, noting_t_done}
use borrow.Author.Rules.{rules}
use Rattle.derive_sections.proofs.appearing.Goals as goal

pub loop-t-init : goal.loop-t-init
loop-t-init g c = noting_t_begin _ _ _ _ _ c.requires.1 c.requires.0

pub starts_of-requires : goal.starts_of-requires
starts_of-requires g c = (c.loop-t-test.true, rows_few c.requires.1 c.loop-t.t c.loop-t-test.true)

pub note_table-requires : goal.note_table-requires
note_table-requires g c = (noting_t_starts _ _ _ _ _ c.requires.1 _ _ _ _ c.loop-t.invariant c.loop-t-test.true _ c.starts_of.ensures, c.loop-t.invariant.noted)

pub loop-t-preserved : goal.loop-t-preserved
loop-t-preserved g c = noting_t_next _ _ _ _ _ c.requires.1 _ _ _ _ c.loop-t.invariant c.loop-t-test.true _ c.starts_of.ensures _ _ _ c.note_table.ensures

pub returns : goal.returns
returns g c = search (noting_t_done, rules)
