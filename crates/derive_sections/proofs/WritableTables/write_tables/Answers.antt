use Rattle.derive_sections.proofs.Notes.{rows_few}
use Rattle.derive_sections.proofs.Tables.{rows_starts, tabling_begin, tabling_room, tabling_next, tabling_done}
use borrow.Author.Rules.{rules}
use Rattle.derive_sections.proofs.WritableTables.write_tables.Goals as goal

pub loop-t-init : goal.loop-t-init
loop-t-init c = search (tabling_begin, rules)

pub table-requires : goal.table-requires
table-requires c = c.loop-t-test.true

pub write-p-requires : goal.write-p-requires
write-p-requires c = let a = c.args in let l = c.loop-t in let h = c.loop-t-test.true in rw c.table.ensures.0 (record { starts_bound = (tabling_room a.self.view.now.log.now a.self.view.now.logtags.now a.self.view.now.starts.now a.self.view.now.sizes.counts c.args.self.rows a.places.now a.out.now a.at c.requires.sizes_bound.0 l.out l.t l.p l.invariant h _ c.table.ensures.1, l.invariant.long) })

pub loop-t-preserved : goal.loop-t-preserved
loop-t-preserved c = let a = c.args in let l = c.loop-t in let h = c.loop-t-test.true in tabling_next a.self.view.now.log.now a.self.view.now.logtags.now a.self.view.now.starts.now a.self.view.now.sizes.counts c.args.self.rows a.places.now a.out.now a.at c.requires.sizes_bound.0 l.out l.t l.p l.invariant h _ c.table.ensures.1 _ _ (rw c.table.ensures.0 at c.write-p.ensures)

pub returns : goal.returns
returns c = let a = c.args in let l = c.loop-t in tabling_done a.self.view.now.log.now a.self.view.now.logtags.now a.self.view.now.starts.now a.self.view.now.sizes.counts c.args.self.rows a.places.now a.out.now a.at c.requires.sizes_bound.0 l.out l.t l.p l.invariant c.loop-t-test.false
