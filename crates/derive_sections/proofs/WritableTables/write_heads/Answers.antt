use Rattle.derive_sections.proofs.Tables.{heading_begin, heading_next, heading_done}
use borrow.Author.Rules.{rules}
use Rattle.derive_sections.proofs.WritableTables.write_heads.Goals as goal

pub loop-t-init : goal.loop-t-init
loop-t-init c = search (heading_begin, rules)

pub table_size-p-requires : goal.table_size-p-requires
table_size-p-requires c = record { t_bound = c.loop-t-test.true }

pub loop-t-preserved : goal.loop-t-preserved
loop-t-preserved c = let a = c.args in let l = c.loop-t in let h = c.loop-t-test.true in heading_next a.self.view.now.log.now a.self.view.now.logtags.now a.self.view.now.starts.now a.self.view.now.sizes.counts c.args.self.rows a.pairs a.out.now l.out l.t l.p l.invariant h _ c.table_size-p.ensures

pub returns : goal.returns
returns c = search (heading_done, rules)
