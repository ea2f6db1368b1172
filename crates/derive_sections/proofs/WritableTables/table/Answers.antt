use Rattle.derive_sections.proofs.Notes.{rows_few}
use Rattle.derive_sections.proofs.Tables.{rows_starts}
use Rattle.derive_sections.proofs.WritableTables.table.Goals as goal

pub starts_of-requires : goal.starts_of-requires
starts_of-requires c = (c.requires, rows_few c.args.self.rows c.args.t c.requires)

pub invariant_of-result : goal.invariant_of-result
invariant_of-result c = let d = c.args.self.view.now in record { records = rows_starts d.log.now d.logtags.now d.starts.now d.sizes.counts c.args.self.rows c.args.t c.requires _ c.starts_of.ensures }
