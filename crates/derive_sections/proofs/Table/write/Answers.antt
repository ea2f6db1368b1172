use lib.ListN.{length}
use mathlib.Core.Path.{ap, ◌∙◌}
use Rattle.derive_sections.proofs.Writes.{table-room, table_done}
use lib.Seq.{length-sets}
use Rattle.derive_sections.proofs.Table.write.Goals as goal

pub write_offsets-requires : goal.write_offsets-requires
write_offsets-requires c = let a = c.args in record { starts_bound = ((table-room a.self.view.now.log.now a.self.view.now.logtags.now a.self.starts.now c.args.self.records a.at c.requires.starts_bound.0).0, c.requires.starts_bound.1) }

pub write_records-requires : goal.write_records-requires
write_records-requires c = let a = c.args in record { starts_bound = ((table-room a.self.view.now.log.now a.self.view.now.logtags.now a.self.starts.now c.args.self.records a.at c.requires.starts_bound.0).1, ap length c.write_offsets.ensures ∙ simp length-sets c.requires.starts_bound.1) }

pub returns : goal.returns
returns c = let a = c.args in table_done a.self.view.now.log.now a.self.view.now.logtags.now a.self.starts.now c.args.self.records a.places.now a.out.now a.at _ c.write_offsets.ensures _ _ c.write_records.ensures
