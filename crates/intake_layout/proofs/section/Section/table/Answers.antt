-- `intake_layout::section::Section::table` meets its contract.
use Rattle.std.proofs.Common.{rules}
use Rattle.intake_fields.proofs.Walk.{exit}
use Rattle.intake_layout.proofs.Extents.{section-room, section-records, section_err}
use Rattle.intake_layout.proofs.section.Section.table.Goals as goal

pub records-requires-clause-n_bound : goal.records-requires-clause-n_bound
records-requires-clause-n_bound c = section-room c.args.self.extent.words.now c.args.tags.now c.args.self.base c.args.self.extent.end c.args.count c.args.pc c.args.self.extent.inside c.args.self.rising _ _ c.fill.ensures _ c.in_ok-fill.was

pub returns-in_err-fill : goal.returns-in_err-fill
returns-in_err-fill c = let w = c.in_err-fill.was in rw (exit _ c.in_err-fill.field-0.0 c.from_residual.ensures.1) (search (section_err, rules))

pub returns : goal.returns
returns c = section-records c.args.self.extent.words.now c.args.tags.now c.args.self.base c.args.self.extent.end c.args.count c.args.pc c.args.self.extent.inside c.args.self.rising _ _ c.fill.ensures _ c.in_ok-fill.was _ _ c.records.ensures
