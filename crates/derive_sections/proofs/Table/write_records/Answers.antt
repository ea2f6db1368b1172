use mathlib.Core.Path.{refl}
use Rattle.derive_sections.proofs.Writes.{start-rec, joining_begin, joining_room, joining_next, joining_done}
use borrow.Author.Rules.{rules}
use Rattle.derive_sections.proofs.Table.write_records.Goals as goal

pub loop-s-init : goal.loop-s-init
loop-s-init c = search (joining_begin, rules)

pub write_record-p-requires : goal.write_record-p-requires
write_record-p-requires c = let a = c.args in let l = c.loop-s in let h = c.loop-s-test.true in record { rec = start-rec a.self.view.now.log.now a.self.view.now.logtags.now a.self.starts.now c.args.self.records l.s-index _ h refl; s_bound = (joining_room a.self.view.now.log.now a.self.view.now.logtags.now a.self.starts.now c.args.self.records a.places.now a.out.now a.at c.requires.starts_bound.0 l.out l.s-index l.p l.invariant h _ refl, l.invariant.long) }

pub loop-s-preserved : goal.loop-s-preserved
loop-s-preserved c = let a = c.args in let l = c.loop-s in let h = c.loop-s-test.true in joining_next a.self.view.now.log.now a.self.view.now.logtags.now a.self.starts.now c.args.self.records a.places.now a.out.now a.at c.requires.starts_bound.0 l.out l.s-index l.p l.invariant h _ refl _ _ c.write_record-p.ensures

pub returns : goal.returns
returns c = let a = c.args in let l = c.loop-s in joining_done a.self.view.now.log.now a.self.view.now.logtags.now a.self.starts.now c.args.self.records a.places.now a.out.now a.at c.requires.starts_bound.0 l.out l.s-index l.p l.invariant c.loop-s-test.false
