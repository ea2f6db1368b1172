use Rattle.derive_rings.proofs.Wholes.{entries_not, rings-any}
use Rattle.derive_state.specs.Sizes.{going}
use Rattle.derive_state.proofs.Sources.{named_source_of}
use Rattle.derive_rings.proofs.entries_ring.Goals as goal

pub returns-then-entries_lead : goal.returns-then-entries_lead
returns-then-entries_lead c = let a = c.args in rings-any a.source.image.words.now a.source.image.n a.derived.view.now.log.now a.derived.view.now.logtags.now a.derived.view.now.starts.now (going a.derived.view.now.sizes) a.source.image.tags.now (named_source_of c.args.source) _ c.stuck.ensures _ _ c.entries_call.ensures

pub returns-else-entries_lead : goal.returns-else-entries_lead
returns-else-entries_lead c = let a = c.args in rw c.if-entries_lead.false (entries_not a.source.image.words.now a.source.image.n a.derived.view.now.log.now a.derived.view.now.logtags.now a.derived.view.now.starts.now (going a.derived.view.now.sizes) a.source.image.tags.now (named_source_of c.args.source) _ _ c.entries_lead.ensures c.if-entries_lead.false)
