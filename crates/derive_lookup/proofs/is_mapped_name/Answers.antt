use mathlib.Core.Path.{refl}
use Rattle.model.specs.Between.{between}
use lib.ListN.{get_or}
use Rattle.derive_state.specs.Held.{row}
use Rattle.derive_lookup.proofs.Firsts.{went-first}
use Rattle.derive_lookup.proofs.is_mapped_name.Goals as goal

pub returns-then-m-n : goal.returns-then-m-n
returns-then-m-n c = let a = c.args in went-first a.derived.view.now.log.now a.derived.view.now.logtags.now (row a.derived.view.now.starts.now 0) (get_or a.derived.view.now.sizes.counts 0 0) c.args.derived.bearing.names a.m c.if-m-n.true.0 c.if-m-n.true.1 (between a.name.cells.tags.now a.name.cells.words.now a.name.at a.name.end) _ refl _ c.equals_name.ensures
