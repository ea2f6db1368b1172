use Rattle.derive_state.specs.Sizes.{going}
use Rattle.derive_rings.proofs.Wholes.{unknown_is}
use Rattle.derive_rings.proofs.is_unknown.Goals as goal

pub returns : goal.returns
returns c = unknown_is c.args.source.image.words.now c.args.source.image.n c.args.derived.view.now.log.now c.args.derived.view.now.logtags.now c.args.derived.view.now.starts.now (going c.args.derived.view.now.sizes) c.args.f c.known.result c.known.ensures c.is_none.result c.is_none.ensures
