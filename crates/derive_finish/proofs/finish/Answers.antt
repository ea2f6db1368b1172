use Rattle.derive_finish.proofs.Sizes.{derived, ended}
use Rattle.derive_state.specs.Sizes.{going}
use Rattle.derive_finish.proofs.finish.Goals as goal

pub finish-requires : goal.finish-requires
finish-requires c = let d = c.args.derived.now in let k = c.requires.held in record { valid_tables = derived d.log.now d.logtags.now d.starts.now k.maps k.buckets (going d.sizes) k.kept; pairs_bound = (k.kept.few_pairs, c.requires.special_len.0, c.requires.special_len.1) }

pub returns : goal.returns
returns c = let a = c.args in let d = a.derived.now in let k = c.requires.held in ended d.log.now d.logtags.now d.starts.now k.maps k.buckets (going d.sizes) k.kept a.special.now c.requires.special_len.0 c.finish.ensures
