use native.Mathlib.Omega.{arith}
use Rattle.derive_rings.proofs.Wholes.{few_at, all_asks, led_below, waiting_asks, stuck_is}
use Rattle.derive_state.specs.Sizes.{going}
use Rattle.derive_state.proofs.Sources.{named_source_of}
use Rattle.derive_rings.proofs.unknown_in_ring.Goals as goal

pub first-all-requires : goal.first-all-requires
first-all-requires c = few_at (named_source_of c.args.source) c.count-functions.ensures.0

pub left-led-requires : goal.left-led-requires
left-led-requires c = all_asks c.args.source.image.words.now c.args.source.image.n c.args.derived.view.now.log.now c.args.derived.view.now.logtags.now c.args.derived.view.now.starts.now (going c.args.derived.view.now.sizes) c.args.source.image.tags.now (named_source_of c.args.source) _ c.requires.gathered _ c.count-functions.ensures.0 _ c.first-all.ensures

pub unknown-waiting-requires : goal.unknown-waiting-requires
unknown-waiting-requires c = record { began_len = led_below c.args.source.image.words.now c.args.source.image.n c.args.derived.view.now.log.now c.args.derived.view.now.logtags.now c.args.derived.view.now.starts.now (going c.args.derived.view.now.sizes) c.args.source.image.tags.now (named_source_of c.args.source) _ c.requires.gathered _ c.count-functions.ensures.0 _ c.first-all.ensures _ c.left-led.ensures }

pub left-requires : goal.left-requires
left-requires c = waiting_asks c.args.source.image.words.now c.args.source.image.n c.args.derived.view.now.log.now c.args.derived.view.now.logtags.now c.args.derived.view.now.starts.now (going c.args.derived.view.now.sizes) c.args.source.image.tags.now (named_source_of c.args.source) _ c.requires.gathered _ c.count-functions.ensures.0 _ c.first-all.ensures _ c.left-led.ensures _ c.unknown-waiting.ensures

pub returns : goal.returns
returns c = stuck_is c.args.source.image.words.now c.args.source.image.n c.args.derived.view.now.log.now c.args.derived.view.now.logtags.now c.args.derived.view.now.starts.now (going c.args.derived.view.now.sizes) c.args.source.image.tags.now (named_source_of c.args.source) _ c.requires.gathered _ c.count-functions.ensures.0 _ c.first-all.ensures _ c.left-led.ensures _ c.unknown-waiting.ensures _ c.left.ensures

pub shared_ref_as_front-callees : goal.shared_ref_as_front-callees
shared_ref_as_front-callees c = let k = few_at (named_source_of c.args.source) c.count-functions.ensures.0 in let l = c.requires.gathered.long in omega (arith, k, l)
