use lib.ListN.{length, take}
use Rattle.model.specs.Link.{append_all}
use Rattle.derive_state.specs.Source.{mod_of}
use Rattle.derive_state.specs.Held.{st_of}
use Rattle.link_words.proofs.Appending.{Turn}
use Rattle.derive_state.specs.Sizes.{going}
use Rattle.derive_state.specs.Held.{SameArrays}
use Rattle.link_words.proofs.append_all.Given as goal

abbrev pub invariant-loop-f : goal.invariant-loop-f
invariant-loop-f l = (Turn l.image.words.now l.image.tags.now l.image.n l.order (length l.order) (append_all (take (length l.order) l.order) 0 (mod_of l.image.words.now l.image.n) (st_of l.image.words.now l.initial.derived.log.now l.initial.derived.logtags.now l.initial.derived.starts.now l.initial.derived.maps.now l.special (going l.initial.e))) l.f-index l.derived.log.now l.derived.logtags.now l.derived.starts.now l.derived.maps.now l.derived.buckets.now l.special l.stacks (going l.e)) × SameArrays l.initial.derived l.derived
