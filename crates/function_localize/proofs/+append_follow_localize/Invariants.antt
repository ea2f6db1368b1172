-- The cycle of calls: localize follows a callee with the same room, follow appends it with less, append localizes with the same.
use Prim.Native.Nat.{◌+◌, ◌*◌, ◌-◌}
use Rattle.function_localize.proofs.Locals.{Onward}
use Rattle.derive_state.specs.Sizes.{going}
use Rattle.derive_state.specs.Held.{SameArrays}
use Rattle.function_localize.proofs.+append_follow_localize.Given as goal

abbrev pub decreases-append : goal.decreases-append
decreases-append l = 3 * l.room + 2

abbrev pub decreases-follow : goal.decreases-follow
decreases-follow l = 3 * l.room

abbrev pub decreases-localize : goal.decreases-localize
decreases-localize l = 3 * l.room + 1

abbrev pub invariant-localize-loop-j : goal.invariant-localize-loop-j
invariant-localize-loop-j l = (Onward l.source.image.words.now l.source.image.tags.now l.source.image.n l.source.offset l.room l.s l.end l.parts.exprs l.initial.places l.parts.count l.parts.named l.initial.r.at l.e1 l.initial.derived.log.now l.initial.derived.logtags.now l.initial.derived.starts.now l.initial.derived.maps.now l.initial.derived.buckets.now l.initial.exprmap l.initial.stacks (going l.initial.r.sizes) l.initial.r.at l.initial.r.undefined l.places l.derived.log.now l.derived.logtags.now l.derived.starts.now l.derived.maps.now l.derived.buckets.now l.exprmap l.stacks (going l.r.sizes) l.r.at l.r.undefined) × SameArrays l.initial.derived l.derived

abbrev pub decreases-localize-loop-j : goal.decreases-localize-loop-j
decreases-localize-loop-j l = l.end - l.r.at
