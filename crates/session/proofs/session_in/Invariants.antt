use Prim.Native.Nat.{◌/◌}
use lib.ListN.{length}
use Rattle.derive_state.specs.Sizes.{going}
use Rattle.session_operations.specs.Sessions.{is_set, n_in, offset_in}
use Rattle.session.specs.Sessions.{as_number}
use Rattle.session.proofs.Going.{Going}
use Rattle.session.proofs.session_in.Given as goal

abbrev pub invariant-loop-j : goal.invariant-loop-j
invariant-loop-j l = Going l.sources l.steps l.initial.answers l.initial.output (length l.steps / 4) l.answers l.output l.session.words.now l.session.tags.now l.session.derived.log.now l.session.derived.logtags.now l.session.derived.starts.now l.session.derived.maps.now l.session.derived.buckets.now l.session.special.now l.session.stacks.now (going l.session.sizes) (is_set l.session.source) (n_in l.session.source) (offset_in l.session.source) (as_number l.first) l.j
