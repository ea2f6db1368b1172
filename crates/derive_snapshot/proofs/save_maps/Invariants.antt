use Rattle.model.specs.Module.{count_at}
use Rattle.derive_snapshot.specs.Snapshot.{Prefixes}
use Rattle.derive_snapshot.proofs.save_maps.Given as goal

abbrev pub invariant-loop-t : goal.invariant-loop-t
invariant-loop-t l = Prefixes 6 l.t (λ t. count_at t l.words) l.maps l.m
