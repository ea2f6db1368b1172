use lib.ListN.{get_or}
use Rattle.derive_snapshot.specs.Snapshot.{Prefixes}
use Rattle.derive_snapshot.proofs.save_starts.Given as goal

abbrev pub invariant-loop-t : goal.invariant-loop-t
invariant-loop-t l = Prefixes 8 l.t (λ t. get_or l.ends.counts t 0) l.starts l.s
