use Rattle.derive_rings.proofs.Wholes.{callees-known}
use Rattle.derive_state.proofs.Sources.{named_source_of}
use Rattle.derive_rings.proofs.stuck.Goals as goal

pub gather_requirements-requires : goal.gather_requirements-requires
gather_requirements-requires c = let a = c.args in record { known = callees-known (named_source_of c.args.source); no_calls = c.no_calls-callees.ensures }

pub unknown_in_ring-requires : goal.unknown_in_ring-requires
unknown_in_ring-requires c = record { gathered = c.gather_requirements.ensures }
