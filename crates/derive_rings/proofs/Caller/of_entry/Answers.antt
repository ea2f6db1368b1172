use mathlib.Core.Path.{refl}
use Rattle.derive_rings.proofs.Wholes.{few}
use Rattle.derive_rings.proofs.Asking.{scannable}
use Rattle.derive_state.proofs.Sources.{named_source_of}
use Rattle.derive_rings.proofs.Caller.of_entry.Goals as goal

pub invariant_of-result : goal.invariant_of-result
invariant_of-result c = record { scannable = scannable (named_source_of c.args.source) refl c.requires.e_bound c.entry_function.ensures c.record_end.ensures }
