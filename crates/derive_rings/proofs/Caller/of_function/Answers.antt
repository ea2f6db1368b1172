use native.Mathlib.Omega.{arith}
use Rattle.derive_rings.proofs.Wholes.{few}
use Rattle.derive_rings.proofs.Asking.{function_scannable}
use Rattle.derive_state.proofs.Sources.{named_source_of}
use Rattle.derive_rings.proofs.Caller.of_function.Goals as goal

pub record-at-requires : goal.record-at-requires
record-at-requires c = let a = c.args in record { k_bound = omega arith; j_bound = c.requires.f_bound }

pub invariant_of-result : goal.invariant_of-result
invariant_of-result c = let a = c.args in record { scannable = function_scannable a.source.image.words.now a.source.image.tags.now a.source.image.n (named_source_of c.args.source) a.f c.requires.f_bound _ _ c.record-at.ensures.0 c.record-at.ensures.1 }
