use native.Mathlib.Omega.{arith}
use Rattle.derive_lookup.proofs.find_name_from.Goals as goal

pub overflow_sub-result : goal.overflow_sub-result
overflow_sub-result c = let w = c.is_mapped_name.ensures c.if-is_mapped_name.true in omega (arith, w)

pub returns-then-is_mapped_name : goal.returns-then-is_mapped_name
returns-then-is_mapped_name c = let w = c.is_mapped_name.ensures c.if-is_mapped_name.true in (w.first, omega (arith, w))
