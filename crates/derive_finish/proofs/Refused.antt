-- No refusal has the number 0.
use mathlib.Core.Path.{◌≡◌}
use native.Mathlib.Omega.{arith}
use Rattle.base_refusals.specs.declared.Refusal.{Refusal}
use Rattle.base_refusals.specs.declared.Refusal.TheVariants.{Ring}
use Rattle.base_refusals.specs.Numbers.{number_of}

pub not_zero : (e : Refusal) → number_of e ≡ 0 → ⊥
not_zero (Ring left) h = omega (arith, h)
not_zero e h = omega (arith, h)
