-- The first refusal as a number: a step that was refused has one that is not 0, so that the next step does not take its place.
use Rattle.std.specs.Prelude.{◌≡◌, ℕ, zero, suc, ◌<◌, ◌+◌, ◌*◌, ◌%◌, Result, Ok, Err}
use Rattle.std.proofs.Common.{arith, refl}
use Rattle.base_refusals.specs.Numbers.{number_of}
use Rattle.base_refusals.specs.declared.Refusal.{Refusal}
use Rattle.base_refusals.specs.declared.Refusal.TheVariants.{Ring}
use Rattle.session.specs.Sessions.{or_else, numbered}
use Rattle.session_steps.specs.Stepped.{shown}

-- a refusal's number is small, and not 0
number_low : (e : Refusal) → (0 < number_of e) × (number_of e < 4294967296)
number_low (Ring left) = (omega arith, omega arith)
number_low e = (omega arith, omega arith)

pub said_low : (r : Result (ℕ × ℕ) Refusal) → (shown r).refusal < 4294967296
said_low (Ok values) = omega arith
said_low (Err e) = (number_low e).1

-- one that was refused stays the first
pub stays_first : (e : Refusal) (j y : ℕ) → or_else (numbered (number_of e) j) y ≡ numbered (number_of e) j
unfolding numbered or_else
stays_first e j y = go (number_of e) (number_low e).0
  where
    go : (k : ℕ) → 0 < k → or_else (numbered k j) y ≡ numbered k j
    go zero h = absurd (omega arith)
    go (suc k) h = there (suc k + (j % 4294967296) * 4294967296) (omega arith)
      where
        there : (x : ℕ) → 0 < x → or_else x y ≡ x
        there zero h = absurd (omega arith)
        there (suc x) h = refl
