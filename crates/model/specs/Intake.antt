-- Intake: the six tests in sequence, and the number of the first that fails. Document 01, "Turned back by input": "Each is tested over the whole image before the next."
use Rattle.std.specs.Prelude.{◌≡◌, true, false, List, ℕ, zero, suc}
use Rattle.model.specs.Refusals.{BAD_SIZE, BAD_LAYOUT, BAD_RANGE, BAD_REFERENCE, BAD_NAMES, BAD_SCOPE}
use Rattle.model.specs.Outcome.{Laid, laid, bad, strange}
use Rattle.model.specs.Module.{Module, read, sized}
use Rattle.model.specs.Numbers.{numbered}
use Rattle.model.specs.Lower.{lower}
use Rattle.model.specs.Names.{named}
use Rattle.model.specs.Scope.{in_scope}

-- 3 to 6, of a module; 0 is none of them
unfoldable pub tested : Module → ℕ
tested m = elim (numbered m) [ true ↦ elim (lower m) [ true ↦ elim (named m) [ true ↦ elim (in_scope m) [ true ↦ 0 | false ↦ BAD_SCOPE ] | false ↦ BAD_NAMES ] | false ↦ BAD_REFERENCE ] | false ↦ BAD_RANGE ]

-- 2, or the 3 of a kind or a code that is none of the listed, or what the module says
unfoldable pub verdict : Laid Module → ℕ
verdict (laid m) = tested m
verdict bad = BAD_LAYOUT
verdict strange = BAD_RANGE

-- intake's answer for an image of `bytes` bytes that hold the words ws
unfoldable pub intake_of : ℕ → List ℕ → ℕ
intake_of bytes ws = elim (sized bytes ws) [ true ↦ verdict (read ws) | false ↦ BAD_SIZE ]

-- ---- what comes after intake: its refusal, or f of the module that the words hold
-- words that hold no module are refused by intake
unfoldable pub of_laid : {A : Type 0} → (Module → A) → (ℕ → A) → Laid Module → A
of_laid f refuse (laid m) = f m
of_laid f refuse bad = refuse BAD_LAYOUT
of_laid f refuse strange = refuse BAD_RANGE

unfoldable pub after_intake : {A : Type 0} → (Module → A) → (ℕ → A) → List ℕ → ℕ → A
after_intake f refuse ws n = elim n [ zero ↦ of_laid f refuse (read ws) | suc k ↦ refuse (suc k) ]

-- of an image of `bytes` bytes that hold the words ws
unfoldable pub on_words : {A : Type 0} → (Module → A) → (ℕ → A) → ℕ → List ℕ → A
on_words f refuse bytes ws = after_intake f refuse ws (intake_of bytes ws)

-- a module that passes
pub record Passes (m : Module) : Type 0 where
  pub numbers : numbered m ≡ true
  pub lowers : lower m ≡ true
  pub names : named m ≡ true
  pub scope : in_scope m ≡ true
