-- The first refusal of a session as one number. What a whole session answers and leaves is the model's `wuldgisp_session`, what a step does `Stepped` of session_steps.
use Rattle.std.specs.Prelude.{ℕ, zero, suc, ◌%◌, Result, Ok, Err}
use Rattle.model.specs.Refusals.{packed}
use Rattle.base_refusals.specs.Numbers.{number_of}
use Rattle.session.specs.declared.RefusedStep.{RefusedStep}

-- the first of two that is not 0
unfoldable pub or_else : ℕ → ℕ → ℕ
or_else zero y = y
or_else (suc x) y = suc x

-- a refusal in the low half, and the step's number in the high half
unfoldable pub numbered : ℕ → ℕ → ℕ
numbered zero i = 0
numbered (suc k) i = packed (suc k) (i % 4294967296)

-- the first step that was refused, 0 if none was
abbrev pub as_number : Result (Unit {0}) RefusedStep → ℕ
as_number (Ok u) = 0
as_number (Err r) = numbered (number_of r.refusal) r.step
