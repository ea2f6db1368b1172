-- What the results of operations on a session say: the number of what was imported, and the two ends of a span; 0 where the operation is refused.
use Rattle.std.specs.Prelude.{ℕ, Result, Ok, Err}
use Rattle.base_refusals.specs.declared.Refusal.{Refusal}
use Rattle.session_operations.specs.declared.Span.{Span}

-- the number of what was imported
abbrev pub value_in : Result ℕ Refusal → ℕ
value_in (Ok v) = v
value_in (Err e) = 0

-- where a span starts
abbrev pub start_of : Result Span Refusal → ℕ
start_of (Ok s) = s.start
start_of (Err e) = 0

-- where it ends
abbrev pub end_of : Result Span Refusal → ℕ
end_of (Ok s) = s.end
end_of (Err e) = 0
