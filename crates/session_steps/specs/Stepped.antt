-- What a step of a session answers and leaves, as the model has it (`perform`).
use Rattle.std.specs.Prelude.{◌≡◌, List, ℕ, zero, suc, get_or, Result, Ok, Err}
use Rattle.std.proofs.lemmas.List.Edits.{sets}
use Rattle.base_words.specs.Words.{bytes_of}
use Rattle.base_refusals.specs.Numbers.{number_of}
use Rattle.base_refusals.specs.declared.Refusal.{Refusal}
use Rattle.model.specs.Session.{Session}
use Rattle.session_operations.specs.declared.Session.{Session as Session'}
use Rattle.session_operations.specs.Sessions.{Valid, SameMemory, meant}
use Rattle.model.specs.Steps.{Said, operations, unknown, perform}

-- what step o of the numbers a, b, c answers
abbrev pub saying : ℕ → ℕ → ℕ → ℕ → List ℕ → List ℕ → Session → Said
saying o = perform (get_or operations o unknown)

-- what a step answers, the three words that C reads: the refusal's number, 0 for none, and two values
pub record Answered : Type 0 where
  pub refusal : ℕ
  pub first : ℕ
  pub second : ℕ

-- its three words, the output after it, and the session that the arrays then hold
pub record PerformEnsures (x : Said) (refusal first second : ℕ) (output₀ output : List ℕ) (behind : Session) : Type 0 where
  pub refusal_is : refusal ≡ x.refusal
  pub first_is : first ≡ x.first
  pub second_is : second ≡ x.second
  pub output_is : output ≡ sets output₀ x.at (bytes_of x.written)
  pub session_is : behind ≡ x.session

-- the same of a session in the caller's arrays
pub record Performs (x : Said) (s : Session') (answered : Answered) (output₀ output : List ℕ) (s' : Session') : Type 0 where
  pub does : PerformEnsures x answered.refusal answered.first answered.second output₀ output (meant s')
  pub valid : Valid s'
  pub same : SameMemory s s'

-- a step's two values, or its refusal, as three words
abbrev pub shown : Result (ℕ × ℕ) Refusal → Answered
shown (Ok values) = record { refusal = 0; first = values.0; second = values.1 }
shown (Err refusal) = record { refusal = number_of refusal; first = 0; second = 0 }

-- a step that writes nothing
pub record Quiet (o a b c : ℕ) (sources : List ℕ) (before : Session) (answered : Answered) (behind : Session) : Type 0 where
  pub is : (output : List ℕ) → PerformEnsures (saying o a b c sources output before) answered.refusal answered.first answered.second output output behind

-- a step that reads no source
pub record Wrote (o a b c : ℕ) (before : Session) (answered : Answered) (output₀ output : List ℕ) (behind : Session) : Type 0 where
  pub is : (sources : List ℕ) → PerformEnsures (saying o a b c sources output₀ before) answered.refusal answered.first answered.second output₀ output behind

-- a step that does neither
pub record Recorded (o a b c : ℕ) (before : Session) (refusal value : ℕ) (behind : Session) : Type 0 where
  pub is : (sources output : List ℕ) → PerformEnsures (saying o a b c sources output before) refusal value 0 output output behind

-- a value, 0 where the step is refused
unfoldable pub value_of : ℕ → ℕ → ℕ
value_of zero v = v
value_of (suc k) v = 0
