-- Intake's answers: the number of each, and what words and tags hold where an image is accepted.
use Rattle.std.specs.Prelude.{◌≡◌, true, List, ℕ, length, Result, Ok, Err}
use Rattle.base_words.specs.Words.{words_of}
use Rattle.model.specs.Outcome.{laid}
use Rattle.model.specs.Module.{Module, read, sized}
use Rattle.model.specs.Taped.{Taped}
use Rattle.model.specs.Intake.{tested, intake_of, Passes}
use Rattle.base_refusals.specs.declared.Refusal.{Refusal}
use Rattle.base_refusals.specs.Numbers.{number_of as refusal_number}

-- 0 is accepted
abbrev pub number_of : Result ℕ Refusal → ℕ
number_of (Ok n) = 0
number_of (Err e) = refusal_number e

-- the answer of tests 3 to 6
pub record Tested (r : Result (Unit {0}) Refusal) (words tags : List ℕ) (n : ℕ) : Type 0 where
  pub passed : r ≡ Ok tt → (m : Module) → Taped words tags n m → 0 ≡ tested m
  pub failed : (e : Refusal) → r ≡ Err e → (m : Module) → Taped words tags n m → refusal_number e ≡ tested m

-- an accepted image, held by words and tags
pub record Accepts (bytes words tags : List ℕ) (n : ℕ) : Type 0 where
  pub holds : Module
  pub sized_right : sized (length bytes) (words_of bytes) ≡ true
  pub reads : read (words_of bytes) ≡ laid holds
  pub long : n ≡ length (words_of bytes)
  pub taped : Taped words tags n holds
  pub passes : Passes holds

-- intake's promise
pub record TakeInEnsures (r : Result ℕ Refusal) (words tags bytes : List ℕ) : Type 0 where
  pub same : number_of r ≡ intake_of (length bytes) (words_of bytes)
  pub held : (n : ℕ) → r ≡ Ok n → Accepts bytes words tags n
