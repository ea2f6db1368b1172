-- The model's number of each refusal, and a result of the code as the model's answer.
use Rattle.std.specs.Prelude.{ℕ, Result, Ok, Err}
use Rattle.model.specs.Refusals.{BAD_SIZE, BAD_LAYOUT, BAD_RANGE, BAD_REFERENCE, BAD_NAMES, BAD_SCOPE, SHORT_OUTPUT, ORIGINAL_NOT_FOUND, REPLACEMENT_NOT_FOUND, ARGUMENT_TYPES, RESULT_TYPES, RING, NUMBER_GIVEN, NO_SOURCE, FULL, UNKNOWN_RING, Ended, done, refused, ringed}
use Rattle.base_refusals.specs.declared.Refusal.{Refusal}
use Rattle.base_refusals.specs.declared.Refusal.TheVariants as refusal

-- the number that stands for a refusal
abbrev pub number_of : Refusal → ℕ
number_of refusal.BadSize = BAD_SIZE
number_of refusal.BadLayout = BAD_LAYOUT
number_of refusal.BadRange = BAD_RANGE
number_of refusal.BadReference = BAD_REFERENCE
number_of refusal.BadNames = BAD_NAMES
number_of refusal.BadScope = BAD_SCOPE
number_of refusal.ShortOutput = SHORT_OUTPUT
number_of refusal.OriginalNotFound = ORIGINAL_NOT_FOUND
number_of refusal.ReplacementNotFound = REPLACEMENT_NOT_FOUND
number_of refusal.ArgumentTypes = ARGUMENT_TYPES
number_of refusal.ResultTypes = RESULT_TYPES
number_of (refusal.Ring left) = RING
number_of refusal.NumberGiven = NUMBER_GIVEN
number_of refusal.NoSource = NO_SOURCE
number_of refusal.Full = FULL
number_of refusal.UnknownRing = UNKNOWN_RING

-- the count that a ring has
abbrev pub count_of : Refusal → ℕ
count_of (refusal.Ring left) = left
count_of e = 0

-- "A refusal returns its number alone (12 adds its count)"
abbrev pub refused_by : {A : Type 0} → Refusal → Ended A
refused_by (refusal.Ring left) = ringed left
refused_by e = refused (number_of e)

-- how what gives a result ended: with its value, or with the refusal
abbrev pub ended : {A : Type 0} → Result A Refusal → Ended A
ended (Ok a) = done a
ended (Err e) = refused_by e
