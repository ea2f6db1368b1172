-- The refusals by name, and how an operation on an image ends. Document 01, "Turned back by input", "Turned back by state". 0 is no refusal.
use Rattle.std.specs.Prelude.{List, [], ◌∷◌, ℕ, ◌+◌, ◌*◌}

-- ---- of an image: "1: size, edition or total .. 2: layout, padding or limit. 3: a number or code out of range, or a kind barred from its place. 4: a reference not lower as above. 5: .. unnamed; .. equal. 6: any rule of the Scope paragraph"
abbrev pub BAD_SIZE : ℕ
BAD_SIZE = 1

abbrev pub BAD_LAYOUT : ℕ
BAD_LAYOUT = 2

abbrev pub BAD_RANGE : ℕ
BAD_RANGE = 3

abbrev pub BAD_REFERENCE : ℕ
BAD_REFERENCE = 4

abbrev pub BAD_NAMES : ℕ
BAD_NAMES = 5

abbrev pub BAD_SCOPE : ℕ
BAD_SCOPE = 6

-- ---- of what the caller gives beside it: "7: output shorter than the image (link) or than the derived image (finish)", "8: original not found. 9: replacement not found. 10: argument types. 11: result types", "12: a ring", "13: a number given by the caller lies outside its table"
abbrev pub SHORT_OUTPUT : ℕ
SHORT_OUTPUT = 7

abbrev pub ORIGINAL_NOT_FOUND : ℕ
ORIGINAL_NOT_FOUND = 8

abbrev pub REPLACEMENT_NOT_FOUND : ℕ
REPLACEMENT_NOT_FOUND = 9

abbrev pub ARGUMENT_TYPES : ℕ
ARGUMENT_TYPES = 10

abbrev pub RESULT_TYPES : ℕ
RESULT_TYPES = 11

abbrev pub RING : ℕ
RING = 12

abbrev pub NUMBER_GIVEN : ℕ
NUMBER_GIVEN = 13

-- ---- of the state of a session: "20: no source set", "21: the derived image would pass 65,536 bytes or a table its limit", "22: an import would follow calls, through functions whose names are unknown, back to one of those"
abbrev pub NO_SOURCE : ℕ
NO_SOURCE = 20

abbrev pub FULL : ℕ
FULL = 21

abbrev pub UNKNOWN_RING : ℕ
UNKNOWN_RING = 22

-- all of them, in the order in which the code names them
abbrev pub refusals : List ℕ
refusals =
    BAD_SIZE ∷ BAD_LAYOUT ∷ BAD_RANGE ∷ BAD_REFERENCE ∷ BAD_NAMES ∷ BAD_SCOPE
    ∷ SHORT_OUTPUT ∷ ORIGINAL_NOT_FOUND ∷ REPLACEMENT_NOT_FOUND ∷ ARGUMENT_TYPES ∷ RESULT_TYPES ∷ RING ∷ NUMBER_GIVEN
    ∷ NO_SOURCE ∷ FULL ∷ UNKNOWN_RING
    ∷ []

-- ---- an answer as one number: the refusal in the low half, 0 for none, and a value in the high half
abbrev pub packed : ℕ → ℕ → ℕ
packed refusal value = refusal + value * 4294967296

-- how an operation ends: with a value, or refused. "A refusal returns its number alone (12 adds its count)"
pub data Ended (A : Type 0) : Type 0 where
  done : A → Ended A
  refused : ℕ → Ended A
  -- 12, and from how many functions a chain of calls reaches a ring
  ringed : ℕ → Ended A

-- its answer as one number; `value` is what the high half says of a value
unfoldable pub answer_by : {A : Type 0} → (A → ℕ) → Ended A → ℕ
answer_by value (done a) = packed 0 (value a)
answer_by value (refused k) = k
answer_by value (ringed k) = packed RING k
