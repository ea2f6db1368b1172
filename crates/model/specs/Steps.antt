-- A session as a list of steps, the form in which it is exported: one call is given all sources, all steps and the output, and keeps nothing.
-- A step is four words: an operation and its numbers a, b, c. Its answer is three: the refusal (0 accepted) and two values, which are 0 where there are none and where the step is refused. A refused step changes nothing, and the next one follows.
-- A part of the sources or of the output is given by its start and length in bytes; one that reaches past the end is cut there, so that a source may become too short (1), and an output (7).
use Rattle.std.specs.Prelude.{Bool, true, false, List, [], ◌∷◌, ◌++◌, ℕ, zero, suc, ◌+◌, ◌*◌, length, get_or, take, drop}
use Rattle.std.proofs.lemmas.List.Edits.{sets}
use Rattle.base_words.specs.Words.{words_of, bytes_of}
use Rattle.model.specs.Refusals.{NUMBER_GIVEN, packed}
use Rattle.model.specs.Session.{Session, Answer, answered, refused, new, set, clear, map_span, import_type, import_const, import_pipeline_override, import_global, import_global_expression, rename_type, import_function, map_function_handle, import_function_if_new, has_required_special_types, finish, finish_with_entry_points}

-- ---- the operations, in the order of their numbers
pub data Operation : Type 0 where
  sets-source clears_source maps_span types renames constants overrides globals expressions functions new_functions handles required finishes finishes_entries unknown : Operation

unfoldable pub operations : List Operation
operations =
    sets-source ∷ clears_source ∷ maps_span
    ∷ types ∷ renames ∷ constants ∷ overrides ∷ globals ∷ expressions
    ∷ functions ∷ new_functions ∷ handles
    ∷ required ∷ finishes ∷ finishes_entries
    ∷ []

-- ---- what a step gives: its answer, what it writes to the output as words, and from which byte on; and the session after it
pub record Said : Type 0 where
  pub refusal : ℕ
  pub first : ℕ
  pub second : ℕ
  pub at : ℕ
  pub written : List ℕ
  pub session : Session

unfoldable pub part : ℕ → ℕ → List ℕ → List ℕ
part start size bytes = take size (drop start bytes)

-- an operation that writes nothing; `values` are those of what it answers
unfoldable pub says : {A : Type 0} → Session → (A → ℕ × ℕ) → Answer A → Said
says s values (answered a s') = record { refusal = 0; first = (values a).0; second = (values a).1; at = 0; written = []; session = s' }
says s values (refused n) = record { refusal = n; first = 0; second = 0; at = 0; written = []; session = s }

-- a finish: the value is the bytes written
unfoldable pub writes : Session → ℕ → Answer (List ℕ) → Said
writes s start (answered ws s') = record { refusal = 0; first = 4 * length ws; second = 0; at = start; written = ws; session = s' }
writes s start (refused n) = record { refusal = n; first = 0; second = 0; at = 0; written = []; session = s }

unfoldable pub bit : Bool → ℕ
bit true = 1
bit false = 0

abbrev one : ℕ → ℕ × ℕ
one n = (n, 0)

-- `output` is given for its length alone
unfoldable pub perform : Operation → ℕ → ℕ → ℕ → List ℕ → List ℕ → Session → Said
perform sets-source a b c sources output s = let image = part a b sources in says s (λ u. (0, 0)) (set (length image) (words_of image) c s)
perform clears_source a b c sources output s = says s one (answered 0 (clear s))
perform maps_span a b c sources output s = says s (λ p. p) (map_span (a, b) s)
perform types a b c sources output s = says s one (import_type a s)
perform renames a b c sources output s = says s one (rename_type a b s)
perform constants a b c sources output s = says s one (import_const a s)
perform overrides a b c sources output s = says s one (import_pipeline_override a s)
perform globals a b c sources output s = says s one (import_global a s)
perform expressions a b c sources output s = says s one (import_global_expression a s)
perform functions a b c sources output s = says s one (import_function a s)
perform new_functions a b c sources output s = says s one (import_function_if_new a s)
perform handles a b c sources output s = says s one (map_function_handle a s)
perform required a b c sources output s = says s one (answered (bit (has_required_special_types s)) s)
perform finishes a b c sources output s = writes s a (finish (length (part a b output)) s)
perform finishes_entries a b c sources output s = writes s a (finish_with_entry_points (length (part a b output)) s)
-- "13: a number given by the caller lies outside its table"
perform unknown a b c sources output s = says s one (refused NUMBER_GIVEN)

-- ---- the steps in sequence; words after the last whole step are not read
unfoldable pub run : List ℕ → List ℕ → List ℕ → Session → List Said
run [] sources output s = []
run (o ∷ []) sources output s = []
run (o ∷ a ∷ []) sources output s = []
run (o ∷ a ∷ b ∷ []) sources output s = []
run (o ∷ a ∷ b ∷ c ∷ steps) sources output s = let x = perform (get_or operations o unknown) a b c sources output s in x ∷ run steps sources output x.session

-- ---- what the caller's memory holds afterwards
-- three words for each step
unfoldable pub answers_of : List Said → List ℕ
answers_of [] = []
answers_of (x ∷ xs) = x.refusal ∷ x.first ∷ x.second ∷ answers_of xs

unfoldable pub output_of : List Said → List ℕ → List ℕ
output_of [] output = output
output_of (x ∷ xs) output = output_of xs (sets output x.at (bytes_of x.written))

-- 0 if every step was accepted; else the refusal of the first refused step in the low half, and that step's number in the high half
unfoldable pub first_refused : List Said → ℕ → ℕ
first_refused [] i = 0
first_refused (x ∷ xs) i = elim x.refusal [ zero ↦ first_refused xs (suc i) | suc n ↦ packed (suc n) i ]

pub record Ran : Type 0 where
  pub result : ℕ
  pub answers : List ℕ
  pub output : List ℕ

-- THE SESSION of these sources and steps, in memory that held `answers` and `output`: answers are written as far as there is room
unfoldable pub session : List ℕ → List ℕ → List ℕ → List ℕ → Ran
session sources steps answers output =
    let xs = run steps sources output new in
    record { result = first_refused xs 0; answers = sets answers 0 (answers_of xs); output = output_of xs output }
