-- Redirecting: calls of one function, found by its name, become calls of another, in the module itself. redirect_function of redirect.rs; refusals 13, 8, 9, 10 and 11.
-- Document 01, "Functions and entry points": "redirect_function changes, in the image itself, Call and CallResult numbers everywhere but in the replacement and omitted functions; entry points always change. Argument and result types are compared by type number, arguments up to the shorter list. Original, replacement, omitted functions .. are given as name numbers."
use Rattle.std.specs.Prelude.{Bool, true, false, ◌&&◌, ◌||◌, List, [], ◌∷◌, map, ℕ, zero, suc, eqb, ltb, length, get_or}
use Rattle.std.proofs.Math.Option.{Option, none, some}
use Rattle.model.specs.Refusals.{NUMBER_GIVEN, ORIGINAL_NOT_FOUND, REPLACEMENT_NOT_FOUND, ARGUMENT_TYPES, RESULT_TYPES}
use Rattle.model.specs.Outcome.{word}
use Rattle.model.specs.Table.{FUNCTION, CALLEE}
use Rattle.model.specs.Tree.{Function, Entry, end}
use Rattle.model.specs.Module.{Module}
use Rattle.model.specs.Carry.{carry_function, carry_entry}

-- ---- names
-- the first word of a function, its optional name: 0 for none, else the number plus 1
unfoldable pub name_word : Function → ℕ
name_word f = word (get_or f.head 0 (0, 0))

-- the function with a name, the first of those from number j on
unfoldable pub find : List Function → ℕ → ℕ → Option ℕ
find [] j name = none
find (f ∷ fs) j name = elim (eqb (name_word f) (suc name)) [ true ↦ some j | false ↦ find fs (suc j) name ]

-- whether a name is one of the omitted ones
unfoldable pub omitted : List ℕ → ℕ → Bool
omitted [] w = false
omitted (o ∷ os) w = eqb w (suc o) || omitted os w

-- ---- 13: "a number given by the caller lies outside its table", the table of names
unfoldable pub all_below : List ℕ → ℕ → Bool
all_below [] n = true
all_below (x ∷ xs) n = ltb x n && all_below xs n

-- ---- 10: "argument types", "arguments up to the shorter list"
-- an argument is a name, a type and a binding
unfoldable pub argument_types : Function → List ℕ
argument_types f = map (λ a. word (get_or a 1 (0, 0))) f.arguments

unfoldable pub agree : List ℕ → List ℕ → Bool
agree [] ys = true
agree (x ∷ xs) [] = true
agree (x ∷ xs) (y ∷ ys) = eqb x y && agree xs ys

-- ---- 11: "result types"
-- 0 for none; or 1, a type and a binding
unfoldable pub type_behind : ℕ → ℕ → Option ℕ
type_behind zero t = none
type_behind (suc n) t = some t

unfoldable pub result_type : Function → Option ℕ
result_type f = type_behind (word (get_or f.result 0 (0, 0))) (word (get_or f.result 1 (0, 0)))

-- none and some differ
unfoldable pub same : Option ℕ → Option ℕ → Bool
same none none = true
same none (some y) = false
same (some x) none = false
same (some x) (some y) = eqb x y

-- ---- the numbers of Calls and CallResults
unfoldable pub redirecting : ℕ → ℕ → ℕ → ℕ → ℕ
redirecting original replacement s w = elim (eqb s CALLEE || eqb s FUNCTION) [ true ↦ elim (eqb w original) [ true ↦ replacement | false ↦ w ] | false ↦ w ]

-- in a function: no other word of it has these classes
unfoldable pub redirect_fn : ℕ → ℕ → Function → Function
redirect_fn original replacement f = carry_function (redirecting original replacement) f

unfoldable pub redirect_entry : ℕ → ℕ → Entry → Entry
redirect_entry original replacement e = carry_entry (redirecting original replacement) e

-- "everywhere but in the replacement and omitted functions": whether function j, whose first word is w, stays
unfoldable pub stays : ℕ → List ℕ → ℕ → ℕ → Bool
stays replacement omit j w = eqb j replacement || omitted omit w

-- the table functions from number j on
unfoldable pub redirect_fns : List Function → ℕ → ℕ → ℕ → List ℕ → List Function
redirect_fns [] j original replacement omit = []
redirect_fns (f ∷ fs) j original replacement omit = elim (stays replacement omit j (name_word f)) [ true ↦ f | false ↦ redirect_fn original replacement f ] ∷ redirect_fns fs (suc j) original replacement omit

-- the module with other table functions, and with other entry points
unfoldable pub with_functions : Module → List Function → Module
with_functions m fs = record { names = m.names; types = m.types; constants = m.constants; overrides = m.overrides; globals = m.globals; exprs = m.exprs; functions = fs; entries = m.entries; special = m.special }

unfoldable pub with_entries : Module → List Entry → Module
with_entries m es = record { names = m.names; types = m.types; constants = m.constants; overrides = m.overrides; globals = m.globals; exprs = m.exprs; functions = m.functions; entries = es; special = m.special }

-- "entry points always change"
unfoldable pub redirect : Module → ℕ → ℕ → List ℕ → Module
redirect m original replacement omit = with_entries (with_functions m (redirect_fns m.functions 0 original replacement omit)) (map (redirect_entry original replacement) m.entries)

-- ---- the answer
pub data Answer : Type 0 where
  -- the numbers of both functions, and the module
  redirected : ℕ → ℕ → Module → Answer
  outside no_original no_replacement arguments_differ results_differ : Answer

-- document 01's number for each, 0 for none
unfoldable pub refusal : Answer → ℕ
refusal (redirected o r m) = 0
refusal outside = NUMBER_GIVEN
refusal no_original = ORIGINAL_NOT_FOUND
refusal no_replacement = REPLACEMENT_NOT_FOUND
refusal arguments_differ = ARGUMENT_TYPES
refusal results_differ = RESULT_TYPES

-- what the image holds afterwards: "a refusal returns its number alone; image .. stay"
unfoldable pub after : Module → Answer → Module
after m (redirected o r m') = m'
after m outside = m
after m no_original = m
after m no_replacement = m
after m arguments_differ = m
after m results_differ = m

-- what is no function
unfoldable pub nothing : Function
nothing = record { head = []; arguments = []; result = []; locals = []; exprs = []; named = []; body = end }

unfoldable pub function : Module → ℕ → Function
function m j = get_or m.functions j nothing

-- the tests of types of functions a and b, in sequence
unfoldable pub compared : Module → ℕ → ℕ → List ℕ → Answer
compared m a b omit =
    elim (agree (argument_types (function m a)) (argument_types (function m b))) [
      | true ↦ elim (same (result_type (function m a)) (result_type (function m b))) [ true ↦ redirected a b (redirect m a b omit) | false ↦ results_differ ]
      | false ↦ arguments_differ
    ]

unfoldable pub with_replacement : Module → ℕ → List ℕ → Option ℕ → Answer
with_replacement m a omit none = no_replacement
with_replacement m a omit (some b) = compared m a b omit

unfoldable pub with_original : Module → ℕ → List ℕ → Option ℕ → Answer
with_original m replacement omit none = no_original
with_original m replacement omit (some a) = with_replacement m a omit (find m.functions 0 replacement)

-- redirect_function: 13, 8, 9, 10, 11, and then the module
unfoldable pub redirect_function : Module → ℕ → ℕ → List ℕ → Answer
redirect_function m original replacement omit = elim (all_below (original ∷ replacement ∷ omit) (length m.names)) [ true ↦ with_original m replacement omit (find m.functions 0 original) | false ↦ outside ]
