-- What a word refers to, as the code has it: the code of a table, and what the numbers of the source are mapped to by rows of words.
use Rattle.std.specs.Coded.{×_prop, Unit-prop, le_prop}
use Rattle.std.specs.Prelude.{ℕ, zero, suc, ◌+◌, ◌<◌, List, [], ◌∷◌, slice_index, slice_index_or}
use Rattle.model.specs.Tables.{Tab, names, types, constants, overrides, globals, exprs, code_t}
use Rattle.model.specs.References.{Place, table, own, function, Target, copied, start, upto, ref, opt, Node}
use Rattle.theory_records.specs.RecordLaws.{All}
use Rattle.derive_state.specs.declared.Target.{Target as Target'}
use Rattle.derive_state.specs.declared.Target.TheVariants as code

-- an operand of a global expression is a global expression; a function is in none of the six tables
unfoldable pub code_p : Place → ℕ
code_p (table t) = code_t t
code_p own = 5
code_p function = 7

-- what a class refers to: a table's code, plus 8 where the number is optional; 6 where it refers to nothing
unfoldable pub target_of : Target → ℕ
target_of copied = 6
target_of start = 6
target_of upto = 6
target_of (ref p) = code_p p
target_of (opt p) = 8 + code_p p

-- the table that has a code
unfoldable pub tab_of : ℕ → Tab
tab_of zero = names
tab_of (suc zero) = types
tab_of (suc (suc zero)) = constants
tab_of (suc (suc (suc zero))) = overrides
tab_of (suc (suc (suc (suc zero)))) = globals
tab_of (suc (suc (suc (suc (suc n))))) = exprs

-- what a target of the code is in the model; the code has one for the words that refer to nothing, of spans too
abbrev pub means : Target' → Target
means code.Nothing = copied
means code.Function = ref function
means (code.Record t) = ref (table (tab_of t))
means (code.Optional t) = opt (table (tab_of t))
means code.Own = ref own
means code.OptionalOwn = opt own

-- a target as the code has it: a word of a span refers to nothing
unfoldable pub unspanned : Target → Target
unspanned copied = copied
unspanned start = copied
unspanned upto = copied
unspanned (ref p) = ref p
unspanned (opt p) = opt p

-- its table is one of the six
abbrev pub InTable : Target' → Type 0
InTable code.Nothing = Unit {0}
InTable code.Function = Unit {0}
InTable (code.Record t) = t < 6
InTable (code.Optional t) = t < 6
InTable code.Own = Unit {0}
InTable code.OptionalOwn = Unit {0}

-- what a number is mapped to, by rows
unfoldable pub went_r : List (List ℕ) → Place → ℕ → ℕ
went_r rows p n = slice_index (slice_index_or rows (code_p p) []) n

-- a number that a row has
abbrev pub Small : Node → Type 0
Small j = j.num < 512

-- that all numbers of a list are such has one proof at most
pub small_prop : (js : List Node) → IsProp (All Small js)
small_prop [] = Unit-prop
small_prop (j ∷ js) = ×_prop le_prop (small_prop js)
