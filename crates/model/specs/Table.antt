-- The classes of words and the one field table. A symbol stands for one word and for the fields that follow because of it; its class is the symbol itself.
-- Document 01, "Types, constants, overrides, globals", "Expressions", "Statements", "Functions and entry points".
use Rattle.std.specs.Prelude.{true, false, List, [], ◌∷◌, ◌++◌, ℕ, zero, suc, ◌+◌, ◌-◌, ◌/◌, ◌%◌, ◌^◌, eqb, ltb, leb, get_or, replicate}
use Rattle.std.proofs.Math.Option.{Option, none, some}
use Rattle.std.proofs.Math.ListN.{get_elem?}
use Rattle.model.specs.Outcome.{Cells, Outcome, fits, misfit, unknown, map_o}

-- ---- classes 1 to 79: a code below the class
-- ---- plain classes: one word
-- a copied word
abbrev pub WORD : ℕ
WORD = 80

-- a span's start, and its end
abbrev pub SPAN : ℕ
SPAN = 81

abbrev pub UPTO : ℕ
UPTO = 82

-- an optional name
abbrev pub NAME : ℕ
NAME = 83

abbrev pub TYPE : ℕ
TYPE = 84

abbrev pub OPT_TYPE : ℕ
OPT_TYPE = 85

abbrev pub CONSTANT : ℕ
CONSTANT = 86

abbrev pub OVERRIDE : ℕ
OVERRIDE = 87

abbrev pub GLOBAL : ℕ
GLOBAL = 88

-- a global expression, as the init of a constant
abbrev pub INIT : ℕ
INIT = 89

abbrev pub OPT_INIT : ℕ
OPT_INIT = 90

-- the function of a CallResult, and that of a Call
abbrev pub FUNCTION : ℕ
FUNCTION = 91

abbrev pub CALLEE : ℕ
CALLEE = 92

-- an operand: an expression of the same function, among global expressions one of these
abbrev pub EXPR : ℕ
EXPR = 93

abbrev pub OPT_EXPR : ℕ
OPT_EXPR = 94

abbrev pub ARGUMENT : ℕ
ARGUMENT = 95

abbrev pub LOCAL : ℕ
LOCAL = 96

-- an Emit's start, and its end
abbrev pub FROM : ℕ
FROM = 97

abbrev pub TO : ℕ
TO = 98

-- the expression that a statement evaluates
abbrev pub RESULT : ℕ
RESULT = 99

abbrev pub OPT_RESULT : ℕ
OPT_RESULT = 100

-- the expression of a named expression
abbrev pub NAMED-EXPR : ℕ
NAMED-EXPR = 101

-- the initialiser of a local
abbrev pub LOCAL-INIT : ℕ
LOCAL-INIT = 102

-- the key of a special type
abbrev pub KEY : ℕ
KEY = 103

-- a word of the header, or an offset of a section
abbrev pub PLACE : ℕ
PLACE = 104

-- ---- the last word of a name, of which one, two or three bytes are used
abbrev pub PAD : ℕ
PAD = 105

-- ---- a count, and what it counts
-- the bytes of a name
abbrev pub TEXT : ℕ
TEXT = 108

abbrev pub OPERANDS : ℕ
OPERANDS = 109

abbrev pub MEMBERS : ℕ
MEMBERS = 110

abbrev pub ARGUMENTS : ℕ
ARGUMENTS = 111

abbrev pub LOCALS : ℕ
LOCALS = 112

abbrev pub EXPRESSIONS : ℕ
EXPRESSIONS = 113

abbrev pub NAMED : ℕ
NAMED = 114

-- ---- a variant's code, and its fields
abbrev pub TYPE_KIND : ℕ
TYPE_KIND = 115

abbrev pub EXPR_KIND : ℕ
EXPR_KIND = 116

abbrev pub LEVEL : ℕ
LEVEL = 117

abbrev pub QUERY : ℕ
QUERY = 118

abbrev pub VALUE : ℕ
VALUE = 119

abbrev pub ATOMIC : ℕ
ATOMIC = 120

-- a function's optional result
abbrev pub RETURNS : ℕ
RETURNS = 121

-- ---- the tree of statements: a count of statements, a count of cases, a statement's length, a statement's kind
abbrev pub BLOCK : ℕ
BLOCK = 122

abbrev pub CASES : ℕ
CASES = 123

abbrev pub LENGTH : ℕ
LENGTH = 124

abbrev pub STMT_KIND : ℕ
STMT_KIND = 125

-- ---- rows
abbrev pub Row : Type 0
Row = List ℕ

-- the six words of a binding
abbrev pub binding : Row → Row
binding ss = WORD ∷ WORD ∷ WORD ∷ WORD ∷ WORD ∷ WORD ∷ ss

-- "0 leaf: a number 0 to 8 and six copied words. 1 pointer: base, two space words. 2 struct: span word, members. 3 array: base, size, stride. 4 binding array: base, size."
unfoldable pub types : List Row
types =
    (9 ∷ binding [])
    ∷ (TYPE ∷ WORD ∷ WORD ∷ [])
    ∷ (WORD ∷ MEMBERS ∷ [])
    ∷ (TYPE ∷ WORD ∷ WORD ∷ [])
    ∷ (TYPE ∷ WORD ∷ [])
    ∷ []

-- "kind, span, fields in naga's order, a word each"
abbrev pub spanned : Row → Row
spanned ss = SPAN ∷ UPTO ∷ ss

unfoldable pub expressions : List Row
expressions =
    spanned (10 ∷ WORD ∷ WORD ∷ [])
    ∷ spanned (CONSTANT ∷ [])
    ∷ spanned (OVERRIDE ∷ [])
    ∷ spanned (TYPE ∷ [])
    ∷ spanned (TYPE ∷ OPERANDS ∷ [])
    ∷ spanned (EXPR ∷ EXPR ∷ [])
    ∷ spanned (EXPR ∷ WORD ∷ [])
    ∷ spanned (3 ∷ EXPR ∷ [])
    ∷ spanned (3 ∷ EXPR ∷ 4 ∷ 4 ∷ 4 ∷ 4 ∷ [])
    ∷ spanned (ARGUMENT ∷ [])
    ∷ spanned (GLOBAL ∷ [])
    ∷ spanned (LOCAL ∷ [])
    ∷ spanned (EXPR ∷ [])
    ∷ spanned (EXPR ∷ EXPR ∷ 5 ∷ EXPR ∷ OPT_EXPR ∷ OPT_EXPR ∷ LEVEL ∷ OPT_EXPR ∷ 2 ∷ [])
    ∷ spanned (EXPR ∷ EXPR ∷ OPT_EXPR ∷ OPT_EXPR ∷ OPT_EXPR ∷ [])
    ∷ spanned (EXPR ∷ QUERY ∷ [])
    ∷ spanned (3 ∷ EXPR ∷ [])
    ∷ spanned (18 ∷ EXPR ∷ EXPR ∷ [])
    ∷ spanned (EXPR ∷ EXPR ∷ EXPR ∷ [])
    ∷ spanned (3 ∷ 3 ∷ EXPR ∷ [])
    ∷ spanned (4 ∷ EXPR ∷ [])
    ∷ spanned (79 ∷ EXPR ∷ OPT_EXPR ∷ OPT_EXPR ∷ OPT_EXPR ∷ [])
    ∷ spanned (EXPR ∷ 6 ∷ WORD ∷ [])
    ∷ spanned (FUNCTION ∷ [])
    ∷ spanned (TYPE ∷ 2 ∷ [])
    ∷ spanned (TYPE ∷ [])
    ∷ spanned (EXPR ∷ [])
    ∷ []

-- Auto, Zero, Exact, Bias, Gradient
unfoldable pub levels : List Row
levels = [] ∷ [] ∷ (EXPR ∷ []) ∷ (EXPR ∷ []) ∷ (EXPR ∷ EXPR ∷ []) ∷ []

-- Size, NumLevels, NumLayers, NumSamples
unfoldable pub queries : List Row
queries = (OPT_EXPR ∷ []) ∷ [] ∷ [] ∷ [] ∷ []

-- I32, U32, Default
unfoldable pub values : List Row
values = (WORD ∷ []) ∷ (WORD ∷ []) ∷ [] ∷ []

-- Add, Subtract, And, ExclusiveOr, InclusiveOr, Min, Max, Exchange with its compare
unfoldable pub atomics : List Row
atomics = [] ∷ [] ∷ [] ∷ [] ∷ [] ∷ [] ∷ [] ∷ (OPT_EXPR ∷ []) ∷ []

-- none; type and binding
unfoldable pub results : List Row
results = [] ∷ (TYPE ∷ binding []) ∷ []

-- the forms of statements; every kind that neither branches nor ends nor evaluates a range nor calls is an effect, which has a row
pub data Shape : Type 0 where
  s_emit s_block s_if s_switch s_loop s_break s_continue s_return s_kill s_call : Shape
  s_effect : Row → Shape

unfoldable pub statements : List Shape
statements =
    s_emit
    ∷ s_block
    ∷ s_if
    ∷ s_switch
    ∷ s_loop
    ∷ s_break
    ∷ s_continue
    ∷ s_return
    ∷ s_kill
    ∷ s_effect (WORD ∷ [])
    ∷ s_effect (WORD ∷ [])
    ∷ s_effect (EXPR ∷ EXPR ∷ [])
    ∷ s_effect (EXPR ∷ EXPR ∷ OPT_EXPR ∷ EXPR ∷ [])
    ∷ s_effect (EXPR ∷ ATOMIC ∷ EXPR ∷ OPT_RESULT ∷ [])
    ∷ s_effect (EXPR ∷ RESULT ∷ [])
    ∷ s_call
    ∷ s_effect (EXPR ∷ EXPR ∷ OPT_EXPR ∷ ATOMIC ∷ EXPR ∷ [])
    ∷ []

-- ---- records of tables
unfoldable pub name_row : Row
name_row = TEXT ∷ []

unfoldable pub type_row : Row
type_row = NAME ∷ spanned (TYPE_KIND ∷ [])

unfoldable pub constant_row : Row
constant_row = NAME ∷ spanned (TYPE ∷ INIT ∷ [])

unfoldable pub override_row : Row
override_row = NAME ∷ spanned (WORD ∷ TYPE ∷ OPT_INIT ∷ [])

unfoldable pub global_row : Row
global_row = NAME ∷ spanned (WORD ∷ WORD ∷ WORD ∷ WORD ∷ WORD ∷ TYPE ∷ OPT_INIT ∷ WORD ∷ [])

unfoldable pub expression_row : Row
expression_row = EXPR_KIND ∷ []

-- a function begins with its name and span, an entry point with its name, stage, early depth and workgroup
unfoldable pub function_head : Row
function_head = NAME ∷ spanned []

unfoldable pub entry_head : Row
entry_head = NAME ∷ binding []

-- "each list after its count"; limits: 64 members, 32 arguments, 128 locals, 1,024 expressions, 1,024 named expressions
unfoldable pub counted : ℕ → Row
counted s =
    get_or ((NAME ∷ TYPE ∷ WORD ∷ binding []) ∷ (NAME ∷ TYPE ∷ binding []) ∷ (spanned (NAME ∷ TYPE ∷ LOCAL-INIT ∷ [])) ∷ (EXPR_KIND ∷ []) ∷ (NAMED-EXPR ∷ NAME ∷ []) ∷ [])
    (s - MEMBERS) []

unfoldable pub limit : ℕ → ℕ
limit s = get_or (64 ∷ 32 ∷ 128 ∷ 1024 ∷ 1024 ∷ []) (s - MEMBERS) 0

unfoldable pub variants : ℕ → List Row
variants s = get_or (types ∷ expressions ∷ levels ∷ queries ∷ values ∷ atomics ∷ results ∷ []) (s - TYPE_KIND) []

-- ---- what follows a symbol's word
pub data More : Type 0 where
  brings : Row → More
  over nothing : More

unfoldable pub repeat : ℕ → Row → Row
repeat zero r = []
repeat (suc n) r = r ++ repeat n r

-- "byte length, then bytes, zero-padded to a word"
unfoldable pub text : ℕ → Row
text b = replicate (b / 4) WORD ++ elim (eqb (b % 4) 0) [ true ↦ [] | false ↦ (PAD + b % 4 - 1) ∷ [] ]

unfoldable pub variant : Option Row → More
variant none = nothing
variant (some r) = brings r

-- after a plain word nothing follows; the padding of a name is zero; a count is followed by its rows, up to its limit; a code by its fields
unfoldable pub more : ℕ → ℕ → More
more s w =
    elim (ltb s PAD) [
      | true ↦ brings []
      | false ↦ elim (ltb s TEXT) [
        | true ↦ elim (ltb w (256 ^ (s - PLACE))) [ true ↦ brings [] | false ↦ over ]
        | false ↦ elim (eqb s TEXT) [
          | true ↦ brings (text w)
          | false ↦ elim (eqb s OPERANDS) [
            | true ↦ brings (repeat w (EXPR ∷ []))
            | false ↦ elim (ltb s TYPE_KIND) [
              | true ↦ elim (leb w (limit s)) [ true ↦ brings (repeat w (counted s)) | false ↦ over ]
              | false ↦ variant (get_elem? (variants s) w)
            ]
          ]
        ]
      ]
    ]

-- ---- a run of fields
unfoldable pub follow : More → Row → (Row → Outcome Cells) → Outcome Cells
follow (brings xs) ss k = k (xs ++ ss)
follow over ss k = misfit
follow nothing ss k = unknown

-- the words laid out by the symbols, one after the other
unfoldable pub run : List ℕ → Row → Outcome Cells
run [] [] = fits [] []
run [] (s ∷ ss) = misfit
run (w ∷ ws) [] = fits [] (w ∷ ws)
run (w ∷ ws) (s ∷ ss) = map_o ((s, w) ∷◌) (follow (more s w) ss (run ws))
