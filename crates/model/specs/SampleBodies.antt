-- Small hand-made functions: the parts of which the examples on scope and walks are put together.
use Rattle.std.specs.Prelude.{List, [], ◌∷◌, ℕ}
use Rattle.model.specs.Outcome.{Cells}
use Rattle.model.specs.Table.{WORD, NAME, TYPE, FUNCTION, EXPR, OPT_EXPR, OPT_RESULT, RESULT, LOCAL-INIT, EXPR_KIND, ATOMIC, SPAN, UPTO}
use Rattle.model.specs.Tree.{Stmt, stmt, Form, emit, effect, Block, Range, Function}

-- ---- expressions
abbrev pub record_with : ℕ → Cells → Cells
record_with k cs = (EXPR_KIND, k) ∷ (SPAN, 0) ∷ (UPTO, 0) ∷ cs

abbrev pub literal : ℕ → Cells
literal n = record_with 0 ((10, 3) ∷ (WORD, n) ∷ (WORD, 0) ∷ [])

abbrev pub negate : ℕ → Cells
negate e = record_with 16 ((3, 0) ∷ (EXPR, e) ∷ [])

abbrev pub splat : ℕ → Cells
splat e = record_with 7 ((3, 0) ∷ (EXPR, e) ∷ [])

abbrev pub add : ℕ → ℕ → Cells
add a b = record_with 17 ((18, 0) ∷ (EXPR, a) ∷ (EXPR, b) ∷ [])

abbrev pub called : ℕ → Cells
called f = record_with 23 ((FUNCTION, f) ∷ [])

abbrev pub swapped : Cells
swapped = record_with 24 ((TYPE, 0) ∷ (2, 0) ∷ [])

abbrev pub loaded : Cells
loaded = record_with 25 ((TYPE, 0) ∷ [])

-- ---- statements
abbrev pub does : {E : Type 0} → Form E → Stmt E
does f = stmt 0 0 f

abbrev pub evals : ℕ → ℕ → Stmt Range
evals a b = does (emit (record { from = a; to = b }))

-- Store, kind 11; Atomic with no compare, kind 13; WorkGroupUniformLoad, kind 14
abbrev pub store : ℕ → ℕ → Stmt Range
store p v = does (effect 11 ((EXPR, p) ∷ (EXPR, v) ∷ []))

abbrev pub atomic : ℕ → ℕ → ℕ → Stmt Range
atomic p v r = does (effect 13 ((EXPR, p) ∷ (ATOMIC, 0) ∷ (EXPR, v) ∷ (OPT_RESULT, r) ∷ []))

-- Exchange with its compare, an optional number
abbrev pub exchange : ℕ → ℕ → ℕ → ℕ → Stmt Range
exchange p c v r = does (effect 13 ((EXPR, p) ∷ (ATOMIC, 7) ∷ (OPT_EXPR, c) ∷ (EXPR, v) ∷ (OPT_RESULT, r) ∷ []))

abbrev pub uniform_load : ℕ → ℕ → Stmt Range
uniform_load p r = does (effect 14 ((EXPR, p) ∷ (RESULT, r) ∷ []))

-- ---- functions
abbrev pub local : ℕ → Cells
local x = (SPAN, 0) ∷ (UPTO, 0) ∷ (NAME, 0) ∷ (TYPE, 0) ∷ (LOCAL-INIT, x) ∷ []

-- locals, expressions, body
abbrev pub function : List Cells → List Cells → Block Range → Function
function ls xs b = record { head = (NAME, 1) ∷ (SPAN, 0) ∷ (UPTO, 0) ∷ []; arguments = []; result = []; locals = ls; exprs = xs; named = []; body = b }
