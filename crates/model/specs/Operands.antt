-- What an expression or a statement reads, what a statement evaluates, and the classes of expression kinds. All of it is a matter of cells: an operand is a cell of the class EXPR or OPT_EXPR, wherever the field table puts it, so no definition here names a field.
-- Document 01, "Expressions" and "Statements".
use Rattle.std.specs.Prelude.{Bool, true, false, ◌&&◌, ◌||◌, List, [], ◌∷◌, ℕ, zero, suc, eqb, leb, length, get_or}
use Rattle.std.proofs.Math.Option.{Option, none, some}
use Rattle.model.specs.Outcome.{Cells, class, word}
use Rattle.model.specs.Table.{FUNCTION, EXPR, OPT_EXPR, RESULT, OPT_RESULT, EXPR_KIND, expressions}
use Rattle.model.specs.Tree.{opt_of}

-- ---- operands
-- "an optional number is 0 for none, else the number plus 1"
unfoldable pub optional : ℕ → List ℕ → List ℕ
optional zero xs = xs
optional (suc e) xs = e ∷ xs

-- what a cell of the class s and the word w reads, before what the following cells read
unfoldable pub operand : ℕ → ℕ → List ℕ → List ℕ
operand s w xs = elim (eqb s EXPR) [ true ↦ w ∷ xs | false ↦ elim (eqb s OPT_EXPR) [ true ↦ optional w xs | false ↦ xs ] ]

-- "reads in field order"
unfoldable pub ops_of : Cells → List ℕ
ops_of [] = []
ops_of (c ∷ cs) = operand (class c) (word c) (ops_of cs)

-- ---- results: the expression that a statement evaluates
unfoldable pub result_of : Cells → Option ℕ
result_of [] = none
result_of (c ∷ cs) = elim (eqb (class c) RESULT) [ true ↦ some (word c) | false ↦ elim (eqb (class c) OPT_RESULT) [ true ↦ opt_of (word c) | false ↦ result_of cs ] ]

-- the function of a CallResult
unfoldable pub function_of : Cells → Option ℕ
function_of [] = none
function_of (c ∷ cs) = elim (eqb (class c) FUNCTION) [ true ↦ some (word c) | false ↦ function_of cs ]

-- ---- kinds
-- a record begins with its kind, "kinds 0 to 26", as many as the field table has rows; what is no record has none of them
abbrev pub NO_KIND : ℕ
NO_KIND = length expressions

unfoldable pub kind : Cells → ℕ
kind [] = NO_KIND
kind (c ∷ cs) = elim (eqb (class c) EXPR_KIND) [ true ↦ word c | false ↦ NO_KIND ]

-- "standing: 0 to 3 and 9 to 11"
unfoldable pub standing_kind : ℕ → Bool
standing_kind k = leb k 3 || (leb 9 k && leb k 11)

-- "results: 23 to 25"
unfoldable pub result_kind : ℕ → Bool
result_kind k = leb 23 k && leb k 25

-- "the rest are emitted"
unfoldable pub emitted_kind : ℕ → Bool
emitted_kind k = elim (standing_kind k) [ true ↦ false | false ↦ elim (result_kind k) [ true ↦ false | false ↦ true ] ]

-- "global expressions use only 0 to 8, 16 to 18 and 20 to 22", and "initialisers of locals reach only those kinds"
unfoldable pub constant_kind : ℕ → Bool
constant_kind k = leb k 8 || ((leb 16 k && leb k 18) || (leb 20 k && leb k 22))

-- ---- the expressions of a table of records, by number
unfoldable pub ops : List Cells → ℕ → List ℕ
ops xs e = ops_of (get_or xs e [])

unfoldable pub kind_at : List Cells → ℕ → ℕ
kind_at xs e = kind (get_or xs e [])

unfoldable pub standing : List Cells → ℕ → Bool
standing xs e = standing_kind (kind_at xs e)
