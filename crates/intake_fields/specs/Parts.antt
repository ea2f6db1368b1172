-- The reader of records seen flat, as rows of pieces, each of which is one word and the fields that follow because of it: what the code does. proofs/Flat.antt proves it equal to the model's reader of trees.
use Rattle.std.specs.Prelude.{true, false, List, [], ◌∷◌, ◌++◌, map, ℕ, zero, suc, eqb, ltb, leb, length}
use Rattle.std.proofs.Math.Option.{Option, none, some}
use Rattle.std.proofs.Math.ListN.{get_elem?}
use Rattle.model.specs.Outcome.{Cells, Outcome, fits, misfit, unknown, eat, map_o}
use Rattle.model.specs.Table.{Row, SPAN, UPTO, EXPR, OPT_EXPR, FROM, TO, CALLEE, OPERANDS, OPT_RESULT, VALUE, ARGUMENTS, LOCALS, EXPRESSIONS, NAMED, RETURNS, TYPE_KIND, BLOCK, CASES, LENGTH, STMT_KIND, Shape, s_emit, s_block, s_if, s_switch, s_loop, s_break, s_continue, s_return, s_kill, s_call, s_effect, statements, name_row, type_row, constant_row, override_row, global_row, expression_row, function_head, entry_head, counted, limit, variants, run}
use Rattle.model.specs.Tree.{flat_block, block_at}

-- what reads cells off words: the cells and the words that are left, or why not
abbrev pub Reader : Type 0
Reader = List ℕ → Outcome Cells

-- what was read, and then what p reads
unfoldable pub join : Outcome Cells → Reader → Outcome Cells
join (fits cs ws) p = map_o (cs ++◌) (p ws)
join misfit p = misfit
join unknown p = unknown

-- n times one after the other
unfoldable pub times : ℕ → Reader → Reader
times zero p ws = fits [] ws
times (suc n) p ws = join (p ws) (times n p)

-- a count of the class s, and that many
unfoldable pub list_of : ℕ → Reader → Reader
list_of s p ws = eat ws λ n ws. map_o ((s, n) ∷◌) (times n p ws)

-- a case: its value, its body, fall_through
abbrev pub case_row : Row
case_row = VALUE ∷ BLOCK ∷ 2 ∷ []

-- a case, where B reads its block
unfoldable pub case_of : Reader → Reader
case_of B ws = join (run ws (VALUE ∷ [])) λ ws. join (B ws) λ ws. join (run ws (2 ∷ [])) λ ws. fits [] ws

-- ---- the parts of a statement, where B reads its blocks
-- one part: a block, cases, or what the table has for s
unfoldable pub part : Reader → ℕ → Reader
part B s ws = elim (ltb s BLOCK) [ true ↦ run ws (s ∷ []) | false ↦ elim (eqb s BLOCK) [ true ↦ B ws | false ↦ list_of CASES (case_of B) ws ] ]

-- one part after the other
unfoldable pub parts : Reader → Row → Reader
parts B [] ws = fits [] ws
parts B (s ∷ ss) ws = join (part B s ws) (parts B ss)

-- a statement's parts, by its shape
unfoldable pub row_of : Shape → Row
row_of s_emit = FROM ∷ TO ∷ []
row_of s_block = BLOCK ∷ []
row_of s_if = EXPR ∷ BLOCK ∷ BLOCK ∷ []
row_of s_switch = EXPR ∷ CASES ∷ []
row_of s_loop = BLOCK ∷ BLOCK ∷ OPT_EXPR ∷ []
row_of s_break = []
row_of s_continue = []
row_of s_return = OPT_EXPR ∷ []
row_of s_kill = []
row_of s_call = CALLEE ∷ OPERANDS ∷ OPT_RESULT ∷ []
row_of (s_effect ss) = ss

-- the same, after its span
unfoldable pub row_as : Shape → Row
row_as sh = SPAN ∷ UPTO ∷ row_of sh

-- those of all kinds of statements
unfoldable pub statement_rows : List Row
statement_rows = map row_as statements

-- goes on with the row that a code chose, if it is one of the listed
unfoldable pub chosen : Option Row → (Row → Outcome Cells) → Outcome Cells
chosen none f = unknown
chosen (some r) f = f r

-- a statement's kind, and its row
unfoldable pub kinded : Reader → Reader
kinded B ws = eat ws λ k ws. chosen (get_elem? statement_rows k) λ ss. map_o ((STMT_KIND, k) ∷◌) (parts B ss ws)

-- the length n is that of what follows it
unfoldable pub check : ℕ → Outcome Cells → Outcome Cells
check n (fits cs ws) = elim (eqb n (suc (length cs))) [ true ↦ fits ((LENGTH, n) ∷ cs) ws | false ↦ misfit ]
check n misfit = misfit
check n unknown = unknown

-- a statement, where B reads its blocks
unfoldable pub statement_of : Reader → Reader
statement_of B ws = eat ws λ n ws. check n (kinded B ws)

-- the same of a block
unfoldable pub block_of : Reader → Reader
block_of B = list_of BLOCK (statement_of B)

-- a block with d levels left
unfoldable pub read_b : ℕ → Reader
read_b d ws = map_o flat_block (block_at d ws)

-- ---- pieces: what one symbol stands for, with d levels of blocks left
-- one piece: a statement, what its kind chooses, or a part
unfoldable pub piece : ℕ → ℕ → Reader
piece d s ws = elim (eqb s LENGTH) [ true ↦ statement_of (read_b d) ws | false ↦ elim (eqb s STMT_KIND) [ true ↦ kinded (read_b d) ws | false ↦ part (read_b d) s ws ] ]

-- one piece after the other
unfoldable pub pieces : ℕ → Row → Reader
pieces d [] ws = fits [] ws
pieces d (s ∷ ss) ws = join (piece d s ws) (pieces d ss)

-- what follows the word of a list, a variant or a block: a row, a number of times
pub data Brings : Type 0 where
  rows : ℕ → Row → Brings
  over nothing : Brings

-- the row that a code chose, once
unfoldable pub once : Option Row → Brings
once none = nothing
once (some r) = rows 1 r

-- what follows the word w of the class s, by the table
unfoldable pub brings_of : ℕ → ℕ → Brings
brings_of s w =
    elim (ltb s TYPE_KIND) [
      | true ↦ elim (leb w (limit s)) [ true ↦ rows w (counted s) | false ↦ over ]
      | false ↦ elim (ltb s BLOCK) [
        | true ↦ once (get_elem? (variants s) w)
        | false ↦ elim (eqb s BLOCK) [
          | true ↦ rows w (LENGTH ∷ [])
          | false ↦ elim (eqb s CASES) [ true ↦ rows w case_row | false ↦ once (get_elem? statement_rows w) ]
        ]
      ]
    ]

-- goes on with what follows
unfoldable pub brought : Brings → (ℕ → Row → Outcome Cells) → Outcome Cells
brought (rows n r) f = f n r
brought over f = misfit
brought nothing f = unknown

-- a word of the class s, and what follows because of it
unfoldable pub opening : ℕ → ℕ → Reader
opening d s ws = eat ws λ w ws. brought (brings_of s w) λ n r. map_o ((s, w) ∷◌) (times n (pieces d r) ws)

-- ---- records
-- "name, span, arguments, optional result, locals, expressions, named expressions, body"
unfoldable pub function_row : Row
function_row = function_head ++ ARGUMENTS ∷ RETURNS ∷ LOCALS ∷ EXPRESSIONS ∷ NAMED ∷ BLOCK ∷ []

-- an entry point: its head, and a function
unfoldable pub entry_row : Row
entry_row = entry_head ++ function_row

-- the records of the eight tables
unfoldable pub table_rows : List Row
table_rows = name_row ∷ type_row ∷ constant_row ∷ override_row ∷ global_row ∷ expression_row ∷ function_row ∷ entry_row ∷ []
