-- The field table as the code has it, computed from the model's rows: the rows, each ended by 0; where the rows of each group of codes start; for each symbol from MEMBERS on its row and limit, or its group and the number of codes; and where the rows of the tables' records start. The code's array is compared with it by computation (table::entry).
use Rattle.std.specs.Prelude.{◌≡◌, List, [], ◌∷◌, ◌++◌, ℕ, zero, suc, ◌+◌, ◌*◌, ◌-◌, ◌<◌, length, get_or, drop, Result, Ok, Err}
use Rattle.model.specs.Table.{Row, MEMBERS, ARGUMENTS, LOCALS, EXPRESSIONS, NAMED, LENGTH, STMT_KIND, limit, counted, types, expressions, levels, queries, values, atomics, results, statements, name_row, type_row, constant_row, override_row, global_row, expression_row, function_head, entry_head}
use Rattle.model.specs.Module.{rays_row, pair_row}
use Rattle.intake_fields.specs.Parts.{case_row, row_of, row_as, statement_rows, function_row, entry_row, table_rows, brings_of, rows, over, nothing}
use Rattle.intake_fields.specs.declared.Misread.{Misread}
use Rattle.intake_fields.specs.declared.Misread.TheVariants.{Misfit, Strange}

-- ---- rows
-- one after the other, each ended by 0
unfoldable pub laid : List Row → List ℕ
laid [] = []
laid (r ∷ rs) = r ++ (0 ∷ laid rs)

-- where each of them starts, the first at `at`
unfoldable pub starts : ℕ → List Row → List ℕ
starts at [] = []
starts at (r ∷ rs) = at ∷ starts (suc (at + length r)) rs

-- what a symbol's word does: it repeats a row, up to a limit where there is one, or chooses a row of a group
pub data Symbol : Type 0 where
  repeats : Row → ℕ → Symbol
  chooses : List Row → Symbol

-- those from MEMBERS on
unfoldable pub symbols : List Symbol
symbols =
    repeats (counted MEMBERS) (limit MEMBERS)
    ∷ repeats (counted ARGUMENTS) (limit ARGUMENTS)
    ∷ repeats (counted LOCALS) (limit LOCALS)
    ∷ repeats (counted EXPRESSIONS) (limit EXPRESSIONS)
    ∷ repeats (counted NAMED) (limit NAMED)
    ∷ chooses types
    ∷ chooses expressions
    ∷ chooses levels
    ∷ chooses queries
    ∷ chooses values
    ∷ chooses atomics
    ∷ chooses results
    ∷ repeats (LENGTH ∷ []) 0
    ∷ repeats case_row 0
    ∷ repeats (STMT_KIND ∷ []) 0
    ∷ chooses statement_rows
    ∷ []

-- the rows that codes choose, and those that are repeated
unfoldable pub coded : List Symbol → List Row
coded [] = []
coded (repeats r m ∷ ss) = coded ss
coded (chooses g ∷ ss) = g ++ coded ss

-- the rows that are repeated
unfoldable pub listed : List Symbol → List Row
listed [] = []
listed (repeats r m ∷ ss) = r ∷ listed ss
listed (chooses g ∷ ss) = listed ss

-- the records of the tables, and those of the special types
unfoldable pub records : List Row
records = table_rows ++ rays_row ∷ pair_row ∷ []

-- all rows, in the order of the table
unfoldable pub all_rows : List Row
all_rows = coded symbols ++ (listed symbols ++ records)

-- ---- places: where rows end, where the symbols' pairs are, and where the records' starts are
-- where the rows end
unfoldable pub ROWS : ℕ
ROWS = length (laid all_rows)

-- where the symbols' pairs are
unfoldable pub SYMBOLS : ℕ
SYMBOLS = ROWS + length (coded symbols)

-- where the records' starts are
unfoldable pub RECORDS : ℕ
RECORDS = SYMBOLS + 2 * length symbols

-- ---- the numbers
-- a pair for each symbol: its row, the next of which is at `at`, and its limit; or where its group starts, the next of which is at `from`, and how many it has
unfoldable pub pairs : ℕ → ℕ → List Symbol → List ℕ
pairs at from [] = []
pairs at from (repeats r m ∷ ss) = at ∷ m ∷ pairs (suc (at + length r)) from ss
pairs at from (chooses g ∷ ss) = from ∷ length g ∷ pairs at (from + length g) ss

-- the whole table
unfoldable pub numbers : List ℕ
numbers = laid all_rows ++ (starts 0 (coded symbols) ++ (pairs (length (laid (coded symbols))) ROWS symbols ++ starts (length (laid (coded symbols ++ listed symbols))) records))

-- how many they are; who unfolds SIZE computes with the numbers and all that they are made of
unfoldable pub SIZE : ℕ
unfolding numbers laid starts pairs coded listed symbols records all_rows ROWS SYMBOLS RECORDS limit counted types expressions levels queries values atomics results statements row_of row_as statement_rows name_row type_row constant_row override_row global_row expression_row function_head entry_head function_row entry_row table_rows
SIZE = length numbers

-- the row of a statement's kind, which follows its length, and those of the special types
unfoldable pub KIND_ROW : ℕ
KIND_ROW = get_or numbers (SYMBOLS + 2 * (LENGTH - MEMBERS)) 0

-- the row of the three optional special types
unfoldable pub RAYS_ROW : ℕ
RAYS_ROW = get_or numbers (RECORDS + 8) 0

-- the row of a pair of special types
unfoldable pub PAIR_ROW : ℕ
PAIR_ROW = get_or numbers (RECORDS + 9) 0

-- ---- rows by their place
-- the symbols up to the first 0
unfoldable pub row : List ℕ → Row
row [] = []
row (zero ∷ ns) = []
row (suc s ∷ ns) = suc s ∷ row ns

-- the row that starts at pc
unfoldable pub row_at : ℕ → Row
row_at pc = row (drop pc numbers)

-- what the code finds to follow the word w of the class s: a row, a number of times, or why none does
abbrev pub MoreIs : ℕ → ℕ → Result (ℕ × ℕ) Misread → Type 0
MoreIs s w (Ok p) = (p.0 < ROWS) × (brings_of s w ≡ rows p.1 (row_at p.0))
MoreIs s w (Err Misfit) = brings_of s w ≡ over
MoreIs s w (Err Strange) = brings_of s w ≡ nothing
