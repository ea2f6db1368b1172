-- Words and tags seen as cells, and the trees in them: a block or a statement from one word to another, the table of a function's expressions.
use Rattle.std.specs.Prelude.{◌≡◌, Bool, false, ◌&&◌, not, List, [], ◌∷◌, map, ℕ, zero, suc, ◌+◌, ◌-◌, ◌≤◌, ◌<◌, length, get_or}
use Rattle.model.specs.Outcome.{Cells, word, Outcome, fits, misfit, unknown}
use Rattle.model.specs.Table.{expression_row, TO, run}
use Rattle.model.specs.Tree.{Stmt, stmt, kill, Block, end, Range, flat_s, flat_block, statement, block_at, DEPTH}
use Rattle.model.specs.Operands.{standing}
use Rattle.model.specs.Carry.{Lays, OkS, OkB}

-- ---- cells
-- n cells from the word i on
unfoldable pub cells_from : ℕ → List ℕ → List ℕ → ℕ → Cells
cells_from zero ws ts i = []
cells_from (suc n) ws ts i = (get_or ts i 0, get_or ws i 0) ∷ cells_from n ws ts (suc i)

-- those from one word to another: the model's `between` where both lie inside the words (proofs/Leaves.antt, `cells_between`), and nothing has to be said of lengths
unfoldable pub cells_in : List ℕ → List ℕ → ℕ → ℕ → Cells
cells_in ws ts from to = cells_from (to - from) ws ts from

-- ---- trees
-- what was read, or d where nothing was
unfoldable pub got : {A : Type 0} → A → Outcome A → A
got d (fits a ws) = a
got d misfit = d
got d unknown = d

-- what the words from `at` to `fin` are read as
unfoldable pub block_of : List ℕ → List ℕ → ℕ → ℕ → Block Range
block_of ws ts at fin = got end (block_at DEPTH (map word (cells_in ws ts at fin)))

-- the same of a statement
unfoldable pub stmt_of : List ℕ → List ℕ → ℕ → ℕ → Stmt Range
stmt_of ws ts at stop = got (stmt 0 0 kill) (statement (block_at DEPTH) (map word (cells_in ws ts at stop)))

-- they are this block, this statement
pub record HoldsB (ws ts : List ℕ) (at fin : ℕ) (b : Block Range) : Type 0 where
  pub cells : cells_in ws ts at fin ≡ flat_block b
  pub long : at + length (flat_block b) ≡ fin
  pub within : fin ≤ 16384
  pub ok : OkB DEPTH b

-- the same of a statement
pub record HoldsS (ws ts : List ℕ) (at stop : ℕ) (s : Stmt Range) : Type 0 where
  pub cells : cells_in ws ts at stop ≡ flat_s s
  pub long : at + length (flat_s s) ≡ stop
  pub within : stop ≤ 16384
  pub ok : OkS DEPTH s

-- an Emit ends at most at the number of expressions
pub record Ends (ws ts : List ℕ) (count at fin : ℕ) : Type 0 where
  pub low : (i : ℕ) → at ≤ i → i < fin → get_or ts i 0 ≡ TO → get_or ws i 0 ≤ count

-- ---- the way through a block, by the lengths of its statements
-- n statements lie one after the other from the word i on, inside the words
pub data Steps (ws : List ℕ) : ℕ → ℕ → Type 0 where
  steps-none : {i : ℕ} → Steps ws 0 i
  steps_next : {n i : ℕ} → i < 16384 → i + get_or ws i 0 ≤ 16384 → Steps ws n (i + get_or ws i 0) → Steps ws (suc n) i

-- the word after n statements from the word i on
unfoldable pub stepped : ℕ → List ℕ → ℕ → ℕ
stepped zero ws i = i
stepped (suc n) ws i = stepped n ws (i + get_or ws i 0)

-- ---- the expressions of a function, which start at the words st
-- the cells of expression e
unfoldable pub record_of : List ℕ → List ℕ → List ℕ → ℕ → Cells
record_of ws ts st e = cells_in ws ts (get_or st e 0) (get_or st (suc e) 0)

-- the cells of n of them, from expression e on
unfoldable pub table_from : ℕ → List ℕ → List ℕ → List ℕ → ℕ → List Cells
table_from zero ws ts st e = []
table_from (suc n) ws ts st e = record_of ws ts st e ∷ table_from n ws ts st (suc e)

-- the cells of all of them
abbrev pub exprs_of : List ℕ → List ℕ → List ℕ → ℕ → List Cells
exprs_of ws ts st count = table_from count ws ts st 0

-- each record has a word at least
pub record Placed (st : List ℕ) (count : ℕ) : Type 0 where
  pub few : count ≤ 1024
  pub rising : (e : ℕ) → e < count → get_or st e 0 < get_or st (suc e) 0
  pub within : (e : ℕ) → e < count → get_or st (suc e) 0 ≤ 16384

-- each lies so, and is laid out by the row of an expression
pub record Exprs (ws ts st : List ℕ) (count : ℕ) : Type 0 where
  pub placed : Placed st count
  pub lays : (e : ℕ) → e < count → Lays expression_row (record_of ws ts st e)

-- what each is read as, by the row of an expression, is itself: as an equation what `Exprs` says of the rows (proofs/Legible.antt), so that a type can say it
pub record ReadBack (ws ts st : List ℕ) (count : ℕ) : Type 0 where
  pub same : (e : ℕ) → e < count → got [] (run (map word (record_of ws ts st e)) expression_row) ≡ record_of ws ts st e

-- the initialiser expressions: those that are marked and not standing
unfoldable pub marks : List ℕ → List ℕ → List ℕ → ℕ → List Bool → ℕ → Bool
marks ws ts st count ini e = get_or ini e false && not (standing (exprs_of ws ts st count) e)
