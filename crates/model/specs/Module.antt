-- The image as a whole: header, sections, tables of records, and the tree of a module. Document 01, "The image"; refusals 1 and 2.
use Rattle.std.specs.Prelude.{Bool, true, false, ◌&&◌, List, [], ◌∷◌, ◌++◌, map, ℕ, suc, ◌+◌, ◌*◌, ◌-◌, eqb, leb, length, get_or, take, drop}
use Rattle.std.proofs.Math.Seq.{slice}
use Rattle.model.specs.Outcome.{Cells, word, Outcome, fits, ◌⟫◌, Laid, laid, bad, exact, both, map_l}
use Rattle.model.specs.Table.{Row, OPT_TYPE, KEY, TYPE, PLACE, name_row, type_row, constant_row, override_row, global_row, expression_row, run}
use Rattle.model.specs.Tree.{Function, Entry, flat, flat_entry, flat_all, rows, function_at, entry_at}

-- "three optional types (ray_desc, ray_intersection, ray_vertex_return), then as many pairs as its count: a key word, a type"
pub record Special : Type 0 where
  pub rays : Cells
  pub pairs : List Cells

pub record Module : Type 0 where
  pub names : List Cells
  pub types : List Cells
  pub constants : List Cells
  pub overrides : List Cells
  pub globals : List Cells
  pub exprs : List Cells
  pub functions : List Function
  pub entries : List Entry
  pub special : Special

-- ---- a section of records
-- where a record ends: where the next one starts, or where the section ends
unfoldable pub next : List ℕ → ℕ → ℕ
next [] stop = stop
next (o ∷ os) stop = o

-- the records from `at` on, of a section that ends at `stop`: each starts at its offset, without gap, and fills its extent
unfoldable pub records : {A : Type 0} → (List ℕ → Outcome A) → ℕ → ℕ → List ℕ → List ℕ → Laid (List A)
records p stop at [] ws = elim (eqb at stop) [ true ↦ laid [] | false ↦ bad ]
records p stop at (o ∷ os) ws =
    elim (eqb o at && (leb at (next os stop) && leb (next os stop) stop)) [
      | true ↦ both ◌∷◌ (exact (p (take (next os stop - at) ws))) (records p stop (next os stop) os (drop (next os stop - at) ws))
      | false ↦ bad
    ]

-- "a section starts with one offset per record, from its own start; records follow without gap"
unfoldable pub table : {A : Type 0} → (List ℕ → Outcome A) → ℕ → List ℕ → Laid (List A)
table p n ws = elim (leb n (length ws)) [ true ↦ records p (length ws) n (take n ws) (drop n ws) | false ↦ bad ]

abbrev pub rays_row : Row
rays_row = OPT_TYPE ∷ OPT_TYPE ∷ OPT_TYPE ∷ []

abbrev pub pair_row : Row
pair_row = KEY ∷ TYPE ∷ []

unfoldable pub special_at : ℕ → List ℕ → Outcome Special
special_at n ws = run ws rays_row ⟫ λ a ws. rows n pair_row ws ⟫ λ ps ws. fits (record { rays = a; pairs = ps }) ws

-- ---- the header
-- "nine pairs of count and offset in words"
unfoldable pub count_at : ℕ → List ℕ → ℕ
count_at k ws = get_or ws (2 + 2 * k) 0

unfoldable pub offset_at : ℕ → List ℕ → ℕ
offset_at k ws = get_or ws (3 + 2 * k) 0

unfoldable pub end_at : ℕ → List ℕ → ℕ
end_at k ws = elim (eqb k 8) [ true ↦ length ws | false ↦ offset_at (suc k) ws ]

-- "512 records a table, 256 functions, 16 entry points"; the pairs of the special types count as a table
unfoldable pub limits : List ℕ
limits = 512 ∷ 512 ∷ 512 ∷ 512 ∷ 512 ∷ 512 ∷ 256 ∷ 16 ∷ 512 ∷ []

-- the sections from number k on, of which the first is to start at `at`
unfoldable pub placed : List ℕ → ℕ → ℕ → List ℕ → Bool
placed [] k at ws = true
placed (m ∷ ms) k at ws = eqb (offset_at k ws) at && (leb (count_at k ws) m && (leb at (end_at k ws) && (leb (end_at k ws) (length ws) && placed ms (suc k) (end_at k ws) ws)))

-- "sections follow in that order from word 20, without gap, to the end"
abbrev pub HEADER : ℕ
HEADER = 20

unfoldable pub section : ℕ → List ℕ → List ℕ
section k ws = slice (offset_at k ws) (end_at k ws) ws

unfoldable pub table_at : {A : Type 0} → ℕ → (List ℕ → Outcome A) → List ℕ → Laid (List A)
table_at k p ws = table p (count_at k ws) (section k ws)

abbrev pub by : Row → List ℕ → Outcome Cells
by r ws = run ws r

infixl 30 ◌⊛◌
unfoldable pub ◌⊛◌ : {A B : Type 0} → Laid (A → B) → Laid A → Laid B
f ⊛ a = both (λ g x. g x) f a

abbrev pub module_of : List Cells → List Cells → List Cells → List Cells → List Cells → List Cells → List Function → List Entry → Special → Module
module_of a b c d e f g h s = record { names = a; types = b; constants = c; overrides = d; globals = e; exprs = f; functions = g; entries = h; special = s }

-- the module that the words hold
unfoldable pub read : List ℕ → Laid Module
read ws =
    elim (placed limits 0 HEADER ws) [
      | true ↦
          map_l module_of (table_at 0 (by name_row) ws)
          ⊛ table_at 1 (by type_row) ws
          ⊛ table_at 2 (by constant_row) ws
          ⊛ table_at 3 (by override_row) ws
          ⊛ table_at 4 (by global_row) ws
          ⊛ table_at 5 (by expression_row) ws
          ⊛ table_at 6 function_at ws
          ⊛ table_at 7 entry_at ws
          ⊛ exact (special_at (count_at 8 ws) (section 8 ws))
      | false ↦ bad
    ]

-- ---- flat
-- a section: the offsets of its records, and the records
unfoldable pub places : ℕ → List Cells → Cells
places at [] = []
places at (r ∷ rs) = (PLACE, at) ∷ places (at + length r) rs

unfoldable pub flat_table : List Cells → Cells
flat_table rs = places (length rs) rs ++ flat_all rs

unfoldable pub flat_special : Special → Cells
flat_special s = s.rays ++ flat_all s.pairs

-- a section's count and its cells
abbrev pub Section : Type 0
Section = ℕ × Cells

unfoldable pub sections : Module → List Section
sections m =
    (length m.names, flat_table m.names)
    ∷ (length m.types, flat_table m.types)
    ∷ (length m.constants, flat_table m.constants)
    ∷ (length m.overrides, flat_table m.overrides)
    ∷ (length m.globals, flat_table m.globals)
    ∷ (length m.exprs, flat_table m.exprs)
    ∷ (length m.functions, flat_table (map flat m.functions))
    ∷ (length m.entries, flat_table (map flat_entry m.entries))
    ∷ (length m.special.pairs, flat_special m.special)
    ∷ []

unfoldable pub pairs_from : ℕ → List Section → Cells
pairs_from at [] = []
pairs_from at (s ∷ ss) = (PLACE, s.0) ∷ (PLACE, at) ∷ pairs_from (at + length s.1) ss

unfoldable pub bodies : List Section → Cells
bodies [] = []
bodies (s ∷ ss) = s.1 ++ bodies ss

-- "word 0 is the edition (1), word 1 the total words"
unfoldable pub flat_module : Module → Cells
flat_module m = (PLACE, 1) ∷ (PLACE, HEADER + length (bodies (sections m))) ∷ pairs_from HEADER (sections m) ++ bodies (sections m)

unfoldable pub write : Module → List ℕ
write m = map word (flat_module m)

-- ---- sizes
-- "at most 65,536 bytes"; refusal 1: "size, edition or total (the slice is four times word 1 long, at least 80 bytes)"
unfoldable pub sized : ℕ → List ℕ → Bool
sized bytes ws = leb 80 bytes && (leb bytes 65536 && (eqb (get_or ws 0 0) 1 && eqb bytes (4 * get_or ws 1 0)))
