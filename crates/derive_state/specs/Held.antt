-- What the arrays and sizes of a session hold: the model's state as a function of them, and what a good state is.
-- The log holds the records of all tables, each a count and that many words, with the class of each word in `logtags`. Rows 0 to 5 of `starts` say where the
-- records of the six tables start, row 6 where functions do and row 7 where entry points do, which are flat records. A row of `maps` says of each number of
-- the source 0, or its derived number plus 1.
use Rattle.std.specs.Prelude.{◌≡◌, ℕ, zero, suc, ◌+◌, ◌*◌, ◌<◌, ◌≤◌, true, false, List, [], ◌∷◌, map, length, get_or, take, ◌≢◌, Result, slice_index, slice_index_or, slice_set}
use Rattle.std.proofs.lemmas.List.Edits.{sets}
use Rattle.model.specs.Outcome.{Cells, class, word}
use Rattle.model.specs.Table.{NAME}
use Rattle.model.specs.Tree.{Function, Entry, flat, flat_entry}
use Rattle.model.specs.Module.{count_at}
use Rattle.model.specs.Between.{between}
use Rattle.model.specs.Carry.{carry_cells, Each}
use Rattle.model.specs.Tables.{Tab, code_t, six, Tables, count, Maps}
use Rattle.model.specs.References.{Place, through, index_of}
use Rattle.model.specs.Imports.{Derived}
use Rattle.derive_state.specs.Flats.{function_of, entry_of, special_of}
use Rattle.derive_state.specs.Marks.{MARKS, Marked, Marks}
use Rattle.derive_state.specs.Sizes.{Sizes, going, told}
use Rattle.derive_state.specs.declared.Full.{Full}
use Rattle.derive_state.specs.declared.Sizes.{Sizes as Sizes'}
use Rattle.derive_state.specs.declared.DerivedMut.{DerivedMut}

-- ---- arrays of arrays: row t
abbrev pub row : List (List ℕ) → ℕ → List ℕ
row m t = slice_index_or m t []

-- word i of row t
abbrev pub cell : List (List ℕ) → ℕ → ℕ → ℕ
cell m t i = slice_index (slice_index_or m t []) i

-- the rows with v there
abbrev pub put : List (List ℕ) → ℕ → ℕ → ℕ → List (List ℕ)
put m t i v = slice_set m t (slice_set (slice_index_or m t []) i v)

-- ---- records
-- the record at s: a count, and that many cells
unfoldable pub rec_at : List ℕ → List ℕ → ℕ → Cells
rec_at log logtags s = between logtags log (suc s) (suc s + slice_index log s)

-- the records at these places
unfoldable pub recs_at : List ℕ → List ℕ → List ℕ → List Cells
recs_at log logtags [] = []
recs_at log logtags (s ∷ ss) = rec_at log logtags s ∷ recs_at log logtags ss

-- those of row t
abbrev pub table_of : List ℕ → List ℕ → List (List ℕ) → List ℕ → ℕ → List Cells
table_of log logtags starts counts t = recs_at log logtags (take (slice_index counts t) (slice_index_or starts t []))

-- the six tables
unfoldable pub recs_of : List ℕ → List ℕ → List (List ℕ) → List ℕ → Tables
recs_of log logtags starts counts = six (λ t. table_of log logtags starts counts (code_t t))

-- the functions
unfoldable pub functions_of : List ℕ → List ℕ → List (List ℕ) → List ℕ → List Function
functions_of log logtags starts counts = map function_of (table_of log logtags starts counts 6)

-- the entry points
unfoldable pub entries_of : List ℕ → List ℕ → List (List ℕ) → List ℕ → List Entry
entries_of log logtags starts counts = map entry_of (table_of log logtags starts counts 7)

-- ---- the state
-- a row has a word for each record of the source
unfoldable pub maps_of : List ℕ → List (List ℕ) → Maps
maps_of words maps = six (λ t. take (count_at (code_t t) words) (slice_index_or maps (code_t t) []))

-- the model's state that the arrays hold
unfoldable pub st_of : List ℕ → List ℕ → List ℕ → List (List ℕ) → List (List ℕ) → List ℕ → Sizes → Derived
st_of words log logtags starts maps special e = record {
  recs = recs_of log logtags starts e.counts;
  maps = maps_of words maps;
  functions = functions_of log logtags starts e.counts;
  special = special_of special e.pairs;
}

-- ---- sizes
-- words that a table takes: each record, and its offset
unfoldable pub size_r : List Cells → ℕ
size_r [] = 0
size_r (c ∷ cs) = suc (length c) + size_r cs

-- words that the six tables take
unfoldable pub size_s : Tables → ℕ
size_s T = size_r T.of_names + (size_r T.of_types + (size_r T.of_constants + (size_r T.of_overrides + (size_r T.of_globals + size_r T.of_exprs))))

-- words of the rows below m
unfoldable pub sizes_of : List ℕ → List ℕ → List (List ℕ) → List ℕ → ℕ → ℕ
sizes_of log logtags starts counts zero = 0
sizes_of log logtags starts counts (suc t) = sizes_of log logtags starts counts t + size_r (table_of log logtags starts counts t)

-- words of the image: twenty of the header, the tables, three special types and the pairs
unfoldable pub words_of : Derived → ℕ
words_of s = 23 + 2 * length s.special.pairs + (size_s s.recs + size_r (map flat s.functions))

-- too large, with `rest` words of entry points beside it: too many words, or too many records
pub data Over (rest : ℕ) (s : Derived) : Type 0 where
  long : 16384 < words_of s + rest → Over rest s
  many : (t : Tab) → 512 < count s.recs t → Over rest s
  crowd : 256 < length s.functions → Over rest s
  keys : 512 < length s.special.pairs → Over rest s

-- ---- a good state
-- the names that a record has are among the first n
abbrev pub Named : ℕ → Cells → Type 0
Named n = Each (λ c. class c ≡ NAME → word c ≤ n)

-- a record that has none
abbrev pub Nameless : Cells → Type 0
Nameless = Each (λ c. class c ≢ NAME)

-- records of which no two are alike: each is the first that is alike it
abbrev pub Apart : List Cells → Type 0
Apart ds = (k : ℕ) → k < length ds → index_of ds (slice_index_or ds k []) ≡ k

-- arrays and sizes that hold a good state
pub record ValidArrays (log logtags : List ℕ) (starts maps : List (List ℕ)) (buckets : List ℕ) (e : Sizes) : Type 0 where
  -- the image fits
  pub room : 23 + 2 * e.pairs + e.loglen ≤ 16384
  pub few : (t : ℕ) → t < 8 → slice_index e.counts t ≤ 512
  pub few_functions : get_or e.counts 6 0 ≤ 256
  pub few_entries : get_or e.counts 7 0 ≤ 16
  pub few_pairs : e.pairs ≤ 512
  -- lengths, which a reference to an array does not fix
  pub log_long : length log ≡ 16384
  pub tags_long : length logtags ≡ 16384
  pub marks_long : length buckets ≡ MARKS
  pub starts_eight : length starts ≡ 8
  pub maps-six : length maps ≡ 6
  pub counts_eight : length e.counts ≡ 8
  pub rows : (t : ℕ) → t < 8 → length (row starts t) ≡ 512
  pub rows' : (t : ℕ) → t < 6 → length (row maps t) ≡ 512
  -- records lie below the log's end, and fill it
  pub within : (t k : ℕ) → t < 8 → k < slice_index e.counts t → cell starts t k + suc (slice_index log (cell starts t k)) ≤ e.loglen
  pub size : sizes_of log logtags starts e.counts 8 ≡ e.loglen
  -- flat records are those of functions and entry points
  pub flats : map flat (functions_of log logtags starts e.counts) ≡ table_of log logtags starts e.counts 6
  pub flats' : map flat_entry (entries_of log logtags starts e.counts) ≡ table_of log logtags starts e.counts 7
  -- every name that is met has a record, and names' records have no names
  pub named : (t k : ℕ) → t < 8 → k < slice_index e.counts t → Named (slice_index e.counts 0) (rec_at log logtags (cell starts t k))
  pub plain : (k : ℕ) → k < slice_index e.counts 0 → Nameless (rec_at log logtags (cell starts 0 k))
  -- names differ
  pub apart : Apart (table_of log logtags starts e.counts 0)
  -- what is mapped is mapped to a record
  pub mapped : (t k : ℕ) → t < 6 → cell maps t k ≤ slice_index e.counts t
  -- every record of the six tables has its bucket
  pub marked : (t k : ℕ) → t < 6 → k < slice_index e.counts t → Marked buckets t k (rec_at log logtags (cell starts t k))

-- the special types that the words hold are derived types; a clause, since it is of these words and of sizes that are apart from them
pub record Specials (special : List ℕ) (e : Sizes) : Type 0 where
  pub special_long : length special ≡ 1027
  pub rays_in : (i : ℕ) → i < 3 → slice_index special i ≤ slice_index e.counts 1
  pub pairs_in_lem : (i : ℕ) → i < e.pairs → slice_index special (4 + 2 * i) < slice_index e.counts 1

-- ---- what an operation does
-- the first `used` words and classes are as they were
pub record Same (loglen : ℕ) (log logtags log' logtags' : List ℕ) : Type 0 where
  pub words_same : take loglen log' ≡ take loglen log
  pub tags_same : take loglen logtags' ≡ take loglen logtags

-- functions, entry points and pairs are as they were, and so are the stacks of functions in progress
pub record Beside (starts starts' : List (List ℕ)) (e r : Sizes) : Type 0 where
  pub functions_same : (row starts' 6 ≡ row starts 6) × (slice_index r.counts 6 ≡ slice_index e.counts 6)
  pub entries_same : (row starts' 7 ≡ row starts 7) × (slice_index r.counts 7 ≡ slice_index e.counts 7)
  pub pairs-same : r.pairs ≡ e.pairs
  pub tops_same : (r.exprtop ≡ e.exprtop) × (r.bodytop ≡ e.bodytop) × (r.made ≡ e.made)

-- the arrays now hold f of the state that they held, or that is too large; what the log held is there
pub record ImportEnsures (words : List ℕ) (f : Derived → Derived) (log₀ logtags₀ : List ℕ) (starts₀ maps₀ : List (List ℕ)) (buckets₀ : List ℕ) (e : Sizes) (r : Sizes) (log logtags : List ℕ) (starts maps : List (List ℕ)) (buckets : List ℕ) : Type 0 where
  pub over : r.full ≡ true → (special : List ℕ) → Over (size_r (table_of log₀ logtags₀ starts₀ e.counts 7)) (f (st_of words log₀ logtags₀ starts₀ maps₀ special e))
  pub is : r.full ≡ false → (special : List ℕ) → f (st_of words log₀ logtags₀ starts₀ maps₀ special e) ≡ st_of words log logtags starts maps special r
  pub kept : r.full ≡ false → ValidArrays log logtags starts maps buckets r
  pub beside : r.full ≡ false → Beside starts₀ starts e r
  pub more : r.full ≡ false → e.loglen ≤ r.loglen
  pub below : Same e.loglen log₀ logtags₀ log logtags
  pub log_long : length log ≡ 16384
  pub tags_long : length logtags ≡ 16384
  pub marks_stay : Marks buckets₀ buckets

-- the five arrays are the caller's, as they were
pub record SameArrays (d d' : DerivedMut) : Type 0 where
  pub log_same : d'.log.ghost_name ≡ d.log.ghost_name
  pub logtags_same : d'.logtags.ghost_name ≡ d.logtags.ghost_name
  pub starts_same : d'.starts.ghost_name ≡ d.starts.ghost_name
  pub maps_same : d'.maps.ghost_name ≡ d.maps.ghost_name
  pub buckets_same : d'.buckets.ghost_name ≡ d.buckets.ghost_name

-- ValidArrays of a derived module and its sizes; a clause of contracts and no ghost field, since the two are apart: what is refused leaves the sizes, and the arrays may hold more
abbrev pub Valid : DerivedMut → Sizes' → Type 0
Valid d e = ValidArrays d.log.now d.logtags.now d.starts.now d.maps.now d.buckets.now (going e)

-- ImportEnsures of what an operation makes of a derived module and its sizes
pub record Imports (words : List ℕ) (f : Derived → Derived) (d : DerivedMut) (e : Sizes') (r : Result Sizes' Full) (d' : DerivedMut) : Type 0 where
  pub does : ImportEnsures words f d.log.now d.logtags.now d.starts.now d.maps.now d.buckets.now (going e) (told r) d'.log.now d'.logtags.now d'.starts.now d'.maps.now d'.buckets.now
  pub same : SameArrays d d'

-- the same, but where it is full the state is as it was
pub record ImportOrUndoEnsures (words : List ℕ) (f : Derived → Derived) (log₀ logtags₀ : List ℕ) (starts₀ maps₀ : List (List ℕ)) (e : Sizes) (r : Sizes) (log logtags : List ℕ) (starts maps : List (List ℕ)) (buckets : List ℕ) : Type 0 where
  pub over : r.full ≡ true → (special : List ℕ) → Over (size_r (table_of log₀ logtags₀ starts₀ e.counts 7)) (f (st_of words log₀ logtags₀ starts₀ maps₀ special e))
  pub stays : r.full ≡ true → ((special : List ℕ) → st_of words log logtags starts maps special e ≡ st_of words log₀ logtags₀ starts₀ maps₀ special e) × ValidArrays log logtags starts maps buckets e
  pub is : r.full ≡ false → ((special : List ℕ) → f (st_of words log₀ logtags₀ starts₀ maps₀ special e) ≡ st_of words log logtags starts maps special r) × ValidArrays log logtags starts maps buckets r
  pub beside : r.full ≡ false → Beside starts₀ starts e r

-- ImportOrUndoEnsures of what an operation makes of a derived module and its sizes
pub record ImportsOrUndoes (words : List ℕ) (f : Derived → Derived) (d : DerivedMut) (e : Sizes') (r : Result Sizes' Full) (d' : DerivedMut) : Type 0 where
  pub does : ImportOrUndoEnsures words f d.log.now d.logtags.now d.starts.now d.maps.now (going e) (told r) d'.log.now d'.logtags.now d'.starts.now d'.maps.now d'.buckets.now
  pub same : SameArrays d d'

-- ---- a record of the source on its way
-- source cells, where `went` says what numbers are mapped to
unfoldable pub carried_by : (Place → ℕ → ℕ) → List ℕ → List ℕ → ℕ → ℕ → Cells
carried_by went tags words at end = carry_cells (through went) (between tags words at end)

-- a record's cells are written from p on
pub record Written (cs : Cells) (p : ℕ) (log₀ logtags₀ log logtags : List ℕ) : Type 0 where
  pub words_are : log ≡ sets log₀ p (map word cs)
  pub tags_are : logtags ≡ sets logtags₀ p (map class cs)
