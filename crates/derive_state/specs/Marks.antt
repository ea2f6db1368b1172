-- The hash table of derived records. A record's bucket is the remainder of its hash, which is folded from its table and its words, those of spans as 0:
-- equal records (ignoring spans) of a table have one bucket. A bucket holds a record's number plus 1, or SEVERAL where records of other numbers have the same
-- bucket; so a record that equals one of these has the number that its bucket shows.
use Rattle.std.specs.Prelude.{◌≡◌, ℕ, suc, ◌%◌, List, map, length, slice_index}
use Rattle.model.specs.Outcome.{Cells, word}
use Rattle.theory_records.specs.RecordLaws.{bare}
use Rattle.intake_distinct.specs.Places.{mixed}

-- how many buckets there are
abbrev pub MARKS : ℕ
MARKS = 16384

-- a bucket of records of several numbers
abbrev pub SEVERAL : ℕ
SEVERAL = 65535

-- the hash of a record of table t
unfoldable pub hash_r : ℕ → Cells → ℕ
hash_r t cs = mixed (map word (bare cs)) t

-- its bucket
abbrev pub place_r : ℕ → Cells → ℕ
place_r t cs = hash_r t cs % MARKS

-- a bucket's value that number k may have left
pub data Shows (v k : ℕ) : Type 0 where
  alone : v ≡ suc k → Shows v k
  several : v ≡ SEVERAL → Shows v k

-- record k of table t is in its bucket
abbrev pub Marked : List ℕ → ℕ → ℕ → Cells → Type 0
Marked buckets t k cs = Shows (slice_index buckets (place_r t cs)) k

-- what buckets showed they still show
pub record Marks (buckets buckets' : List ℕ) : Type 0 where
  pub marks_long : length buckets' ≡ MARKS
  pub others : (p k : ℕ) → Shows (slice_index buckets p) k → Shows (slice_index buckets' p) k

-- number k is put into bucket p
pub record Left (buckets : List ℕ) (p k : ℕ) (buckets' : List ℕ) : Type 0 where
  pub own : Shows (slice_index buckets' p) k
  pub stay : Marks buckets buckets'
