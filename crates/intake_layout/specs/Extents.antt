-- The header and the sections as the code lays them out: extents that records fill, and the tags of their words. proofs/Whole.antt proves that this is the model's `read`.
use Rattle.std.specs.Prelude.{◌≡◌, Bool, true, false, ◌&&◌, List, [], ◌∷◌, ◌++◌, map, ℕ, suc, ◌+◌, ◌-◌, eqb, leb, take, replicate, Result, Ok, Err}
use Rattle.std.proofs.lemmas.List.Edits.{sets}
use Rattle.std.proofs.Math.Seq.{slice}
use Rattle.model.specs.Outcome.{Cells, class, Laid, laid, bad, strange, exact, both, map_l}
use Rattle.model.specs.Table.{Row, PLACE}
use Rattle.model.specs.Tree.{flat_all, DEPTH}
use Rattle.model.specs.Module.{records, table, rays_row, pair_row, count_at, section}
use Rattle.intake_fields.specs.Parts.{Reader, join, times, pieces}
use Rattle.intake_fields.specs.declared.Misread.{Misread}
use Rattle.intake_fields.specs.declared.Misread.TheVariants.{Misfit, Strange}

-- the tags of a part of the words
abbrev pub Classes : Type 0
Classes = List ℕ

-- ---- what the code reports, and what it has to report: nothing is promised about the tags of a refused extent
-- what the code reports
abbrev pub Held : Type 0
Held = Result (Unit {0}) Misread

-- how laying out ends: the tags are done, or a misfit or a code that is none of the listed was found
pub data End : Type 0 where
  done : List ℕ → End
  refused odd : End

-- the end of an error
unfoldable pub stopped : Misread → End
stopped Misfit = refused
stopped Strange = odd

-- the end of what the code reports
unfoldable pub shown : Held → List ℕ → End
shown (Ok u) tags = done tags
shown (Err e) tags = stopped e

-- the end that it has to report: the tags from `at` on are these classes, or why not
unfoldable pub ending : List ℕ → ℕ → Laid Classes → End
ending tags at (laid cs) = done (sets tags at cs)
ending tags at bad = refused
ending tags at strange = odd

-- the two are the same
pub record Covers (r : Held) (tags₁ tags : List ℕ) (at : ℕ) (o : Laid Classes) : Type 0 where
  pub same : shown r tags₁ ≡ ending tags at o

-- the same, where an unknown code was found before
unfoldable pub after : Bool → Laid Classes → Laid Classes
after false o = o
after true (laid cs) = strange
after true bad = bad
after true strange = strange

-- whether one was found before or in a part, unless the part is refused
unfoldable pub noted : Bool → Held → Result Bool Misread
noted b (Ok u) = Ok b
noted b (Err Strange) = Ok true
noted b (Err Misfit) = Err Misfit

-- ---- one record
-- the classes of cells
abbrev pub classes : Cells → Classes
classes cs = map class cs

-- the record that is to start at `at`, starts at `start` and ends at `end`, of a section that ends at `stop`; ws are the words from `at` to `stop`
unfoldable pub extent : Reader → ℕ → ℕ → ℕ → ℕ → List ℕ → Laid Classes
extent p start at end stop ws = elim (eqb start at && (leb at end && leb end stop)) [ true ↦ map_l classes (exact (p (take (end - at) ws))) | false ↦ bad ]

-- ---- the records of a section
-- what is left of them from record j on, which is to start at `at`, in the section from base to stop whose n offsets come first
unfoldable pub records_left : Reader → List ℕ → ℕ → ℕ → ℕ → ℕ → ℕ → Laid Classes
records_left p words base stop n j at = map_l (λ rs. classes (flat_all rs)) (records p (stop - base) (at - base) (slice (base + j) (base + n) words) (slice at stop words))

-- ---- a section
-- those of a section of n records: of their places, and of the records
abbrev pub table_classes : ℕ → List Cells → Classes
table_classes n rs = replicate n PLACE ++ classes (flat_all rs)

-- a section of n records of the row r, after their offsets
unfoldable pub tabled : Row → ℕ → List ℕ → Laid Classes
tabled r n ws = map_l (table_classes n) (table (pieces DEPTH r) n ws)

-- three optional types, and pairs
unfoldable pub special_of : ℕ → Reader
special_of n ws = join (pieces DEPTH rays_row ws) (times n (pieces DEPTH pair_row))

-- all of the section, and nothing after it
unfoldable pub special : ℕ → List ℕ → Laid Classes
special n ws = map_l classes (exact (special_of n ws))

-- ---- all sections
-- the sections from number k on, whose tables have these rows
unfoldable pub sections_from : List Row → ℕ → List ℕ → Laid Classes
sections_from [] k ws = special (count_at k ws) (section k ws)
sections_from (r ∷ rs) k ws = both ◌++◌ (tabled r (count_at k ws) (section k ws)) (sections_from rs (suc k) ws)
