-- What a walk over words leaves: its answer and, where they fit, the tags. Nothing is promised about the tags of a refused walk.
use Rattle.std.specs.Prelude.{◌≡◌, true, false, List, slice_set, map, ℕ, ◌+◌, ◌-◌, ◌<◌, ◌≤◌, leb, length, get_or, replicate, Result, Ok, Err}
use Rattle.std.proofs.lemmas.List.Edits.{sets}
use Rattle.model.specs.Outcome.{Cells, class, Outcome, fits, misfit, unknown}
use Rattle.base_refusals.specs.declared.Refusal.{Refusal}
use Rattle.base_refusals.specs.declared.Refusal.TheVariants.{BadLayout, BadRange}
use Rattle.intake_fields.specs.declared.Misread.{Misread}
use Rattle.intake_fields.specs.declared.Misread.TheVariants.{Misfit, Strange}

-- what the code answers: where a walk ended, or why it did not
abbrev pub Walked : Type 0
Walked = Result ℕ Misread

-- the end of a walk: the word that comes next, with the tags, or a misfit, or a code that is none of the listed
pub data Final : Type 0 where
  next : ℕ → List ℕ → Final
  refused strange : Final

-- the refusal of an image that cannot be read
abbrev pub refusal_of : Misread → Refusal
refusal_of Misfit = BadLayout
refusal_of Strange = BadRange

-- the end that an error stands for
unfoldable pub stopped : Misread → Final
stopped Misfit = refused
stopped Strange = strange

-- what the code reports: its answer with the tags
unfoldable pub seen : Walked → List ℕ → Final
seen (Ok n) tags = next n tags
seen (Err e) tags = stopped e

-- what the reader answers, of words that end at `end` and start at i
unfoldable pub final : List ℕ → ℕ → ℕ → Outcome Cells → Final
final tags i end (fits cs rest) = next (end - length rest) (sets tags i (map class cs))
final tags i end misfit = refused
final tags i end unknown = strange

-- the walk from i ends as the reader does, and the tags are then the classes of what was read
pub record RowEnsures (r : Walked) (tags₁ tags : List ℕ) (i end : ℕ) (o : Outcome Cells) : Type 0 where
  pub same : seen r tags₁ ≡ final tags i end o

-- one word of the class c, with its tag, or there is none left
abbrev pub Takes : Result ℕ Misread → List ℕ → List ℕ → List ℕ → ℕ → ℕ → ℕ → Type 0
Takes (Ok w) tags₁ tags words i end c = (i < end) × (w ≡ get_or words i 0) × (tags₁ ≡ slice_set tags i c)
Takes (Err e) tags₁ tags words i end c = (end ≤ i) × (e ≡ Misfit)

-- how n words of the class c end that start at i
unfoldable pub filled : List ℕ → ℕ → ℕ → ℕ → ℕ → Final
filled tags i end c n = elim (leb (i + n) end) [ true ↦ next (i + n) (sets tags i (replicate n c)) | false ↦ refused ]

-- the walk over n words of the class c from i ends so
pub record Fills (r : Walked) (tags₁ tags : List ℕ) (i end c n : ℕ) : Type 0 where
  pub same : seen r tags₁ ≡ filled tags i end c n
