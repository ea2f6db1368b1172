-- What has to differ, by number: the names of functions and entry points and the keys of special types; and the names, as words.
use Rattle.std.specs.Prelude.{◌≡◌, true, false, List, [], ◌∷◌, ℕ, zero, suc, ◌+◌, ◌*◌, ◌≤◌, ◌<◌, eqb, length, get_or}
use Rattle.std.proofs.Math.Seq.{slice}
use Rattle.model.specs.Module.{count_at, offset_at}
use Rattle.model.specs.View.{record_at, record_end}

-- n of them, from number j on
unfoldable pub listing : {A : Type 0} → (ℕ → A) → ℕ → ℕ → List A
listing at zero j = []
listing at (suc n) j = at j ∷ listing at n (suc j)

-- ---- names of functions and entry points, and keys: the first word of a record, or of a pair of the special types
-- where record j of section k starts, or pair j of the special types
unfoldable pub place_of : List ℕ → ℕ → ℕ → ℕ
place_of ws k j = elim (eqb k 8) [ true ↦ offset_at 8 ws + 3 + 2 * j | false ↦ record_at k j ws ]

-- the first word of one
unfoldable pub number_at : List ℕ → ℕ → ℕ → ℕ
number_at ws k j = get_or ws (place_of ws k j) 0

-- they are in the words. A clause: as the ghost field of a struct of words and section it would leave five contracts, and the struct would be made at five calls, each with the same proof as now
pub record Placed (ws : List ℕ) (k : ℕ) : Type 0 where
  pub known : k < 9
  pub offset : (j : ℕ) → j < count_at k ws → (k ≡ 8 → ⊥) → offset_at k ws + j < 16384
  pub place : (j : ℕ) → j < count_at k ws → place_of ws k j < 16384

-- ---- names
-- name j, its words
unfoldable pub name_at : List ℕ → ℕ → List ℕ
name_at ws j = slice (record_at 0 j ws) (record_end 0 j ws) ws

-- each of them is in the words; a clause, since a type for it would be a struct of one reference, of more lines than the three clauses that have it
pub record Spelled (ws : List ℕ) : Type 0 where
  pub long : length ws ≡ 16384
  pub placed : Placed ws 0
  pub rising : (j : ℕ) → j < count_at 0 ws → record_at 0 j ws ≤ record_end 0 j ws
  pub within : (j : ℕ) → j < count_at 0 ws → record_end 0 j ws ≤ 16384
