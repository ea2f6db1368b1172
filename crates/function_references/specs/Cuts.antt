-- Records one after the other in words and tags, by the places where they start; and so a function's expressions.
use Rattle.std.specs.Prelude.{◌≡◌, List, [], ◌∷◌, ℕ, ◌≤◌, ◌<◌, length, get_or, take}
use Rattle.std.specs.Coded.{le_prop, Coded-set, coded_ℕ}
use Rattle.std.proofs.Props.{props}
use mathlib.Core.HLevel.{×₃_prop}
use Rattle.model.specs.Outcome.{Cells}
use Rattle.model.specs.Table.{EXPR_KIND}
use Rattle.model.specs.Between.{between}
use Rattle.model.specs.References.{refs}
use Rattle.theory_records.specs.RecordLaws.{All}
use Rattle.function_references.specs.Fits.{FitN, all_prop}

-- ---- records one after the other: each ends where the next one starts, the last at `end`
-- where the first of them starts, and `end` where there is none
unfoldable pub next_of : List ℕ → ℕ → ℕ
next_of [] end = end
next_of (b ∷ bs) end = b

-- their cells
unfoldable pub cut : List ℕ → ℕ → List ℕ → List ℕ → List Cells
cut [] end tags words = []
cut (a ∷ ss) end tags words = between tags words a (next_of ss end) ∷ cut ss end tags words

-- they start at a, none is empty, and they end at `end`
unfoldable pub Rising : List ℕ → ℕ → ℕ → Type 0
Rising [] a end = a ≡ end
Rising (b ∷ bs) a end = (b ≡ a) × (a < next_of bs end) × Rising bs (next_of bs end) end

-- that they do has one proof at most
Rising-prop : (ss : List ℕ) (a end : ℕ) → IsProp (Rising ss a end)
unfolding Rising
Rising-prop [] a end = Coded-set coded_ℕ a end
Rising-prop (b ∷ bs) a end = ×₃_prop (Coded-set coded_ℕ b a) le_prop (Rising-prop bs (next_of bs end) end)

-- ---- a function's expressions, by their places
unfoldable pub exprs_of : List ℕ → List ℕ → List ℕ → ℕ → List Cells
exprs_of words tags places k = cut (take k places) (get_or places k 0) tags words

-- the places are those of a function of k expressions; a ghost field of function_builder::ShaderFunction
pub record Expressions (words tags places : List ℕ) (k : ℕ) : Type 0 where
  pub few : k ≤ 1024
  pub places_long : length places ≡ 1025
  pub words_long : length words ≡ 16384
  pub tags_long : length tags ≡ 16384
  pub rising : Rising (take k places) (get_or places 0 0) (get_or places k 0)
  pub inside : get_or places k 0 ≤ 16384
  -- each starts with its kind, and its operands have lower numbers
  pub kinds : (e : ℕ) → e < k → get_or tags (get_or places e 0) 0 ≡ EXPR_KIND
  pub fits : (e : ℕ) → e < k → All (FitN words e) (refs (get_or (exprs_of words tags places k) e []))

-- that they are has one proof at most
pub Expressions-prop : (words tags places : List ℕ) (k : ℕ) → IsProp (Expressions words tags places k)
Expressions-prop words tags places k = hlevel (props, le_prop, Rising-prop, all_prop)
