-- The cells of a range of words and tags: from one place to another, each word with its class.
use Rattle.std.specs.Prelude.{◌≡◌, List, [], ◌∷◌, ℕ, ◌≤◌, length}
use Rattle.std.proofs.Math.Seq.{slice}
use Rattle.model.specs.Outcome.{Cells}

unfoldable pub beside : List ℕ → List ℕ → Cells
beside [] ws = []
beside (s ∷ ss) [] = []
beside (s ∷ ss) (w ∷ ws) = (s, w) ∷ beside ss ws

unfoldable pub between : List ℕ → List ℕ → ℕ → ℕ → Cells
between tags words at end = beside (slice at end tags) (slice at end words)

-- words and tags, given as arrays
pub record Long (words tags : List ℕ) : Type 0 where
  pub words_long : length words ≡ 16384
  pub tags_long : length tags ≡ 16384

-- such a range lies in both
pub record Stretch (words tags : List ℕ) (at end : ℕ) : Type 0 where
  pub rising : at ≤ end
  pub small : end ≤ 16384
  pub in_words : end ≤ length words
  pub in_tags : end ≤ length tags
