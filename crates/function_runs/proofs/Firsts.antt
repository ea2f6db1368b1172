-- The word after a span's start, which says whether the span is undefined.
use mathlib.Core.Path.{◌≡◌}
use mathlib.Core.List.{List}
use Prim.Native.Nat.{ℕ, suc, ◌+◌, ◌≤◌, ◌<◌}
use native.Mathlib.Numerals.{add-one}
use native.Mathlib.Omega.{arith}
use lib.ListN.{length, get_or}
use Rattle.model.specs.Between.{between}
use Rattle.model.specs.References.{first_word}
use Rattle.theory_image.specs.Betweens.{between_none, between_next}

-- ---- the word after
pub first_some : (tags words : List ℕ) (i end : ℕ) → i + 1 < end → end ≤ length tags → end ≤ length words → get_or words (i + 1) 0 ≡ first_word (between tags words (suc i) end)
unfolding first_word
first_some tags words i end h t w = rw (add-one i, between_next tags words (suc i) end (omega arith) t w)

pub first-none : (tags words : List ℕ) (i end : ℕ) → end ≤ i + 1 → 0 ≡ first_word (between tags words (suc i) end)
unfolding first_word
first-none tags words i end h = rw (between_none tags words (suc i) end (omega arith))
