-- Starts and maps that are saved, and that are restored or stay as they were made.
use Rattle.std.specs.Prelude.{◌≡◌, Bool, true, false, List, ℕ, ◌≤◌, ◌<◌, length, get_or, take}
use Rattle.model.specs.Module.{count_at}
use Rattle.derive_state.specs.Held.{row, cell}
use Rattle.derive_state.specs.Sizes.{Sizes}

-- the first n words of `from` have gone over those of `to₀`
pub record Prefix (n : ℕ) (from to₀ to : List ℕ) : Type 0 where
  pub long : length to ≡ 512
  pub same : take n to ≡ take n from
  pub low : ((k : ℕ) → get_or to₀ k 0 ≤ get_or from k 0) → (k : ℕ) → get_or to k 0 ≤ get_or from k 0

-- `from` and `to` have n rows; the first c u words of each row u below t are the same, and no word of `to` is more than that of `from`
pub record Prefixes (n t : ℕ) (c : ℕ → ℕ) (from to : List (List ℕ)) : Type 0 where
  pub few : (u : ℕ) → u < n → c u ≤ 512
  pub rows : (u : ℕ) → u < n → length (row from u) ≡ 512
  pub many : length to ≡ n
  pub rows' : (u : ℕ) → u < n → length (row to u) ≡ 512
  pub same : (u : ℕ) → u < t → take (c u) (row to u) ≡ take (c u) (row from u)
  pub low : (u k : ℕ) → u < n → cell to u k ≤ cell from u k

-- n rows of 512 words, of which the first c u are in use
pub record InUse (n : ℕ) (c : ℕ → ℕ) (rows : List (List ℕ)) : Type 0 where
  pub few : (u : ℕ) → u < n → c u ≤ 512
  pub long : (u : ℕ) → u < n → length (row rows u) ≡ 512

-- s and m have the starts of the records that are there, and the maps of the numbers that the source has
pub record SaveEnsures (words : List ℕ) (starts maps : List (List ℕ)) (e : Sizes) (s m : List (List ℕ)) : Type 0 where
  pub of_starts : Prefixes 8 8 (λ t. get_or e.counts t 0) starts s
  pub of_maps : Prefixes 6 6 (λ t. count_at t words) maps m

-- as they were saved, starts₀ and maps₀, where something did not fit; else as they were made, s and m
pub record RestoreEnsures (full : Bool) (starts₀ maps₀ s m starts maps : List (List ℕ)) : Type 0 where
  pub stays : full ≡ true → (starts ≡ starts₀) × (maps ≡ maps₀)
  pub taken : full ≡ false → (starts ≡ s) × (maps ≡ m)
