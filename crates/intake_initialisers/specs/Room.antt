-- The room on the list of what is still to be visited: only what is not marked yet is put on it, and with that it is marked.
use Rattle.std.specs.Prelude.{◌≡◌, Bool, true, false, List, [], ◌∷◌, ℕ, zero, suc, ◌+◌, ◌≤◌, length}

-- how many of the first e are not marked
unfoldable pub blank : ℕ → List Bool → ℕ
blank zero m = 0
blank (suc e) [] = 0
blank (suc e) (false ∷ m) = suc (blank e m)
blank (suc e) (true ∷ m) = blank e m

-- of `count` expressions, those on the list and those that may still be put on it are `count` together at most, and there are 1024 at most
pub record Room (marks : List Bool) (list : List ℕ) (top count : ℕ) : Type 0 where
  pub marks_long : length marks ≡ 1024
  pub list_long : length list ≡ 1024
  pub room : top + blank count marks ≤ count
  pub few : count ≤ 1024
