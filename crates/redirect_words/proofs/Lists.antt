-- Lists of names.
use mathlib.Core.Path.{◌≡◌, refl, sym, ap, ◌∙◌}
use mathlib.Core.Bool.{Bool, false, ◌&&◌}
use mathlib.Core.Logic.{◌⊎◌, inl, inr}
use mathlib.Core.List.{List, [], ◌∷◌}
use Prim.Native.Nat.{ℕ, ◌≤◌, ◌<◌}
use borrow.Author.Tests.{lt-ltb, le-ltb}
use lib.Dec.{ltb}
use Rattle.std.specs.List.{list_all}
use Rattle.model.specs.Redirect.{all_below}

pub all_below_all : (l : List ℕ) (n : ℕ) → all_below l n ≡ list_all (λ x. ltb x n) l
unfolding all_below
all_below_all [] n = refl
all_below_all (x ∷ xs) n = ap (ltb x n &&◌) (all_below_all xs n)

-- ---- inside
pub inside-not : (a b n : ℕ) (l : List ℕ) → (a < n × n ≤ b) ⊎ (n ≤ a) → (r : Bool) → r ≡ false → r ≡ all_below (a ∷ b ∷ l) n
unfolding all_below
inside-not a b n l (inl h) r e = rw (lt-ltb a n h.0, le-ltb b n h.1) e
inside-not a b n l (inr h) r e = rw (le-ltb a n h) e

pub inside-rest : (a b n : ℕ) (l : List ℕ) (r : Bool) → a < n → b < n → r ≡ list_all (λ x. ltb x n) l → r ≡ all_below (a ∷ b ∷ l) n
unfolding all_below
inside-rest a b n l r h k e = rw (lt-ltb a n h, lt-ltb b n k) (e ∙ sym (all_below_all l n))
