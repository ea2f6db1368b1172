-- Sums of numbers: of a whole list, and of the elements at given places.
use Rattle.std.specs.Prelude.{◌≡◌, refl, List, [], ◌∷◌, ℕ, zero, suc, ◌+◌, get_or, set}
use Rattle.std.proofs.Common.{arith}

unfoldable pub sum : List ℕ → ℕ
sum [] = 0
sum (w ∷ ws) = w + sum ws

-- of the elements at the places ns
unfoldable pub sum_at : List ℕ → List ℕ → ℕ
sum_at ws [] = 0
sum_at ws (n ∷ ns) = get_or ws n 0 + sum_at ws ns

-- an element set to 0 is missing from the sum
pub sum-set : (ws : List ℕ) (n : ℕ) → sum (set ws n 0) + get_or ws n 0 ≡ sum ws
unfolding sum
sum-set [] zero = refl
sum-set [] (suc n) = refl
sum-set (w ∷ ws) zero = omega arith
sum-set (w ∷ ws) (suc n) = omega (arith, sum-set ws n)
