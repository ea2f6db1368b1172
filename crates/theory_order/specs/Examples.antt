-- Orders by example, computed on a relation of calls alone; document 01's marked cases are in model/specs/Marked.antt.
use Rattle.std.specs.Prelude.{◌≡◌, refl, Bool, ◌||◌, ◌&&◌, [], ◌∷◌, ℕ, eqb}
use Rattle.model.specs.Calls.{numbers, any, keep, free, held, round, rounds, ordered, ring, answer, order}

-- one call, of j by i
abbrev call : ℕ → ℕ → ℕ → ℕ → Bool
call i j a b = eqb a i && eqb b j

pub record Ordering : Type 0 where
  -- b; a calls b; c gives b, c, a, as P5 does: a waits for the round after b's
  pub back : order 3 (call 1 0) ≡ ordered (0 ∷ 2 ∷ 1 ∷ [])
  -- 0 calls 1; 1 and 2 call each other; 3 calls none: 0 is on no ring, and is counted
  pub led : order 4 (λ a b. call 0 1 a b || (call 1 2 a b || call 2 1 a b)) ≡ ring 3

pub ordering : Ordering
unfolding numbers any keep free held round rounds answer order
ordering = record { back = refl; led = refl }
