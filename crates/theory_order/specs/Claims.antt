-- What holds of the order of every module, in document 01's words and those of the order's own definitions. Assumes nothing: these are statements, and
-- Theorems.antt proves them all.
use Rattle.std.specs.Prelude.{◌≡◌, Bool, ◌↔◌, List, ◌∷◌, ◌++◌, ℕ, ◌≤◌, ◌<◌}
use Rattle.model.specs.Calls.{Call, Ring, Reaches, Rank, In, Sorted, times, numbers, Count, rounds, ordered, ring, order}

pub record Claims (n : ℕ) (calls : ℕ → ℕ → Bool) : Type 0 where
  -- rank is defined exactly for the functions from which no chain reaches a ring, and it is one number
  pub rank_exactly : (i : ℕ) → i < n → ((r : ℕ) × Rank n calls i r) ↔ (Reaches n calls i → ⊥)
  pub rank_unique : (i r s : ℕ) → Rank n calls i r → Rank n calls i s → r ≡ s
  -- an order exists exactly if no chain comes back to its start
  pub order_exactly : ((os : List ℕ) × (order n calls ≡ ordered os)) ↔ ((i : ℕ) → Ring n calls i → ⊥)
  -- each function is in the order once, and nothing else is
  pub each_once : (os : List ℕ) → order n calls ≡ ordered os → (i : ℕ) → i < n → times os i ≡ 1
  pub none_else : (os : List ℕ) → order n calls ≡ ordered os → (i : ℕ) → n ≤ i → times os i ≡ 0
  -- every callee comes before its callers
  pub callees-first : (os : List ℕ) → order n calls ≡ ordered os → (xs ys : List ℕ) (i j : ℕ) → os ≡ xs ++ (i ∷ ys) → Call n calls i j → In j xs
  -- "output order is by rank, then source number"
  pub order_sorted : (os : List ℕ) → order n calls ≡ ordered os → Sorted n calls os
  -- a ring is answered by "the count of functions from which a chain reaches a ring", and there is one such count
  pub ring_answers : (i : ℕ) → Ring n calls i → (k : ℕ) × (order n calls ≡ ring k)
  pub ring_counts : (k : ℕ) → order n calls ≡ ring k → Count n (Reaches n calls) k
  pub count_unique : (k m : ℕ) → Count n (Reaches n calls) k → Count n (Reaches n calls) m → k ≡ m
  -- what is left waiting is exactly those functions
  pub left_exactly : (i : ℕ) → In i (rounds calls n (numbers n 0)).left ↔ Reaches n calls i
  -- more rounds than functions change nothing
  pub bound : (f : ℕ) → n ≤ f → rounds calls f (numbers n 0) ≡ rounds calls n (numbers n 0)
