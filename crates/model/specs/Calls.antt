-- Calls between functions: chains, rings, rank, and the order of output. Document 01, "Functions and entry points", and refusal 12.
-- A module is taken as its count of functions n and a test `calls i j`: the body of function i has a Call statement of function j. Only numbers
-- below n are functions. Chain, Ring, Reaches and Rank say what is meant; `rounds` places the functions as Redirector::into_module does.
use Rattle.std.specs.Prelude.{◌≡◌, ◌↔◌, Bool, true, false, cond, not, List, [], ◌∷◌, ◌++◌, ℕ, zero, suc, ◌≤◌, ◌<◌, eqb, length}

module _ (n : ℕ) (calls : ℕ → ℕ → Bool) where
  -- "Call statements, reached or not": function i has one of function j
  pub record Call (i j : ℕ) : Type 0 where
    pub from : i < n
    pub to : j < n
    pub is : calls i j ≡ true

  -- "A chain follows Call statements": one call, or a call and a chain from its callee on
  pub data Chain : ℕ → ℕ → Type 0 where
    one : {i j : ℕ} → Call i j → Chain i j
    more : {i j k : ℕ} → Call i j → Chain j k → Chain i k

  -- "a ring" is a chain that comes back to its start
  abbrev pub Ring : ℕ → Type 0
  Ring i = Chain i i

  -- "functions from which a chain reaches a ring": those on a ring, and those from which a chain leads to one of these
  pub data Reaches : ℕ → Type 0 where
    on : {i : ℕ} → Ring i → Reaches i
    leads : {i j : ℕ} → Chain i j → Ring j → Reaches i

  -- "Rank is 0 without calls, else 1 plus the callees' greatest": `rank` has the callees' ranks, and that of j, which is r, is the greatest
  pub data Rank : ℕ → ℕ → Type 0 where
    lowest : {i : ℕ} → i < n → ((j : ℕ) → Call i j → ⊥) → Rank i zero
    above : {i j r : ℕ} (rank : ℕ → ℕ) → ((k : ℕ) → Call i k → Rank k (rank k)) → ((k : ℕ) → Call i k → rank k ≤ r)
        → Call i j → rank j ≡ r → Rank i (suc r)

  -- "by rank, then source number": x comes before y
  pub data Before (x y : ℕ) : Type 0 where
    lower : {r s : ℕ} → Rank x r → Rank y s → r < s → Before x y
    level : {r : ℕ} → Rank x r → Rank y r → x < y → Before x y

-- x is in a list
pub data In (x : ℕ) : List ℕ → Type 0 where
  here : {xs : List ℕ} → In x (x ∷ xs)
  later : {y : ℕ} {xs : List ℕ} → In x xs → In x (y ∷ xs)

-- "output order is by rank, then source number": each comes before all that follow it
pub data Sorted (n : ℕ) (calls : ℕ → ℕ → Bool) : List ℕ → Type 0 where
  none : Sorted n calls []
  first : {x : ℕ} {xs : List ℕ} → ((y : ℕ) → In y xs → Before n calls x y) → Sorted n calls xs → Sorted n calls (x ∷ xs)

-- k numbers from i on
unfoldable pub numbers : ℕ → ℕ → List ℕ
numbers zero i = []
numbers (suc k) i = i ∷ numbers k (suc i)

-- whether p holds of one of the list
unfoldable pub any : List ℕ → (ℕ → Bool) → Bool
any [] p = false
any (i ∷ is) p = cond (p i) true (any is p)

-- those of the list of which p holds
unfoldable pub keep : List ℕ → (ℕ → Bool) → List ℕ
keep [] p = []
keep (i ∷ is) p = cond (p i) (i ∷ keep is p) (keep is p)

-- how often x is in a list
abbrev pub times : List ℕ → ℕ → ℕ
times is x = length (keep is (eqb x))

-- "the count of functions" with a property: a test that says of each of the n functions whether it has the property holds of k of them
pub record Count (n : ℕ) (P : ℕ → Type 0) (k : ℕ) : Type 0 where
  pub test : ℕ → Bool
  pub says : (i : ℕ) → i < n → (test i ≡ true) ↔ P i
  pub is : length (keep (numbers n 0) test) ≡ k

module _ (calls : ℕ → ℕ → Bool) where
  -- the waiting functions that a round places: those that call none that was waiting when the round began
  unfoldable pub free : List ℕ → List ℕ
  free waiting = keep waiting (λ i. not (any waiting (calls i)))

  -- and those that go on waiting: a function whose last callee is placed in this round waits for the next one
  unfoldable pub held : List ℕ → List ℕ
  held waiting = keep waiting (λ i. any waiting (calls i))

-- what the rounds come to: the functions placed, in order, and those left waiting
pub record Rounds : Type 0 where
  pub placed : List ℕ
  pub left : List ℕ

-- a round that places none is the last, and all that waited is left; else its functions come before those of later rounds
unfoldable pub round : List ℕ → List ℕ → Rounds → Rounds
round [] waiting rest = record { placed = []; left = waiting }
round (i ∷ is) waiting rest = record { placed = i ∷ is ++ rest.placed; left = rest.left }

-- the rounds, as Redirector::into_module goes through them; f is a bound on how many there are
unfoldable pub rounds : (ℕ → ℕ → Bool) → ℕ → List ℕ → Rounds
rounds calls zero waiting = record { placed = []; left = waiting }
rounds calls (suc f) waiting = round (free calls waiting) waiting (rounds calls f (held calls waiting))

-- the answer: the order of output as a list of source numbers, or "12: a ring; with it the count of functions from which a chain reaches a ring"
pub data Order : Type 0 where
  ordered : List ℕ → Order
  ring : ℕ → Order

unfoldable pub answer : List ℕ → List ℕ → Order
answer placed [] = ordered placed
answer placed (i ∷ is) = ring (length (i ∷ is))

-- the order of the n functions: at first all wait. Each round but the last places one at least, so there are at most n before it
unfoldable pub order : ℕ → (ℕ → ℕ → Bool) → Order
order n calls = answer (rounds calls n (numbers n 0)).placed (rounds calls n (numbers n 0)).left
