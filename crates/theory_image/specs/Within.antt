-- The model's test that every word of a run of cells is below the bound of its class, `within`: of one run after another, and of the records of a list.
-- Assumes nothing.
use Rattle.std.specs.Prelude.{◌≡◌, refl, true, List, [], ◌∷◌, ◌++◌, ℕ, zero, suc, get_or}
use Rattle.theory_lists.specs.Booleans.{and-true, and_split}
use Rattle.model.specs.Outcome.{Cells, class, word}
use Rattle.model.specs.Tree.{flat_all}
use Rattle.model.specs.Numbers.{Bounds, bound, below, within}

-- two runs that pass together pass each, and the other way round
pub within-append : (b : Bounds) (xs ys : Cells) → within b (xs ++ ys) ≡ true → (within b xs ≡ true) × (within b ys ≡ true)
unfolding within
within-append b [] ys h = (refl, h)
within-append b (c ∷ cs) ys h =
    let a = and_split (below (bound b (class c)) (word c)) (within b (cs ++ ys)) h in
    let r = within-append b cs ys a.1 in
    (and-true a.0 r.0, r.1)

pub within-join : (b : Bounds) (xs ys : Cells) → within b xs ≡ true → within b ys ≡ true → within b (xs ++ ys) ≡ true
unfolding within
within-join b [] ys h k = k
within-join b (c ∷ cs) ys h k = let a = and_split (below (bound b (class c)) (word c)) (within b cs) h in and-true a.0 (within-join b cs ys a.1 k)

-- what follows a cell
pub within-next : (b : Bounds) (s w : ℕ) (cs : Cells) → within b ((s, w) ∷ cs) ≡ true → within b cs ≡ true
unfolding within
within-next b s w cs h = (and_split (below (bound b s) w) (within b cs) h).1

-- a record of a flat list
pub within-row : (b : Bounds) (rs : List Cells) → within b (flat_all rs) ≡ true → (k : ℕ) → within b (get_or rs k []) ≡ true
unfolding flat_all within
within-row b [] h k = refl
within-row b (r ∷ rs) h zero = (within-append b r (flat_all rs) h).0
within-row b (r ∷ rs) h (suc k) = within-row b rs (within-append b r (flat_all rs) h).1 k
