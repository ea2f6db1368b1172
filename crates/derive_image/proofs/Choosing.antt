-- The starts of the names in their new order.
use mathlib.Core.Path.{◌≡◌, refl, sym, ap, ap₂, ◌∙◌}
use mathlib.Core.List.{List, [], ◌∷◌, ◌++◌, map}
use Prim.Native.Nat.{ℕ, ◌+◌, ◌≤◌, ◌<◌}
use native.Mathlib.Numerals.{add-one}
use native.Mathlib.Omega.{arith}
use lib.ListN.{length, get_or, set, take, replicate, length-set, length-replicate}
use lib.Seq.{take-length, take-suc-set, take-suc}
use Rattle.theory_lists.specs.Lists.{map-append}

-- ---- names
pub record Choosing (row order r : List ℕ) (i : ℕ) : Type 0 where
  pub within : i ≤ length order
  pub long : length r ≡ 512
  pub same : take i r ≡ map (λ (k : ℕ). get_or row k 0) (take i order)

module _ (row order : List ℕ) where
  pub choosing_begin : Choosing row order (replicate 512 0) 0
  choosing_begin = record { within = omega arith; long = length-replicate {A = ℕ} 512 0; same = refl }

  module _ (r : List ℕ) (i : ℕ) (inv : Choosing row order r i) where
    pub choosing_next : length order ≤ 512 → i < length order → (k : ℕ) → k ≡ get_or order i 0 → Choosing row order (set r i (get_or row k 0)) (i + 1)
    choosing_next l h k e =
        record {
          within = omega arith;
          long = length-set r i (get_or row k 0) ∙ inv.long;
          same = rw (add-one i) (take-suc-set r i (get_or row k 0) (omega (arith, inv.long)) ∙ ap₂ ◌++◌ inv.same (ap (λ (j : ℕ). get_or row j 0 ∷ []) e) ∙ sym (ap (map (λ (j : ℕ). get_or row j 0)) (take-suc order i 0 h) ∙ map-append (λ (j : ℕ). get_or row j 0) (take i order) (get_or order i 0 ∷ [])));
        }

    pub choosing_in : ((j : ℕ) → j < length order → get_or order j 0 < 512) → i < length order → (k : ℕ) → k ≡ get_or order i 0 → k < 512
    choosing_in f h k e = omega (arith, f i h)

    pub choosing_done : length order ≤ i → (take (length order) r ≡ map (λ (k : ℕ). get_or row k 0) order) × (length r ≡ 512)
    choosing_done h = let e : i ≡ length order = (let v = inv.within in omega arith) in let s : take (length order) r ≡ map (λ (k : ℕ). get_or row k 0) (take (length order) order) = rw e at inv.same in (s ∙ ap (map (λ (k : ℕ). get_or row k 0)) (take-length order), inv.long)
