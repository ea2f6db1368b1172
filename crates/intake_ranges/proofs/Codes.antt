-- The table of bounds before the counts are known: all free, then the codes stored one after the other.
use mathlib.Core.Path.{◌≡◌, refl, sym, ap, ◌∙◌}
use mathlib.Core.List.{List, [], ◌∷◌, ◌++◌}
use Prim.Native.Nat.{ℕ, zero, suc, ◌+◌, ◌^◌, ◌≤◌, ◌<◌}
use native.Mathlib.Omega.{arith}
use lib.ListN.{length, set, replicate}
use lib.Seq.{sets}
use Rattle.theory_lists.specs.Stores.{sets-append}
use Rattle.intake_ranges.specs.Ranges.{up_to, codes}

-- the first i codes are stored
pub record Coded (t : List ℕ) (i : ℕ) : Type 0 where
  pub few : i ≤ 80
  pub is : t ≡ sets (replicate 256 (2 ^ 32)) 0 (up_to 0 i)

up_next : (n k : ℕ) → up_to k (suc n) ≡ up_to k n ++ ((k + n) ∷ [])
unfolding up_to
up_next zero k = ap (λ (x : ℕ). x ∷ []) (omega arith)
up_next (suc n) k = ap (k ∷◌) (up_next n (suc k) ∙ ap (λ (x : ℕ). up_to (suc k) n ++ (x ∷ [])) (omega arith))

up_long : (n k : ℕ) → length (up_to k n) ≡ n
unfolding up_to
up_long zero k = refl
up_long (suc n) k = ap suc (up_long n (suc k))

from_none : (i : ℕ) → up_to 0 (suc i) ≡ up_to 0 i ++ (i ∷ [])
from_none i = up_next i 0 ∙ ap (λ (x : ℕ). up_to 0 i ++ (x ∷ [])) (omega arith)

at-end : (i : ℕ) → 0 + length (up_to 0 i) ≡ i
at-end i = let l = up_long i 0 in omega (arith, l)

one_more : (i : ℕ) → suc i ≡ i + 1
one_more i = omega arith

pub coded-first : Coded (replicate 256 (2 ^ 32)) 0
unfolding up_to
coded-first = record { few = omega arith; is = refl }

pub coded-next : (t : List ℕ) (i : ℕ) → Coded t i → i < 80 → Coded (set t i i) (i + 1)
coded-next t i c h = record {
  few = omega arith;
  is =
      ap (λ l. set l i i) c.is
      ∙ sym (ap (sets (replicate 256 (2 ^ 32)) 0) (from_none i) ∙ sets-append (up_to 0 i) (replicate 256 (2 ^ 32)) 0 (i ∷ []) ∙ ap (λ k. sets (sets (replicate 256 (2 ^ 32)) 0 (up_to 0 i)) k (i ∷ [])) (at-end i))
      ∙ ap (λ k. sets (replicate 256 (2 ^ 32)) 0 (up_to 0 k)) (one_more i);
}

all_codes : sets (replicate 256 (2 ^ 32)) 0 (up_to 0 80) ≡ codes
unfolding up_to codes
all_codes = refl

pub coded-last : (t : List ℕ) (i : ℕ) → Coded t i → 80 ≤ i → t ≡ codes
coded-last t i c h = let e : i ≡ 80 = (let f = c.few in omega (arith, f, h)) in c.is ∙ (rw e all_codes)
