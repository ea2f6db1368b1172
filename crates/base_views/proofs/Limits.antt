-- How many records a section may have, by its number.
use mathlib.Core.Path.{◌≡◌, refl}
use Prim.Native.Nat.{ℕ, zero, suc, ◌<◌}
use native.Mathlib.Omega.{arith}
use lib.ListN.{get_or}
use Rattle.model.specs.Module.{limits}

pub limit-six : (k : ℕ) → k ≡ 6 → 256 ≡ get_or limits k 0
unfolding limits
limit-six k e = rw e

pub limit-seven : (k : ℕ) → k ≡ 7 → 16 ≡ get_or limits k 0
unfolding limits
limit-seven k e = rw e

pub limit-other : (k : ℕ) → k < 9 → (k ≡ 6 → ⊥) → (k ≡ 7 → ⊥) → 512 ≡ get_or limits k 0
unfolding limits
limit-other zero h a b = refl
limit-other (suc zero) h a b = refl
limit-other (suc (suc zero)) h a b = refl
limit-other (suc (suc (suc zero))) h a b = refl
limit-other (suc (suc (suc (suc zero)))) h a b = refl
limit-other (suc (suc (suc (suc (suc zero))))) h a b = refl
limit-other (suc (suc (suc (suc (suc (suc zero)))))) h a b = absurd (a refl)
limit-other (suc (suc (suc (suc (suc (suc (suc zero))))))) h a b = absurd (b refl)
limit-other (suc (suc (suc (suc (suc (suc (suc (suc zero)))))))) h a b = refl
limit-other (suc (suc (suc (suc (suc (suc (suc (suc (suc k))))))))) h a b = absurd (omega arith)
