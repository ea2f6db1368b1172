-- The type derived for a key, among the words of the special types.
use mathlib.Core.Path.{◌≡◌, refl}
use mathlib.Core.Bool.{Bool, true, false}
use mathlib.Core.List.{List}
use Prim.Native.Nat.{ℕ, zero, suc, ◌+◌, ◌*◌, ◌≤◌, ◌<◌}
use native.Mathlib.Omega.{arith}
use lib.Dec.{eqb}
use lib.ListN.{get_or}
use Rattle.model.specs.Names.{field}
use Rattle.model.specs.Special.{keyed}
use Rattle.derive_state.specs.Flats.{pairs_at}

-- a type that is found is one of those there
pub keyed_low : (special : List ℕ) (m key n i : ℕ) → ((j : ℕ) → j < n → get_or special (1 + i + 2 * j) 0 < m) → keyed (pairs_at special i n) key ≤ m
unfolding keyed pairs_at field
keyed_low special m key zero i h = omega arith
keyed_low special m key (suc n) i h = go (eqb (get_or special i 0) key) refl (keyed_low special m key n (2 + i) (λ j l. let a : 1 + (2 + i) + 2 * j ≡ 1 + i + 2 * suc j = omega arith in rw a (h (suc j) (omega arith))))
  where
    go : (b : Bool) → eqb (get_or special i 0) key ≡ b → keyed (pairs_at special (2 + i) n) key ≤ m → keyed (pairs_at special i (suc n)) key ≤ m
    go true e r = let a : 1 + i + 2 * 0 ≡ 1 + i = omega arith in let x = h 0 (omega arith) in rw (keyed, e) (rw a at x)
    go false e r = rw (keyed, e) r
