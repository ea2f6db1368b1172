-- The arithmetic of `localize`, each fact with the few premises that it needs.
use Prim.Native.Nat.{ℕ, ◌+◌, ◌*◌, ◌≤◌, ◌<◌}
use native.Mathlib.Omega.{arith}
use mir.Syntax.{w64}
use mir.Val.{Fits}

-- places of words, and what follows them
pub place_4 : {i : ℕ} → i < 16384 → Fits w64 (i * 4)
place_4 h = omega arith

pub place-next : {i : ℕ} → i < 16384 → Fits w64 (i + 1)
place-next h = omega arith

pub place_low : {i : ℕ} → i ≤ 1024 → i < 1025
place_low h = omega arith
