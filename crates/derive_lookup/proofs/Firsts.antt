-- The name that is alike is the first that is, since no two are.
use mathlib.Core.Path.{◌≡◌, sym, ◌∙◌}
use mathlib.Core.Bool.{Bool, true}
use mathlib.Core.List.{List}
use Prim.Native.Nat.{ℕ, ◌-◌, ◌≤◌, ◌<◌}
use native.Mathlib.Omega.{arith}
use lib.ListN.{get_or, take}
use lib.Seq.{length-take-le, get_or-take}
use Rattle.model.specs.Outcome.{Cells}
use Rattle.model.specs.References.{alike}
use Rattle.derive_state.specs.Held.{rec_at, recs_at}
use Rattle.derive_state.proofs.State.{recs_at_lem, recs_long, apart-first}
use Rattle.derive_lookup.specs.Bearing.{Names, Went}

module _ (log logtags starts : List ℕ) (n : ℕ) (N : Names log logtags starts n) (m : ℕ) (some : m ≡ 0 → ⊥) (low : m ≤ n) where
  pub place_in : m - 1 < n
  place_in = omega arith

  pub went-first : (c : Cells) (s : ℕ) → s ≡ get_or starts (m - 1) 0 → (b : Bool) → b ≡ alike (rec_at log logtags s) c → b ≡ true → Went log logtags starts n c m
  went-first c s hs b hb q =
      let f = N.few in
      let l = N.starts_long in
      let t = length-take-le n starts (omega arith) in
      let r = recs_long log logtags (take n starts) in
      let g = recs_at_lem log logtags (take n starts) (m - 1) (omega arith) in
      record { some = omega arith; few = omega arith; first = apart-first (recs_at log logtags (take n starts)) c (m - 1) N.apart (omega arith) (rw (g, get_or-take n starts (m - 1) 0 (omega arith), ← hs) (sym hb ∙ q)) }
