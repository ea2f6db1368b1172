-- The first of n records that is alike, as the library's search finds it.
use mathlib.Core.Path.{◌≡◌, refl}
use mathlib.Core.Bool.{Bool, true, false}
use mathlib.Core.List.{List}
use Prim.Native.Nat.{ℕ, zero, suc, ◌+◌, ◌≤◌, ◌<◌}
use native.Mathlib.Omega.{arith}
use lib.ListN.{length, get_or, take}
use Rattle.std.specs.Prelude.{Option, None, Some, MatchOption, cond}
use Rattle.std.specs.Option.{option_map, unwrap_or}
use Rattle.std.specs.List.{find, range_with_len}
use Rattle.model.specs.Outcome.{Cells}
use Rattle.model.specs.References.{alike, index_of}
use Rattle.derive_state.specs.Held.{rec_at, recs_at}
use Rattle.derive_state.proofs.Passes.{Seeks, seek_first, seek_found, seek_more, seek_last}

module _ (log logtags ss : List ℕ) (c : Cells) (n : ℕ) (hn : n ≤ length ss) where
  abbrev pub is_alike : ℕ → Bool
  is_alike j = alike (rec_at log logtags (get_or ss j 0)) c

  abbrev pub IsFirst : Option ℕ → Type 0
  IsFirst r = MatchOption r (n ≡ index_of (recs_at log logtags (take n ss)) c) (λ j. (j < n) × (j ≡ index_of (recs_at log logtags (take n ss)) c))

  sought : (d k : ℕ) → n ≡ k + d → Seeks log logtags ss c n k → IsFirst (find is_alike (range_with_len k d))
  sought zero k e T = seek_last log logtags ss c n hn k T (omega arith)
  sought (suc d) k e T = go (is_alike k) refl (λ U. sought d (k + 1) (omega arith) U)
    where
      go : (b : Bool) → is_alike k ≡ b → (Seeks log logtags ss c n (k + 1) → IsFirst (find is_alike (range_with_len (k + 1) d))) → IsFirst (cond b (Some k) (find is_alike (range_with_len (k + 1) d)))
      go true q rest = (omega arith, seek_found log logtags ss c n hn k T (omega arith) _ refl _ refl q)
      go false q rest = rest (seek_more log logtags ss c n hn k T (omega arith) _ refl _ refl q)

  pub first_is : (r : Option ℕ) → option_map (λ x. x) r ≡ find is_alike (range_with_len 0 n) → IsFirst r
  first_is None e = rw (← e) at (sought n 0 (omega arith) (seek_first log logtags ss c n hn))
  first_is (Some x) e = rw (← e) at (sought n 0 (omega arith) (seek_first log logtags ss c n hn))

  -- its number, or n where none is
  pub number_is : (r : Option ℕ) → IsFirst r → (unwrap_or r n ≡ index_of (recs_at log logtags (take n ss)) c) × (unwrap_or r n ≤ n)
  number_is None q = (q, omega arith)
  number_is (Some x) q = (q.1, let z = q.0 in omega arith)
