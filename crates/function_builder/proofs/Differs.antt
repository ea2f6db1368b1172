-- The first of a record's words that an expression on the stack has not, as the library's search finds it.
use mathlib.Core.Path.{◌≡◌, refl}
use mathlib.Core.Bool.{Bool, true, false, not}
use mathlib.Core.List.{List}
use Prim.Native.Nat.{ℕ, zero, suc, ◌+◌, ◌-◌, ◌≤◌, ◌<◌}
use native.Mathlib.Nat.{le_refl}
use native.Mathlib.Omega.{arith}
use borrow.Author.Tests.{not-true, not-false}
use lib.ListN.{length, get_or}
use Rattle.std.specs.Prelude.{Option, None, Some, MatchOption, cond}
use Rattle.std.specs.Option.{option_map}
use Rattle.std.specs.List.{find, range_with_len}
use Rattle.model.specs.Between.{between}
use Rattle.model.specs.References.{Place, through, alike_c, alike}
use Rattle.derive_state.specs.Held.{carried_by}
use Rattle.derive_state.proofs.Passes.{Compares, compares_begin, compares_not, compares_next, compares_done}
use Rattle.function_references.specs.Fits.{FitN, Legible}

module _ (words tags log logtags : List ℕ) (went : Place → ℕ → ℕ) (at end a b : ℕ) (L : Legible words tags 1024 at end) where
  module _ (rising : a ≤ b) (in_log : b ≤ 16384) (log_long : length log ≡ 16384) (logtags_long : length logtags ≡ 16384) (even : b - a ≡ end - at) where
    abbrev pub differs : ℕ → Bool
    differs j = not (alike_c (get_or logtags (a + (j - at)) 0, get_or log (a + (j - at)) 0) (get_or tags j 0, through went (get_or tags j 0) (get_or words j 0)))

    abbrev pub IsDifference : Option ℕ → Type 0
    IsDifference r = MatchOption r (true ≡ alike (between logtags log a b) (carried_by went tags words at end)) (λ p. (at ≤ p) × (p < end) × (false ≡ alike (between logtags log a b) (carried_by went tags words at end)))

    abbrev Left : ℕ → Type 0
    Left j = Compares (FitN words 1024) words tags log logtags went at end a b j (a + (j - at))

    sought : (d j : ℕ) → at ≤ j → end ≡ j + d → Left j → IsDifference (find differs (range_with_len j d))
    sought zero j l e C = compares_done (FitN words 1024) words tags log logtags went at end a b L.stretch L.fits rising in_log log_long logtags_long j (a + (j - at)) C (omega arith)
    sought (suc d) j l e C = go (differs j) refl (λ U. sought d (j + 1) (omega arith) (omega arith) U)
      where
        go : (x : Bool) → differs j ≡ x → (Left (j + 1) → IsDifference (find differs (range_with_len (j + 1) d))) → IsDifference (cond x (Some j) (find differs (range_with_len (j + 1) d)))
        go true q rest = (l, omega arith, compares_not (FitN words 1024) words tags log logtags went at end a b L.stretch L.fits rising in_log log_long logtags_long j (a + (j - at)) C (omega arith) _ refl _ refl (not-true _ q))
        go false q rest = let z : a + (j + 1 - at) ≡ (a + (j - at)) + 1 = omega arith in rest (rw z (compares_next (FitN words 1024) words tags log logtags went at end a b L.stretch L.fits rising in_log log_long logtags_long j (a + (j - at)) C (omega arith) _ refl _ refl (not-false _ q)))

    begins : Left at
    begins = let z : a + (at - at) ≡ a = omega arith in rw z (compares_begin (FitN words 1024) words tags log logtags went at end a b L.stretch L.fits rising in_log log_long logtags_long _ refl even)

    pub first_differs : (r : Option ℕ) → option_map (λ x. x) r ≡ find differs (range_with_len at (end - at)) → IsDifference r
    first_differs None e = rw (← e) at (sought (end - at) at (le_refl at) (let h = L.stretch.rising in omega arith) begins)
    first_differs (Some x) e = rw (← e) at (sought (end - at) at (le_refl at) (let h = L.stretch.rising in omega arith) begins)
