-- Words of a body that import nothing, in one go: a turn of the loop for each of them.
use mathlib.Core.Path.{◌≡◌, refl, sym, ◌∙◌}
use mathlib.Core.Bool.{Bool}
use mathlib.Core.List.{List}
use Prim.Native.Nat.{ℕ, suc, ◌+◌, ◌-◌, ◌<◌}
use native.Mathlib.Numerals.{add-one}
use native.Mathlib.Omega.{arith}
use lib.ListN.{get_or}
use Rattle.model.specs.Table.{CALLEE}
use Rattle.model.specs.Between.{between}
use Rattle.model.specs.References.{targets, target}
use Rattle.derive_state.specs.Refers.{code_p, target_of}
use Rattle.derive_state.specs.Flats.{function_of}
use Rattle.derive_state.specs.Source.{Source}
use Rattle.derive_state.specs.Held.{put, ValidArrays}
use Rattle.derive_state.specs.Sizes.{Sizes}
use Rattle.function_references.specs.Cuts.{Expressions}
use Rattle.function_outside.proofs.Passing.{legible_here}
use Rattle.function_builder.specs.Stacks.{went_by}
use Rattle.function_parts.specs.Part.{Part}
use Rattle.function_runs.specs.Copied.{Quiet, becomes, flag_of, Ran}
use Rattle.function_words.specs.Runs.{needs, glances}
use Rattle.function_words.proofs.Calm.{long, long_none, run-turns, becomes_long, becomes-by, needs-idle, quiet_runs}
use Rattle.function_localize.proofs.Locals.{Going, other_runs, going_next}

-- a Call names a function
callee-kind : (s : ℕ) → s ≡ CALLEE → target_of (target s) ≡ 7
unfolding target_of code_p target targets
callee-kind s e = rw e

module _ {words tags : List ℕ} {n s end : ℕ} (src : Source words tags n) (p : Part words tags n s end (function_of (between tags words s end))) (o room ea : ℕ) {places : List ℕ} {k : ℕ} (X : Expressions words tags places k) (named body : ℕ)
    {log₀ logtags₀ : List ℕ} {starts₀ maps₀ : List (List ℕ)} {buckets₀ : List ℕ} {e₀ : Sizes} (K₀ : ValidArrays log₀ logtags₀ starts₀ maps₀ buckets₀ e₀) (stacks₀ : List (List ℕ)) (log logtags : List ℕ) (starts maps : List (List ℕ)) (buckets exprmap : List ℕ) (e : Sizes) where
  abbrev At : ℕ → List (List ℕ) → ℕ → Bool → Type 0
  At x stacks i u = Going words tags n o room s end ea places k named body log₀ logtags₀ starts₀ maps₀ buckets₀ stacks₀ e₀ log logtags starts maps buckets exprmap stacks (long e x) i u

  turn : (x : ℕ) (stacks : List (List ℕ)) (i : ℕ) (u : Bool) → At x stacks i u → i < end → e.bodytop + x < 16384 → Quiet maps exprmap (get_or tags i 0) (get_or words i 0)
      → At (suc x) (put stacks 3 (e.bodytop + x) (becomes (went_by maps exprmap) e.made o (get_or tags i 0) (get_or words i 0) (flag_of words tags end i u))) (suc i) (flag_of words tags end i u)
  turn x stacks i u G less low Q =
      let v = flag_of words tags end i u in
      let T = G.turn in
      let R = quiet_runs src o (needs o words tags n places k) (glances o words tags n places k) (needs-idle X n o) i end v (legible_here T.legible less) T.way.kept T.way.under refl low Q in
      let y = becomes_long words n log logtags starts maps e exprmap x e.made o (get_or tags i 0) (get_or words i 0) v ∙ sym (becomes-by words n log logtags starts maps e exprmap e.made o (get_or tags i 0) (get_or words i 0) v Q.callee) in
      let z : e.bodytop + suc x ≡ e.bodytop + x + 1 = omega arith in
      let next = going_next p K₀ G less {v = v} refl (other_runs p K₀ G less (λ q. Q.callee (callee-kind _ q)) v R) refl in
      rw (← y, z) (rw (add-one i) at next)

  pub going_run : {stacks : List (List ℕ)} {i : ℕ} {u : Bool} → Going words tags n o room s end ea places k named body log₀ logtags₀ starts₀ maps₀ buckets₀ stacks₀ e₀ log logtags starts maps buckets exprmap stacks e i u
      → {r : ℕ} {v : Bool} {stacks' : List (List ℕ)} → Ran words tags maps exprmap (went_by maps exprmap) e.made o i end e.bodytop u stacks r v stacks' → {e' : Sizes} → e' ≡ long e (r - i)
      → Going words tags n o room s end ea places k named body log₀ logtags₀ starts₀ maps₀ buckets₀ stacks₀ e₀ log logtags starts maps buckets exprmap stacks' e' r v
  going_run {i = i} G {r} R h =
      let a = R.reach in
      let z : r - i ≡ R.count = omega arith in
      rw (h, z) (run-turns words tags maps exprmap (went_by maps exprmap) e.made o end e.bodytop At turn R (rw (← long_none e G.turn.way.going) G))
