-- Words of declarations that import nothing, in one go: a turn for each of them.
use mathlib.Core.Path.{◌≡◌, refl, sym, ap, ◌∙◌}
use mathlib.Core.Bool.{Bool, false≢true}
use mathlib.Core.List.{List}
use Prim.Native.Nat.{ℕ, suc, ◌+◌, ◌-◌, ◌<◌}
use native.Mathlib.Nat.{le_refl}
use native.Mathlib.Numerals.{add-one}
use native.Mathlib.Omega.{arith}
use lib.ListN.{get_or}
use Rattle.model.specs.References.{target, moved}
use Rattle.model.specs.Bodies.{Builder}
use Rattle.derive_state.specs.Source.{Source}
use Rattle.derive_state.specs.Held.{put, ValidArrays}
use Rattle.derive_state.specs.Sizes.{Sizes}
use Rattle.function_builder.specs.Stacks.{went_by, went_of}
use Rattle.function_runs.specs.Copied.{Quiet, becomes, flag_of, Ran}
use Rattle.function_runs.proofs.Quiets.{becomes-other}
use Rattle.function_words.proofs.Calm.{long, long_none, run-turns, through_long, becomes-by, Idle, quiet_arrives}
use Rattle.function_declarations.proofs.Declaring.{Declaring, declare_fits, declare_next}

module _ {log₀ logtags₀ : List ℕ} {starts₀ maps₀ : List (List ℕ)} {buckets₀ : List ℕ} {e₀ : Sizes} (K₀ : ValidArrays log₀ logtags₀ starts₀ maps₀ buckets₀ e₀) {words tags : List ℕ} {n : ℕ} (src : Source words tags n) {k : ℕ} (o : ℕ) {p : ℕ → Builder → Builder} (I : Idle words k p)
    (at end : ℕ) (exprmap₀ : List ℕ) (stacks₀ : List (List ℕ)) (e₁ : ℕ) (e : Sizes) (log logtags : List ℕ) (starts maps : List (List ℕ)) (buckets exprmap : List ℕ) where
  abbrev Before : ℕ → List (List ℕ) → ℕ → Bool → Type 0
  Before x stacks i u = Declaring words tags n k o p at end log₀ logtags₀ starts₀ maps₀ buckets₀ exprmap₀ stacks₀ e₁ e₀ (long e x) log logtags starts maps buckets exprmap stacks i u

  turn : (x : ℕ) (stacks : List (List ℕ)) (i : ℕ) (u : Bool) → Before x stacks i u → i < end → e.bodytop + x < 16384 → Quiet maps exprmap (get_or tags i 0) (get_or words i 0)
      → Before (suc x) (put stacks 3 (e.bodytop + x) (becomes (went_by maps exprmap) e.made o (get_or tags i 0) (get_or words i 0) (flag_of words tags end i u))) (suc i) (flag_of words tags end i u)
  turn x stacks i u D less room Q =
      let s = get_or tags i 0 in
      let w = get_or words i 0 in
      let v = flag_of words tags end i u in
      let B = quiet_arrives src o p p I s w (declare_fits K₀ D less) (D.runs.kept refl) (D.runs.under refl) refl Q in
      let y = ap (λ (a : ℕ). moved (target s) a o v) (through_long words n log logtags starts maps e exprmap x s w) ∙ becomes-other (went_of words n log logtags starts maps e exprmap) e.made o s w v (D.left.plain i (le_refl _) less).1 ∙ sym (becomes-by words n log logtags starts maps e exprmap e.made o s w v Q.callee) in
      let z : e.bodytop + suc x ≡ e.bodytop + x + 1 = omega arith in
      let next = declare_next K₀ D less {v = v} refl B refl (record { over = λ q. absurd (false≢true q); stays = λ q. absurd (false≢true q); is = λ q. refl; ends = λ q. refl; room = λ q. room }) refl in
      rw (← y, z) (rw (add-one i) at next)

  pub declare_run : {stacks : List (List ℕ)} {i : ℕ} {u : Bool} → Declaring words tags n k o p at end log₀ logtags₀ starts₀ maps₀ buckets₀ exprmap₀ stacks₀ e₁ e₀ e log logtags starts maps buckets exprmap stacks i u
      → {r : ℕ} {v : Bool} {stacks' : List (List ℕ)} (R : Ran words tags maps exprmap (went_by maps exprmap) e.made o i end e.bodytop u stacks r v stacks') → Before R.count stacks' r v
  declare_run D R = run-turns words tags maps exprmap (went_by maps exprmap) e.made o end e.bodytop Before turn R (rw (← long_none e D.going) D)

  -- the sizes as they are then
  pub declare_ran : {stacks : List (List ℕ)} {i : ℕ} {u : Bool} → Declaring words tags n k o p at end log₀ logtags₀ starts₀ maps₀ buckets₀ exprmap₀ stacks₀ e₁ e₀ e log logtags starts maps buckets exprmap stacks i u
      → {r : ℕ} {v : Bool} {stacks' : List (List ℕ)} → Ran words tags maps exprmap (went_by maps exprmap) e.made o i end e.bodytop u stacks r v stacks' → {e' : Sizes} → e' ≡ long e (r - i)
      → Declaring words tags n k o p at end log₀ logtags₀ starts₀ maps₀ buckets₀ exprmap₀ stacks₀ e₁ e₀ e' log logtags starts maps buckets exprmap stacks' r v
  declare_ran {i = i} D {r} R h = let a = R.reach in let z : r - i ≡ R.count = omega arith in rw (h, z) (declare_run D R)
