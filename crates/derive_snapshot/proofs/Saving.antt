-- The loops that save starts and maps, row by row.
use mathlib.Core.Path.{◌≡◌, ap, ◌∙◌}
use mathlib.Core.Logic.{⊎_elim}
use mathlib.Core.List.{List, []}
use Prim.Native.Nat.{ℕ, zero, suc, ◌+◌, ◌≤◌, ◌<◌}
use native.Mathlib.Omega.{arith}
use lib.ListN.{length, get_or, set, replicate, length-set, length-replicate}
use lib.Seq.{get_or-set_same, get_or-set_other}
use Rattle.model.specs.Module.{count_at}
use Rattle.derive_state.specs.Source.{Source}
use Rattle.derive_state.specs.Held.{row, ValidArrays}
use Rattle.derive_state.specs.Sizes.{Sizes}
use Rattle.derive_state.proofs.State.{same_or}
use Rattle.derive_state.proofs.Fresh.{rows_at}
use Rattle.derive_imports.proofs.Sources.{count_few}
use Rattle.derive_snapshot.specs.Snapshot.{Prefix, Prefixes, InUse}

-- ---- the rows
module _ (n t : ℕ) (c : ℕ → ℕ) (from to : List (List ℕ)) (P : Prefixes n t c from to) where
  pub rows_asked : t < n → (k : ℕ) → k ≡ c t → (length (row from t) ≡ 512) × (length (row to t) ≡ 512) × (k ≤ 512)
  rows_asked h k e = (P.rows t h, P.rows' t h, rw e (P.few t h))

  pub rows_next : t < n → (k : ℕ) → k ≡ c t → (r : List ℕ) → Prefix k (row from t) (row to t) r → Prefixes n (t + 1) c from (set to t r)
  rows_next h k e r Q =
      let b = P.many in
      let here : row (set to t r) t ≡ r = get_or-set_same to t r [] (omega arith) in
      record {
        few = P.few;
        rows = P.rows;
        many = length-set to t r ∙ b;
        rows' = λ u l. ⊎_elim (λ (q : u ≡ t). rw (q, here) Q.long) (λ (ne : u ≡ t → ⊥). rw (get_or-set_other to t u r [] ne) (P.rows' u l)) (same_or u t);
        same = λ u l. ⊎_elim (λ (q : u ≡ t). rw (q, here, ← e) Q.same) (λ (ne : u ≡ t → ⊥). rw (get_or-set_other to t u r [] ne) (P.same u (omega arith))) (same_or u t);
        low = λ u k l. ⊎_elim (λ (q : u ≡ t). rw (q, here) (Q.low (λ k. P.low t k h) k)) (λ (ne : u ≡ t → ⊥). rw (get_or-set_other to t u r [] ne) (P.low u k l)) (same_or u t);
      }

  pub rows_done : n ≤ t → Prefixes n n c from to
  rows_done h = record { few = P.few; rows = P.rows; many = P.many; rows' = P.rows'; same = λ u l. P.same u (omega arith); low = P.low }

-- ---- before
zeros_low : (k i v : ℕ) → get_or (replicate k 0) i 0 ≤ v
zeros_low zero i v = omega arith
zeros_low (suc k) zero v = omega arith
zeros_low (suc k) (suc i) v = zeros_low k i v

pub rows_begin : (n : ℕ) (c : ℕ → ℕ) (from : List (List ℕ)) → InUse n c from → Prefixes n 0 c from (replicate n (replicate 512 0))
rows_begin n c from U = record {
  few = U.few;
  rows = U.long;
  many = length-replicate {A = List ℕ} n (replicate 512 0);
  rows' = λ u l. ap length (rows_at (replicate 512 0) n u l) ∙ length-replicate {A = ℕ} 512 0;
  same = λ u l. absurd (omega arith);
  low = λ u k l. rw (rows_at (replicate 512 0) n u l) (zeros_low 512 k _);
}

-- what is in use of a good state
pub in_use : (words tags₀ : List ℕ) (n : ℕ) → Source words tags₀ n → (log logtags : List ℕ) (starts maps : List (List ℕ)) (buckets : List ℕ) (e : Sizes) → ValidArrays log logtags starts maps buckets e
    → InUse 8 (λ t. get_or e.counts t 0) starts × InUse 6 (λ t. count_at t words) maps
in_use words tags₀ n src log logtags starts maps buckets e K = (record { few = K.few; long = K.rows }, record { few = count_few words tags₀ n src; long = K.rows' })
