-- The loops that note names: at every turn, what is left completes the whole.
use mathlib.Core.Path.{◌≡◌, refl, sym, ◌∙◌}
use mathlib.Core.List.{List, [], ◌∷◌}
use Prim.Native.Nat.{ℕ, suc, ◌+◌, ◌≤◌, ◌<◌}
use native.Mathlib.Numerals.{add-one}
use native.Mathlib.Omega.{arith}
use lib.ListN.{length, get_or, take, drop, replicate, drop_of_length-le}
use lib.Seq.{drop-cons, length-take-le, get_or-take}
use Rattle.model.specs.Table.{NAME}
use Rattle.model.specs.Between.{between}
use Rattle.model.specs.Finish.{names_in, firsts}
use Rattle.theory_image.specs.Betweens.{between_none, between_next}
use Rattle.derive_sections.specs.Flat.{firsts_r, firsts_t}
use Rattle.derive_state.specs.Held.{rec_at, recs_at}
use Rattle.derive_sections.specs.Rows.{tabs_of, Rec, Row, Starts, Rows, AppearingEnsures}
use Rattle.derive_sections.proofs.Names.{noted_none, noted_self, firsts-cell}

-- ---- a record
pub record Noting (names : ℕ) (log logtags order₀ : List ℕ) (n s end : ℕ) (order places : List ℕ) (i k : ℕ) : Type 0 where
  pub start : s < i
  pub level : end ≡ suc s + get_or log s 0
  pub within : i ≤ end
  pub noted : AppearingEnsures names (take k order) order places k
  pub rest : firsts (names_in (between logtags log i end)) (take k order) ≡ firsts (names_in (rec_at log logtags s)) (take n order₀)

module _ (names : ℕ) (log logtags order₀ places₀ : List ℕ) (n s : ℕ) (rec : Rec names log logtags s) where
  pub noting_begin : AppearingEnsures names (take n order₀) order₀ places₀ n → (e : ℕ) → e ≡ get_or log s 0 → Noting names log logtags order₀ n s (s + 1 + e) order₀ places₀ (s + 1) n
  unfolding rec_at
  noting_begin v e q = let z : s + 1 + e ≡ suc s + get_or log s 0 = omega arith in record { start = omega arith; level = z; within = omega arith; noted = v; rest = rw (z, add-one s) }

  module _ (end : ℕ) (order places : List ℕ) (i k : ℕ) (inv : Noting names log logtags order₀ n s end order places i k) where
    pub noting_low : i < end → get_or logtags i 0 ≡ NAME → get_or log i 0 ≤ names
    noting_low h = rec.low i inv.start (rw (← inv.level) h)

    pub noting_next : i < end → (order₁ places₁ : List ℕ) (k₁ : ℕ) → AppearingEnsures names (firsts (names_in ((get_or logtags i 0, get_or log i 0) ∷ [])) (take k order)) order₁ places₁ k₁
        → Noting names log logtags order₀ n s end order₁ places₁ (i + 1) k₁
    noting_next h order₁ places₁ k₁ v =
        let b = between_next logtags log i end h (omega (arith, inv.level, rec.within, rec.tags_long)) (omega (arith, inv.level, rec.within, rec.log_long)) in
        record {
          start = let z = inv.start in omega arith;
          level = inv.level;
          within = omega arith;
          noted = noted_self v;
          rest = rw (v.is, add-one i) (sym (firsts-cell (get_or logtags i 0, get_or log i 0) (between logtags log (suc i) end) (take k order)) ∙ (rw b at inv.rest));
        }

    pub noting_done : end ≤ i → AppearingEnsures names (firsts (names_in (rec_at log logtags s)) (take n order₀)) order places k
    unfolding names_in firsts
    noting_done h = let e : take k order ≡ firsts (names_in (rec_at log logtags s)) (take n order₀) = rw (between_none logtags log i end h) at inv.rest in rw (← e) inv.noted

-- ---- records from i on
pub recs_next : (log logtags ss : List ℕ) (i : ℕ) → i < length ss → recs_at log logtags (drop i ss) ≡ rec_at log logtags (get_or ss i 0) ∷ recs_at log logtags (drop (i + 1) ss)
unfolding recs_at
recs_next log logtags ss i h = let c : drop i ss ≡ get_or ss i 0 ∷ drop (i + 1) ss = drop-cons ss i 0 h ∙ rw add-one in rw c

pub recs_none : (log logtags ss : List ℕ) (i : ℕ) → length ss ≤ i → recs_at log logtags (drop i ss) ≡ []
unfolding recs_at
recs_none log logtags ss i h = rw (drop_of_length-le ss {i = i} h)

-- ---- a table
pub record NotingR (names : ℕ) (log logtags ss order₀ : List ℕ) (n : ℕ) (order places : List ℕ) (i k : ℕ) : Type 0 where
  pub within : i ≤ length ss
  pub noted : AppearingEnsures names (take k order) order places k
  pub rest : firsts_r (recs_at log logtags (drop i ss)) (take k order) ≡ firsts_r (recs_at log logtags ss) (take n order₀)

module _ (names : ℕ) (log logtags ss order₀ places₀ : List ℕ) (n : ℕ) (starts : Starts names log logtags ss) where
  pub noting_r_begin : AppearingEnsures names (take n order₀) order₀ places₀ n → NotingR names log logtags ss order₀ n order₀ places₀ 0 n
  noting_r_begin v = record { within = omega arith; noted = v; rest = refl }

  module _ (order places : List ℕ) (i k : ℕ) (inv : NotingR names log logtags ss order₀ n order places i k) where
    pub noting_r_rec : i < length ss → (s : ℕ) → s ≡ get_or ss i 0 → Rec names log logtags s
    noting_r_rec h s e = rw e (starts.recs i h)

    pub noting_r_next : i < length ss → (s : ℕ) → s ≡ get_or ss i 0 → (order₁ places₁ : List ℕ) (k₁ : ℕ) → AppearingEnsures names (firsts (names_in (rec_at log logtags s)) (take k order)) order₁ places₁ k₁
        → NotingR names log logtags ss order₀ n order₁ places₁ (i + 1) k₁
    unfolding firsts_r
    noting_r_next h s e order₁ places₁ k₁ v =
        let r = recs_next log logtags ss i h in
        record { within = omega arith; noted = noted_self v; rest = rw (v.is, e) (rw r at inv.rest) }

    pub noting_r_done : length ss ≤ i → AppearingEnsures names (firsts_r (recs_at log logtags ss) (take n order₀)) order places k
    unfolding firsts_r
    noting_r_done h = let e : take k order ≡ firsts_r (recs_at log logtags ss) (take n order₀) = rw (recs_none log logtags ss i h) at inv.rest in rw (← e) inv.noted

-- the starts of a row
pub row-starts : {names : ℕ} {log logtags ss : List ℕ} {n : ℕ} → Row names log logtags ss n → Starts names log logtags (take n ss)
row-starts {ss} {n} r =
    let l : length (take n ss) ≡ n = length-take-le n ss (omega (arith, r.row_long, r.few)) in
    record { few = omega (arith, r.few); recs = λ k h. rw (get_or-take n ss k 0 (omega arith)) (r.recs k (omega arith)) }

pub rows_few : {names : ℕ} {log logtags : List ℕ} {starts : List (List ℕ)} {counts : List ℕ} → Rows names log logtags starts counts → (t : ℕ) → t < 8 → get_or counts t 0 ≤ 512
rows_few rows t h = (rows.rows t h).few

-- ---- tables from t on
pub tabs_next : (log logtags : List ℕ) (starts : List (List ℕ)) (counts : List ℕ) (t : ℕ) → t < length starts → t < length counts
    → tabs_of log logtags (drop t starts) (drop t counts) ≡ recs_at log logtags (take (get_or counts t 0) (get_or starts t [])) ∷ tabs_of log logtags (drop (t + 1) starts) (drop (t + 1) counts)
unfolding tabs_of
tabs_next log logtags starts counts t h g = let a = drop-cons starts t [] h in let b = drop-cons counts t 0 g in rw (a, b, add-one t)

pub tabs_none : (log logtags : List ℕ) (starts : List (List ℕ)) (counts : List ℕ) (t : ℕ) → length starts ≤ t → tabs_of log logtags (drop t starts) (drop t counts) ≡ []
unfolding tabs_of
tabs_none log logtags starts counts t h = rw (drop_of_length-le starts {i = t} h)

pub record NotingT (names : ℕ) (log logtags : List ℕ) (starts : List (List ℕ)) (counts order places : List ℕ) (t k : ℕ) : Type 0 where
  pub within : t ≤ 8
  pub noted : AppearingEnsures names (take k order) order places k
  pub rest : firsts_t (tabs_of log logtags (drop t starts) (drop t counts)) (take k order) ≡ firsts_t (tabs_of log logtags (drop 1 starts) (drop 1 counts)) []

module _ (names : ℕ) (log logtags : List ℕ) (starts : List (List ℕ)) (counts : List ℕ) (rows : Rows names log logtags starts counts) where
  pub noting_t_begin : names ≤ 512 → NotingT names log logtags starts counts (replicate 512 0) (replicate 512 0) 1 0
  noting_t_begin h = record { within = omega arith; noted = noted_none names h; rest = refl }

  module _ (order places : List ℕ) (t k : ℕ) (inv : NotingT names log logtags starts counts order places t k) where
    pub noting_t_starts : t < 8 → (ss : List ℕ) → ss ≡ take (get_or counts t 0) (get_or starts t []) → Starts names log logtags ss
    noting_t_starts h ss e = rw e (row-starts (rows.rows t h))

    pub noting_t_next : t < 8 → (ss : List ℕ) → ss ≡ take (get_or counts t 0) (get_or starts t []) → (order₁ places₁ : List ℕ) (k₁ : ℕ) → AppearingEnsures names (firsts_r (recs_at log logtags ss) (take k order)) order₁ places₁ k₁
        → NotingT names log logtags starts counts order₁ places₁ (t + 1) k₁
    unfolding firsts_t
    noting_t_next h ss e order₁ places₁ k₁ v =
        let r = tabs_next log logtags starts counts t (omega (arith, rows.eight)) (omega (arith, rows.eight')) in
        record { within = omega arith; noted = noted_self v; rest = rw (v.is, e) (rw r at inv.rest) }

    pub noting_t_done : 8 ≤ t → AppearingEnsures names (firsts_t (tabs_of log logtags (drop 1 starts) (drop 1 counts)) []) order places k
    unfolding firsts_t
    noting_t_done h = let e : take k order ≡ firsts_t (tabs_of log logtags (drop 1 starts) (drop 1 counts)) [] = rw (tabs_none log logtags starts counts t (omega (arith, rows.eight))) at inv.rest in rw (← e) inv.noted
