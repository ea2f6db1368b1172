-- The loops that write records, offsets and tables: at every turn, what is left completes the whole.
use mathlib.Core.Path.{◌≡◌, refl, sym, ap, ap₂, ◌∙◌}
use mathlib.Core.List.{List, [], ◌∷◌, map}
use mathlib.Core.Logic.{◌⊎◌, inl, inr}
use lib.Dec.{eqb}
use Rattle.theory_finish.specs.Firsts.{either}
use Prim.Native.Nat.{ℕ, zero, suc, ◌+◌, ◌*◌, ◌-◌, ◌≤◌, ◌<◌}
use native.Mathlib.Nat.{add-zero}
use native.Mathlib.Omega.{arith}
use lib.ListN.{length, get_or, set, drop, length-set, length-map}
use Rattle.std.specs.List.{sum_by}
use Rattle.std.proofs.lemmas.List.Sums.{sum_by-cons}
use lib.Seq.{sets, slice, length-sets, length-slice}
use borrow.Author.Tests.{ne_eqb}
use Rattle.theory_lists.specs.Stores.{sets-append}
use Rattle.model.specs.Outcome.{Cells}
use Rattle.model.specs.Table.{NAME}
use Rattle.model.specs.Between.{between}
use Rattle.derive_state.proofs.State.{recs_long}
use Rattle.derive_state.proofs.Passes.{length-beside}
use Rattle.theory_image.specs.Betweens.{between_none, between_next}
use Rattle.derive_sections.specs.Flat.{lengths, table_size, offsets, joined, table_words}
use Rattle.derive_state.specs.Held.{rec_at, recs_at}
use Rattle.derive_sections.specs.Rows.{Rec, Starts, behind, named}
use Rattle.derive_sections.proofs.Notes.{recs_next, recs_none}

-- ---- a word
module _ (ps : List ℕ) (s w : ℕ) where
  pub renamed-plain : ((s ≡ NAME → ⊥) ⊎ (w ≡ 0)) → w ≡ named ps (s, w)
  unfolding named behind
  renamed-plain (inl h) = rw (named, ne_eqb s NAME h)
  renamed-plain (inr h) = rw h (either (eqb s NAME) (λ e. rw (named, e)) λ e. rw (named, e))

  pub renamed_name : s ≡ NAME → (w ≡ 0 → ⊥) → get_or ps (w - 1) 0 ≡ named ps (s, w)
  unfolding named behind
  renamed_name e h = rw (e, named) (go w h)
    where
      go : (v : ℕ) → (v ≡ 0 → ⊥) → get_or ps (v - 1) 0 ≡ behind ps v
      go zero q = absurd (q refl)
      go (suc v) q = let y : suc v - 1 ≡ v = omega arith in rw y

  pub renamed_low : (s ≡ NAME → w ≤ 512) → s ≡ NAME → (w ≡ 0 → ⊥) → w - 1 < 512
  renamed_low f e h = let g = f e in omega arith

-- ---- lengths

pub length-rec : {names : ℕ} {log logtags : List ℕ} {s : ℕ} → Rec names log logtags s → length (rec_at log logtags s) ≡ get_or log s 0
unfolding rec_at between
length-rec {log} {logtags} {s} r =
    let end : ℕ = suc s + get_or log s 0 in
    let a = length-slice (suc s) end logtags (omega (arith, r.within, r.tags_long)) in
    let b = length-slice (suc s) end log (omega (arith, r.within, r.log_long)) in
    length-beside (slice (suc s) end logtags) (slice (suc s) end log) (a ∙ sym b) ∙ a ∙ omega arith

pub length-offsets : (rs : List Cells) (at : ℕ) → length (offsets rs at) ≡ length rs
unfolding offsets
length-offsets [] at = refl
length-offsets (r ∷ rs) at = ap suc (length-offsets rs (at + length r))

-- ---- a record
pub record Copying (log logtags ps out₀ : List ℕ) (s at : ℕ) (out : List ℕ) (i : ℕ) : Type 0 where
  pub long : length out ≡ 16384
  pub same : sets out (at + i) (map (named ps) (between logtags log (suc s + i) (suc s + get_or log s 0))) ≡ sets out₀ at (map (named ps) (rec_at log logtags s))

module _ (log logtags ps out₀ : List ℕ) (s at : ℕ) (rec : Rec 512 log logtags s) where
  pub copying_begin : length out₀ ≡ 16384 → Copying log logtags ps out₀ s at out₀ 0
  unfolding rec_at
  copying_begin l = let y : at + 0 ≡ at = omega arith in let z : suc s + 0 ≡ suc s = omega arith in record { long = l; same = rw (y, z) }

  pub copying_low : (i : ℕ) → i < get_or log s 0 → get_or logtags (s + 1 + i) 0 ≡ NAME → get_or log (s + 1 + i) 0 ≤ 512
  copying_low i h = rec.low (s + 1 + i) (omega arith) (omega arith)

  module _ (out : List ℕ) (i : ℕ) (inv : Copying log logtags ps out₀ s at out i) where
    pub copying_next : i < get_or log s 0 → (w : ℕ) → w ≡ named ps (get_or logtags (s + 1 + i) 0, get_or log (s + 1 + i) 0) → Copying log logtags ps out₀ s at (set out (at + i) w) (i + 1)
    copying_next h w e =
        let b = between_next logtags log (suc s + i) (suc s + get_or log s 0) (omega arith) (omega (arith, rec.within, rec.tags_long)) (omega (arith, rec.within, rec.log_long)) in
        let x : s + 1 + i ≡ suc s + i = omega arith in
        let y : at + (i + 1) ≡ suc (at + i) = omega arith in
        let z : suc s + (i + 1) ≡ suc (suc s + i) = omega arith in
        record { long = length-set out (at + i) w ∙ inv.long; same = rw (y, z, e, x) (rw b at inv.same) }

    pub copying_done : get_or log s 0 ≤ i → out ≡ sets out₀ at (map (named ps) (rec_at log logtags s))
    copying_done h = rw (between_none logtags log (suc s + i) (suc s + get_or log s 0) (omega arith)) at inv.same

module _ (log logtags ss : List ℕ) where
  pub record Offering (out₀ : List ℕ) (at : ℕ) (out : List ℕ) (i o : ℕ) : Type 0 where
    pub within : i ≤ length ss
    pub small : o ≤ length ss + 16383 * i
    pub long : length out ≡ 16384
    pub same : sets out (at + i) (offsets (recs_at log logtags (drop i ss)) o) ≡ sets out₀ at (offsets (recs_at log logtags ss) (length ss))

  pub record Joining (ps out₀ : List ℕ) (at : ℕ) (out : List ℕ) (i p : ℕ) : Type 0 where
    pub within : i ≤ length ss
    pub room : p + lengths (recs_at log logtags (drop i ss)) ≡ at + lengths (recs_at log logtags ss)
    pub long : length out ≡ 16384
    pub same : sets out p (joined (named ps) (recs_at log logtags (drop i ss))) ≡ sets out₀ at (joined (named ps) (recs_at log logtags ss))

-- ---- offsets
module _ (log logtags ss : List ℕ) (starts : Starts 512 log logtags ss) where
  -- the record that the i-th start says
  pub start-rec : (i s : ℕ) → i < length ss → s ≡ get_or ss i 0 → Rec 512 log logtags s
  start-rec i s h e = rw e (starts.recs i h)

  pub start_in : (i s : ℕ) → i < length ss → s ≡ get_or ss i 0 → s < 16384
  start_in i s h e = omega (arith, (start-rec i s h e).within)

  pub start_small : (i s : ℕ) → i < length ss → s ≡ get_or ss i 0 → get_or log s 0 < 16384
  start_small i s h e = omega (arith, (start-rec i s h e).within)

  module _ (out₀ : List ℕ) (at : ℕ) where
    pub offering_begin : length out₀ ≡ 16384 → Offering log logtags ss out₀ at out₀ 0 (length ss)
    offering_begin l = record { within = omega arith; small = omega arith; long = l; same = rw (add-zero at) }

    module _ (out : List ℕ) (i o : ℕ) (inv : Offering log logtags ss out₀ at out i o) where
      pub offering_next : i < length ss → (s : ℕ) → s ≡ get_or ss i 0 → (n : ℕ) → n ≡ get_or log s 0 → Offering log logtags ss out₀ at (set out (at + i) o) (i + 1) (o + n)
      unfolding offsets
      offering_next h s e n q =
          let r = recs_next log logtags ss i h in
          let l : length (rec_at log logtags (get_or ss i 0)) ≡ n = length-rec (starts.recs i h) ∙ sym (q ∙ ap (λ k. get_or log k 0) e) in
          let z : at + (i + 1) ≡ suc (at + i) = omega arith in
          record {
            within = omega arith;
            small = let y = inv.small in let x = start_small i s h e in omega arith;
            long = length-set out (at + i) o ∙ inv.long;
            same = rw (z, ← l) (rw r at inv.same);
          }

      pub offering_done : length ss ≤ i → out ≡ sets out₀ at (offsets (recs_at log logtags ss) (length ss))
      unfolding offsets
      offering_done h = rw (recs_none log logtags ss i h) at inv.same

  -- ---- the words of a table
  pub lengths-sum : lengths (recs_at log logtags ss) ≡ sum_by (λ s. get_or log s 0) ss
  unfolding lengths recs_at
  lengths-sum = go ss starts.recs
    where
      go : (ts : List ℕ) → ((k : ℕ) → k < length ts → Rec 512 log logtags (get_or ts k 0)) → lengths (recs_at log logtags ts) ≡ sum_by (λ s. get_or log s 0) ts
      go [] f = refl
      go (t ∷ ts) f = ap₂ ◌+◌ (length-rec (f 0 (omega arith))) (go ts λ k h. f (suc k) (omega arith)) ∙ sym (sum_by-cons (λ s. get_or log s 0) t ts)

  pub sum_small : sum_by (λ s. get_or log s 0) ss ≤ 16383 * length ss
  sum_small = go ss starts.recs
    where
      go : (ts : List ℕ) → ((k : ℕ) → k < length ts → Rec 512 log logtags (get_or ts k 0)) → sum_by (λ s. get_or log s 0) ts ≤ 16383 * length ts
      go [] f = omega arith
      go (t ∷ ts) f = let r = f 0 (omega arith) in omega (arith, r.within, sum_by-cons (λ s. get_or log s 0) t ts, go ts λ k h. f (suc k) (omega arith))

  pub sized : (r : ℕ) → r ≡ sum_by (λ s. get_or log s 0) ss → (length ss + r ≡ table_size (recs_at log logtags ss)) × (length ss + r ≤ 512 * 16384)
  unfolding table_size
  sized r e = (omega (arith, recs_long log logtags ss, lengths-sum), omega (arith, sum_small, starts.few))

  -- ---- records
  module _ (ps out₀ : List ℕ) (at : ℕ) (fit : at + lengths (recs_at log logtags ss) ≤ 16384) where
    pub joining_begin : length out₀ ≡ 16384 → Joining log logtags ss ps out₀ at out₀ 0 at
    joining_begin l = record { within = omega arith; room = refl; long = l; same = refl }

    module _ (out : List ℕ) (i p : ℕ) (inv : Joining log logtags ss ps out₀ at out i p) where
      pub joining_room : i < length ss → (s : ℕ) → s ≡ get_or ss i 0 → p + get_or log s 0 ≤ 16384
      unfolding lengths
      joining_room h s e =
          let r = recs_next log logtags ss i h in
          let l : length (rec_at log logtags (get_or ss i 0)) ≡ get_or log s 0 = length-rec (starts.recs i h) ∙ ap (λ k. get_or log k 0) (sym e) in
          let z : p + (length (rec_at log logtags (get_or ss i 0)) + lengths (recs_at log logtags (drop (i + 1) ss))) ≡ at + lengths (recs_at log logtags ss) = rw r at inv.room in
          omega arith

      pub joining_next : i < length ss → (s : ℕ) → s ≡ get_or ss i 0 → (out₁ : List ℕ) (p₁ : ℕ) → (out₁ ≡ sets out p (map (named ps) (rec_at log logtags s))) × (p₁ ≡ p + get_or log s 0) → Joining log logtags ss ps out₀ at out₁ (i + 1) p₁
      unfolding lengths joined
      joining_next h s e out₁ p₁ w =
          let r = recs_next log logtags ss i h in
          let l : length (rec_at log logtags (get_or ss i 0)) ≡ get_or log s 0 = length-rec (starts.recs i h) ∙ ap (λ k. get_or log k 0) (sym e) in
          let z : p + (length (rec_at log logtags (get_or ss i 0)) + lengths (recs_at log logtags (drop (i + 1) ss))) ≡ at + lengths (recs_at log logtags ss) = rw r at inv.room in
          let m : length (map (named ps) (rec_at log logtags s)) ≡ get_or log s 0 = length-map (rec_at log logtags s) (named ps) ∙ ap (λ k. length (rec_at log logtags k)) e ∙ l in
          record {
            within = omega arith;
            room = let y = w.1 in omega arith;
            long = ap length w.0 ∙ length-sets out p (map (named ps) (rec_at log logtags s)) ∙ inv.long;
            same = rw (w.0, w.1, ← m) (sym (sets-append (map (named ps) (rec_at log logtags s)) out p (joined (named ps) (recs_at log logtags (drop (i + 1) ss)))) ∙ rw e (rw r at inv.same));
          }

      pub joining_done : length ss ≤ i → (out ≡ sets out₀ at (joined (named ps) (recs_at log logtags ss))) × (p ≡ at + lengths (recs_at log logtags ss))
      unfolding lengths joined
      joining_done h = let n = recs_none log logtags ss i h in (rw n at inv.same, (let z : p + 0 ≡ at + lengths (recs_at log logtags ss) = rw n at inv.room in omega arith))

  -- ---- a table
  pub table-room : (at : ℕ) → at + table_size (recs_at log logtags ss) ≤ 16384 → (at + length ss ≤ 16384) × (at + length ss + lengths (recs_at log logtags ss) ≤ 16384)
  unfolding table_size
  table-room at h = let y = recs_long log logtags ss in (omega arith, omega arith)

  pub table_done : (ps out₀ : List ℕ) (at : ℕ) (out₁ : List ℕ) → out₁ ≡ sets out₀ at (offsets (recs_at log logtags ss) (length ss))
      → (out₂ : List ℕ) (r : ℕ) → (out₂ ≡ sets out₁ (at + length ss) (joined (named ps) (recs_at log logtags ss))) × (r ≡ at + length ss + lengths (recs_at log logtags ss))
      → (out₂ ≡ sets out₀ at (table_words (named ps) (recs_at log logtags ss))) × (r ≡ at + table_size (recs_at log logtags ss))
  unfolding table_size table_words
  table_done ps out₀ at out₁ e out₂ r w =
      let y = recs_long log logtags ss in
      let l : length (offsets (recs_at log logtags ss) (length ss)) ≡ length ss = length-offsets (recs_at log logtags ss) (length ss) ∙ y in
      (rw (w.0, e, y, sets-append (offsets (recs_at log logtags ss) (length ss)) out₀ at (joined (named ps) (recs_at log logtags ss)), l), (let z = w.1 in omega arith))
