-- Tables one after the other, their sizes and the header.
use mathlib.Core.Path.{◌≡◌, refl, sym, ap, ap₂, ◌∙◌}
use mathlib.Core.List.{List, [], ◌∷◌, map}
use Prim.Native.Nat.{ℕ, zero, suc, ◌+◌, ◌*◌, ◌≤◌, ◌<◌}
use native.Mathlib.Omega.{arith}
use lib.ListN.{length, get_or, set, take, drop, length-set, length-map, length-append}
use Rattle.std.specs.List.{sum_by, range_with_len}
use Rattle.std.proofs.lemmas.List.Sums.{sum_by-cons}
use lib.Seq.{sets, length-sets, length-take-le}
use Rattle.theory_lists.specs.Stores.{sets-append}
use Rattle.model.specs.Outcome.{Cell, Cells}
use Rattle.derive_state.proofs.State.{recs_long}
use Rattle.derive_sections.specs.Flat.{lengths, table_size, offsets, joined, table_words, sizes, heads, tables}
use Rattle.derive_state.specs.Held.{recs_at}
use Rattle.derive_sections.specs.Rows.{tabs_of, Starts, Rows, named}
use Rattle.derive_sections.proofs.Notes.{row-starts, tabs_next, tabs_none}
use Rattle.derive_sections.proofs.Writes.{length-offsets, sized}

-- ---- lengths
length-joined : (f : Cell → ℕ) (rs : List Cells) → length (joined f rs) ≡ lengths rs
unfolding joined lengths
length-joined f [] = refl
length-joined f (r ∷ rs) = length-append (map f r) (joined f rs) ∙ ap₂ ◌+◌ (length-map r f) (length-joined f rs)

pub length-table : (f : Cell → ℕ) (rs : List Cells) → length (table_words f rs) ≡ table_size rs
unfolding table_words table_size
length-table f rs = length-append (offsets rs (length rs)) (joined f rs) ∙ ap₂ ◌+◌ (length-offsets rs (length rs)) (length-joined f rs)

module _ (log logtags : List ℕ) (starts : List (List ℕ)) (counts : List ℕ) where
  pub record Tabling (ps out₀ : List ℕ) (at : ℕ) (out : List ℕ) (t p : ℕ) : Type 0 where
    pub within : t ≤ 8
    pub room : p + sizes (tabs_of log logtags (drop t starts) (drop t counts)) ≡ at + sizes (tabs_of log logtags starts counts)
    pub long : length out ≡ 16384
    pub same : sets out p (tables (named ps) (tabs_of log logtags (drop t starts) (drop t counts))) ≡ sets out₀ at (tables (named ps) (tabs_of log logtags starts counts))

  pub record Heading (pairs : ℕ) (out₀ out : List ℕ) (t p : ℕ) : Type 0 where
    pub within : t ≤ 8
    pub small : p ≤ 20 + 8388608 * t
    pub long : length out ≡ 16384
    pub same : sets out (2 + 2 * t) (heads (tabs_of log logtags (drop t starts) (drop t counts)) p pairs) ≡ sets out₀ 2 (heads (tabs_of log logtags starts counts) 20 pairs)

module _ (log logtags : List ℕ) (starts : List (List ℕ)) (counts : List ℕ) (rows : Rows 512 log logtags starts counts) where
  -- the tables from t on
  abbrev From : ℕ → List (List Cells)
  From t = tabs_of log logtags (drop t starts) (drop t counts)

  abbrev Whole : List (List Cells)
  Whole = tabs_of log logtags starts counts

  abbrev Tab : ℕ → List Cells
  Tab t = recs_at log logtags (take (get_or counts t 0) (get_or starts t []))

  from_next : (t : ℕ) → t < 8 → From t ≡ Tab t ∷ From (t + 1)
  from_next t h = tabs_next log logtags starts counts t (omega (arith, rows.eight)) (omega (arith, rows.eight'))

  from_none : (t : ℕ) → 8 ≤ t → From t ≡ []
  from_none t h = tabs_none log logtags starts counts t (omega (arith, rows.eight))

  pub rows_starts : (t : ℕ) → t < 8 → (ss : List ℕ) → ss ≡ take (get_or counts t 0) (get_or starts t []) → Starts 512 log logtags ss
  rows_starts t h ss e = rw e (row-starts (rows.rows t h))

  tab_count : (t : ℕ) → t < 8 → length (Tab t) ≡ get_or counts t 0
  tab_count t h = let r = rows.rows t h in recs_long log logtags (take (get_or counts t 0) (get_or starts t [])) ∙ length-take-le (get_or counts t 0) (get_or starts t []) (omega (arith, r.row_long, r.few))

  -- ---- all tables
  module _ (ps out₀ : List ℕ) (at : ℕ) (fit : at + sizes Whole ≤ 16384) where
    pub tabling_begin : length out₀ ≡ 16384 → Tabling log logtags starts counts ps out₀ at out₀ 0 at
    tabling_begin l = record { within = omega arith; room = refl; long = l; same = refl }

    module _ (out : List ℕ) (t p : ℕ) (inv : Tabling log logtags starts counts ps out₀ at out t p) where
      pub tabling_room : t < 8 → (ss : List ℕ) → ss ≡ take (get_or counts t 0) (get_or starts t []) → p + table_size (recs_at log logtags ss) ≤ 16384
      unfolding sizes
      tabling_room h ss e =
          let r = from_next t h in
          let z : p + (table_size (Tab t) + sizes (From (t + 1))) ≡ at + sizes Whole = rw r at inv.room in
          rw e (omega arith)

      pub tabling_next : t < 8 → (ss : List ℕ) → ss ≡ take (get_or counts t 0) (get_or starts t []) → (out₁ : List ℕ) (p₁ : ℕ) → (out₁ ≡ sets out p (table_words (named ps) (recs_at log logtags ss))) × (p₁ ≡ p + table_size (recs_at log logtags ss)) → Tabling log logtags starts counts ps out₀ at out₁ (t + 1) p₁
      unfolding sizes tables
      tabling_next h ss e out₁ p₁ v =
          let w : (out₁ ≡ sets out p (table_words (named ps) (Tab t))) × (p₁ ≡ p + table_size (Tab t)) = rw e at v in
          let r = from_next t h in
          let z : p + (table_size (Tab t) + sizes (From (t + 1))) ≡ at + sizes Whole = rw r at inv.room in
          let m = length-table (named ps) (Tab t) in
          record {
            within = omega arith;
            room = let y = w.1 in omega arith;
            long = ap length w.0 ∙ length-sets out p (table_words (named ps) (Tab t)) ∙ inv.long;
            same = rw (w.0, w.1, ← m) (sym (sets-append (table_words (named ps) (Tab t)) out p (tables (named ps) (From (t + 1)))) ∙ (rw r at inv.same));
          }

      pub tabling_done : 8 ≤ t → (out ≡ sets out₀ at (tables (named ps) Whole)) × (p ≡ at + sizes Whole)
      unfolding sizes tables
      tabling_done h = let n = from_none t h in (rw n at inv.same, (let z : p + 0 ≡ at + sizes Whole = rw n at inv.room in omega arith))

  -- ---- the sizes
  sizes-from : (n t : ℕ) → t + n ≡ 8 → sizes (From t) ≡ sum_by (λ u. table_size (Tab u)) (range_with_len t n)
  unfolding sizes
  sizes-from zero t e = rw (from_none t (omega arith)) refl
  sizes-from (suc n) t e = rw (from_next t (omega arith), sum_by-cons (λ u. table_size (Tab u)) t (range_with_len (t + 1) n)) (ap (table_size (Tab t) +◌) (sizes-from n (t + 1) (omega arith)))

  table_small : (t : ℕ) → t < 8 → table_size (Tab t) ≤ 512 * 16384
  table_small t h = let s = sized log logtags (take (get_or counts t 0) (get_or starts t [])) (row-starts (rows.rows t h)) _ refl in omega (arith, s.0, s.1)

  sizes_small : (n t : ℕ) → t + n ≡ 8 → sizes (From t) ≤ 8388608 * n
  unfolding sizes
  sizes_small zero t e = rw (from_none t (omega arith)) (omega arith)
  sizes_small (suc n) t e = rw (from_next t (omega arith)) (omega (arith, table_small t (omega arith), sizes_small n (t + 1) (omega arith)))

  pub table_sum : (r : ℕ) → r ≡ sum_by (λ t. table_size (Tab t)) (range_with_len 0 8) → (r ≡ sizes Whole) × (r ≤ 4096 * 16384)
  table_sum r e = let z = sizes-from 8 0 refl in (e ∙ sym z, omega (arith, e, z, sizes_small 8 0 refl))

  -- ---- the header
  module _ (pairs : ℕ) (out₀ : List ℕ) where
    pub heading_begin : length out₀ ≡ 16384 → Heading log logtags starts counts pairs out₀ out₀ 0 20
    heading_begin l = record { within = omega arith; small = omega arith; long = l; same = refl }

    module _ (out : List ℕ) (t p : ℕ) (inv : Heading log logtags starts counts pairs out₀ out t p) where
      pub heading_next : t < 8 → (n : ℕ) → (n ≡ table_size (Tab t)) × (n ≤ 512 * 16384) → Heading log logtags starts counts pairs out₀ (set (set out (2 + 2 * t) (get_or counts t 0)) (3 + 2 * t) p) (t + 1) (p + n)
      unfolding heads
      heading_next h n w =
          let r = from_next t h in
          let e : 2 + 2 * (t + 1) ≡ suc (suc (2 + 2 * t)) = omega arith in
          let f : 3 + 2 * t ≡ suc (2 + 2 * t) = omega arith in
          record {
            within = omega arith;
            small = let q = inv.small in let x = w.1 in omega arith;
            long = length-set (set out (2 + 2 * t) (get_or counts t 0)) (3 + 2 * t) p ∙ length-set out (2 + 2 * t) (get_or counts t 0) ∙ inv.long;
            same = rw (e, f, w.0) (rw (tab_count t h) at (rw r at inv.same));
          }

      pub heading_done : 8 ≤ t → set (set out 18 pairs) 19 p ≡ sets out₀ 2 (heads Whole 20 pairs)
      unfolding heads
      heading_done h = let e : t ≡ 8 = (let v = inv.within in omega arith) in let n = from_none t h in rw e at (rw n at inv.same)
