-- The start of a session, and a new source.
use Rattle.std.proofs.Common.{◌≡◌, ℕ, zero, suc, ◌+◌, ◌<◌, ◌≤◌, false, List, [], ◌∷◌, length, get_or, take, replicate, sym, refl, ap, ◌∙◌, ap₂, arith}
use lib.ListN.{length-replicate}
use Rattle.theory_lists.specs.Lists.{zeros}
use Rattle.model.specs.Module.{count_at}
use Rattle.model.specs.Tables.{Tab, code_t, Tables, count, Maps}
use Rattle.model.specs.Imports.{fresh, unmapped, emptied}
use Rattle.theory_records.specs.TableLaws.{at-six}
use Rattle.derive_state.specs.Flats.{pairs_at, special_of}
use Rattle.derive_state.specs.Marks.{MARKS}
use Rattle.derive_state.specs.Held.{row, recs_at, table_of, recs_of, functions_of, entries_of, maps_of, st_of, size_r, sizes_of, ValidArrays}
use Rattle.derive_state.specs.Sizes.{Sizes}
use Rattle.derive_state.proofs.State.{code_low, six_ext}

pub rows_at : (x : List ℕ) (k n : ℕ) → n < k → get_or (replicate k x) n [] ≡ x
rows_at x zero n h = absurd (omega arith)
rows_at x (suc k) zero h = refl
rows_at x (suc k) (suc n) h = rows_at x k n (omega arith)

take_zeros : (n k : ℕ) → n ≤ k → take n (replicate k 0) ≡ replicate {A = ℕ} n 0
take_zeros zero k h = refl
take_zeros (suc n) zero h = absurd (omega arith)
take_zeros (suc n) (suc k) h = ap (λ (l : List ℕ). 0 ∷ l) (take_zeros n k (omega arith))

abbrev E : Sizes
E = record { full = false; loglen = 0; counts = replicate 8 0; pairs = 0; exprtop = 0; bodytop = 0; made = 0 }

module _ (log logtags : List ℕ) (starts : List (List ℕ)) (buckets : List ℕ) (hl : length log ≡ 16384) (ht : length logtags ≡ 16384) (hm : length buckets ≡ MARKS) (hs : length starts ≡ 8) (hr : (t : ℕ) → t < 8 → length (row starts t) ≡ 512) where
  table_none : (t : ℕ) → table_of log logtags starts (replicate 8 0) t ≡ []
  unfolding recs_at
  table_none t = rw (zeros 8 t)

  sizes-none : (m : ℕ) → sizes_of log logtags starts (replicate 8 0) m ≡ 0
  unfolding sizes_of size_r
  sizes-none zero = refl
  sizes-none (suc m) = ap₂ ◌+◌ (sizes-none m) (ap size_r (table_none m))

  -- the arrays of an empty session
  pub kept-nothing : ValidArrays log logtags starts (replicate 6 (replicate 512 0)) buckets E
  unfolding functions_of entries_of
  kept-nothing = record {
    room = omega arith;
    few = λ t h. let z = zeros 8 t in omega arith;
    few_functions = omega arith;
    few_entries = omega arith;
    few_pairs = omega arith;
    log_long = hl;
    tags_long = ht;
    marks_long = hm;
    starts_eight = hs;
    maps-six = refl;
    counts_eight = refl;
    rows = hr;
    rows' = λ t h. ap length (rows_at (replicate 512 0) 6 t h) ∙ length-replicate {A = ℕ} 512 0;
    within = λ t k h l. let z = zeros 8 t in absurd (omega arith);
    size = sizes-none 8;
    flats = rw (table_none 6);
    flats' = rw (table_none 7);
    named = λ t k h l. let z = zeros 8 t in absurd (omega arith);
    plain = λ k l. absurd (omega arith);
    apart = rw (table_none 0) (λ k l. absurd (omega arith));
    mapped = λ t k h. rw (rows_at (replicate 512 0) 6 t h, zeros 512 k) (omega arith);
    marked = λ t k h l. let z = zeros 8 t in absurd (omega arith);
  }

  -- it is the model's fresh state, whatever source is set
  pub st_nothing : (words special : List ℕ) → get_or special 0 0 ≡ 0 → get_or special 1 0 ≡ 0 → get_or special 2 0 ≡ 0 → st_of words log logtags starts (replicate 6 (replicate 512 0)) special E ≡ emptied (maps_of words (replicate 6 (replicate 512 0))) fresh
  unfolding st_of functions_of special_of pairs_at emptied fresh recs_of
  st_nothing words special a b c = rw (a, b, c, table_none 6) (ap (λ (r : Tables). record { recs = r; maps = maps_of words (replicate 6 (replicate 512 0)); functions = []; special = fresh.special }) (six_ext _ _ (λ u. at-six u (λ t. table_of log logtags starts (replicate 8 0) (code_t t)) ∙ table_none (code_t u) ∙ sym (at-six u (λ t. [])))))

-- "Setting and clearing empty every map": the maps of a source whose counts are in the words
module _ (words log logtags : List ℕ) (starts maps : List (List ℕ)) (e : Sizes) (T : Tables) (counts : (u : Tab) → count_at (code_t u) words ≡ count T u) (few : (u : Tab) → count T u ≤ 512) where
  pub forgotten : (special : List ℕ) → st_of words log logtags starts (replicate 6 (replicate 512 0)) special e ≡ emptied (unmapped T) (st_of words log logtags starts maps special e)
  unfolding st_of maps_of emptied unmapped
  forgotten special =
      ap (λ (m : Maps). record { recs = recs_of log logtags starts e.counts; maps = m; functions = functions_of log logtags starts e.counts; special = special_of special e.pairs })
      (six_ext _ _ (λ u.
      let c = counts u in
      let f = few u in
      at-six u (λ t. take (count_at (code_t t) words) (get_or (replicate 6 (replicate 512 0)) (code_t t) []))
      ∙ rw (rows_at (replicate 512 0) 6 (code_t u) (code_low u), c, take_zeros (count T u) 512 f) (sym (at-six u (λ t. replicate {A = ℕ} (count T t) 0)))))

-- the maps of any source may be cleared
pub kept_forgotten : (log logtags : List ℕ) (starts maps : List (List ℕ)) (buckets : List ℕ) (e : Sizes) → ValidArrays log logtags starts maps buckets e → ValidArrays log logtags starts (replicate 6 (replicate 512 0)) buckets e
kept_forgotten log logtags starts maps buckets e K = record {
  room = K.room;
  few = K.few;
  few_functions = K.few_functions;
  few_entries = K.few_entries;
  few_pairs = K.few_pairs;
  log_long = K.log_long;
  tags_long = K.tags_long;
  marks_long = K.marks_long;
  starts_eight = K.starts_eight;
  maps-six = refl;
  counts_eight = K.counts_eight;
  rows = K.rows;
  rows' = λ t h. ap length (rows_at (replicate 512 0) 6 t h) ∙ length-replicate {A = ℕ} 512 0;
  within = K.within;
  size = K.size;
  flats = K.flats;
  flats' = K.flats';
  named = K.named;
  plain = K.plain;
  apart = K.apart;
  mapped = λ t k h. rw (rows_at (replicate 512 0) 6 t h, zeros 512 k) (omega arith);
  marked = K.marked;
}
