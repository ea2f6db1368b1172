-- Starts and maps that were saved hold the state that they were saved of.
use mathlib.Core.Path.{◌≡◌, refl, sym, ap, ap₂, ◌∙◌}
use mathlib.Core.List.{List, map}
use Prim.Native.Nat.{ℕ, zero, suc, ◌+◌, ◌≤◌, ◌<◌}
use native.Mathlib.Omega.{arith}
use lib.ListN.{get_or}
use lib.Seq.{get_or-take}
use Rattle.model.specs.Tables.{code_t, six}
use Rattle.derive_state.specs.Flats.{function_of, special_of}
use Rattle.derive_state.specs.Held.{row, cell, recs_at, table_of, recs_of, functions_of, entries_of, maps_of, st_of, size_r, sizes_of, ValidArrays}
use Rattle.derive_state.specs.Sizes.{Sizes}
use Rattle.derive_state.proofs.State.{code_low}
use Rattle.derive_snapshot.specs.Snapshot.{SaveEnsures}

module _ (words log logtags : List ℕ) (starts maps : List (List ℕ)) (e : Sizes) (s m : List (List ℕ)) (S : SaveEnsures words starts maps e s m) where
  table_saved : (t : ℕ) → t < 8 → table_of log logtags s e.counts t ≡ table_of log logtags starts e.counts t
  table_saved t h = ap (recs_at log logtags) (S.of_starts.same t h)

  cell_saved : (t k : ℕ) → t < 8 → k < get_or e.counts t 0 → cell s t k ≡ cell starts t k
  cell_saved t k h l = sym (get_or-take (get_or e.counts t 0) (row s t) k 0 l) ∙ ap (λ (xs : List ℕ). get_or xs k 0) (S.of_starts.same t h) ∙ get_or-take (get_or e.counts t 0) (row starts t) k 0 l

  sizes_saved : (n : ℕ) → n ≤ 8 → sizes_of log logtags s e.counts n ≡ sizes_of log logtags starts e.counts n
  unfolding sizes_of
  sizes_saved zero h = refl
  sizes_saved (suc n) h = ap₂ ◌+◌ (sizes_saved n (omega arith)) (ap size_r (table_saved n (omega arith)))

  pub st_saved : (special : List ℕ) → st_of words log logtags s m special e ≡ st_of words log logtags starts maps special e
  unfolding st_of recs_of functions_of maps_of
  st_saved special i = record {
    recs = six (λ t. table_saved (code_t t) (omega (arith, code_low t)) i);
    maps = six (λ t. S.of_maps.same (code_t t) (code_low t) i);
    functions = map function_of (table_saved 6 (omega arith) i);
    special = special_of special e.pairs;
  }

  pub kept_saved : (buckets : List ℕ) → ValidArrays log logtags starts maps buckets e → ValidArrays log logtags s m buckets e
  unfolding functions_of entries_of
  kept_saved buckets K = record {
    room = K.room;
    few = K.few;
    few_functions = K.few_functions;
    few_entries = K.few_entries;
    few_pairs = K.few_pairs;
    log_long = K.log_long;
    tags_long = K.tags_long;
    marks_long = K.marks_long;
    starts_eight = S.of_starts.many;
    maps-six = S.of_maps.many;
    counts_eight = K.counts_eight;
    rows = S.of_starts.rows';
    rows' = S.of_maps.rows';
    within = λ t k h l. rw (cell_saved t k h l) (K.within t k h l);
    size = sizes_saved 8 (omega arith) ∙ K.size;
    flats = rw (table_saved 6 (omega arith)) K.flats;
    flats' = rw (table_saved 7 (omega arith)) K.flats';
    named = λ t k h l. rw (cell_saved t k h l) (K.named t k h l);
    plain = λ k l. rw (cell_saved 0 k (omega arith) l) (K.plain k l);
    apart = rw (table_saved 0 (omega arith)) K.apart;
    mapped = λ t k h. let a = K.mapped t k h in let b = S.of_maps.low t k h in omega arith;
    marked = λ t k h l. rw (cell_saved t k (omega arith) l) (K.marked t k h l);
  }
