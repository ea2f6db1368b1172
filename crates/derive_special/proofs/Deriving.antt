-- What each step of setting a source does to the arrays: a type that is mapped to the derived one, a type that is imported for its place or its key, and steps one
-- after the other.
use mathlib.Core.Path.{◌≡◌, refl, sym, ap, ◌∙◌}
use mathlib.Core.Logic.{⊎_elim}
use mathlib.Core.Bool.{true, false, false≢true}
use mathlib.Core.List.{List, [], ◌∷◌}
use Prim.Native.Nat.{ℕ, suc, ◌+◌, ◌-◌, ◌*◌, ◌≤◌, ◌<◌, pred}
use native.Mathlib.Nat.{le_refl, le_trans}
use native.Mathlib.Omega.{arith}
use lib.ListN.{length, get_or, set, take, length-set, length-append}
use lib.Seq.{get_or-set_same, get_or-set_other, length-take-le}
use Rattle.model.specs.Table.{KEY, TYPE}
use Rattle.model.specs.Module.{count_at}
use Rattle.model.specs.Tables.{types, code_t, Tables, count, map_at}
use Rattle.model.specs.Imports.{Derived, import_t}
use Rattle.model.specs.Special.{force, with_special, put_ray, put_pair}
use Rattle.theory_records.specs.TableLaws.{at-six}
use Rattle.theory_records.specs.Trace.{Sized, import_trace}
use Rattle.derive_state.specs.Refers.{tab_of}
use Rattle.derive_state.specs.Flats.{pairs_at, special_of}
use Rattle.derive_state.specs.Source.{src_of, Source}
use Rattle.derive_state.specs.Held.{cell, put, table_of, maps_of, st_of, size_r, words_of, Over, long, keys, ValidArrays, Specials, Same, Beside, ImportEnsures}
use Rattle.derive_state.specs.Marks.{Marks}
use Rattle.derive_state.specs.Sizes.{Sizes}
use Rattle.derive_state.proofs.State.{tab_code, code_low, same_or, same_refl, marks_refl, pairs_long, tab_long, words_are, table_stays, kept-point}
use Rattle.derive_imports.proofs.Sources.{wf, count_is, count_few, inside, small_number}
use Rattle.derive_imports.proofs.Growth.{Grow, over_grow, grow_T}
use Rattle.derive_special.specs.Derives.{Aside, SpecialEnsures}
use Rattle.derive_special.proofs.Words.{with_pair, force_is, type_map, put_ray_is, put_pair_is, kept_paired}

-- ---- what is beside the tables
pub aside_refl : (starts : List (List ℕ)) (e : Sizes) → Aside starts starts e e
aside_refl starts e = record { functions_same = (refl, refl); entries_same = (refl, refl); tops_same = (refl, refl, refl) }

aside_of : {starts starts' : List (List ℕ)} {e r : Sizes} → Beside starts starts' e r → Aside starts starts' e r
aside_of b = record { functions_same = b.functions_same; entries_same = b.entries_same; tops_same = b.tops_same }

pub aside_then : {a b c : List (List ℕ)} {e f g : Sizes} → Aside a b e f → Aside b c f g → Aside a c e g
aside_then x y = record {
  functions_same = (y.functions_same.0 ∙ x.functions_same.0, y.functions_same.1 ∙ x.functions_same.1);
  entries_same = (y.entries_same.0 ∙ x.entries_same.0, y.entries_same.1 ∙ x.entries_same.1);
  tops_same = (y.tops_same.0 ∙ x.tops_same.0, y.tops_same.1 ∙ x.tops_same.1, y.tops_same.2 ∙ x.tops_same.2);
}

-- ---- special types
-- there are more types now
pub specials_more : {special : List ℕ} {e r : Sizes} → r.pairs ≡ e.pairs → get_or e.counts 1 0 ≤ get_or r.counts 1 0 → Specials special e → Specials special r
specials_more p h S = record { special_long = S.special_long; rays_in = λ i l. le_trans (S.rays_in i l) h; pairs_in_lem = λ i l. le_trans (S.pairs_in_lem i (rw p at l)) h }

specials_ray : (special : List ℕ) (e : Sizes) (k v : ℕ) → Specials special e → k < 3 → v ≤ get_or e.counts 1 0 → Specials (set special k v) e
specials_ray special e k v S h l =
    let z = S.special_long in
    record {
      special_long = length-set special k v ∙ S.special_long;
      rays_in = λ i q. ⊎_elim (λ (p : i ≡ k). rw (p, get_or-set_same special k v 0 (omega arith)) l) (λ (ne : i ≡ k → ⊥). rw (get_or-set_other special k i v 0 ne) (S.rays_in i q)) (same_or i k);
      pairs_in_lem = λ i q. rw (get_or-set_other special k (4 + 2 * i) v 0 (λ p. omega arith)) (S.pairs_in_lem i q);
    }

specials_pair : (special : List ℕ) (e : Sizes) (key v : ℕ) → Specials special e → e.pairs < 512 → v < get_or e.counts 1 0 → (r : Sizes) → r ≡ record { full = false; loglen = e.loglen; counts = e.counts; pairs = e.pairs + 1; exprtop = e.exprtop; bodytop = e.bodytop; made = e.made } → Specials (with_pair special e.pairs key v) r
specials_pair special e key v S h l r er =
    let z = S.special_long in
    let y = length-set special (3 + 2 * e.pairs) key in
    rw er
    (record {
      special_long = length-set (set special (3 + 2 * e.pairs) key) (4 + 2 * e.pairs) v ∙ length-set special (3 + 2 * e.pairs) key ∙ S.special_long;
      rays_in = λ i q. rw (get_or-set_other (set special (3 + 2 * e.pairs) key) (4 + 2 * e.pairs) i v 0 (λ p. omega arith), get_or-set_other special (3 + 2 * e.pairs) i key 0 (λ p. omega arith)) (S.rays_in i q);
      pairs_in_lem = λ i q. ⊎_elim
          (λ (p : i ≡ e.pairs). rw (p, get_or-set_same (set special (3 + 2 * e.pairs) key) (4 + 2 * e.pairs) v 0 (omega arith)) l)
          (λ (ne : i ≡ e.pairs → ⊥). rw (get_or-set_other (set special (3 + 2 * e.pairs) key) (4 + 2 * e.pairs) (4 + 2 * i) v 0 (λ p. ne (omega arith)), get_or-set_other special (3 + 2 * e.pairs) (4 + 2 * i) key 0 (λ p. omega arith)) (S.pairs_in_lem i (omega arith)))
          (same_or i e.pairs);
    })

-- where it is full
pub full_derives : (words log₀ logtags₀ : List ℕ) (starts₀ maps₀ : List (List ℕ)) (buckets₀ special₀ : List ℕ) (e₀ : Sizes) (f : Derived → Derived) (r : Sizes) (log logtags : List ℕ) (starts maps : List (List ℕ)) (buckets special : List ℕ) → r.full ≡ true → Over (size_r (table_of log₀ logtags₀ starts₀ e₀.counts 7)) (f (st_of words log₀ logtags₀ starts₀ maps₀ special₀ e₀))
    → Same e₀.loglen log₀ logtags₀ log logtags → length log ≡ 16384 → length logtags ≡ 16384 → Marks buckets₀ buckets → SpecialEnsures words f log₀ logtags₀ starts₀ maps₀ buckets₀ special₀ e₀ r log logtags starts maps buckets special
full_derives words log₀ logtags₀ starts₀ maps₀ buckets₀ special₀ e₀ f r log logtags starts maps buckets special q x s a b m = record {
  over = λ z. x;
  is = λ z. absurd (false≢true (sym z ∙ q));
  kept = λ z. absurd (false≢true (sym z ∙ q));
  specials = λ z. absurd (false≢true (sym z ∙ q));
  aside = λ z. absurd (false≢true (sym z ∙ q));
  more = λ z. absurd (false≢true (sym z ∙ q));
  below = s;
  log_long = a;
  tags_long = b;
  marks_stay = m;
}

-- ---- a step from these arrays
module _ (words tags : List ℕ) (n : ℕ) (src : Source words tags n) (o : ℕ) (log₀ logtags₀ : List ℕ) (starts₀ maps₀ : List (List ℕ)) (buckets₀ special₀ : List ℕ) (e₀ : Sizes) (nf : e₀.full ≡ false) (K₀ : ValidArrays log₀ logtags₀ starts₀ maps₀ buckets₀ e₀) (P₀ : Specials special₀ e₀) where
  abbrev T : Tables
  T = src_of words n

  abbrev S₀ : Derived
  S₀ = st_of words log₀ logtags₀ starts₀ maps₀ special₀ e₀

  -- nothing but the maps changes
  pub maps_derive : (f : Derived → Derived) (maps : List (List ℕ)) → f S₀ ≡ st_of words log₀ logtags₀ starts₀ maps special₀ e₀ → ValidArrays log₀ logtags₀ starts₀ maps buckets₀ e₀ → SpecialEnsures words f log₀ logtags₀ starts₀ maps₀ buckets₀ special₀ e₀ e₀ log₀ logtags₀ starts₀ maps buckets₀ special₀
  maps_derive f maps q K = record {
    over = λ z. absurd (false≢true (sym nf ∙ z));
    is = λ z. q;
    kept = λ z. K;
    specials = λ z. P₀;
    aside = λ z. aside_refl starts₀ e₀;
    more = λ z. le_refl _;
    below = same_refl e₀.loglen log₀ logtags₀;
    log_long = K₀.log_long;
    tags_long = K₀.tags_long;
    marks_stay = marks_refl buckets₀ K₀.marks_long;
  }

  -- a type that is mapped to the derived one, v - 1
  pub force_derives : (f : Derived → Derived) (h v : ℕ) → h < count_at 1 words → v ≤ get_or e₀.counts 1 0 → f S₀ ≡ force h v S₀ → SpecialEnsures words f log₀ logtags₀ starts₀ maps₀ buckets₀ special₀ e₀ e₀ log₀ logtags₀ starts₀ (put maps₀ 1 h v) buckets₀ special₀
  force_derives f h v hh hv q =
      maps_derive f (put maps₀ 1 h v) (q ∙ force_is words log₀ logtags₀ starts₀ maps₀ special₀ e₀ h hh v K₀.maps-six)
      (kept-point log₀ logtags₀ starts₀ maps₀ buckets₀ e₀ K₀ 1 h v (omega arith) (small_number words tags n src 1 h (omega arith) hh) hv)

  sized : Sized (src_of words n) (st_of words log₀ logtags₀ starts₀ maps₀ special₀ e₀)
  unfolding Sized st_of maps_of
  sized u =
      let a = count_is words tags n src (code_t u) (code_low u) in
      let b = count_few words tags n src (code_t u) (code_low u) in
      let r = K₀.rows' (code_t u) (code_low u) in
      ap length (at-six u (λ t. take (count_at (code_t t) words) (get_or maps₀ (code_t t) [])))
      ∙ length-take-le (count_at (code_t u) words) (get_or maps₀ (code_t u) []) (omega arith)
      ∙ rw (tab_code u) at a

  types_many : (special : List ℕ) {log logtags : List ℕ} {starts maps : List (List ℕ)} {buckets : List ℕ} {e : Sizes} → ValidArrays log logtags starts maps buckets e → count (st_of words log logtags starts maps special e).recs types ≡ get_or e.counts 1 0
  unfolding st_of count tab_of
  types_many special {log} {logtags} {starts} {maps} {buckets} {e} K = tab_long log logtags starts maps buckets e K 1 (omega arith)

  -- ---- type h is imported
  module _ (h : ℕ) (hh : h < count_at 1 words) (r : Sizes) (log logtags : List ℕ) (starts maps : List (List ℕ)) (buckets : List ℕ) (L : ImportEnsures words (import_t o (src_of words n) types h) log₀ logtags₀ starts₀ maps₀ buckets₀ e₀ r log logtags starts maps buckets) where
    abbrev S : Derived
    S = st_of words log logtags starts maps special₀ r

    -- it does not fit
    pub import_full : (f : Derived → Derived) → Grow (import_t o (src_of words n) types h S₀) (f S₀) → r.full ≡ true → SpecialEnsures words f log₀ logtags₀ starts₀ maps₀ buckets₀ special₀ e₀ r log logtags starts maps buckets special₀
    import_full f g q = full_derives words log₀ logtags₀ starts₀ maps₀ buckets₀ special₀ e₀ f r log logtags starts maps buckets special₀ q (over_grow _ g (L.over q special₀)) L.below L.log_long L.tags_long L.marks_stay

    module _ (q : r.full ≡ false) where
      many : get_or e₀.counts 1 0 ≤ get_or r.counts 1 0
      many =
          let a = types_many special₀ K₀ in
          let b = types_many special₀ (L.kept q) in
          let g : count S₀.recs types ≤ count S.recs types = rw (L.is q special₀) at ((grow_T o (src_of words n) types h S₀).rows types) in
          omega arith

      pub import_specials : Specials special₀ r
      import_specials = specials_more (L.beside q).pairs-same many P₀

      pub import_mapped : 0 < cell maps 1 h
      unfolding tab_of
      import_mapped =
          let a = (import_trace o (src_of words n) (wf words tags n src) types h S₀ (inside words tags n src 1 h (omega arith) hh) sized).1 in
          let b = rw (L.is q special₀) at a in
          rw (type_map words log logtags starts maps special₀ r h hh) at b

      pub import_low : cell maps 1 h ≤ get_or r.counts 1 0
      import_low = (L.kept q).mapped 1 h (omega arith)

      -- it is the one derived for place k
      pub put_derives : (f : Derived → Derived) (k : ℕ) → k < 3 → f S₀ ≡ put_ray k h (import_t o (src_of words n) types h S₀) → SpecialEnsures words f log₀ logtags₀ starts₀ maps₀ buckets₀ special₀ e₀ r log logtags starts maps buckets (set special₀ k (cell maps 1 h))
      put_derives f k hk is = record {
        over = λ z. absurd (false≢true (sym q ∙ z));
        is = λ z. is ∙ ap (put_ray k h) (L.is q special₀) ∙ put_ray_is words log logtags starts maps special₀ r h hh k hk P₀.special_long;
        kept = λ z. L.kept q;
        specials = λ z. specials_ray special₀ r k (cell maps 1 h) import_specials hk import_low;
        aside = λ z. aside_of (L.beside q);
        more = λ z. L.more q;
        below = L.below;
        log_long = L.log_long;
        tags_long = L.tags_long;
        marks_stay = L.marks_stay;
      }

      -- it is the one derived for a key
      module _ (f : Derived → Derived) (key : ℕ) (is : f S₀ ≡ put_pair key h (import_t o (src_of words n) types h S₀)) where
        at-end : f S₀ ≡ put_pair key h S
        at-end = is ∙ ap (put_pair key h) (L.is q special₀)

        entries : size_r (table_of log logtags starts r.counts 7) ≡ size_r (table_of log₀ logtags₀ starts₀ e₀.counts 7)
        entries =
            rw ((L.beside q).entries_same.0, (L.beside q).entries_same.1)
            (ap size_r (table_stays log₀ logtags₀ log logtags starts₀ maps₀ buckets₀ buckets e₀ K₀ L.below L.log_long L.tags_long L.marks_stay 7 (omega arith)))

        key_long : length (put_pair key h S).special.pairs ≡ suc r.pairs
        unfolding put_pair with_special st_of special_of
        key_long = length-append (pairs_at special₀ 3 r.pairs) _ ∙ rw (pairs_long special₀ r.pairs 3) (omega arith)

        -- there are 512 keys
        pub key_many : r.pairs ≡ 512 → (r' : Sizes) → r'.full ≡ true → SpecialEnsures words f log₀ logtags₀ starts₀ maps₀ buckets₀ special₀ e₀ r' log logtags starts maps buckets special₀
        key_many p r' q' = let k = key_long in full_derives words log₀ logtags₀ starts₀ maps₀ buckets₀ special₀ e₀ f r' log logtags starts maps buckets special₀ q' (keys (rw at-end (omega arith))) L.below L.log_long L.tags_long L.marks_stay

        -- the image has no room
        key_words : words_of (put_pair key h S) ≡ 2 + words_of S
        unfolding words_of put_pair with_special
        key_words = let l = length-append S.special.pairs (((KEY, key) ∷ (TYPE, pred (map_at S.maps types h)) ∷ []) ∷ []) in omega arith

        pub key_left : (room : ℕ) → room + (23 + 2 * r.pairs + r.loglen) ≡ 16384 → room < 2 → (r' : Sizes) → r'.full ≡ true → SpecialEnsures words f log₀ logtags₀ starts₀ maps₀ buckets₀ special₀ e₀ r' log logtags starts maps buckets special₀
        key_left room hr lt r' q' =
            let w = words_are log logtags starts maps buckets r (L.kept q) words special₀ in
            let k = key_words in
            let s = entries in
            full_derives words log₀ logtags₀ starts₀ maps₀ buckets₀ special₀ e₀ f r' log logtags starts maps buckets special₀ q' (long (rw (at-end, ← entries) (omega arith))) L.below L.log_long L.tags_long L.marks_stay

        -- a pair more
        pub key_derives : (r.pairs ≡ 512 → ⊥) → (room : ℕ) → room + (23 + 2 * r.pairs + r.loglen) ≡ 16384 → 2 ≤ room
            → (r' : Sizes) → r' ≡ record { full = false; loglen = r.loglen; counts = r.counts; pairs = r.pairs + 1; exprtop = r.exprtop; bodytop = r.bodytop; made = r.made }
            → SpecialEnsures words f log₀ logtags₀ starts₀ maps₀ buckets₀ special₀ e₀ r' log logtags starts maps buckets (with_pair special₀ r.pairs key (cell maps 1 h - 1))
        key_derives ne room hr le r' er =
            let few = (L.kept q).few_pairs in
            let m = import_mapped in
            let low = import_low in
            let z : cell maps 1 h - 1 ≡ pred (cell maps 1 h) = omega arith in
            let hp : r.pairs < 512 = omega arith in
            let b = aside_of (L.beside q) in
            record {
              over = λ y. absurd (false≢true (sym (ap (λ (x : Sizes). x.full) er) ∙ y));
              is = λ y. at-end ∙ rw z (put_pair_is words log logtags starts maps special₀ r h hh key hp P₀.special_long r' er);
              kept = λ y. kept_paired log logtags starts maps buckets r (L.kept q) hp (omega arith) r' er;
              specials = λ y. specials_pair special₀ r key (cell maps 1 h - 1) import_specials hp (omega arith) r' er;
              aside = λ y. rw er (record { functions_same = b.functions_same; entries_same = b.entries_same; tops_same = b.tops_same });
              more = λ y. rw er (L.more q);
              below = L.below;
              log_long = L.log_long;
              tags_long = L.tags_long;
              marks_stay = L.marks_stay;
            }
