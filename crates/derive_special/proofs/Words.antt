-- The words of the special types: a place that is set, a pair more, and what the model makes of the state then.
use mathlib.Core.Path.{◌≡◌, refl, sym, ap, ap₂, ◌∙◌}
use mathlib.Core.Bool.{false}
use mathlib.Core.List.{List, [], ◌∷◌, ◌++◌}
use Prim.Native.Nat.{ℕ, zero, suc, ◌+◌, ◌*◌, ◌≤◌, ◌<◌, pred}
use native.Mathlib.Numerals.{add-one}
use native.Mathlib.Omega.{arith}
use lib.ListN.{length, get_or, set, length-set}
use lib.Seq.{get_or-set_same, get_or-set_other}
use Rattle.model.specs.Outcome.{Cells, word}
use Rattle.model.specs.Table.{OPT_TYPE, KEY, TYPE}
use Rattle.model.specs.Module.{Special, count_at}
use Rattle.model.specs.Tables.{types, code_t, Maps, map_at}
use Rattle.model.specs.Special.{force, with_special, put_ray, put_pair}
use Rattle.derive_state.specs.Refers.{tab_of}
use Rattle.derive_state.specs.Flats.{pairs_at, special_of}
use Rattle.derive_state.specs.Held.{cell, put, recs_of, functions_of, st_of, ValidArrays}
use Rattle.derive_state.specs.Sizes.{Sizes}
use Rattle.derive_state.proofs.State.{maps-put}
use Rattle.derive_imports.proofs.Turns.{map_is}

-- ---- words elsewhere do not matter
pairs-apart : (ws : List ℕ) (k v n i : ℕ) → ((j : ℕ) → i ≤ j → j < i + 2 * n → j ≡ k → ⊥) → pairs_at (set ws k v) i n ≡ pairs_at ws i n
unfolding pairs_at
pairs-apart ws k v zero i h = refl
pairs-apart ws k v (suc n) i h =
    rw (get_or-set_other ws k i v 0 (h i (omega arith) (omega arith)), get_or-set_other ws k (1 + i) v 0 (h (1 + i) (omega arith) (omega arith)), pairs-apart ws k v n (2 + i) (λ j a b. h j (omega arith) (omega arith)))

-- the last pair
pairs-last : (ws : List ℕ) (n i : ℕ) → pairs_at ws i (suc n) ≡ pairs_at ws i n ++ (((KEY, get_or ws (i + 2 * n) 0) ∷ (TYPE, get_or ws (1 + (i + 2 * n)) 0) ∷ []) ∷ [])
unfolding pairs_at
pairs-last ws zero i = let z : i + 2 * 0 ≡ i = omega arith in rw z
pairs-last ws (suc n) i =
    let z : i + 2 * suc n ≡ 2 + i + 2 * n = omega arith in
    rw z (ap (λ (l : List Cells). ((KEY, get_or ws i 0) ∷ (TYPE, get_or ws (1 + i) 0) ∷ []) ∷ l) (pairs-last ws n (2 + i)))

special_is : {a a' b b' c c' : ℕ} {ps ps' : List Cells} → a ≡ a' → b ≡ b' → c ≡ c' → ps ≡ ps' → ◌≡◌ {A = Special} (record { rays = (OPT_TYPE, a) ∷ (OPT_TYPE, b) ∷ (OPT_TYPE, c) ∷ []; pairs = ps }) (record { rays = (OPT_TYPE, a') ∷ (OPT_TYPE, b') ∷ (OPT_TYPE, c') ∷ []; pairs = ps' })
special_is p q r s i = record { rays = (OPT_TYPE, p i) ∷ (OPT_TYPE, q i) ∷ (OPT_TYPE, r i) ∷ []; pairs = s i }

-- ---- the three places
pub ray_is : (special : List ℕ) (n k : ℕ) → k < 3 → word (get_or (special_of special n).rays k (0, 0)) ≡ get_or special k 0
unfolding special_of
ray_is special n zero h = refl
ray_is special n (suc zero) h = refl
ray_is special n (suc (suc zero)) h = refl
ray_is special n (suc (suc (suc k))) h = absurd (omega arith)

special-ray : (special : List ℕ) (n k v : ℕ) → k < 3 → length special ≡ 1027 → ◌≡◌ {A = Special} (record { rays = set (special_of special n).rays k (OPT_TYPE, v); pairs = (special_of special n).pairs }) (special_of (set special k v) n)
unfolding special_of
special-ray special n zero v h l =
    special_is (sym (get_or-set_same special 0 v 0 (omega arith))) (sym (get_or-set_other special 0 1 v 0 (λ e. omega arith))) (sym (get_or-set_other special 0 2 v 0 (λ e. omega arith))) (sym (pairs-apart special 0 v n 3 (λ j a b e. omega arith)))
special-ray special n (suc zero) v h l =
    special_is (sym (get_or-set_other special 1 0 v 0 (λ e. omega arith))) (sym (get_or-set_same special 1 v 0 (omega arith))) (sym (get_or-set_other special 1 2 v 0 (λ e. omega arith))) (sym (pairs-apart special 1 v n 3 (λ j a b e. omega arith)))
special-ray special n (suc (suc zero)) v h l =
    special_is (sym (get_or-set_other special 2 0 v 0 (λ e. omega arith))) (sym (get_or-set_other special 2 1 v 0 (λ e. omega arith))) (sym (get_or-set_same special 2 v 0 (omega arith))) (sym (pairs-apart special 2 v n 3 (λ j a b e. omega arith)))
special-ray special n (suc (suc (suc k))) v h l = absurd (omega arith)

-- ---- a pair more
abbrev pub with_pair : List ℕ → ℕ → ℕ → ℕ → List ℕ
with_pair special n key v = set (set special (3 + 2 * n) key) (4 + 2 * n) v

special-pair : (special : List ℕ) (n key v : ℕ) → n < 512 → length special ≡ 1027
    → ◌≡◌ {A = Special} (record { rays = (special_of special n).rays; pairs = (special_of special n).pairs ++ (((KEY, key) ∷ (TYPE, v) ∷ []) ∷ []) }) (special_of (with_pair special n key v) (suc n))
unfolding special_of
special-pair special n key v h l =
    special_is (sym (other 0 (omega arith))) (sym (other 1 (omega arith))) (sym (other 2 (omega arith)))
    (sym (pairs-last (with_pair special n key v) n 3 ∙ ap₂ (λ (ps : List Cells) (p : Cells). ps ++ (p ∷ [])) before last))
  where
    other : (j : ℕ) → j < 3 → get_or (with_pair special n key v) j 0 ≡ get_or special j 0
    other j q = get_or-set_other (set special (3 + 2 * n) key) (4 + 2 * n) j v 0 (λ e. omega arith) ∙ get_or-set_other special (3 + 2 * n) j key 0 (λ e. omega arith)

    before : pairs_at (with_pair special n key v) 3 n ≡ pairs_at special 3 n
    before = pairs-apart (set special (3 + 2 * n) key) (4 + 2 * n) v n 3 (λ j a b e. omega arith) ∙ pairs-apart special (3 + 2 * n) key n 3 (λ j a b e. omega arith)

    last : ◌≡◌ {A = Cells} ((KEY, get_or (with_pair special n key v) (3 + 2 * n) 0) ∷ (TYPE, get_or (with_pair special n key v) (1 + (3 + 2 * n)) 0) ∷ []) ((KEY, key) ∷ (TYPE, v) ∷ [])
    last =
        let z : 1 + (3 + 2 * n) ≡ 4 + 2 * n = omega arith in
        let l' = length-set special (3 + 2 * n) key in
        let a : get_or (with_pair special n key v) (3 + 2 * n) 0 ≡ key = get_or-set_other (set special (3 + 2 * n) key) (4 + 2 * n) (3 + 2 * n) v 0 (λ e. omega arith) ∙ get_or-set_same special (3 + 2 * n) key 0 (omega arith) in
        let b : get_or (with_pair special n key v) (1 + (3 + 2 * n)) 0 ≡ v = rw z (get_or-set_same (set special (3 + 2 * n) key) (4 + 2 * n) v 0 (omega arith)) in
        rw (a, b)

-- ---- what the model makes of the state
module _ (words log logtags : List ℕ) (starts maps : List (List ℕ)) (special : List ℕ) (e : Sizes) (n : ℕ) (hn : n < count_at 1 words) where
  pub force_is : (v : ℕ) → length maps ≡ 6 → force n v (st_of words log logtags starts maps special e) ≡ st_of words log logtags starts (put maps 1 n v) special e
  unfolding force st_of tab_of
  force_is v h =
      ap (λ (m : Maps). record { recs = recs_of log logtags starts e.counts; maps = m; functions = functions_of log logtags starts e.counts; special = special_of special e.pairs })
      (maps-put words maps 1 n v (omega arith) h hn)

  pub type_map : map_at (st_of words log logtags starts maps special e).maps types n ≡ cell maps 1 n
  unfolding code_t
  type_map = map_is words log logtags starts maps special e types n hn

  pub put_ray_is : (k : ℕ) → k < 3 → length special ≡ 1027 → put_ray k n (st_of words log logtags starts maps special e) ≡ st_of words log logtags starts maps (set special k (cell maps 1 n)) e
  unfolding put_ray with_special st_of
  put_ray_is k h l =
      ap (λ (v : ℕ). with_special (record { rays = set (special_of special e.pairs).rays k (OPT_TYPE, v); pairs = (special_of special e.pairs).pairs }) (st_of words log logtags starts maps special e)) type_map
      ∙ ap (λ (p : Special). with_special p (st_of words log logtags starts maps special e)) (special-ray special e.pairs k (cell maps 1 n) h l)

  pub put_pair_is : (key : ℕ) → e.pairs < 512 → length special ≡ 1027 → (r : Sizes) → r ≡ record { full = false; loglen = e.loglen; counts = e.counts; pairs = e.pairs + 1; exprtop = e.exprtop; bodytop = e.bodytop; made = e.made }
      → put_pair key n (st_of words log logtags starts maps special e) ≡ st_of words log logtags starts maps (with_pair special e.pairs key (pred (cell maps 1 n))) r
  unfolding put_pair with_special st_of
  put_pair_is key h l r er =
      ap (λ (v : ℕ). with_special (record { rays = (special_of special e.pairs).rays; pairs = (special_of special e.pairs).pairs ++ (((KEY, key) ∷ (TYPE, pred v) ∷ []) ∷ []) }) (st_of words log logtags starts maps special e)) type_map
      ∙ ap (λ (p : Special). with_special p (st_of words log logtags starts maps special e)) (special-pair special e.pairs key (pred (cell maps 1 n)) h l)
      ∙ ap (λ (m : ℕ). with_special (special_of (with_pair special e.pairs key (pred (cell maps 1 n))) m) (st_of words log logtags starts maps special e)) (sym (add-one e.pairs))
      ∙ ap (λ (x : Sizes). st_of words log logtags starts maps (with_pair special e.pairs key (pred (cell maps 1 n))) x) (sym er)

-- ---- one pair more fits
pub kept_paired : (log logtags : List ℕ) (starts maps : List (List ℕ)) (buckets : List ℕ) (e : Sizes) → ValidArrays log logtags starts maps buckets e → e.pairs < 512 → 23 + 2 * (e.pairs + 1) + e.loglen ≤ 16384
    → (r : Sizes) → r ≡ record { full = false; loglen = e.loglen; counts = e.counts; pairs = e.pairs + 1; exprtop = e.exprtop; bodytop = e.bodytop; made = e.made } → ValidArrays log logtags starts maps buckets r
kept_paired log logtags starts maps buckets e K h fits r er = rw er (record {
  room = fits;
  few = K.few;
  few_functions = K.few_functions;
  few_entries = K.few_entries;
  few_pairs = omega arith;
  log_long = K.log_long;
  tags_long = K.tags_long;
  marks_long = K.marks_long;
  starts_eight = K.starts_eight;
  maps-six = K.maps-six;
  counts_eight = K.counts_eight;
  rows = K.rows;
  rows' = K.rows';
  within = K.within;
  size = K.size;
  flats = K.flats;
  flats' = K.flats';
  named = K.named;
  plain = K.plain;
  apart = K.apart;
  mapped = K.mapped;
  marked = K.marked;
})
