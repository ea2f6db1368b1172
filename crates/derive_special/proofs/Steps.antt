-- One special type of the source, by its place or by its key, as the code takes it.
use mathlib.Core.Path.{◌≡◌, refl, sym, ap, ◌∙◌}
use mathlib.Core.Bool.{true, false}
use mathlib.Core.List.{List}
use Prim.Native.Nat.{ℕ, zero, suc, ◌+◌, ◌-◌, ◌*◌, ◌≤◌, ◌<◌}
use native.Mathlib.Omega.{arith}
use lib.ListN.{get_or, set}
use Rattle.model.specs.Outcome.{word}
use Rattle.model.specs.Module.{count_at}
use Rattle.model.specs.Tables.{types, Tables}
use Rattle.model.specs.Imports.{Derived, import_t}
use Rattle.model.specs.Special.{force, put_ray, ray_to, ray, keyed, put_pair, pair_to}
use Rattle.derive_state.specs.Flats.{pairs_at, special_of}
use Rattle.derive_state.specs.Source.{src_of, Source}
use Rattle.derive_state.specs.Held.{cell, put, st_of, ValidArrays, Specials, ImportEnsures}
use Rattle.derive_state.specs.Sizes.{Sizes}
use Rattle.derive_imports.proofs.Growth.{grow_ray, grow_pair}
use Rattle.derive_special.specs.Derives.{pair_of, SpecialEnsures}
use Rattle.derive_special.proofs.Keys.{keyed_low}
use Rattle.derive_special.proofs.Words.{with_pair, ray_is}
use Rattle.derive_special.proofs.Deriving.{maps_derive, force_derives, import_full, import_mapped, put_derives, key_many, key_left, key_derives}

-- ---- the model's cases
ray_some : (w k o : ℕ) (T : Tables) (s : Derived) → (w ≡ 0 → ⊥) → ray w k o T s ≡ ray_to (word (get_or s.special.rays k (0, 0))) k (w - 1) o T s
unfolding ray
ray_some zero k o T s ne = absurd (ne refl)
ray_some (suc w) k o T s ne = let z : suc w - 1 ≡ w = omega arith in rw z

ray-force : (v k n o : ℕ) (T : Tables) (s : Derived) → (v ≡ 0 → ⊥) → ray_to v k n o T s ≡ force n v s
unfolding ray_to
ray-force zero k n o T s ne = absurd (ne refl)
ray-force (suc v) k n o T s ne = refl

pair-force : (v key n o : ℕ) (T : Tables) (s : Derived) → (v ≡ 0 → ⊥) → pair_to v key n o T s ≡ force n v s
unfolding pair_to
pair-force zero key n o T s ne = absurd (ne refl)
pair-force (suc v) key n o T s ne = refl

module _ (words tags : List ℕ) (n : ℕ) (src : Source words tags n) (o : ℕ) (log₀ logtags₀ : List ℕ) (starts₀ maps₀ : List (List ℕ)) (buckets₀ special₀ : List ℕ) (e₀ : Sizes) (nf : e₀.full ≡ false) (K₀ : ValidArrays log₀ logtags₀ starts₀ maps₀ buckets₀ e₀) (P₀ : Specials special₀ e₀) where
  abbrev T : Tables
  T = src_of words n

  abbrev S₀ : Derived
  S₀ = st_of words log₀ logtags₀ starts₀ maps₀ special₀ e₀

  -- ---- place k, for which the source has w
  module _ (k w : ℕ) (hk : k < 3) (hw : w ≤ count_at 1 words) where
    pub ray-none : w ≡ 0 → SpecialEnsures words (ray w k o (src_of words n)) log₀ logtags₀ starts₀ maps₀ buckets₀ special₀ e₀ e₀ log₀ logtags₀ starts₀ maps₀ buckets₀ special₀
    unfolding ray
    ray-none z = maps_derive words tags n src o log₀ logtags₀ starts₀ maps₀ buckets₀ special₀ e₀ nf K₀ P₀ (ray w k o (src_of words n)) maps₀ (rw z) K₀

    module _ (ne : w ≡ 0 → ⊥) (i : ℕ) (hi : i ≡ w - 1) where
      is_to : ray w k o (src_of words n) S₀ ≡ ray_to (get_or special₀ k 0) k (w - 1) o (src_of words n) S₀
      unfolding st_of
      is_to = ray_some w k o (src_of words n) S₀ ne ∙ ap (λ (v : ℕ). ray_to v k (w - 1) o (src_of words n) S₀) (ray_is special₀ e₀.pairs k hk)

      pub ray_old : (get_or special₀ k 0 ≡ 0 → ⊥) → SpecialEnsures words (ray w k o (src_of words n)) log₀ logtags₀ starts₀ maps₀ buckets₀ special₀ e₀ e₀ log₀ logtags₀ starts₀ (put maps₀ 1 i (get_or special₀ k 0)) buckets₀ special₀
      ray_old nv =
          rw hi
          (force_derives words tags n src o log₀ logtags₀ starts₀ maps₀ buckets₀ special₀ e₀ nf K₀ P₀ (ray w k o (src_of words n)) (w - 1) (get_or special₀ k 0) (omega arith) (P₀.rays_in k hk) (is_to ∙ ray-force (get_or special₀ k 0) k (w - 1) o (src_of words n) S₀ nv))

      module _ (zv : get_or special₀ k 0 ≡ 0) (r : Sizes) (log logtags : List ℕ) (starts maps : List (List ℕ)) (buckets : List ℕ) (L : ImportEnsures words (import_t o (src_of words n) types (w - 1)) log₀ logtags₀ starts₀ maps₀ buckets₀ e₀ r log logtags starts maps buckets) where
        is_put : ray w k o (src_of words n) S₀ ≡ put_ray k (w - 1) (import_t o (src_of words n) types (w - 1) S₀)
        unfolding ray_to
        is_put = is_to ∙ ap (λ (v : ℕ). ray_to v k (w - 1) o (src_of words n) S₀) zv

        pub ray_full : r.full ≡ true → SpecialEnsures words (ray w k o (src_of words n)) log₀ logtags₀ starts₀ maps₀ buckets₀ special₀ e₀ r log logtags starts maps buckets special₀
        ray_full q = import_full words tags n src o log₀ logtags₀ starts₀ maps₀ buckets₀ special₀ e₀ nf K₀ P₀ (w - 1) (omega arith) r log logtags starts maps buckets L (ray w k o (src_of words n)) (rw is_put (grow_ray k (w - 1) _)) q

        pub ray-new : r.full ≡ false → SpecialEnsures words (ray w k o (src_of words n)) log₀ logtags₀ starts₀ maps₀ buckets₀ special₀ e₀ r log logtags starts maps buckets (set special₀ k (cell maps 1 i))
        ray-new q = rw hi (put_derives words tags n src o log₀ logtags₀ starts₀ maps₀ buckets₀ special₀ e₀ nf K₀ P₀ (w - 1) (omega arith) r log logtags starts maps buckets L q (ray w k o (src_of words n)) k hk is_put)

  -- ---- type h, for a key
  module _ (key h : ℕ) (hh : h < count_at 1 words) (i : ℕ) (hi : i ≡ h) (v : ℕ) (hv : v ≡ keyed (pairs_at special₀ 3 e₀.pairs) key) where
    is_pair : pair_of key h o (src_of words n) S₀ ≡ pair_to v key h o (src_of words n) S₀
    unfolding pair_of st_of special_of
    is_pair = ap (λ (x : ℕ). pair_to x key h o (src_of words n) S₀) (sym hv)

    pub pair_low : v ≤ get_or e₀.counts 1 0
    pair_low = rw hv (keyed_low special₀ (get_or e₀.counts 1 0) key e₀.pairs 3 (λ j l. let z : 1 + 3 + 2 * j ≡ 4 + 2 * j = omega arith in rw z (P₀.pairs_in_lem j l)))

    pub pair_old : (v ≡ 0 → ⊥) → SpecialEnsures words (pair_of key h o (src_of words n)) log₀ logtags₀ starts₀ maps₀ buckets₀ special₀ e₀ e₀ log₀ logtags₀ starts₀ (put maps₀ 1 i v) buckets₀ special₀
    pair_old nv = rw hi (force_derives words tags n src o log₀ logtags₀ starts₀ maps₀ buckets₀ special₀ e₀ nf K₀ P₀ (pair_of key h o (src_of words n)) h v hh pair_low (is_pair ∙ pair-force v key h o (src_of words n) S₀ nv))

    module _ (zv : v ≡ 0) (r : Sizes) (log logtags : List ℕ) (starts maps : List (List ℕ)) (buckets : List ℕ) (L : ImportEnsures words (import_t o (src_of words n) types h) log₀ logtags₀ starts₀ maps₀ buckets₀ e₀ r log logtags starts maps buckets) where
      is_put' : pair_of key h o (src_of words n) S₀ ≡ put_pair key h (import_t o (src_of words n) types h S₀)
      unfolding pair_to
      is_put' = is_pair ∙ ap (λ (x : ℕ). pair_to x key h o (src_of words n) S₀) zv

      pub pair_full : r.full ≡ true → SpecialEnsures words (pair_of key h o (src_of words n)) log₀ logtags₀ starts₀ maps₀ buckets₀ special₀ e₀ r log logtags starts maps buckets special₀
      pair_full q = import_full words tags n src o log₀ logtags₀ starts₀ maps₀ buckets₀ special₀ e₀ nf K₀ P₀ h hh r log logtags starts maps buckets L (pair_of key h o (src_of words n)) (rw is_put' (grow_pair key h _)) q

      module _ (q : r.full ≡ false) where
        pub pair-mapped : 0 < cell maps 1 i
        pair-mapped = rw hi (import_mapped words tags n src o log₀ logtags₀ starts₀ maps₀ buckets₀ special₀ e₀ nf K₀ P₀ h hh r log logtags starts maps buckets L q)

        pub pair_many : r.pairs ≡ 512 → (r' : Sizes) → r'.full ≡ true → SpecialEnsures words (pair_of key h o (src_of words n)) log₀ logtags₀ starts₀ maps₀ buckets₀ special₀ e₀ r' log logtags starts maps buckets special₀
        pair_many = key_many words tags n src o log₀ logtags₀ starts₀ maps₀ buckets₀ special₀ e₀ nf K₀ P₀ h hh r log logtags starts maps buckets L q (pair_of key h o (src_of words n)) key is_put'

        pub pair_left : (room : ℕ) → room + (23 + 2 * r.pairs + r.loglen) ≡ 16384 → room < 2 → (r' : Sizes) → r'.full ≡ true → SpecialEnsures words (pair_of key h o (src_of words n)) log₀ logtags₀ starts₀ maps₀ buckets₀ special₀ e₀ r' log logtags starts maps buckets special₀
        pair_left = key_left words tags n src o log₀ logtags₀ starts₀ maps₀ buckets₀ special₀ e₀ nf K₀ P₀ h hh r log logtags starts maps buckets L q (pair_of key h o (src_of words n)) key is_put'

        pub pair-new : (r.pairs ≡ 512 → ⊥) → (room : ℕ) → room + (23 + 2 * r.pairs + r.loglen) ≡ 16384 → 2 ≤ room → (r' : Sizes) → r' ≡ record { full = false; loglen = r.loglen; counts = r.counts; pairs = r.pairs + 1; exprtop = r.exprtop; bodytop = r.bodytop; made = r.made }
            → SpecialEnsures words (pair_of key h o (src_of words n)) log₀ logtags₀ starts₀ maps₀ buckets₀ special₀ e₀ r' log logtags starts maps buckets (with_pair special₀ r.pairs key (cell maps 1 i - 1))
        pair-new = rw hi (key_derives words tags n src o log₀ logtags₀ starts₀ maps₀ buckets₀ special₀ e₀ nf K₀ P₀ h hh r log logtags starts maps buckets L q (pair_of key h o (src_of words n)) key is_put')
