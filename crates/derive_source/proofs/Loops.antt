-- The loops over the three places and over the pairs.
use mathlib.Core.Path.{◌≡◌, sym, ap, ◌∙◌}
use mathlib.Core.Bool.{true, false}
use mathlib.Core.List.{List}
use Prim.Native.Nat.{ℕ, suc, ◌+◌, ◌-◌, ◌*◌, ◌≤◌, ◌<◌}
use native.Mathlib.Numerals.{add-one}
use native.Mathlib.Omega.{arith}
use lib.ListN.{get_or, drop, drop_of_length-le}
use lib.Seq.{drop-cons}
use Rattle.model.specs.Outcome.{Cells, word}
use Rattle.model.specs.Module.{count_at, offset_at}
use Rattle.model.specs.Names.{field}
use Rattle.model.specs.Tables.{Tables}
use Rattle.model.specs.Special.{ray, rays, pairs}
use Rattle.derive_state.specs.Flats.{pairs_at}
use Rattle.derive_state.specs.Source.{mod_of, src_of, Source}
use Rattle.derive_state.specs.Held.{st_of, ValidArrays, Specials}
use Rattle.derive_state.specs.Sizes.{Sizes}
use Rattle.derive_special.specs.Derives.{pair_of, SpecialEnsures}
use Rattle.derive_source.proofs.Reading.{three, ray-word, ray_low, pairs_are, special_in, pair_low}
use Rattle.derive_source.proofs.Growing.{grow_rays, grow_pairs}
use Rattle.derive_source.proofs.Going.{Going, going_first, going_next, going_full, going_done}

pub record Raying (words : List ℕ) (n o : ℕ) (log₀ logtags₀ : List ℕ) (starts₀ maps₀ : List (List ℕ)) (buckets₀ special₀ : List ℕ) (e₀ : Sizes) (log logtags : List ℕ) (starts maps : List (List ℕ)) (buckets special : List ℕ) (e : Sizes) (k : ℕ) : Type 0 where
  pub low : k ≤ 3
  pub turn : Going words (rays (mod_of words n).special.rays 0 o (src_of words n)) (rays (drop k (mod_of words n).special.rays) k o (src_of words n)) log₀ logtags₀ starts₀ maps₀ buckets₀ special₀ e₀ log logtags starts maps buckets special e

pub record Pairing (words : List ℕ) (n o : ℕ) (log₀ logtags₀ : List ℕ) (starts₀ maps₀ : List (List ℕ)) (buckets₀ special₀ : List ℕ) (e₀ : Sizes) (log logtags : List ℕ) (starts maps : List (List ℕ)) (buckets special : List ℕ) (e : Sizes) (i : ℕ) : Type 0 where
  pub low : i ≤ count_at 8 words
  pub turn : Going words (pairs (mod_of words n).special.pairs o (src_of words n)) (pairs (pairs_at words (offset_at 8 words + 3 + 2 * i) (count_at 8 words - i)) o (src_of words n)) log₀ logtags₀ starts₀ maps₀ buckets₀ special₀ e₀ log logtags starts maps buckets special e

module _ (words tags : List ℕ) (n : ℕ) (src : Source words tags n) (o : ℕ) (log₀ logtags₀ : List ℕ) (starts₀ maps₀ : List (List ℕ)) (buckets₀ special₀ : List ℕ) (e₀ : Sizes) (nf : e₀.full ≡ false) (K₀ : ValidArrays log₀ logtags₀ starts₀ maps₀ buckets₀ e₀) (P₀ : Specials special₀ e₀) where
  abbrev R : Cells
  R = (mod_of words n).special.rays

  abbrev T : Tables
  T = src_of words n

  -- ---- the places
  pub rays-first : Raying words n o log₀ logtags₀ starts₀ maps₀ buckets₀ special₀ e₀ log₀ logtags₀ starts₀ maps₀ buckets₀ special₀ e₀ 0
  rays-first = record { low = omega arith; turn = going_first words (rays R 0 o T) log₀ logtags₀ starts₀ maps₀ buckets₀ special₀ e₀ nf K₀ P₀ }

  module _ (log logtags : List ℕ) (starts maps : List (List ℕ)) (buckets special : List ℕ) (e : Sizes) (k : ℕ) (inv : Raying words n o log₀ logtags₀ starts₀ maps₀ buckets₀ special₀ e₀ log logtags starts maps buckets special e k) where
    pub rays_done : 3 ≤ k → SpecialEnsures words (rays (mod_of words n).special.rays 0 o (src_of words n)) log₀ logtags₀ starts₀ maps₀ buckets₀ special₀ e₀ e log logtags starts maps buckets special
    unfolding rays
    rays_done h = going_done words (rays R 0 o T) log₀ logtags₀ starts₀ maps₀ buckets₀ special₀ e₀ nf K₀ P₀ (rays (drop k R) k o T) log logtags starts maps buckets special e inv.turn none
      where
        none : rays (drop k R) k o T (st_of words log logtags starts maps special e) ≡ st_of words log logtags starts maps special e
        none = let l = three words tags n src in ap (λ (cs : Cells). rays cs k o T (st_of words log logtags starts maps special e)) (drop_of_length-le R {i = k} (omega arith))

    module _ (less : k < 3) (at : ℕ) (hat : at ≡ offset_at 8 words) where
      pub rays_low : get_or words (at + k) 0 ≤ count_at 1 words
      rays_low = rw hat (ray_low words tags n src k less)

      pub rays_in : at + k < 16384
      rays_in = let a = special_in words tags n src in let b = src.taped.small in omega arith

      cut : rays (drop k R) k o T (st_of words log logtags starts maps special e) ≡ rays (drop (suc k) R) (suc k) o T (ray (get_or words (at + k) 0) k o T (st_of words log logtags starts maps special e))
      unfolding rays
      cut =
          let l = three words tags n src in
          let a : get_or words (at + k) 0 ≡ word (get_or R k (0, 0)) = rw hat (ray-word words tags n src k less) in
          ap (λ (cs : Cells). rays cs k o T (st_of words log logtags starts maps special e)) (drop-cons R k (0, 0) (omega arith))
          ∙ ap (λ (w : ℕ). rays (drop (suc k) R) (suc k) o T (ray w k o T (st_of words log logtags starts maps special e))) (sym a)

      module _ (r : Sizes) (log' logtags' : List ℕ) (starts' maps' : List (List ℕ)) (buckets' special' : List ℕ) (D : SpecialEnsures words (ray (get_or words (at + k) 0) k o (src_of words n)) log logtags starts maps buckets special e r log' logtags' starts' maps' buckets' special') where
        pub rays_full : r.full ≡ true → SpecialEnsures words (rays (mod_of words n).special.rays 0 o (src_of words n)) log₀ logtags₀ starts₀ maps₀ buckets₀ special₀ e₀ r log' logtags' starts' maps' buckets' special'
        rays_full q =
            going_full words (rays R 0 o T) log₀ logtags₀ starts₀ maps₀ buckets₀ special₀ e₀ nf K₀ P₀ (rays (drop k R) k o T) log logtags starts maps buckets special e inv.turn (ray (get_or words (at + k) 0) k o T) r log' logtags' starts' maps' buckets' special' D
            (rays (drop (suc k) R) (suc k) o T) cut (grow_rays (drop (suc k) R) (suc k) o T) q

        pub rays-next : r.full ≡ false → Raying words n o log₀ logtags₀ starts₀ maps₀ buckets₀ special₀ e₀ log' logtags' starts' maps' buckets' special' r (k + 1)
        rays-next q =
            rw (add-one k)
            (record {
              low = less;
              turn = going_next words (rays R 0 o T) log₀ logtags₀ starts₀ maps₀ buckets₀ special₀ e₀ nf K₀ P₀ (rays (drop k R) k o T) log logtags starts maps buckets special e inv.turn (ray (get_or words (at + k) 0) k o T) r log' logtags' starts' maps' buckets' special' D
                  (rays (drop (suc k) R) (suc k) o T) cut q;
            })

  -- ---- the pairs
  abbrev Q : List Cells
  Q = (mod_of words n).special.pairs

  pub pairs_first : Pairing words n o log₀ logtags₀ starts₀ maps₀ buckets₀ special₀ e₀ log₀ logtags₀ starts₀ maps₀ buckets₀ special₀ e₀ 0
  pairs_first =
      let a : offset_at 8 words + 3 + 2 * 0 ≡ offset_at 8 words + 3 = omega arith in
      let b : count_at 8 words - 0 ≡ count_at 8 words = omega arith in
      record { low = omega arith; turn = rw (a, b, ← pairs_are words tags n src) (going_first words (pairs Q o T) log₀ logtags₀ starts₀ maps₀ buckets₀ special₀ e₀ nf K₀ P₀) }

  module _ (log logtags : List ℕ) (starts maps : List (List ℕ)) (buckets special : List ℕ) (e : Sizes) (i : ℕ) (inv : Pairing words n o log₀ logtags₀ starts₀ maps₀ buckets₀ special₀ e₀ log logtags starts maps buckets special e i) where
    abbrev left : ℕ → List Cells
    left j = pairs_at words (offset_at 8 words + 3 + 2 * j) (count_at 8 words - j)

    pub pairs_done : count_at 8 words ≤ i → SpecialEnsures words (pairs (mod_of words n).special.pairs o (src_of words n)) log₀ logtags₀ starts₀ maps₀ buckets₀ special₀ e₀ e log logtags starts maps buckets special
    unfolding pairs pairs_at
    pairs_done h =
        let z : count_at 8 words - i ≡ 0 = omega arith in
        going_done words (pairs Q o T) log₀ logtags₀ starts₀ maps₀ buckets₀ special₀ e₀ nf K₀ P₀ (pairs (left i) o T) log logtags starts maps buckets special e inv.turn (rw z)

    module _ (less : i < count_at 8 words) (at : ℕ) (hat : at ≡ offset_at 8 words + 3 + 2 * i) where
      pub pairs_low : get_or words (at + 1) 0 < count_at 1 words
      pairs_low = rw hat (pair_low words tags n src i less)

      pub pairs_in_lem : at + 1 < 16384
      pairs_in_lem = let a = special_in words tags n src in let b = src.taped.small in omega arith

      cut-pair : pairs (left i) o T (st_of words log logtags starts maps special e) ≡ pairs (left (suc i)) o T (pair_of (get_or words at 0) (get_or words (at + 1) 0) o T (st_of words log logtags starts maps special e))
      unfolding pairs pairs_at pair_of field
      cut-pair =
          let z : count_at 8 words - i ≡ suc (count_at 8 words - suc i) = omega arith in
          let b : 2 + (offset_at 8 words + 3 + 2 * i) ≡ offset_at 8 words + 3 + 2 * suc i = omega arith in
          let c : 1 + (offset_at 8 words + 3 + 2 * i) ≡ offset_at 8 words + 3 + 2 * i + 1 = omega arith in
          rw (hat, z, b, c)

      module _ (r : Sizes) (log' logtags' : List ℕ) (starts' maps' : List (List ℕ)) (buckets' special' : List ℕ) (D : SpecialEnsures words (pair_of (get_or words at 0) (get_or words (at + 1) 0) o (src_of words n)) log logtags starts maps buckets special e r log' logtags' starts' maps' buckets' special') where
        pub pairs_full : r.full ≡ true → SpecialEnsures words (pairs (mod_of words n).special.pairs o (src_of words n)) log₀ logtags₀ starts₀ maps₀ buckets₀ special₀ e₀ r log' logtags' starts' maps' buckets' special'
        pairs_full q =
            going_full words (pairs Q o T) log₀ logtags₀ starts₀ maps₀ buckets₀ special₀ e₀ nf K₀ P₀ (pairs (left i) o T) log logtags starts maps buckets special e inv.turn (pair_of (get_or words at 0) (get_or words (at + 1) 0) o T) r log' logtags' starts' maps' buckets' special' D
            (pairs (left (suc i)) o T) cut-pair (grow_pairs (left (suc i)) o T) q

        pub pairs_next : r.full ≡ false → Pairing words n o log₀ logtags₀ starts₀ maps₀ buckets₀ special₀ e₀ log' logtags' starts' maps' buckets' special' r (i + 1)
        pairs_next q =
            rw (add-one i)
            (record {
              low = less;
              turn = going_next words (pairs Q o T) log₀ logtags₀ starts₀ maps₀ buckets₀ special₀ e₀ nf K₀ P₀ (pairs (left i) o T) log logtags starts maps buckets special e inv.turn (pair_of (get_or words at 0) (get_or words (at + 1) 0) o T) r log' logtags' starts' maps' buckets' special' D
                  (pairs (left (suc i)) o T) cut-pair q;
            })
