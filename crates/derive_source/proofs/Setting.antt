-- The whole of setting a source: nothing is mapped, the three places, the pairs; and where it does not fit, nothing has changed.
use mathlib.Core.Path.{◌≡◌, refl, sym, ap, ◌∙◌}
use mathlib.Core.Bool.{true, false, true≢false}
use mathlib.Core.List.{List}
use Prim.Native.Nat.{ℕ}
use lib.ListN.{replicate}
use Rattle.std.specs.Prelude.{Result, is_err}
use Rattle.model.specs.Module.{Module, count_at}
use Rattle.model.specs.Tables.{Tab, code_t, Tables, count}
use Rattle.model.specs.Imports.{Derived, emptied}
use Rattle.model.specs.Special.{rays, pairs, sourced}
use Rattle.derive_state.specs.Source.{mod_of, src_of, Source}
use Rattle.derive_state.specs.Held.{st_of, ValidArrays, Specials}
use Rattle.derive_state.specs.Sizes.{Sizes, told}
use Rattle.derive_state.specs.declared.Full.{Full}
use Rattle.derive_state.specs.declared.Sizes.{Sizes as Sizes'}
use Rattle.derive_state.proofs.State.{tab_code, code_low, st_stays, kept-stays}
use Rattle.derive_state.proofs.Fresh.{forgotten, kept_forgotten}
use Rattle.derive_imports.proofs.Sources.{count_is, few}
use Rattle.derive_snapshot.specs.Snapshot.{RestoreEnsures}
use Rattle.derive_snapshot.proofs.Over.{full_told}
use Rattle.derive_special.specs.Derives.{SpecialEnsures}
use Rattle.derive_source.specs.SourceSet.{SourceTypesEnsures, SetSourceEnsures, Replaced}
use Rattle.derive_source.proofs.Growing.{grow_pairs}
use Rattle.derive_source.proofs.Going.{Going, going_first, going_next, going_full, going_last}

module _ (words tags : List ℕ) (n : ℕ) (src : Source words tags n) (o : ℕ) (log₀ logtags₀ : List ℕ) (starts₀ maps₀ : List (List ℕ)) (buckets₀ special₀ : List ℕ) (e₀ : Sizes) (nf : e₀.full ≡ false) (K₀ : ValidArrays log₀ logtags₀ starts₀ maps₀ buckets₀ e₀) (P₀ : Specials special₀ e₀) (maps₁ : List (List ℕ)) (hm : maps₁ ≡ replicate 6 (replicate 512 0)) where
  abbrev T : Tables
  T = src_of words n

  abbrev M : Module
  M = mod_of words n

  pub forget_kept : ValidArrays log₀ logtags₀ starts₀ maps₁ buckets₀ e₀
  forget_kept = rw hm (kept_forgotten log₀ logtags₀ starts₀ maps₀ buckets₀ e₀ K₀)

  -- the whole, once nothing is mapped
  abbrev all : Derived → Derived
  all s = pairs (mod_of words n).special.pairs o (src_of words n) (rays (mod_of words n).special.rays 0 o (src_of words n) s)

  counts : (u : Tab) → count_at (code_t u) words ≡ count (src_of words n) u
  counts u = rw (tab_code u) at (count_is words tags n src (code_t u) (code_low u))

  sourced_is : (words₂ : List ℕ) (maps₂ : List (List ℕ)) → sourced o (mod_of words n) (st_of words₂ log₀ logtags₀ starts₀ maps₂ special₀ e₀) ≡ all (st_of words log₀ logtags₀ starts₀ maps₁ special₀ e₀)
  unfolding sourced emptied st_of src_of
  sourced_is words₂ maps₂ = rw hm (sym (ap all (forgotten words log₀ logtags₀ starts₀ maps₀ e₀ (src_of words n) counts (few words tags n src) special₀)))

  source_of : (r : Sizes) (log logtags : List ℕ) (starts maps : List (List ℕ)) (buckets special : List ℕ) → SpecialEnsures words all log₀ logtags₀ starts₀ maps₁ buckets₀ special₀ e₀ r log logtags starts maps buckets special
      → SourceTypesEnsures words n o log₀ logtags₀ starts₀ buckets₀ special₀ e₀ r log logtags starts maps buckets special
  source_of r log logtags starts maps buckets special D = record {
    over = λ q words₂ maps₂. rw (sourced_is words₂ maps₂) (D.over q);
    is = λ q words₂ maps₂. sourced_is words₂ maps₂ ∙ D.is q;
    kept = D.kept;
    specials = D.specials;
    aside = D.aside;
    more = D.more;
    below = D.below;
    log_long = D.log_long;
    tags_long = D.tags_long;
    marks_stay = D.marks_stay;
  }

  first : Going words all all log₀ logtags₀ starts₀ maps₁ buckets₀ special₀ e₀ log₀ logtags₀ starts₀ maps₁ buckets₀ special₀ e₀
  first = going_first words all log₀ logtags₀ starts₀ maps₁ buckets₀ special₀ e₀ nf forget_kept P₀

  module _ (e : Sizes) (log logtags : List ℕ) (starts maps : List (List ℕ)) (buckets special : List ℕ) (D : SpecialEnsures words (rays (mod_of words n).special.rays 0 o (src_of words n)) log₀ logtags₀ starts₀ maps₁ buckets₀ special₀ e₀ e log logtags starts maps buckets special) where
    pub set_rays_full : e.full ≡ true → SourceTypesEnsures words n o log₀ logtags₀ starts₀ buckets₀ special₀ e₀ e log logtags starts maps buckets special
    set_rays_full q =
        source_of e log logtags starts maps buckets special
        (going_full words all log₀ logtags₀ starts₀ maps₁ buckets₀ special₀ e₀ nf forget_kept P₀ all log₀ logtags₀ starts₀ maps₁ buckets₀ special₀ e₀ first (rays M.special.rays 0 o T) e log logtags starts maps buckets special D (pairs M.special.pairs o T) refl (grow_pairs M.special.pairs o T) q)

    module _ (q : e.full ≡ false) where
      next : Going words all (pairs (mod_of words n).special.pairs o (src_of words n)) log₀ logtags₀ starts₀ maps₁ buckets₀ special₀ e₀ log logtags starts maps buckets special e
      next = going_next words all log₀ logtags₀ starts₀ maps₁ buckets₀ special₀ e₀ nf forget_kept P₀ all log₀ logtags₀ starts₀ maps₁ buckets₀ special₀ e₀ first (rays M.special.rays 0 o T) e log logtags starts maps buckets special D (pairs M.special.pairs o T) refl q

      pub set-pairs : (r : Sizes) (log' logtags' : List ℕ) (starts' maps' : List (List ℕ)) (buckets' special' : List ℕ) → SpecialEnsures words (pairs (mod_of words n).special.pairs o (src_of words n)) log logtags starts maps buckets special e r log' logtags' starts' maps' buckets' special'
          → SourceTypesEnsures words n o log₀ logtags₀ starts₀ buckets₀ special₀ e₀ r log' logtags' starts' maps' buckets' special'
      set-pairs r log' logtags' starts' maps' buckets' special' D' =
          source_of r log' logtags' starts' maps' buckets' special'
          (going_last words all log₀ logtags₀ starts₀ maps₁ buckets₀ special₀ e₀ nf forget_kept P₀ (pairs M.special.pairs o T) log logtags starts maps buckets special e next (pairs M.special.pairs o T) r log' logtags' starts' maps' buckets' special' D' refl)

-- ---- copies that are taken over where it fits
pub set_of : (words : List ℕ) (n o : ℕ) (log₀ logtags₀ : List ℕ) (starts₀ maps₀ : List (List ℕ)) (buckets₀ special₀ : List ℕ) (e : Sizes) → ValidArrays log₀ logtags₀ starts₀ maps₀ buckets₀ e → Specials special₀ e
    → (r : Sizes) (log logtags : List ℕ) (s m : List (List ℕ)) (buckets p : List ℕ) → SourceTypesEnsures words n o log₀ logtags₀ starts₀ buckets₀ special₀ e r log logtags s m buckets p
    → (starts maps : List (List ℕ)) → RestoreEnsures r.full starts₀ maps₀ s m starts maps → (special : List ℕ) → Replaced r.full special₀ p special
    → SetSourceEnsures words n o log₀ logtags₀ starts₀ maps₀ special₀ e r log logtags starts maps buckets special
set_of words n o log₀ logtags₀ starts₀ maps₀ buckets₀ special₀ e K P r log logtags s m buckets p D starts maps t special c = record {
  over = λ q words₁. D.over q words₁ maps₀;
  stays = λ q. rw ((t.stays q).0, (t.stays q).1, c.stays q) ((λ words₁. st_stays log₀ logtags₀ log logtags starts₀ maps₀ buckets₀ buckets e K D.below D.log_long D.tags_long D.marks_stay words₁ special₀), kept-stays log₀ logtags₀ log logtags starts₀ maps₀ buckets₀ buckets e K D.below D.log_long D.tags_long D.marks_stay, P);
  is = λ q. rw ((t.taken q).0, (t.taken q).1, c.taken q) ((λ words₁. D.is q words₁ maps₀), D.kept q, D.specials q);
  aside = λ q. rw (t.taken q).0 (D.aside q);
  below = D.below;
}

pub put_back : (r : Result Sizes' Full) → is_err r ≡ true → {special₀ made : List ℕ} → Replaced (told r).full special₀ made special₀
put_back r h = rw (full_told r h) (record { stays = λ q. refl; taken = λ q. absurd (true≢false q) })
