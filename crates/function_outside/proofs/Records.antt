-- The import of a record by its table's code, as the code lands it.
use mathlib.Core.Path.{◌≡◌, refl, sym, ◌∙◌}
use mathlib.Core.Bool.{Bool, true, false, false≢true}
use mathlib.Core.List.{List}
use Prim.Native.Nat.{ℕ, ◌≤◌, ◌<◌}
use native.Mathlib.Nat.{le_refl}
use native.Mathlib.Omega.{arith}
use lib.Dec.{ltb}
use borrow.Author.Tests.{ltb-true, ltb-false, lt-ltb}
use Rattle.model.specs.Module.{count_at}
use Rattle.model.specs.Tables.{Tab, Tables}
use Rattle.model.specs.Imports.{Derived, import_t}
use Rattle.derive_state.specs.Refers.{tab_of}
use Rattle.derive_state.specs.Source.{Source, src_of}
use Rattle.derive_state.specs.Held.{cell, st_of, ValidArrays, ImportEnsures}
use Rattle.derive_state.specs.Sizes.{Sizes}
use Rattle.derive_state.proofs.State.{same_refl, marks_refl}
use Rattle.derive_imports.proofs.Turns.{beside_refl, turn-known}
use Rattle.function_references.specs.Fits.{record_of}
use Rattle.function_outside.proofs.Cells.{record_none}

-- the same state, made another way
pub lands_as : {words log₀ logtags₀ : List ℕ} {starts₀ maps₀ : List (List ℕ)} {buckets₀ : List ℕ} {e r : Sizes} {log logtags : List ℕ} {starts maps : List (List ℕ)} {buckets : List ℕ} (f g : Derived → Derived) → ((s : Derived) → g s ≡ f s)
    → ImportEnsures words f log₀ logtags₀ starts₀ maps₀ buckets₀ e r log logtags starts maps buckets → ImportEnsures words g log₀ logtags₀ starts₀ maps₀ buckets₀ e r log logtags starts maps buckets
lands_as {words} {log₀} {logtags₀} {starts₀} {maps₀} {e} f g is L = record {
  over = λ q special. rw (is (st_of words log₀ logtags₀ starts₀ maps₀ special e)) (L.over q special);
  is = λ q special. is (st_of words log₀ logtags₀ starts₀ maps₀ special e) ∙ L.is q special;
  kept = L.kept;
  beside = L.beside;
  more = L.more;
  below = L.below;
  log_long = L.log_long;
  tags_long = L.tags_long;
  marks_stay = L.marks_stay;
}

-- nothing is done
pub lands_idle : (words log logtags : List ℕ) (starts maps : List (List ℕ)) (buckets : List ℕ) (e : Sizes) → e.full ≡ false → ValidArrays log logtags starts maps buckets e → (f : Derived → Derived) → ((s : Derived) → f s ≡ s) → ImportEnsures words f log logtags starts maps buckets e e log logtags starts maps buckets
lands_idle words log logtags starts maps buckets e nf K f idle = record {
  over = λ q. absurd (false≢true (sym nf ∙ q));
  is = λ q special. idle (st_of words log logtags starts maps special e);
  kept = λ q. K;
  beside = λ q. beside_refl starts e;
  more = λ q. le_refl _;
  below = same_refl e.loglen log logtags;
  log_long = K.log_long;
  tags_long = K.tags_long;
  marks_stay = marks_refl buckets K.marks_long;
}

module _ (o : ℕ) (T : Tables) (t h : ℕ) where
  -- record h of the table u, whose code is t
  pub lands_record : {words log₀ logtags₀ : List ℕ} {starts₀ maps₀ : List (List ℕ)} {buckets₀ : List ℕ} {e r : Sizes} {log logtags : List ℕ} {starts maps : List (List ℕ)} {buckets : List ℕ} (u : Tab) → t < 6 → tab_of t ≡ u
      → ImportEnsures words (import_t o T u h) log₀ logtags₀ starts₀ maps₀ buckets₀ e r log logtags starts maps buckets → ImportEnsures words (record_of o T t h) log₀ logtags₀ starts₀ maps₀ buckets₀ e r log logtags starts maps buckets
  unfolding record_of
  lands_record u l q L = lands_as (import_t o T u h) (record_of o T t h) is L
    where
      is : (s : Derived) → record_of o T t h s ≡ import_t o T u h s
      is s = rw (lt-ltb t 6 l, record_of, q)

  -- no table
  pub lands_none : (words log logtags : List ℕ) (starts maps : List (List ℕ)) (buckets : List ℕ) (e : Sizes) → e.full ≡ false → ValidArrays log logtags starts maps buckets e → 6 ≤ t → ImportEnsures words (record_of o T t h) log logtags starts maps buckets e e log logtags starts maps buckets
  lands_none words log logtags starts maps buckets e nf K l = lands_idle words log logtags starts maps buckets e nf K (record_of o T t h) (λ s. sym (record_none o T s t h l))

-- no table, or a record that is mapped
pub lands_mapped : {words tags : List ℕ} {n : ℕ} → Source words tags n → (o : ℕ) {t h : ℕ} → (t < 6 → h < count_at t words) → {log logtags : List ℕ} {starts maps : List (List ℕ)} {buckets : List ℕ} {e : Sizes} → e.full ≡ false → ValidArrays log logtags starts maps buckets e → (t < 6 → 0 < cell maps t h)
    → ImportEnsures words (record_of o (src_of words n) t h) log logtags starts maps buckets e e log logtags starts maps buckets
lands_mapped {words} {tags} {n} src o {t} {h} inside {log} {logtags} {starts} {maps} {buckets} {e} nf K has = go (ltb t 6) refl
  where
    go : (b : Bool) → ltb t 6 ≡ b → ImportEnsures words (record_of o (src_of words n) t h) log logtags starts maps buckets e e log logtags starts maps buckets
    go true q =
        let l = ltb-true t 6 q in
        let m = has l in
        lands_record o (src_of words n) t h (tab_of t) l refl (turn-known words tags n src o t h l (inside l) log logtags starts maps buckets e nf K (λ z. omega arith))
    go false q = lands_none o (src_of words n) t h words log logtags starts maps buckets e nf K (ltb-false t 6 q)
