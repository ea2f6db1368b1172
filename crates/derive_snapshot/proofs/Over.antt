-- An operation that restores what was saved where it does not fit leaves the state as it was there.
use mathlib.Core.Path.{◌≡◌, ◌∙◌, refl}
use mathlib.Core.List.{List}
use mathlib.Core.Bool.{true, false≢true}
use Prim.Native.Nat.{ℕ}
use Rattle.std.specs.Prelude.{Result, Ok, Err, is_err}
use Rattle.model.specs.Imports.{Derived}
use Rattle.derive_state.specs.Held.{ValidArrays, ImportEnsures, ImportOrUndoEnsures}
use Rattle.derive_state.specs.Sizes.{Sizes, told}
use Rattle.derive_state.specs.declared.Full.{Full}
use Rattle.derive_state.specs.declared.Sizes.{Sizes as Sizes'}
use Rattle.derive_state.proofs.State.{st_stays, kept-stays}
use Rattle.derive_snapshot.specs.Snapshot.{SaveEnsures, RestoreEnsures}
use Rattle.derive_snapshot.proofs.Saved.{st_saved, kept_saved}

pub whole_of : (words log₀ logtags₀ : List ℕ) (starts₀ maps₀ : List (List ℕ)) (buckets₀ : List ℕ) (e : Sizes) → ValidArrays log₀ logtags₀ starts₀ maps₀ buckets₀ e
    → (s₀ m₀ : List (List ℕ)) → SaveEnsures words starts₀ maps₀ e s₀ m₀
    → (f : Derived → Derived) (r : Sizes) (log logtags : List ℕ) (s m : List (List ℕ)) (buckets : List ℕ) → ImportEnsures words f log₀ logtags₀ starts₀ maps₀ buckets₀ e r log logtags s m buckets
    → (starts maps : List (List ℕ)) → RestoreEnsures r.full s₀ m₀ s m starts maps → ImportOrUndoEnsures words f log₀ logtags₀ starts₀ maps₀ e r log logtags starts maps buckets
whole_of words log₀ logtags₀ starts₀ maps₀ buckets₀ e K s₀ m₀ S f r log logtags s m buckets L starts maps t =
    let K' = kept_saved words log₀ logtags₀ starts₀ maps₀ e s₀ m₀ S buckets₀ K in
    record {
      over = L.over;
      stays = λ q. rw ((t.stays q).0, (t.stays q).1)
          (λ special. st_stays log₀ logtags₀ log logtags s₀ m₀ buckets₀ buckets e K' L.below L.log_long L.tags_long L.marks_stay words special ∙ st_saved words log₀ logtags₀ starts₀ maps₀ e s₀ m₀ S special, kept-stays log₀ logtags₀ log logtags s₀ m₀ buckets₀ buckets e K' L.below L.log_long L.tags_long L.marks_stay);
      is = λ q. rw ((t.taken q).0, (t.taken q).1) (L.is q, L.kept q);
      beside = λ q. rw (t.taken q).0 (L.beside q);
    }

-- what an error tells does not fit
pub full_told : (r : Result Sizes' Full) → is_err r ≡ true → (told r).full ≡ true
full_told (Ok e) h = absurd (false≢true h)
full_told (Err f) h = refl

pub undone : (r : Result Sizes' Full) → is_err r ≡ true → {s₀ m₀ s m starts maps : List (List ℕ)} → RestoreEnsures true s₀ m₀ s m starts maps → RestoreEnsures (told r).full s₀ m₀ s m starts maps
undone r h t = rw (full_told r h) t
