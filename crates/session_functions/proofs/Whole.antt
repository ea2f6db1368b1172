-- An import that restores what was saved where it does not fit leaves the state as it was there, and the stacks have their lengths.
use mathlib.Core.Path.{◌≡◌, sym, ap, ◌∙◌}
use mathlib.Core.Bool.{true, false, false≢true}
use mathlib.Core.List.{List}
use Prim.Native.Nat.{ℕ, ◌≤◌}
use lib.ListN.{length, replicate, length-replicate}
use Rattle.model.specs.Imports.{Derived}
use Rattle.derive_state.specs.Held.{st_of, ValidArrays}
use Rattle.derive_state.specs.Sizes.{Sizes}
use Rattle.derive_state.proofs.State.{st_stays, kept-stays}
use Rattle.derive_state.proofs.Fresh.{rows_at}
use Rattle.function_builder.specs.Stacks.{Stacks}
use Rattle.derive_snapshot.specs.Snapshot.{SaveEnsures, RestoreEnsures}
use Rattle.derive_snapshot.proofs.Saved.{st_saved, kept_saved}
use Rattle.function_localize.specs.Localized.{ImportFunctionEnsures}
use Rattle.session_functions.specs.Brought.{Brings}

-- stacks that are empty
pub stacks_empty : (stacks : List (List ℕ)) → stacks ≡ replicate 4 (replicate 16384 0) → (e : Sizes) → e.exprtop ≤ 16384 → e.bodytop ≤ 16384 → Stacks stacks e
stacks_empty stacks p e a b = rw p (record { four = length-replicate {A = List ℕ} 4 (replicate 16384 0); rows = λ t h. ap length (rows_at (replicate 16384 0) 4 t h) ∙ length-replicate {A = ℕ} 16384 0; high = a; high' = b })

module _ (words special log logtags : List ℕ) (starts maps : List (List ℕ)) (buckets : List ℕ) (stacks : List (List ℕ)) (e : Sizes) (K : ValidArrays log logtags starts maps buckets e) (S : Stacks stacks e) (s₀ m₀ : List (List ℕ)) (saved : SaveEnsures words starts maps e s₀ m₀)
    (ready : Derived → Type 0) (g : Derived → Derived) (r : Sizes) (log' logtags' : List ℕ) (s m : List (List ℕ)) (buckets' : List ℕ) (stacks' : List (List ℕ)) (N : ImportFunctionEnsures words ready g log logtags starts maps buckets stacks e r log' logtags' s m buckets' stacks')
    (starts' maps' : List (List ℕ)) (t : RestoreEnsures r.full s₀ m₀ s m starts' maps') where
  pub brings_full : ready (st_of words log logtags starts maps special e) → r.full ≡ true → (stacks'' : List (List ℕ)) → stacks'' ≡ replicate 4 (replicate 16384 0) → Brings words special g log logtags starts maps e r log' logtags' starts' maps' buckets' stacks''
  brings_full h f stacks'' p =
      let K' = kept_saved words log logtags starts maps e s₀ m₀ saved buckets K in
      record {
        over = λ q. N.over q special h;
        stays = λ q. rw ((t.stays q).0, (t.stays q).1)
            (st_stays log logtags log' logtags' s₀ m₀ buckets buckets' e K' N.below N.log_long N.tags_long N.marks_stay words special ∙ st_saved words log logtags starts maps e s₀ m₀ saved special, kept-stays log logtags log' logtags' s₀ m₀ buckets buckets' e K' N.below N.log_long N.tags_long N.marks_stay, stacks_empty stacks'' p e S.high S.high');
        is = λ q. absurd (false≢true (sym q ∙ f));
        beside = λ q. absurd (false≢true (sym q ∙ f));
      }

  pub brings_done : r.full ≡ false → Brings words special g log logtags starts maps e r log' logtags' starts' maps' buckets' stacks'
  brings_done f = record {
    over = λ q. absurd (false≢true (sym f ∙ q));
    stays = λ q. absurd (false≢true (sym f ∙ q));
    is = λ q. rw ((t.taken q).0, (t.taken q).1) (N.is q special, N.kept q, N.stacks_are q);
    beside = λ q. ((N.along q).entries_same.1, (N.along q).pairs-same, (N.tops q).0, (N.tops q).1);
  }
