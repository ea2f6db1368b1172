-- Steps one after the other: what is left, from the state that the arrays hold, gives what the whole gives from the first state.
use mathlib.Core.Path.{◌≡◌, refl, sym, ap, ◌∙◌}
use mathlib.Core.Bool.{true, false, false≢true}
use mathlib.Core.List.{List}
use Prim.Native.Nat.{ℕ, ◌≤◌}
use native.Mathlib.Nat.{le_refl, le_trans}
use native.Mathlib.Omega.{arith}
use Rattle.model.specs.Imports.{Derived}
use Rattle.derive_state.specs.Held.{table_of, st_of, size_r, ValidArrays, Specials, Same}
use Rattle.derive_state.specs.Marks.{Marks}
use Rattle.derive_state.specs.Sizes.{Sizes}
use Rattle.derive_state.proofs.State.{same_refl, same_then, marks_refl, marks_then, table_stays}
use Rattle.derive_imports.proofs.Growth.{Grow, over_grow}
use Rattle.derive_special.specs.Derives.{Aside, SpecialEnsures}
use Rattle.derive_special.proofs.Deriving.{aside_refl, aside_then, full_derives}

-- g is left of the whole, f
pub record Going (words : List ℕ) (f g : Derived → Derived) (log₀ logtags₀ : List ℕ) (starts₀ maps₀ : List (List ℕ)) (buckets₀ special₀ : List ℕ) (e₀ : Sizes) (log logtags : List ℕ) (starts maps : List (List ℕ)) (buckets special : List ℕ) (e : Sizes) : Type 0 where
  pub going : e.full ≡ false
  pub kept : ValidArrays log logtags starts maps buckets e
  pub specials : Specials special e
  pub aside : Aside starts₀ starts e₀ e
  pub more : e₀.loglen ≤ e.loglen
  pub below : Same e₀.loglen log₀ logtags₀ log logtags
  pub marks_stay : Marks buckets₀ buckets
  pub same : g (st_of words log logtags starts maps special e) ≡ f (st_of words log₀ logtags₀ starts₀ maps₀ special₀ e₀)

module _ (words : List ℕ) (f : Derived → Derived) (log₀ logtags₀ : List ℕ) (starts₀ maps₀ : List (List ℕ)) (buckets₀ special₀ : List ℕ) (e₀ : Sizes) (nf : e₀.full ≡ false) (K₀ : ValidArrays log₀ logtags₀ starts₀ maps₀ buckets₀ e₀) (P₀ : Specials special₀ e₀) where
  pub going_first : Going words f f log₀ logtags₀ starts₀ maps₀ buckets₀ special₀ e₀ log₀ logtags₀ starts₀ maps₀ buckets₀ special₀ e₀
  going_first = record { going = nf; kept = K₀; specials = P₀; aside = aside_refl starts₀ e₀; more = le_refl _; below = same_refl e₀.loglen log₀ logtags₀; marks_stay = marks_refl buckets₀ K₀.marks_long; same = refl }

  module _ (g : Derived → Derived) (log logtags : List ℕ) (starts maps : List (List ℕ)) (buckets special : List ℕ) (e : Sizes) (inv : Going words f g log₀ logtags₀ starts₀ maps₀ buckets₀ special₀ e₀ log logtags starts maps buckets special e) where
    entries : size_r (table_of log logtags starts e.counts 7) ≡ size_r (table_of log₀ logtags₀ starts₀ e₀.counts 7)
    entries =
        rw (inv.aside.entries_same.0, inv.aside.entries_same.1)
        (ap size_r (table_stays log₀ logtags₀ log logtags starts₀ maps₀ buckets₀ buckets e₀ K₀ inv.below inv.kept.log_long inv.kept.tags_long inv.marks_stay 7 (omega arith)))

    -- nothing is left
    pub going_done : g (st_of words log logtags starts maps special e) ≡ st_of words log logtags starts maps special e → SpecialEnsures words f log₀ logtags₀ starts₀ maps₀ buckets₀ special₀ e₀ e log logtags starts maps buckets special
    going_done q = record {
      over = λ z. absurd (false≢true (sym inv.going ∙ z));
      is = λ z. sym inv.same ∙ q;
      kept = λ z. inv.kept;
      specials = λ z. inv.specials;
      aside = λ z. inv.aside;
      more = λ z. inv.more;
      below = inv.below;
      log_long = inv.kept.log_long;
      tags_long = inv.kept.tags_long;
      marks_stay = inv.marks_stay;
    }

    module _ (h : Derived → Derived) (r : Sizes) (log' logtags' : List ℕ) (starts' maps' : List (List ℕ)) (buckets' special' : List ℕ) (D : SpecialEnsures words h log logtags starts maps buckets special e r log' logtags' starts' maps' buckets' special') where
      -- the last step
      pub going_last : (g (st_of words log logtags starts maps special e) ≡ h (st_of words log logtags starts maps special e)) → SpecialEnsures words f log₀ logtags₀ starts₀ maps₀ buckets₀ special₀ e₀ r log' logtags' starts' maps' buckets' special'
      going_last q = record {
        over = λ z. rw (← inv.same, q, ← entries) (D.over z);
        is = λ z. sym inv.same ∙ q ∙ D.is z;
        kept = D.kept;
        specials = D.specials;
        aside = λ z. aside_then inv.aside (D.aside z);
        more = λ z. le_trans inv.more (D.more z);
        below = same_then e₀.loglen e.loglen log₀ logtags₀ log logtags log' logtags' inv.more inv.below D.below;
        log_long = D.log_long;
        tags_long = D.tags_long;
        marks_stay = marks_then buckets₀ buckets buckets' inv.marks_stay D.marks_stay;
      }

      module _ (g' : Derived → Derived) (cut : g (st_of words log logtags starts maps special e) ≡ g' (h (st_of words log logtags starts maps special e))) where
        pub going_next : r.full ≡ false → Going words f g' log₀ logtags₀ starts₀ maps₀ buckets₀ special₀ e₀ log' logtags' starts' maps' buckets' special' r
        going_next q = record {
          going = q;
          kept = D.kept q;
          specials = D.specials q;
          aside = aside_then inv.aside (D.aside q);
          more = le_trans inv.more (D.more q);
          below = same_then e₀.loglen e.loglen log₀ logtags₀ log logtags log' logtags' inv.more inv.below D.below;
          marks_stay = marks_then buckets₀ buckets buckets' inv.marks_stay D.marks_stay;
          same = ap g' (sym (D.is q)) ∙ sym cut ∙ inv.same;
        }

        -- what is too large already stays too large
        pub going_full : ((s : Derived) → Grow s (g' s)) → r.full ≡ true → SpecialEnsures words f log₀ logtags₀ starts₀ maps₀ buckets₀ special₀ e₀ r log' logtags' starts' maps' buckets' special'
        going_full grow q =
            full_derives words log₀ logtags₀ starts₀ maps₀ buckets₀ special₀ e₀ f r log' logtags' starts' maps' buckets' special' q
            (rw (← inv.same, cut, ← entries) (over_grow _ (grow (h (st_of words log logtags starts maps special e))) (D.over q)))
            (same_then e₀.loglen e.loglen log₀ logtags₀ log logtags log' logtags' inv.more inv.below D.below) D.log_long D.tags_long (marks_then buckets₀ buckets buckets' inv.marks_stay D.marks_stay)
