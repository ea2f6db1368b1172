-- A call to a name that is known, or with no room left, leaves all as it was; else its function is appended with less room.
use mathlib.Core.Path.{◌≡◌, refl, sym, ◌∙◌}
use mathlib.Core.Bool.{false, false≢true}
use mathlib.Core.List.{List}
use Prim.Native.Nat.{ℕ, zero, suc, ◌-◌}
use native.Mathlib.Nat.{le_refl}
use native.Mathlib.Omega.{arith}
use Rattle.model.specs.Module.{Module}
use Rattle.model.specs.Redirect.{function as function_at}
use Rattle.model.specs.Imports.{Derived, unless_mapped}
use Rattle.model.specs.Bodies.{known}
use Rattle.theory_bodies.specs.Context.{once_is}
use Rattle.derive_state.specs.Source.{mod_of}
use Rattle.derive_state.specs.Held.{st_of, ValidArrays}
use Rattle.derive_state.specs.Sizes.{Sizes}
use Rattle.derive_state.proofs.State.{same_refl, marks_refl}
use Rattle.derive_lookup.specs.Bearing.{KnownEnsures}
use Rattle.function_builder.specs.Stacks.{Stacks}
use Rattle.function_nesting.specs.Nested.{append_s, follow_s, ReadyF, Ready}
use Rattle.function_localize.specs.Localized.{NestedF, NestedAt, ImportFunctionEnsures}

-- ---- as the definition has it
module _ (o : ℕ) (M : Module) (f : ℕ) (s : Derived) where
  follow-known : (room : ℕ) → (room ≡ 0 → ⊥) → (known M s f ≡ 0 → ⊥) → follow_s o M room f s ≡ s
  unfolding follow_s
  follow-known zero z ne = absurd (z refl)
  follow-known (suc k) z ne = once_is (λ (x : Derived). x ≡ s) (known M s f) _ s (λ q. absurd (ne q)) (λ q. refl)

  follow-new : (room : ℕ) → (room ≡ 0 → ⊥) → known M s f ≡ 0 → follow_s o M room f s ≡ append_s o M (follow_s o M (room - 1)) f s
  unfolding follow_s
  follow-new zero z q = absurd (z refl)
  follow-new (suc k) z q = let e : suc k - 1 ≡ k = omega arith in rw (q, e) (unfold unless_mapped in refl)

  ready-new : (room : ℕ) → (room ≡ 0 → ⊥) → known M s f ≡ 0 → Ready o M room f s → ReadyF o M (Ready o M (room - 1)) (follow_s o M (room - 1)) (function_at M f) s
  unfolding Ready
  ready-new zero z q y = absurd (z refl)
  ready-new (suc k) z q y = let e : suc k - 1 ≡ k = omega arith in rw e (y q)

module _ (words : List ℕ) (n o f : ℕ) (log logtags : List ℕ) (starts maps : List (List ℕ)) (buckets : List ℕ) (stacks : List (List ℕ)) (e : Sizes) where
  abbrev M : Module
  M = mod_of words n

  -- nothing is done
  nests_none : (ready : Derived → Type 0) (g : Derived → Derived) → ((special : List ℕ) → g (st_of words log logtags starts maps special e) ≡ st_of words log logtags starts maps special e) → e.full ≡ false → Stacks stacks e → ValidArrays log logtags starts maps buckets e
      → ImportFunctionEnsures words ready g log logtags starts maps buckets stacks e e log logtags starts maps buckets stacks
  nests_none ready g is nf S K = record {
    over = λ z. absurd (false≢true (sym nf ∙ z));
    is = λ z special. is special;
    kept = λ z. K;
    along = λ z. record { entries_same = (refl, refl); pairs-same = refl; et_more = le_refl _; bt_more = le_refl _ };
    tops = λ z. (refl, refl, refl);
    more = λ z. le_refl _;
    deep = λ z. record { expressions = λ t h. refl; body = refl };
    stacks_are = λ z. S;
    below = same_refl e.loglen log logtags;
    log_long = K.log_long;
    tags_long = K.tags_long;
    marks_stay = marks_refl buckets K.marks_long;
  }

  module _ (room : ℕ) where
    -- no room
    pub follow-none : room ≡ 0 → e.full ≡ false → Stacks stacks e → ValidArrays log logtags starts maps buckets e → ImportFunctionEnsures words (Ready o (mod_of words n) room f) (follow_s o (mod_of words n) room f) log logtags starts maps buckets stacks e e log logtags starts maps buckets stacks
    follow-none q nf S K = nests_none _ _ (λ special. rw q (unfold follow_s in refl)) nf S K

    module _ (some : room ≡ 0 → ⊥) (v : ℕ) (W : KnownEnsures words n log logtags starts e f v) where
      -- its name is known
      pub follow_old : (v ≡ 0 → ⊥) → e.full ≡ false → Stacks stacks e → ValidArrays log logtags starts maps buckets e → ImportFunctionEnsures words (Ready o (mod_of words n) room f) (follow_s o (mod_of words n) room f) log logtags starts maps buckets stacks e e log logtags starts maps buckets stacks
      follow_old ne nf S K = nests_none _ _ (λ special. follow-known o M f (st_of words log logtags starts maps special e) room some (λ q. ne (W.is maps special ∙ q))) nf S K

      module _ (z : v ≡ 0) where
        unknown : (special : List ℕ) → known M (st_of words log logtags starts maps special e) f ≡ 0
        unknown special = sym (W.is maps special) ∙ z

        pub follow-ready : NestedAt words n log logtags starts maps e o room f → NestedF words n log logtags starts maps e o (room - 1) (function_at (mod_of words n) f)
        follow-ready N = record { scopes = N.scopes; special = N.special; ready = ready-new o M f (st_of words log logtags starts maps N.special e) room some (unknown N.special) N.ready }

        -- it is appended
        pub follow-append : {r : Sizes} {log' logtags' : List ℕ} {starts' maps' : List (List ℕ)} {buckets' : List ℕ} {stacks' : List (List ℕ)}
            → ImportFunctionEnsures words (ReadyF o (mod_of words n) (Ready o (mod_of words n) (room - 1)) (follow_s o (mod_of words n) (room - 1)) (function_at (mod_of words n) f)) (append_s o (mod_of words n) (follow_s o (mod_of words n) (room - 1)) f) log logtags starts maps buckets stacks e r log' logtags' starts' maps' buckets' stacks'
            → ImportFunctionEnsures words (Ready o (mod_of words n) room f) (follow_s o (mod_of words n) room f) log logtags starts maps buckets stacks e r log' logtags' starts' maps' buckets' stacks'
        follow-append A = record {
          over = λ y special g. let s = st_of words log logtags starts maps special e in rw (follow-new o M f s room some (unknown special)) (A.over y special (ready-new o M f s room some (unknown special) g));
          is = λ y special. follow-new o M f (st_of words log logtags starts maps special e) room some (unknown special) ∙ A.is y special;
          kept = A.kept;
          along = A.along;
          tops = A.tops;
          more = A.more;
          deep = A.deep;
          stacks_are = A.stacks_are;
          below = A.below;
          log_long = A.log_long;
          tags_long = A.tags_long;
          marks_stay = A.marks_stay;
        }
