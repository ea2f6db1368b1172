-- import_function and map_function_handle, return by return: what is answered, that the session after it is valid, and that the stacks have their lengths.
use mathlib.Core.Path.{◌≡◌, refl, sym, ◌∙◌}
use mathlib.Core.Bool.{Bool, true, false, not, false≢true}
use mathlib.Core.List.{List, [], ◌∷◌}
use Prim.Native.Nat.{ℕ, zero, suc, pred, ◌≤◌, ◌<◌}
use lib.ListN.{get_or}
use Rattle.model.specs.Callees.{callees}
use Rattle.model.specs.Redirect.{function}
use Rattle.model.specs.Refusals.{NUMBER_GIVEN, NO_SOURCE, FULL, UNKNOWN_RING}
use Rattle.model.specs.Session.{Session, Answer, meets_ring, import_function, map_function_handle}
use Rattle.function_nesting.specs.Nested.{append_s, follow_s, Ready, ReadyF}
use Rattle.model.specs.Module.{Module, count_at}
use Rattle.model.specs.Imports.{Derived, unless_mapped}
use Rattle.model.specs.Bodies.{known}
use Rattle.function_entry.proofs.Sources as Sources
use native.Mathlib.Omega.{arith}
use Rattle.derive_state.specs.Source.{mod_of}
use Rattle.derive_state.specs.Held.{st_of}
use Rattle.derive_state.specs.Sizes.{Sizes}
use Rattle.derive_lookup.specs.Bearing.{KnownEnsures}
use Rattle.derive_rings.specs.Rings.{RingsEnsures}
use Rattle.function_builder.specs.Stacks.{Stacks}
use Rattle.derive_session.specs.Valid.{session_of, ValidSession}
use Rattle.session_operations.specs.Operations.{OperationEnsures}
use Rattle.session_functions.specs.Brought.{Brings}
use Rattle.session_functions.proofs.Bringing as Bringing

-- as the code tests it
pub not_set : (b : Bool) → not b ≡ true → b ≡ false
not_set true p = absurd (false≢true p)
not_set false p = refl

pub is_set : (b : Bool) → not b ≡ false → b ≡ true
is_set true p = refl
is_set false p = absurd (false≢true (sym p))

-- ---- a function that is known, or not, where it is followed
followed_known : (o : ℕ) (M : Module) (k n : ℕ) (s : Derived) → 0 < known M s n → follow_s o M k n s ≡ s
unfolding follow_s unless_mapped
followed_known o M zero n s h = refl
followed_known o M (suc k) n s h = go (known M s n) h
  where
    go : (v : ℕ) → 0 < v → unless_mapped v (λ z. append_s o M (follow_s o M k) n s) s ≡ s
    go zero h = absurd (omega arith)
    go (suc v) h = refl

followed_new : (o : ℕ) (M : Module) (k n : ℕ) (s : Derived) → known M s n ≡ 0 → follow_s o M (suc k) n s ≡ append_s o M (follow_s o M k) n s
unfolding follow_s unless_mapped
followed_new o M k n s h = rw h refl

ready_new : (o : ℕ) (M : Module) (k n : ℕ) (s : Derived) → Ready o M (suc k) n s → known M s n ≡ 0 → ReadyF o M (Ready o M k) (follow_s o M k) (function M n) s
unfolding Ready
ready_new o M k n s r h = r h

module _ (set : Bool) (n o : ℕ) (words tags log logtags : List ℕ) (starts maps : List (List ℕ)) (buckets special : List ℕ) (e : Sizes) (L : ValidSession set n o words tags log logtags starts maps buckets special e) (stacks : List (List ℕ)) (S : Stacks stacks e) (f : ℕ) where
  abbrev Says : (Session → Answer ℕ) → ℕ → ℕ → List ℕ → List ℕ → List (List ℕ) → List (List ℕ) → List ℕ → List (List ℕ) → Sizes → Type 0
  Says op refusal v log' logtags' starts' maps' buckets' stacks' r = OperationEnsures {A = ℕ} op (session_of set n o words log logtags starts maps special e) refusal v (session_of set n o words log' logtags' starts' maps' special r) × (ValidSession set n o words tags log' logtags' starts' maps' buckets' special r × Stacks stacks' r)

  -- no source, no such function
  pub import_none : not set ≡ true → Says (import_function f) NO_SOURCE 0 log logtags starts maps buckets stacks e
  import_none z = let p = not_set set z in rw p (Bringing.import_none n o words log logtags starts maps special e f, (rw p at L, S))

  pub handle_none : not set ≡ true → Says (map_function_handle f) NO_SOURCE 0 log logtags starts maps buckets stacks e
  handle_none z = let p = not_set set z in rw p (Bringing.handle_none n o words log logtags starts maps special e f, (rw p at L, S))

  module _ (z : not set ≡ false) where
    p : set ≡ true
    p = is_set set z

    pub live : ValidSession true n o words tags log logtags starts maps buckets special e
    live = rw p at L

    pub import_out : count_at 6 words ≤ f → Says (import_function f) NUMBER_GIVEN 0 log logtags starts maps buckets stacks e
    import_out h = rw p (Bringing.import_no_record n o words tags log logtags starts maps buckets special e live f h, (live, S))

    pub handle_out : count_at 6 words ≤ f → Says (map_function_handle f) NUMBER_GIVEN 0 log logtags starts maps buckets stacks e
    handle_out h = rw p (Bringing.handle_no_record n o words tags log logtags starts maps buckets special e live f h, (live, S))

    module _ (l : f < count_at 6 words) (w : ℕ) (pw : w ≡ f) (b : Bool) where
      -- ---- import_function: w is its number, as the code has it
      module _ (G : RingsEnsures (w ∷ callees (function (mod_of words n) w)) words n log logtags starts e b) where
        rings_is : b ≡ meets_ring (f ∷ callees (function (mod_of words n) f)) (mod_of words n) (st_of words log logtags starts maps special e)
        rings_is = rw (← pw) (G.is maps special)

        pub import_ring : b ≡ true → Says (import_function f) UNKNOWN_RING 0 log logtags starts maps buckets stacks e
        import_ring q = rw p (Bringing.import_ring n o words tags log logtags starts maps buckets special e live f l (sym rings_is ∙ q), (live, S))

        pub import_ready : b ≡ false → (u : ℕ) → u ≡ f → (room : ℕ) → room ≡ count_at 6 words → ReadyF o (mod_of words n) (Ready o (mod_of words n) room) (follow_s o (mod_of words n) room) (function (mod_of words n) u) (st_of words log logtags starts maps special e)
        import_ready q u pu room k = rw pu (Sources.ready-function n o words tags log logtags starts maps buckets special e live f room l k (sym rings_is ∙ q))

        module _ (q : b ≡ false) (u : ℕ) (pu : u ≡ f) (room : ℕ) (k : room ≡ count_at 6 words)
            (r : Sizes) (log' logtags' : List ℕ) (starts' maps' : List (List ℕ)) (buckets' : List ℕ) (stacks' : List (List ℕ))
            (B : Brings words special (append_s o (mod_of words n) (follow_s o (mod_of words n) room) u) log logtags starts maps e r log' logtags' starts' maps' buckets' stacks') where
          abbrev B' : Brings words special (append_s o (mod_of words n) (follow_s o (mod_of words n) room) f) log logtags starts maps e r log' logtags' starts' maps' buckets' stacks'
          B' = rw (← pu) B

          pub import_full : r.full ≡ true → Says (import_function f) FULL 0 log' logtags' starts' maps' buckets' stacks' e
          import_full z = rw p (Bringing.import_full n o words tags log logtags starts maps buckets special e live f l (sym rings_is ∙ q) room k r log' logtags' starts' maps' buckets' stacks' B' z, (Bringing.import_full_live n o words tags log logtags starts maps buckets special e live f l (sym rings_is ∙ q) room k r log' logtags' starts' maps' buckets' stacks' B' z, (B.stays z).2))

          pub import_done : r.full ≡ false → (v : ℕ) → v ≡ pred (get_or r.counts 6 0) → Says (import_function f) 0 v log' logtags' starts' maps' buckets' stacks' r
          import_done z v pv = rw p (Bringing.import_done n o words tags log logtags starts maps buckets special e live f l (sym rings_is ∙ q) room k r log' logtags' starts' maps' buckets' stacks' B' z v pv, (Bringing.import_done_live n o words tags log logtags starts maps buckets special e live f l (sym rings_is ∙ q) room k r log' logtags' starts' maps' buckets' stacks' B' z, (B.is z).2))

      -- ---- map_function_handle
      module _ (G : RingsEnsures (w ∷ []) words n log logtags starts e b) where
        rings_is' : b ≡ meets_ring (f ∷ []) (mod_of words n) (st_of words log logtags starts maps special e)
        rings_is' = rw (← pw) (G.is maps special)

        pub handle_ring : b ≡ true → Says (map_function_handle f) UNKNOWN_RING 0 log logtags starts maps buckets stacks e
        handle_ring q = rw p (Bringing.handle_ring n o words tags log logtags starts maps buckets special e live f l (sym rings_is' ∙ q), (live, S))

        module _ (q : b ≡ false) (u : ℕ) (pu : u ≡ f) (room : ℕ) (k : room ≡ count_at 6 words)
            (r : Sizes) (log' logtags' : List ℕ) (starts' maps' : List (List ℕ)) (buckets' : List ℕ) (stacks' : List (List ℕ))
            (B : Brings words special (follow_s o (mod_of words n) room u) log logtags starts maps e r log' logtags' starts' maps' buckets' stacks') where
          abbrev C : Brings words special (follow_s o (mod_of words n) room f) log logtags starts maps e r log' logtags' starts' maps' buckets' stacks'
          C = rw (← pu) B

          handle_full : r.full ≡ true → Says (map_function_handle f) FULL 0 log' logtags' starts' maps' buckets' stacks' e
          handle_full z = rw p (Bringing.handle_full n o words tags log logtags starts maps buckets special e live f l (sym rings_is' ∙ q) room k r log' logtags' starts' maps' buckets' stacks' C z, (Bringing.handle_full_live n o words tags log logtags starts maps buckets special e live f l (sym rings_is' ∙ q) room k r log' logtags' starts' maps' buckets' stacks' C z, (B.stays z).2))

          -- the answer by the name, of a state that the arrays hold
          handle_done : r.full ≡ false → (d : ℕ) → d ≡ known (mod_of words n) (st_of words log' logtags' starts' maps' special r) f → (v : ℕ) → v ≡ pred d → Says (map_function_handle f) 0 v log' logtags' starts' maps' buckets' stacks' r
          handle_done z d D v pv = rw p (Bringing.handle_done n o words tags log logtags starts maps buckets special e live f l (sym rings_is' ∙ q) room k r log' logtags' starts' maps' buckets' stacks' C z d D v pv, (Bringing.handle_done_live n o words tags log logtags starts maps buckets special e live f l (sym rings_is' ∙ q) room k r log' logtags' starts' maps' buckets' stacks' C z, (B.is z).2))

          -- a function that was not known is the last one
          handle_made : r.full ≡ false → known (mod_of words n) (st_of words log logtags starts maps special e) f ≡ 0 → (v : ℕ) → v ≡ pred (get_or r.counts 6 0) → Says (map_function_handle f) 0 v log' logtags' starts' maps' buckets' stacks' r
          handle_made z h v pv = handle_done z (get_or r.counts 6 0) (Bringing.handle_made n o words tags log logtags starts maps buckets special e live f l (sym rings_is' ∙ q) room k r log' logtags' starts' maps' buckets' stacks' C z h) v pv

        module _ (q : b ≡ false) (u : ℕ) (pu : u ≡ f) (room : ℕ) (k : room ≡ count_at 6 words) where
          -- a known function: the arrays are as they were
          pub handle_known : (d : ℕ) → KnownEnsures words n log logtags starts e u d → 0 < d → (v : ℕ) → v ≡ pred d → Says (map_function_handle f) 0 v log logtags starts maps buckets stacks e
          handle_known d D h v pv = let D' : d ≡ known (mod_of words n) (st_of words log logtags starts maps special e) u = D.is maps special in handle_done q u pu room k e log logtags starts maps buckets stacks
              (record { over = λ z. absurd (false≢true (sym live.going ∙ z)); stays = λ z. absurd (false≢true (sym live.going ∙ z)); is = λ z. (followed_known o (mod_of words n) room u _ (omega (arith, h, D')), L.kept, S); beside = λ z. (refl, refl, refl, refl) })
              live.going d (rw (← pu) D') v pv

          module _ (j : ℕ) (pj : suc j ≡ room) (none : known (mod_of words n) (st_of words log logtags starts maps special e) u ≡ 0) where
            -- an unknown one may be appended, with room for one less
            pub handle_ready : ReadyF o (mod_of words n) (Ready o (mod_of words n) j) (follow_s o (mod_of words n) j) (function (mod_of words n) u) (st_of words log logtags starts maps special e)
            handle_ready = ready_new o (mod_of words n) j u _ (rw (pj, pu) (Sources.ready_handle n o words tags log logtags starts maps buckets special e live f room l k (sym rings_is' ∙ q))) none

            module _ (r : Sizes) (log' logtags' : List ℕ) (starts' maps' : List (List ℕ)) (buckets' : List ℕ) (stacks' : List (List ℕ))
                (B : Brings words special (append_s o (mod_of words n) (follow_s o (mod_of words n) j) u) log logtags starts maps e r log' logtags' starts' maps' buckets' stacks') where
              B⁺ : Brings words special (follow_s o (mod_of words n) room u) log logtags starts maps e r log' logtags' starts' maps' buckets' stacks'
              B⁺ = let i = followed_new o (mod_of words n) j u (st_of words log logtags starts maps special e) none in rw (← pj) (record { over = λ z. rw i (B.over z); stays = B.stays; is = λ z. rw i (B.is z); beside = B.beside })

              pub handle_new_full : r.full ≡ true → Says (map_function_handle f) FULL 0 log' logtags' starts' maps' buckets' stacks' e
              handle_new_full z = handle_full q u pu room k r log' logtags' starts' maps' buckets' stacks' B⁺ z

              pub handle_new : r.full ≡ false → (v : ℕ) → v ≡ pred (get_or r.counts 6 0) → Says (map_function_handle f) 0 v log' logtags' starts' maps' buckets' stacks' r
              handle_new z v pv = handle_made q u pu room k r log' logtags' starts' maps' buckets' stacks' B⁺ z (rw (← pu) none) v pv
