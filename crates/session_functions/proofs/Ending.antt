-- finish_with_entry_points, return by return: it answers what the model answers, and a new session follows; or it is refused, and the session is as it was.
use mathlib.Core.Path.{◌≡◌, refl, sym, ap, subst, ◌∙◌}
use mathlib.Core.Bool.{Bool, true, false, not}
use mathlib.Core.List.{List}
use mathlib.Core.Option.{some}
use Prim.Native.Nat.{ℕ}
use native.Mathlib.Omega.{arith}
use lib.ListN.{length, replicate}
use Rattle.model.specs.Module.{Module}
use Rattle.model.specs.Imports.{Derived}
use Rattle.model.specs.Finish.{too_large}
use Rattle.model.specs.Refusals.{NO_SOURCE, FULL, UNKNOWN_RING}
use Rattle.model.specs.Session.{Source, Session, Answer, refused, with_source, meets_ring, write_if_fits, callees_of, with_entries, finish_with_entry_points}
use Rattle.derive_finish.specs.Told.{told, Held, Ended}
use Rattle.derive_finish.specs.Theorems.{finish_with_told}
use Rattle.derive_limits.specs.Reached.{Reached}
use Rattle.derive_limits.proofs.Theorems.{exact-end}
use Rattle.derive_state.specs.Source.{mod_of}
use Rattle.derive_state.specs.Held.{st_of}
use Rattle.derive_state.specs.Sizes.{Sizes}
use Rattle.derive_state.proofs.State.{st_stays, kept-stays}
use Rattle.derive_rings.specs.Rings.{RingsEnsures}
use Rattle.function_builder.specs.Stacks.{Stacks}
use Rattle.derive_session.specs.Valid.{session_of, ValidSession}
use Rattle.session_operations.specs.Operations.{FinishEnsures}
use Rattle.derive_session.specs.Fresh.{Nothing, unmapped, Empty, starts-new, valid_new}
use Rattle.session_operations.proofs.Finishing.{none_written, unset, unset_long, unset_all}
use Rattle.function_entry.specs.Entered.{EnterAllEnsures}
use Rattle.function_entry.proofs.Sources as Sources
use Rattle.session_functions.proofs.Whole.{stacks_empty}
use Rattle.session_functions.proofs.Answers.{not_set, is_set}

-- ---- refusals in their sequence: a ring, then too large
abbrev tests : Bool → Answer (List ℕ) → Answer (List ℕ)
tests b a = elim b [ true ↦ refused UNKNOWN_RING | false ↦ a ]

rung : (b : Bool) (a : Answer (List ℕ)) → b ≡ true → tests b a ≡ refused UNKNOWN_RING
rung b a p = rw p

free : (b : Bool) (a : Answer (List ℕ)) → b ≡ false → tests b a ≡ a
free b a p = rw p

large : (g : Module) (room : ℕ) → too_large g ≡ true → write_if_fits g room ≡ refused FULL
unfolding write_if_fits
large g room p = rw (write_if_fits, p)

-- the stacks of another state
stacks_of : {stacks : List (List ℕ)} {e r : Sizes} → Stacks stacks r → (e.exprtop ≡ 0) × (e.bodytop ≡ 0) → Stacks stacks e
stacks_of S z = record { four = S.four; rows = S.rows; high = omega (arith, z.0); high' = omega (arith, z.1) }

module _ (set : Bool) (n o : ℕ) (words tags log logtags : List ℕ) (starts maps : List (List ℕ)) (buckets special : List ℕ) (e : Sizes) (L : ValidSession set n o words tags log logtags starts maps buckets special e) (stacks : List (List ℕ)) (S : Stacks stacks e) (output₀ : List ℕ) where
  abbrev Ends_with : ℕ → ℕ → List ℕ → Bool → List ℕ → List ℕ → List (List ℕ) → List ℕ → List ℕ → List (List ℕ) → Sizes → Type 0
  Ends_with refusal bytes output set' log' logtags' maps' buckets' special' stacks' r = FinishEnsures (finish_with_entry_points (length output₀) (session_of set n o words log logtags starts maps special e)) (session_of set n o words log logtags starts maps special e) refusal bytes output₀ output (session_of set' n o words log' logtags' starts maps' special' r) × (ValidSession set' n o words tags log' logtags' starts maps' buckets' special' r × Stacks stacks' r)

  pub end_none : not set ≡ true → Ends_with NO_SOURCE 0 output₀ set log logtags maps buckets special stacks e
  unfolding finish_with_entry_points with_source session_of told
  end_none z = let p = not_set set z in rw p (record { is = refl; done = λ q. absurd (omega arith); stays = λ q. refl }, (rw p at L, S))

  module _ (z : not set ≡ false) where
    abbrev p : set ≡ true
    p = is_set set z

    pub live : ValidSession true n o words tags log logtags starts maps buckets special e
    live = rw p at L

    abbrev x : Source
    x = record { image = mod_of words n; offset = o }

    abbrev s : Derived
    s = st_of words log logtags starts maps special e

    abbrev R : Bool
    R = meets_ring (callees_of (mod_of words n).entries) (mod_of words n) s

    abbrev before : Session
    before = session_of true n o words log logtags starts maps special e

    module _ (b : Bool) (G : RingsEnsures (callees_of (mod_of words n).entries) words n log logtags starts e b) where
      ring_answer : b ≡ true → finish_with_entry_points (length output₀) before ≡ refused UNKNOWN_RING
      unfolding finish_with_entry_points with_source session_of
      ring_answer q = rung R (write_if_fits (with_entries x s) (length output₀)) (sym (G.is maps special) ∙ q)

      pub end_ring : b ≡ true → Ends_with UNKNOWN_RING 0 output₀ set log logtags maps buckets special stacks e
      unfolding told
      end_ring q = rw p (record { is = sym (ap (λ (a : Answer (List ℕ)). told a output₀) (ring_answer q)); done = λ y. absurd (omega arith); stays = λ y. refl }, (live, S))

      module _ (q : b ≡ false) where
        pub end-free : R ≡ false
        end-free = sym (G.is maps special) ∙ q

        module _ (r : Sizes) (log' logtags' : List ℕ) (starts' maps' : List (List ℕ)) (buckets' : List ℕ) (stacks' : List (List ℕ)) (N : EnterAllEnsures words n o special log logtags starts maps buckets e r log' logtags' starts' maps' buckets' stacks') where
          -- where it is refused nothing has changed
          same : session_of true n o words log' logtags' starts maps special e ≡ before
          unfolding session_of
          same = ap (λ (t : Derived). record { source = some x; state = t }) (st_stays log logtags log' logtags' starts maps buckets buckets' e L.kept N.below N.log_long N.tags_long N.marks_stay words special)

          live_same : ValidSession true n o words tags log' logtags' starts maps buckets' special e
          live_same = record {
            reached = subst Reached (sym same) live.reached;
            kept = kept-stays log logtags log' logtags' starts maps buckets buckets' e L.kept N.below N.log_long N.tags_long N.marks_stay;
            specials = live.specials;
            words_long = live.words_long;
            tape_long = live.tape_long;
            taped = live.taped;
            passes = live.passes;
            no_entries = live.no_entries;
            lowest = live.lowest;
            going = live.going;
          }

          -- 21 on the way
          full_answer : r.full ≡ true → finish_with_entry_points (length output₀) before ≡ refused FULL
          unfolding finish_with_entry_points with_source session_of with_entries
          full_answer f = free R (write_if_fits (with_entries x s) (length output₀)) end-free ∙ large (with_entries x s) (length output₀) ((exact-end (Sources.at n o words tags log logtags starts maps buckets special e live) end-free).full (N.over f))

          pub end_full : r.full ≡ true → (stacks'' : List (List ℕ)) → stacks'' ≡ replicate 4 (replicate 16384 0) → Ends_with FULL 0 output₀ set log' logtags' maps buckets' special stacks'' e
          unfolding told
          end_full f stacks'' h = rw p (record { is = sym (ap (λ (a : Answer (List ℕ)). told a output₀) (full_answer f)); done = λ y. absurd (omega arith); stays = λ y. same }, (live_same, stacks_empty stacks'' h e S.high S.high'))

          module _ (f : r.full ≡ false) where
            pub end-held : Held log' logtags' starts' r
            end-held = record { maps = maps'; buckets = buckets'; kept = N.kept f }

            module _ (k bytes : ℕ) (output : List ℕ) (d : Ended log' logtags' starts' special r output₀ k bytes output) where
              tells : (k, bytes, output) ≡ told (finish_with_entry_points (length output₀) before) output₀
              unfolding session_of
              tells = finish_with_told d words maps' x s end-free (N.is f) (N.entries f)

              -- 21, 7
              pub end_refused : (k ≡ 0 → ⊥) → Ends_with k 0 output set log' logtags' maps buckets' special stacks' e
              end_refused ne =
                  let w = none_written (finish_with_entry_points (length output₀) before) output₀ k bytes output tells ne in
                  rw p (record { is = ap (λ (y : ℕ). (k, y, output)) (sym w) ∙ tells; done = λ y. absurd (ne y); stays = λ y. same }, (live_same, stacks_of (N.stacks_are f) L.lowest))

              -- it starts afresh
              module _ (ok : k ≡ 0) (maps'' : List (List ℕ)) (hm : maps'' ≡ unmapped) (r' : Sizes) (hr : r' ≡ Nothing) where
                empty : Empty words tags log' logtags' starts buckets' (unset special)
                empty = record {
                  words_long = L.words_long;
                  tape_long = L.tape_long;
                  log_long = N.log_long;
                  tags_long = N.tags_long;
                  starts_eight = L.kept.starts_eight;
                  rows = L.kept.rows;
                  marks_long = N.marks_stay.marks_long;
                  special_long = unset_long special L.specials.special_long;
                  rays-none = unset_all special L.specials.special_long;
                }

                pub end_done : Ends_with 0 bytes output false log' logtags' maps'' buckets' (unset special) stacks' r'
                end_done = rw (p, hm, hr) (record { is = ap (λ (y : ℕ). (y, bytes, output)) (sym ok) ∙ tells; done = λ y. starts-new empty n o; stays = λ y. absurd (omega arith) }, (valid_new empty n o, stacks_of (N.stacks_are f) (refl, refl)))
