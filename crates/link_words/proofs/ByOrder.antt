-- Linking in an order, call by call: what each call requires, that none is full, and the answer. The states are those of the model's fresh session.
use mathlib.Core.Path.{◌≡◌, refl, sym, ap, ◌∙◌, subst}
use mathlib.Core.Bool.{true, false}
use mathlib.Core.List.{List}
use Prim.Native.Nat.{ℕ, ◌*◌, ◌≤◌}
use native.Mathlib.Omega.{arith}
use lib.ListN.{length, get_or, take, length-take, replicate}
use lib.Seq.{sets}
use Rattle.base_words.specs.Words.{bytes_of}
use Rattle.model.specs.Module.{Module, count_at, write}
use Rattle.model.specs.Intake.{Passes}
use Rattle.model.specs.Imports.{Derived, fresh, emptied}
use Rattle.model.specs.Special.{sourced}
use Rattle.model.specs.Session.{Answer, answered, new, meets_ring, callees_of, finish_with_entry_points}
use Rattle.model.specs.Refusals.{answer_by, packed}
use Rattle.model.specs.Link.{append_all, link_by}
use Rattle.theory_finish.specs.Fresh.{source, with}
use Rattle.theory_finish.specs.Linking.{intake_passes}
use Rattle.theory_finish.specs.Ringless.{none_ringing}
use Rattle.derive_limits.specs.Reached.{Reached, At}
use Rattle.theory_link.specs.Demand.{Output}
use Rattle.derive_state.specs.Source.{mod_of, Source}
use Rattle.derive_state.specs.Held.{st_of, Over, ValidArrays, Specials}
use Rattle.derive_state.specs.Sizes.{Sizes}
use Rattle.derive_state.proofs.Laws.{none-held}
use Rattle.derive_state.proofs.Fresh.{kept-nothing, st_nothing}
use Rattle.derive_session.specs.Fresh.{valid_new, zeros}
use Rattle.derive_source.specs.SourceSet.{SourceTypesEnsures}
use Rattle.function_builder.specs.Stacks.{Stacks}
use Rattle.derive_finish.specs.Told.{told, Ended}
use Rattle.derive_finish.specs.Theorems.{finish_with_told}
use Rattle.derive_session.specs.Valid.{session_of, ValidSession}
use Rattle.model.specs.Image.{ScratchLengths}
use Rattle.function_entry.proofs.Sources.{at}
use Rattle.function_entry.specs.Entered.{EnterAllEnsures}
use Rattle.link_words.specs.Appends.{Roomy, Sequence, AppendAllEnsures, Linkable, LinkInOrderEnsures}
use Rattle.link_words.proofs.Fresh.{fresh_at, set_fits, imported_roomy, finish_fits, link-output}
use Rattle.link_words.proofs.Appending.{never, at-reached}

abbrev pub E : Sizes
E = record { full = false; loglen = 0; counts = replicate 8 0; pairs = 0; exprtop = 0; bodytop = 0; made = 0 }

abbrev pub unmade : List (List ℕ)
unmade = replicate 6 (replicate 512 0)

-- ---- arrays of these lengths, whose contents do not matter
pub specials_none : (e : Sizes) → e ≡ E → Specials (replicate 1027 0) e
specials_none e q = subst (Specials (replicate 1027 0)) (sym q) (valid_new zeros 0 0).specials

module _ (log₀ logtags₀ : List ℕ) (starts₀ : List (List ℕ)) (buckets₀ : List ℕ) (stacks₀ : List (List ℕ)) (P : ScratchLengths log₀ logtags₀ starts₀ stacks₀) (marks_long : length buckets₀ ≡ 16384) where
  pub kept-none : (e : Sizes) → e ≡ E → ValidArrays log₀ logtags₀ starts₀ unmade buckets₀ e
  kept-none e q = subst (ValidArrays log₀ logtags₀ starts₀ unmade buckets₀) (sym q) (kept-nothing log₀ logtags₀ starts₀ buckets₀ P.log_long P.logtags_long marks_long P.starts_eight P.starts-rows)

  -- they hold the fresh state, but for the maps
  fresh-sourced : (m : Module) (e : Sizes) → e ≡ E → (words : List ℕ) → sourced 0 m (st_of words log₀ logtags₀ starts₀ unmade (replicate 1027 0) e) ≡ sourced 0 m fresh
  unfolding sourced emptied
  fresh-sourced m e q words =
      ap (λ (y : Sizes). sourced 0 m (st_of words log₀ logtags₀ starts₀ unmade (replicate 1027 0) y)) q
      ∙ ap (sourced 0 m) (st_nothing log₀ logtags₀ starts₀ buckets₀ P.log_long P.logtags_long marks_long P.starts_eight P.starts-rows words (replicate 1027 0) (zeros.rays-none 0 (omega arith)) (zeros.rays-none 1 (omega arith)) (zeros.rays-none 2 (omega arith)))

module _ (words tags : List ℕ) (n : ℕ) (order output₀ : List ℕ) (K : Linkable words tags n order output₀) (log₀ logtags₀ : List ℕ) (starts₀ : List (List ℕ)) (buckets₀ : List ℕ) (stacks₀ : List (List ℕ)) (P : ScratchLengths log₀ logtags₀ starts₀ stacks₀) (marks_long : length buckets₀ ≡ 16384) where
  abbrev m : Module
  m = mod_of words n

  abbrev os : List ℕ
  os = take (count_at 6 words) order

  abbrev vs : List ℕ
  vs = write (link_by (take (count_at 6 words) order) (mod_of words n))

  passes : Passes (mod_of words n)
  passes = intake_passes (4 * length (take n words)) (take n words) (mod_of words n) K.linking.passes K.linking.reads

  gives : Output (take n words) (length output₀) (mod_of words n) os
  gives = link-output (take n words) (length output₀) (mod_of words n) os K.linking K.sequence.is

  start_at : At (source (mod_of words n)) (sourced 0 (mod_of words n) fresh)
  start_at = fresh_at (mod_of words n) K.source_is.taped.well passes

  -- ---- the source is set
  module _ (e : Sizes) (es : e ≡ E) where
    pub source_asks : Source words tags n × (e.full ≡ false) × ValidArrays log₀ logtags₀ starts₀ unmade buckets₀ e × Specials (replicate 1027 0) e
    source_asks = (K.source_is, ap (λ (y : Sizes). y.full) es, kept-none log₀ logtags₀ starts₀ buckets₀ stacks₀ P marks_long e es, specials_none e es)

    module _ (r : Sizes) (log logtags : List ℕ) (starts maps : List (List ℕ)) (buckets special : List ℕ)
        (S : SourceTypesEnsures words n 0 log₀ logtags₀ starts₀ buckets₀ (replicate 1027 0) e r log logtags starts maps buckets special) where
      bare : (get_or e.counts 7 0 ≡ 0) × (e.exprtop ≡ 0) × (e.bodytop ≡ 0)
      bare = (ap (λ (y : Sizes). get_or y.counts 7 0) es, ap (λ (y : Sizes). y.exprtop) es, ap (λ (y : Sizes). y.bodytop) es)

      pub set_room : r.full ≡ false
      set_room = never r.full λ q. set_fits (4 * length (take n words)) (take n words) (mod_of words n) K.linking.passes K.linking.reads start_at gives.session.sets
          (subst (λ (y : Derived). Over 0 y) (fresh-sourced log₀ logtags₀ starts₀ buckets₀ stacks₀ P marks_long (mod_of words n) e es words) (subst (λ (k : ℕ). Over k (sourced 0 (mod_of words n) (st_of words log₀ logtags₀ starts₀ unmade (replicate 1027 0) e))) (none-held log₀ logtags₀ starts₀ e.counts bare.0).1 (S.over q words unmade)))

      set_same : sourced 0 (mod_of words n) fresh ≡ st_of words log logtags starts maps special r
      set_same = sym (fresh-sourced log₀ logtags₀ starts₀ buckets₀ stacks₀ P marks_long (mod_of words n) e es words) ∙ S.is set_room words unmade

      set-reached : Reached (session_of true n 0 words log logtags starts maps special r)
      unfolding session_of
      set-reached = at-reached (subst (At (source (mod_of words n))) set_same start_at)

      set-live : ValidSession true n 0 words tags log logtags starts maps buckets special r
      set-live = record {
        reached = set-reached;
        kept = S.kept set_room;
        specials = S.specials set_room;
        words_long = K.source_is.taped.words_long;
        tape_long = K.source_is.taped.tags_long;
        taped = λ q. K.source_is.taped;
        passes = λ q. passes;
        no_entries = (S.aside set_room).entries_same.1 ∙ bare.0;
        lowest = ((S.aside set_room).tops_same.0 ∙ bare.1, (S.aside set_room).tops_same.1 ∙ bare.2);
        going = set_room;
      }

      module _ (all : ℕ) (alls : all ≡ count_at 6 words) where
        set_sequence : Sequence words n order all
        set_sequence = subst (Sequence words n order) (sym alls) K.sequence

        set_roomy : Roomy (mod_of words n) (take all order) (st_of words log logtags starts maps special r)
        set_roomy =
            subst (λ (k : ℕ). Roomy (mod_of words n) (take k order) (st_of words log logtags starts maps special r)) (sym alls)
            (subst (Roomy (mod_of words n) os) set_same (imported_roomy (mod_of words n) os K.sequence.is gives.session.imports (sourced 0 (mod_of words n) fresh) refl start_at))

        pub append_asks : ValidSession true n 0 words tags log logtags starts maps buckets special r × Stacks stacks₀ r × Sequence words n order all × Roomy (mod_of words n) (take all order) (st_of words log logtags starts maps special r)
        append_asks = (set-live, record { four = P.stacks_four; rows = P.stacks_rows; high = omega (arith, set-live.lowest.0); high' = omega (arith, set-live.lowest.1) }, set_sequence, set_roomy)

        -- ---- the functions are appended
        module _ (r₂ : Sizes) (log₂ logtags₂ : List ℕ) (starts₂ maps₂ : List (List ℕ)) (buckets₂ : List ℕ) (stacks₂ : List (List ℕ)) (A : AppendAllEnsures words tags n (take all order) log logtags starts maps r r₂ log₂ logtags₂ starts₂ maps₂ buckets₂ special stacks₂) where
          abbrev s₂ : Derived
          s₂ = st_of words log₂ logtags₂ starts₂ maps₂ special r₂

          off_rings : meets_ring (callees_of (mod_of words n).entries) (mod_of words n) s₂ ≡ false
          off_rings = none_ringing (mod_of words n) os K.sequence.is (callees_of (mod_of words n).entries) s₂

          all_same : append_all os 0 (mod_of words n) (sourced 0 (mod_of words n) fresh) ≡ s₂
          all_same = ap (append_all os 0 (mod_of words n)) set_same ∙ ap (λ (k : ℕ). append_all (take k order) 0 (mod_of words n) (st_of words log logtags starts maps special r)) (sym alls) ∙ A.same

          finishes : finish_with_entry_points (length output₀) (with (mod_of words n) s₂) ≡ answered vs new
          finishes = subst (λ (y : Derived). finish_with_entry_points (length output₀) (with (mod_of words n) y) ≡ answered vs new) all_same gives.session.finishes

          pub enter_asks : ValidSession true n 0 words tags log₂ logtags₂ starts₂ maps₂ buckets₂ special r₂ × Stacks stacks₂ r₂ × (meets_ring (callees_of (mod_of words n).entries) (mod_of words n) s₂ ≡ false)
          enter_asks = (A.live, A.stacks_are, off_rings)

          -- ---- the entry points are entered
          module _ (r₃ : Sizes) (log₃ logtags₃ : List ℕ) (starts₃ maps₃ : List (List ℕ)) (buckets₃ : List ℕ) (stacks₃ : List (List ℕ)) (T : EnterAllEnsures words n 0 special log₂ logtags₂ starts₂ maps₂ buckets₂ r₂ r₃ log₃ logtags₃ starts₃ maps₃ buckets₃ stacks₃) where
            pub enter_room : r₃.full ≡ false
            enter_room = never r₃.full λ q. finish_fits (mod_of words n) os K.sequence.is (length output₀) s₂ vs (at n 0 words tags log₂ logtags₂ starts₂ maps₂ buckets₂ special r₂ A.live) finishes (T.over q)

            -- ---- it is finished
            module _ (refusal bytes : ℕ) (output : List ℕ) (D : Ended log₃ logtags₃ starts₃ special r₃ output₀ refusal bytes output) where
              ended : ◌≡◌ {A = ℕ × ℕ × List ℕ} (refusal, bytes, output) (0, 4 * length vs, sets output₀ 0 (bytes_of vs))
              unfolding told
              ended = finish_with_told D words maps₃ (source (mod_of words n)) s₂ off_rings (T.is enter_room) (T.entries enter_room) ∙ ap (λ (a : Answer (List ℕ)). told a output₀) finishes

              refusal_is : refusal ≡ 0
              refusal_is = ap (λ (p : ℕ × ℕ × List ℕ). p.0) ended

              bytes_is : bytes ≡ 4 * length vs
              bytes_is = ap (λ (p : ℕ × ℕ × List ℕ). p.1) ended

              pub answer_fits : (refusal ≡ 0) × (bytes ≤ 65536)
              answer_fits = (refusal_is, omega (arith, bytes_is, gives.shorter, length-take n words, K.source_is.taped.small, K.source_is.taped.words_long))

              pub links_by : (r : ℕ) → r ≡ packed refusal bytes → LinkInOrderEnsures words n order output₀ r output
              unfolding answer_by
              links_by r is = record { answer = omega (arith, is, refusal_is, bytes_is); left = ap (λ (p : ℕ × ℕ × List ℕ). p.2) ended }
