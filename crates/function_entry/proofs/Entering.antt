-- THE ENTRY POINTS of the source, one after the other: what is left from entry i on is the whole; what is full on the way is full at the end.
use mathlib.Core.Path.{◌≡◌, refl, sym, ap, ap₂, subst, ◌∙◌}
use mathlib.Core.Logic.{⊎_elim}
use mathlib.Core.Bool.{true, false, false≢true}
use mathlib.Core.List.{List, [], ◌∷◌, ◌++◌, map, append_assoc, append-nil}
use Prim.Native.Nat.{ℕ, suc, ◌+◌, ◌≤◌, ◌<◌}
use native.Mathlib.Nat.{le_refl, le_trans}
use native.Mathlib.Omega.{arith}
use lib.ListN.{length, get_or, drop, length-map, length-append, drop_of_length-le}
use lib.Seq.{drop-cons}
use Rattle.theory_lists.specs.Lists.{map-append}
use Rattle.model.specs.Outcome.{Cells}
use Rattle.model.specs.Tree.{Entry, flat_entry}
use Rattle.model.specs.Module.{Module, count_at}
use Rattle.model.specs.Numbers.{every, outside, sound_entry}
use Rattle.model.specs.Imports.{Derived}
use Rattle.model.specs.Bodies.{Builder, enter_all, entries_made}
use Rattle.model.specs.Session.{Source, meets_ring, callees_of}
use Rattle.theory_image.specs.FunctionViews.{taped_entries}
use Rattle.theory_lists.specs.Booleans.{and_second as and_r}
use Rattle.theory_order.specs.Numbered.{entries_sound}
use Rattle.derive_limits.specs.Full.{Full, over, entries}
use Rattle.derive_limits.proofs.Growing.{enter_grows, full_later}
use Rattle.function_nesting.specs.Nested.{follow_s, entered_s, entry_cells_s, entry_s, Ready}
use Rattle.function_nesting.specs.Entries.{EntryMade, EntriesMade}
use Rattle.function_nesting.specs.Theorems.{entries_are}
use Rattle.derive_state.specs.Flats.{entry_of, no_entry}
use Rattle.derive_state.specs.Source.{mod_of}
use Rattle.derive_state.specs.Held.{table_of, entries_of, st_of, size_r, Over, ValidArrays, Same}
use Rattle.derive_state.specs.Marks.{Marks}
use Rattle.derive_state.specs.Sizes.{Sizes}
use Rattle.derive_state.proofs.State.{same_refl, same_then, marks_refl, marks_then, size_r-append, table_long}
use Rattle.derive_state.proofs.Laws.{none-held}
use Rattle.function_parts.specs.Part.{entry}
use Rattle.function_builder.specs.Stacks.{Stacks}
use Rattle.function_entry.specs.Entered.{NestedE, EnterEnsures}
use Rattle.derive_session.specs.Valid.{ValidSession}
use Rattle.function_entry.specs.Entered.{EnterAllEnsures}
use Rattle.function_entry.proofs.Sources as Sources

-- before entry i, from state s₀ on
pub record Turn (words : List ℕ) (n o : ℕ) (special log₀ logtags₀ : List ℕ) (starts₀ maps₀ : List (List ℕ)) (buckets₀ : List ℕ) (e₀ : Sizes) (log logtags : List ℕ) (starts maps : List (List ℕ)) (buckets : List ℕ) (stacks : List (List ℕ)) (e : Sizes) (i : ℕ) : Type 0 where
  pub made : EntriesMade o (mod_of words n) (count_at 6 words) (drop i (mod_of words n).entries) (st_of words log logtags starts maps special e)
  pub sound : every (sound_entry (outside (mod_of words n))) (drop i (mod_of words n).entries) ≡ true
  pub state : enter_all (drop i (mod_of words n).entries) o (mod_of words n) (st_of words log logtags starts maps special e) ≡ enter_all (mod_of words n).entries o (mod_of words n) (st_of words log₀ logtags₀ starts₀ maps₀ special e₀)
  pub so_far : entries_of log logtags starts e.counts ++ entries_made (drop i (mod_of words n).entries) o (mod_of words n) (st_of words log logtags starts maps special e) ≡ entries_made (mod_of words n).entries o (mod_of words n) (st_of words log₀ logtags₀ starts₀ maps₀ special e₀)
  pub kept : ValidArrays log logtags starts maps buckets e
  pub stacks_are : Stacks stacks e
  pub lowest : (e.exprtop ≡ 0) × (e.bodytop ≡ 0)
  pub going : e.full ≡ false
  pub more : e₀.loglen ≤ e.loglen
  pub below : Same e₀.loglen log₀ logtags₀ log logtags
  pub marks_stay : Marks buckets₀ buckets

module _ (n o : ℕ) (words tags log₀ logtags₀ : List ℕ) (starts₀ maps₀ : List (List ℕ)) (buckets₀ special : List ℕ) (e₀ : Sizes) (L : ValidSession true n o words tags log₀ logtags₀ starts₀ maps₀ buckets₀ special e₀) where
  abbrev m : Module
  m = mod_of words n

  abbrev x : Source
  x = record { image = mod_of words n; offset = o }

  abbrev s₀ : Derived
  s₀ = st_of words log₀ logtags₀ starts₀ maps₀ special e₀

  entries_there : count_at 7 words ≡ length (mod_of words n).entries
  entries_there = taped_entries (L.taped refl)

  -- ---- the first
  pub turn-first : meets_ring (callees_of (mod_of words n).entries) (mod_of words n) s₀ ≡ false → (stacks : List (List ℕ)) → Stacks stacks e₀ → Turn words n o special log₀ logtags₀ starts₀ maps₀ buckets₀ e₀ log₀ logtags₀ starts₀ maps₀ buckets₀ stacks e₀ 0
  turn-first q stacks S = record {
    made = rw (Sources.functions_are n o words tags log₀ logtags₀ starts₀ maps₀ buckets₀ special e₀ L) (entries_are x s₀ (Sources.at n o words tags log₀ logtags₀ starts₀ maps₀ buckets₀ special e₀ L).set q).0;
    sound = entries_sound (mod_of words n) (L.passes refl).numbers;
    state = refl;
    so_far = rw (none-held log₀ logtags₀ starts₀ e₀.counts L.no_entries).0;
    kept = L.kept;
    stacks_are = S;
    lowest = L.lowest;
    going = L.going;
    more = le_refl _;
    below = same_refl e₀.loglen log₀ logtags₀;
    marks_stay = marks_refl buckets₀ L.kept.marks_long;
  }

  -- ---- entry i
  module _ (log logtags : List ℕ) (starts maps : List (List ℕ)) (buckets : List ℕ) (stacks : List (List ℕ)) (e : Sizes) (i : ℕ) (T : Turn words n o special log₀ logtags₀ starts₀ maps₀ buckets₀ e₀ log logtags starts maps buckets stacks e i) where
    abbrev s : Derived
    s = st_of words log logtags starts maps special e

    -- after the last
    pub turn_done : count_at 7 words ≤ i → EnterAllEnsures words n o special log₀ logtags₀ starts₀ maps₀ buckets₀ e₀ e log logtags starts maps buckets stacks
    unfolding enter_all entries_made
    turn_done h =
        let d : drop i (mod_of words n).entries ≡ [] = drop_of_length-le (mod_of words n).entries {i = i} (omega (arith, entries_there)) in
        record {
          over = λ q. absurd (false≢true (sym T.going ∙ q));
          is = λ q. ap (λ (es : List Entry). enter_all es o (mod_of words n) s) (sym d) ∙ T.state;
          entries = λ q. sym (append-nil (entries_of log logtags starts e.counts)) ∙ ap (λ (es : List Entry). entries_of log logtags starts e.counts ++ entries_made es o (mod_of words n) s) (sym d) ∙ T.so_far;
          kept = λ q. T.kept;
          stacks_are = λ q. T.stacks_are;
          below = T.below;
          log_long = T.kept.log_long;
          tags_long = T.kept.tags_long;
          marks_stay = T.marks_stay;
        }

    module _ (h : i < count_at 7 words) where
      abbrev E : Entry
      E = entry (mod_of words n) i

      abbrev rest : List Entry
      rest = drop (suc i) (mod_of words n).entries

      next : drop i (mod_of words n).entries ≡ E ∷ rest
      unfolding entry
      next = drop-cons (mod_of words n).entries i no_entry (omega (arith, entries_there))

      made-here : EntryMade o (mod_of words n) (count_at 6 words) E s × EntriesMade o (mod_of words n) (count_at 6 words) rest (entered_s o (mod_of words n) (follow_s o (mod_of words n) (count_at 6 words)) E s).out
      unfolding EntriesMade
      made-here = subst (λ (es : List Entry). EntriesMade o (mod_of words n) (count_at 6 words) es s) next T.made

      sound-rest : every (sound_entry (outside (mod_of words n))) rest ≡ true
      unfolding every
      sound-rest = and_r (sound_entry (outside (mod_of words n)) E) _ (subst (λ (es : List Entry). every (sound_entry (outside (mod_of words n))) es ≡ true) next T.sound)

      pub nested-entry : (room : ℕ) → room ≡ count_at 6 words → NestedE words n log logtags starts maps e o room E
      nested-entry room k = record { special = special; made = rw k made-here.0 }

      module _ (room : ℕ) (k : room ≡ count_at 6 words) (r : Sizes) (log' logtags' : List ℕ) (starts' maps' : List (List ℕ)) (buckets' : List ℕ) (stacks' : List (List ℕ))
          (N : EnterEnsures words n o (Ready o (mod_of words n) room) (follow_s o (mod_of words n) room) E log logtags starts maps buckets stacks e r log' logtags' starts' maps' buckets' stacks') where
        abbrev cells : Cells
        cells = entry_cells_s o (mod_of words n) (follow_s o (mod_of words n) room) E s

        abbrev out : Derived
        out = (entered_s o (mod_of words n) (follow_s o (mod_of words n) room) E s).out

        here : EntryMade o (mod_of words n) room E s
        here = rw k made-here.0

        -- what is left after it
        state-rest : enter_all rest o (mod_of words n) out ≡ enter_all (mod_of words n).entries o (mod_of words n) s₀
        unfolding enter_all
        state-rest = ap (λ (y : Builder). enter_all rest o (mod_of words n) y.out) here.ends ∙ ap (λ (es : List Entry). enter_all es o (mod_of words n) s) (sym next) ∙ T.state

        abbrev held : List Entry
        held = entries_of log logtags starts e.counts ++ (entry_of cells ∷ [])

        entries_rest : held ++ entries_made rest o (mod_of words n) out ≡ entries_made (mod_of words n).entries o (mod_of words n) s₀
        unfolding entries_made entry_s
        entries_rest =
            append_assoc (entries_of log logtags starts e.counts) (entry_of cells ∷ []) (entries_made rest o (mod_of words n) out)
            ∙ ap₂ (λ (a : Entry) (y : Builder). entries_of log logtags starts e.counts ++ (a ∷ entries_made rest o (mod_of words n) y.out)) here.entry here.ends
            ∙ ap (λ (es : List Entry). entries_of log logtags starts e.counts ++ entries_made es o (mod_of words n) s) (sym next)
            ∙ T.so_far

        -- full
        held_size : size_r (map flat_entry held) ≡ size_r (table_of log logtags starts e.counts 7) + suc (length cells)
        held_size = ap size_r (map-append flat_entry (entries_of log logtags starts e.counts) (entry_of cells ∷ [])) ∙ size_r-append (map flat_entry (entries_of log logtags starts e.counts)) (flat_entry (entry_of cells))
            ∙ ap₂ (λ (a : List Cells) (c : Cells). size_r a + suc (length c)) T.kept.flats' here.reads

        held_long : length held ≡ suc (get_or e.counts 7 0)
        unfolding entries_of
        held_long = omega (arith, length-append (entries_of log logtags starts e.counts) (entry_of cells ∷ []), length-map (table_of log logtags starts e.counts 7) entry_of, table_long log logtags starts maps buckets e T.kept 7 (omega arith))

        pub turn_full : r.full ≡ true → EnterAllEnsures words n o special log₀ logtags₀ starts₀ maps₀ buckets₀ e₀ r log' logtags' starts' maps' buckets' stacks'
        turn_full f = record {
          over = λ q. subst (λ (t : Derived). Full t (entries_made (mod_of words n).entries o (mod_of words n) s₀)) state-rest
              (subst (λ (es : List Entry). Full (enter_all rest o (mod_of words n) out) es) entries_rest
              (full_later (entries_made rest o (mod_of words n) out) (enter_grows (mod_of words n) (L.passes refl).numbers o out rest sound-rest) here_full));
          is = λ q. absurd (false≢true (sym q ∙ f));
          entries = λ q. absurd (false≢true (sym q ∙ f));
          kept = λ q. absurd (false≢true (sym q ∙ f));
          stacks_are = λ q. absurd (false≢true (sym q ∙ f));
          below = same_then e₀.loglen e.loglen log₀ logtags₀ log logtags log' logtags' T.more T.below N.below;
          log_long = N.log_long;
          tags_long = N.tags_long;
          marks_stay = marks_then buckets₀ buckets buckets' T.marks_stay N.marks_stay;
        }
          where
            size : size_r (table_of log logtags starts e.counts 7) + suc (e.exprtop + e.bodytop + length cells) ≡ size_r (map flat_entry held)
            size = omega (arith, held_size, T.lowest.0, T.lowest.1)

            here_full : Full out held
            here_full = ⊎_elim (λ (z : Over (size_r (table_of log logtags starts e.counts 7) + suc (e.exprtop + e.bodytop + length cells)) out). over (subst (λ j. Over j out) size z)) (λ (z : 16 ≤ get_or e.counts 7 0). entries (omega (arith, held_long))) (N.over f special here.ready)

        -- the next one's turn
        pub turn-next : r.full ≡ false → (j : ℕ) → j ≡ suc i → Turn words n o special log₀ logtags₀ starts₀ maps₀ buckets₀ e₀ log' logtags' starts' maps' buckets' stacks' r j
        unfolding entries_of
        turn-next q j pj =
            let p = N.is q special in
            rw pj (record {
              made = subst (λ (t : Derived). EntriesMade o (mod_of words n) (count_at 6 words) rest t) p (rw k made-here.1);
              sound = sound-rest;
              state = ap (λ (t : Derived). enter_all rest o (mod_of words n) t) (sym p) ∙ state-rest;
              so_far = ap₂ (λ (es : List Entry) (t : Derived). es ++ entries_made rest o (mod_of words n) t) (ap (λ (cs : List Cells). map entry_of cs) (N.table q special) ∙ map-append entry_of (table_of log logtags starts e.counts 7) (cells ∷ [])) (sym p) ∙ entries_rest;
              kept = N.kept q;
              stacks_are = N.stacks_are q;
              lowest = ((N.tops q).0 ∙ T.lowest.0, (N.tops q).1 ∙ T.lowest.1);
              going = q;
              more = le_trans T.more (N.more q);
              below = same_then e₀.loglen e.loglen log₀ logtags₀ log logtags log' logtags' T.more T.below N.below;
              marks_stay = marks_then buckets₀ buckets buckets' T.marks_stay N.marks_stay;
            })
