-- An entry point that is imported: where its function is whole on the stacks and what its head refers to is there, its record is the head, carried by the maps, and the function's cells; the state is the one after it, with this record among the entry points.
use mathlib.Core.Path.{◌≡◌, refl, sym, ap, ap₂, ◌∙◌}
use mathlib.Core.Logic.{◌⊎◌, inl, inr, ⊎_elim}
use mathlib.Core.Bool.{true, false, false≢true}
use mathlib.Core.List.{List, [], ◌∷◌, ◌++◌}
use Prim.Native.Nat.{ℕ, zero, suc, ◌+◌, ◌*◌, ◌-◌, ◌≤◌, ◌<◌}
use native.Mathlib.Nat.{le_trans}
use native.Mathlib.Omega.{arith}
use lib.ListN.{length, get_or, set, take, length-append}
use lib.Seq.{slice, get_or-set_same}
use Rattle.theory_lists.specs.Lists.{take_less}
use Rattle.model.specs.Outcome.{Cells, class}
use Rattle.model.specs.Table.{EXPRESSIONS, NAMED}
use Rattle.model.specs.Tree.{Function, Entry, flat_all, flat_list, flat_entry}
use Rattle.model.specs.Module.{Module, count_at, flat_module}
use Rattle.model.specs.View.{record_at, record_end}
use Rattle.model.specs.FunctionView.{entry_head_words, expressions_at}
use Rattle.model.specs.Between.{between}
use Rattle.model.specs.Carry.{carry_cells, Each}
use Rattle.model.specs.Scope.{in_scope}
use Rattle.model.specs.Tables.{names, code_t, count, map_at}
use Rattle.model.specs.References.{Place, table, own, function, refs, through, shift}
use Rattle.model.specs.Imports.{Derived}
use Rattle.model.specs.Bodies.{known, Builder, mapped_to, carried}
use Rattle.theory_records.specs.RecordLaws.{All, all_map, carry_same, length_shift, length-carry}
use Rattle.theory_records.specs.TableLaws.{at-six}
use Rattle.theory_image.specs.Quiet.{each_append}
use Rattle.theory_image.specs.FunctionViews.{taped_length}
use Rattle.theory_image.specs.Members.{each_at, looked_each}
use Rattle.base_views.specs.Functions.{Standing, Body}
use Rattle.theory_passes.specs.Operands.{outward}
use Rattle.theory_passes.specs.Light.{still}
use Rattle.derive_state.specs.Refers.{tab_of}
use Rattle.derive_state.specs.Flats.{function_of, entry_of}
use Rattle.derive_state.specs.Source.{mod_of, Source}
use Rattle.derive_state.specs.Held.{row, table_of, recs_of, functions_of, st_of, size_r, Over, long, Named, ValidArrays, Same, ImportEnsures, carried_by}
use Rattle.derive_state.specs.Marks.{Marks}
use Rattle.derive_state.specs.Sizes.{Sizes}
use Rattle.derive_state.proofs.Passes.{length-between}
use Rattle.derive_state.proofs.State.{six_ext, code_low, same_then, marks_refl, marks_then, tab_long, words_are, table_stays, Joins, table_more, table_same, kept_more}
use Rattle.derive_imports.proofs.Growth.{over_grow}
use Rattle.derive_imports.proofs.Turns.{map_is}
use Rattle.derive_lookup.specs.Bearing.{Bearing}
use Rattle.derive_lookup.proofs.Bears.{bearing}
use Rattle.function_references.specs.Fits.{Fits, FitN, Legible}
use Rattle.function_builder.specs.Stacks.{went_of, Stacks}
use Rattle.function_builder.specs.Makes.{Wrote}
use Rattle.function_builder.proofs.Stack.{between_join, between-same, wrote_words, wrote_tags, wrote_long, wrote_long', wrote_cells}
use Rattle.function_builder.proofs.Growth.{over_more}
use Rattle.function_builder.proofs.Then.{kept_tops}
use Rattle.function_outside.proofs.Passing.{grow_outward}
use Rattle.function_parts.specs.Part.{Part, Indexed, entry, entry_there, entry-part, places_of, indexed, k_few, body-here, order}
use Rattle.function_parts.specs.Fitting.{head_is, head_fits, head_legible, legible_more}
use Rattle.function_words.specs.Runs.{Deep}
use Rattle.function_nesting.specs.Nested.{walked_s, kept_s, final_s, front_s, names_s, body_s, cells_s, entered_s, entry_cells_s, ReadyF}
use Rattle.function_nesting.specs.Classes.{made_bytes, head_bytes}
use Rattle.function_names.specs.Named.{pairs_in}
use Rattle.function_record.specs.Closed.{closing, AppendRecordEnsures}
use Rattle.function_localize.specs.Localized.{Nested, LocalizeEnsures}
use Rattle.function_localize.proofs.Starts.{part-function}
use Rattle.function_localize.proofs.Closings.{between-at, closing_is, close_low, close-pairs as pairs-fill}
use Rattle.function_localize.proofs.Few.{made_few}
use Rattle.function_entry.specs.Entered.{NestedE, EnterEnsures}

-- ---- entry point j of the source
module _ {words tags : List ℕ} {n : ℕ} (src : Source words tags n) (scopes : in_scope (mod_of words n) ≡ true) (j : ℕ) (there : j < count_at 7 words) (at s end : ℕ) (at-is : at ≡ record_at 7 j words) (s-is : s ≡ record_at 7 j words + entry_head_words) (end_is : end ≡ record_end 7 j words) where
  abbrev M : Module
  M = mod_of words n

  abbrev E : Entry
  E = entry (mod_of words n) j

  abbrev F : Function
  F = (entry (mod_of words n) j).function

  piece : Part words tags n s end F
  piece = rw (s-is, end_is) (entry-part src scopes j there)

  pub function_is : function_of (between tags words s end) ≡ F
  function_is = part-function piece

  pub entry-piece : Part words tags n s end (function_of (between tags words s end))
  entry-piece = rw function_is piece

  pub entry-nested : {log logtags : List ℕ} {starts maps : List (List ℕ)} {e : Sizes} {o room : ℕ} → NestedE words n log logtags starts maps e o room E → Nested words n log logtags starts maps e o room (function_of (between tags words s end))
  unfolding ReadyF
  entry-nested N = rw function_is (record { scopes = scopes; special = N.special; ready = N.made.ready.1 })

  pub entry-stands : Standing words tags s
  entry-stands = record { end = end; function = F; cells = flat_module M; small = omega (arith, taped_length src.taped, src.taped.small); own = piece.stands }

  -- its head
  pub head_some : at < s
  head_some = omega arith

  head_words : E.head ≡ between tags words at s
  head_words = rw (at-is, s-is) (head_is src j E (entry_there src j there))

  pub head_read : Legible words tags 1024 at s
  head_read = rw (at-is, s-is) (legible_more 1024 (omega arith) (head_legible src j E (entry_there src j there)))

  fits₀ : All (FitN words 0) (refs E.head)
  fits₀ = head_fits src j E (entry_there src j there)

  head_long : length E.head ≡ s - at
  head_long = let h = head_read in let a = h.stretch.in_words in let b = h.stretch.in_tags in ap length head_words ∙ length-between tags words at s b a

  -- ---- its function on the stacks
  module _ (o : ℕ) (ready : ℕ → Derived → Type 0) (follow : ℕ → Derived → Derived) (log₀ logtags₀ : List ℕ) (starts₀ maps₀ : List (List ℕ)) (buckets₀ : List ℕ) (stacks₀ : List (List ℕ)) (e : Sizes) (K₀ : ValidArrays log₀ logtags₀ starts₀ maps₀ buckets₀ e)
      (got : Sizes) (log₁ logtags₁ : List ℕ) (starts₁ maps₁ : List (List ℕ)) (buckets₁ : List ℕ) (stacks₁ : List (List ℕ)) (L₀ : LocalizeEnsures words n o ready follow (function_of (between tags words s end)) log₀ logtags₀ starts₀ maps₀ buckets₀ stacks₀ e got log₁ logtags₁ starts₁ maps₁ buckets₁ stacks₁) where
    abbrev S₀ : List ℕ → Derived
    S₀ special = st_of words log₀ logtags₀ starts₀ maps₀ special e

    abbrev size₀ : ℕ
    size₀ = size_r (table_of log₀ logtags₀ starts₀ e.counts 7)

    abbrev rest : List ℕ → ℕ
    rest special = size₀ + suc (e.exprtop + e.bodytop + length (entry_cells_s o M follow E (S₀ special)))

    L : LocalizeEnsures words n o ready follow F log₀ logtags₀ starts₀ maps₀ buckets₀ stacks₀ e got log₁ logtags₁ starts₁ maps₁ buckets₁ stacks₁
    L = rw function_is at L₀

    cells_more : (special : List ℕ) → length (entry_cells_s o M follow E (S₀ special)) ≡ (s - at) + length (cells_s o M follow F (S₀ special))
    unfolding entry_cells_s carried
    cells_more special =
        let x = entered_s o M follow E (S₀ special) in
        let a = length-append (carried o M x E.head) (cells_s o M follow F (S₀ special)) in
        let b = length_shift (carry_cells (through (mapped_to M x)) E.head) o false ∙ length-carry (through (mapped_to M x)) E.head in
        let c = head_long in
        omega arith

    -- full on the way
    full : (r : Sizes) (log logtags : List ℕ) (starts maps : List (List ℕ)) (buckets : List ℕ) (stacks : List (List ℕ)) → r.full ≡ true
        → ((special : List ℕ) → ReadyF o M ready follow F (S₀ special) → Over (rest special) (entered_s o M follow E (S₀ special)).out ⊎ (16 ≤ get_or e.counts 7 0))
        → Same e.loglen log₀ logtags₀ log logtags → length log ≡ 16384 → length logtags ≡ 16384 → Marks buckets₀ buckets
        → EnterEnsures words n o ready follow E log₀ logtags₀ starts₀ maps₀ buckets₀ stacks₀ e r log logtags starts maps buckets stacks
    full r log logtags starts maps buckets stacks z v b l l' m = record {
      over = λ _. v;
      is = λ y. absurd (false≢true (sym y ∙ z));
      table = λ y. absurd (false≢true (sym y ∙ z));
      count = λ y. absurd (false≢true (sym y ∙ z));
      kept = λ y. absurd (false≢true (sym y ∙ z));
      pairs-same = λ y. absurd (false≢true (sym y ∙ z));
      tops = λ y. absurd (false≢true (sym y ∙ z));
      more = λ y. absurd (false≢true (sym y ∙ z));
      deep = λ y. absurd (false≢true (sym y ∙ z));
      stacks_are = λ y. absurd (false≢true (sym y ∙ z));
      below = b;
      log_long = l;
      tags_long = l';
      marks_stay = m;
    }

    pub function_full : got.full ≡ true → EnterEnsures words n o ready follow E log₀ logtags₀ starts₀ maps₀ buckets₀ stacks₀ e got log₁ logtags₁ starts₁ maps₁ buckets₁ stacks₁
    unfolding entered_s ReadyF
    function_full z = full got log₁ logtags₁ starts₁ maps₁ buckets₁ stacks₁ z over L.below L.log_long L.tags_long L.marks_stay
      where
        over : (special : List ℕ) → ReadyF o M ready follow F (S₀ special) → Over (rest special) (entered_s o M follow E (S₀ special)).out ⊎ (16 ≤ get_or e.counts 7 0)
        over special h = let c = cells_more special in inl (over_more _ _ (omega arith) (over_grow _ (grow_outward o M E.head (final_s o M follow F (S₀ special)).out) (L.over z special h.1)))

    -- ---- what its head refers to
    module _ (z : got.full ≡ false) (led : Sizes) (log₂ logtags₂ : List ℕ) (starts₂ maps₂ : List (List ℕ)) (buckets₂ : List ℕ) (O : ImportEnsures words (outward o M still (between tags words at s)) log₁ logtags₁ starts₁ maps₁ buckets₁ got led log₂ logtags₂ starts₂ maps₂ buckets₂) where
      led_is : (special : List ℕ) → (entered_s o M follow E (S₀ special)).out ≡ outward o M still (between tags words at s) (st_of words log₁ logtags₁ starts₁ maps₁ special got)
      unfolding entered_s
      led_is special = ap₂ (outward o M still) head_words (L.is z special)

      entries₁ : table_of log₁ logtags₁ starts₁ got.counts 7 ≡ table_of log₀ logtags₀ starts₀ e.counts 7
      entries₁ =
          rw ((L.along z).entries_same.0, (L.along z).entries_same.1)
          (table_stays log₀ logtags₀ log₁ logtags₁ starts₀ maps₀ buckets₀ buckets₁ e K₀ L.below L.log_long L.tags_long L.marks_stay 7 (omega arith))

      below₂ : Same e.loglen log₀ logtags₀ log₂ logtags₂
      below₂ = same_then e.loglen got.loglen log₀ logtags₀ log₁ logtags₁ log₂ logtags₂ (L.more z) L.below O.below

      marks_stay₂ : Marks buckets₀ buckets₂
      marks_stay₂ = marks_then buckets₀ buckets₁ buckets₂ L.marks_stay O.marks_stay

      pub head_full : led.full ≡ true → EnterEnsures words n o ready follow E log₀ logtags₀ starts₀ maps₀ buckets₀ stacks₀ e led log₂ logtags₂ starts₂ maps₂ buckets₂ stacks₁
      head_full y = full led log₂ logtags₂ starts₂ maps₂ buckets₂ stacks₁ y (λ special h. let a = ap size_r entries₁ in inl (rw (led_is special) (over_more _ _ (omega arith) (O.over y special)))) below₂ O.log_long O.tags_long marks_stay₂

      module _ (y : led.full ≡ false) where
        -- the tops are as they were after the function
        et_same : led.exprtop ≡ got.exprtop
        et_same = (O.beside y).tops_same.0

        bt_same : led.bodytop ≡ got.bodytop
        bt_same = (O.beside y).tops_same.1

        made-same : led.made ≡ got.made
        made-same = (O.beside y).tops_same.2

        entered_is : (special : List ℕ) → (entered_s o M follow E (S₀ special)).out ≡ st_of words log₂ logtags₂ starts₂ maps₂ special led
        entered_is special = led_is special ∙ O.is y special

        entries₂ : table_of log₂ logtags₂ starts₂ led.counts 7 ≡ table_of log₀ logtags₀ starts₀ e.counts 7
        entries₂ =
            rw ((O.beside y).entries_same.0, (O.beside y).entries_same.1)
            (table_stays log₁ logtags₁ log₂ logtags₂ starts₁ maps₁ buckets₁ buckets₂ got (L.kept z) O.below O.log_long O.tags_long O.marks_stay 7 (omega arith))
            ∙ entries₁

        count_same : get_or led.counts 7 0 ≡ get_or e.counts 7 0
        count_same = (O.beside y).entries_same.1 ∙ (L.along z).entries_same.1

        pub stacks_led : Stacks stacks₁ led
        stacks_led = let a = L.stacks_are z in record { four = a.four; rows = a.rows; high = rw et_same a.high; high' = rw bt_same a.high' }

        -- how much is made
        made_long : (special : List ℕ) → e.exprtop + length (flat_all (walked_s o M follow F (S₀ special)).made) ≡ led.exprtop
        made_long special =
            let a = L.stacks_are z in
            let h = a.high in
            let x = a.rows 0 (omega arith) in
            let w = a.rows 1 (omega arith) in
            let b = length-between (row stacks₁ 1) (row stacks₁ 0) e.exprtop got.exprtop (omega arith) (omega arith) in
            let c = ap length (L.exprs z special) in
            let d = (L.along z).et_more in
            let q = et_same in
            omega arith

        cells_many : (special : List ℕ) → length (flat_all (walked_s o M follow F (S₀ special)).made) ≤ length (cells_s o M follow F (S₀ special))
        unfolding cells_s flat_list
        cells_many special =
            let a = front_s o M follow F (S₀ special) in
            let b : Cells = flat_list EXPRESSIONS (walked_s o M follow F (S₀ special)).made in
            let c : Cells = (NAMED, length (kept_s o M follow F (S₀ special))) ∷ names_s o M follow F (S₀ special) in
            let d = body_s o M follow F (S₀ special) in
            omega (arith, length-append (a ++ b ++ c) d, length-append (a ++ b) c, length-append a b)

        pub write_full : 16384 - led.exprtop < s - at → (r : Sizes) → r.full ≡ true → EnterEnsures words n o ready follow E log₀ logtags₀ starts₀ maps₀ buckets₀ stacks₀ e r log₂ logtags₂ starts₂ maps₂ buckets₂ stacks₁
        write_full q r f =
            full r log₂ logtags₂ starts₂ maps₂ buckets₂ stacks₁ f
            (λ special h. let a = made_long special in let b = cells_many special in let c = cells_more special in inl (long (omega arith)))
            below₂ O.log_long O.tags_long marks_stay₂

        pub led_bears : Bearing log₂ logtags₂ starts₂ led
        led_bears = bearing (O.kept y)

        -- ---- the head, written above the expressions
        module _ (exprmap : List ℕ) (room : s - at ≤ 16384 - led.exprtop) (stacks₂ : List (List ℕ)) (W : Wrote (shift (carried_by (went_of words n log₂ logtags₂ starts₂ maps₂ led exprmap) tags words at s) o false) led.exprtop stacks₁ stacks₂) where
          fits : led.exprtop + (s - at) ≤ 16384
          fits = let h = stacks_led.high in omega arith

          abbrev C : Cells
          C = shift (carried_by (went_of words n log₂ logtags₂ starts₂ maps₂ led exprmap) tags words at s) o false

          c_long : length C ≡ s - at
          unfolding carried_by
          c_long =
              length_shift (carried_by (went_of words n log₂ logtags₂ starts₂ maps₂ led exprmap) tags words at s) o false ∙ length-carry (through (went_of words n log₂ logtags₂ starts₂ maps₂ led exprmap)) (between tags words at s)
              ∙ ap length (sym head_words) ∙ head_long

          -- by the builder, as the head refers to tables alone
          went_is : (special : List ℕ) (m : Builder) → m.out ≡ st_of words log₂ logtags₂ starts₂ maps₂ special led → (p : Place) (i : ℕ) → Fits words 0 p i → mapped_to M m p i ≡ went_of words n log₂ logtags₂ starts₂ maps₂ led exprmap p i
          unfolding mapped_to went_of Fits
          went_is special m q (table t) i h = ap (λ (x : Derived). map_at x.maps t i) q ∙ map_is words log₂ logtags₂ starts₂ maps₂ special led t i h.0
          went_is special m q own i h = absurd (omega arith)
          went_is special m q function i h = ap (λ (x : Derived). known M x i) q ∙ (unfold known st_of in refl)

          head_cells : (special : List ℕ) → carried o M (entered_s o M follow E (S₀ special)) E.head ≡ C
          unfolding carried carried_by
          head_cells special =
              ap (λ (cs : Cells). shift cs o false)
              (carry_same (went_of words n log₂ logtags₂ starts₂ maps₂ led exprmap) (mapped_to M (entered_s o M follow E (S₀ special))) E.head (all_map (refs E.head) (λ i f. went_is special (entered_s o M follow E (S₀ special)) (entered_is special) i.place i.num f) fits₀)
              ∙ ap (carry_cells (through (went_of words n log₂ logtags₂ starts₂ maps₂ led exprmap))) head_words)

          abbrev R : (t : ℕ) → t < 4 → length (row stacks₁ t) ≡ 16384
          R = (L.stacks_are z).rows

          high : led.exprtop + length C ≤ 16384
          high = let c = c_long in omega arith

          words_below : take led.exprtop (row stacks₂ 0) ≡ take led.exprtop (row stacks₁ 0)
          words_below = wrote_words C led.exprtop (row stacks₁ 0) (row stacks₁ 1) (row stacks₂ 0) (row stacks₂ 1) (R 0 (omega arith)) (R 1 (omega arith)) high W.cells

          tags_below : take led.exprtop (row stacks₂ 1) ≡ take led.exprtop (row stacks₁ 1)
          tags_below = wrote_tags C led.exprtop (row stacks₁ 0) (row stacks₁ 1) (row stacks₂ 0) (row stacks₂ 1) (R 0 (omega arith)) (R 1 (omega arith)) high W.cells

          rows₂ : (t : ℕ) → t < 4 → length (row stacks₂ t) ≡ 16384
          rows₂ zero h = wrote_long C led.exprtop (row stacks₁ 0) (row stacks₁ 1) (row stacks₂ 0) (row stacks₂ 1) (R 0 (omega arith)) (R 1 (omega arith)) high W.cells
          rows₂ (suc zero) h = wrote_long' C led.exprtop (row stacks₁ 0) (row stacks₁ 1) (row stacks₂ 0) (row stacks₂ 1) (R 0 (omega arith)) (R 1 (omega arith)) high W.cells
          rows₂ (suc (suc zero)) h = rw W.seats_same (R 2 (omega arith))
          rows₂ (suc (suc (suc zero))) h = rw W.body_same (R 3 (omega arith))
          rows₂ (suc (suc (suc (suc t)))) h = absurd (omega arith)

          stacks_wrote : Stacks stacks₂ led
          stacks_wrote = record { four = W.four; rows = rows₂; high = stacks_led.high; high' = stacks_led.high' }

          top_cells : between (row stacks₂ 1) (row stacks₂ 0) led.exprtop (led.exprtop + (s - at)) ≡ C
          top_cells = rw (← c_long) (wrote_cells C led.exprtop (row stacks₁ 0) (row stacks₁ 1) (row stacks₂ 0) (row stacks₂ 1) (R 0 (omega arith)) (R 1 (omega arith)) high W.cells)

          exprs_same : between (row stacks₂ 1) (row stacks₂ 0) e.exprtop got.exprtop ≡ between (row stacks₁ 1) (row stacks₁ 0) e.exprtop got.exprtop
          exprs_same = between-same (row stacks₁ 1) (row stacks₁ 0) (row stacks₂ 1) (row stacks₂ 0) e.exprtop got.exprtop led.exprtop (let q = et_same in omega arith) tags_below words_below

          deep_then : Deep e.exprtop e.bodytop stacks₀ stacks₂
          deep_then = record { expressions = kept; body = ap (take e.bodytop) W.body_same ∙ (L.deep z).body }
            where
              low : e.exprtop ≤ led.exprtop
              low = rw et_same (L.along z).et_more

              kept : (t : ℕ) → t < 3 → take e.exprtop (row stacks₂ t) ≡ take e.exprtop (row stacks₀ t)
              kept zero h = take_less e.exprtop led.exprtop (row stacks₂ 0) (row stacks₁ 0) low words_below ∙ (L.deep z).expressions 0 (omega arith)
              kept (suc zero) h = take_less e.exprtop led.exprtop (row stacks₂ 1) (row stacks₁ 1) low tags_below ∙ (L.deep z).expressions 1 (omega arith)
              kept (suc (suc zero)) h = ap (take e.exprtop) W.seats_same ∙ (L.deep z).expressions 2 (omega arith)
              kept (suc (suc (suc t))) h = absurd (omega arith)

          -- ---- what closing requires
          module _ (ea body : ℕ) (ea_is : ea ≡ expressions_at s words) (B : Body body words tags s) where
            read : Indexed words tags s end ea (places_of tags ea end) (get_or words ea 0) (get_or (places_of tags ea end) (get_or words ea 0) 0) body
            read = rw ea_is (record { ea_is = refl; places_are = refl; k_is = refl; named_is = refl; body_is = B.same piece.stands ∙ sym (body-here piece (indexed words tags s end)) })

            close_sides : (s ≤ ea) × (ea ≤ body) × (body ≤ end) × (end ≤ 16384) × (length tags ≡ 16384)
            close_sides = let a = order piece read in (a.to_exprs, omega (arith, a), omega (arith, a), a.in_words, src.taped.tags_long)

            close_tops : (e.exprtop ≤ led.exprtop) × (e.bodytop + ((ea - s) + (end - body)) ≤ led.bodytop)
            close_tops = (rw et_same (L.along z).et_more, rw bt_same (close_low piece read o ready follow log₀ logtags₀ starts₀ maps₀ buckets₀ stacks₀ e got log₁ logtags₁ starts₁ maps₁ buckets₁ stacks₁ L z))

            close-made : led.made ≤ 16384
            close-made = let a = made-same ∙ L.made z [] in let b = made_few piece read o follow (S₀ []) in let d = k_few piece read in omega arith

            close-pairs : length (pairs_in (slice (e.bodytop + ((ea - s) + (end - body))) led.bodytop (row stacks₂ 3))) * 2 + (e.bodytop + ((ea - s) + (end - body))) ≡ led.bodytop
            close-pairs = rw (bt_same, W.body_same) (pairs-fill piece read o ready follow log₀ logtags₀ starts₀ maps₀ buckets₀ stacks₀ e got log₁ logtags₁ starts₁ maps₁ buckets₁ stacks₁ L z)

            close_bytes : (i : ℕ) → e.exprtop ≤ i → i < led.exprtop + (s - at) → get_or (row stacks₂ 1) i 0 < 256
            close_bytes i h g =
                let l = close_tops.0 in
                let x = rows₂ 0 (omega arith) in
                let w = rows₂ 1 (omega arith) in
                let a : between (row stacks₂ 1) (row stacks₂ 0) e.exprtop led.exprtop ≡ flat_all (walked_s o M follow F (S₀ [])).made = ap (between (row stacks₂ 1) (row stacks₂ 0) e.exprtop) et_same ∙ exprs_same ∙ L.exprs z [] in
                let b : Each (λ c. class c < 256) (between (row stacks₂ 1) (row stacks₂ 0) e.exprtop led.exprtop) = rw a (made_bytes o M follow F piece.pass.well (S₀ [])) in
                let c : Each (λ c. class c < 256) (between (row stacks₂ 1) (row stacks₂ 0) led.exprtop (led.exprtop + (s - at))) = rw (top_cells, ← head_cells []) (head_bytes o M (entered_s o M follow E (S₀ [])) E (looked_each src.taped.well.entries_ok.each j (entry_there src j there))) in
                let d = rw (between_join (row stacks₂ 1) (row stacks₂ 0) e.exprtop led.exprtop (led.exprtop + (s - at)) (omega arith) (omega arith) (omega arith) (omega arith)) at (each_append b c) in
                let m = length-between (row stacks₂ 1) (row stacks₂ 0) e.exprtop (led.exprtop + (s - at)) (omega arith) (omega arith) in
                let q : e.exprtop + (i - e.exprtop) ≡ i = omega arith in
                rw (← q) (rw (between-at (row stacks₂ 1) (row stacks₂ 0) (i - e.exprtop) e.exprtop (led.exprtop + (s - at)) (omega arith) (omega arith) (omega arith)) at (each_at d (i - e.exprtop) (0, 0) (omega arith)))

            pub close_may : ((s ≤ ea) × (ea ≤ body) × (body ≤ end) × (end ≤ 16384) × (length tags ≡ 16384))
                × (((7 < 8) × (16 ≤ 512) × (get_or led.counts 7 0 ≤ 16) × (led.exprtop + (s - at) ≤ 16384) × (led.made ≤ 16384) × (led.full ≡ false))
                × (((Stacks stacks₂ led) × (e.exprtop ≤ led.exprtop) × (e.bodytop + ((ea - s) + (end - body)) ≤ led.bodytop))
                × ((length (pairs_in (slice (e.bodytop + ((ea - s) + (end - body))) led.bodytop (row stacks₂ 3))) * 2 + (e.bodytop + ((ea - s) + (end - body))) ≡ led.bodytop)
                × (((i : ℕ) → e.exprtop ≤ i → i < led.exprtop + (s - at) → get_or (row stacks₂ 1) i 0 < 256)
                × ((23 + 2 * led.pairs + led.loglen ≤ 16384) × (length log₂ ≡ 16384) × (length logtags₂ ≡ 16384) × (length starts₂ ≡ 8) × (length (row starts₂ 7) ≡ 512) × (length led.counts ≡ 8))))))
            close_may =
                let K = O.kept y in
                let t = close_tops in
                (close_sides, ((omega arith, omega arith, K.few_entries, fits, close-made, y), ((stacks_wrote, t.0, t.1), (close-pairs, (close_bytes, (K.room, K.log_long, K.tags_long, K.starts_eight, K.rows 7 (omega arith), K.counts_eight))))))

            -- what is above the expressions has no part in the function's record
            closing_same : closing tags stacks₂ e led s ea body end ≡ closing tags stacks₁ e got s ea body end
            unfolding closing
            closing_same = rw (et_same, bt_same, made-same, W.body_same, exprs_same) refl

            record_is : (special : List ℕ) → between (row stacks₂ 1) (row stacks₂ 0) led.exprtop (led.exprtop + (s - at)) ++ closing tags stacks₂ e led s ea body end ≡ entry_cells_s o M follow E (S₀ special)
            unfolding entry_cells_s
            record_is special = ap₂ (λ (a b : Cells). a ++ b) (top_cells ∙ sym (head_cells special)) (closing_same ∙ closing_is piece read o ready follow log₀ logtags₀ starts₀ maps₀ buckets₀ stacks₀ e got log₁ logtags₁ starts₁ maps₁ buckets₁ stacks₁ L z special)

            -- ---- the record among the entry points
            abbrev c : Cells
            c = between (row stacks₂ 1) (row stacks₂ 0) led.exprtop (led.exprtop + (s - at)) ++ closing tags stacks₂ e led s ea body end

            module _ (r : Sizes) (log₃ logtags₃ : List ℕ) (starts₃ : List (List ℕ)) (X : AppendRecordEnsures c 16 7 e led log₂ logtags₂ starts₂ r log₃ logtags₃ starts₃) where
              K₂ : ValidArrays log₂ logtags₂ starts₂ maps₂ buckets₂ led
              K₂ = O.kept y

              over : r.full ≡ true → (special : List ℕ) → Over (rest special) (entered_s o M follow E (S₀ special)).out ⊎ (16 ≤ get_or e.counts 7 0)
              over x special = ⊎_elim (λ (q : get_or led.counts 7 0 ≡ 16). let a = count_same in inr (omega arith)) large (X.over x)
                where
                  large : 16384 < 23 + 2 * led.pairs + (led.loglen + suc (length c)) → Over (rest special) (entered_s o M follow E (S₀ special)).out ⊎ (16 ≤ get_or e.counts 7 0)
                  large q =
                      let w = words_are log₂ logtags₂ starts₂ maps₂ buckets₂ led K₂ words special in
                      let a = ap size_r entries₂ in
                      let b = ap length (record_is special) in
                      inl (rw (entered_is special) (long (omega arith)))

              module _ (x : r.full ≡ false) where
                few : get_or led.counts 7 0 < 16
                few = (X.room x).0

                low : get_or led.counts 7 0 < 512
                low = let a = few in omega arith

                marks-same : Marks buckets₂ buckets₂
                marks-same = marks_refl buckets₂ K₂.marks_long

                counts_are : r.counts ≡ set led.counts 7 (get_or led.counts 7 0 + 1)
                counts_are = ap (λ (v : Sizes). v.counts) (X.ends x)

                used_is : r.loglen ≡ led.loglen + suc (length c)
                used_is = ap (λ (v : Sizes). v.loglen) (X.ends x)

                pairs_is : r.pairs ≡ led.pairs
                pairs_is = ap (λ (v : Sizes). v.pairs) (X.ends x)

                other : (u : ℕ) → u < 7 → table_of log₃ logtags₃ starts₃ r.counts u ≡ table_of log₂ logtags₂ starts₂ led.counts u
                other u h = rw (X.starts_are x, counts_are) (table_same log₂ logtags₂ log₃ logtags₃ starts₂ maps₂ buckets₂ buckets₂ led K₂ X.below X.log_long X.tags_long marks-same 7 (omega arith) c (X.is x) (X.size x) (X.room x).1 low u (omega arith) (λ q. omega arith))

                recs_same : recs_of log₃ logtags₃ starts₃ r.counts ≡ recs_of log₂ logtags₂ starts₂ led.counts
                unfolding recs_of
                recs_same = six_ext _ _ (λ u. at-six u (λ t. table_of log₃ logtags₃ starts₃ r.counts (code_t t)) ∙ other (code_t u) (omega (arith, code_low u)) ∙ sym (at-six u (λ t. table_of log₂ logtags₂ starts₂ led.counts (code_t t))))

                state-same : (special : List ℕ) → st_of words log₃ logtags₃ starts₃ maps₂ special r ≡ st_of words log₂ logtags₂ starts₂ maps₂ special led
                unfolding st_of functions_of
                state-same special = rw (recs_same, other 6 (omega arith), pairs_is)

                entries₃ : table_of log₃ logtags₃ starts₃ r.counts 7 ≡ table_of log₀ logtags₀ starts₀ e.counts 7 ++ (c ∷ [])
                entries₃ = rw (X.starts_are x, counts_are) (table_more log₂ logtags₂ log₃ logtags₃ starts₂ maps₂ buckets₂ buckets₂ led K₂ X.below X.log_long X.tags_long marks-same 7 (omega arith) c (X.is x) (X.size x) (X.room x).1 low)
                    ∙ ap (λ (l : List Cells). l ++ (c ∷ [])) entries₂

                module _ (special : List ℕ) (reads : flat_entry (entry_of (entry_cells_s o M follow E (S₀ special))) ≡ entry_cells_s o M follow E (S₀ special)) (named : Named (count (entered_s o M follow E (S₀ special)).out.recs names) (entry_cells_s o M follow E (S₀ special))) where
                  names_many : count (entered_s o M follow E (S₀ special)).out.recs names ≡ get_or led.counts 0 0
                  unfolding count st_of
                  names_many = ap (λ (v : Derived). count v.recs names) (entered_is special) ∙ (unfold tab_of in tab_long log₂ logtags₂ starts₂ maps₂ buckets₂ led K₂ 0 (omega arith))

                  joins : Joins 7 (get_or led.counts 7 0) (get_or led.counts 0 0) (table_of log₂ logtags₂ starts₂ led.counts 7) c buckets₂
                  joins = record {
                    few = low;
                    few_functions = λ q. absurd (omega arith);
                    few_entries = λ q. few;
                    named = rw (record_is special, ← names_many) named;
                    plain = λ q. absurd (omega arith);
                    apart = λ q. absurd (omega arith);
                    marked = λ q. absurd (omega arith);
                    flats = λ q. absurd (omega arith);
                    flats' = λ q. rw (record_is special) reads;
                  }

                  kept₃ : ValidArrays log₃ logtags₃ starts₃ maps₂ buckets₂ r
                  kept₃ = rw (X.starts_are x)
                      (kept_tops (kept_more log₂ logtags₂ log₃ logtags₃ starts₂ maps₂ buckets₂ buckets₂ led K₂ X.below X.log_long X.tags_long marks-same 7 (omega arith) c (X.is x) (X.size x) (X.room x).1 low joins) r used_is counts_are pairs_is)

              pub entry_done : (special : List ℕ) → flat_entry (entry_of (entry_cells_s o M follow E (S₀ special))) ≡ entry_cells_s o M follow E (S₀ special) → Named (count (entered_s o M follow E (S₀ special)).out.recs names) (entry_cells_s o M follow E (S₀ special))
                  → EnterEnsures words n o ready follow E log₀ logtags₀ starts₀ maps₀ buckets₀ stacks₀ e r log₃ logtags₃ starts₃ maps₂ buckets₂ stacks₂
              entry_done special reads named = record {
                over = λ x special h. over x special;
                is = λ x special. entered_is special ∙ sym (state-same x special);
                table = λ x special. entries₃ x ∙ ap (λ (d : Cells). table_of log₀ logtags₀ starts₀ e.counts 7 ++ (d ∷ [])) (record_is special);
                count = λ x. let a = K₂.counts_eight in let b = count_same in let d = ap (λ (v : List ℕ). get_or v 7 0) (counts_are x) ∙ get_or-set_same led.counts 7 (get_or led.counts 7 0 + 1) 0 (omega arith) in omega arith;
                kept = λ x. kept₃ x special reads named;
                pairs-same = λ x. pairs_is x ∙ (O.beside y).pairs-same ∙ (L.along z).pairs-same;
                tops = λ x. (ap (λ (v : Sizes). v.exprtop) (X.ends x), ap (λ (v : Sizes). v.bodytop) (X.ends x), ap (λ (v : Sizes). v.made) (X.ends x));
                more = λ x. let a = used_is x in let b = L.more z in let d = O.more y in omega arith;
                deep = λ x. deep_then;
                stacks_are = λ x. let a = stacks_wrote in let b = close_tops in record { four = a.four; rows = a.rows; high = rw (ap (λ (v : Sizes). v.exprtop) (X.ends x)) (le_trans b.0 a.high); high' = rw (ap (λ (v : Sizes). v.bodytop) (X.ends x)) (le_trans (L.along z).bt_more (L.stacks_are z).high') };
                below = same_then e.loglen led.loglen log₀ logtags₀ log₂ logtags₂ log₃ logtags₃ (le_trans (L.more z) (O.more y)) below₂ X.below;
                log_long = X.log_long;
                tags_long = X.tags_long;
                marks_stay = marks_stay₂;
              }
