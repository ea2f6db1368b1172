-- The arrays' tables are those of the module that is gathered from their state, so what is stored from them is what the model's ending answers.
use mathlib.Core.Path.{◌≡◌, refl, sym, ap, ◌∙◌}
use mathlib.Core.Bool.{false}
use mathlib.Core.List.{List, [], ◌∷◌, map}
use Prim.Native.Nat.{ℕ, zero, suc, ◌+◌, ◌*◌, ◌≤◌, ◌<◌}
use native.Mathlib.Omega.{arith}
use lib.ListN.{length, get_or, take}
use lib.Seq.{ext_get_or, length-take-le, get_or-take}
use borrow.Author.Tests.{ne_eqb, lt-ltb, le-ltb}
use Rattle.model.specs.Outcome.{Cells, class, word}
use Rattle.model.specs.Table.{NAME}
use Rattle.model.specs.Tree.{Entry, flat_all}
use Rattle.model.specs.Module.{Module, flat_special, write}
use Rattle.model.specs.Carry.{Each, each_none, each_next}
use Rattle.model.specs.Tables.{code_t, six}
use Rattle.model.specs.Imports.{Derived}
use Rattle.model.specs.Finish.{appearing, named_by, gathered, finished, too_large}
use Rattle.model.specs.Session.{write_if_fits}
use Rattle.theory_finish.specs.Classes.{Not}
use Rattle.theory_image.specs.Quiet.{each_map}
use Rattle.derive_state.specs.Flats.{pairs_at, special_of}
use Rattle.derive_state.specs.Held.{row, cell, rec_at, recs_at, table_of, recs_of, entries_of, st_of, Nameless, ValidArrays}
use Rattle.derive_state.specs.Sizes.{Sizes}
use Rattle.derive_state.proofs.State.{table_long, pairs_long}
use Rattle.derive_state.proofs.Laws.{nameless-none, name_low, special_words}
use Rattle.derive_sections.specs.Flat.{total, ordered, finished_words, cells_of}
use Rattle.derive_sections.specs.Rows.{tabs_of, Rec}
use Rattle.std.specs.Prelude.{Result}
use Rattle.base_refusals.specs.declared.Refusal.{Refusal}
use Rattle.derive_image.specs.Held.{ValidTables, Fits, Stored, large, short, done}
use Rattle.derive_image.proofs.Whole.{length_tabs}
use Rattle.derive_image.proofs.Storing.{tabs_at, length-finished}
use Rattle.derive_image.proofs.Bridge.{finished_cells}
use Rattle.derive_image.proofs.Limits.{large_is, fits_is}
use Rattle.derive_finish.specs.Told.{refusal_of, bytes_in, told, Ended}

-- a fact of the records at these starts
each_recs : {P : Cells → Type 0} (log logtags ss : List ℕ) → ((k : ℕ) → k < length ss → P (rec_at log logtags (get_or ss k 0))) → Each P (recs_at log logtags ss)
unfolding recs_at
each_recs log logtags [] h = each_none
each_recs log logtags (s ∷ ss) h = each_next (h 0 (omega arith)) (each_recs log logtags ss (λ k l. h (suc k) (omega arith)))

not_name : {cs : Cells} → Nameless cs → Each (Not NAME) cs
not_name n = each_map (λ c f. ne_eqb (class c) NAME f) n

-- special types have no names
pairs-plain : (ws : List ℕ) (i n : ℕ) → Each (Not NAME) (flat_all (pairs_at ws i n))
unfolding pairs_at flat_all
pairs-plain ws i zero = each_none
pairs-plain ws i (suc n) = each_next refl (each_next refl (pairs-plain ws (2 + i) n))

specials_plain : (ws : List ℕ) (n : ℕ) → Each (Not NAME) (flat_special (special_of ws n))
unfolding special_of flat_special
specials_plain ws n = each_next refl (each_next refl (each_next refl (pairs-plain ws 3 n)))

module _ (log logtags : List ℕ) (starts maps₀ : List (List ℕ)) (buckets : List ℕ) (e : Sizes) (K : ValidArrays log logtags starts maps₀ buckets e) where
  -- ---- what finish requires
  in_log : (t k : ℕ) → t < 8 → k < get_or e.counts t 0 → Rec (get_or e.counts 0 0) log logtags (cell starts t k)
  in_log t k h l =
      let w : cell starts t k + suc (get_or log (cell starts t k) 0) ≤ 16384 = omega (arith, K.within t k h l, K.room) in
      record { log_long = K.log_long; tags_long = K.tags_long; within = w; low = name_low log logtags (get_or e.counts 0 0) (cell starts t k) K.log_long K.tags_long w (K.named t k h l) }

  pub derived : ValidTables log logtags starts e.counts
  derived = record {
    rows = record {
      eight = K.starts_eight;
      eight' = K.counts_eight;
      log_long = K.log_long;
      tags_long = K.tags_long;
      rows = λ t h. record { row_long = K.rows t h; few = K.few t h; recs = λ k l. in_log t k h l };
    };
    plain = λ k l. nameless-none (K.plain k l);
  }

  abbrev T : ℕ → List Cells
  T t = table_of log logtags starts e.counts t

  tab : (t : ℕ) → t < 8 → get_or (tabs_of log logtags starts e.counts) t [] ≡ get_or (T 0 ∷ T 1 ∷ T 2 ∷ T 3 ∷ T 4 ∷ T 5 ∷ T 6 ∷ T 7 ∷ []) t []
  tab t h = tabs_at log logtags starts e.counts t (omega (arith, K.starts_eight)) (omega (arith, K.counts_eight)) ∙ at t h
    where
      at : (t : ℕ) → t < 8 → T t ≡ get_or (T 0 ∷ T 1 ∷ T 2 ∷ T 3 ∷ T 4 ∷ T 5 ∷ T 6 ∷ T 7 ∷ []) t []
      at zero h = refl
      at (suc zero) h = refl
      at (suc (suc zero)) h = refl
      at (suc (suc (suc zero))) h = refl
      at (suc (suc (suc (suc zero)))) h = refl
      at (suc (suc (suc (suc (suc zero))))) h = refl
      at (suc (suc (suc (suc (suc (suc zero)))))) h = refl
      at (suc (suc (suc (suc (suc (suc (suc zero))))))) h = refl
      at (suc (suc (suc (suc (suc (suc (suc (suc t)))))))) h = absurd (omega arith)

  tabs_long : length (tabs_of log logtags starts e.counts) ≡ 8
  tabs_long = length_tabs log logtags starts e.counts (K.starts_eight ∙ sym K.counts_eight) ∙ K.starts_eight

  module _ (special : List ℕ) (long : length special ≡ 1027) (words : List ℕ) (maps : List (List ℕ)) where
    abbrev s : Derived
    s = st_of words log logtags starts maps special e

    abbrev es : List Entry
    es = entries_of log logtags starts e.counts

    abbrev t : Module
    t = gathered s es

    abbrev m : Module
    m = named_by (appearing t) t

    abbrev sp : List ℕ
    sp = map word (flat_special t.special)

    -- ---- THE TABLES are the module's, and so are the special types
    tabs_are : tabs_of log logtags starts e.counts ≡ cells_of t
    unfolding cells_of gathered st_of recs_of six code_t
    tabs_are = ext_get_or [] (tabs_of log logtags starts e.counts) (T 0 ∷ T 1 ∷ T 2 ∷ T 3 ∷ T 4 ∷ T 5 ∷ T 6 ∷ T 7 ∷ []) tabs_long (λ i h. tab i (omega (arith, tabs_long))) ∙ rw (K.flats, K.flats')

    special_are : take (3 + 2 * e.pairs) special ≡ sp
    unfolding gathered st_of
    special_are = sym (special_words special e.pairs (omega (arith, K.few_pairs)))

    pairs_are : length t.special.pairs ≡ e.pairs
    unfolding gathered st_of special_of
    pairs_are = pairs_long special e.pairs 3

    names_plain : Each (Each (Not NAME)) t.names
    unfolding gathered st_of recs_of six code_t
    names_plain = each_recs log logtags (take (get_or e.counts 0 0) (row starts 0)) λ k h.
        let l : k < get_or e.counts 0 0 = omega (arith, length-take-le (get_or e.counts 0 0) (row starts 0) (omega (arith, K.rows 0 (omega arith), K.few 0 (omega arith)))) in
        rw (get_or-take (get_or e.counts 0 0) (row starts 0) k 0 l) (not_name (K.plain k l))

    special-plain : Each (Not NAME) (flat_special t.special)
    unfolding gathered st_of
    special-plain = specials_plain special e.pairs

    table_few : (u : ℕ) → u < 8 → length (T u) ≤ 512
    table_few u h = omega (arith, table_long log logtags starts maps₀ buckets e K u h, K.few u h)

    -- ---- THE ANSWER
    fits : Fits (cells_of t) sp → too_large m ≡ false
    unfolding gathered st_of recs_of six code_t
    fits f =
        fits_is t names_plain special-plain f (table_few 1 (omega arith)) (table_few 2 (omega arith)) (table_few 3 (omega arith)) (table_few 4 (omega arith)) (table_few 5 (omega arith))
        (omega (arith, pairs_are, K.few_pairs))

    words_are : finished_words (cells_of t) (length t.special.pairs) sp ≡ write m
    words_are = finished_cells t names_plain special-plain

    length_is : length (write m) ≡ total (ordered (cells_of t)) sp
    unfolding cells_of
    length_is = sym (ap length words_are) ∙ length-finished (cells_of t) (length t.special.pairs) sp refl

    answer : {output₀ : List ℕ} {r : Result ℕ Refusal} {output : List ℕ} → Stored (cells_of t) (length t.special.pairs) sp output₀ r output → (refusal_of r, bytes_in r, output) ≡ told (write_if_fits m (length output₀)) output₀
    unfolding told write_if_fits
    answer (large h) = rw (write_if_fits, large_is t names_plain special-plain h)
    answer {output₀} (short f h) = rw (write_if_fits, fits f, lt-ltb (length output₀) (4 * length (write m)) (omega (arith, length_is)))
    answer {output₀} (done f h) = rw (write_if_fits, fits f, le-ltb (length output₀) (4 * length (write m)) (omega (arith, length_is)), words_are, length_is)

    answer_of_lem : (rss : List (List Cells)) (n : ℕ) (ws : List ℕ) → rss ≡ cells_of t → n ≡ length t.special.pairs → ws ≡ sp → {output₀ : List ℕ} {r : Result ℕ Refusal} {output : List ℕ} → Stored rss n ws output₀ r output → (refusal_of r, bytes_in r, output) ≡ told (write_if_fits m (length output₀)) output₀
    answer_of_lem rss n ws p q u w = answer (rw (p, q, u) at w)

  -- what is stored is what the model answers
  pub ended : (special : List ℕ) → length special ≡ 1027 → {output₀ : List ℕ} {r : Result ℕ Refusal} {output : List ℕ} → Stored (tabs_of log logtags starts e.counts) e.pairs (take (3 + 2 * e.pairs) special) output₀ r output → Ended log logtags starts special e output₀ (refusal_of r) (bytes_in r) output
  unfolding finished
  ended special long q = record {
    same = λ words maps. answer_of_lem special long words maps _ _ _ (tabs_are special long words maps) (sym (pairs_are special long words maps)) (special_are special long words maps) q;
  }
