-- Finish: the parts put together.
use mathlib.Core.Path.{◌≡◌, refl, sym, ap, ap₂, ◌∙◌}
use mathlib.Core.List.{List, [], ◌∷◌, ◌++◌, map}
use Prim.Native.Nat.{ℕ, zero, suc, ◌+◌, ◌*◌, ◌≤◌, ◌<◌}
use native.Mathlib.Omega.{arith}
use lib.ListN.{length, get_or, set, take, drop, length-set, get_or-eq_default}
use lib.Seq.{sets, length-take-le, get_or-take, get_or-set_same, get_or-set_other}
use lib.Dec.{ltb}
use borrow.Author.Tests.{ltb-true, ltb-false}
use Rattle.theory_lists.specs.Stores.{sets-append}
use Rattle.derive_state.proofs.State.{recs_long}
use Rattle.theory_finish.specs.Firsts.{either}
use Rattle.model.specs.Outcome.{Cell, Cells}
use Rattle.model.specs.Finish.{names_in}
use Rattle.derive_sections.specs.Flat.{firsts_t, sizes, heads, tables, total, image_words, new_name, ordered, finished_words}
use Rattle.derive_state.specs.Held.{recs_at}
use Rattle.derive_sections.specs.Rows.{tabs_of, Row, Rows, AppearingEnsures, named}
use Rattle.std.specs.Prelude.{Result, Ok, Err}
use Rattle.derive_state.specs.declared.Full.{Full as TooLarge}
use Rattle.derive_image.specs.Held.{ValidTables, Finishes}
use Rattle.derive_image.proofs.Whole.{map_at_lem, wide-rec, wide_row, rec-at, tabs_ordered, ordered-tables, length-tables, length-heads, length_tabs}

tabs_first : (log logtags : List ℕ) (starts : List (List ℕ)) (counts : List ℕ) → 0 < length starts → 0 < length counts → get_or (tabs_of log logtags starts counts) 0 [] ≡ recs_at log logtags (take (get_or counts 0 0) (get_or starts 0 []))
unfolding tabs_of
tabs_first log logtags [] counts h g = absurd (omega arith)
tabs_first log logtags (ss ∷ sss) [] h g = absurd (omega arith)
tabs_first log logtags (ss ∷ sss) (c ∷ cs) h g = refl

tabs_rest : (log logtags : List ℕ) (starts : List (List ℕ)) (counts : List ℕ) → 0 < length starts → 0 < length counts → drop 1 (tabs_of log logtags starts counts) ≡ tabs_of log logtags (drop 1 starts) (drop 1 counts)
unfolding tabs_of
tabs_rest log logtags [] counts h g = absurd (omega arith)
tabs_rest log logtags (ss ∷ sss) [] h g = absurd (omega arith)
tabs_rest log logtags (ss ∷ sss) (c ∷ cs) h g = refl

pub finished-image : (rss : List (List Cells)) (pairs : ℕ) (special : List ℕ) → 0 < length rss → finished_words rss pairs special ≡ image_words (new_name (firsts_t (drop 1 rss) [])) (ordered rss) pairs special
unfolding finished_words ordered
finished-image [] pairs special h = absurd (omega arith)
finished-image (names ∷ rss) pairs special h = refl

pub length-ordered : (rss : List (List Cells)) → length (ordered rss) ≡ length rss
unfolding ordered
length-ordered [] = refl
length-ordered (names ∷ rss) = refl

-- what is too large is no number, and a number is one alone
err-ok : {e : TooLarge} {k : ℕ} → ◌≡◌ {A = Result ℕ TooLarge} (Err e) (Ok k) → ⊥
err-ok q = cc

same_ok : {j k : ℕ} → ◌≡◌ {A = Result ℕ TooLarge} (Ok j) (Ok k) → j ≡ k
same_ok q = cc

module _ (log logtags : List ℕ) (starts : List (List ℕ)) (counts : List ℕ) (d : ValidTables log logtags starts counts) where
  pub names_few : get_or counts 0 0 ≤ 512
  names_few = (d.rows.rows 0 (omega arith)).few

  abbrev Tabs : List (List Cells)
  Tabs = tabs_of log logtags starts counts

  abbrev Ns : List ℕ
  Ns = firsts_t (tabs_of log logtags (drop 1 starts) (drop 1 counts)) []

  module _ (order places : List ℕ) (n : ℕ) (v : AppearingEnsures (get_or counts 0 0) Ns order places n) where
    order-length : length (take n order) ≡ n
    order-length = length-take-le n order (let z = v.order_long in let y = v.few in omega arith)

    pub order_few : length (take n order) ≤ 512
    order_few = let z = order-length in let y = v.few in omega arith

    pub order_low : (j : ℕ) → j < length (take n order) → get_or (take n order) j 0 < 512
    order_low j h = let l : j < n = (let z = order-length in omega arith) in rw (get_or-take n order j 0 l) (let z = v.inside j l in let y = names_few in omega arith)

    module _ (ch : List ℕ) (w' : (take (length (take n order)) ch ≡ map (λ (k : ℕ). get_or (get_or starts 0 []) k 0) (take n order)) × (length ch ≡ 512)) where
      w : (take n ch ≡ map (λ (k : ℕ). get_or (get_or starts 0 []) k 0) (take n order)) × (length ch ≡ 512)
      w = rw order-length at w'

      chosen_at : (k : ℕ) → k < n → get_or ch k 0 ≡ get_or (get_or starts 0 []) (get_or order k 0) 0
      chosen_at k h =
          sym (get_or-take n ch k 0 h) ∙ ap (λ (l : List ℕ). get_or l k 0) w.0 ∙ map_at_lem (λ (j : ℕ). get_or (get_or starts 0 []) j 0) (take n order) k (let z = order-length in omega arith)
          ∙ ap (λ (j : ℕ). get_or (get_or starts 0 []) j 0) (get_or-take n order k 0 h)

      chosen-row : Row 512 log logtags ch n
      chosen-row = record { row_long = w.1; few = v.few; recs = λ k h. rw (chosen_at k h) (wide-rec names_few ((d.rows.rows 0 (omega arith)).recs (get_or order k 0) (v.inside k h))) }

      row_of : (t : ℕ) → t < 8 → Row 512 log logtags (get_or (set starts 0 ch) t []) (get_or (set counts 0 n) t 0)
      row_of zero h =
          let a = get_or-set_same starts 0 ch [] (let z = d.rows.eight in omega arith) in
          let b = get_or-set_same counts 0 n 0 (let z = d.rows.eight' in omega arith) in
          rw (a, b) chosen-row
      row_of (suc t) h =
          let a = get_or-set_other starts 0 (suc t) ch [] (λ e. omega arith) in
          let b = get_or-set_other counts 0 (suc t) n 0 (λ e. omega arith) in
          rw (a, b) (wide_row names_few (d.rows.rows (suc t) h))

      pub rows-chosen : Rows 512 log logtags (set starts 0 ch) (set counts 0 n)
      rows-chosen = record { eight = length-set starts 0 ch ∙ d.rows.eight; eight' = length-set counts 0 n ∙ d.rows.eight'; log_long = d.rows.log_long; tags_long = d.rows.tags_long; rows = row_of }

      abbrev New : List (List Cells)
      New = tabs_of log logtags (set starts 0 ch) (set counts 0 n)

      some : 0 < length starts
      some = let z = d.rows.eight in omega arith

      some' : 0 < length counts
      some' = let z = d.rows.eight' in omega arith

      enough : get_or counts 0 0 ≤ length (get_or starts 0 [])
      enough = let r = d.rows.rows 0 (omega arith) in let z = r.few in let y = r.row_long in omega arith

      pub new-ordered : New ≡ ordered Tabs
      new-ordered = tabs_ordered log logtags starts counts some some' enough (take n order) (sym v.is) (λ j h. rw (get_or-take n order j 0 (let z = order-length in omega arith)) (v.inside j (let z = order-length in omega arith))) ch n w.0

      eight_tabs : length Tabs ≡ 8
      eight_tabs = length_tabs log logtags starts counts (d.rows.eight ∙ sym d.rows.eight') ∙ d.rows.eight

      names_low : length (firsts_t (drop 1 Tabs) []) ≤ 512
      names_low = rw (tabs_rest log logtags starts counts some some') (omega (arith, ap length v.is, order-length, v.few))

      -- names' records have no names
      plain-first : (k : ℕ) → names_in (get_or (get_or Tabs 0 []) k []) ≡ []
      unfolding names_in
      plain-first k = rw (tabs_first log logtags starts counts some some') (either (ltb k (get_or counts 0 0))
          (λ e. let h = ltb-true k (get_or counts 0 0) e in rw (rec-at log logtags (get_or starts 0 []) (get_or counts 0 0) k h enough) (d.plain k h))
          (λ e. let h = ltb-false k (get_or counts 0 0) e in let l = recs_long log logtags (take (get_or counts 0 0) (get_or starts 0 [])) in let m = length-take-le (get_or counts 0 0) (get_or starts 0 []) enough in rw (get_or-eq_default (recs_at log logtags (take (get_or counts 0 0) (get_or starts 0 []))) [] {n = k} (omega arith))))

      new-tables : tables (named places) New ≡ tables (new_name (firsts_t (drop 1 Tabs) [])) (ordered Tabs)
      new-tables = rw new-ordered (ordered-tables Tabs places plain-first λ x. rw (tabs_rest log logtags starts counts some some') (v.agree x))

      module _ (special : List ℕ) (pairs : ℕ) (few : pairs ≤ 512) (enough-special : length special ≡ 1027) where
        abbrev Sp : List ℕ
        Sp = take (3 + 2 * pairs) special

        sp_length : length Sp ≡ 3 + 2 * pairs
        sp_length = length-take-le (3 + 2 * pairs) special (omega arith)

        module _ (a : ℕ) (ae : (a ≡ sizes New) × (a ≤ 4096 * 16384)) where
          pub total_is : 20 + a + 3 + 2 * pairs ≡ total (ordered Tabs) Sp
          unfolding total
          total_is = let z : sizes New ≡ sizes (ordered Tabs) = ap sizes new-ordered in let y = sp_length in let x = ae.0 in omega arith

          pub finish_over : (out₀ : List ℕ) (e : TooLarge) → 16384 < 20 + a + 3 + 2 * pairs → Finishes Tabs pairs Sp out₀ (Err e) out₀
          finish_over out₀ e h = let t = total_is in record { over = λ e z. (omega arith, refl); size = λ k z. absurd (err-ok z); fits = λ k z. absurd (err-ok z); names = λ k z. absurd (err-ok z); is = λ k z. absurd (err-ok z) }

          module _ (fit : 20 + a + 3 + 2 * pairs ≤ 16384) where
            pub tables-room : 20 + sizes New ≤ 16384
            tables-room = let z = ae.0 in omega arith

            pub special-room : (p : ℕ) → p ≡ 20 + sizes New → p + 3 + 2 * pairs ≤ 16384
            special-room p e = let z = ae.0 in omega arith

            pub finish_done : (out₀ out₁ : List ℕ) → out₁ ≡ sets (set (set out₀ 0 1) 1 (20 + a + 3 + 2 * pairs)) 2 (heads New 20 pairs)
                → (out₂ : List ℕ) (p : ℕ) → (out₂ ≡ sets out₁ 20 (tables (named places) New)) × (p ≡ 20 + sizes New)
                → (out₃ : List ℕ) → out₃ ≡ sets out₂ p Sp
                → Finishes Tabs pairs Sp out₀ (Ok (20 + a + 3 + 2 * pairs)) out₃
            unfolding image_words
            finish_done out₀ out₁ e₁ out₂ p e₂ out₃ e₃ =
                let t = total_is in
                let o : List ℕ = set (set out₀ 0 1) 1 (20 + a + 3 + 2 * pairs) in
                let f : Cell → ℕ = new_name (firsts_t (drop 1 Tabs) []) in
                let lh : length (heads (ordered Tabs) 20 pairs) ≡ 18 = length-heads (ordered Tabs) 20 pairs ∙ (let z = length-ordered Tabs in let y = eight_tabs in omega arith) in
                let lt : length (tables f (ordered Tabs)) ≡ sizes (ordered Tabs) = length-tables f (ordered Tabs) in
                let h₁ : sets o 2 (heads (ordered Tabs) 20 pairs ++ (tables f (ordered Tabs) ++ Sp)) ≡ sets (sets o 2 (heads (ordered Tabs) 20 pairs)) 20 (tables f (ordered Tabs) ++ Sp)
                = sets-append (heads (ordered Tabs) 20 pairs) o 2 (tables f (ordered Tabs) ++ Sp) ∙ ap (λ (k : ℕ). sets (sets o 2 (heads (ordered Tabs) 20 pairs)) (2 + k) (tables f (ordered Tabs) ++ Sp)) lh in
                let h₂ = sets-append (tables f (ordered Tabs)) (sets o 2 (heads (ordered Tabs) 20 pairs)) 20 Sp ∙ ap (λ (k : ℕ). sets (sets (sets o 2 (heads (ordered Tabs) 20 pairs)) 20 (tables f (ordered Tabs))) (20 + k) Sp) lt in
                let g₁ : out₁ ≡ sets o 2 (heads (ordered Tabs) 20 pairs) = e₁ ∙ ap (λ (x : List (List Cells)). sets o 2 (heads x 20 pairs)) new-ordered in
                let g₂ : out₂ ≡ sets (sets o 2 (heads (ordered Tabs) 20 pairs)) 20 (tables f (ordered Tabs)) = e₂.0 ∙ ap₂ (λ (x y : List ℕ). sets x 20 y) g₁ new-tables in
                let q : p ≡ 20 + sizes (ordered Tabs) = e₂.1 ∙ ap (λ (x : List (List Cells)). 20 + sizes x) new-ordered in
                let g₃ : out₃ ≡ sets (sets (sets o 2 (heads (ordered Tabs) 20 pairs)) 20 (tables f (ordered Tabs))) (20 + sizes (ordered Tabs)) Sp = e₃ ∙ ap₂ (λ (x : List ℕ) (y : ℕ). sets x y Sp) g₂ q in
                record {
                  over = λ e z. absurd (err-ok (sym z));
                  size = λ k z. sym (same_ok z) ∙ t;
                  fits = λ k z. rw (← same_ok z) fit;
                  names = λ k z. names_low;
                  is = λ k z. g₃ ∙ sym (h₁ ∙ h₂) ∙ sym (ap (sets out₀ 0) (finished-image Tabs pairs Sp (let y = eight_tabs in omega arith)) ∙ ap (λ (k : ℕ). sets (set (set out₀ 0 1) 1 k) 2 (heads (ordered Tabs) 20 pairs ++ (tables f (ordered Tabs) ++ Sp))) (sym t));
                }
