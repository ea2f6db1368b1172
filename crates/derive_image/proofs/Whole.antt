-- The whole image: the chosen names, the places of all names that are met, and the parts one after the other.
use mathlib.Core.Path.{◌≡◌, refl, sym, ap, ap₂, ◌∙◌}
use mathlib.Core.List.{List, [], ◌∷◌, ◌++◌, map}
use Prim.Native.Nat.{ℕ, zero, suc, ◌+◌, ◌*◌, ◌≤◌, ◌<◌}
use native.Mathlib.Omega.{arith}
use lib.Dec.{eqb}
use lib.ListN.{length, get_or, set, take, drop, length-append}
use borrow.Author.Tests.{eq-eqb}
use Rattle.model.specs.Outcome.{Cell, Cells}
use Rattle.model.specs.Table.{NAME}
use Rattle.model.specs.Initial.{Mem, here, there}
use Rattle.theory_image.specs.Members.{no_mem}
use Rattle.model.specs.Finish.{names_in, firsts, keep_n, index_n, renumber}
use Rattle.theory_finish.specs.Firsts.{either, firsts-all}
use Rattle.derive_sections.specs.Flat.{firsts_r, firsts_t, table_size, offsets, joined, table_words, sizes, heads, tables, chosen, new_name, ordered}
use Rattle.derive_state.specs.Held.{rec_at, recs_at}
use Rattle.derive_sections.specs.Rows.{tabs_of, Rec, Row, up, place_of, behind, named}
use Rattle.derive_sections.proofs.Tables.{length-table}

-- ---- all names
unfoldable pub names_r : List Cells → List ℕ
names_r [] = []
names_r (r ∷ rs) = names_in r ++ names_r rs

unfoldable pub names_t : List (List Cells) → List ℕ
names_t [] = []
names_t (rs ∷ rss) = names_r rs ++ names_t rss

pub firsts-append : (xs ys seen : List ℕ) → firsts (xs ++ ys) seen ≡ firsts ys (firsts xs seen)
unfolding firsts
firsts-append [] ys seen = refl
firsts-append (x ∷ xs) ys seen = firsts-append xs ys (keep_n seen x)

pub firsts_recs : (rs : List Cells) (seen : List ℕ) → firsts_r rs seen ≡ firsts (names_r rs) seen
unfolding firsts_r names_r firsts
firsts_recs [] seen = refl
firsts_recs (r ∷ rs) seen = firsts_recs rs (firsts (names_in r) seen) ∙ sym (firsts-append (names_in r) (names_r rs) seen)

pub firsts_tabs : (rss : List (List Cells)) (seen : List ℕ) → firsts_t rss seen ≡ firsts (names_t rss) seen
unfolding firsts_t names_t firsts
firsts_tabs [] seen = refl
firsts_tabs (rs ∷ rss) seen = firsts_tabs rss (firsts_r rs seen) ∙ ap (firsts (names_t rss)) (firsts_recs rs seen) ∙ sym (firsts-append (names_r rs) (names_t rss) seen)

-- ---- places are the new numbers
place_index : {x : ℕ} {ns : List ℕ} → Mem x ns → place_of ns x ≡ suc (index_n ns x)
unfolding place_of index_n up
place_index {x} (here {xs}) = rw (place_of, index_n, eq-eqb x x refl)
place_index {x} (there {y} {xs} m) = let i = place_index m in either (eqb y x) (λ e. rw (place_of, index_n, e)) λ e. rw (place_of, index_n, e, i)

mem_left : {x : ℕ} {xs : List ℕ} (ys : List ℕ) → Mem x xs → Mem x (xs ++ ys)
mem_left ys here = here
mem_left ys (there m) = there (mem_left ys m)

mem_right : {x : ℕ} (xs : List ℕ) {ys : List ℕ} → Mem x ys → Mem x (xs ++ ys)
mem_right [] m = m
mem_right (y ∷ xs) m = there (mem_right xs m)

module _ (ns ps : List ℕ) (agree : (x : ℕ) → get_or ps x 0 ≡ place_of ns x) where
  same-cell : (s w : ℕ) → ((x : ℕ) → Mem x (names_in ((s, w) ∷ [])) → Mem x ns) → named ps (s, w) ≡ new_name ns (s, w)
  unfolding named behind new_name renumber names_in
  same-cell s zero h = either (eqb s NAME) (λ e. rw (named, e)) λ e. rw (named, e)
  same-cell s (suc w) h = either (eqb s NAME) (λ e. rw (named, renumber, e) (agree w ∙ place_index (h w (rw (names_in, e) here)))) λ e. rw (named, renumber, e)

  names_first : (c : Cell) (cs : Cells) {x : ℕ} → Mem x (names_in (c ∷ [])) → Mem x (names_in (c ∷ cs))
  unfolding names_in
  names_first (s, zero) cs m = either (eqb s NAME) (λ e. absurd (no_mem (rw (names_in, e) at m))) λ e. absurd (no_mem (rw (names_in, e) at m))
  names_first (s, suc w) cs m = either (eqb s NAME) (λ e. rw (names_in, e) (mem_left (names_in cs) (rw (names_in, e) at m))) λ e. absurd (no_mem (rw (names_in, e) at m))

  names_after_lem : (c : Cell) (cs : Cells) {x : ℕ} → Mem x (names_in cs) → Mem x (names_in (c ∷ cs))
  unfolding names_in
  names_after_lem (s, zero) cs m = either (eqb s NAME) (λ e. rw (names_in, e) m) λ e. rw (names_in, e) m
  names_after_lem (s, suc w) cs m = either (eqb s NAME) (λ e. rw (names_in, e) (there m)) λ e. rw (names_in, e) m

  same_cells : (cs : Cells) → ((x : ℕ) → Mem x (names_in cs) → Mem x ns) → map (named ps) cs ≡ map (new_name ns) cs
  same_cells [] h = refl
  same_cells (c ∷ cs) h = ap₂ ◌∷◌ (same-cell c.0 c.1 λ x m. h x (names_first c cs m)) (same_cells cs λ x m. h x (names_after_lem c cs m))

  same-joined : (rs : List Cells) → ((x : ℕ) → Mem x (names_r rs) → Mem x ns) → joined (named ps) rs ≡ joined (new_name ns) rs
  unfolding joined names_r
  same-joined [] h = refl
  same-joined (r ∷ rs) h = ap₂ ◌++◌ (same_cells r λ x m. h x (mem_left (names_r rs) m)) (same-joined rs λ x m. h x (mem_right (names_in r) m))

  pub same_tables : (rss : List (List Cells)) → ((x : ℕ) → Mem x (names_t rss) → Mem x ns) → tables (named ps) rss ≡ tables (new_name ns) rss
  unfolding tables table_words names_t
  same_tables [] h = refl
  same_tables (rs ∷ rss) h = ap₂ ◌++◌ (ap (offsets rs (length rs) ++◌) (same-joined rs λ x m. h x (mem_left (names_t rss) m))) (same_tables rss λ x m. h x (mem_right (names_r rs) m))

-- ---- lengths
pub length-tables : (f : Cell → ℕ) (rss : List (List Cells)) → length (tables f rss) ≡ sizes rss
unfolding tables sizes
length-tables f [] = refl
length-tables f (rs ∷ rss) = length-append (table_words f rs) (tables f rss) ∙ ap₂ ◌+◌ (length-table f rs) (length-tables f rss)

pub length-heads : (rss : List (List Cells)) (at pairs : ℕ) → length (heads rss at pairs) ≡ 2 + 2 * length rss
unfolding heads
length-heads [] at pairs = refl
length-heads (rs ∷ rss) at pairs = let i = length-heads rss (at + table_size rs) pairs in omega arith

pub length_tabs : (log logtags : List ℕ) (starts : List (List ℕ)) (counts : List ℕ) → length starts ≡ length counts → length (tabs_of log logtags starts counts) ≡ length starts
unfolding tabs_of
length_tabs log logtags [] ns h = refl
length_tabs log logtags (ss ∷ sss) [] h = absurd (omega arith)
length_tabs log logtags (ss ∷ sss) (n ∷ ns) h = ap suc (length_tabs log logtags sss ns (omega arith))

-- ---- the chosen names
pub rec-at : (log logtags ss : List ℕ) (c k : ℕ) → k < c → c ≤ length ss → get_or (recs_at log logtags (take c ss)) k [] ≡ rec_at log logtags (get_or ss k 0)
unfolding recs_at
rec-at log logtags [] c k h l = absurd (omega arith)
rec-at log logtags (s ∷ ss) zero k h l = absurd (omega arith)
rec-at log logtags (s ∷ ss) (suc c) zero h l = refl
rec-at log logtags (s ∷ ss) (suc c) (suc k) h l = rec-at log logtags ss c k (omega arith) (omega arith)

chosen_recs : (log logtags ss : List ℕ) (c : ℕ) → c ≤ length ss → (ns : List ℕ) → ((j : ℕ) → j < length ns → get_or ns j 0 < c) → recs_at log logtags (map (λ (k : ℕ). get_or ss k 0) ns) ≡ chosen ns (recs_at log logtags (take c ss))
unfolding recs_at chosen
chosen_recs log logtags ss c l [] h = refl
chosen_recs log logtags ss c l (n ∷ ns) h = ap₂ ◌∷◌ (sym (rec-at log logtags ss c n (h 0 (omega arith)) l)) (chosen_recs log logtags ss c l ns λ j g. h (suc j) (omega arith))

pub map_at_lem : (f : ℕ → ℕ) (l : List ℕ) (k : ℕ) → k < length l → get_or (map f l) k 0 ≡ f (get_or l k 0)
map_at_lem f [] k h = absurd (omega arith)
map_at_lem f (x ∷ l) zero h = refl
map_at_lem f (x ∷ l) (suc k) h = map_at_lem f l k (omega arith)

pub wide-rec : {names : ℕ} {log logtags : List ℕ} {s : ℕ} → names ≤ 512 → Rec names log logtags s → Rec 512 log logtags s
wide-rec h r = record { log_long = r.log_long; tags_long = r.tags_long; within = r.within; low = λ i a b e. let z = r.low i a b e in omega arith }

pub wide_row : {names : ℕ} {log logtags ss : List ℕ} {n : ℕ} → names ≤ 512 → Row names log logtags ss n → Row 512 log logtags ss n
wide_row h r = record { row_long = r.row_long; few = r.few; recs = λ k l. wide-rec h (r.recs k l) }

pub tabs_ordered : (log logtags : List ℕ) (starts : List (List ℕ)) (counts : List ℕ) → 0 < length starts → 0 < length counts → get_or counts 0 0 ≤ length (get_or starts 0 [])
    → (ns : List ℕ) → firsts_t (tabs_of log logtags (drop 1 starts) (drop 1 counts)) [] ≡ ns → ((j : ℕ) → j < length ns → get_or ns j 0 < get_or counts 0 0)
    → (ch : List ℕ) (n : ℕ) → take n ch ≡ map (λ (k : ℕ). get_or (get_or starts 0 []) k 0) ns
    → tabs_of log logtags (set starts 0 ch) (set counts 0 n) ≡ ordered (tabs_of log logtags starts counts)
unfolding tabs_of ordered
tabs_ordered log logtags [] counts h g l ns e low ch n q = absurd (omega arith)
tabs_ordered log logtags (ss ∷ sss) [] h g l ns e low ch n q = absurd (omega arith)
tabs_ordered log logtags (ss ∷ sss) (c ∷ cs) h g l ns e low ch n q = ap (◌∷ tabs_of log logtags sss cs) (ap (recs_at log logtags) q ∙ chosen_recs log logtags ss c l ns low ∙ ap (λ (z : List ℕ). chosen z (recs_at log logtags (take c ss))) (sym e))

-- ---- the finished words with places in the place of numbers
chosen_plain : (ns : List ℕ) (names : List Cells) → ((k : ℕ) → names_in (get_or names k []) ≡ []) → names_r (chosen ns names) ≡ []
unfolding names_r chosen
chosen_plain [] names h = refl
chosen_plain (n ∷ ns) names h = ap₂ ◌++◌ (h n) (chosen_plain ns names h)

pub ordered-tables : (rss : List (List Cells)) (ps : List ℕ) → ((k : ℕ) → names_in (get_or (get_or rss 0 []) k []) ≡ []) → ((x : ℕ) → get_or ps x 0 ≡ place_of (firsts_t (drop 1 rss) []) x)
    → tables (named ps) (ordered rss) ≡ tables (new_name (firsts_t (drop 1 rss) [])) (ordered rss)
unfolding ordered names_t tables
ordered-tables [] ps h agree = refl
ordered-tables (names ∷ rss) ps h agree =
    let e = chosen_plain (firsts_t rss []) names h in
    same_tables (firsts_t rss []) ps agree (chosen (firsts_t rss []) names ∷ rss) λ x m. rw (firsts_tabs rss []) (firsts-all (names_t rss) [] (rw e at m))
