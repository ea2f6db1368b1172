-- Whether words call a function of a kind, and whether a function or the functions of entry points do.
use mathlib.Core.Path.{◌≡◌, refl, sym, ap, ap₂, ◌∙◌}
use mathlib.Core.Bool.{Bool, true, false, ◌&&◌, ◌||◌, cond}
use mathlib.Core.List.{List, [], ◌∷◌, ◌++◌}
use Prim.Native.Nat.{ℕ, zero, suc, ◌+◌, ◌-◌, ◌≤◌, ◌<◌}
use native.Mathlib.Numerals.{add-one}
use native.Mathlib.Omega.{arith}
use lib.Dec.{eqb}
use lib.ListN.{length, get_or, drop}
use lib.Seq.{drop-cons}
use borrow.Author.Tests.{eqb-true, eqb-false, eq-eqb}
use mathlib.Core.Logic.{⊎_elim}
use Rattle.std.proofs.Common.{drop_of_length-le}
use Rattle.std.specs.List.{list_any, range_with_len}
use Rattle.derive_state.proofs.State.{same_or}
use Rattle.theory_lists.specs.Lists.{looked_at}
use Rattle.theory_lists.specs.Booleans.{bool_same}
use Rattle.model.specs.Table.{CALLEE}
use Rattle.model.specs.Tree.{Function, Entry}
use Rattle.model.specs.Module.{count_at}
use Rattle.model.specs.View.{record_at, record_end}
use Rattle.model.specs.FunctionView.{entry_head_words}
use Rattle.model.specs.Carry.{Each, each_none, each_next}
use Rattle.model.specs.Calls.{any}
use Rattle.model.specs.Callees.{callees}
use Rattle.model.specs.Redirect.{nothing, function}
use Rattle.model.specs.Session.{callees_of}
use Rattle.theory_image.specs.FunctionViews.{part_words, part_tags, taped_length, taped_functions, taped_function, taped_entries, taped_entry}
use Rattle.theory_image.specs.Members.{each_at}
use Rattle.order_ranks.specs.Marks.{holds, members}
use Rattle.theory_order.specs.Lists.{any_in, in_any}
use Rattle.order_ranks.proofs.Marks.{in_members, members_in}
use Rattle.order_callees.specs.Gathering.{picked}
use Rattle.theory_order.specs.Cells.{picks, cells_function}
use Rattle.order_callees.proofs.Marking.{picked-one, picked_none, picked-end}
use Rattle.theory_order.specs.Numbered.{numbered-known, entries_known}
use Rattle.derive_state.specs.Flats.{no_entry}
use Rattle.derive_state.specs.Source.{mod_of, Source}
use Rattle.derive_rings.specs.Rings.{Scannable}

-- ---- one number
-- k is one of the set
abbrev pub is_of : List ℕ → ℕ → Bool
is_of set k = any (members set) (eqb k)

pub holds_is : (set : List ℕ) (k : ℕ) → k < 256 → holds set k ≡ is_of set k
holds_is set k h =
    bool_same (holds set k) (is_of set k)
    (λ e. in_any (eqb k) (in_members set k h e) (eq-eqb k k refl))
    (λ e. let q = any_in (eqb k) (members set) e in rw (eqb-true k q.0 q.2) (members_in set q.0 q.1).1)

-- ---- words
head_of : {m x : ℕ} {xs : List ℕ} → Each (λ x. x < m) (x ∷ xs) → x < m
head_of (each_next h hs) = h

tail_of : {m x : ℕ} {xs : List ℕ} → Each (λ x. x < m) (x ∷ xs) → Each (λ x. x < m) xs
tail_of (each_next h hs) = hs

or_cond : (a b : Bool) → cond a true b ≡ a || b
or_cond true b = refl
or_cond false b = refl

pub any_same : {m : ℕ} (p q : ℕ → Bool) → ((x : ℕ) → x < m → p x ≡ q x) → {xs : List ℕ} → Each (λ x. x < m) xs → any xs p ≡ any xs q
unfolding any
any_same p q h each_none = refl
any_same p q h (each_next {a = x} l ls) = rw (h x l, any_same p q h ls)

-- a call of one of which p holds
abbrev pub calls_p : List ℕ → List ℕ → (ℕ → Bool) → ℕ → Bool
calls_p words tags p k = eqb (get_or tags k 0) CALLEE && p (get_or words k 0)

module _ {words tags : List ℕ} {at end m : ℕ} (S : Scannable words tags at end m) where
  in_words : end ≤ length words
  in_words = omega (arith, S.within, S.words_long)

  in_tags : end ≤ length tags
  in_tags = omega (arith, S.within, S.tags_long)

  low_from : (d j : ℕ) → j + d ≡ end → Each (λ x. x < m) (picked words tags j end) → (k : ℕ) → j ≤ k → k < end → get_or tags k 0 ≡ CALLEE → get_or words k 0 < m
  low_from zero j e ls k a b c = absurd (omega arith)
  low_from (suc d) j e ls k a b c = ⊎_elim
      (λ (q : k ≡ j). rw q (head_of (rw (picked-one words tags j end (omega arith) in_words in_tags (rw q at c)) at ls)))
      (λ (ne : k ≡ j → ⊥). low_from d (j + 1) (omega arith) (later (eqb (get_or tags j 0) CALLEE) refl) k (omega arith) b c)
      (same_or k j)
    where
      later : (x : Bool) → eqb (get_or tags j 0) CALLEE ≡ x → Each (λ x. x < m) (picked words tags (j + 1) end)
      later true q = tail_of (rw (picked-one words tags j end (omega arith) in_words in_tags (eqb-true (get_or tags j 0) CALLEE q)) at ls)
      later false q = rw (picked_none words tags j end (omega arith) in_words in_tags (eqb-false (get_or tags j 0) CALLEE q)) at ls

  -- what is called is among the first m
  pub low : (k : ℕ) → at ≤ k → k < end → get_or tags k 0 ≡ CALLEE → get_or words k 0 < m
  low = low_from (end - at) at (let r = S.rising in omega arith) S.known

  asks_from : (p : ℕ → Bool) (d j : ℕ) → j + d ≡ end → list_any (calls_p words tags p) (range_with_len j d) ≡ any (picked words tags j end) p
  unfolding any
  asks_from p zero j e = let q : j ≡ end = omega arith in rw (q, picked-end words tags end)
  asks_from p (suc d) j e = go (eqb (get_or tags j 0) CALLEE) refl (asks_from p d (j + 1) (omega arith))
    where
      go : (x : Bool) → eqb (get_or tags j 0) CALLEE ≡ x → list_any (calls_p words tags p) (range_with_len (j + 1) d) ≡ any (picked words tags (j + 1) end) p → (x && p (get_or words j 0)) || list_any (calls_p words tags p) (range_with_len (j + 1) d) ≡ any (picked words tags j end) p
      go true q r = rw (picked-one words tags j end (omega arith) in_words in_tags (eqb-true (get_or tags j 0) CALLEE q), ← r) (sym (or_cond (p (get_or words j 0)) _))
      go false q r = r ∙ rw (picked_none words tags j end (omega arith) in_words in_tags (eqb-false (get_or tags j 0) CALLEE q)) refl

  pub asks : (p : ℕ → Bool) → list_any (calls_p words tags p) (range_with_len at (end - at)) ≡ any (picked words tags at end) p
  asks p = asks_from p (end - at) at (let r = S.rising in omega arith)

wider : {a b : ℕ} → a ≤ b → {l : List ℕ} → Each (λ j. j < a) l → Each (λ j. j < b) l
wider h each_none = each_none
wider h (each_next {a = x} p ps) = each_next {a = x} (omega arith) (wider h ps)

pub widened : {words tags : List ℕ} {at end a b : ℕ} → a ≤ b → Scannable words tags at end a → Scannable words tags at end b
widened h s = record { words_long = s.words_long; tags_long = s.tags_long; rising = s.rising; within = s.within; known = wider h s.known }

-- ---- functions
module _ (words tags : List ℕ) (n : ℕ) (src : Source words tags n) (f : ℕ) (hf : f < count_at 6 words) (from to : ℕ) (hb : from ≡ record_at 6 f words) (ht : to ≡ record_end 6 f words) where
  abbrev fs : List Function
  fs = (mod_of words n).functions

  in_table : f < length fs
  in_table = omega (arith, taped_functions src.taped)

  calls_are : picked words tags from to ≡ callees (function (mod_of words n) f)
  unfolding picked function
  calls_are =
      let s = taped_function src.taped f (get_or fs f nothing) (looked_at fs f nothing in_table) in
      rw (hb, ht) (ap₂ picks (part_tags s.held s.part) (part_words s.held s.part) ∙ cells_function s.well)

  pub calls-any : (p : ℕ → Bool) (r : Bool) → r ≡ any (picked words tags from to) p → r ≡ any (callees (function (mod_of words n) f)) p
  calls-any p r h = h ∙ ap (λ l. any l p) calls_are

  pub function_scannable : Scannable words tags from to (count_at 6 words)
  unfolding function
  function_scannable =
      let s = (taped_function src.taped f (get_or fs f nothing) (looked_at fs f nothing in_table)).part in
      let k = each_at (numbered-known (mod_of words n) src.taped.well src.three) f nothing in_table in
      record {
        words_long = src.taped.words_long;
        tags_long = src.taped.tags_long;
        rising = rw (hb, ht) s.rising;
        within = omega (arith, s.within, taped_length src.taped, src.taped.small, ht);
        known = rw (calls_are, taped_functions src.taped) k;
      }

-- ---- entry points
any_append : (p : ℕ → Bool) (xs ys : List ℕ) → any (xs ++ ys) p ≡ cond (any xs p) true (any ys p)
unfolding any
any_append p [] ys = refl
any_append p (x ∷ xs) ys = go (p x) (any_append p xs ys)
  where
    go : (b : Bool) → any (xs ++ ys) p ≡ cond (any xs p) true (any ys p) → cond b true (any (xs ++ ys) p) ≡ cond (cond b true (any xs p)) true (any ys p)
    go true e = refl
    go false e = e

module _ {words tags : List ℕ} {n : ℕ} (src : Source words tags n) where
  abbrev es : List Entry
  es = (mod_of words n).entries

  many : count_at 7 words ≡ length es
  many = taped_entries src.taped

  module _ {c j : ℕ} (hc : c ≡ count_at 7 words) (h : j < c) where
    pub entry_in_lem : j < count_at 7 words
    entry_in_lem = omega arith

    abbrev this : Entry
    this = get_or es j no_entry

    inside : j < length es
    inside = omega (arith, many)

    module _ {from to : ℕ} (hf : from ≡ record_at 7 j words + entry_head_words) (ht : to ≡ record_end 7 j words) where
      called : picked words tags from to ≡ callees this.function
      unfolding picked
      called =
          let s = taped_entry src.taped j this (looked_at es j no_entry inside) in
          rw (hf, ht) (ap₂ picks (part_tags s.held s.part) (part_words s.held s.part) ∙ cells_function s.well)

      pub scannable : Scannable words tags from to (count_at 6 words)
      scannable =
          let s = (taped_entry src.taped j this (looked_at es j no_entry inside)).part in
          let k = each_at (entries_known (mod_of words n) src.taped.well src.three) j no_entry inside in
          record {
            words_long = src.taped.words_long;
            tags_long = src.taped.tags_long;
            rising = rw (hf, ht) s.rising;
            within = omega (arith, s.within, taped_length src.taped, src.taped.small, ht);
            known = rw (called, taped_functions src.taped) k;
          }

  -- what a test of the words of entry points says, where it says whether one of which p holds is called
  split : (p : ℕ → Bool) (j : ℕ) (h : j < count_at 7 words) {b : Bool} → b ≡ any (picked words tags (record_at 7 j words + entry_head_words) (record_end 7 j words)) p → {r : Bool} → r ≡ cond b true (any (callees_of (drop (j + 1) es)) p) → r ≡ any (callees_of (drop j es)) p
  unfolding callees_of
  split p j h hb e =
      e
      ∙ ap (λ b. cond b true (any (callees_of (drop (j + 1) es)) p)) (hb ∙ ap (λ l. any l p) (called refl h refl refl))
      ∙ sym (any_append p (callees (get_or es j no_entry).function) (callees_of (drop (j + 1) es)))
      ∙ ap (λ l. any (callees_of l) p) (sym (drop-cons es j no_entry (omega (arith, many)) ∙ ap (λ i. get_or es j no_entry ∷ drop i es) (sym (add-one j))))

  -- whether one of which p holds is called by the function of entry point e
  abbrev pub entry_calls : (ℕ → Bool) → ℕ → Bool
  entry_calls p e = any (picked words tags (record_at 7 e words + entry_head_words) (record_end 7 e words)) p

  entries_from : (p : ℕ → Bool) (d j : ℕ) → j + d ≡ count_at 7 words → list_any (entry_calls p) (range_with_len j d) ≡ any (callees_of (drop j es)) p
  unfolding callees_of any
  entries_from p zero j e = let q : drop j es ≡ [] = drop_of_length-le es (omega (arith, many)) in rw q refl
  entries_from p (suc d) j e = split p j (omega arith) refl (ap (λ (x : Bool). entry_calls p j || x) (entries_from p d (j + 1) (omega arith)) ∙ sym (or_cond (entry_calls p j) _))

  pub entries_are : (p : ℕ → Bool) {c : ℕ} → c ≡ count_at 7 words → list_any (entry_calls p) (range_with_len 0 (c - 0)) ≡ any (callees_of es) p
  entries_are p {c} h = entries_from p (c - 0) 0 (omega arith)
