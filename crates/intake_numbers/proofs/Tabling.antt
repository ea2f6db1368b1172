-- The sections of a module in words and tags: where they are, what a pass over one of them tests, and the kinds of global expressions.
use mathlib.Core.Path.{◌≡◌, refl, sym, ap, ◌∙◌}
use mathlib.Core.Bool.{Bool, true, false, ◌&&◌}
use mathlib.Core.List.{List, [], ◌∷◌, ◌++◌}
use Prim.Native.Nat.{ℕ, zero, suc, ◌+◌, ◌-◌, ◌≤◌, ◌<◌}
use native.Mathlib.Numerals.{add-one}
use native.Mathlib.Omega.{arith}
use lib.ListN.{length, get_or, drop}
use lib.Seq.{drop-cons, drop-length}
use Rattle.std.specs.List.{list_all, range_with_len}
use Rattle.theory_lists.specs.Lists.{looked_at}
use Rattle.model.specs.Outcome.{Cells, class, word}
use Rattle.model.specs.Table.{expression_row}
use Rattle.model.specs.Tree.{flat_all}
use Rattle.model.specs.Module.{Module, count_at, offset_at, end_at, places, flat_table, flat_special, flat_module, write}
use Rattle.model.specs.View.{tables, record_at, record_end}
use Rattle.model.specs.Taped.{Taped, Tape}
use Rattle.model.specs.Operands.{kind, constant_kind}
use Rattle.model.specs.Numbers.{Bounds, caps, bound, below, within, every, outside, constant_only}
use Rattle.theory_image.specs.Views.{length-write, view_rising, view_next, view_within, view_last, view_section, view_table, sees_names, sees_types, sees_constants, sees_overrides, sees_globals, sees_exprs, sees_functions, sees_special, sees_expr}
use Rattle.theory_image.specs.FunctionViews.{Part, part-word, part_end, Expression, expression_first, expression_kind, each_expression, taped_write, taped_held, taped_count, taped_offset, taped_part}
use Rattle.model.specs.Between.{between, Long}
use Rattle.theory_image.specs.Betweens.{between_none, between_cons, held-between}
use Rattle.theory_image.specs.Members.{each_at}
use Rattle.intake_ranges.specs.Ranges.{table, headed, InRangeEnsures}
use Rattle.intake_numbers.specs.Passes.{Tabled, tables_fine, kinds_fine}

-- ---- what a pass over a section tests
pub and_next : (a b c : Bool) → (a && (b && c)) ≡ ((a && b) && c)
and_next true b c = refl
and_next false b c = refl

within-append : (b : Bounds) (xs ys : Cells) → within b (xs ++ ys) ≡ (within b xs && within b ys)
unfolding within
within-append b [] ys = refl
within-append b (c ∷ xs) ys = ap (below (bound b (class c)) (word c) &&◌) (within-append b xs ys) ∙ and_next (below (bound b (class c)) (word c)) (within b xs) (within b ys)

within-places : (b : Bounds) (rs : List Cells) (at : ℕ) → within b (places at rs) ≡ true
unfolding within places bound below caps
within-places b [] at = refl
within-places b (r ∷ rs) at = within-places b rs (at + length r)

within_all : (b : Bounds) (rs : List Cells) → within b (flat_all rs) ≡ every (within b) rs
unfolding flat_all every within
within_all b [] = refl
within_all b (r ∷ rs) = within-append b r (flat_all rs) ∙ ap (within b r &&◌) (within_all b rs)

pub within-table : (b : Bounds) (rs : List Cells) → within b (flat_table rs) ≡ every (within b) rs
unfolding flat_table
within-table b rs = within-append b (places (length rs) rs) (flat_all rs) ∙ rw (within-places b rs (length rs)) (within_all b rs)

-- ---- the sections
module _ {words tags : List ℕ} {n : ℕ} {m : Module} (t : Taped words tags n m) where
  pub taped_long : Long words tags
  taped_long = record { words_long = t.words_long; tags_long = t.tags_long }

  pub section-part : (k : ℕ) → k < 8 → Part (flat_module m) (offset_at k words) (offset_at (suc k) words) (flat_table (get_or (tables m) k []))
  section-part k h =
      let a = taped_offset t k (omega arith) in
      let b = taped_offset t (suc k) (omega arith) ∙ sym (view_next m k h) in
      rw (a, b)
      (record {
        rising = view_rising m k (omega arith);
        within = omega (arith, view_within m k (omega arith), length-write m);
        cells_are = view_section m k (omega arith) ∙ ap (λ s. s.1) (view_table m k h);
      })

  pub special-part : Part (flat_module m) (offset_at 8 words) n (flat_special m.special)
  special-part =
      let a = taped_offset t 8 (omega arith) in
      let b : n ≡ end_at 8 (write m) = taped_write t ∙ sym (view_last m) in
      rw (a, b)
      (record {
        rising = view_rising m 8 (omega arith);
        within = omega (arith, view_within m 8 (omega arith), length-write m);
        cells_are = (sees_special m refl).cells;
      })

  pub cells_few : length (flat_module m) ≤ 16384
  cells_few = omega (arith, taped_write t, length-write m, t.small)

  -- the header's counts are the tables' lengths
  pub headed_is : headed words ≡ outside m
  unfolding headed outside
  headed_is =
      let a = taped_count t 0 (omega arith) ∙ (sees_names m refl).count in
      let b = taped_count t 1 (omega arith) ∙ (sees_types m refl).count in
      let c = taped_count t 2 (omega arith) ∙ (sees_constants m refl).count in
      let d = taped_count t 3 (omega arith) ∙ (sees_overrides m refl).count in
      let e = taped_count t 4 (omega arith) ∙ (sees_globals m refl).count in
      let f = taped_count t 5 (omega arith) ∙ (sees_exprs m refl).count in
      let g = taped_count t 6 (omega arith) ∙ (sees_functions m refl).count in
      rw (a, b, c, d, e, f, g)

-- ---- the tables, one after the other
-- a range in two
module _ (words tags : List ℕ) (long : Long words tags) (b : Bounds) (end : ℕ) (ok : end ≤ 16384) where
  within_split : (n i : ℕ) → i + n ≤ end → within b (between tags words i end) ≡ (within b (between tags words i (i + n)) && within b (between tags words (i + n) end))
  unfolding within
  within_split zero i h = let z : i + 0 ≡ i = omega arith in rw (z, between_none tags words i i (omega arith))
  within_split (suc n) i h =
      let z : i + suc n ≡ (i + 1) + n = omega arith in
      rw (z, between_cons tags words i end (omega arith) long ok, between_cons tags words i ((i + 1) + n) (omega arith) long (omega arith))
      (ap (below (bound b (get_or tags i 0)) (get_or words i 0) &&◌) (within_split n (i + 1) (omega arith))
      ∙ and_next (below (bound b (get_or tags i 0)) (get_or words i 0)) (within b (between tags words (i + 1) ((i + 1) + n))) (within b (between tags words ((i + 1) + n) end)))

  pub within-split : (i j : ℕ) → i ≤ j → j ≤ end → within b (between tags words i end) ≡ (within b (between tags words i j) && within b (between tags words j end))
  within-split i j l h = let z : i + (j - i) ≡ j = omega arith in rw z at (within_split (j - i) i (omega arith))

module _ {words tags : List ℕ} {n : ℕ} {m : Module} (tp : Taped words tags n m) (b : Bounds) where
  table_fine : (k : ℕ) → k < 8 → within b (between tags words (offset_at k words) (offset_at (suc k) words)) ≡ every (within b) (get_or (tables m) k [])
  table_fine k h = ap (within b) (held-between (taped_held tp) (section-part tp k h)) ∙ within-table b (get_or (tables m) k [])

  next_starts : (k : ℕ) → k < 8 → offset_at k words ≤ offset_at (suc k) words
  next_starts k h = (section-part tp k h).rising

  pub sixth_in : offset_at 6 words ≤ 16384
  sixth_in = omega (arith, (section-part tp 5 (omega arith)).within, cells_few tp)

  -- section k, and then those up to the sixth
  first_fine : (k : ℕ) → k < 8 → offset_at (suc k) words ≤ offset_at 6 words → within b (between tags words (offset_at k words) (offset_at 6 words)) ≡ (every (within b) (get_or (tables m) k []) && within b (between tags words (offset_at (suc k) words) (offset_at 6 words)))
  first_fine k h l =
      within-split words tags (taped_long tp) b (offset_at 6 words) sixth_in (offset_at k words) (offset_at (suc k) words) (next_starts k h) l
      ∙ ap (λ v. v && within b (between tags words (offset_at (suc k) words) (offset_at 6 words))) (table_fine k h)

  fifth_starts : offset_at 5 words ≤ offset_at 6 words
  fifth_starts = next_starts 5 (omega arith)

  fourth_starts : offset_at 4 words ≤ offset_at 6 words
  fourth_starts = omega (arith, next_starts 4 (omega arith), fifth_starts)

  third_starts : offset_at 3 words ≤ offset_at 6 words
  third_starts = omega (arith, next_starts 3 (omega arith), fourth_starts)

  second_starts : offset_at 2 words ≤ offset_at 6 words
  second_starts = omega (arith, next_starts 2 (omega arith), third_starts)

  pub first_starts : offset_at 1 words ≤ offset_at 6 words
  first_starts = omega (arith, next_starts 1 (omega arith), second_starts)

  five_fine : within b (between tags words (offset_at 1 words) (offset_at 6 words)) ≡ (every (within b) m.types && (every (within b) m.constants && (every (within b) m.overrides && (every (within b) m.globals && every (within b) m.exprs))))
  unfolding tables
  five_fine =
      first_fine 1 (omega arith) second_starts
      ∙ ap (every (within b) m.types &&◌) (first_fine 2 (omega arith) third_starts
      ∙ ap (every (within b) m.constants &&◌) (first_fine 3 (omega arith) fourth_starts
      ∙ ap (every (within b) m.overrides &&◌) (first_fine 4 (omega arith) fifth_starts
      ∙ ap (every (within b) m.globals &&◌) (table_fine 5 (omega arith)))))

  special_fine : within b (between tags words (offset_at 8 words) n) ≡ (within b m.special.rays && every (within b) m.special.pairs)
  unfolding flat_special
  special_fine =
      ap (within b) (held-between (taped_held tp) (special-part tp))
      ∙ within-append b m.special.rays (flat_all m.special.pairs)
      ∙ ap (within b m.special.rays &&◌) (within_all b m.special.pairs)

  one_after : (p q r u v x y : Bool) → (p && (q && (r && (u && (v && (x && y)))))) ≡ ((p && (q && (r && (u && v)))) && (x && y))
  one_after true true true true v x y = refl
  one_after true true true false v x y = refl
  one_after true true false u v x y = refl
  one_after true false r u v x y = refl
  one_after false q r u v x y = refl

  pub fine_is : b ≡ outside m → tables_fine m ≡ (within b (between tags words (offset_at 1 words) (offset_at 6 words)) && within b (between tags words (offset_at 8 words) n))
  unfolding tables_fine
  fine_is e =
      rw (← e, five_fine, special_fine)
      (one_after (every (within b) m.types) (every (within b) m.constants) (every (within b) m.overrides) (every (within b) m.globals) (every (within b) m.exprs) (within b m.special.rays) (every (within b) m.special.pairs))

-- the two passes over the sections
module _ (words tags : List ℕ) (n : ℕ) (t : List ℕ) (a e : ℕ) (a_is : a ≡ offset_at 1 words) (e_is : e ≡ offset_at 6 words) (r : Bool) (got : InRangeEnsures r words tags t a e) where
  both : (m : Module) → Taped words tags n m → t ≡ table (outside m) → tables_fine m ≡ (r && within (outside m) (between tags words (offset_at 8 words) n))
  both m tp q = fine_is tp (outside m) refl ∙ ap (λ v. v && within (outside m) (between tags words (offset_at 8 words) n)) (sym (got.same (outside m) q ∙ rw (a_is, e_is)))

  pub tables-over : r ≡ false → Tabled r words tags n t tables_fine
  tables-over f = record { same = λ m tp q. sym (both m tp q ∙ rw f) }

  pub tables-special : r ≡ true → (s : ℕ) → s ≡ offset_at 8 words → (r₂ : Bool) → InRangeEnsures r₂ words tags t s n → Tabled r₂ words tags n t tables_fine
  tables-special f s is r₂ rest = record { same = λ m tp q. rest.same (outside m) q ∙ ap (λ o. within (outside m) (between tags words o n)) is ∙ sym (both m tp q ∙ rw f) }

module _ (words tags : List ℕ) (n : ℕ) (tape : Tape words tags n) where
  pub tape_long : Long words tags
  tape_long = taped_long tape.taped

  pub sections-rising : (a e : ℕ) → a ≡ offset_at 1 words → e ≡ offset_at 6 words → a ≤ e
  sections-rising a e p q = rw (p, q) (first_starts tape.taped (outside tape.holds))

  pub sections_small : (e : ℕ) → e ≡ offset_at 6 words → e ≤ 16384
  sections_small e q = rw q (sixth_in tape.taped (outside tape.holds))

  pub special-rising : (at : ℕ) → at ≡ offset_at 8 words → at ≤ n
  special-rising at is = rw is (special-part tape.taped).rising

  pub tape_small : n ≤ 16384
  tape_small = tape.taped.small

-- ---- the kinds of global expressions
module _ {words tags : List ℕ} {n : ℕ} {m : Module} (tp : Taped words tags n m) (j : ℕ) (h : j < count_at 5 words) where
  many : j < length m.exprs
  many = omega (arith, taped_count tp 5 (omega arith), (sees_exprs m refl).count)

  this : Part (flat_module m) (record_at 5 j words) (record_end 5 j words) (get_or m.exprs j [])
  this = taped_part tp (omega arith) (sees_expr m refl j (get_or m.exprs j []) (looked_at m.exprs j [] many))

  shape : Expression (get_or m.exprs j [])
  unfolding expression_row
  shape = each_at (each_expression tp.well.exprs_ok.each) j [] many

  kind-word : get_or words (record_at 5 j words) 0 ≡ kind (get_or m.exprs j [])
  kind-word = let z : record_at 5 j words + 0 ≡ record_at 5 j words = omega arith in rw z at (part-word (taped_held tp) this 0 (expression_first shape)) ∙ expression_kind shape

  kind-inside : record_at 5 j words < 16384
  kind-inside = omega (arith, part_end this, expression_first shape, this.within, cells_few tp)

module _ (words tags : List ℕ) (n : ℕ) where
  pub kinds_inside : Tape words tags n → (j : ℕ) → j < count_at 5 words → record_at 5 j words < 16384
  kinds_inside tape j h = kind-inside tape.taped j h

  module _ {m : Module} (tp : Taped words tags n m) where
    kinds_from : (k j : ℕ) → j + k ≡ length m.exprs → list_all (λ i. constant_kind (get_or words (record_at 5 i words) 0)) (range_with_len j k) ≡ every constant_only (drop j m.exprs)
    unfolding every constant_only
    kinds_from zero j h = let z : j ≡ length m.exprs = omega arith in rw z (sym (ap (every constant_only) (drop-length m.exprs)))
    kinds_from (suc k) j h =
        let i : j < count_at 5 words = omega (arith, h, taped_count tp 5 (omega arith), (sees_exprs m refl).count) in
        rw (kind-word tp j i, drop-cons m.exprs j [] (omega arith), add-one j)
        (ap (constant_kind (kind (get_or m.exprs j [])) &&◌) (rw (add-one j) at (kinds_from k (j + 1) (omega arith))))

    pub kinds_are : (count : ℕ) → count ≡ count_at 5 words → list_all (λ i. constant_kind (get_or words (record_at 5 i words) 0)) (range_with_len 0 count) ≡ kinds_fine m
    unfolding kinds_fine
    kinds_are count is = kinds_from count 0 (omega (arith, is, taped_count tp 5 (omega arith), (sees_exprs m refl).count))
