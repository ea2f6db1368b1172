-- The cells between two places of words and tags: one by one, and where words and tags hold a module, those of its sections and records.
use Rattle.std.specs.Prelude.{◌≡◌, refl, ℕ, suc, ◌+◌, ◌≤◌, ◌<◌, take}
use Rattle.std.proofs.Math.Path.{ap}
use Rattle.std.proofs.Common.{ap₂, ◌∙◌, add-one, arith, drop_of_length-le, length-take}
use mathlib.Core.List.{List, [], ◌∷◌, map}
use Rattle.std.proofs.Math.ListN.{length, get_or, length-append}
use Rattle.std.proofs.Math.Seq.{slice, slice-cons}
use Rattle.theory_lists.specs.Lists.{looked_at}
use Rattle.model.specs.Outcome.{Cells, class, word}
use Rattle.model.specs.Module.{Module, count_at, offset_at, places, flat_table, flat_module}
use Rattle.model.specs.Tree.{flat_all}
use Rattle.model.specs.View.{tables, record_at, record_end}
use Rattle.model.specs.Taped.{Taped}
use Rattle.model.specs.Between.{beside, between, Long, Stretch}
use Rattle.theory_image.specs.Sections.{length-places}
use Rattle.theory_image.specs.Views.{section_of, view_rising, view_within, view_section, view_next, view_table, view_records, sees_record, length-write}
use Rattle.theory_image.specs.FunctionViews.{Held, Part, part_end, part_words, part_tags, taped_held, taped_count, taped_offset, taped_length, taped_part}

pub beside_cells : (cs : Cells) → beside (map class cs) (map word cs) ≡ cs
unfolding beside
beside_cells [] = refl
beside_cells (c ∷ cs) = ap (c ∷◌) (beside_cells cs)

pub slice-none : {A : Type 0} (i end : ℕ) (l : List A) → end ≤ i → slice i end l ≡ []
slice-none i end l h = drop_of_length-le (take end l) {i = i} (omega (arith, length-take end l))

pub between_none : (tags words : List ℕ) (i end : ℕ) → end ≤ i → between tags words i end ≡ []
unfolding between beside
between_none tags words i end h = rw (slice-none i end tags h)

pub between_next : (tags words : List ℕ) (i end : ℕ) → i < end → end ≤ length tags → end ≤ length words → between tags words i end ≡ (get_or tags i 0, get_or words i 0) ∷ between tags words (suc i) end
unfolding between beside
between_next tags words i end h t w = rw (slice-cons i end tags 0 h t, slice-cons i end words 0 h w)

-- of arrays, as code steps
pub between_cons : (tags words : List ℕ) (i end : ℕ) → i < end → Long words tags → end ≤ 16384 → between tags words i end ≡ (get_or tags i 0, get_or words i 0) ∷ between tags words (i + 1) end
between_cons tags words i end h long ok = rw (add-one i) (between_next tags words i end h (omega arith) (omega arith))

-- the part that is there
pub held-between : {words tags : List ℕ} {cells cs : Cells} {p q : ℕ} → Held words tags cells → Part cells p q cs → between tags words p q ≡ cs
unfolding between
held-between {cs} o v = ap₂ beside (part_tags o v) (part_words o v) ∙ beside_cells cs

module _ {words tags : List ℕ} {n : ℕ} {m : Module} (t : Taped words tags n m) where
  pub part-between : {p q : ℕ} {cs : Cells} → Part (flat_module m) p q cs → between tags words p q ≡ cs
  part-between v = held-between (taped_held t) v

  -- section k, up to where the next starts
  pub section-part : (k : ℕ) → k < 8 → Part (flat_module m) (offset_at k words) (offset_at (suc k) words) (section_of m k).1
  section-part k h =
      rw (taped_offset t k (omega arith), taped_offset t (suc k) (omega arith), ← view_next m k h)
      (record { rising = view_rising m k (omega arith); within = omega (arith, view_within m k (omega arith), length-write m); cells_are = view_section m k (omega arith) })

  pub section_stretch : (k : ℕ) → k < 8 → Stretch words tags (offset_at k words) (offset_at (suc k) words)
  section_stretch k h =
      let v = section-part k h in
      let l : offset_at (suc k) words ≤ n = omega (arith, v.within, taped_length t) in
      record { rising = v.rising; small = omega (arith, t.small); in_words = omega (arith, t.small, t.words_long); in_tags = omega (arith, t.small, t.tags_long) }

  -- by what is read in the header
  pub header_stretch : (k a e : ℕ) → k < 8 → a ≡ offset_at k words → e ≡ offset_at (suc k) words → Stretch words tags a e
  header_stretch k a e h p q = rw (p, q) (section_stretch k h)

  pub section-between : (k : ℕ) → k < 8 → between tags words (offset_at k words) (offset_at (suc k) words) ≡ (section_of m k).1
  section-between k h = part-between (section-part k h)

  -- a table: its cells, how many records it has, where their offsets are, and the records
  pub table-between : (k : ℕ) → k < 8 → between tags words (offset_at k words) (offset_at (suc k) words) ≡ flat_table (get_or (tables m) k [])
  table-between k h = section-between k h ∙ ap (λ s. s.1) (view_table m k h)

  pub table-count : (k : ℕ) → k < 8 → count_at k words ≡ length (get_or (tables m) k [])
  table-count k h = taped_count t k (omega arith) ∙ view_records m k h

  pub record_offset : (k j : ℕ) → k < 8 → j < count_at k words → offset_at k words + j < n
  unfolding flat_table
  record_offset k j h i =
      let rs = get_or (tables m) k [] in
      omega (arith, part_end (section-part k h), (section-part k h).within, taped_length t, ap (λ s. length s.1) (view_table m k h), length-append (places (length rs) rs) (flat_all rs), length-places rs (length rs), table-count k h)

  pub record_part : (k j : ℕ) → k < 8 → j < count_at k words → Part (flat_module m) (record_at k j words) (record_end k j words) (get_or (get_or (tables m) k []) j [])
  record_part k j h i = taped_part t h (sees_record m refl k j (get_or (get_or (tables m) k []) j []) h (looked_at (get_or (tables m) k []) j [] (omega (arith, table-count k h))))
