-- Views of a module's words and cells: the header's counts and offsets, the cells of a section, the cells of a record. They hold for every module, since the header and the offsets are computed from it.
-- With ws = write m and cells = flat_module m, which agree word for word: section k is `slice (offset_at k ws) (end_at k ws)`, record j of section k is `slice (record_at k j ws) (record_end k j ws)`, of either.
use Rattle.std.specs.Prelude.{◌≡◌, Bool}
use Rattle.std.proofs.Math.Path.{refl, sym, ap, ap₂}
use Rattle.std.proofs.Common.{◌∙◌, length-append}
use Rattle.std.proofs.Math.Bool.{true, false}
use Rattle.std.proofs.Math.Option.{some}
use mathlib.Core.List.{List, [], ◌∷◌, ◌++◌, map}
use Prim.Native.Nat.{ℕ, zero, suc, ◌+◌, ◌*◌, ◌≤◌, ◌<◌}
use Rattle.std.proofs.Math.Nat.{suc-mul}
use native.Mathlib.Omega.{arith}
use Rattle.std.proofs.Math.Dec.{eqb}
use Rattle.std.proofs.Math.ListN.{length, get_or, get_elem?, get_or-append}
use Rattle.std.proofs.lemmas.List.{length-map}
use Rattle.std.proofs.Math.Seq.{slice, take_at}
use borrow.Author.Tests.{eqb-true, eqb-false}
use Rattle.theory_lists.specs.Lists.{map-append, looked_length, looked_get_d, looked_map}
use Rattle.model.specs.Outcome.{Cells, class, word}
use Rattle.model.specs.Table.{PLACE}
use Rattle.model.specs.Tree.{Function, Entry, flat, flat_entry, flat_all}
use Rattle.model.specs.Module.{Module, count_at, offset_at, end_at, section, HEADER, places, flat_table, flat_special, Section, sections, pairs_from, bodies, flat_module, write}
use Rattle.model.specs.View.{tables, record_at, record_end}
use Rattle.model.specs.Carry.{WellFormed}
use Rattle.theory_image.specs.Plain.{plain?, plain-length, plain_start}
use Rattle.theory_image.specs.Sections.{slice-slice, get_d_slice, slice-map, start_of, start_zero, start_end, start_step, start_in, start_slice, length-places, place-word, cells_of, length_pairs, bodies-all, pair-count, pair_offset}

-- section k: its count and its cells
abbrev pub section_of : Module → ℕ → Section
section_of m k = get_or (sections m) k (0, [])

length-sections : (m : Module) → length (sections m) ≡ 9
unfolding sections
length-sections m = refl

-- a word of the header's pairs
header_word : (m : Module) (i j : ℕ) → i ≡ 2 + j → j < 18 → get_or (write m) i 0 ≡ get_or (map word (pairs_from HEADER (sections m))) j 0
unfolding write flat_module
header_word m zero j e h = absurd (omega arith)
header_word m (suc zero) j e h = absurd (omega arith)
header_word m (suc (suc i)) j e h =
    let q : i ≡ j = omega arith in
    rw (q, map-append word (pairs_from HEADER (sections m)) (bodies (sections m)))
    (get_or-append (map word (pairs_from HEADER (sections m))) (map word (bodies (sections m))) 0 j
    (rw (length-map (pairs_from HEADER (sections m)) word) (omega (arith, length_pairs (sections m) HEADER, length-sections m))))

-- the header's classes
pairs-class : (ss : List Section) (at i : ℕ) → i < 2 * length ss → get_or (map class (pairs_from at ss)) i 0 ≡ PLACE
unfolding pairs_from
pairs-class [] at i h = absurd (omega arith)
pairs-class (s ∷ ss) at zero h = refl
pairs-class (s ∷ ss) at (suc zero) h = refl
pairs-class (s ∷ ss) at (suc (suc i)) h = pairs-class ss (at + length s.1) i (omega arith)

pub view_header : (m : Module) (i : ℕ) → i < HEADER → get_or (map class (flat_module m)) i 0 ≡ PLACE
unfolding flat_module
view_header m zero h = refl
view_header m (suc zero) h = refl
view_header m (suc (suc i)) h =
    rw (map-append class (pairs_from HEADER (sections m)) (bodies (sections m)))
    (get_or-append (map class (pairs_from HEADER (sections m))) (map class (bodies (sections m))) 0 i (rw (length-map (pairs_from HEADER (sections m)) class) (omega (arith, length_pairs (sections m) HEADER, length-sections m)))
    ∙ pairs-class (sections m) HEADER i (omega (arith, length-sections m)))

-- the header's count is the table's length
pub view_count : (m : Module) (k : ℕ) → k < 9 → count_at k (write m) ≡ (section_of m k).0
unfolding count_at
view_count m k h = header_word m (2 + 2 * k) (2 * k) refl (omega arith) ∙ pair-count (sections m) HEADER k (2 * k) (omega (arith, length-sections m)) refl

pub offset_start : (m : Module) (k : ℕ) → k < 9 → offset_at k (write m) ≡ start_of HEADER (map cells_of (sections m)) k
unfolding offset_at
offset_start m k h = header_word m (3 + 2 * k) (1 + 2 * k) (omega arith) (omega arith) ∙ pair_offset (sections m) HEADER k (1 + 2 * k) (omega (arith, length-sections m)) refl

-- the cells: twenty of the header, and the sections
header_of : Module → Cells
header_of m = (PLACE, 1) ∷ (PLACE, HEADER + length (bodies (sections m))) ∷ pairs_from HEADER (sections m)

length_header : (m : Module) → length (header_of m) ≡ HEADER
unfolding header_of
length_header m = omega (arith, length_pairs (sections m) HEADER, length-sections m)

cells_are : (m : Module) → flat_module m ≡ header_of m ++ flat_all (map cells_of (sections m))
unfolding flat_module header_of
cells_are m = ap (header_of m ++◌) (bodies-all (sections m))

pub length_cells : (m : Module) → length (flat_module m) ≡ HEADER + length (flat_all (map cells_of (sections m)))
length_cells m = ap length (cells_are m) ∙ length-append (header_of m) (flat_all (map cells_of (sections m))) ∙ ap (◌+ length (flat_all (map cells_of (sections m)))) (length_header m)

pub length-write : (m : Module) → length (write m) ≡ length (flat_module m)
unfolding write
length-write m = length-map (flat_module m) word

-- "word 0 is the edition (1), word 1 the total words"
pub view_edition : (m : Module) → get_or (write m) 0 0 ≡ 1
unfolding write flat_module
view_edition m = refl

pub view_total : (m : Module) → get_or (write m) 1 0 ≡ length (write m)
unfolding write flat_module
view_total m = ap (λ l. HEADER + length l) (bodies-all (sections m)) ∙ sym (length-write m ∙ length_cells m)

length-starts : (m : Module) → length (map cells_of (sections m)) ≡ 9
length-starts m = length-map (sections m) cells_of ∙ length-sections m

end_start : (m : Module) (k : ℕ) → k < 9 → end_at k (write m) ≡ start_of HEADER (map cells_of (sections m)) (suc k)
unfolding end_at
end_start m k h = go (eqb k 8) refl
  where
    go : (b : Bool) → eqb k 8 ≡ b → elim b [ true ↦ length (write m) | false ↦ offset_at (suc k) (write m) ] ≡ start_of HEADER (map cells_of (sections m)) (suc k)
    go true e =
        let q : suc k ≡ length (map cells_of (sections m)) = omega (arith, eqb-true k 8 e, length-starts m) in
        length-write m ∙ length_cells m ∙ sym (ap (start_of HEADER (map cells_of (sections m))) q ∙ start_end (map cells_of (sections m)) HEADER)
    go false e = offset_start m (suc k) (omega (arith, eqb-false k 8 e))

get_d_cells : (ss : List Section) (k : ℕ) → get_or (map cells_of ss) k [] ≡ (get_or ss k (0, [])).1
get_d_cells [] zero = refl
get_d_cells [] (suc k) = refl
get_d_cells (s ∷ ss) zero = refl
get_d_cells (s ∷ ss) (suc k) = get_d_cells ss k

-- the cells of section k
pub view_section : (m : Module) (k : ℕ) → k < 9 → slice (offset_at k (write m)) (end_at k (write m)) (flat_module m) ≡ (section_of m k).1
view_section m k h =
    rw (offset_start m k h, end_start m k h, cells_are m) (start_slice (map cells_of (sections m)) (header_of m) HEADER k (length_header m) (omega (arith, length-starts m)) ∙ get_d_cells (sections m) k)

-- and its words
pub view_words : (m : Module) (k : ℕ) → k < 9 → section k (write m) ≡ map word (section_of m k).1
unfolding section write
view_words m k h = slice-map word (offset_at k (write m)) (end_at k (write m)) (flat_module m) ∙ ap (map word) (view_section m k h)

-- sections are in order, without gap, from word 20 to the end
pub view_first : (m : Module) → offset_at 0 (write m) ≡ HEADER
view_first m = offset_start m 0 (omega arith) ∙ start_zero HEADER (map cells_of (sections m))

pub view_next : (m : Module) (k : ℕ) → k < 8 → end_at k (write m) ≡ offset_at (suc k) (write m)
view_next m k h = end_start m k (omega arith) ∙ sym (offset_start m (suc k) (omega arith))

pub view_last : (m : Module) → end_at 8 (write m) ≡ length (write m)
unfolding end_at
view_last m = refl

pub view_length : (m : Module) (k : ℕ) → k < 9 → end_at k (write m) ≡ offset_at k (write m) + length (section_of m k).1
view_length m k h =
    end_start m k h ∙ start_step (map cells_of (sections m)) HEADER k (omega (arith, length-starts m)) ∙ ap₂ ◌+◌ (sym (offset_start m k h)) (ap length (get_d_cells (sections m) k))

pub view_rising : (m : Module) (k : ℕ) → k < 9 → offset_at k (write m) ≤ end_at k (write m)
view_rising m k h = omega (arith, view_length m k h)

pub view_within : (m : Module) (k : ℕ) → k < 9 → end_at k (write m) ≤ length (write m)
view_within m k h =
    rw (end_start m k h, length-write m, length_cells m) (start_in (map cells_of (sections m)) HEADER (suc k) (omega (arith, length-starts m)))

-- ---- records
-- sections 0 to 7 are tables
pub view_table : (m : Module) (k : ℕ) → k < 8 → section_of m k ≡ (length (get_or (tables m) k []), flat_table (get_or (tables m) k []))
unfolding sections tables
view_table m zero h = refl
view_table m (suc zero) h = refl
view_table m (suc (suc zero)) h = refl
view_table m (suc (suc (suc zero))) h = refl
view_table m (suc (suc (suc (suc zero)))) h = refl
view_table m (suc (suc (suc (suc (suc zero))))) h = refl
view_table m (suc (suc (suc (suc (suc (suc zero)))))) h = ap (λ n. (n, flat_table (map flat m.functions))) (sym (length-map m.functions flat))
view_table m (suc (suc (suc (suc (suc (suc (suc zero))))))) h = ap (λ n. (n, flat_table (map flat_entry m.entries))) (sym (length-map m.entries flat_entry))
view_table m (suc (suc (suc (suc (suc (suc (suc (suc k)))))))) h = absurd (omega arith)

pub view_records : (m : Module) (k : ℕ) → k < 8 → count_at k (write m) ≡ length (get_or (tables m) k [])
view_records m k h = view_count m k (omega arith) ∙ ap (λ s. s.0) (view_table m k h)

pub table-length : (rs : List Cells) → length (flat_table rs) ≡ length rs + length (flat_all rs)
unfolding flat_table
table-length rs = length-append (places (length rs) rs) (flat_all rs) ∙ ap (◌+ length (flat_all rs)) (length-places rs (length rs))

module _ (m : Module) (k : ℕ) (h : k < 8) where
  -- the records of section k, the section's cells, and where it ends
  abbrev these : List Cells
  these = get_or (tables m) k []

  cells_table : (section_of m k).1 ≡ flat_table these
  cells_table = ap (λ s. s.1) (view_table m k h)

  end-table : end_at k (write m) ≡ offset_at k (write m) + (length these + length (flat_all these))
  end-table = view_length m k (omega arith) ∙ ap (offset_at k (write m) +◌) (ap length cells_table ∙ table-length these)

  -- a record's offset
  offset_word : (j : ℕ) → j < length these → get_or (write m) (offset_at k (write m) + j) 0 ≡ start_of (length these) these j
  unfolding flat_table section
  offset_word j i =
      sym (get_d_slice (write m) (offset_at k (write m)) (end_at k (write m)) j 0 (omega (arith, end-table)))
      ∙ ap (λ l. get_or l j 0) (view_words m k (omega arith) ∙ ap (map word) cells_table ∙ map-append word (places (length these) these) (flat_all these))
      ∙ get_or-append (map word (places (length these) these)) (map word (flat_all these)) 0 j (rw (length-map (places (length these) these) word) (omega (arith, length-places these (length these))))
      ∙ place-word these (length these) j i

  pub at_start : (j : ℕ) → j < length these → record_at k j (write m) ≡ offset_at k (write m) + start_of (length these) these j
  unfolding record_at
  at_start j i = ap (offset_at k (write m) +◌) (offset_word j i)

  at-end : (j : ℕ) → j < length these → record_end k j (write m) ≡ offset_at k (write m) + start_of (length these) these (suc j)
  unfolding record_end
  at-end j i = go (eqb (suc j) (count_at k (write m))) refl
    where
      go : (b : Bool) → eqb (suc j) (count_at k (write m)) ≡ b → elim b [ true ↦ end_at k (write m) | false ↦ record_at k (suc j) (write m) ] ≡ offset_at k (write m) + start_of (length these) these (suc j)
      go true e =
          let q : suc j ≡ length these = eqb-true (suc j) (count_at k (write m)) e ∙ view_records m k h in
          end-table ∙ ap (offset_at k (write m) +◌) (sym (ap (start_of (length these) these) q ∙ start_end these (length these)))
      go false e = at_start (suc j) (omega (arith, eqb-false (suc j) (count_at k (write m)) e, view_records m k h))

  -- record j of section k: it lies in the section, and its cells are the record's
  pub view_record_rising : (j : ℕ) → j < count_at k (write m) → record_at k j (write m) ≤ record_end k j (write m)
  view_record_rising j i =
      let q : j < length these = omega (arith, view_records m k h) in
      omega (arith, at_start j q, at-end j q, start_step these (length these) j q)

  pub view_record_within : (j : ℕ) → j < count_at k (write m) → record_end k j (write m) ≤ end_at k (write m)
  view_record_within j i =
      let q : j < length these = omega (arith, view_records m k h) in
      omega (arith, at-end j q, start_in these (length these) (suc j) q, end-table)

  pub view_record : (j : ℕ) → j < count_at k (write m) → slice (record_at k j (write m)) (record_end k j (write m)) (flat_module m) ≡ get_or (get_or (tables m) k []) j []
  unfolding flat_table
  view_record j i =
      let q : j < length these = omega (arith, view_records m k h) in
      let e = at-end j q in
      let z : offset_at k (write m) + start_of (length these) these (suc j) ≤ end_at k (write m) = omega (arith, view_record_within j i) in
      rw (at_start j q, e)
      (slice-slice (flat_module m) (offset_at k (write m)) (end_at k (write m)) (start_of (length these) these j) (start_of (length these) these (suc j)) (view_rising m k (omega arith)) (omega (arith, view_within m k (omega arith), length-write m)) z
      ∙ ap (slice (start_of (length these) these j) (start_of (length these) these (suc j))) (view_section m k (omega arith) ∙ cells_table)
      ∙ start_slice these (places (length these) these) (length these) j (length-places these (length these)) q)

-- ---- the same of words that are the image of m, in records to be cited: for every section and every record, and then one line for each table
-- section k has n records, and these cells
pub record Sees (ws : List ℕ) (m : Module) (k n : ℕ) (cs : Cells) : Type 0 where
  pub count : count_at k ws ≡ n
  pub cells : slice (offset_at k ws) (end_at k ws) (flat_module m) ≡ cs
  pub words : slice (offset_at k ws) (end_at k ws) ws ≡ map word cs

-- record j of section k is r
pub record SeesRecord (ws : List ℕ) (m : Module) (k j : ℕ) (r : Cells) : Type 0 where
  pub inside : j < count_at k ws
  pub rising : record_at k j ws ≤ record_end k j ws
  pub within : record_end k j ws ≤ end_at k ws
  pub cells : slice (record_at k j ws) (record_end k j ws) (flat_module m) ≡ r
  pub words : slice (record_at k j ws) (record_end k j ws) ws ≡ map word r

-- the sections are in order, without gap, from word 20 to the end
pub record Ordered (ws : List ℕ) : Type 0 where
  pub first : offset_at 0 ws ≡ HEADER
  pub onward : (k : ℕ) → k < 8 → end_at k ws ≡ offset_at (suc k) ws
  pub rising : (k : ℕ) → k < 9 → offset_at k ws ≤ end_at k ws
  pub within : (k : ℕ) → k < 9 → end_at k ws ≤ length ws
  pub last : end_at 8 ws ≡ length ws

view_sees : (m : Module) (k : ℕ) → k < 9 → Sees (write m) m k (section_of m k).0 (section_of m k).1
unfolding section
view_sees m k h = record { count = view_count m k h; cells = view_section m k h; words = view_words m k h }

view_sees_record : (m : Module) (k j : ℕ) (r : Cells) → k < 8 → get_elem? (get_or (tables m) k []) j ≡ some r → SeesRecord (write m) m k j r
unfolding write
view_sees_record m k j r h e =
    let i : j < count_at k (write m) = omega (arith, looked_length (get_or (tables m) k []) j e, view_records m k h) in
    let c = view_record m k h j i ∙ looked_get_d (get_or (tables m) k []) j [] e in
    record {
      inside = i;
      rising = view_record_rising m k h j i;
      within = view_record_within m k h j i;
      cells = c;
      words = slice-map word (record_at k j (write m)) (record_end k j (write m)) (flat_module m) ∙ ap (map word) c;
    }

module _ (m : Module) {ws : List ℕ} (same : ws ≡ write m) where
  pub sees : (k : ℕ) → k < 9 → Sees ws m k (section_of m k).0 (section_of m k).1
  sees k h = rw same (view_sees m k h)

  pub sees_record : (k j : ℕ) (r : Cells) → k < 8 → get_elem? (get_or (tables m) k []) j ≡ some r → SeesRecord ws m k j r
  sees_record k j r h e = rw same (view_sees_record m k j r h e)

  pub ordered : Ordered ws
  ordered = rw same (record { first = view_first m; onward = view_next m; rising = view_rising m; within = view_within m; last = view_last m })

  pub sees_names : Sees ws m 0 (length m.names) (flat_table m.names)
  unfolding sections
  sees_names = sees 0 (omega arith)

  pub sees_types : Sees ws m 1 (length m.types) (flat_table m.types)
  unfolding sections
  sees_types = sees 1 (omega arith)

  pub sees_constants : Sees ws m 2 (length m.constants) (flat_table m.constants)
  unfolding sections
  sees_constants = sees 2 (omega arith)

  pub sees_overrides : Sees ws m 3 (length m.overrides) (flat_table m.overrides)
  unfolding sections
  sees_overrides = sees 3 (omega arith)

  pub sees_globals : Sees ws m 4 (length m.globals) (flat_table m.globals)
  unfolding sections
  sees_globals = sees 4 (omega arith)

  pub sees_exprs : Sees ws m 5 (length m.exprs) (flat_table m.exprs)
  unfolding sections
  sees_exprs = sees 5 (omega arith)

  pub sees_functions : Sees ws m 6 (length m.functions) (flat_table (map flat m.functions))
  unfolding sections
  sees_functions = sees 6 (omega arith)

  pub sees_entries : Sees ws m 7 (length m.entries) (flat_table (map flat_entry m.entries))
  unfolding sections
  sees_entries = sees 7 (omega arith)

  pub sees_special : Sees ws m 8 (length m.special.pairs) (flat_special m.special)
  unfolding sections
  sees_special = sees 8 (omega arith)

  pub sees_name : (j : ℕ) (r : Cells) → get_elem? m.names j ≡ some r → SeesRecord ws m 0 j r
  unfolding tables
  sees_name j r e = sees_record 0 j r (omega arith) e

  pub sees_type : (j : ℕ) (r : Cells) → get_elem? m.types j ≡ some r → SeesRecord ws m 1 j r
  unfolding tables
  sees_type j r e = sees_record 1 j r (omega arith) e

  pub sees_constant : (j : ℕ) (r : Cells) → get_elem? m.constants j ≡ some r → SeesRecord ws m 2 j r
  unfolding tables
  sees_constant j r e = sees_record 2 j r (omega arith) e

  pub sees_override : (j : ℕ) (r : Cells) → get_elem? m.overrides j ≡ some r → SeesRecord ws m 3 j r
  unfolding tables
  sees_override j r e = sees_record 3 j r (omega arith) e

  pub sees_global : (j : ℕ) (r : Cells) → get_elem? m.globals j ≡ some r → SeesRecord ws m 4 j r
  unfolding tables
  sees_global j r e = sees_record 4 j r (omega arith) e

  pub sees_expr : (j : ℕ) (r : Cells) → get_elem? m.exprs j ≡ some r → SeesRecord ws m 5 j r
  unfolding tables
  sees_expr j r e = sees_record 5 j r (omega arith) e

  pub sees_function : (j : ℕ) (t : Function) → get_elem? m.functions j ≡ some t → SeesRecord ws m 6 j (flat t)
  unfolding tables
  sees_function j t e = sees_record 6 j (flat t) (omega arith) (looked_map flat m.functions j e)

  pub sees_entry : (j : ℕ) (t : Entry) → get_elem? m.entries j ≡ some t → SeesRecord ws m 7 j (flat_entry t)
  unfolding tables
  sees_entry j t e = sees_record 7 j (flat_entry t) (omega arith) (looked_map flat_entry m.entries j e)

-- ---- the special types: three words, and pairs of two
module _ (m : Module) {ws : List ℕ} (same : ws ≡ write m) (w : WellFormed m) where
  three : length m.special.rays ≡ 3
  unfolding plain?
  three = plain-length w.rays-ok refl

  -- where pair j starts in the section
  pair_start : (j : ℕ) → j ≤ length m.special.pairs → start_of 3 m.special.pairs j ≡ 3 + j * 2
  unfolding plain?
  pair_start j h = plain_start w.pairs-ok.each refl 3 2 j refl h

  special-end : end_at 8 ws ≡ offset_at 8 ws + (3 + length (flat_all m.special.pairs))
  unfolding sections flat_special
  special-end = rw same (view_length m 8 (omega arith) ∙ ap (offset_at 8 (write m) +◌) (length-append m.special.rays (flat_all m.special.pairs) ∙ ap (◌+ length (flat_all m.special.pairs)) three))

  inside-special : (a b : ℕ) → b ≤ 3 + length (flat_all m.special.pairs) → slice (offset_at 8 ws + a) (offset_at 8 ws + b) (flat_module m) ≡ slice a b (flat_special m.special)
  inside-special a b h =
      slice-slice (flat_module m) (offset_at 8 ws) (end_at 8 ws) a b (omega (arith, special-end)) (omega (arith, (ordered m same).last, ap length same, length-write m)) (omega (arith, special-end))
      ∙ ap (slice a b) (sees_special m same).cells

  pub sees_rays : slice (offset_at 8 ws) (offset_at 8 ws + 3) (flat_module m) ≡ m.special.rays
  unfolding flat_special
  sees_rays =
      let z : offset_at 8 ws ≡ offset_at 8 ws + 0 = omega arith in
      ap (λ o. slice o (offset_at 8 ws + 3) (flat_module m)) z ∙ inside-special 0 3 (omega arith) ∙ take_at m.special.rays (flat_all m.special.pairs) 3 three

  pub sees_pair : (j : ℕ) (p : Cells) → get_elem? m.special.pairs j ≡ some p → slice (offset_at 8 ws + (3 + j * 2)) (offset_at 8 ws + (5 + j * 2)) (flat_module m) ≡ p
  unfolding flat_special
  sees_pair j p e =
      let i : j < length m.special.pairs = looked_length m.special.pairs j e in
      let a : 3 + j * 2 ≡ start_of 3 m.special.pairs j = sym (pair_start j (omega arith)) in
      let b : 5 + j * 2 ≡ start_of 3 m.special.pairs (suc j) = omega (arith, pair_start (suc j) i, suc-mul j 2) in
      inside-special (3 + j * 2) (5 + j * 2) (omega (arith, start_in m.special.pairs 3 (suc j) i))
      ∙ ap₂ (λ x y. slice x y (m.special.rays ++ flat_all m.special.pairs)) a b
      ∙ start_slice m.special.pairs m.special.rays 3 j three i
      ∙ looked_get_d m.special.pairs j [] e
