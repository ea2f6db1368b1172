-- The laws of a whole image: what is written is read, what is read is well formed, what was read and is written out again is the same words, and rewriting words by class is carrying the module.
-- A module is read section by section: the places of the sections are one part of the proof (Placed, Stands), what each of them holds is the other (Tables).
use Rattle.std.specs.Prelude.{◌≡◌, refl, Bool, true, false, ◌&&◌, ℕ, zero, suc, ◌+◌, ◌*◌, ◌-◌, ◌≤◌, ◌<◌, eqb, leb, length, take, drop}
use Rattle.std.proofs.Math.Path.{sym, ap}
use Rattle.std.proofs.Common.{ap₂, ◌∙◌, arith, length-drop, take-append-drop, length-take-le, eqb-true, eq-eqb, leb-true, le-leb}
use mathlib.Core.List.{List, [], ◌∷◌, ◌++◌, map, zip_with, append-nil}
use Rattle.std.proofs.Math.ListN.{get_or, length-map}
use Rattle.std.proofs.Math.Seq.{slice, slice-cons, slice_empty, length-slice, drop-length}
use Rattle.std.proofs.lemmas.List.{drop-append-le}
use Rattle.theory_lists.specs.Lists.{map-append}
use Rattle.theory_lists.specs.Booleans.{if_true, and-true, and_split}
use Rattle.model.specs.Outcome.{Cells, class, word, Outcome, fits, Laid, laid, bad, strange, exact, both, map_l}
use Rattle.model.specs.Table.{Row, PLACE, name_row, type_row, constant_row, override_row, global_row, expression_row, run}
use Rattle.model.specs.Tree.{Block, Range, Function, Entry, flat_block, flat, flat_entry, block_at, function_at, entry_at}
use Rattle.model.specs.Module.{Special, Module, special_at, count_at, offset_at, end_at, limits, placed, HEADER, section, table_at, by, ◌⊛◌, module_of, read, flat_table, flat_special, Section, sections, pairs_from, bodies, flat_module, write, sized}
use Rattle.model.specs.Carry.{Keeps, carry_cell, carry_cells, carry_b, carry_function, carry_entry, carry, Lays, Each, each_none, each_next, WellFunction, WellEntry, Tabled, WellFormed}
use Rattle.theory_image.specs.Carries.{carried-classes, carried_words, kept_word, lays_carry, ok-b, flat_block_lem, flat_carry_function, flat_carry_entry, flat-carry, carry_well_function, carry_well_entry, carry_well}
use Rattle.theory_image.specs.Writing.{write-run, write-b, write-function, write-entry, write-special}
use Rattle.theory_image.specs.Readers.{Took, Takes, run_took, function_took, entry_took, special_took, WellSpecial, read_well_run, read_well_block, read_well_function, read_well_entry}
use Rattle.theory_image.specs.Views.{length_cells, length-write, view_header, view_first, view_next, view_rising, view_within, Sees, sees_names, sees_types, sees_constants, sees_overrides, sees_globals, sees_exprs, sees_functions, sees_entries, sees_special}
use Rattle.theory_image.specs.Tables.{fine-exact, laid_of, Fills, write-table, TableTook, table_took}

-- ---- the parts that a reading consists of
pub record ReadsAs (ws : List ℕ) (m : Module) : Type 0 where
  pub placing : placed limits 0 HEADER ws ≡ true
  pub names_at : table_at 0 (by name_row) ws ≡ laid m.names
  pub types-at : table_at 1 (by type_row) ws ≡ laid m.types
  pub constants_at : table_at 2 (by constant_row) ws ≡ laid m.constants
  pub overrides_at : table_at 3 (by override_row) ws ≡ laid m.overrides
  pub globals_at : table_at 4 (by global_row) ws ≡ laid m.globals
  pub exprs_at : table_at 5 (by expression_row) ws ≡ laid m.exprs
  pub functions_at : table_at 6 function_at ws ≡ laid m.functions
  pub entries_at : table_at 7 entry_at ws ≡ laid m.entries
  pub special-at : exact (special_at (count_at 8 ws) (section 8 ws)) ≡ laid m.special

-- an application that is laid out, in continuation style
star : {A B R : Type 0} (f : Laid (A → B)) (x : Laid A) (c : B) → f ⊛ x ≡ laid c → ((g : A → B) (a : A) → f ≡ laid g → x ≡ laid a → g a ≡ c → R) → R
unfolding ◌⊛◌ both
star (laid g) (laid a) c e k = k g a refl refl (cc)
star (laid g) bad c e k = let z : ◌≡◌ {A = ℕ} 0 1 = cc in absurd (omega arith)
star (laid g) strange c e k = let z : ◌≡◌ {A = ℕ} 0 1 = cc in absurd (omega arith)
star bad x c e k = let z : ◌≡◌ {A = ℕ} 0 1 = cc in absurd (omega arith)
star strange (laid a) c e k = let z : ◌≡◌ {A = ℕ} 0 1 = cc in absurd (omega arith)
star strange bad c e k = let z : ◌≡◌ {A = ℕ} 0 1 = cc in absurd (omega arith)
star strange strange c e k = let z : ◌≡◌ {A = ℕ} 0 1 = cc in absurd (omega arith)

mapped : {A B R : Type 0} (f : A → B) (x : Laid A) (c : B) → map_l f x ≡ laid c → ((a : A) → x ≡ laid a → f a ≡ c → R) → R
unfolding map_l
mapped f (laid a) c e k = k a refl (cc)
mapped f bad c e k = let z : ◌≡◌ {A = ℕ} 0 1 = cc in absurd (omega arith)
mapped f strange c e k = let z : ◌≡◌ {A = ℕ} 0 1 = cc in absurd (omega arith)

-- a test that was passed
passed : {A : Type 0} (b : Bool) (x : Laid A) (a : A) → elim b [ true ↦ x | false ↦ bad ] ≡ laid a → (b ≡ true) × (x ≡ laid a)
passed true x a e = (refl, e)
passed false x a e = let z : ◌≡◌ {A = ℕ} 0 1 = cc in absurd (omega arith)

pub read-parts : (ws : List ℕ) (m : Module) → read ws ≡ laid m → ReadsAs ws m
unfolding read
read-parts ws m e =
    let p₀ = map_l module_of (table_at 0 (by name_row) ws) in
    let p₁ = p₀ ⊛ table_at 1 (by type_row) ws in
    let p₂ = p₁ ⊛ table_at 2 (by constant_row) ws in
    let p₃ = p₂ ⊛ table_at 3 (by override_row) ws in
    let p₄ = p₃ ⊛ table_at 4 (by global_row) ws in
    let p₅ = p₄ ⊛ table_at 5 (by expression_row) ws in
    let p₆ = p₅ ⊛ table_at 6 function_at ws in
    let p₇ = p₆ ⊛ table_at 7 entry_at ws in
    let t = passed (placed limits 0 HEADER ws) (p₇ ⊛ exact (special_at (count_at 8 ws) (section 8 ws))) m e in
    star p₇ (exact (special_at (count_at 8 ws) (section 8 ws))) m t.1 λ g₈ a₈ l₈ r₈ m₈.
    star p₆ (table_at 7 entry_at ws) g₈ l₈ λ g₇ a₇ l₇ r₇ m₇.
    star p₅ (table_at 6 function_at ws) g₇ l₇ λ g₆ a₆ l₆ r₆ m₆.
    star p₄ (table_at 5 (by expression_row) ws) g₆ l₆ λ g₅ a₅ l₅ r₅ m₅.
    star p₃ (table_at 4 (by global_row) ws) g₅ l₅ λ g₄ a₄ l₄ r₄ m₄.
    star p₂ (table_at 3 (by override_row) ws) g₄ l₄ λ g₃ a₃ l₃ r₃ m₃.
    star p₁ (table_at 2 (by constant_row) ws) g₃ l₃ λ g₂ a₂ l₂ r₂ m₂.
    star p₀ (table_at 1 (by type_row) ws) g₂ l₂ λ g₁ a₁ l₁ r₁ m₁.
    mapped module_of (table_at 0 (by name_row) ws) g₁ l₁ λ a₀ r₀ m₀.
    let whole : module_of a₀ a₁ a₂ a₃ a₄ a₅ a₆ a₇ a₈ ≡ m =
    ap (λ g. g a₁ a₂ a₃ a₄ a₅ a₆ a₇ a₈) m₀ ∙ ap (λ g. g a₂ a₃ a₄ a₅ a₆ a₇ a₈) m₁ ∙ ap (λ g. g a₃ a₄ a₅ a₆ a₇ a₈) m₂ ∙ ap (λ g. g a₄ a₅ a₆ a₇ a₈) m₃ ∙ ap (λ g. g a₅ a₆ a₇ a₈) m₄ ∙ ap (λ g. g a₆ a₇ a₈) m₅ ∙ ap (λ g. g a₇ a₈) m₆ ∙ ap (λ g. g a₈) m₇ ∙ m₈ in
    record {
      placing = t.0;
      names_at = r₀ ∙ ap (λ x. laid x.names) whole;
      types-at = r₁ ∙ ap (λ x. laid x.types) whole;
      constants_at = r₂ ∙ ap (λ x. laid x.constants) whole;
      overrides_at = r₃ ∙ ap (λ x. laid x.overrides) whole;
      globals_at = r₄ ∙ ap (λ x. laid x.globals) whole;
      exprs_at = r₅ ∙ ap (λ x. laid x.exprs) whole;
      functions_at = r₆ ∙ ap (λ x. laid x.functions) whole;
      entries_at = r₇ ∙ ap (λ x. laid x.entries) whole;
      special-at = r₈ ∙ ap (λ x. laid x.special) whole;
    }

pub read_whole : (ws : List ℕ) (m : Module) → ReadsAs ws m → read ws ≡ laid m
unfolding read ◌⊛◌ both map_l
read_whole ws m r = rw (read, r.placing, r.names_at, r.types-at, r.constants_at, r.overrides_at, r.globals_at, r.exprs_at, r.functions_at, r.entries_at, r.special-at)

-- ---- the places of the sections
-- the sections from number k on, of which the first starts at `at`: what `placed` tests
pub data Placed (ws : List ℕ) : List ℕ → ℕ → ℕ → Type 0 where
  placed-none : {k at : ℕ} → Placed ws [] k at
  placed-next : {m k at : ℕ} {ms : List ℕ} → offset_at k ws ≡ at → count_at k ws ≤ m → at ≤ end_at k ws → end_at k ws ≤ length ws → Placed ws ms (suc k) (end_at k ws) → Placed ws (m ∷ ms) k at

pub placed_true : (ms : List ℕ) (k at : ℕ) (ws : List ℕ) → placed ms k at ws ≡ true → Placed ws ms k at
unfolding placed
placed_true [] k at ws e = placed-none
placed_true (m ∷ ms) k at ws e =
    let a = and_split (eqb (offset_at k ws) at) (leb (count_at k ws) m && (leb at (end_at k ws) && (leb (end_at k ws) (length ws) && placed ms (suc k) (end_at k ws) ws))) e in
    let b = and_split (leb (count_at k ws) m) (leb at (end_at k ws) && (leb (end_at k ws) (length ws) && placed ms (suc k) (end_at k ws) ws)) a.1 in
    let c = and_split (leb at (end_at k ws)) (leb (end_at k ws) (length ws) && placed ms (suc k) (end_at k ws) ws) b.1 in
    let d = and_split (leb (end_at k ws) (length ws)) (placed ms (suc k) (end_at k ws) ws) c.1 in
    placed-next (eqb-true (offset_at k ws) at a.0) (leb-true (count_at k ws) m b.0) (leb-true at (end_at k ws) c.0) (leb-true (end_at k ws) (length ws) d.0) (placed_true ms (suc k) (end_at k ws) ws d.1)

pub true_placed : {ws ms : List ℕ} {k at : ℕ} → Placed ws ms k at → placed ms k at ws ≡ true
unfolding placed
true_placed placed-none = refl
true_placed {ws} (placed-next {m} {k} {at} a b c d r) =
    and-true (eq-eqb (offset_at k ws) at a) (and-true (le-leb (count_at k ws) m b) (and-true (le-leb at (end_at k ws) c) (and-true (le-leb (end_at k ws) (length ws) d) (true_placed r))))

-- a section's count is within its limit
placed-count : {ws ms : List ℕ} {k at : ℕ} → Placed ws ms k at → (i : ℕ) → i < length ms → count_at (k + i) ws ≤ get_or ms i 0
placed-count placed-none i h = absurd (omega arith)
placed-count {ws} (placed-next {k} a b c d r) zero h = let q : k + 0 ≡ k = omega arith in rw q b
placed-count {ws} (placed-next {k} a b c d r) (suc i) h = let q : k + suc i ≡ suc k + i = omega arith in rw q (placed-count r i (omega arith))

-- ---- what is read is well formed
module _ {A : Type 0} {ok : A → Type 0} {flatly : A → Cells} {p : List ℕ → Outcome A} (takes : Takes ok flatly p) (k : ℕ) (ws : List ℕ) where
  at_took : {l : List A} → table_at k p ws ≡ laid l → TableTook ok flatly (count_at k ws) (section k ws) l
  unfolding table_at
  at_took e = laid_of (table_took takes (count_at k ws) (section k ws)) e

  at_well : {l : List A} {n : ℕ} → table_at k p ws ≡ laid l → count_at k ws ≤ n → Tabled ok n l
  at_well e h = let t = at_took e in record { few = rw t.many h; each = t.each }

by_took : (r : Row) → Takes (Lays r) (λ cs. cs) (by r)
by_took r ws = run_took ws r

special_is : (ws : List ℕ) (s : Special) → exact (special_at (count_at 8 ws) (section 8 ws)) ≡ laid s → Took (WellSpecial (count_at 8 ws)) flat_special (section 8 ws) s []
special_is ws s e = laid_of (fine-exact (special_took (count_at 8 ws) (section 8 ws))) e

-- LAW: what is read is well formed
pub read_well : (ws : List ℕ) (m : Module) → read ws ≡ laid m → WellFormed m
unfolding limits
read_well ws m e =
    let r = read-parts ws m e in
    let c = placed-count (placed_true limits 0 HEADER ws r.placing) in
    let s = (special_is ws m.special r.special-at).fine in
    record {
      names_ok = at_well (by_took name_row) 0 ws r.names_at (c 0 (omega arith));
      types-ok = at_well (by_took type_row) 1 ws r.types-at (c 1 (omega arith));
      constants_ok = at_well (by_took constant_row) 2 ws r.constants_at (c 2 (omega arith));
      overrides_ok = at_well (by_took override_row) 3 ws r.overrides_at (c 3 (omega arith));
      globals_ok = at_well (by_took global_row) 4 ws r.globals_at (c 4 (omega arith));
      exprs_ok = at_well (by_took expression_row) 5 ws r.exprs_at (c 5 (omega arith));
      functions_ok = at_well function_took 6 ws r.functions_at (c 6 (omega arith));
      entries_ok = at_well entry_took 7 ws r.entries_at (c 7 (omega arith));
      rays-ok = s.rays-ok;
      pairs-ok = record { few = rw s.pairs-ok.many (c 8 (omega arith)); each = s.pairs-ok.each };
    }

-- ---- what is written is read
map-self : {A : Type 0} (l : List A) → map (λ x. x) l ≡ l
map-self [] = refl
map-self (x ∷ l) = ap (x ∷◌) (map-self l)

each_map : {A : Type 0} {P Q : A → Type 0} → ((a : A) → P a → Q a) → {l : List A} → Each P l → Each Q l
each_map h each_none = each_none
each_map h (each_next {a} p ps) = each_next (h a p) (each_map h ps)

module _ {A : Type 0} (p : List ℕ → Outcome A) (flatly : A → Cells) where
  -- a table in the image of m
  written : {m : Module} {k : ℕ} {l : List A} → Sees (write m) m k (length l) (flat_table (map flatly l)) → Each (Fills p flatly) l → table_at k p (write m) ≡ laid l
  unfolding table_at section
  written s fs = rw (s.count, s.words) (write-table p flatly fs)

row_fills : (r : Row) (cs : Cells) → Lays r cs → Fills (by r) (λ cs. cs) cs
row_fills r cs l = record { fills = ap (λ ws. run ws r) (sym (append-nil (map word cs))) ∙ write-run l [] }

row_written : (r : Row) {m : Module} {k : ℕ} {l : List Cells} → Sees (write m) m k (length l) (flat_table l) → Each (Lays r) l → table_at k (by r) (write m) ≡ laid l
row_written r {m} {k} {l} s ok = written (by r) (λ cs. cs) (rw (map-self l) s) (each_map (row_fills r) ok)

function_fills : (t : Function) → WellFunction t → Fills function_at flat t
function_fills t w = record { fills = ap function_at (sym (append-nil (map word (flat t)))) ∙ write-function t w [] }

entry_fills : (t : Entry) → WellEntry t → Fills entry_at flat_entry t
entry_fills t w = record { fills = ap entry_at (sym (append-nil (map word (flat_entry t)))) ∙ write-entry t w [] }

-- counts within the limits, from section k on
data Within (ws : List ℕ) : List ℕ → ℕ → Type 0 where
  within_none : {k : ℕ} → Within ws [] k
  within-next : {m k : ℕ} {ms : List ℕ} → count_at k ws ≤ m → Within ws ms (suc k) → Within ws (m ∷ ms) k

written-placed : (m : Module) {ms : List ℕ} {k : ℕ} → Within (write m) ms k → (at : ℕ) → k + length ms ≡ 9 → (k < 9 → offset_at k (write m) ≡ at) → Placed (write m) ms k at
written-placed m within_none at e h = placed-none
written-placed m (within-next {k} c w) at e h =
    let i : k < 9 = omega arith in
    placed-next (h i) c (omega (arith, h i, view_rising m k i)) (view_within m k i) (written-placed m w (end_at k (write m)) (omega arith) λ j. sym (view_next m k (omega arith)))

seen_few : {m : Module} {k n x : ℕ} {cs : Cells} → Sees (write m) m k n cs → n ≤ x → count_at k (write m) ≤ x
seen_few s h = rw s.count h

within : (m : Module) → WellFormed m → Within (write m) limits 0
unfolding limits
within m w =
    within-next (seen_few (sees_names m refl) w.names_ok.few)
    (within-next (seen_few (sees_types m refl) w.types-ok.few)
    (within-next (seen_few (sees_constants m refl) w.constants_ok.few)
    (within-next (seen_few (sees_overrides m refl) w.overrides_ok.few)
    (within-next (seen_few (sees_globals m refl) w.globals_ok.few)
    (within-next (seen_few (sees_exprs m refl) w.exprs_ok.few)
    (within-next (seen_few (sees_functions m refl) w.functions_ok.few)
    (within-next (seen_few (sees_entries m refl) w.entries_ok.few)
    (within-next (seen_few (sees_special m refl) w.pairs-ok.few) within_none))))))))

written-special : (m : Module) → WellFormed m → exact (special_at (count_at 8 (write m)) (section 8 (write m))) ≡ laid m.special
unfolding section exact
written-special m w =
    rw ((sees_special m refl).count, (sees_special m refl).words, ← append-nil (map word (flat_special m.special)), write-special m.special w.rays-ok w.pairs-ok.each [])

pub write-parts : (m : Module) → WellFormed m → ReadsAs (write m) m
unfolding limits
write-parts m w = record {
  placing = true_placed (written-placed m (within m w) HEADER refl λ h. view_first m);
  names_at = row_written name_row (sees_names m refl) w.names_ok.each;
  types-at = row_written type_row (sees_types m refl) w.types-ok.each;
  constants_at = row_written constant_row (sees_constants m refl) w.constants_ok.each;
  overrides_at = row_written override_row (sees_overrides m refl) w.overrides_ok.each;
  globals_at = row_written global_row (sees_globals m refl) w.globals_ok.each;
  exprs_at = row_written expression_row (sees_exprs m refl) w.exprs_ok.each;
  functions_at = written function_at flat (sees_functions m refl) (each_map function_fills w.functions_ok.each);
  entries_at = written entry_at flat_entry (sees_entries m refl) (each_map entry_fills w.entries_ok.each);
  special-at = written-special m w;
}

-- LAW: what is written is read
pub write_read : (m : Module) → WellFormed m → read (write m) ≡ laid m
write_read m w = read_whole (write m) m (write-parts m w)

-- ---- what was read, written out again, is the same words
-- the sections from number k on are in the words, of which the first starts at `at`
data Stands (ws : List ℕ) : ℕ → ℕ → List Section → Type 0 where
  stands-none : {at : ℕ} → at ≡ length ws → Stands ws 9 at []
  stands-next : {k at : ℕ} {s : Section} {ss : List Section} → offset_at k ws ≡ at → count_at k ws ≡ s.0 → section k ws ≡ map word s.1 → at ≤ end_at k ws → end_at k ws ≤ length ws → Stands ws (suc k) (end_at k ws) ss → Stands ws k at (s ∷ ss)

-- what each of them holds
data Holds (ws : List ℕ) : ℕ → List Section → Type 0 where
  holds-none : Holds ws 9 []
  holds-next : {k : ℕ} {s : Section} {ss : List Section} → count_at k ws ≡ s.0 → section k ws ≡ map word s.1 → Holds ws (suc k) ss → Holds ws k (s ∷ ss)

end-last : (ws : List ℕ) (k : ℕ) → suc k ≡ 9 → end_at k ws ≡ length ws
unfolding end_at
end-last ws k e = if_true (eqb k 8) (length ws) (offset_at (suc k) ws) (eq-eqb k 8 (omega arith))

stand : {ws : List ℕ} {ss : List Section} {k at : ℕ} {ms : List ℕ} → Holds ws k ss → Placed ws ms k at → length ms ≡ length ss → (k ≡ 9 → at ≡ length ws) → Stands ws k at ss
stand holds-none p e h = stands-none (h refl)
stand (holds-next c w hs) placed-none e h = absurd (omega arith)
stand {ws} (holds-next {k} c w hs) (placed-next a b l r p) e h = stands-next a c w l r (stand hs p (omega arith) (end-last ws k))

stands-count : {ws : List ℕ} {k at : ℕ} {ss : List Section} → Stands ws k at ss → k + length ss ≡ 9
stands-count (stands-none e) = refl
stands-count (stands-next a c w l r s) = omega (arith, stands-count s)

drop_split : {A : Type 0} (l : List A) (a b : ℕ) → a ≤ b → b ≤ length l → drop a l ≡ slice a b l ++ drop b l
drop_split l a b h k = ap (drop a) (sym (take-append-drop b l)) ∙ drop-append-le a (take b l) (drop b l) (rw (length-take-le b l k) h)

-- the sections are the words from the first one's start on
stands-bodies : {ws : List ℕ} {k at : ℕ} {ss : List Section} → Stands ws k at ss → drop at ws ≡ map word (bodies ss)
unfolding bodies section
stands-bodies {ws} (stands-none e) = ap (λ n. drop n ws) e ∙ drop-length ws
stands-bodies {ws} (stands-next {k} {at} {s} {ss} a c w l r q) =
    drop_split ws at (end_at k ws) l r ∙ ap₂ ◌++◌ (ap (λ n. slice n (end_at k ws) ws) (sym a) ∙ w) (stands-bodies q) ∙ sym (map-append word s.1 (bodies ss))

-- and the header's words from pair k on are their pairs
stands-pairs : {ws : List ℕ} {k at : ℕ} {ss : List Section} → Stands ws k at ss → 20 ≤ length ws → slice (2 + 2 * k) 20 ws ≡ map word (pairs_from at ss)
unfolding pairs_from count_at offset_at section
stands-pairs {ws} (stands-none e) h = slice_empty 20 ws
stands-pairs {ws} (stands-next {k} {at} {s} {ss} a c w l r q) h =
    let i : suc k + length ss ≡ 9 = stands-count q in
    let n : at + length s.1 ≡ end_at k ws = omega (arith, sym (length-map s.1 word) ∙ sym (ap length w) ∙ length-slice (offset_at k ws) (end_at k ws) ws r, a) in
    let x : suc (2 + 2 * k) ≡ 3 + 2 * k = omega arith in
    let y : suc (3 + 2 * k) ≡ 2 + 2 * suc k = omega arith in
    slice-cons (2 + 2 * k) 20 ws 0 (omega arith) h
    ∙ ap₂ ◌∷◌ c (ap (λ j. slice j 20 ws) x ∙ slice-cons (3 + 2 * k) 20 ws 0 (omega arith) h ∙ ap₂ ◌∷◌ a (ap (λ j. slice j 20 ws) y ∙ stands-pairs q h ∙ ap (λ j. map word (pairs_from j ss)) (sym n)))

row-holds : (r : Row) (k : ℕ) (ws : List ℕ) (l : List Cells) → table_at k (by r) ws ≡ laid l → section k ws ≡ map word (flat_table l)
row-holds r k ws l e = (at_took (by_took r) k ws e).words ∙ ap (λ x. map word (flat_table x)) (map-self l)

holds : (ws : List ℕ) (m : Module) → ReadsAs ws m → Holds ws 0 (sections m)
unfolding sections
holds ws m r =
    let s = special_is ws m.special r.special-at in
    holds-next (sym (at_took (by_took name_row) 0 ws r.names_at).many) (row-holds name_row 0 ws m.names r.names_at)
    (holds-next (sym (at_took (by_took type_row) 1 ws r.types-at).many) (row-holds type_row 1 ws m.types r.types-at)
    (holds-next (sym (at_took (by_took constant_row) 2 ws r.constants_at).many) (row-holds constant_row 2 ws m.constants r.constants_at)
    (holds-next (sym (at_took (by_took override_row) 3 ws r.overrides_at).many) (row-holds override_row 3 ws m.overrides r.overrides_at)
    (holds-next (sym (at_took (by_took global_row) 4 ws r.globals_at).many) (row-holds global_row 4 ws m.globals r.globals_at)
    (holds-next (sym (at_took (by_took expression_row) 5 ws r.exprs_at).many) (row-holds expression_row 5 ws m.exprs r.exprs_at)
    (holds-next (sym (at_took function_took 6 ws r.functions_at).many) (at_took function_took 6 ws r.functions_at).words
    (holds-next (sym (at_took entry_took 7 ws r.entries_at).many) (at_took entry_took 7 ws r.entries_at).words
    (holds-next (sym s.fine.pairs-ok.many) (s.words ∙ append-nil (map word (flat_special m.special))) holds-none))))))))

-- two words in front, and then the pairs
two_words : (ws : List ℕ) → 20 ≤ length ws → take 20 ws ≡ get_or ws 0 0 ∷ get_or ws 1 0 ∷ slice 2 20 ws
two_words ws h = slice-cons 0 20 ws 0 (omega arith) h ∙ ap (get_or ws 0 0 ∷◌) (slice-cons 1 20 ws 0 (omega arith) h)

stands_long : {ws : List ℕ} {k at : ℕ} {ss : List Section} → Stands ws k at ss → at ≤ length ws
stands_long (stands-none e) = omega arith
stands_long (stands-next a c w l r s) = omega arith

stands : (ws : List ℕ) (m : Module) → read ws ≡ laid m → Stands ws 0 HEADER (sections m)
unfolding limits sections
stands ws m e = let r = read-parts ws m e in stand (holds ws m r) (placed_true limits 0 HEADER ws r.placing) refl (λ (q : ◌≡◌ {A = ℕ} 0 9). absurd (omega arith))

-- LAW: what was read, written out again, is the same words
pub read-write : (ws : List ℕ) (m : Module) → read ws ≡ laid m → get_or ws 0 0 ≡ 1 → get_or ws 1 0 ≡ length ws → ws ≡ write m
unfolding write flat_module
read-write ws m e edition total =
    let s = stands ws m e in
    let h : 20 ≤ length ws = stands_long s in
    let b : drop 20 ws ≡ map word (bodies (sections m)) = stands-bodies s in
    let n : length ws - 20 ≡ length (bodies (sections m)) = sym (length-drop 20 ws) ∙ ap length b ∙ length-map (bodies (sections m)) word in
    let t : get_or ws 1 0 ≡ HEADER + length (bodies (sections m)) = omega arith in
    let header : take 20 ws ≡ 1 ∷ (HEADER + length (bodies (sections m))) ∷ map word (pairs_from HEADER (sections m)) = two_words ws h ∙ ap₂ ◌∷◌ edition (ap₂ ◌∷◌ t (stands-pairs s h)) in
    sym (take-append-drop 20 ws) ∙ ap₂ ◌++◌ header b ∙ ap (λ l. 1 ∷ (HEADER + length (bodies (sections m))) ∷ l) (sym (map-append word (pairs_from HEADER (sections m)) (bodies (sections m))))

-- words that passed the tests of size: refusal 1
pub sized_read_write : (bytes : ℕ) (ws : List ℕ) (m : Module) → sized bytes ws ≡ true → bytes ≡ 4 * length ws → read ws ≡ laid m → ws ≡ write m
unfolding sized
sized_read_write bytes ws m e n r =
    let a = and_split (leb 80 bytes) (leb bytes 65536 && (eqb (get_or ws 0 0) 1 && eqb bytes (4 * get_or ws 1 0))) e in
    let b = and_split (leb bytes 65536) (eqb (get_or ws 0 0) 1 && eqb bytes (4 * get_or ws 1 0)) a.1 in
    let c = and_split (eqb (get_or ws 0 0) 1) (eqb bytes (4 * get_or ws 1 0)) b.1 in
    read-write ws m r (eqb-true (get_or ws 0 0) 1 c.0) (omega (arith, eqb-true bytes (4 * get_or ws 1 0) c.1))

-- ---- rewriting words by class
module _ (f : ℕ → ℕ → ℕ) (keeps : Keeps f) where
  -- LAW: rewriting the words of an image by class, and then reading, is reading and then carrying
  pub rewrite_read : (ws : List ℕ) (m : Module) → read ws ≡ laid m → read (map word (carry_cells f (flat_module m))) ≡ laid (carry f m)
  unfolding write
  rewrite_read ws m e = rw (← flat-carry f keeps m) (write_read (carry f m) (carry_well f keeps m (read_well ws m e)))

  -- the same of the words and the tags, which give the class of each
  pub rewrite_read_tape : (ws tape : List ℕ) (m : Module) → read ws ≡ laid m → ws ≡ write m → tape ≡ map class (flat_module m) → read (zip_with f tape ws) ≡ laid (carry f m)
  unfolding write
  rewrite_read_tape ws tape m e same t = ap read (ap₂ (zip_with f) t same ∙ sym (carried_words f (flat_module m))) ∙ rewrite_read ws m e

  -- the rewritten words are the carried module's image, and the tags stay
  pub rewrite_write : (m : Module) → zip_with f (map class (flat_module m)) (write m) ≡ write (carry f m)
  unfolding write
  rewrite_write m = sym (ap (map word) (flat-carry f keeps m) ∙ carried_words f (flat_module m))

  pub rewrite_tape : (m : Module) → map class (flat_module (carry f m)) ≡ map class (flat_module m)
  rewrite_tape m = ap (map class) (flat-carry f keeps m) ∙ carried-classes f (flat_module m)

  pub rewrite_length : (m : Module) → length (write (carry f m)) ≡ length (write m)
  rewrite_length m = length-write (carry f m) ∙ ap length (flat-carry f keeps m) ∙ length-map (flat_module m) (carry_cell f) ∙ sym (length-write m)

  -- a word of the header, or of any other class that is kept
  pub rewrite_kept : (m : Module) (i : ℕ) → i < length (write m) → PLACE ≤ get_or (map class (flat_module m)) i 0 → get_or (write (carry f m)) i 0 ≡ get_or (write m) i 0
  unfolding write
  rewrite_kept m i h k = ap (λ l. get_or (map word l) i 0) (flat-carry f keeps m) ∙ kept_word f keeps (flat_module m) i (omega (arith, length-map (flat_module m) word)) k

  pub rewrite_header : (m : Module) (i : ℕ) → i < HEADER → get_or (write (carry f m)) i 0 ≡ get_or (write m) i 0
  rewrite_header m i h = rewrite_kept m i (omega (arith, length-write m, length_cells m)) (omega (arith, view_header m i h))

  -- of single readers
  pub rewrite_read_run : (ws : List ℕ) (r : Row) (cs : Cells) (rest : List ℕ) → run ws r ≡ fits cs rest → run (map word (carry_cells f cs) ++ rest) r ≡ fits (carry_cells f cs) rest
  rewrite_read_run ws r cs rest e = write-run (lays_carry f keeps (read_well_run ws r cs rest e)) rest

  pub rewrite_read_block : (d : ℕ) (ws : List ℕ) (b : Block Range) (rest : List ℕ) → block_at d ws ≡ fits b rest → block_at d (map word (carry_cells f (flat_block b)) ++ rest) ≡ fits (carry_b f b) rest
  rewrite_read_block d ws b rest e = rw (← flat_block_lem f keeps b) (write-b (ok-b f keeps (read_well_block d ws b rest e)) rest)

  pub rewrite_read_function : (ws : List ℕ) (t : Function) (rest : List ℕ) → function_at ws ≡ fits t rest → function_at (map word (carry_cells f (flat t)) ++ rest) ≡ fits (carry_function f t) rest
  rewrite_read_function ws t rest e = rw (← flat_carry_function f keeps t) (write-function (carry_function f t) (carry_well_function f keeps t (read_well_function ws t rest e)) rest)

  pub rewrite_read_entry : (ws : List ℕ) (t : Entry) (rest : List ℕ) → entry_at ws ≡ fits t rest → entry_at (map word (carry_cells f (flat_entry t)) ++ rest) ≡ fits (carry_entry f t) rest
  rewrite_read_entry ws t rest e = rw (← flat_carry_entry f keeps t) (write-entry (carry_entry f t) (carry_well_entry f keeps t (read_well_entry ws t rest e)) rest)
