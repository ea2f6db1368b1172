-- The sections as the code lays them out are the model's `read`: the same status, and where all is laid the classes of the module's cells.
use mathlib.Core.Path.{◌≡◌, refl, sym, ap, ◌∙◌}
use mathlib.Core.Bool.{Bool, true, false, ◌&&◌}
use mathlib.Core.List.{List, [], ◌∷◌, ◌++◌, map, append-nil}
use Prim.Native.Nat.{ℕ, suc, ◌+◌, ◌-◌}
use native.Mathlib.Omega.{arith}
use lib.Dec.{eqb, leb}
use lib.ListN.{length, take, drop, replicate, length-map}
use Rattle.theory_lists.specs.Lists.{map-append}
use Rattle.model.specs.Outcome.{Cells, class, Outcome, fits, misfit, unknown, map_o, Laid, laid, bad, strange, exact, both, map_l}
use Rattle.model.specs.Table.{Row, BLOCK, PLACE, name_row, type_row, constant_row, override_row, global_row, expression_row, function_head, entry_head, run}
use Rattle.model.specs.Tree.{Function, Entry, flat, flat_entry, flat_all, rows, function_at, entry_at, DEPTH}
use Rattle.model.specs.Module.{Special, Module, next, records, table, rays_row, pair_row, special_at, count_at, limits, placed, HEADER, section, table_at, by, ◌⊛◌, module_of, read, places, flat_table, flat_special, Section, sections, pairs_from, bodies, flat_module}
use Rattle.theory_image.specs.Readers.{Takes, run_took, function_took, entry_took}
use Rattle.theory_image.specs.Tables.{laid_of, table_took}
use Rattle.theory_image.specs.Modules.{ReadsAs, read-parts}
use Rattle.intake_fields.specs.Parts.{Reader, join, times, pieces, function_row, entry_row, table_rows}
use Rattle.intake_layout.specs.Extents.{Classes, classes, table_classes, tabled, special_of, special, sections_from}
use Rattle.intake_fields.proofs.Flat.{map-map, bare, step_cells, bind_fits, times-same, join-same, rows-counted, counted_r, with, below?, run-pieces, parts-pieces, function-flat, entry-flat}
use Rattle.intake_layout.proofs.Sections.{laid_as}

-- ---- the status of what is laid
pub data Status : Type 0 where
  ok off ill : Status

unfoldable pub status : {A : Type 0} → Laid A → Status
status (laid a) = ok
status bad = ill
status strange = off

unfoldable pub worse : Status → Status → Status
worse ok t = t
worse ill t = ill
worse off ok = off
worse off ill = ill
worse off off = off

status_both : {A B C : Type 0} (f : A → B → C) (x : Laid A) (y : Laid B) → status (both f x y) ≡ worse (status x) (status y)
unfolding status both worse
status_both f (laid a) (laid b) = refl
status_both f (laid a) bad = refl
status_both f (laid a) strange = refl
status_both f bad (laid b) = refl
status_both f bad bad = refl
status_both f bad strange = refl
status_both f strange (laid b) = refl
status_both f strange bad = refl
status_both f strange strange = refl

status_map : {A B : Type 0} (f : A → B) (x : Laid A) → status (map_l f x) ≡ status x
unfolding status map_l
status_map f (laid a) = refl
status_map f bad = refl
status_map f strange = refl

worse_assoc : (a b c : Status) → worse (worse a b) c ≡ worse a (worse b c)
unfolding worse
worse_assoc ok b c = refl
worse_assoc ill b c = refl
worse_assoc off ok c = refl
worse_assoc off ill c = refl
worse_assoc off off ok = refl
worse_assoc off off ill = refl
worse_assoc off off off = refl

laid_same : {A : Type 0} (x y : Laid A) → status x ≡ status y → ((a : A) → x ≡ laid a → y ≡ laid a) → x ≡ y
unfolding status
laid_same (laid a) y e f = sym (f a refl)
laid_same bad (laid b) e f = cc
laid_same bad bad e f = refl
laid_same bad strange e f = cc
laid_same strange (laid b) e f = cc
laid_same strange bad e f = cc
laid_same strange strange e f = refl

-- ---- a table read as trees, and flat
exact-map : {A B : Type 0} (f : A → B) (o : Outcome A) → map_l f (exact o) ≡ exact (map_o f o)
unfolding map_l exact map_o
exact-map f (fits a []) = refl
exact-map f (fits a (w ∷ ws)) = refl
exact-map f misfit = refl
exact-map f unknown = refl

both-map : {A B : Type 0} (f : A → B) (x : Laid A) (y : Laid (List A)) → map_l (map f) (both ◌∷◌ x y) ≡ both ◌∷◌ (map_l f x) (map_l (map f) y)
unfolding map_l both
both-map f (laid a) (laid b) = refl
both-map f (laid a) bad = refl
both-map f (laid a) strange = refl
both-map f bad (laid b) = refl
both-map f bad bad = refl
both-map f bad strange = refl
both-map f strange (laid b) = refl
both-map f strange bad = refl
both-map f strange strange = refl

module _ {A : Type 0} (p : List ℕ → Outcome A) (f : A → Cells) (q : Reader) (same : (ws : List ℕ) → map_o f (p ws) ≡ q ws) where
  records-flat : (os : List ℕ) (stop at : ℕ) (ws : List ℕ) → map_l (map f) (records p stop at os ws) ≡ records q stop at os ws
  unfolding records map_l
  records-flat [] stop at ws = go (eqb at stop)
    where
      go : (b : Bool) → map_l (map f) (elim b [ true ↦ laid [] | false ↦ bad ]) ≡ elim b [ true ↦ laid [] | false ↦ bad ]
      go true = refl
      go false = refl
  records-flat (o ∷ os) stop at ws = go (eqb o at && (leb at (next os stop) && leb (next os stop) stop)) (records-flat os stop (next os stop) (drop (next os stop - at) ws))
    where
      go : (b : Bool) → map_l (map f) (records p stop (next os stop) os (drop (next os stop - at) ws)) ≡ records q stop (next os stop) os (drop (next os stop - at) ws)
          → map_l (map f) (elim b [ true ↦ both ◌∷◌ (exact (p (take (next os stop - at) ws))) (records p stop (next os stop) os (drop (next os stop - at) ws)) | false ↦ bad ])
          ≡ elim b [ true ↦ both ◌∷◌ (exact (q (take (next os stop - at) ws))) (records q stop (next os stop) os (drop (next os stop - at) ws)) | false ↦ bad ]
      go true ih =
          both-map f (exact (p (take (next os stop - at) ws))) (records p stop (next os stop) os (drop (next os stop - at) ws))
          ∙ ap (λ y. both ◌∷◌ (map_l f (exact (p (take (next os stop - at) ws)))) y) ih
          ∙ ap (λ x. both ◌∷◌ x (records q stop (next os stop) os (drop (next os stop - at) ws))) (exact-map f (p (take (next os stop - at) ws)) ∙ ap exact (same (take (next os stop - at) ws)))
      go false ih = refl

  pub table-flat : (n : ℕ) (ws : List ℕ) → map_l (map f) (table p n ws) ≡ table q n ws
  unfolding table map_l
  table-flat n ws = go (leb n (length ws))
    where
      go : (b : Bool) → map_l (map f) (elim b [ true ↦ records p (length ws) n (take n ws) (drop n ws) | false ↦ bad ]) ≡ elim b [ true ↦ records q (length ws) n (take n ws) (drop n ws) | false ↦ bad ]
      go true = records-flat (take n ws) (length ws) n (drop n ws)
      go false = refl

-- ---- classes
place-classes : (rs : List Cells) (at : ℕ) → classes (places at rs) ≡ replicate (length rs) PLACE
unfolding places
place-classes [] at = refl
place-classes (r ∷ rs) at = ap (PLACE ∷◌) (place-classes rs (at + length r))

table-classes : (rs : List Cells) → classes (flat_table rs) ≡ table_classes (length rs) rs
unfolding flat_table
table-classes rs = map-append class (places (length rs) rs) (flat_all rs) ∙ ap (◌++ classes (flat_all rs)) (place-classes rs (length rs))

-- ---- one section: trees of A, flat by f, in a table by the row r
module _ {A : Type 0} {good : A → Type 0} (p : List ℕ → Outcome A) (f : A → Cells) (r : Row) (takes : Takes good f p) (same : (ws : List ℕ) → map_o f (p ws) ≡ pieces DEPTH r ws) (n : ℕ) (ws : List ℕ) where
  section_status : status (tabled r n ws) ≡ status (table p n ws)
  unfolding tabled
  section_status = status_map (table_classes n) (table (pieces DEPTH r) n ws) ∙ sym (ap status (table-flat p f (pieces DEPTH r) same n ws)) ∙ status_map (map f) (table p n ws)

  section-laid : (l : List A) → table p n ws ≡ laid l → tabled r n ws ≡ laid (classes (flat_table (map f l)))
  unfolding tabled map_l
  section-laid l e =
      let t = laid_of (table_took takes n ws) e in
      let m : n ≡ length (map f l) = sym (length-map l f ∙ t.many) in
      ap (map_l (table_classes n)) (sym (table-flat p f (pieces DEPTH r) same n ws) ∙ ap (map_l (map f)) e)
      ∙ ap (λ k. laid (table_classes k (map f l))) m
      ∙ ap laid (sym (table-classes (map f l)))

-- ---- the nine sections
map_id : (o : Outcome Cells) → map_o (λ c. c) o ≡ o
unfolding map_o
map_id (fits a ws) = refl
map_id misfit = refl
map_id unknown = refl

map-none : (l : List Cells) → map (λ (c : Cells). c) l ≡ l
map-none [] = refl
map-none (c ∷ l) = ap (c ∷◌) (map-none l)

cells_same : (r : Row) → below? BLOCK r ≡ true → (ws : List ℕ) → map_o (λ c. c) (by r ws) ≡ pieces DEPTH r ws
cells_same r h ws = map_id (run ws r) ∙ run-pieces DEPTH r ws h

function_row_low : below? 124 function_row ≡ true
unfolding function_row function_head below?
function_row_low = refl

entry_row_low : below? 124 entry_row ≡ true
unfolding entry_row entry_head function_row function_head below?
entry_row_low = refl

function-same : (ws : List ℕ) → map_o flat (function_at ws) ≡ pieces DEPTH function_row ws
function-same ws = function-flat ws ∙ parts-pieces DEPTH function_row ws function_row_low

entry-same : (ws : List ℕ) → map_o flat_entry (entry_at ws) ≡ pieces DEPTH entry_row ws
entry-same ws = entry-flat ws ∙ parts-pieces DEPTH entry_row ws entry_row_low

rows-flat : (n : ℕ) (r : Row) (ws : List ℕ) → map_o flat_all (rows n r ws) ≡ times n (λ ws. run ws r) ws
rows-flat n r ws = sym (map-map (λ (x : ℕ × Cells). x.1) counted_r (rows n r ws)) ∙ ap (map_o (λ (x : ℕ × Cells). x.1)) (rows-counted n r ws) ∙ map-map (λ (x : ℕ × Cells). x.1) (with n) (times n (λ ws. run ws r) ws) ∙ map_id (times n (λ ws. run ws r) ws)

special-same : (n : ℕ) (ws : List ℕ) → map_o flat_special (special_at n ws) ≡ special_of n ws
unfolding special_at special_of flat_special below?
special-same n ws =
    bare {flat = flat_special} (step_cells (run ws rays_row) λ a ws. record { same = bind_fits flat_special (λ ps. record { rays = a; pairs = ps }) (rows n pair_row ws) ∙ sym (map-map (a ++◌) flat_all (rows n pair_row ws)) ∙ ap (map_o (a ++◌)) (rows-flat n pair_row ws) })
    ∙ ap (λ o. join o (times n (λ ws. run ws pair_row))) (run-pieces DEPTH rays_row ws refl)
    ∙ join-same (pieces DEPTH rays_row ws) _ _ (times-same n _ _ (λ ws. run-pieces DEPTH pair_row ws refl))

low : (r : Row) → Type 0
low r = below? BLOCK r ≡ true

names_low : low name_row
unfolding low below? name_row
names_low = refl

types_low : low type_row
unfolding low below? type_row
types_low = refl

constants_low : low constant_row
unfolding low below? constant_row
constants_low = refl

overrides_low : low override_row
unfolding low below? override_row
overrides_low = refl

globals_low : low global_row
unfolding low below? global_row
globals_low = refl

exprs_low : low expression_row
unfolding low below? expression_row
exprs_low = refl

twice_is : (x : Laid Special) → map_l classes (map_l flat_special x) ≡ map_l (λ s. classes (flat_special s)) x
unfolding map_l
twice_is (laid a) = refl
twice_is bad = refl
twice_is strange = refl

module _ (ws : List ℕ) where
  cells_status : (k : ℕ) (r : Row) → low r → status (tabled r (count_at k ws) (section k ws)) ≡ status (table_at k (by r) ws)
  unfolding table_at low
  cells_status k r h = section_status (by r) (λ c. c) r (λ ws. run_took ws r) (cells_same r h) (count_at k ws) (section k ws)

  cells_laid : (k : ℕ) (r : Row) → low r → (l : List Cells) → table_at k (by r) ws ≡ laid l → tabled r (count_at k ws) (section k ws) ≡ laid (classes (flat_table l))
  unfolding table_at low
  cells_laid k r h l e = section-laid (by r) (λ c. c) r (λ ws. run_took ws r) (cells_same r h) (count_at k ws) (section k ws) l e ∙ ap (λ q. laid (classes (flat_table q))) (map-none l)

  functions_status : status (tabled function_row (count_at 6 ws) (section 6 ws)) ≡ status (table_at 6 function_at ws)
  unfolding table_at
  functions_status = section_status function_at flat function_row function_took function-same (count_at 6 ws) (section 6 ws)

  functions_laid : (l : List Function) → table_at 6 function_at ws ≡ laid l → tabled function_row (count_at 6 ws) (section 6 ws) ≡ laid (classes (flat_table (map flat l)))
  unfolding table_at
  functions_laid l e = section-laid function_at flat function_row function_took function-same (count_at 6 ws) (section 6 ws) l e

  entries_status : status (tabled entry_row (count_at 7 ws) (section 7 ws)) ≡ status (table_at 7 entry_at ws)
  unfolding table_at
  entries_status = section_status entry_at flat_entry entry_row entry_took entry-same (count_at 7 ws) (section 7 ws)

  entries_laid : (l : List Entry) → table_at 7 entry_at ws ≡ laid l → tabled entry_row (count_at 7 ws) (section 7 ws) ≡ laid (classes (flat_table (map flat_entry l)))
  unfolding table_at
  entries_laid l e = section-laid entry_at flat_entry entry_row entry_took entry-same (count_at 7 ws) (section 7 ws) l e

  special_is : special (count_at 8 ws) (section 8 ws) ≡ map_l (λ s. classes (flat_special s)) (exact (special_at (count_at 8 ws) (section 8 ws)))
  unfolding special
  special_is = ap (λ o. map_l classes (exact o)) (sym (special-same (count_at 8 ws) (section 8 ws))) ∙ ap (map_l classes) (sym (exact-map flat_special (special_at (count_at 8 ws) (section 8 ws)))) ∙ twice (exact (special_at (count_at 8 ws) (section 8 ws)))
    where
      twice : (x : Laid Special) → map_l classes (map_l flat_special x) ≡ map_l (λ s. classes (flat_special s)) x
      twice x = twice_is x

  special_status : status (special (count_at 8 ws) (section 8 ws)) ≡ status (exact (special_at (count_at 8 ws) (section 8 ws)))
  special_status = ap status special_is ∙ status_map (λ s. classes (flat_special s)) (exact (special_at (count_at 8 ws) (section 8 ws)))

  -- all sections, as the model joins them
  chain : Laid Module
  chain =
      map_l module_of (table_at 0 (by name_row) ws)
      ⊛ table_at 1 (by type_row) ws
      ⊛ table_at 2 (by constant_row) ws
      ⊛ table_at 3 (by override_row) ws
      ⊛ table_at 4 (by global_row) ws
      ⊛ table_at 5 (by expression_row) ws
      ⊛ table_at 6 function_at ws
      ⊛ table_at 7 entry_at ws
      ⊛ exact (special_at (count_at 8 ws) (section 8 ws))

  star_status : {A B : Type 0} (f : Laid (A → B)) (x : Laid A) → status (f ⊛ x) ≡ worse (status f) (status x)
  unfolding ◌⊛◌
  star_status f x = status_both (λ g y. g y) f x

  abbrev s : ℕ → Row → Status
  s k r = status (table_at k (by r) ws)

  chain_status : status chain ≡ worse (worse (worse (worse (worse (worse (worse (worse (s 0 name_row) (s 1 type_row)) (s 2 constant_row)) (s 3 override_row)) (s 4 global_row)) (s 5 expression_row)) (status (table_at 6 function_at ws))) (status (table_at 7 entry_at ws))) (status (exact (special_at (count_at 8 ws) (section 8 ws))))
  unfolding chain
  chain_status = simp (star_status, status_map)

  sections_status : status (sections_from table_rows 0 ws) ≡ worse (s 0 name_row) (worse (s 1 type_row) (worse (s 2 constant_row) (worse (s 3 override_row) (worse (s 4 global_row) (worse (s 5 expression_row) (worse (status (table_at 6 function_at ws)) (worse (status (table_at 7 entry_at ws)) (status (exact (special_at (count_at 8 ws) (section 8 ws)))))))))))
  unfolding sections_from table_rows
  sections_status = simp (status_both) (rw (cells_status 0 name_row names_low, cells_status 1 type_row types_low, cells_status 2 constant_row constants_low, cells_status 3 override_row overrides_low, cells_status 4 global_row globals_low, cells_status 5 expression_row exprs_low, functions_status, entries_status, special_status))

  same_status : status chain ≡ status (sections_from table_rows 0 ws)
  same_status = rw chain_status (simp worse_assoc (sym sections_status))

  -- where all is laid, the classes are the module's
  bodies-classes : (m : Module) → classes (bodies (sections m)) ≡ classes (flat_table m.names) ++ (classes (flat_table m.types) ++ (classes (flat_table m.constants) ++ (classes (flat_table m.overrides) ++ (classes (flat_table m.globals) ++ (classes (flat_table m.exprs) ++ (classes (flat_table (map flat m.functions)) ++ (classes (flat_table (map flat_entry m.entries)) ++ classes (flat_special m.special))))))))
  unfolding sections bodies
  bodies-classes m = simp (map-append class, append-nil)

  sections-laid : (m : Module) → ReadsAs ws m → sections_from table_rows 0 ws ≡ laid (classes (bodies (sections m)))
  unfolding sections_from table_rows both map_l
  sections-laid m r =
      rw (cells_laid 0 name_row names_low m.names r.names_at, cells_laid 1 type_row types_low m.types r.types-at, cells_laid 2 constant_row constants_low m.constants r.constants_at, cells_laid 3 override_row overrides_low m.overrides r.overrides_at, cells_laid 4 global_row globals_low m.globals r.globals_at, cells_laid 5 expression_row exprs_low m.exprs r.exprs_at, functions_laid m.functions r.functions_at, entries_laid m.entries r.entries_at, special_is, r.special-at)
      (ap laid (sym (bodies-classes m)))

  -- the module's classes, without the header's
  abbrev pub body_classes : Module → Classes
  body_classes m = classes (bodies (sections m))

  chain_laid : placed limits 0 HEADER ws ≡ true → read ws ≡ chain
  unfolding read chain
  chain_laid h = rw (read, h)

  pub read-sections : placed limits 0 HEADER ws ≡ true → map_l body_classes (read ws) ≡ sections_from table_rows 0 ws
  read-sections h = laid_same (map_l body_classes (read ws)) (sections_from table_rows 0 ws) (status_map body_classes (read ws) ∙ ap status (chain_laid h) ∙ same_status) go
    where
      go : (a : Classes) → map_l body_classes (read ws) ≡ laid a → sections_from table_rows 0 ws ≡ laid a
      go a q = let l = laid_as body_classes (read ws) a q in sections-laid l.value (read-parts ws l.value l.laid-at) ∙ ap laid (sym l.is)

  pub read_misplaced : placed limits 0 HEADER ws ≡ false → read ws ≡ bad
  unfolding read
  read_misplaced h = rw (read, h)

-- ---- the header's classes
pairs-classes : (ss : List Section) (at : ℕ) → classes (pairs_from at ss) ≡ replicate (length ss + length ss) PLACE
unfolding pairs_from
pairs-classes [] at = refl
pairs-classes (s ∷ ss) at =
    let e : suc (length ss) + suc (length ss) ≡ suc (suc (length ss + length ss)) = omega arith in
    ap (λ l. PLACE ∷ PLACE ∷ l) (pairs-classes ss (at + length s.1)) ∙ ap (λ k. replicate k PLACE) (sym e)

eighteen_is : (m : Module) → replicate (length (sections m) + length (sections m)) PLACE ≡ replicate 18 PLACE
unfolding sections
eighteen_is m = refl

pub module_classes : (m : Module) → classes (flat_module m) ≡ replicate 20 PLACE ++ classes (bodies (sections m))
unfolding flat_module
module_classes m = ap (λ l. PLACE ∷ PLACE ∷ l) (map-append class (pairs_from HEADER (sections m)) (bodies (sections m)) ∙ ap (◌++ classes (bodies (sections m))) (pairs-classes (sections m) HEADER ∙ eighteen m))
  where
    eighteen : (m : Module) → replicate (length (sections m) + length (sections m)) PLACE ≡ replicate 18 PLACE
    eighteen m = eighteen_is m
