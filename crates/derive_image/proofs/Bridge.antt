-- The words from cells are those of the finished module.
use mathlib.Core.Path.{◌≡◌, refl, sym, ap, ap₂, ◌∙◌}
use mathlib.Core.List.{List, [], ◌∷◌, ◌++◌, map, append-nil}
use Prim.Native.Nat.{ℕ, zero, suc, ◌+◌}
use native.Mathlib.Omega.{arith}
use lib.Dec.{eqb}
use lib.ListN.{length, get_or, drop, length-map, length-append}
use Rattle.theory_lists.specs.Lists.{map-append}
use Rattle.model.specs.Outcome.{Cells, class, word}
use Rattle.model.specs.Table.{NAME, name_row}
use Rattle.model.specs.Tree.{Function, Entry, flat, flat_entry, flat_all}
use Rattle.model.specs.Module.{Module, Section, HEADER, pair_row, places, flat_table, flat_special, sections, pairs_from, bodies, flat_module, write}
use Rattle.model.specs.Carry.{carry_cell, carry_cells, carry_function, carry_entry, carry_special, carry, Lays, Each, each_none, each_next}
use Rattle.model.specs.Imports.{Derived}
use Rattle.model.specs.Finish.{names_in, firsts, appearing, renumber, with_names, named_by, gathered, finished}
use Rattle.theory_image.specs.Quiet.{each_append}
use Rattle.theory_image.specs.Carries.{flat_carry_function, flat_carry_entry, flat_carry_special}
use Rattle.theory_finish.specs.Firsts.{either}
use Rattle.theory_finish.specs.Classes.{Not, nameless, calm?, calms?}
use Rattle.theory_finish.specs.Touching.{only_keeps, same_cells}
use Rattle.theory_finish.specs.Finished.{renumber-only}
use Rattle.theory_finish.specs.Kept.{Parts}
use Rattle.derive_sections.specs.Flat.{firsts_t, table_size, offsets, joined, table_words, sizes, heads, tables, total, image_words, chosen, new_name, finished_words, cells_of}
use Rattle.derive_sections.proofs.Tables.{length-table}
use Rattle.derive_image.proofs.Whole.{names_r, names_t, firsts_tabs, length-tables}

assoc : {A : Type 0} (xs ys zs : List A) → (xs ++ ys) ++ zs ≡ xs ++ (ys ++ zs)
assoc [] ys zs = refl
assoc (x ∷ xs) ys zs = ap (x ∷◌) (assoc xs ys zs)

-- ---- words of a table
places_words : (rs : List Cells) (at : ℕ) → map word (places at rs) ≡ offsets rs at
unfolding places offsets
places_words [] at = refl
places_words (r ∷ rs) at = ap (at ∷◌) (places_words rs (at + length r))

all_words : (rs : List Cells) → map word (flat_all rs) ≡ joined word rs
unfolding flat_all joined
all_words [] = refl
all_words (r ∷ rs) = map-append word r (flat_all rs) ∙ ap (map word r ++◌) (all_words rs)

table_words_lem : (rs : List Cells) → map word (flat_table rs) ≡ table_words word rs
unfolding flat_table table_words
table_words_lem rs = map-append word (places (length rs) rs) (flat_all rs) ∙ ap₂ ◌++◌ (places_words rs (length rs)) (all_words rs)

table-length : (rs : List Cells) → length (flat_table rs) ≡ table_size rs
table-length rs = sym (length-map (flat_table rs) word) ∙ ap length (table_words_lem rs) ∙ length-table word rs

-- ---- words of a module
unfoldable pub sections_of : List (List Cells) → ℕ → Cells → List Section
sections_of [] pairs sp = (pairs, sp) ∷ []
sections_of (rs ∷ rss) pairs sp = (length rs, flat_table rs) ∷ sections_of rss pairs sp

pub sections_are : (m : Module) → sections m ≡ sections_of (cells_of m) (length m.special.pairs) (flat_special m.special)
unfolding sections sections_of cells_of
sections_are m = rw (length-map m.functions flat, length-map m.entries flat_entry)

pairs_words : (rss : List (List Cells)) (at pairs : ℕ) (sp : Cells) → map word (pairs_from at (sections_of rss pairs sp)) ≡ heads rss at pairs
unfolding pairs_from sections_of heads
pairs_words [] at pairs sp = refl
pairs_words (rs ∷ rss) at pairs sp = ap (λ (l : List ℕ). length rs ∷ at ∷ l) (ap (λ (k : ℕ). map word (pairs_from (at + k) (sections_of rss pairs sp))) (table-length rs) ∙ pairs_words rss (at + table_size rs) pairs sp)

bodies_words : (rss : List (List Cells)) (pairs : ℕ) (sp : Cells) → map word (bodies (sections_of rss pairs sp)) ≡ tables word rss ++ map word sp
unfolding bodies sections_of tables
bodies_words [] pairs sp = ap (map word) (append-nil sp)
bodies_words (rs ∷ rss) pairs sp = map-append word (flat_table rs) (bodies (sections_of rss pairs sp)) ∙ ap₂ ◌++◌ (table_words_lem rs) (bodies_words rss pairs sp) ∙ sym (assoc (table_words word rs) (tables word rss) (map word sp))

pub write_cells : (m : Module) → write m ≡ image_words word (cells_of m) (length m.special.pairs) (map word (flat_special m.special))
unfolding write flat_module image_words total
write_cells m =
    let rss : List (List Cells) = cells_of m in
    let n : ℕ = length m.special.pairs in
    let sp : Cells = flat_special m.special in
    let b = bodies_words rss n sp in
    let l : HEADER + length (bodies (sections_of rss n sp)) ≡ 20 + sizes rss + length (map word sp) =
    (let x = sym (length-map (bodies (sections_of rss n sp)) word) ∙ ap length b ∙ length-append (tables word rss) (map word sp) in let y = length-tables word rss in omega arith) in
    rw (sections_are m) (ap₂ (λ (k : ℕ) (t : List ℕ). 1 ∷ k ∷ t) l (map-append word (pairs_from HEADER (sections_of rss n sp)) (bodies (sections_of rss n sp)) ∙ ap₂ ◌++◌ (pairs_words rss HEADER n sp) b))

-- ---- carried
module _ (ns : List ℕ) where
  abbrev f : ℕ → ℕ → ℕ
  f = renumber ns

  carried_cells : (cs : Cells) → map word (carry_cells f cs) ≡ map (new_name ns) cs
  unfolding new_name carry_cell
  carried_cells [] = refl
  carried_cells (c ∷ cs) = ap (renumber ns (class c) (word c) ∷◌) (carried_cells cs)

  carried-joined : (rs : List Cells) → joined word (map (carry_cells f) rs) ≡ joined (new_name ns) rs
  unfolding joined
  carried-joined [] = refl
  carried-joined (r ∷ rs) = ap₂ ◌++◌ (carried_cells r) (carried-joined rs)

  carried-offsets : (rs : List Cells) (at : ℕ) → offsets (map (carry_cells f) rs) at ≡ offsets rs at
  unfolding offsets
  carried-offsets [] at = refl
  carried-offsets (r ∷ rs) at = ap (at ∷◌) (ap (λ (k : ℕ). offsets (map (carry_cells f) rs) (at + k)) (length-map r (carry_cell f)) ∙ carried-offsets rs (at + length r))

  carried-table : (rs : List Cells) → table_words word (map (carry_cells f) rs) ≡ table_words (new_name ns) rs
  unfolding table_words
  carried-table rs = ap₂ ◌++◌ (ap (offsets (map (carry_cells f) rs)) (length-map rs (carry_cells f)) ∙ carried-offsets rs (length rs)) (carried-joined rs)

  carried_size : (rs : List Cells) → table_size (map (carry_cells f) rs) ≡ table_size rs
  carried_size rs = sym (length-table word (map (carry_cells f) rs)) ∙ ap length (carried-table rs) ∙ length-table (new_name ns) rs

  carried-sizes : (rss : List (List Cells)) → sizes (map (map (carry_cells f)) rss) ≡ sizes rss
  unfolding sizes
  carried-sizes [] = refl
  carried-sizes (rs ∷ rss) = ap₂ ◌+◌ (carried_size rs) (carried-sizes rss)

  carried-heads : (rss : List (List Cells)) (at pairs : ℕ) → heads (map (map (carry_cells f)) rss) at pairs ≡ heads rss at pairs
  unfolding heads
  carried-heads [] at pairs = refl
  carried-heads (rs ∷ rss) at pairs = ap₂ (λ (n : ℕ) (l : List ℕ). n ∷ at ∷ l) (length-map rs (carry_cells f)) (ap (λ (k : ℕ). heads (map (map (carry_cells f)) rss) (at + k) pairs) (carried_size rs) ∙ carried-heads rss (at + table_size rs) pairs)

  carried-tables : (rss : List (List Cells)) → tables word (map (map (carry_cells f)) rss) ≡ tables (new_name ns) rss
  unfolding tables
  carried-tables [] = refl
  carried-tables (rs ∷ rss) = ap₂ ◌++◌ (carried-table rs) (carried-tables rss)

  carried-image : (rss : List (List Cells)) (pairs : ℕ) (sp : List ℕ) → image_words word (map (map (carry_cells f)) rss) pairs sp ≡ image_words (new_name ns) rss pairs sp
  unfolding image_words total
  carried-image rss pairs sp = rw (carried-sizes rss, carried-heads rss 20 pairs, carried-tables rss)

  carried_functions : (fs : List Function) → map flat (map (carry_function f) fs) ≡ map (carry_cells f) (map flat fs)
  carried_functions [] = refl
  carried_functions (x ∷ fs) = ap₂ ◌∷◌ (flat_carry_function f (only_keeps (renumber-only ns)) x) (carried_functions fs)

  carried_entries : (es : List Entry) → map flat_entry (map (carry_entry f) es) ≡ map (carry_cells f) (map flat_entry es)
  carried_entries [] = refl
  carried_entries (x ∷ es) = ap₂ ◌∷◌ (flat_carry_entry f (only_keeps (renumber-only ns)) x) (carried_entries es)

  same_rows : {rs : List Cells} → Each (Each (Not NAME)) rs → map (carry_cells f) rs ≡ rs
  same_rows each_none = refl
  same_rows (each_next h hs) = ap₂ ◌∷◌ (same_cells (renumber-only ns) h) (same_rows hs)

-- ---- names
names_in-append : (cs ds : Cells) → names_in (cs ++ ds) ≡ names_in cs ++ names_in ds
unfolding names_in
names_in-append [] ds = refl
names_in-append ((s, zero) ∷ cs) ds = let i = names_in-append cs ds in either (eqb s NAME) (λ e. rw (names_in, e) i) λ e. rw (names_in, e) i
names_in-append ((s, suc n) ∷ cs) ds = let i = names_in-append cs ds in either (eqb s NAME) (λ e. rw (names_in, e) (ap (n ∷◌) i)) λ e. rw (names_in, e) i

no_names : {cs : Cells} → Each (Not NAME) cs → names_in cs ≡ []
unfolding names_in
no_names each_none = refl
no_names (each_next h hs) = rw (names_in, h) (no_names hs)

no_names_r : {rs : List Cells} → Each (Each (Not NAME)) rs → names_r rs ≡ []
unfolding names_r
no_names_r each_none = refl
no_names_r (each_next h hs) = ap₂ ◌++◌ (no_names h) (no_names_r hs)

pairs-none : (at : ℕ) (ss : List Section) → names_in (pairs_from at ss) ≡ []
unfolding names_in pairs_from
pairs-none at [] = refl
pairs-none at (s ∷ ss) = pairs-none (at + length s.1) ss

places-none : (at : ℕ) (rs : List Cells) → names_in (places at rs) ≡ []
unfolding names_in places
places-none at [] = refl
places-none at (r ∷ rs) = places-none (at + length r) rs

all_names : (rs : List Cells) → names_in (flat_all rs) ≡ names_r rs
unfolding names_in flat_all names_r
all_names [] = refl
all_names (r ∷ rs) = names_in-append r (flat_all rs) ∙ ap (names_in r ++◌) (all_names rs)

table_names : (rs : List Cells) → names_in (flat_table rs) ≡ names_r rs
unfolding flat_table
table_names rs = names_in-append (places (length rs) rs) (flat_all rs) ∙ ap₂ ◌++◌ (places-none (length rs) rs) (all_names rs)

bodies_names : (rss : List (List Cells)) (pairs : ℕ) (sp : Cells) → names_in sp ≡ [] → names_in (bodies (sections_of rss pairs sp)) ≡ names_t rss
unfolding bodies sections_of names_t
bodies_names [] pairs sp h = ap names_in (append-nil sp) ∙ h
bodies_names (rs ∷ rss) pairs sp h = names_in-append (flat_table rs) (bodies (sections_of rss pairs sp)) ∙ ap₂ ◌++◌ (table_names rs) (bodies_names rss pairs sp h)

-- ---- of a module whose names and special types have no names
module _ (t : Module) (names_plain : Each (Each (Not NAME)) t.names) (special-plain : Each (Not NAME) (flat_special t.special)) where
  pub appearing_cells : firsts_t (drop 1 (cells_of t)) [] ≡ appearing t
  unfolding appearing flat_module cells_of names_t names_in
  appearing_cells =
      firsts_tabs (drop 1 (cells_of t)) []
      ∙ ap (λ (l : List ℕ). firsts l [])
      (sym (ap names_in (ap (λ (ss : List Section). pairs_from HEADER ss ++ bodies ss) (sections_are t))
      ∙ names_in-append (pairs_from HEADER (sections_of (cells_of t) (length t.special.pairs) (flat_special t.special))) (bodies (sections_of (cells_of t) (length t.special.pairs) (flat_special t.special)))
      ∙ ap₂ ◌++◌ (pairs-none HEADER (sections_of (cells_of t) (length t.special.pairs) (flat_special t.special))) (bodies_names (cells_of t) (length t.special.pairs) (flat_special t.special) (no_names special-plain))
      ∙ ap (◌++ names_t (drop 1 (cells_of t))) (no_names_r names_plain)))

  chosen_plain : (ns : List ℕ) → map (carry_cells (renumber ns)) (chosen ns t.names) ≡ chosen ns t.names
  unfolding chosen
  chosen_plain ns = same_rows ns (picked ns)
    where
      at : {rs : List Cells} (n : ℕ) → Each (Each (Not NAME)) rs → Each (Not NAME) (get_or rs n [])
      at n each_none = each_none
      at zero (each_next h hs) = h
      at (suc n) (each_next h hs) = at n hs

      picked : (ks : List ℕ) → Each (Each (Not NAME)) (chosen ks t.names)
      picked [] = each_none
      picked (k ∷ ks) = each_next (at k names_plain) (picked ks)

  pub named_cells : (ns : List ℕ) → cells_of (named_by ns t) ≡ map (map (carry_cells (renumber ns))) (chosen ns t.names ∷ drop 1 (cells_of t))
  unfolding cells_of named_by with_names carry chosen
  named_cells ns = rw (carried_functions ns t.functions, carried_entries ns t.entries) (ap (◌∷ drop 1 (map (map (carry_cells (renumber ns))) (cells_of t))) (sym (chosen_plain ns)))

  special-same : (ns : List ℕ) → flat_special (carry_special (renumber ns) t.special) ≡ flat_special t.special
  special-same ns = flat_carry_special (renumber ns) (only_keeps (renumber-only ns)) t.special ∙ same_cells (renumber-only ns) special-plain

  pub named-pairs : (ns : List ℕ) → length (named_by ns t).special.pairs ≡ length t.special.pairs
  unfolding named_by with_names carry carry_special
  named-pairs ns = length-map t.special.pairs (carry_cells (renumber ns))

  named-special : (ns : List ℕ) → flat_special (named_by ns t).special ≡ flat_special t.special
  unfolding named_by with_names carry
  named-special ns = special-same ns

  -- THE WORDS FROM CELLS are those of the module with its names numbered again
  pub finished_cells : finished_words (cells_of t) (length t.special.pairs) (map word (flat_special t.special)) ≡ write (named_by (appearing t) t)
  unfolding finished_words cells_of
  finished_cells =
      let ns : List ℕ = appearing t in
      let rest : List (List Cells) = drop 1 (cells_of t) in
      let k : ℕ = length t.special.pairs in
      let s : List ℕ = map word (flat_special t.special) in
      let pairs : length (named_by ns t).special.pairs ≡ k = named-pairs ns in
      let sp : map word (flat_special (named_by ns t).special) ≡ s = ap (map word) (named-special ns) in
      ap (λ (z : List ℕ). image_words (new_name z) (chosen z t.names ∷ rest) k s) appearing_cells
      ∙ sym (write_cells (named_by ns t)
      ∙ ap (λ (z : List (List Cells)). image_words word z (length (named_by ns t).special.pairs) (map word (flat_special (named_by ns t).special))) (named_cells ns)
      ∙ ap₂ (λ (x : ℕ) (y : List ℕ). image_words word (map (map (carry_cells (renumber ns))) (chosen ns t.names ∷ rest)) x y) pairs sp
      ∙ carried-image ns (chosen ns t.names ∷ rest) k s)

-- ---- of a module whose parts are well formed
rows-plain : {rs : List Cells} → Each (Lays name_row) rs → Each (Each (Not NAME)) rs
unfolding name_row calms? calm?
rows-plain each_none = each_none
rows-plain (each_next l ls) = each_next (nameless l refl) (rows-plain ls)

pairs-plain : {rs : List Cells} → Each (Lays pair_row) rs → Each (Not NAME) (flat_all rs)
unfolding flat_all calms? calm?
pairs-plain each_none = each_none
pairs-plain (each_next l ls) = each_append (nameless l refl) (pairs-plain ls)

-- FINISH of a session's state, with these entry points
pub finish_cells : (s : Derived) (es : List Entry) → Parts (gathered s es)
    → finished_words (cells_of (gathered s es)) (length s.special.pairs) (map word (flat_special s.special)) ≡ write (finished s es)
unfolding finished flat_special calms? calm? gathered
finish_cells s es p = finished_cells (gathered s es) (rows-plain p.names_each) (each_append (nameless p.rays_lays refl) (pairs-plain p.pairs_each))
