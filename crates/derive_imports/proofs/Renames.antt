-- A type imported under another name: the import from a view of the source in which the type has it. What the view holds is the module with that name in the type's
-- record, so that it passes tests 3 and 4 as the source does.
use mathlib.Core.Path.{◌≡◌, refl, sym, ap, ◌∙◌}
use mathlib.Core.Bool.{Bool, true, false}
use mathlib.Core.List.{List, [], ◌∷◌, ◌++◌, map}
use Prim.Native.Nat.{ℕ, zero, suc, ◌+◌, ◌-◌, ◌*◌, ◌≤◌, ◌<◌}
use native.Mathlib.Nat.{le_refl}
use native.Mathlib.Numerals.{add-one}
use native.Mathlib.Omega.{arith}
use lib.Dec.{ltb}
use lib.ListN.{length, get_or, set, take, length-set}
use lib.Seq.{get_or-set_other, take-set-lt, map-set_same}
use borrow.Author.Tests.{lt-ltb}
use Rattle.std.proofs.lemmas.List.{set-append_left, set-append_right, map-set}
use Rattle.theory_lists.specs.Booleans.{and-true, and_split}
use Rattle.model.specs.Outcome.{Cell, Cells, class, word}
use Rattle.model.specs.Table.{NAME, PLACE, type_row, more}
use Rattle.model.specs.Tree.{flat_all}
use Rattle.model.specs.Module.{Module, HEADER, count_at, offset_at, places, flat_table, sections, pairs_from, bodies, flat_module, write}
use Rattle.model.specs.View.{record_at, record_end, tables as tablesL}
use Rattle.model.specs.Carry.{Lays, lays_next, Each, each_none, each_next, WellFormed}
use Rattle.model.specs.Taped.{Taped}
use Rattle.model.specs.Numbers.{Bounds, outside, within, below, bound, caps, every, numbered}
use Rattle.model.specs.Lower.{bases_of, types_lower, lower}
use Rattle.model.specs.Tables.{types, code_t, at, tables, count, rec_at, upd, is_t, Maps}
use Rattle.model.specs.Imports.{import_t, rename, renamed}
use Rattle.theory_records.specs.Tested.{every-at}
use Rattle.theory_records.specs.TableLaws.{at-six}
use Rattle.theory_image.specs.Members.{each_at}
use Rattle.theory_image.specs.Sections.{start_of, start_step, start_in, length-places, length_pairs}
use Rattle.theory_image.specs.Views.{offset_start, table-length, at_start}
use Rattle.theory_image.specs.FunctionViews.{Part, part_end, part-cell, taped_length, taped_record, taped_count}
use Rattle.theory_image.specs.Betweens.{record_part}
use Rattle.derive_state.specs.Refers.{tab_of}
use Rattle.derive_state.specs.Flats.{special_of}
use Rattle.derive_state.specs.Source.{mod_of, src_of, Source}
use Rattle.derive_state.specs.Held.{cell, recs_of, functions_of, maps_of, st_of, ValidArrays, ImportEnsures}
use Rattle.derive_state.specs.Sizes.{Sizes}
use Rattle.derive_state.proofs.State.{code_low, six_ext}
use Rattle.derive_imports.proofs.Sources.{mod_is, source_of, count_is}
use Rattle.derive_imports.proofs.Turns.{turn-known}

-- ---- the first cell of a record replaced
-- a record follows the header
start_low : (rs : List Cells) (i j : ℕ) → i ≤ start_of i rs j
unfolding start_of
start_low [] i j = le_refl _
start_low (r ∷ rs) i zero = le_refl _
start_low (r ∷ rs) i (suc j) = let h = start_low rs (i + length r) j in omega arith

flat_set : (rs : List Cells) (i j : ℕ) (c : Cell) → 0 < length (get_or rs j []) → flat_all (set rs j (set (get_or rs j []) 0 c)) ≡ set (flat_all rs) (start_of i rs j - i) c
unfolding flat_all start_of
flat_set [] i j c l = refl
flat_set (r ∷ rs) i zero c l = let z : i - i ≡ 0 = omega arith in rw z (sym (set-append_left r (flat_all rs) 0 c l))
flat_set (r ∷ rs) i (suc j) c l =
    let h = start_low rs (i + length r) j in
    let z : start_of (i + length r) rs j - i - length r ≡ start_of (i + length r) rs j - (i + length r) = omega arith in
    ap (r ++◌) (flat_set rs (i + length r) j c l) ∙ sym (set-append_right r (flat_all rs) (length r) (start_of (i + length r) rs j - i) c refl (omega arith) ∙ rw z refl)

places_set : (rs : List Cells) (i j : ℕ) (r : Cells) → length r ≡ length (get_or rs j []) → places i (set rs j r) ≡ places i rs
unfolding places
places_set [] i j r e = refl
places_set (x ∷ rs) i zero r e = rw e
places_set (x ∷ rs) i (suc j) r e = ap ((PLACE, i) ∷◌) (places_set rs (i + length x) j r e)

table_set : (rs : List Cells) (j : ℕ) (c : Cell) → 0 < length (get_or rs j []) → flat_table (set rs j (set (get_or rs j []) 0 c)) ≡ set (flat_table rs) (start_of (length rs) rs j) c
unfolding flat_table
table_set rs j c l =
    rw (length-set rs j (set (get_or rs j []) 0 c), places_set rs (length rs) j (set (get_or rs j []) 0 c) (length-set (get_or rs j []) 0 c), flat_set rs (length rs) j c l)
    (sym (set-append_right (places (length rs) rs) (flat_all rs) (length rs) (start_of (length rs) rs j) c (length-places rs (length rs)) (start_low rs (length rs) j)))

each_set : {P : Cells → Type 0} {l : List Cells} → Each P l → (k : ℕ) (x : Cells) → P x → Each P (set l k x)
each_set each_none k x p = each_none
each_set (each_next q qs) zero x p = each_next p qs
each_set (each_next q qs) (suc k) x p = each_next q (each_set qs k x p)

every_set : (p : Cells → Bool) (l : List Cells) (k : ℕ) (x : Cells) → p x ≡ true → every p l ≡ true → every p (set l k x) ≡ true
unfolding every
every_set p [] k x h q = q
every_set p (y ∷ l) zero x h q = and-true h (and_split (p y) (every p l) q).1
every_set p (y ∷ l) (suc k) x h q = let s = and_split (p y) (every p l) q in and-true s.0 (every_set p l k x h s.1)

lower_set : (l : List Cells) (t k : ℕ) (x : Cells) → bases_of x ≡ bases_of (get_or l k []) → types_lower (set l k x) t ≡ types_lower l t
unfolding types_lower
lower_set [] t k x e = refl
lower_set (y ∷ l) t zero x e = rw e
lower_set (y ∷ l) t (suc k) x e = rw (lower_set l (suc t) k x e)

-- ---- a type's record begins with its name
set_renamed : (name : ℕ) {r : Cells} → Lays type_row r → rename name r ≡ set r 0 (NAME, suc name)
unfolding type_row rename
set_renamed name (lays_next e l) = refl

first_renamed : {r : Cells} → Lays type_row r → (class (get_or r 0 (0, 0)) ≡ NAME) × (0 < length r)
unfolding type_row
first_renamed (lays_next e l) = (refl, omega arith)

lays_renamed : (name : ℕ) {r : Cells} → Lays type_row r → Lays type_row (rename name r)
unfolding type_row rename more
lays_renamed name (lays_next e l) = lays_next e l

bases_renamed : (name : ℕ) {r : Cells} → Lays type_row r → bases_of (rename name r) ≡ bases_of r
unfolding type_row rename bases_of
bases_renamed name (lays_next e l) = refl

within_renamed : (b : Bounds) (name : ℕ) → name < b.names → {r : Cells} → Lays type_row r → within b r ≡ true → within b (rename name r) ≡ true
unfolding type_row rename within below bound caps
within_renamed b name h (lays_next {w} {cs} e l) q = and-true (lt-ltb (suc name) (suc b.names) (omega arith)) (and_split (ltb w (suc b.names)) (within b cs) q).1

-- ---- the module with the type's new name
module _ (m : Module) (k name : ℕ) where
  abbrev new_types : List Cells
  new_types = set m.types k (rename name (get_or m.types k []))

  abbrev view_module : Module
  view_module = record { names = m.names; types = new_types; constants = m.constants; overrides = m.overrides; globals = m.globals; exprs = m.exprs; functions = m.functions; entries = m.entries; special = m.special }

  tables_renamed : tables view_module ≡ renamed (tables m) k name
  unfolding tables renamed upd rec_at at is_t code_t
  tables_renamed = refl

  outside_same : outside view_module ≡ outside m
  unfolding outside
  outside_same = rw (length-set m.types k (rename name (get_or m.types k [])))

  module _ (well : WellFormed m) (hk : k < length m.types) where
    lays : Lays type_row (get_or m.types k [])
    lays = each_at well.types-ok.each k [] hk

    view_well : WellFormed view_module
    view_well = record {
      names_ok = well.names_ok;
      types-ok = record { few = rw (length-set m.types k (rename name (get_or m.types k []))) well.types-ok.few; each = each_set well.types-ok.each k _ (lays_renamed name lays) };
      constants_ok = well.constants_ok;
      overrides_ok = well.overrides_ok;
      globals_ok = well.globals_ok;
      exprs_ok = well.exprs_ok;
      functions_ok = well.functions_ok;
      entries_ok = well.entries_ok;
      rays-ok = well.rays-ok;
      pairs-ok = well.pairs-ok;
    }

    view_lower : lower m ≡ true → lower view_module ≡ true
    unfolding lower
    view_lower h = rw (lower_set m.types 0 k (rename name (get_or m.types k [])) (bases_renamed name lays)) h

    name_low : name < length m.names → name < (outside m).names
    unfolding outside
    name_low h = h

    view_numbered : name < length m.names → numbered m ≡ true → numbered view_module ≡ true
    unfolding numbered
    view_numbered hn h =
        let s = and_split (every (within (outside m)) m.types) _ h in
        rw outside_same (and-true (every_set (within (outside m)) m.types k (rename name (get_or m.types k [])) (within_renamed (outside m) name (name_low hn) lays (every-at (within (outside m)) m.types s.0 k [] hk)) s.0) s.1)

    -- ---- its cells differ in one
    types_set : flat_table new_types ≡ set (flat_table m.types) (start_of (length m.types) m.types k) (NAME, suc name)
    types_set = ap (λ (r : Cells). flat_table (set m.types k r)) (set_renamed name lays) ∙ table_set m.types k (NAME, suc name) (first_renamed lays).1

    types_long : length (flat_table new_types) ≡ length (flat_table m.types)
    types_long = ap length types_set ∙ length-set (flat_table m.types) (start_of (length m.types) m.types k) (NAME, suc name)

    abbrev place : ℕ
    place = HEADER + (length (flat_table m.names) + start_of (length m.types) m.types k)

    place_low : start_of (length m.types) m.types k < length (flat_table m.types)
    place_low = omega (arith, start_step m.types (length m.types) k hk, start_in m.types (length m.types) (suc k) hk, table-length m.types, (first_renamed lays).1)

    bodies_set : bodies (sections view_module) ≡ set (bodies (sections m)) (length (flat_table m.names) + start_of (length m.types) m.types k) (NAME, suc name)
    unfolding bodies sections
    bodies_set =
        let z : length (flat_table m.names) + start_of (length m.types) m.types k - length (flat_table m.names) ≡ start_of (length m.types) m.types k = omega arith in
        rw types_set (sym (set-append_right (flat_table m.names) _ (length (flat_table m.names)) _ (NAME, suc name) refl (omega arith) ∙ rw z (ap (flat_table m.names ++◌) (set-append_left (flat_table m.types) _ (start_of (length m.types) m.types k) (NAME, suc name) place_low))))

    bodies_long : length (bodies (sections view_module)) ≡ length (bodies (sections m))
    bodies_long = ap length bodies_set ∙ length-set (bodies (sections m)) _ (NAME, suc name)

    pairs_same : pairs_from HEADER (sections view_module) ≡ pairs_from HEADER (sections m)
    unfolding sections pairs_from
    pairs_same = rw (length-set m.types k (rename name (get_or m.types k [])), types_long)

    pairs_long : suc (suc (length (pairs_from HEADER (sections m)))) ≡ HEADER
    unfolding sections
    pairs_long = let h = length_pairs (sections m) HEADER in omega arith

    cells_set : flat_module view_module ≡ set (flat_module m) place (NAME, suc name)
    unfolding flat_module
    cells_set =
        let z : place - HEADER ≡ length (flat_table m.names) + start_of (length m.types) m.types k = omega arith in
        rw (pairs_same, bodies_long, bodies_set) (sym (set-append_right ((PLACE, 1) ∷ (PLACE, HEADER + length (bodies (sections m))) ∷ pairs_from HEADER (sections m)) (bodies (sections m)) HEADER place (NAME, suc name) pairs_long (omega arith) ∙ rw z refl))

    -- ---- in the words
    module _ {words tags : List ℕ} {n : ℕ} (t : Taped words tags n m) (begin : ℕ) (hb : begin ≡ record_at 1 k words) (inside : k < count_at 1 words) where
      at_place : begin ≡ place
      unfolding tablesL sections start_of
      at_place =
          let a = taped_record t 1 k (omega arith) (omega (arith, taped_count t 1 (omega arith))) in
          let b : record_at 1 k (write m) ≡ offset_at 1 (write m) + start_of (length m.types) m.types k = at_start m 1 (omega arith) k hk in
          let c : offset_at 1 (write m) ≡ HEADER + length (flat_table m.names) = offset_start m 1 (omega arith) in
          omega (arith, hb, a, b, c)

      part : Part (flat_module m) (record_at 1 k words) (record_end 1 k words) (get_or m.types k [])
      unfolding tablesL
      part = record_part t 1 k (omega arith) inside

      place_in : begin < n
      place_in = omega (arith, hb, part_end part, part.within, taped_length t, (first_renamed lays).1)

      place_name : NAME ≡ class (get_or (flat_module m) place (0, 0))
      place_name =
          let z : record_at 1 k words + 0 ≡ place = omega (arith, hb, at_place) in
          sym (ap class (rw z at (part-cell part 0 (0, 0) (first_renamed lays).1)) ∙ (first_renamed lays).0)

      view_words : take n (set words begin (name + 1)) ≡ write view_module
      unfolding write
      view_words =
          take-set-lt n words begin (name + 1) place_in ∙ ap (λ (l : List ℕ). set l begin (name + 1)) t.words_are
          ∙ rw (at_place, add-one name, cells_set) (sym (map-set word (flat_module m) place (NAME, suc name)))

      view_tags : take n tags ≡ map class (flat_module view_module)
      view_tags = t.tags_are ∙ sym (ap (map class) cells_set ∙ map-set_same class (flat_module m) place (NAME, suc name) (0, 0) place_name)

      view_taped : Taped (set words begin (name + 1)) tags n view_module
      view_taped = record { small = t.small; words_long = length-set words begin (name + 1) ∙ t.words_long; tags_long = t.tags_long; words_are = view_words; tags_are = view_tags; well = view_well }

-- ---- the view of a source
header_count : (words : List ℕ) (i v t : ℕ) → HEADER ≤ i → t < 6 → count_at t (set words i v) ≡ count_at t words
unfolding count_at
header_count words i v t h l = get_or-set_other words i (2 + 2 * t) v 0 (λ e. omega arith)

-- the maps are read by the counts alone
st_view : (words view log logtags : List ℕ) (starts maps : List (List ℕ)) (special : List ℕ) (e : Sizes) → ((t : ℕ) → t < 6 → count_at t view ≡ count_at t words) → st_of view log logtags starts maps special e ≡ st_of words log logtags starts maps special e
unfolding st_of maps_of
st_view words view log logtags starts maps special e h =
    ap (λ (m : Maps). record { recs = recs_of log logtags starts e.counts; maps = m; functions = functions_of log logtags starts e.counts; special = special_of special e.pairs })
    (six_ext _ _ (λ u. at-six u (λ t. take (count_at (code_t t) view) (get_or maps (code_t t) [])) ∙ rw (h (code_t u) (code_low u)) (sym (at-six u (λ t. take (count_at (code_t t) words) (get_or maps (code_t t) []))))))

module _ (words tags : List ℕ) (n : ℕ) (src : Source words tags n) (k : ℕ) (hk : k < count_at 1 words) (name : ℕ) (hn : name < count_at 0 words) (begin : ℕ) (hb : begin ≡ record_at 1 k words) where
  type_in : k < length (mod_of words n).types
  unfolding src_of count tables at tab_of
  type_in = let c : count_at 1 words ≡ length (mod_of words n).types = count_is words tags n src 1 (omega arith) in omega arith

  name_in : name < length (mod_of words n).names
  unfolding src_of count tables at tab_of
  name_in = let c : count_at 0 words ≡ length (mod_of words n).names = count_is words tags n src 0 (omega arith) in omega arith

  taped : Taped (set words begin (name + 1)) tags n (view_module (mod_of words n) k name)
  taped = view_taped (mod_of words n) k name src.taped.well type_in src.taped begin hb hk

  pub view_in : begin < n
  view_in = place_in (mod_of words n) k name src.taped.well type_in src.taped begin hb hk

  pub view_source : Source (set words begin (name + 1)) tags n
  view_source = source_of taped (view_numbered (mod_of words n) k name src.taped.well type_in name_in src.three) (view_lower (mod_of words n) k name src.taped.well type_in src.four)

  src_renamed : src_of (set words begin (name + 1)) n ≡ renamed (src_of words n) k name
  unfolding src_of
  src_renamed = ap tables (mod_is taped) ∙ tables_renamed (mod_of words n) k name

  pub view_count : (t : ℕ) → t < 6 → count_at t (set words begin (name + 1)) ≡ count_at t words
  view_count t h = header_count words begin (name + 1) t (omega (arith, at_place (mod_of words n) k name src.taped.well type_in src.taped begin hb hk)) h

  -- the import from the view is that of the source in which the type has the name
  pub lands_view : (o : ℕ) (log₀ logtags₀ : List ℕ) (starts₀ maps₀ : List (List ℕ)) (buckets₀ : List ℕ) (e r : Sizes) (log logtags : List ℕ) (starts maps : List (List ℕ)) (buckets : List ℕ)
      → ImportEnsures (set words begin (name + 1)) (import_t o (src_of (set words begin (name + 1)) n) (tab_of 1) k) log₀ logtags₀ starts₀ maps₀ buckets₀ e r log logtags starts maps buckets
      → ImportEnsures words (import_t o (renamed (src_of words n) k name) types k) log₀ logtags₀ starts₀ maps₀ buckets₀ e r log logtags starts maps buckets
  unfolding tab_of
  lands_view o log₀ logtags₀ starts₀ maps₀ buckets₀ e r log logtags starts maps buckets L₀ =
      let L = rw src_renamed at L₀ in
      let was : (special : List ℕ) → st_of (set words begin (name + 1)) log₀ logtags₀ starts₀ maps₀ special e ≡ st_of words log₀ logtags₀ starts₀ maps₀ special e = λ special. st_view words _ log₀ logtags₀ starts₀ maps₀ special e view_count in
      record {
        over = λ q special. rw (← was special) (L.over q special);
        is = λ q special. rw (← was special, ← st_view words (set words begin (name + 1)) log logtags starts maps special r view_count) (L.is q special);
        kept = L.kept;
        beside = L.beside;
        more = L.more;
        below = L.below;
        log_long = L.log_long;
        tags_long = L.tags_long;
        marks_stay = L.marks_stay;
      }

  -- a type that is mapped already stays
  pub rename-known : (o : ℕ) (log₀ logtags₀ : List ℕ) (starts₀ maps₀ : List (List ℕ)) (buckets₀ : List ℕ) (e : Sizes) → e.full ≡ false → ValidArrays log₀ logtags₀ starts₀ maps₀ buckets₀ e
      → (cell maps₀ 1 k ≡ 0 → ⊥) → ImportEnsures words (import_t o (renamed (src_of words n) k name) types k) log₀ logtags₀ starts₀ maps₀ buckets₀ e e log₀ logtags₀ starts₀ maps₀ buckets₀
  rename-known o log₀ logtags₀ starts₀ maps₀ buckets₀ e nf K ne =
      lands_view o log₀ logtags₀ starts₀ maps₀ buckets₀ e e log₀ logtags₀ starts₀ maps₀ buckets₀
      (turn-known (set words begin (name + 1)) tags n view_source o 1 k (omega arith) (rw (view_count 1 (omega arith)) hk) log₀ logtags₀ starts₀ maps₀ buckets₀ e nf K ne)
