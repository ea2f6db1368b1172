-- What the passes of an image say together: the test of refusal 5, for the module that words and tags hold.
use mathlib.Core.Path.{◌≡◌, refl, sym, ap, ap₂, ◌∙◌, subst}
use mathlib.Core.Bool.{Bool, true, false, ◌&&◌}
use mathlib.Core.List.{List, [], ◌∷◌, map}
use mathlib.Core.Option.{some}
use Prim.Native.Nat.{ℕ, suc, ◌+◌, ◌*◌, ◌<◌}
use native.Mathlib.Omega.{arith}
use lib.ListN.{length, get_or, get_elem?, take, length-take, length-drop}
use lib.Seq.{slice}
use borrow.Author.Tests.{ne_eqb}
use Rattle.theory_lists.specs.Lists.{found}
use Rattle.model.specs.Outcome.{Cells, word}
use Rattle.model.specs.Table.{SPAN, UPTO, NAME, TYPE, WORD, KEY, name_row, function_head, entry_head}
use Rattle.model.specs.Tree.{Function, Entry}
use Rattle.model.specs.Module.{Module, count_at, offset_at, flat_module, write}
use Rattle.model.specs.View.{tables, record_at}
use Rattle.model.specs.Taped.{Taped}
use Rattle.model.specs.Between.{between}
use Rattle.model.specs.Carry.{Lays, lays_next, Each}
use Rattle.theory_lists.specs.Booleans.{and_assoc}
use Rattle.model.specs.Names.{field, present, distinct, differ, functions_named, entries_named, function_names, entry_names, named, NumbersFew, Numbered}
use Rattle.theory_image.specs.Plain.{plain?}
use Rattle.theory_image.specs.Quiet.{Plainly, plain-none, plain-next, plainly}
use Rattle.theory_image.specs.Views.{sees_name, sees_pair, sees_special}
use Rattle.theory_image.specs.Tapes.{taped_same}
use Rattle.theory_image.specs.FunctionViews.{Part, part_end, part-word, part_words, parts, taped_held, taped_length, taped_count, taped_offset, taped_functions, taped_entries, taped_part, taped_function, taped_entry_head}
use Rattle.theory_image.specs.Betweens.{table-between, table-count, record_offset, record_part}
use Rattle.theory_image.specs.Members.{looked_each}
use Rattle.intake_distinct.specs.Listed.{listing, place_of, number_at, Placed, name_at, Spelled}
use Rattle.intake_names.specs.Passes.{NONE, marking, Small}
use Rattle.intake_names.proofs.Marks.{functions_are, entries_are, functions_small, entries_small}

place_record : (ws : List ℕ) (k j : ℕ) → k < 8 → place_of ws k j ≡ record_at k j ws
unfolding place_of
place_record ws k j h = rw (place_of, ne_eqb k 8 λ e. omega arith)

-- ---- the listing of a list, by its elements
module _ {A B : Type 0} (at : ℕ → A) (to : B → A) where
  list_is : (xs : List B) (k : ℕ) → ((j : ℕ) (x : B) → get_elem? xs j ≡ some x → at (k + j) ≡ to x) → listing at (length xs) k ≡ map to xs
  unfolding listing
  list_is [] k h = refl
  list_is (x ∷ xs) k h =
      let z : k + 0 ≡ k = omega arith in
      ap₂ ◌∷◌ (ap at (sym z) ∙ h 0 x refl) (list_is xs (suc k) λ j y e. let s : suc k + j ≡ k + suc j = omega arith in ap at s ∙ h (suc j) y e)

functions_map : (fs : List Function) → map (λ f. field NAME f.head) fs ≡ function_names fs
unfolding function_names
functions_map [] = refl
functions_map (f ∷ fs) = ap (field NAME f.head ∷◌) (functions_map fs)

entries_map : (ps : List Entry) → map (λ p. field NAME p.head) ps ≡ entry_names ps
unfolding entry_names
entries_map [] = refl
entries_map (p ∷ ps) = ap (field NAME p.head ∷◌) (entries_map ps)

-- ---- the first word of a record
pub record First (s : ℕ) (r : Cells) : Type 0 where
  pub some_words : 0 < length r
  pub is : word (get_or r 0 (0, 0)) ≡ field s r

head_first : {h : Cells} → Plainly (NAME ∷ SPAN ∷ UPTO ∷ []) h → First NAME h
unfolding field
head_first (plain-next (plain-next (plain-next plain-none))) = record { some_words = omega arith; is = refl }

entry_first : {h : Cells} → Plainly (NAME ∷ WORD ∷ WORD ∷ WORD ∷ WORD ∷ WORD ∷ WORD ∷ []) h → First NAME h
unfolding field
entry_first (plain-next (plain-next (plain-next (plain-next (plain-next (plain-next (plain-next plain-none))))))) = record { some_words = omega arith; is = refl }

key_first : {p : Cells} → Plainly (KEY ∷ TYPE ∷ []) p → First KEY p × (length p ≡ 2)
unfolding field
key_first (plain-next (plain-next plain-none)) = (record { some_words = omega arith; is = refl }, refl)

name_words_lem : {r : Cells} → Lays name_row r → 0 < length r
unfolding name_row
name_words_lem (lays_next e l) = omega arith

module _ {words tags : List ℕ} {n : ℕ} {m : Module} (t : Taped words tags n m) where
  -- the word where a part starts
  first_word : {p q s : ℕ} {r : Cells} → Part (flat_module m) p q r → First s r → get_or words p 0 ≡ field s r
  first_word {p} v f = let z : p + 0 ≡ p = omega arith in (rw z at (part-word (taped_held t) v 0 f.some_words)) ∙ f.is

  starts_in : {p q : ℕ} {r : Cells} → Part (flat_module m) p q r → 0 < length r → p < 16384
  starts_in v h = omega (arith, part_end v, v.within, taped_length t, t.small)

  -- ---- functions
  function_head_lem : (j : ℕ) (f : Function) → get_elem? m.functions j ≡ some f → Part (flat_module m) (record_at 6 j words) (record_at 6 j words + 3) f.head
  function_head_lem j f e = (parts (taped_function t j f e)).head_part

  function-first : (j : ℕ) (f : Function) → get_elem? m.functions j ≡ some f → First NAME f.head
  unfolding function_head plain?
  function-first j f e = head_first (plainly (taped_function t j f e).well.head_ok refl)

  function_number : (j : ℕ) (f : Function) → get_elem? m.functions j ≡ some f → number_at words 6 j ≡ field NAME f.head
  unfolding number_at place_of
  function_number j f e = first_word (function_head_lem j f e) (function-first j f e)

  functions_listed : listing (number_at words 6) (count_at 6 words) 0 ≡ function_names m.functions
  functions_listed =
      rw (taped_functions t)
      (list_is (number_at words 6) (λ f. field NAME f.head) m.functions 0 (λ j f e. let z : 0 + j ≡ j = omega arith in ap (number_at words 6) z ∙ function_number j f e) ∙ functions_map m.functions)

  -- ---- entry points
  entry_head_first : (j : ℕ) (p : Entry) → get_elem? m.entries j ≡ some p → First NAME p.head
  unfolding entry_head plain?
  entry_head_first j p e = entry_first (plainly (looked_each t.well.entries_ok.each j e).head_ok refl)

  entry_number : (j : ℕ) (p : Entry) → get_elem? m.entries j ≡ some p → number_at words 7 j ≡ field NAME p.head
  unfolding number_at place_of
  entry_number j p e = first_word (taped_entry_head t j p e) (entry_head_first j p e)

  entries_listed : listing (number_at words 7) (count_at 7 words) 0 ≡ entry_names m.entries
  entries_listed =
      rw (taped_entries t)
      (list_is (number_at words 7) (λ p. field NAME p.head) m.entries 0 (λ j p e. let z : 0 + j ≡ j = omega arith in ap (number_at words 7) z ∙ entry_number j p e) ∙ entries_map m.entries)

  -- ---- keys
  pair-first : (j : ℕ) (p : Cells) → get_elem? m.special.pairs j ≡ some p → First KEY p × (length p ≡ 2)
  unfolding plain?
  pair-first j p e = key_first (plainly (looked_each t.well.pairs-ok.each j e) refl)

  pair-part : (j : ℕ) (p : Cells) → get_elem? m.special.pairs j ≡ some p → Part (flat_module m) (offset_at 8 words + 3 + 2 * j) (offset_at 8 words + 5 + 2 * j) p
  pair-part j p e =
      let cells = flat_module m in
      let a : offset_at 8 words + 3 + 2 * j ≡ offset_at 8 (write m) + (3 + j * 2) = omega (arith, taped_offset t 8 (omega arith)) in
      let b : offset_at 8 words + 5 + 2 * j ≡ offset_at 8 (write m) + (5 + j * 2) = omega (arith, taped_offset t 8 (omega arith)) in
      let q : slice (offset_at 8 words + 3 + 2 * j) (offset_at 8 words + 5 + 2 * j) cells ≡ p = ap₂ (λ x y. slice x y cells) a b ∙ sees_pair m refl t.well j p e in
      record {
        rising = omega arith;
        within = omega (arith, length-drop (offset_at 8 words + 3 + 2 * j) (take (offset_at 8 words + 5 + 2 * j) cells), length-take (offset_at 8 words + 5 + 2 * j) cells, ap length q, (pair-first j p e).1);
        cells_are = q;
      }

  key_number : (j : ℕ) (p : Cells) → get_elem? m.special.pairs j ≡ some p → number_at words 8 j ≡ field KEY p
  unfolding number_at place_of
  key_number j p e = first_word (pair-part j p e) (pair-first j p e).0

  keys_count : count_at 8 words ≡ length m.special.pairs
  keys_count = taped_count t 8 (omega arith) ∙ (sees_special m refl).count

  keys_listed : listing (number_at words 8) (count_at 8 words) 0 ≡ map (field KEY) m.special.pairs
  keys_listed = rw keys_count (list_is (number_at words 8) (field KEY) m.special.pairs 0 λ j p e. let z : 0 + j ≡ j = omega arith in ap (number_at words 8) z ∙ key_number j p e)

  -- ---- names
  name_number : (j : ℕ) (r : Cells) → get_elem? m.names j ≡ some r → name_at words j ≡ map word r
  unfolding name_at
  name_number j r e = part_words (taped_held t) (taped_part t (omega arith) (sees_name m refl j r e))

  names_listed : listing (name_at words) (count_at 0 words) 0 ≡ map (map word) m.names
  unfolding tables
  names_listed = rw (table-count t 0 (omega arith)) (list_is (name_at words) (map word) m.names 0 λ j r e. let z : 0 + j ≡ j = omega arith in ap (name_at words) z ∙ name_number j r e)

  -- ---- places
  placed_at : (k : ℕ) → k < 8 → ((j : ℕ) → j < count_at k words → record_at k j words < 16384) → Placed words k
  placed_at k h l =
      record {
        known = omega arith;
        offset = λ j i d. omega (arith, record_offset t k j h i, t.small);
        place = λ j i. rw (place_is j) (l j i);
      }
    where
      place_is : (j : ℕ) → place_of words k j ≡ record_at k j words
      place_is j = place_record words k j h

  placed_functions : Placed words 6
  placed_functions = placed_at 6 (omega arith) λ j i. let x = found m.functions j (omega (arith, taped_functions t)) in starts_in (function_head_lem j x.0 x.1) (function-first j x.0 x.1).some_words

  placed_entries : Placed words 7
  placed_entries = placed_at 7 (omega arith) λ j i. let x = found m.entries j (omega (arith, taped_entries t)) in starts_in (taped_entry_head t j x.0 x.1) (entry_head_first j x.0 x.1).some_words

  placed_names : Placed words 0
  unfolding tables
  placed_names =
      placed_at 0 (omega arith) λ j i.
      let x = found m.names j (omega (arith, table-count t 0 (omega arith))) in
      starts_in (taped_part t (omega arith) (sees_name m refl j x.0 x.1)) (name_words_lem (looked_each t.well.names_ok.each j x.1))

  placed-pairs : Placed words 8
  unfolding place_of
  placed-pairs =
      record {
        known = omega arith;
        offset = λ j i d. absurd (d refl);
        place = λ j i.
            let x = found m.special.pairs j (omega (arith, keys_count)) in
            starts_in (pair-part j x.0 x.1) (pair-first j x.0 x.1).0.some_words;
      }

  spelled_names : Spelled words
  spelled_names =
      record {
        long = t.words_long;
        placed = placed_names;
        rising = λ j i. (record_part t 0 j (omega arith) i).rising;
        within = λ j i. omega (arith, (record_part t 0 j (omega arith) i).within, taped_length t, t.small);
      }

  -- ---- named expressions, by their places in the header
  module _ (few : NumbersFew m) where
    functions_marks : (a e : ℕ) → a ≡ offset_at 6 words → e ≡ offset_at 7 words → marking (between tags words a e) 0 NONE ≡ functions_named m.functions
    unfolding tables
    functions_marks a e p q = rw (p, q) (ap (λ cs. marking cs 0 NONE) (table-between t 6 (omega arith)) ∙ functions_are t.well.functions_ok.each few.in_functions_lem)

    entries_marks : (a e : ℕ) → a ≡ offset_at 7 words → e ≡ offset_at 8 words → marking (between tags words a e) 0 NONE ≡ entries_named m.entries
    unfolding tables
    entries_marks a e p q = rw (p, q) (ap (λ cs. marking cs 0 NONE) (table-between t 7 (omega arith)) ∙ entries_are t.well.entries_ok.each few.in_entries_lem)

    functions_few : (a e : ℕ) → a ≡ offset_at 6 words → e ≡ offset_at 7 words → Each Small (between tags words a e)
    unfolding tables
    functions_few a e p q = rw (p, q) (rw (table-between t 6 (omega arith)) (functions_small t.well.functions_ok.each few.in_functions_lem))

    entries_few : (a e : ℕ) → a ≡ offset_at 7 words → e ≡ offset_at 8 words → Each Small (between tags words a e)
    unfolding tables
    entries_few a e p q = rw (p, q) (rw (table-between t 7 (omega arith)) (entries_small t.well.entries_ok.each few.in_entries_lem))

-- ---- what the code requires
module _ {words tags : List ℕ} {n : ℕ} (v : Numbered words tags n) where
  pub functions_placed : Placed words 6
  functions_placed = placed_functions v.taped

  pub entries_placed : Placed words 7
  entries_placed = placed_entries v.taped

  pub pairs-placed : Placed words 8
  pairs-placed = placed-pairs v.taped

  pub spelled : Spelled words
  spelled = spelled_names v.taped

  pub few_functions : (a e : ℕ) → a ≡ offset_at 6 words → e ≡ offset_at 7 words → Each Small (between tags words a e)
  few_functions = functions_few v.taped v.few

  pub few_entries : (a e : ℕ) → a ≡ offset_at 7 words → e ≡ offset_at 8 words → Each Small (between tags words a e)
  few_entries = entries_few v.taped v.few

  -- ---- what the passes say of the module
  module _ {m : Module} (t : Taped words tags n m) where
    few_of : NumbersFew m
    few_of = subst NumbersFew (taped_same v.taped t) v.few

    pub functions_present : {r : Bool} → r ≡ present (listing (number_at words 6) (count_at 6 words) 0) → r ≡ present (function_names m.functions)
    functions_present e = e ∙ ap present (functions_listed t)

    pub entries_present : {r : Bool} → r ≡ present (listing (number_at words 7) (count_at 7 words) 0) → r ≡ present (entry_names m.entries)
    entries_present e = e ∙ ap present (entries_listed t)

    pub functions_named_lem : {r : Bool} (a e : ℕ) → a ≡ offset_at 6 words → e ≡ offset_at 7 words → r ≡ marking (between tags words a e) 0 NONE → r ≡ functions_named m.functions
    functions_named_lem a e p q s = s ∙ functions_marks t few_of a e p q

    pub entries_named_lem : {r : Bool} (a e : ℕ) → a ≡ offset_at 7 words → e ≡ offset_at 8 words → r ≡ marking (between tags words a e) 0 NONE → r ≡ entries_named m.entries
    entries_named_lem a e p q s = s ∙ entries_marks t few_of a e p q

    pub names_differ : {r : Bool} → r ≡ differ (listing (name_at words) (count_at 0 words) 0) → r ≡ differ (map (map word) m.names)
    names_differ e = e ∙ ap differ (names_listed t)

    pub functions_distinct : {r : Bool} → r ≡ distinct (listing (number_at words 6) (count_at 6 words) 0) → r ≡ distinct (function_names m.functions)
    functions_distinct e = e ∙ ap distinct (functions_listed t)

    pub keys_distinct : {r : Bool} → r ≡ distinct (listing (number_at words 8) (count_at 8 words) 0) → r ≡ distinct (map (field KEY) m.special.pairs)
    keys_distinct e = e ∙ ap distinct (keys_listed t)

-- ---- the tests joined: what held so far, and one test more
pub then_test : {p r d v : Bool} → p ≡ true → r ≡ d → v ≡ r → v ≡ p && d
then_test {d = d} h e i = i ∙ e ∙ sym (ap (◌&& d) h)

pub else_test : {p v : Bool} (d : Bool) → p ≡ false → v ≡ p → v ≡ p && d
else_test d h i = i ∙ h ∙ sym (ap (◌&& d) h)

module _ (m : Module) {a b c d e f : Bool} (one : a ≡ present (function_names m.functions)) (two : b ≡ a && present (entry_names m.entries)) (three : c ≡ b && functions_named m.functions)
    (four : d ≡ c && entries_named m.entries) (five : e ≡ d && differ (map (map word) m.names)) (six : f ≡ e && distinct (function_names m.functions)) where
  abbrev keys : Bool
  keys = distinct (map (field KEY) m.special.pairs)

  all_tests : f && keys ≡ named m
  unfolding named
  all_tests =
      let A = present (function_names m.functions) in
      let B = present (entry_names m.entries) in
      let C = functions_named m.functions in
      let D = entries_named m.entries in
      let E = differ (map (map word) m.names) in
      let F = distinct (function_names m.functions) in
      ap (◌&& keys) (six ∙ ap (◌&& F) (five ∙ ap (◌&& E) (four ∙ ap (◌&& D) (three ∙ ap (◌&& C) (two ∙ ap (◌&& B) one)))))
      ∙ and_assoc ((((A && B) && C) && D) && E) F keys
      ∙ and_assoc (((A && B) && C) && D) E (F && keys)
      ∙ and_assoc ((A && B) && C) D (E && (F && keys))
      ∙ and_assoc (A && B) C (D && (E && (F && keys)))
      ∙ and_assoc A B (C && (D && (E && (F && keys))))

  pub last_test : f ≡ true → {r : Bool} → r ≡ keys → r ≡ named m
  last_test h is = is ∙ sym (ap (◌&& keys) h) ∙ all_tests

  pub no_test : f ≡ false → f ≡ named m
  no_test h = h ∙ sym (ap (◌&& keys) h) ∙ all_tests
