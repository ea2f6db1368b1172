-- WHAT IS WRITTEN at the end of a session: it is read back, passes tests 1 to 4 and 6, and all of test 5 but that the functions' names are distinct.
use Rattle.std.specs.Prelude.{◌≡◌, Bool, true, false, ◌&&◌, List, map, eqb, length}
use Rattle.std.proofs.Math.Path.{refl, ap}
use Rattle.std.proofs.Common.{sym, ap₂, ◌∙◌, arith, eqb-true, eq-eqb, ne_eqb}
use Rattle.std.proofs.Math.Bool.{not}
use Prim.Native.Nat.{ℕ, suc, ◌*◌, ◌≤◌}
use Rattle.std.proofs.Math.Nat.{le_refl}
use Rattle.std.proofs.lemmas.Bool.{eqb-false}
use Rattle.theory_lists.specs.Booleans.{and-true, and_right}
use Rattle.model.specs.Outcome.{word, laid}
use Rattle.model.specs.Table.{NAME, KEY}
use Rattle.model.specs.Tree.{Function, Entry}
use Rattle.model.specs.Module.{Module, read, write, sized}
use Rattle.model.specs.Carry.{carry_function, carry_entry, carry_special, carry, WellFunction, Each, each_none, each_next}
use Rattle.model.specs.Initial.{Mem}
use Rattle.model.specs.Intake.{intake_of}
use Rattle.model.specs.Numbers.{every, outside, sound_function, sound_entry, numbered}
use Rattle.model.specs.Lower.{functions_lower, entries_lower, lower}
use Rattle.model.specs.Names.{field, present, absent, distinct, differ, functions_named, entries_named, function_names, entry_names, named}
use Rattle.model.specs.Scope.{all_scoped, entries_scoped, in_scope}
use Rattle.model.specs.Tables.{Tab, at, Tables, tables, count}
use Rattle.model.specs.Imports.{Derived}
use Rattle.model.specs.Finish.{appearing, renumber, with_names, named_by, gathered, finished}
use Rattle.theory_bodies.specs.Names.{head_field, renamed_agrees}
use Rattle.theory_image.specs.Quiet.{each_map}
use Rattle.theory_records.specs.Imported.{derived_four, gathered-tables}
use Rattle.theory_bodies.specs.Passing as Bodies
use Rattle.theory_finish.specs.Firsts.{either}
use Rattle.theory_finish.specs.Kept.{Parts}
use Rattle.theory_finish.specs.Touching.{Only}
use Rattle.theory_finish.specs.Naming.{function_names_lem, entry_names_lem, present-kept, functions_named_lem, entries_named_lem, other-fields}
use Rattle.theory_finish.specs.Finished.{renumber-only, renumber_names, renumber-apart, image-seen, names_seen, finished-differ}
use Rattle.theory_finish.specs.Cellwise.{each_to, cellwise}
use Rattle.theory_finish.specs.Tabled.{kept-differ}
use Rattle.theory_finish.specs.Linking.{LaidOut, gathered-parts, gathered-numbers}
use Rattle.theory_sessions.specs.Following.{Origin, Piece, Holds}
use Rattle.theory_sessions.specs.Entering.{EntryPiece}

-- ---- all of test 5 but one
pub record Fifth (t : Module) : Type 0 where
  pub functions_present : present (function_names t.functions) ≡ true
  pub entries_present : present (entry_names t.entries) ≡ true
  pub functions_named_lem : functions_named t.functions ≡ true
  pub entries_named_lem : entries_named t.entries ≡ true
  pub names_differ : differ (map (map word) t.names) ≡ true
  pub keys_distinct : distinct (map (field KEY) t.special.pairs) ≡ true

-- that one
pub fifth_named : {t : Module} → Fifth t → named t ≡ distinct (function_names t.functions)
unfolding named
fifth_named {t} f = rw (f.functions_present, f.entries_present, f.functions_named_lem, f.entries_named_lem, f.names_differ, f.keys_distinct) (and_right (distinct (function_names t.functions)))

-- ---- numbered by first appearance
distinct-map : (r : ℕ → ℕ) (P : ℕ → Type 0) → ((x y : ℕ) → P x → P y → r x ≡ r y → x ≡ y) → {ws : List ℕ} → Each P ws → distinct (map r ws) ≡ distinct ws
unfolding distinct absent
distinct-map r P apart each_none = refl
distinct-map r P apart (each_next {a = w} {l = ws} p ps) = ap₂ ◌&&◌ (absent-map ps) (distinct-map r P apart ps)
  where
    same : (x : ℕ) → P x → eqb (r w) (r x) ≡ eqb w x
    same x q = either (eqb w x) (λ e. eq-eqb (r w) (r x) (ap r (eqb-true w x e)) ∙ sym e) λ e. ne_eqb (r w) (r x) (λ z. eqb-false w x e (apart w x p q z)) ∙ sym e

    absent-map : {xs : List ℕ} → Each P xs → absent (map r xs) (r w) ≡ absent xs w
    absent-map each_none = refl
    absent-map (each_next {a = x} q qs) = ap₂ (λ b l. not b && l) (same x q) (absent-map qs)

module _ {t : Module} (p : Parts t) (h : numbered t ≡ true) where
  abbrev ns : List ℕ
  ns = appearing t

  abbrev t' : Module
  t' = named_by ns t

  pub fifth_again : Fifth t → Fifth t'
  unfolding named_by with_names carry carry_special
  fifth_again f =
      let o = renumber-only ns in
      let q = renumber_names ns in
      record {
        functions_present = ap present (function_names_lem o q t.functions) ∙ present-kept o q (function_names t.functions) ∙ f.functions_present;
        entries_present = ap present (entry_names_lem o q t.entries) ∙ present-kept o q (entry_names t.entries) ∙ f.entries_present;
        functions_named_lem = functions_named_lem o q t.functions ∙ f.functions_named_lem;
        entries_named_lem = entries_named_lem o q t.entries ∙ f.entries_named_lem;
        names_differ = finished-differ p h f.names_differ;
        keys_distinct = ap distinct (other-fields o q KEY refl t.special.pairs) ∙ f.keys_distinct;
      }

  -- two functions have one name exactly if two had
  pub distinct-again : distinct (function_names t'.functions) ≡ distinct (function_names t.functions)
  unfolding named_by with_names carry
  distinct-again =
      ap distinct (function_names_lem (renumber-only ns) (renumber_names ns) t.functions)
      ∙ distinct-map (renumber ns NAME) (λ w. (n : ℕ) → w ≡ suc n → Mem n ns) (renumber-apart ns) (names_seen p h (cellwise t (image-seen p h)).in_functions_lem)

-- ---- what is gathered
module _ {T : Tables} {s : Derived} {es : List Entry} (h : Holds T s) (ps : Each (EntryPiece s) es) where
  abbrev D : Module
  D = gathered s es

  here : (t : Tab) → count s.recs t ≤ count (tables D) t
  here t = rw (gathered-tables s es) (le_refl _)

  all_here : length s.functions ≤ length D.functions
  all_here = unfold gathered in le_refl _

  passing : Each (Bodies.Passes D) s.functions
  passing = each_map (λ f p. p.passes D here all_here) h.pieces

  every-by : {A : Type 0} {P : A → Type 0} (b : A → Bool) → ((a : A) → P a → b a ≡ true) → {l : List A} → Each P l → every b l ≡ true
  unfolding every
  every-by b f each_none = refl
  every-by b f (each_next {a = x} q qs) = and-true (f x q) (every-by b f qs)

  laid_out : LaidOut s es
  laid_out = record {
    functions_well = each_map (λ f p. p.well) passing;
    entries_well = each_map (λ e p. p.laid) ps;
    functions_sound = every-by (sound_function (outside D)) (λ f p. p.three) passing;
    entries_sound = every-by (sound_entry (outside D)) (λ e p. (p.passes D here all_here).0) ps;
  }

  pub parts : Parts D
  parts = gathered-parts s es h.typed laid_out

  pub three : numbered D ≡ true
  three = gathered-numbers s es h.typed laid_out

  functions_lower_lem : {fs : List Function} → Each (Bodies.Passes D) fs → (functions_lower fs ≡ true) × (all_scoped fs ≡ true)
  unfolding functions_lower all_scoped
  functions_lower_lem each_none = (refl, refl)
  functions_lower_lem (each_next p ps) = let i = functions_lower_lem ps in (and-true p.four i.0, and-true p.six i.1)

  entries_lower_lem : {es : List Entry} → Each (EntryPiece s) es → (entries_lower es ≡ true) × (entries_scoped es ≡ true) × (entries_named es ≡ true) × (present (entry_names es) ≡ true)
  unfolding entries_lower entries_scoped entries_named entry_names present
  entries_lower_lem each_none = (refl, refl, refl, refl)
  entries_lower_lem (each_next p ps) = let i = entries_lower_lem ps in let q = (p.passes D here all_here).1 in (and-true q.four i.0, and-true q.six i.1, and-true p.names i.2, and-true p.called i.3)

  functions_called : {fs : List Function} → Each (Piece s) fs → (functions_named fs ≡ true) × (present (function_names fs) ≡ true)
  unfolding functions_named function_names present
  functions_called each_none = (refl, refl)
  functions_called (each_next {a = f} p ps) =
      let i = functions_called ps in
      let q = head_field f (p.passes D here all_here).well in
      (and-true p.names i.0, and-true (ap not (ne_eqb (field NAME f.head) 0 (λ z. (let c = p.called in omega arith)))) i.1)

  pub four : lower D ≡ true
  unfolding lower gathered
  four = let f = derived_four T s es h.typed.kept in and-true f.bases (and-true f.operands (and-true f.inits (and-true (functions_lower_lem passing).0 (entries_lower_lem ps).0)))

  pub fifth : Fifth D
  unfolding gathered at
  fifth = record {
    functions_present = (functions_called h.pieces).1;
    entries_present = (entries_lower_lem ps).3;
    functions_named_lem = (functions_called h.pieces).0;
    entries_named_lem = (entries_lower_lem ps).2;
    names_differ = kept-differ h.typed.kept;
    keys_distinct = h.typed.keys;
  }

  pub six : in_scope D ≡ true
  unfolding in_scope gathered
  six = and-true (functions_lower_lem passing).1 (entries_lower_lem ps).1

-- ---- AND WHAT IS FINISHED: a module that is read back from the words that it is written in, and passes
pub record Written (m : Module) (ws : List ℕ) : Type 0 where
  pub words : ws ≡ write m
  pub reads : read ws ≡ laid m
  pub one : sized (4 * length ws) ws ≡ true
  pub three : numbered m ≡ true
  pub four : lower m ≡ true
  -- test 5 is passed unless two functions have one name
  pub fifth : Fifth m
  pub five : named m ≡ distinct (function_names m.functions)
  pub six : in_scope m ≡ true
  -- so intake's answer is 0, or 5 in that case
  pub intake : intake_of (4 * length ws) ws ≡ elim (distinct (function_names m.functions)) [ true ↦ 0 | false ↦ 5 ]

-- two functions in it have one name exactly if two in the state do
pub names_finished : {T : Tables} {s : Derived} {es : List Entry} → Holds T s → Each (EntryPiece s) es → distinct (function_names (finished s es).functions) ≡ distinct (function_names s.functions)
unfolding finished
names_finished {s} {es} h ps = names_gathered
  where
    names_gathered : distinct (function_names (named_by (appearing (gathered s es)) (gathered s es)).functions) ≡ distinct (function_names s.functions)
    names_gathered = unfold gathered in distinct-again (parts h ps) (three h ps)

-- ---- EACH FUNCTION OF IT agrees with the one that it comes from

origin_named : {ρ : ℕ → ℕ → ℕ} {s : Derived} {f : Function} → Only ρ → WellFunction f → Origin s f → Origin s (carry_function ρ f)
origin_named {ρ} {s} {f} o w p = record {
  source = p.source;
  well = p.well;
  passes = p.passes;
  function = p.function;
  is = p.is;
  under = p.under;
  kept = p.kept;
  grown = p.grown;
  agrees = λ D. renamed_agrees o p.source D _ p.function f _ w (p.agrees D);
}

pub record Origins (s : Derived) (m : Module) : Type 0 where
  pub functions : Each (Origin s) m.functions
  pub entries : Each (λ E. Origin s E.function) m.entries

pub all_origins : {T : Tables} {s : Derived} {es : List Entry} → Holds T s → Each (EntryPiece s) es → Origins s (finished s es)
unfolding finished named_by with_names carry gathered carry_entry
all_origins {T} {s} {es} h ps = record {
  functions = each_to (carry_function (renumber (appearing (gathered s es)))) (each_map (λ f p. origin_named (renumber-only (appearing (gathered s es))) (p.passes (gathered s es) (here h ps) (all_here h ps)).well p.origin) h.pieces);
  entries = each_to (carry_entry (renumber (appearing (gathered s es)))) (each_map (λ E p. origin_named (renumber-only (appearing (gathered s es))) p.laid.function-ok p.origin) ps);
}
