-- TESTS 4, 5 AND 6 of the derived functions and entry points.
use Rattle.std.proofs.Math.Path.{◌≡◌, refl, sym, ap}
use Rattle.std.proofs.Common.{◌∙◌, ne_eqb}
use Rattle.std.proofs.Math.Bool.{true, not}
use Rattle.std.proofs.lemmas.Bool.{false≢true}
use mathlib.Core.List.{List, [], ◌∷◌, ◌++◌, append-nil}
use Rattle.std.proofs.Math.Option.{some}
use Prim.Native.Nat.{ℕ, zero, suc, ◌<◌, pred}
use native.Mathlib.Omega.{arith}
use Rattle.std.specs.Prelude.{eqb, length}
use Rattle.std.proofs.Math.ListN.{get_elem?}
use Rattle.theory_lists.specs.Booleans.{and-true, and_split}
use Rattle.model.specs.Outcome.{Cells}
use Rattle.model.specs.Table.{NAME}
use Rattle.model.specs.Tree.{Function, Entry}
use Rattle.model.specs.Module.{Module}
use Rattle.model.specs.Carry.{carry_cell, Each, WellFunction, WellFormed}
use Rattle.model.specs.Intake.{Passes}
use Rattle.model.specs.Initial.{Mem, here, there}
use Rattle.model.specs.Lower.{operands_lower, functions_lower, entries_lower}
use Rattle.model.specs.Names.{field, present, absent, distinct, expressions_named, functions_named, entries_named, function_names, entry_names, named}
use Rattle.model.specs.Scope.{scoped, all_scoped, entries_scoped, in_scope}
use Rattle.model.specs.Calls.{ordered}
use Rattle.model.specs.Callees.{order_of}
use Rattle.model.specs.Redirect.{function as function_at}
use Rattle.model.specs.Tables.{names, at, tables, count, map_at}
use Rattle.model.specs.Numbers.{outside, inside}
use Rattle.theory_bodies.specs.EntryHeads.{Head, headed, entry_head_lem}
use Rattle.theory_bodies.specs.Names.{head_field, derived-named}
use Rattle.theory_records.specs.Imported.{import_kept}
use Rattle.theory_finish.specs.Cellwise.{each_first}
use Rattle.theory_finish.specs.Finished.{Low, within_low}
use Rattle.model.specs.References.{table, opt, target, targets, ref_of, refs, fold_refs, carry_w, through, moved, shift, index_of}
use Rattle.model.specs.Imports.{Derived, import_t}
use Rattle.model.specs.Bodies.{Builder, carried, bring, step, mapped_to, final, localized, follow, entered, entry_made, entries_made}
use Rattle.model.specs.Finish.{gathered}
use Rattle.model.specs.Agreement.{Among, first, later}
use Rattle.theory_finish.specs.Firsts.{Once, once-next}
use Rattle.theory_finish.specs.Fresh.{state_at}
use Rattle.theory_finish.specs.Known.{name_table}
use Rattle.theory_finish.specs.Known as Known
use Rattle.theory_finish.specs.Linking.{Tests}
use Rattle.theory_finish.specs.Counting.{order-once}
use Rattle.theory_bodies.specs.Theorems as Theorems
use Rattle.theory_link.specs.Function.{Going, Called, at_i, pass, calls-all, follows, start, again}
use Rattle.theory_link.specs.Order.{good_at, functions_made, last, Any, any_follows, at-end, Sound, calls-any, entry_going, entry-sound, again as entry-again}
use Rattle.theory_link.specs.Places.{Both, both-none, both-next, functions_both, goes_on, Bearing, bearing, name_of, name_once}
use Rattle.theory_link.specs.Walking.{end, end_going, head_within, body_good}

-- ---- what is shown of each function
pub record Fit (f : Function) : Type 0 where
  pub names : expressions_named f ≡ true
  pub lowers : operands_lower f.exprs 0 ≡ true
  pub scope : scoped f ≡ true

all-lower : {is : List ℕ} {fs : List Function} → Both (λ i f. Fit f) is fs → (functions_lower fs ≡ true) × (all_scoped fs ≡ true) × (functions_named fs ≡ true)
unfolding functions_lower all_scoped functions_named
all-lower both-none = (refl, refl, refl)
all-lower (both-next r b) = let i = all-lower b in (and-true r.lowers i.0, and-true r.scope i.1, and-true r.names i.2)

module _ (m : Module) (well : WellFormed m) (ok : Passes m) (os : List ℕ) (e : order_of m ≡ ordered os) where
  abbrev z : Derived
  z = last m well ok os e

  abbrev fine : Derived
  fine = end m well ok os e

  abbrev es : List Entry
  es = entries_made m.entries 0 m z

  -- ---- 5, of the source
  record Five : Type 0 where
    in_entry_lem : present (entry_names m.entries) ≡ true
    in_functions_lem : functions_named m.functions ≡ true
    in_entries_lem : entries_named m.entries ≡ true

  five : Five
  unfolding named
  five =
      let h₁ = and_split (present (function_names m.functions)) _ ok.names in
      let h₂ = and_split (present (entry_names m.entries)) _ h₁.1 in
      let h₃ = and_split (functions_named m.functions) _ h₂.1 in
      let h₄ = and_split (entries_named m.entries) _ h₃.1 in
      record { in_entry_lem = h₂.0; in_functions_lem = h₃.0; in_entries_lem = h₄.0 }

  named-at : (fs : List Function) → functions_named fs ≡ true → (i : ℕ) (F : Function) → get_elem? fs i ≡ some F → expressions_named F ≡ true
  unfolding functions_named
  named-at [] h i F q = let y : ◌≡◌ {A = ℕ} 0 1 = cc in absurd (omega arith)
  named-at (g ∷ fs) h zero F q = let r : g ≡ F = cc in rw r at (and_split (expressions_named g) (functions_named fs) h).0
  named-at (g ∷ fs) h (suc i) F q = named-at fs (and_split (expressions_named g) (functions_named fs) h).1 i F q

  function-named : (us vs : List ℕ) (i : ℕ) (q : os ≡ us ++ (i ∷ vs)) → expressions_named (localized 0 m (follow 0 m) (function_at m i) (state_at m us)) ≡ true
  function-named us vs i q = derived-named 0 m (follow 0 m) (function_at m i) (state_at m us) (named-at m.functions five.in_functions_lem i (function_at m i) (at_i m well ok os e us vs i q)) (Theorems.names_mapped m well ok.numbers ok.lowers 0 (follow 0 m) (Called m well ok os e i) (Going m (state_at m us)) (follows m well ok os e us vs i q) (function_at m i) (pass m well ok os e us vs i q) (calls-all m well ok os e us vs i q) (state_at m us) (start m well ok os e us vs i q (good_at m well ok os e us (i ∷ vs) q)))

  entry_named : (E : Entry) (k : Sound m E) (s : Derived) (g : Going m z s) → expressions_named E.function ≡ true → expressions_named (localized 0 m (follow 0 m) E.function s) ≡ true
  entry_named E k s g h = derived-named 0 m (follow 0 m) E.function s h (Theorems.names_mapped m well ok.numbers ok.lowers 0 (follow 0 m) (Any m well ok os e) (Going m z) (any_follows m well ok os e) E.function k.pass (calls-any m well ok os e E k s g) s g)

  -- the name of an entry point
  named_head_at : {r : Cells} → Head r → (y : Builder) → not (eqb (field NAME r) 0) ≡ true → ((n : ℕ) → field NAME r ≡ suc n → 0 < map_at (import_t 0 (tables m) names n y.out).maps names n)
      → not (eqb (field NAME (carried 0 m (fold_refs (refs r) (step 0 m (follow 0 m) (λ x n. n)) y) r)) 0) ≡ true
  unfolding field refs ref_of target targets carried shift carry_cell moved
  named_head_at (headed {v}) y k h = go v k h
    where
      go : (v : ℕ) → not (eqb v 0) ≡ true → ((n : ℕ) → v ≡ suc n → 0 < map_at (import_t 0 (tables m) names n y.out).maps names n) → not (eqb (through (mapped_to m (fold_refs (ref_of (opt (table names)) v []) (step 0 m (follow 0 m) (λ x n. n)) y)) NAME v) 0) ≡ true
      go zero k h = absurd (false≢true k)
      go (suc n) k h = unfold ref_of fold_refs step bring through carry_w mapped_to in ap not (ne_eqb (map_at (import_t 0 (tables m) names n y.out).maps names n) 0 (λ q. (let x = h n refl in omega arith)))

  -- ---- 4 and 6
  functions_fit : Both (λ i f. Fit f) os z.functions
  functions_fit = functions_both m well ok os e (λ i f. Fit f) os [] (rw (append-nil os)) (λ us vs i q. let a = again m well ok os e us vs i q (good_at m well ok os e us (i ∷ vs) q) in record { names = function-named us vs i q; lowers = a.four; scope = a.six })

  pub head_low : (E : Entry) → Sound m E → (n : ℕ) → field NAME E.head ≡ suc n → n < count (tables m) names
  unfolding field inside outside count tables at
  head_low E k n q = at_head (entry_head_lem k.laid) (within_low (inside (outside m) E.function) E.head (head_within m well ok os e E k)) q
    where
      at_head : {r : Cells} → Head r → Each (Low (inside (outside m) E.function).names) r → field NAME r ≡ suc n → n < count (tables m) names
      at_head (headed {v}) c q = let z : v ≡ suc n = q in let y : v < suc (length m.names) = each_first c refl in omega arith

  entry-present : (E : Entry) → (k : Sound m E) (s : Derived) → Going m z s → not (eqb (field NAME E.head) 0) ≡ true → not (eqb (field NAME (entry_made 0 m E s).head) 0) ≡ true
  unfolding entry_made entered
  entry-present E k s g h = named_head_at (entry_head_lem k.laid) (final 0 m (follow 0 m) E.function s) h (λ n q. (import_kept m well ok.numbers ok.lowers 0 names n (final 0 m (follow 0 m) E.function s).out (head_low E k n q) (body_good m well ok os e E k s g)).1)

  made_facts : (E : Entry) (k : Sound m E) (s : Derived) (g : Going m z s) → expressions_named E.function ≡ true → (operands_lower (entry_made 0 m E s).function.exprs 0 ≡ true) × (scoped (entry_made 0 m E s).function ≡ true) × (expressions_named (entry_made 0 m E s).function ≡ true)
  unfolding entry_made
  made_facts E k s g h = let a = entry-again m well ok os e E k s g in (a.four, a.six, entry_named E k s g h)

  record Entries (ds : List Entry) : Type 0 where
    lowers : entries_lower ds ≡ true
    scopes : entries_scoped ds ≡ true
    presents : present (entry_names ds) ≡ true
    nameds : entries_named ds ≡ true

  entries_fit : (ds : List Entry) → ((E : Entry) → Among E ds → Sound m E) → present (entry_names ds) ≡ true → entries_named ds ≡ true → (s : Derived) → Going m z s → Entries (entries_made ds 0 m s)
  unfolding entries_made entries_lower entries_scoped entry_names present entries_named
  entries_fit [] h p n s g = record { lowers = refl; scopes = refl; presents = refl; nameds = refl }
  entries_fit (E ∷ ds) h p n s g =
      let k = h E first in
      let p₁ = and_split (not (eqb (field NAME E.head) 0)) (present (entry_names ds)) p in
      let n₁ = and_split (expressions_named E.function) (entries_named ds) n in
      let i = entries_fit ds (λ D k. h D (later k)) p₁.1 n₁.1 (entered 0 m E s).out (entry_going m well ok os e E k s g) in
      let a : (operands_lower (entry_made 0 m E s).function.exprs 0 ≡ true) × (scoped (entry_made 0 m E s).function ≡ true) × (expressions_named (entry_made 0 m E s).function ≡ true) = made_facts E k s g n₁.0 in
      record { lowers = and-true a.0 i.lowers; scopes = and-true a.1 i.scopes; presents = and-true (entry-present E k s g p₁.0) i.presents; nameds = and-true a.2 i.nameds }

  -- ---- 5: the functions' names
  abbrev Names : ℕ → Function → Type 0
  Names i f = Bearing m well ok os e fine i f × WellFunction f

  all_names : Both Names os z.functions
  all_names = functions_both m well ok os e Names os [] (rw (append-nil os)) (λ us vs i q. (bearing m well ok os e us vs i q fine (Known.follows_trans (to_last us vs i q (goes_on m well ok os e us vs i q vs)) (end_going m well ok os e).after), (functions_made m well ok os e us vs i q).well))
    where
      to_last : (us vs : List ℕ) (i : ℕ) → os ≡ us ++ (i ∷ vs) → {a : Derived} → Known.Follows (tables m) a (state_at m (us ++ (i ∷ vs))) → Known.Follows (tables m) a (state_at m os)
      to_last us vs i q f = rw q f

  names_present : {is : List ℕ} {fs : List Function} → Both Names is fs → present (function_names fs) ≡ true
  unfolding function_names present
  names_present both-none = refl
  names_present (both-next {f} r b) = and-true (ap not (ne_eqb (field NAME f.head) 0 (λ q. (let x = head_field f r.1 in let y = r.0.1 in omega arith)))) (names_present b)

  none-same : {is : List ℕ} {fs : List Function} (j : ℕ) → (Mem j is → ⊥) → j < length m.functions → Both Names is fs → absent (function_names fs) (suc (index_of (name_table fine) (name_of m well ok j))) ≡ true
  unfolding function_names absent
  none-same j h l both-none = refl
  none-same j h l (both-next {i} {f} r b) =
      and-true (ap not (ne_eqb _ _ (λ q. h (same-one (name_once m well ok (name_table fine) i j r.0.0 l (ap pred (sym r.0.1 ∙ (sym (head_field f r.1) ∙ sym q))) r.0.2)))))
      (none-same j (λ k. h (there k)) l b)
    where
      same-one : i ≡ j → {is : List ℕ} → Mem j (i ∷ is)
      same-one q = rw q here

  names_apart : {is : List ℕ} {fs : List Function} → Once is → Both Names is fs → distinct (function_names fs) ≡ true
  unfolding function_names distinct
  names_apart o both-none = refl
  names_apart (once-next h o) (both-next {i} {f} {fs = fs} r b) = and-true {a = absent (function_names fs) (field NAME f.head)} (rw (head_field f r.1, r.0.1) (none-same i h r.0.0 b)) (names_apart o b)

  -- THE TESTS
  pub tests : Tests fine es
  tests =
      let f = all-lower functions_fit in
      let n = entries_fit m.entries (entry-sound m well ok os e) five.in_entry_lem five.in_entries_lem z (at-end m well ok os e) in
      let q = (end_going m well ok os e).same in
      record {
        functions_lower_lem = rw q f.0;
        entries_lower_lem = n.lowers;
        functions_present = rw q (names_present all_names);
        entries_present = n.presents;
        functions_named_lem = rw q f.2;
        entries_named_lem = n.nameds;
        names_apart = rw q (names_apart (order-once m os e) all_names);
        scope = unfold in_scope gathered in and-true {a = all_scoped fine.functions} (rw q f.1) n.scopes;
      }
