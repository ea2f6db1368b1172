-- Every function and every entry point of a module that passed intake passes its tests (`Passes`), and a session that has derived no function yet is one that imports may start from (`Good`).
use Rattle.std.specs.Prelude.{ℕ, zero, suc, ◌≡◌, Bool, true, List, [], ◌∷◌, ◌++◌}
use Rattle.std.proofs.Common.{subst, arith}
use Rattle.std.proofs.Math.Option.{some}
use Rattle.std.proofs.Math.ListN.{get_elem?}
use Rattle.theory_lists.specs.Booleans.{and_split}
use Rattle.model.specs.Tree.{Function, Entry, flat, flat_entry}
use Rattle.model.specs.Module.{Module}
use Rattle.model.specs.Carry.{Each, each_none, each_next, WellFormed}
use Rattle.model.specs.Numbers.{within, ordered, every, outside, inside, constant_only, sound, sound_function, sound_entry, numbered}
use Rattle.model.specs.Lower.{types_lower, operands_lower, functions_lower, entries_lower, inits_lower, lower}
use Rattle.model.specs.Initial.{initialised}
use Rattle.model.specs.Scope.{all_scoped, entries_scoped, in_scope}
use Rattle.model.specs.Tables.{tables}
use Rattle.model.specs.Imports.{Derived}
use Rattle.theory_finish.proofs.Words.{rises_right}
use Rattle.theory_image.specs.Within.{within-append}
use Rattle.theory_walks.proofs.FunctionProof.{scoped_at, entry_at}
use Rattle.theory_records.specs.Imported.{Kept}
use Rattle.theory_bodies.specs.Passing.{Passes}
use Rattle.theory_bodies.specs.Lawful.{Good}

each_is : {A : Type 0} {P : A → Type 0} {l : List A} → Each P l → (i : ℕ) (a : A) → get_elem? l i ≡ some a → P a
each_is each_none i a e = let z : ◌≡◌ {A = ℕ} 0 1 = cc in absurd (omega arith)
each_is {P} (each_next {a = b} p ps) zero a e = let q : b ≡ a = cc in subst P q p
each_is (each_next p ps) (suc i) a e = each_is ps i a e

every_is : {A : Type 0} (p : A → Bool) (l : List A) → every p l ≡ true → (i : ℕ) (a : A) → get_elem? l i ≡ some a → p a ≡ true
unfolding every
every_is p [] h i a e = let z : ◌≡◌ {A = ℕ} 0 1 = cc in absurd (omega arith)
every_is p (b ∷ l) h zero a e = let q : b ≡ a = cc in subst (λ x. p x ≡ true) q (and_split (p b) (every p l) h).0
every_is p (b ∷ l) h (suc i) a e = every_is p l (and_split (p b) (every p l) h).1 i a e

functions_lower_lem : (fs : List Function) → functions_lower fs ≡ true → (i : ℕ) (F : Function) → get_elem? fs i ≡ some F → operands_lower F.exprs 0 ≡ true
unfolding functions_lower
functions_lower_lem [] h i F e = let z : ◌≡◌ {A = ℕ} 0 1 = cc in absurd (omega arith)
functions_lower_lem (g ∷ fs) h zero F e = let q : g ≡ F = cc in subst (λ (x : Function). operands_lower x.exprs 0 ≡ true) q (and_split (operands_lower g.exprs 0) (functions_lower fs) h).0
functions_lower_lem (g ∷ fs) h (suc i) F e = functions_lower_lem fs (and_split (operands_lower g.exprs 0) (functions_lower fs) h).1 i F e

entries_lower_lem : (es : List Entry) → entries_lower es ≡ true → (i : ℕ) (E : Entry) → get_elem? es i ≡ some E → operands_lower E.function.exprs 0 ≡ true
unfolding entries_lower
entries_lower_lem [] h i E e = let z : ◌≡◌ {A = ℕ} 0 1 = cc in absurd (omega arith)
entries_lower_lem (g ∷ es) h zero E e = let q : g ≡ E = cc in subst (λ (x : Entry). operands_lower x.function.exprs 0 ≡ true) q (and_split (operands_lower g.function.exprs 0) (entries_lower es) h).0
entries_lower_lem (g ∷ es) h (suc i) E e = entries_lower_lem es (and_split (operands_lower g.function.exprs 0) (entries_lower es) h).1 i E e

module _ (M : Module) (well : WellFormed M) (three : numbered M ≡ true) (four : lower M ≡ true) (six : in_scope M ≡ true) where
  threes : (every (sound_function (outside M)) M.functions ≡ true) × (every (sound_entry (outside M)) M.entries ≡ true)
  unfolding numbered
  threes =
      let a = and_split (every (within (outside M)) M.types) _ three in
      let b = and_split (every (within (outside M)) M.constants) _ a.1 in
      let c = and_split (every (within (outside M)) M.overrides) _ b.1 in
      let d = and_split (every (within (outside M)) M.globals) _ c.1 in
      let e = and_split (every (within (outside M)) M.exprs) _ d.1 in
      let f = and_split (every constant_only M.exprs) _ e.1 in
      let g = and_split (every (sound_function (outside M)) M.functions) _ f.1 in
      (g.0, (and_split (every (sound_entry (outside M)) M.entries) _ g.1).0)

  fours : (functions_lower M.functions ≡ true) × (entries_lower M.entries ≡ true)
  unfolding lower
  fours =
      let a = and_split (types_lower M.types 0) _ four in
      let b = and_split (operands_lower M.exprs 0) _ a.1 in
      let c = and_split (inits_lower M.exprs M.constants M.overrides 0) _ b.1 in
      let d = and_split (functions_lower M.functions) _ c.1 in
      (d.0, d.1)

  sixes : (all_scoped M.functions ≡ true) × (entries_scoped M.entries ≡ true)
  unfolding in_scope
  sixes = and_split (all_scoped M.functions) _ six

  pub function-passes : (i : ℕ) (F : Function) → get_elem? M.functions i ≡ some F → Passes M F
  function-passes i F e = record {
    well = each_is well.functions_ok.each i F e;
    three = every_is (sound_function (outside M)) M.functions threes.0 i F e;
    four = functions_lower_lem M.functions fours.0 i F e;
    six = scoped_at M.functions sixes.0 i F e;
  }

  entry-sound : (E : Entry) → sound_entry (outside M) E ≡ true → sound_function (outside M) E.function ≡ true
  unfolding sound flat_entry
  entry-sound E h =
      let b = inside (outside M) E.function in
      let a = and_split (within b (E.head ++ flat E.function)) _ h in
      let d = and_split (ordered (E.head ++ flat E.function)) (initialised E.function) a.1 in
      rw ((within-append b E.head (flat E.function) a.0).1, rises_right E.head (flat E.function) d.0) d.1

  pub entry-passes : (i : ℕ) (E : Entry) → get_elem? M.entries i ≡ some E → Passes M E.function
  entry-passes i E e = record {
    well = (each_is well.entries_ok.each i E e).function-ok;
    three = entry-sound E (every_is (sound_entry (outside M)) M.entries threes.1 i E e);
    four = entries_lower_lem M.entries fours.1 i E e;
    six = entry_at M.entries sixes.1 i E e;
  }

-- before any function is derived
pub good_start : (M : Module) (s : Derived) → Kept (tables M) s → s.functions ≡ [] → Good M s
good_start M s k e = record { kept = k; named = rw e tt }
