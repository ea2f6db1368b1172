-- A module carried by a map that touches only NAME, and given other names, passes tests 4 and 6 as before, and its initialisers reach the same: tests that look at no name answer the same.
use Rattle.std.specs.Prelude.{◌≡◌, ℕ, suc, eqb, get_or}
use Rattle.std.proofs.Math.Path.{refl, ap, ap₂}
use Rattle.std.proofs.Common.{◌∙◌, eqb-true}
use Rattle.std.proofs.Math.Bool.{true, false, ◌&&◌}
use mathlib.Core.List.{List, [], ◌∷◌, ◌++◌, map}
use Rattle.std.proofs.Math.ListN.{get_or-map}
use Rattle.model.specs.Outcome.{Cells, class, word}
use Rattle.model.specs.Table.{NAME, TYPE, CONSTANT, OVERRIDE, INIT, OPT_INIT, LOCAL-INIT, name_row, type_row, constant_row, override_row, global_row, expression_row, counted}
use Rattle.model.specs.Tree.{Function, Entry}
use Rattle.model.specs.Module.{Module, rays_row, pair_row}
use Rattle.model.specs.Carry.{carry_cell, carry_cells, carry_function, carry_entry, carry, Lays, Each, each_none, each_next, WellFunction, WellEntry, WellFormed}
use Rattle.model.specs.Operands.{optional}
use Rattle.model.specs.Initial.{inits_of as localInits, roots, reached_marks, initials, initialised}
use Rattle.model.specs.Lower.{below, bases_of, types_lower, operands_lower, functions_lower, entries_lower, init_of, inits_of, inits_lower, lower}
use Rattle.model.specs.Scope.{scoped, all_of, seen, all_scoped, entries_scoped, in_scope}
use Rattle.model.specs.Finish.{with_names}
use Rattle.theory_finish.specs.Firsts.{either}
use Rattle.theory_finish.specs.Touching.{Only, same_exprs, same-b}

-- ---- a module whose parts are well formed, however many they are
pub record Parts (t : Module) : Type 0 where
  pub names_each : Each (Lays name_row) t.names
  pub types_each : Each (Lays type_row) t.types
  pub constants_each : Each (Lays constant_row) t.constants
  pub overrides_each : Each (Lays override_row) t.overrides
  pub globals_each : Each (Lays global_row) t.globals
  pub exprs_each : Each (Lays expression_row) t.exprs
  pub functions_each : Each WellFunction t.functions
  pub entries_each : Each WellEntry t.entries
  pub rays_lays : Lays rays_row t.special.rays
  pub pairs_each : Each (Lays pair_row) t.special.pairs

pub well_parts : {t : Module} → WellFormed t → Parts t
well_parts w = record {
  names_each = w.names_ok.each;
  types_each = w.types-ok.each;
  constants_each = w.constants_ok.each;
  overrides_each = w.overrides_ok.each;
  globals_each = w.globals_ok.each;
  exprs_each = w.exprs_ok.each;
  functions_each = w.functions_ok.each;
  entries_each = w.entries_ok.each;
  rays_lays = w.rays-ok;
  pairs_each = w.pairs-ok.each;
}

module _ {m : ℕ → ℕ → ℕ} (o : Only m) where
  -- ---- cells
  bases_kept : (cs : Cells) → bases_of (carry_cells m cs) ≡ bases_of cs
  unfolding bases_of carry_cell
  bases_kept [] = refl
  bases_kept ((s, w) ∷ cs) = let i = bases_kept cs in either (eqb s NAME) (λ e. rw (eqb-true s NAME e) i) λ e. ap₂ (λ x l. elim (eqb s TYPE) [ true ↦ x ∷ l | false ↦ l ]) (o.only s w e) i

  init-kept : (cs : Cells) → init_of (carry_cells m cs) ≡ init_of cs
  unfolding init_of carry_cell
  init-kept [] = refl
  init-kept ((s, w) ∷ cs) =
      let i = init-kept cs in
      either (eqb s NAME) (λ e. rw (eqb-true s NAME e) i) λ e. ap₂ (λ x l. elim (eqb s INIT) [ true ↦ x ∷ l | false ↦ elim (eqb s OPT_INIT) [ true ↦ optional x l | false ↦ l ] ]) (o.only s w e) i

  locals_kept : (cs : Cells) (xs : List ℕ) → localInits (carry_cells m cs) xs ≡ localInits cs xs
  unfolding localInits carry_cell
  locals_kept [] xs = refl
  locals_kept ((s, w) ∷ cs) xs =
      let i = locals_kept cs xs in
      either (eqb s NAME) (λ e. rw (eqb-true s NAME e) i) λ e. ap₂ (λ x l. elim (eqb s LOCAL-INIT) [ true ↦ optional x l | false ↦ l ]) (o.only s w e) i

  roots_kept : (ls : List Cells) → roots (map (carry_cells m) ls) ≡ roots ls
  unfolding roots
  roots_kept [] = refl
  roots_kept (l ∷ ls) = locals_kept l (roots (map (carry_cells m) ls)) ∙ ap (localInits l) (roots_kept ls)

  -- ---- functions: the same expressions, roots and body
  pub exprs_same : {f : Function} → WellFunction f → map (carry_cells m) f.exprs ≡ f.exprs
  unfolding counted
  exprs_same w = same_exprs o w.exprs_ok.each

  reached-kept : {f : Function} → WellFunction f → reached_marks (carry_function m f) ≡ reached_marks f
  unfolding reached_marks carry_function
  reached-kept {f} w = rw (exprs_same w, roots_kept f.locals)

  pub initialised-kept : {f : Function} → WellFunction f → initialised (carry_function m f) ≡ initialised f
  unfolding initialised carry_function
  initialised-kept w = rw (reached-kept w, exprs_same w)

  pub initials-kept : {f : Function} → WellFunction f → initials (carry_function m f) ≡ initials f
  unfolding initials carry_function
  initials-kept w = rw (reached-kept w, exprs_same w)

  scoped-kept : {f : Function} → WellFunction f → scoped (carry_function m f) ≡ scoped f
  unfolding scoped all_of seen carry_function
  scoped-kept w = rw (initials-kept w, same-b o w.body_ok, exprs_same w)

  -- ---- test 6
  functions_scoped_lem : {fs : List Function} → Each WellFunction fs → all_scoped (map (carry_function m) fs) ≡ all_scoped fs
  unfolding all_scoped
  functions_scoped_lem each_none = refl
  functions_scoped_lem (each_next w ws) = ap₂ ◌&&◌ (scoped-kept w) (functions_scoped_lem ws)

  entries_scoped_lem : {es : List Entry} → Each WellEntry es → entries_scoped (map (carry_entry m) es) ≡ entries_scoped es
  unfolding entries_scoped carry_entry
  entries_scoped_lem each_none = refl
  entries_scoped_lem (each_next w ws) = ap₂ ◌&&◌ (scoped-kept w.function-ok) (entries_scoped_lem ws)

  -- ---- test 4
  types-kept : (rs : List Cells) (k : ℕ) → types_lower (map (carry_cells m) rs) k ≡ types_lower rs k
  unfolding types_lower
  types-kept [] k = refl
  types-kept (r ∷ rs) k = ap₂ (λ l x. below l k && x) (bases_kept r) (types-kept rs (suc k))

  init-at : (ks : List Cells) (n : ℕ) → init_of (get_or (map (carry_cells m) ks) n []) ≡ init_of (get_or ks n [])
  init-at ks n = ap init_of (get_or-map (carry_cells m) ks n []) ∙ init-kept (get_or ks n [])

  inits_of_lem : (cs : Cells) (ks os : List Cells) → inits_of cs (map (carry_cells m) ks) (map (carry_cells m) os) ≡ inits_of cs ks os
  unfolding inits_of
  inits_of_lem [] ks os = refl
  inits_of_lem (c ∷ cs) ks os = λ i.
      elim (eqb (class c) CONSTANT) [
        | true ↦ init-at ks (word c) i ++ inits_of_lem cs ks os i
        | false ↦ elim (eqb (class c) OVERRIDE) [ true ↦ init-at os (word c) i ++ inits_of_lem cs ks os i | false ↦ inits_of_lem cs ks os i ]
      ]

  inits-kept : (xs ks os : List Cells) (k : ℕ) → inits_lower xs (map (carry_cells m) ks) (map (carry_cells m) os) k ≡ inits_lower xs ks os k
  unfolding inits_lower
  inits-kept [] ks os k = refl
  inits-kept (x ∷ xs) ks os k = ap₂ (λ l r. below l k && r) (inits_of_lem x ks os) (inits-kept xs ks os (suc k))

  functions_lower_lem : {fs : List Function} → Each WellFunction fs → functions_lower (map (carry_function m) fs) ≡ functions_lower fs
  unfolding functions_lower carry_function
  functions_lower_lem each_none = refl
  functions_lower_lem (each_next w ws) = ap₂ (λ l r. operands_lower l 0 && r) (exprs_same w) (functions_lower_lem ws)

  entries_lower_lem : {es : List Entry} → Each WellEntry es → entries_lower (map (carry_entry m) es) ≡ entries_lower es
  unfolding entries_lower carry_entry carry_function
  entries_lower_lem each_none = refl
  entries_lower_lem (each_next w ws) = ap₂ (λ l r. operands_lower l 0 && r) (exprs_same w.function-ok) (entries_lower_lem ws)

  module _ (ns : List Cells) {t : Module} (p : Parts t) where
    pub table_same : map (carry_cells m) t.exprs ≡ t.exprs
    unfolding expression_row
    table_same = same_exprs o p.exprs_each

    -- LAW: test 4 answers the same
    pub carried-lower : lower (with_names ns (carry m t)) ≡ lower t
    unfolding lower with_names carry
    carried-lower = rw (table_same, types-kept t.types 0, inits-kept t.exprs t.constants t.overrides 0, functions_lower_lem p.functions_each, entries_lower_lem p.entries_each)

    -- LAW: test 6 answers the same
    pub carried_scope : in_scope (with_names ns (carry m t)) ≡ in_scope t
    unfolding in_scope with_names carry
    carried_scope = ap₂ ◌&&◌ (functions_scoped_lem p.functions_each) (entries_scoped_lem p.entries_each)
