-- Tests 4 and 5 and what initialisers reach: what looks at neither Calls nor CallResults stays the same.
use mathlib.Core.Path.{◌≡◌, refl, ap, ap₂, ◌∙◌}
use mathlib.Core.Bool.{Bool, true, false, ◌&&◌, not}
use mathlib.Core.Option.{some}
use mathlib.Core.List.{List, [], ◌∷◌, ◌++◌, map}
use Prim.Native.Nat.{ℕ, zero, suc}
use lib.Dec.{eqb}
use lib.ListN.{length, get_or, replicate, length-map}
use Rattle.model.specs.Outcome.{Cells}
use Rattle.model.specs.Table.{NAME, NAMED-EXPR, CALLEE, FUNCTION, RESULT, OPT_RESULT, LOCAL-INIT}
use Rattle.model.specs.Tree.{Function, Entry, opt_of}
use Rattle.model.specs.Module.{Module}
use Rattle.model.specs.Carry.{carry_cell, carry_cells, carry_function, carry_entry}
use Rattle.model.specs.Operands.{optional, operand, ops_of, result_of, function_of, kind, ops, kind_at, standing, standing_kind, constant_kind}
use Rattle.model.specs.Initial.{Marks, inits_of, roots, mark, unmarked, read_by, close, reached_marks, moving, initials, constant_at, initialised}
use Rattle.model.specs.Lower.{below, operands_lower, functions_lower, entries_lower, lower}
use Rattle.model.specs.Names.{field, expressions_named, functions_named, entries_named, function_names, entry_names, named}
use Rattle.model.specs.Redirect.{name_word, redirecting, redirect_fn, redirect_entry, stays, redirect_fns, with_functions, with_entries, redirect}
use Rattle.redirect_words.proofs.Differing.{by-class}

module _ (a b : ℕ) where
  abbrev pub turn : ℕ → ℕ → ℕ
  turn = redirecting a b

  -- a function that stays, or changes
  abbrev pub pick : Bool → Function → Function
  pick x f = elim x [ true ↦ f | false ↦ redirect_fn a b f ]

  -- ---- cells
  pub ops-kept : (cs : Cells) → ops_of (carry_cells turn cs) ≡ ops_of cs
  unfolding ops_of operand carry_cell
  ops-kept [] = refl
  ops-kept ((s, w) ∷ cs) = let i = ops-kept cs in by-class a b s w (λ e. ap₂ (operand s) e i) (λ e. rw e i) (λ e. rw e i)

  pub result_kept : (cs : Cells) → result_of (carry_cells turn cs) ≡ result_of cs
  unfolding result_of carry_cell
  result_kept [] = refl
  result_kept ((s, w) ∷ cs) = let i = result_kept cs in by-class a b s w (λ e. ap₂ (λ x r. elim (eqb s RESULT) [ true ↦ some x | false ↦ elim (eqb s OPT_RESULT) [ true ↦ opt_of x | false ↦ r ] ]) e i) (λ e. rw e i) (λ e. rw e i)

  pub kind-kept : (cs : Cells) → kind (carry_cells turn cs) ≡ kind cs
  unfolding kind carry_cell
  kind-kept [] = refl
  kind-kept ((s, w) ∷ cs) = by-class a b s w (λ e. rw e) (λ e. rw e) (λ e. rw e)

  inits-kept : (cs : Cells) (xs : List ℕ) → inits_of (carry_cells turn cs) xs ≡ inits_of cs xs
  unfolding inits_of carry_cell
  inits-kept [] xs = refl
  inits-kept ((s, w) ∷ cs) xs = let i = inits-kept cs xs in by-class a b s w (λ e. ap₂ (λ x r. elim (eqb s LOCAL-INIT) [ true ↦ optional x r | false ↦ r ]) e i) (λ e. rw e i) (λ e. rw e i)

  field-kept : (k : ℕ) → eqb CALLEE k ≡ false → eqb FUNCTION k ≡ false → (cs : Cells) → field k (carry_cells turn cs) ≡ field k cs
  unfolding field carry_cell
  field-kept k p q [] = refl
  field-kept k p q ((s, w) ∷ cs) = let i = field-kept k p q cs in by-class a b s w (λ e. ap₂ (λ x r. elim (eqb s k) [ true ↦ x | false ↦ r ]) e i) (λ e. rw (e, field, p) i) (λ e. rw (e, field, q) i)

  -- ---- records by number
  get_d_carried : (xs : List Cells) (e : ℕ) → get_or (map (carry_cells turn) xs) e [] ≡ carry_cells turn (get_or xs e [])
  get_d_carried [] zero = refl
  get_d_carried [] (suc e) = refl
  get_d_carried (x ∷ xs) zero = refl
  get_d_carried (x ∷ xs) (suc e) = get_d_carried xs e

  pub kind_at_kept : (xs : List Cells) (e : ℕ) → kind_at (map (carry_cells turn) xs) e ≡ kind_at xs e
  unfolding kind_at
  kind_at_kept xs e = ap kind (get_d_carried xs e) ∙ kind-kept (get_or xs e [])

  pub ops_at_kept : (xs : List Cells) (e : ℕ) → ops (map (carry_cells turn) xs) e ≡ ops xs e
  unfolding ops
  ops_at_kept xs e = ap ops_of (get_d_carried xs e) ∙ ops-kept (get_or xs e [])

  pub function_at_is : (xs : List Cells) (e : ℕ) → function_of (get_or (map (carry_cells turn) xs) e []) ≡ function_of (carry_cells turn (get_or xs e []))
  function_at_is xs e = ap function_of (get_d_carried xs e)

  pub standing-kept : (xs : List Cells) (e : ℕ) → standing (map (carry_cells turn) xs) e ≡ standing xs e
  unfolding standing
  standing-kept xs e = ap standing_kind (kind_at_kept xs e)

  -- ---- initialisers
  roots_kept : (ls : List Cells) → roots (map (carry_cells turn) ls) ≡ roots ls
  unfolding roots
  roots_kept [] = refl
  roots_kept (l ∷ ls) = inits-kept l (roots (map (carry_cells turn) ls)) ∙ ap (inits_of l) (roots_kept ls)

  read_by_kept : (m : Marks) (xs : List Cells) → read_by m (map (carry_cells turn) xs) ≡ read_by m xs
  unfolding read_by
  read_by_kept [] xs = refl
  read_by_kept (x ∷ m) [] = refl
  read_by_kept (true ∷ m) (x ∷ xs) = ap₂ ◌++◌ (ops-kept x) (read_by_kept m xs)
  read_by_kept (false ∷ m) (x ∷ xs) = read_by_kept m xs

  close-kept : (n : ℕ) (xs : List Cells) (m : Marks) → close n (map (carry_cells turn) xs) m ≡ close n xs m
  unfolding close
  close-kept zero xs m = refl
  close-kept (suc n) xs m =
      ap {B = Marks} (λ r. elim (eqb (unmarked (mark r m)) (unmarked m)) [ true ↦ m | false ↦ close n (map (carry_cells turn) xs) (mark r m) ]) (read_by_kept m xs)
      ∙ ap {B = Marks} (λ l. elim (eqb (unmarked (mark (read_by m xs) m)) (unmarked m)) [ true ↦ m | false ↦ l ]) (close-kept n xs (mark (read_by m xs) m))

  reached-kept : (f : Function) → reached_marks (carry_function turn f) ≡ reached_marks f
  unfolding reached_marks carry_function
  reached-kept f =
      rw (length-map f.exprs (carry_cells turn), roots_kept f.locals) (close-kept (length f.exprs) f.exprs (mark (roots f.locals) (replicate (length f.exprs) false)))

  moving-kept : (m : Marks) (xs : List Cells) → moving m (map (carry_cells turn) xs) ≡ moving m xs
  unfolding moving
  moving-kept [] xs = refl
  moving-kept (x ∷ m) [] = refl
  moving-kept (x ∷ m) (y ∷ xs) = ap₂ (λ k l. (x && not (standing_kind k)) ∷ l) (kind-kept y) (moving-kept m xs)

  pub initials-kept : (f : Function) → initials (carry_function turn f) ≡ initials f
  unfolding initials carry_function
  initials-kept f = ap (λ m. moving m (map (carry_cells turn) f.exprs)) (reached-kept f) ∙ moving-kept (reached_marks f) f.exprs

  constant-kept : (m : Marks) (xs : List Cells) → constant_at m (map (carry_cells turn) xs) ≡ constant_at m xs
  unfolding constant_at
  constant-kept [] xs = refl
  constant-kept (x ∷ m) [] = refl
  constant-kept (true ∷ m) (y ∷ xs) = ap₂ (λ k l. constant_kind k && l) (kind-kept y) (constant-kept m xs)
  constant-kept (false ∷ m) (y ∷ xs) = constant-kept m xs

  pub initialised-kept : (f : Function) → initialised (carry_function turn f) ≡ initialised f
  unfolding initialised carry_function
  initialised-kept f = ap (λ m. constant_at m (map (carry_cells turn) f.exprs)) (reached-kept f) ∙ constant-kept (reached_marks f) f.exprs

  -- ---- test 4
  operands-kept : (xs : List Cells) (e : ℕ) → operands_lower (map (carry_cells turn) xs) e ≡ operands_lower xs e
  unfolding operands_lower
  operands-kept [] e = refl
  operands-kept (x ∷ xs) e = ap₂ (λ l r. below l e && r) (ops-kept x) (operands-kept xs (suc e))

  lower_fn : (x : Bool) (f : Function) → operands_lower (pick x f).exprs 0 ≡ operands_lower f.exprs 0
  unfolding redirect_fn carry_function
  lower_fn true f = refl
  lower_fn false f = operands-kept f.exprs 0

  lower_fns : (fs : List Function) (j : ℕ) (omit : List ℕ) → functions_lower (redirect_fns fs j a b omit) ≡ functions_lower fs
  unfolding functions_lower redirect_fns
  lower_fns [] j omit = refl
  lower_fns (f ∷ fs) j omit = ap₂ ◌&&◌ (lower_fn (stays b omit j (name_word f)) f) (lower_fns fs (suc j) omit)

  lower_points : (es : List Entry) → entries_lower (map (redirect_entry a b) es) ≡ entries_lower es
  unfolding entries_lower redirect_entry carry_entry carry_function
  lower_points [] = refl
  lower_points (e ∷ es) = ap₂ ◌&&◌ (operands-kept e.function.exprs 0) (lower_points es)

  -- LAW
  pub redirect-lower : (m : Module) (omit : List ℕ) → lower (redirect m a b omit) ≡ lower m
  unfolding lower redirect with_functions with_entries
  redirect-lower m omit = rw (lower_fns m.functions 0 omit, lower_points m.entries)

  -- ---- test 5
  fields-kept : (k : ℕ) → eqb CALLEE k ≡ false → eqb FUNCTION k ≡ false → (rs : List Cells) → map (field k) (map (carry_cells turn) rs) ≡ map (field k) rs
  fields-kept k p q [] = refl
  fields-kept k p q (r ∷ rs) = ap₂ ◌∷◌ (field-kept k p q r) (fields-kept k p q rs)

  expressions-kept : (f : Function) → expressions_named (carry_function turn f) ≡ expressions_named f
  unfolding expressions_named carry_function
  expressions-kept f = rw (fields-kept NAME refl refl f.named, fields-kept NAMED-EXPR refl refl f.named)

  named_fn : (x : Bool) (f : Function) → expressions_named (pick x f) ≡ expressions_named f
  unfolding redirect_fn
  named_fn true f = refl
  named_fn false f = expressions-kept f

  name_fn : (x : Bool) (f : Function) → field NAME (pick x f).head ≡ field NAME f.head
  unfolding redirect_fn carry_function
  name_fn true f = refl
  name_fn false f = field-kept NAME refl refl f.head

  named_fns : (fs : List Function) (j : ℕ) (omit : List ℕ) → functions_named (redirect_fns fs j a b omit) ≡ functions_named fs
  unfolding functions_named redirect_fns
  named_fns [] j omit = refl
  named_fns (f ∷ fs) j omit = ap₂ ◌&&◌ (named_fn (stays b omit j (name_word f)) f) (named_fns fs (suc j) omit)

  names_fns : (fs : List Function) (j : ℕ) (omit : List ℕ) → function_names (redirect_fns fs j a b omit) ≡ function_names fs
  unfolding function_names redirect_fns
  names_fns [] j omit = refl
  names_fns (f ∷ fs) j omit = ap₂ ◌∷◌ (name_fn (stays b omit j (name_word f)) f) (names_fns fs (suc j) omit)

  named_points : (es : List Entry) → entries_named (map (redirect_entry a b) es) ≡ entries_named es
  unfolding entries_named redirect_entry carry_entry
  named_points [] = refl
  named_points (e ∷ es) = ap₂ ◌&&◌ (expressions-kept e.function) (named_points es)

  names_points : (es : List Entry) → entry_names (map (redirect_entry a b) es) ≡ entry_names es
  unfolding entry_names redirect_entry carry_entry
  names_points [] = refl
  names_points (e ∷ es) = ap₂ ◌∷◌ (field-kept NAME refl refl e.head) (names_points es)

  -- LAW
  pub redirect-named : (m : Module) (omit : List ℕ) → named (redirect m a b omit) ≡ named m
  unfolding named redirect with_functions with_entries
  redirect-named m omit = rw (names_fns m.functions 0 omit, names_points m.entries, named_fns m.functions 0 omit, named_points m.entries)
