-- What holds of every cell of a module's image holds of every cell of its parts, and the other way round: a test of cells passes from parts to the image and back.
use mathlib.Core.List.{List, [], ◌∷◌, ◌++◌, map}
use Rattle.std.specs.Prelude.{ℕ, ◌+◌}
use Rattle.std.proofs.Math.ListN.{length}
use Rattle.model.specs.Outcome.{Cell, Cells}
use Rattle.model.specs.Table.{PLACE, ARGUMENTS, LOCALS, EXPRESSIONS, NAMED}
use Rattle.model.specs.Tree.{Function, flat_all, flat_list, flat, flat_entry}
use Rattle.model.specs.Module.{Module, places, flat_table, flat_special, Section, sections, pairs_from, bodies, flat_module, HEADER}
use Rattle.model.specs.Carry.{Each, each_none, each_next}
use Rattle.theory_image.specs.Writing.{flat_right}
use Rattle.theory_image.specs.Quiet.{each_append}
use Rattle.theory_finish.specs.Numbering.{Cellwise}

-- ---- lists
pub each_first : {A : Type 0} {P : A → Type 0} {x : A} {xs : List A} → Each P (x ∷ xs) → P x
each_first (each_next p ps) = p

pub each_rest : {A : Type 0} {P : A → Type 0} {x : A} {xs : List A} → Each P (x ∷ xs) → Each P xs
each_rest (each_next p ps) = ps

pub each_both : {A : Type 0} {P : A → Type 0} (xs : List A) {ys : List A} → Each P (xs ++ ys) → Each P xs × Each P ys
each_both [] e = (each_none, e)
each_both (x ∷ xs) e = let p = each_both xs (each_rest e) in (each_next (each_first e) p.0, p.1)

pub each_of : {A B : Type 0} {P : B → Type 0} (f : A → B) {xs : List A} → Each P (map f xs) → Each (λ a. P (f a)) xs
each_of f {xs = []} e = each_none
each_of f {xs = x ∷ xs} e = each_next (each_first e) (each_of f (each_rest e))

pub each_to : {A B : Type 0} {P : B → Type 0} (f : A → B) {xs : List A} → Each (λ a. P (f a)) xs → Each P (map f xs)
each_to f each_none = each_none
each_to f (each_next p ps) = each_next p (each_to f ps)

module _ {P : Cell → Type 0} where
  -- ---- from the image to its parts
  pub all_of : (rs : List Cells) → Each P (flat_all rs) → Each (Each P) rs
  unfolding flat_all
  all_of [] e = each_none
  all_of (r ∷ rs) e = each_next ((each_both r e).0) (all_of rs ((each_both r e).1))

  table_of : (rs : List Cells) → Each P (flat_table rs) → Each (Each P) rs
  unfolding flat_table
  table_of rs e = all_of rs ((each_both (places (length rs) rs) e).1)

  -- ---- from the parts to the image
  pub all-to : {rs : List Cells} → Each (Each P) rs → Each P (flat_all rs)
  unfolding flat_all
  all-to each_none = each_none
  all-to (each_next p ps) = each_append p (all-to ps)

-- PARTS of the image
pub cellwise : {P : Cell → Type 0} (t : Module) → Each P (flat_module t) → Cellwise P t
unfolding flat_module sections bodies flat_special
cellwise t e =
    let e₀ = (each_both (pairs_from HEADER (sections t)) (each_rest (each_rest e))).1 in
    let e₁ = (each_both (flat_table t.names) e₀).1 in
    let e₂ = (each_both (flat_table t.types) e₁).1 in
    let e₃ = (each_both (flat_table t.constants) e₂).1 in
    let e₄ = (each_both (flat_table t.overrides) e₃).1 in
    let e₅ = (each_both (flat_table t.globals) e₄).1 in
    let e₆ = (each_both (flat_table t.exprs) e₅).1 in
    let e₇ = (each_both (flat_table (map flat t.functions)) e₆).1 in
    let e₈ = (each_both (flat_table (map flat_entry t.entries)) e₇).1 in
    let e₉ = (each_both (t.special.rays ++ flat_all t.special.pairs) e₈).0 in
    record {
      in_types = table_of t.types ((each_both (flat_table t.types) e₁).0);
      in_constants = table_of t.constants ((each_both (flat_table t.constants) e₂).0);
      in_overrides = table_of t.overrides ((each_both (flat_table t.overrides) e₃).0);
      in_globals = table_of t.globals ((each_both (flat_table t.globals) e₄).0);
      in_exprs = table_of t.exprs ((each_both (flat_table t.exprs) e₅).0);
      in_functions_lem = each_of flat (table_of (map flat t.functions) ((each_both (flat_table (map flat t.functions)) e₆).0));
      in_entries_lem = each_of flat_entry (table_of (map flat_entry t.entries) ((each_both (flat_table (map flat_entry t.entries)) e₇).0));
      in_rays = (each_both t.special.rays e₉).0;
      in_pairs = all_of t.special.pairs ((each_both t.special.rays e₉).1);
    }

-- THE IMAGE of parts; offsets and counts are cells of the class PLACE
module _ {P : Cell → Type 0} (place : (w : ℕ) → P (PLACE, w)) where
  places-to : (at : ℕ) (rs : List Cells) → Each P (places at rs)
  unfolding places
  places-to at [] = each_none
  places-to at (r ∷ rs) = each_next (place at) (places-to (at + length r) rs)

  pub table_to : {rs : List Cells} → Each (Each P) rs → Each P (flat_table rs)
  unfolding flat_table
  table_to {rs} e = each_append (places-to (length rs) rs) (all-to e)

  pub pairs-to : (at : ℕ) (ss : List Section) → Each P (pairs_from at ss)
  unfolding pairs_from
  pairs-to at [] = each_none
  pairs-to at (s ∷ ss) = each_next (place s.0) (each_next (place at) (pairs-to (at + length s.1) ss))

  pub image_of : {t : Module} → Each (Each P) t.names → Cellwise P t → Each P (flat_module t)
  unfolding flat_module sections bodies flat_special
  image_of {t} n c =
      each_next (place 1)
      (each_next (place _)
      (each_append (pairs-to HEADER (sections t))
      (each_append (table_to n)
      (each_append (table_to c.in_types)
      (each_append (table_to c.in_constants)
      (each_append (table_to c.in_overrides)
      (each_append (table_to c.in_globals)
      (each_append (table_to c.in_exprs)
      (each_append (table_to (each_to flat c.in_functions_lem))
      (each_append (table_to (each_to flat_entry c.in_entries_lem))
      (each_append (each_append c.in_rays (all-to c.in_pairs)) each_none)))))))))))

-- ---- the parts of a function
pub record CellsOf (P : Cell → Type 0) (f : Function) : Type 0 where
  pub in_head : Each P f.head
  pub in_arguments : Each (Each P) f.arguments
  pub in_result : Each P f.result
  pub in_locals : Each (Each P) f.locals
  pub in_exprs : Each (Each P) f.exprs
  pub in_named : Each (Each P) f.named

pub function_cells : {P : Cell → Type 0} (f : Function) → Each P (flat f) → CellsOf P f
unfolding flat_list
function_cells f e =
    let e₀ = rw (flat_right f) at e in
    let e₁ = (each_both f.head e₀).1 in
    let e₂ = (each_both (flat_list ARGUMENTS f.arguments) e₁).1 in
    let e₃ = (each_both f.result e₂).1 in
    let e₄ = (each_both (flat_list LOCALS f.locals) e₃).1 in
    let e₅ = (each_both (flat_list EXPRESSIONS f.exprs) e₄).1 in
    record {
      in_head = (each_both f.head e₀).0;
      in_arguments = all_of f.arguments (each_rest ((each_both (flat_list ARGUMENTS f.arguments) e₁).0));
      in_result = (each_both f.result e₂).0;
      in_locals = all_of f.locals (each_rest ((each_both (flat_list LOCALS f.locals) e₃).0));
      in_exprs = all_of f.exprs (each_rest ((each_both (flat_list EXPRESSIONS f.exprs) e₄).0));
      in_named = all_of f.named (each_rest ((each_both (flat_list NAMED f.named) e₅).0));
    }
