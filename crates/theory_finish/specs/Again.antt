-- To number the names of a finished module again changes nothing: they are in the order of first appearance already.
use Rattle.std.specs.Prelude.{◌≡◌, true, ℕ, zero, suc, ◌+◌, ◌<◌, eqb, length}
use Rattle.std.proofs.Math.Path.{refl, ap, ap₂}
use Rattle.std.proofs.Common.{sym, ◌∙◌, arith}
use mathlib.Core.List.{List, [], ◌∷◌, map}
use Rattle.std.proofs.Math.ListN.{get_or, length-map}
use Rattle.model.specs.Outcome.{Cell, Cells, class, word}
use Rattle.model.specs.Table.{NAME, name_row}
use Rattle.model.specs.Tree.{Function, Entry, flat, flat_entry}
use Rattle.model.specs.Module.{Module, flat_module}
use Rattle.model.specs.Carry.{carry_cell, carry_cells, carry_function, carry_entry, carry_special, carry, Lays, Each, each_none, each_next, WellFunction, WellEntry}
use Rattle.model.specs.Calls.{numbers}
use Rattle.model.specs.Numbers.{numbered}
use Rattle.model.specs.Finish.{names_in, firsts, index_n, appearing, renumber, with_names, named_by}
use Rattle.theory_image.specs.Quiet.{each_map}
use Rattle.theory_image.specs.Carries.{flat-carry}
use Rattle.theory_finish.specs.Firsts.{either, firsts-again, index_numbers, all-at}
use Rattle.theory_finish.specs.Classes.{calm?, calms?, nameless}
use Rattle.theory_finish.specs.Touching.{Only, only_keeps, same_rows, same-b}
use Rattle.theory_finish.specs.Kept.{Parts}
use Rattle.theory_finish.specs.Numbering.{Cellwise}
use Rattle.theory_finish.specs.Cellwise.{each_both, function_cells}
use Rattle.theory_finish.specs.Finished.{Low, numbered_low, names_apart, names_in-carried, renumber-only, carried_names, picked, finished-parts, finished-numbered}

-- ---- a map that changes no cell of a module carries the module to itself
module _ {m : ℕ → ℕ → ℕ} (o : Only m) where
  abbrev Fixed : Cell → Type 0
  Fixed c = m (class c) (word c) ≡ word c

  fixed_cells : {cs : Cells} → Each Fixed cs → carry_cells m cs ≡ cs
  unfolding carry_cell
  fixed_cells each_none = refl
  fixed_cells (each_next {a = c} h hs) = ap₂ ◌∷◌ (ap (λ w. (c.0, w)) h) (fixed_cells hs)

  fixed-rows : {rs : List Cells} → Each (Each Fixed) rs → map (carry_cells m) rs ≡ rs
  fixed-rows each_none = refl
  fixed-rows (each_next h hs) = ap₂ ◌∷◌ (fixed_cells h) (fixed-rows hs)

  fixed-function : (f : Function) → WellFunction f → Each Fixed (flat f) → carry_function m f ≡ f
  unfolding carry_function
  fixed-function f w e =
      let c = function_cells f e in
      rw (fixed_cells c.in_head, fixed-rows c.in_arguments, fixed_cells c.in_result, fixed-rows c.in_locals, fixed-rows c.in_exprs, fixed-rows c.in_named, same-b o w.body_ok)

  fixed_functions : {fs : List Function} → Each WellFunction fs → Each (λ f. Each Fixed (flat f)) fs → map (carry_function m) fs ≡ fs
  fixed_functions each_none e = refl
  fixed_functions (each_next {a = f} w ws) (each_next h hs) = ap₂ ◌∷◌ (fixed-function f w h) (fixed_functions ws hs)

  fixed-entry : (e : Entry) → WellEntry e → Each Fixed (flat_entry e) → carry_entry m e ≡ e
  unfolding carry_entry flat_entry
  fixed-entry e w h = let p = each_both e.head h in rw (fixed_cells p.0, fixed-function e.function w.function-ok p.1)

  fixed_entries : {es : List Entry} → Each WellEntry es → Each (λ e. Each Fixed (flat_entry e)) es → map (carry_entry m) es ≡ es
  fixed_entries each_none e = refl
  fixed_entries (each_next {a = e} w ws) (each_next h hs) = ap₂ ◌∷◌ (fixed-entry e w h) (fixed_entries ws hs)

  fixed_names : {rs : List Cells} → Each (Lays name_row) rs → map (carry_cells m) rs ≡ rs
  unfolding name_row calms? calm?
  fixed_names = same_rows o λ cs l. nameless l refl

  pub fixed : (t : Module) → Parts t → Cellwise Fixed t → carry m t ≡ t
  unfolding carry carry_special
  fixed t p c =
      rw (
        fixed_names p.names_each,
        fixed-rows c.in_types,
        fixed-rows c.in_constants,
        fixed-rows c.in_overrides,
        fixed-rows c.in_globals,
        fixed-rows c.in_exprs,
        fixed_functions p.functions_each c.in_functions_lem,
        fixed_entries p.entries_each c.in_entries_lem,
        fixed_cells c.in_rays,
        fixed-rows c.in_pairs,
      )

-- a test of cells that follows from another
pub cellwise_map : {P Q : Cell → Type 0} {t : Module} → ((c : Cell) → P c → Q c) → Cellwise P t → Cellwise Q t
cellwise_map f c = record {
  in_types = each_map (λ r. each_map f) c.in_types;
  in_constants = each_map (λ r. each_map f) c.in_constants;
  in_overrides = each_map (λ r. each_map f) c.in_overrides;
  in_globals = each_map (λ r. each_map f) c.in_globals;
  in_exprs = each_map (λ r. each_map f) c.in_exprs;
  in_functions_lem = each_map (λ r. each_map f) c.in_functions_lem;
  in_entries_lem = each_map (λ r. each_map f) c.in_entries_lem;
  in_rays = each_map f c.in_rays;
  in_pairs = each_map (λ r. each_map f) c.in_pairs;
}

-- numbers that are in their order stay
in_order_lem : (k : ℕ) (c : Cell) → Low k c → renumber (numbers k 0) (class c) (word c) ≡ word c
unfolding renumber
in_order_lem k (s, zero) l = refl
in_order_lem k (s, suc n) l = either (eqb s NAME) (λ e. rw (renumber, e) (ap suc (at (omega (arith, l e))))) λ e. rw (renumber, e)
  where
    at : n < k → index_n (numbers k 0) n ≡ n
    at h = let z : n ≡ 0 + n = omega arith in ap (index_n (numbers k 0)) z ∙ index_numbers k 0 n h

settled : (u : Module) → Parts u → numbered u ≡ true → named_by (numbers (length u.names) 0) u ≡ u
unfolding named_by with_names
settled u q k =
    let ks = numbers (length u.names) 0 in
    let e : carry (renumber ks) u ≡ u = fixed (renumber-only ks) u q (cellwise_map (in_order_lem (length u.names)) (numbered_low u k)) in
    rw (e, all-at u.names [])

module _ {t : Module} (p : Parts t) (h : numbered t ≡ true) where
  -- THE NAMES that appear in the finished module are 0, 1, 2 and so on
  pub appearing-again : appearing (named_by (appearing t) t) ≡ numbers (length (appearing t)) 0
  unfolding appearing named_by
  appearing-again =
      let ns = firsts (names_in (flat_module t)) [] in
      let o = renumber-only ns in
      ap (λ l. firsts l [])
      (names_apart (carry (renumber ns) t) _ (carried_names t o p.names_each) (picked p h) ∙ ap names_in (flat-carry (renumber ns) (only_keeps o) t) ∙ names_in-carried ns (flat_module t))
      ∙ firsts-again (names_in (flat_module t))

  length_names : length (named_by (appearing t) t).names ≡ length (appearing t)
  unfolding named_by with_names
  length_names = length-map (appearing t) (λ n. get_or t.names n [])

  -- AGAIN: nothing changes
  pub named_again : named_by (appearing (named_by (appearing t) t)) (named_by (appearing t) t) ≡ named_by (appearing t) t
  named_again =
      let u = named_by (appearing t) t in
      ap (λ l. named_by l u) (appearing-again ∙ ap (λ k. numbers k 0) (sym length_names)) ∙ settled u (finished-parts p h) (finished-numbered p h)
