-- A module carried by a map that touches only NAME, and given other names, passes test 5 if it did: none stays none, no name becomes none, different names of table functions stay different, and the new names differ.
use Rattle.std.specs.Prelude.{◌≡◌, Bool, ℕ, zero, suc, eqb}
use Rattle.std.proofs.Math.Path.{refl, sym, ap, ap₂}
use Rattle.std.proofs.Common.{◌∙◌, arith}
use Rattle.std.proofs.Math.Bool.{true, false, ◌&&◌, not}
use mathlib.Core.List.{List, [], ◌∷◌, map}
use borrow.Author.Tests.{eqb-true, eqb-false, not-true, ne_eqb}
use Rattle.theory_lists.specs.Booleans.{and-true, and_split}
use Rattle.model.specs.Outcome.{Cells, word}
use Rattle.model.specs.Table.{NAME, NAMED-EXPR, KEY}
use Rattle.model.specs.Tree.{Function, Entry}
use Rattle.model.specs.Module.{Module}
use Rattle.model.specs.Carry.{carry_cell, carry_cells, carry_function, carry_entry, carry_special, carry, Each, each_next}
use Rattle.model.specs.Names.{field, present, absent, distinct, differ, expressions_named, functions_named, entries_named, function_names, entry_names, named}
use Rattle.model.specs.Finish.{with_names}
use Rattle.theory_finish.specs.Firsts.{either}
use Rattle.theory_finish.specs.Touching.{Only}

-- none stays none, and no name becomes none
pub record Names (m : ℕ → ℕ → ℕ) : Type 0 where
  pub none : m NAME 0 ≡ 0
  pub some : (n : ℕ) → m NAME (suc n) ≡ 0 → ⊥

module _ {m : ℕ → ℕ → ℕ} (o : Only m) (q : Names m) where
  name_field : (cs : Cells) → field NAME (carry_cells m cs) ≡ m NAME (field NAME cs)
  unfolding field carry_cell
  name_field [] = sym q.none
  name_field ((s, w) ∷ cs) = let i = name_field cs in either (eqb s NAME) (λ e. rw (field, e, eqb-true s NAME e)) λ e. rw (field, e) i

  other-field : (k : ℕ) → eqb NAME k ≡ false → (cs : Cells) → field k (carry_cells m cs) ≡ field k cs
  unfolding field carry_cell
  other-field k h [] = refl
  other-field k h ((s, w) ∷ cs) = let i = other-field k h cs in either (eqb s NAME) (λ e. rw (eqb-true s NAME e, field, h) i) λ e. ap₂ (λ x l. elim (eqb s k) [ true ↦ x | false ↦ l ]) (o.only s w e) i

  pub other-fields : (k : ℕ) → eqb NAME k ≡ false → (rs : List Cells) → map (field k) (map (carry_cells m) rs) ≡ map (field k) rs
  other-fields k h [] = refl
  other-fields k h (r ∷ rs) = ap₂ ◌∷◌ (other-field k h r) (other-fields k h rs)

  name_fields : (rs : List Cells) → map (field NAME) (map (carry_cells m) rs) ≡ map (m NAME) (map (field NAME) rs)
  name_fields [] = refl
  name_fields (r ∷ rs) = ap₂ ◌∷◌ (name_field r) (name_fields rs)

  zero_kept : (w : ℕ) → eqb (m NAME w) 0 ≡ eqb w 0
  zero_kept zero = ap (λ x. eqb x 0) q.none
  zero_kept (suc n) = ne_eqb (m NAME (suc n)) 0 (q.some n) ∙ sym (ne_eqb (suc n) 0 λ e. omega arith)

  pub present-kept : (ws : List ℕ) → present (map (m NAME) ws) ≡ present ws
  unfolding present
  present-kept [] = refl
  present-kept (w ∷ ws) = ap₂ (λ x l. not x && l) (zero_kept w) (present-kept ws)

  -- ---- functions and entry points
  expressions-kept : (f : Function) → expressions_named (carry_function m f) ≡ expressions_named f
  unfolding expressions_named carry_function
  expressions-kept f = ap₂ ◌&&◌ (ap present (name_fields f.named) ∙ present-kept (map (field NAME) f.named)) (ap distinct (other-fields NAMED-EXPR refl f.named))

  pub functions_named_lem : (fs : List Function) → functions_named (map (carry_function m) fs) ≡ functions_named fs
  unfolding functions_named
  functions_named_lem [] = refl
  functions_named_lem (f ∷ fs) = ap₂ ◌&&◌ (expressions-kept f) (functions_named_lem fs)

  pub entries_named_lem : (es : List Entry) → entries_named (map (carry_entry m) es) ≡ entries_named es
  unfolding entries_named carry_entry
  entries_named_lem [] = refl
  entries_named_lem (e ∷ es) = ap₂ ◌&&◌ (expressions-kept e.function) (entries_named_lem es)

  pub function_names_lem : (fs : List Function) → function_names (map (carry_function m) fs) ≡ map (m NAME) (function_names fs)
  unfolding function_names carry_function
  function_names_lem [] = refl
  function_names_lem (f ∷ fs) = ap₂ ◌∷◌ (name_field f.head) (function_names_lem fs)

  pub entry_names_lem : (es : List Entry) → entry_names (map (carry_entry m) es) ≡ map (m NAME) (entry_names es)
  unfolding entry_names carry_entry
  entry_names_lem [] = refl
  entry_names_lem (e ∷ es) = ap₂ ◌∷◌ (name_field e.head) (entry_names_lem es)

  module _ (P : ℕ → Type 0) (apart : (x y : ℕ) → P x → P y → m NAME x ≡ m NAME y → x ≡ y) where
    absent-kept : (x : ℕ) (ws : List ℕ) → P x → Each P ws → absent ws x ≡ true → absent (map (m NAME) ws) (m NAME x) ≡ true
    unfolding absent
    absent-kept x [] p ps h = refl
    absent-kept x (w ∷ ws) p (each_next k ks) h =
        let a = and_split (not (eqb x w)) (absent ws x) h in
        and-true (ap not (ne_eqb (m NAME x) (m NAME w) λ e. eqb-false x w (not-true (eqb x w) a.0) (apart x w p k e))) (absent-kept x ws p ks a.1)

    distinct-kept : (ws : List ℕ) → Each P ws → distinct ws ≡ true → distinct (map (m NAME) ws) ≡ true
    unfolding distinct
    distinct-kept [] ps h = refl
    distinct-kept (w ∷ ws) (each_next k ks) h = let a = and_split (absent ws w) (distinct ws) h in and-true (absent-kept w ws k ks a.0) (distinct-kept ws ks a.1)

    -- LAW: test 5 is passed again
    pub carried-named : (ns : List Cells) (t : Module) → Each P (function_names t.functions) → differ (map (map word) ns) ≡ true → named t ≡ true → named (with_names ns (carry m t)) ≡ true
    unfolding named with_names carry carry_special
    carried-named ns t ps d h =
        both _ _ _ _ (λ e. ap present (function_names_lem t.functions) ∙ present-kept (function_names t.functions) ∙ e)
        (both _ _ _ _ (λ e. ap present (entry_names_lem t.entries) ∙ present-kept (entry_names t.entries) ∙ e)
        (both _ _ _ _ (λ e. functions_named_lem t.functions ∙ e)
        (both _ _ _ _ (λ e. entries_named_lem t.entries ∙ e)
        (both (differ (map (map word) t.names)) _ _ _ (λ e. d)
        (both _ _ _ _ (λ e. ap distinct (function_names_lem t.functions) ∙ distinct-kept (function_names t.functions) ps e) λ e. ap distinct (other-fields KEY refl t.special.pairs) ∙ e)))))
        h
      where
        both : (x x' y y' : Bool) → (x ≡ true → x' ≡ true) → (y ≡ true → y' ≡ true) → x && y ≡ true → x' && y' ≡ true
        both x x' y y' f g h = let p = and_split x y h in and-true (f p.0) (g p.1)
