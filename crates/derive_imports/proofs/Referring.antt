-- What a word refers to: what the match on its target gives, and the table and the number of it in a record of a table.
use mathlib.Core.Path.{◌≡◌, refl, sym, ap, subst, ◌∙◌}
use Rattle.std.specs.Prelude.{Option, None, Some}
use Prim.Native.Nat.{ℕ, zero, suc, ◌+◌, ◌-◌, ◌≤◌, ◌<◌}
use native.Mathlib.Omega.{arith}
use borrow.Author.Tests.{lt-ltb, le-ltb}
use Rattle.model.specs.Tables.{Tab, code_t}
use Rattle.model.specs.References.{Place, table, own, function, Target, copied, start, upto, ref, opt, target}
use Rattle.derive_state.specs.Refers.{code_p, target_of, unspanned, tab_of}
use Rattle.derive_state.specs.Source.{if_some, refers_to, less, number_of}
use Rattle.derive_state.proofs.State.{code_tab, code_low}
use Rattle.derive_state.specs.declared.Reference.{Reference}
use Rattle.derive_imports.specs.declared.Referent.{Referent}
use Rattle.derive_imports.specs.declared.Referent.TheVariants as code
use Rattle.derive_imports.specs.Referents.{at_place, referent_of}

-- ---- tables, by their codes
pub refers_ref : (t : Tab) (w : ℕ) → (refers_to (ref (table t)) w ≡ code_t t) × (number_of (ref (table t)) w ≡ w)
unfolding refers_to number_of target_of code_p
refers_ref t w = (rw (lt-ltb (code_t t) 6 (code_low t)), rw (lt-ltb (code_t t) 6 (code_low t)))

pub refers_opt : (t : Tab) (n : ℕ) → (refers_to (opt (table t)) (suc n) ≡ code_t t) × (number_of (opt (table t)) (suc n) ≡ n)
unfolding refers_to number_of target_of code_p if_some less
refers_opt t n = (rw (le-ltb (8 + code_t t) 6 (omega arith), le-ltb (8 + code_t t) 8 (omega arith)) (omega arith), rw (le-ltb (8 + code_t t) 6 (omega arith)))

pub refers_zero : (t : Tab) → refers_to (opt (table t)) zero ≡ 6
unfolding refers_to target_of code_p if_some
refers_zero t = rw (le-ltb (8 + code_t t) 6 (omega arith), le-ltb (8 + code_t t) 8 (omega arith))

-- ---- what the code finds, by its target
-- spans are as copied words there
referent_unspanned : (g : Target) (w : ℕ) → referent_of (unspanned g) w ≡ referent_of g w
unfolding unspanned referent_of
referent_unspanned copied w = refl
referent_unspanned start w = refl
referent_unspanned upto w = refl
referent_unspanned (ref p) w = refl
referent_unspanned (opt p) w = refl

module _ (s w : ℕ) where
  referent_meant : {m : Target} → m ≡ unspanned (target s) → referent_of m w ≡ referent_of (target s) w
  referent_meant is = rw is (referent_unspanned (target s) w)

  pub none_meant : copied ≡ unspanned (target s) → None ≡ referent_of (target s) w
  unfolding referent_of
  none_meant is = referent_meant is

  pub ref_meant : {p : Place} → ref p ≡ unspanned (target s) → at_place p w ≡ referent_of (target s) w
  unfolding referent_of
  ref_meant is = referent_meant is

  opt_meant : {p : Place} → opt p ≡ unspanned (target s) → (v : ℕ) → w ≡ v → referent_of (opt p) v ≡ referent_of (target s) w
  opt_meant {p} is v e = ap (referent_of (opt p)) (sym e) ∙ referent_meant is

  pub zero_meant : {p : Place} → opt p ≡ unspanned (target s) → w ≡ 0 → None ≡ referent_of (target s) w
  unfolding referent_of
  zero_meant is none = opt_meant is 0 none

  pub some_meant : {p : Place} → opt p ≡ unspanned (target s) → (w ≡ 0 → ⊥) → at_place p (w - 1) ≡ referent_of (target s) w
  unfolding referent_of
  some_meant is some = opt_meant is (suc (w - 1)) (omega arith)

pub place_table : (t : ℕ) → t < 6 → (n : ℕ) → Some (code.Record (record { table = t; number = n })) ≡ at_place (table (tab_of t)) n
unfolding at_place
place_table t low n = rw (code_tab t low)

-- ---- the table and the number; an expression of the word's own function has the table 5
abbrev Told : Target → ℕ → Option Referent → Type 0
Told g w None = 6 ≤ refers_to g w
Told g w (Some (code.Record r)) = (r.table ≡ refers_to g w) × (r.number ≡ number_of g w) × (r.table < 6)
Told g w (Some (code.Own n)) = (5 ≡ refers_to g w) × (n ≡ number_of g w)

told : (g : Target) (w : ℕ) → Told g w (referent_of g w)
unfolding referent_of at_place refers_to number_of target_of code_p if_some less
told copied w = omega arith
told start w = omega arith
told upto w = omega arith
told (ref (table t)) w = (sym (refers_ref t w).0, sym (refers_ref t w).1, code_low t)
told (ref own) w = (refl, refl)
told (ref function) w = omega arith
told (opt (table t)) zero = omega (arith, refers_zero t)
told (opt (table t)) (suc n) = (sym (refers_opt t n).0, sym (refers_opt t n).1, code_low t)
told (opt own) zero = omega arith
told (opt own) (suc n) = (refl, refl)
told (opt function) zero = omega arith
told (opt function) (suc n) = omega arith

pub record_told : (g : Target) (w : ℕ) {r : Reference} → Some (code.Record r) ≡ referent_of g w → (r.table ≡ refers_to g w) × (r.number ≡ number_of g w) × (r.table < 6)
record_told g w e = subst (Told g w) (sym e) (told g w)

pub own_told : (g : Target) (w : ℕ) {n : ℕ} → Some (code.Own n) ≡ referent_of g w → (5 ≡ refers_to g w) × (n ≡ number_of g w)
own_told g w e = subst (Told g w) (sym e) (told g w)

pub none_told : (g : Target) (w : ℕ) → None ≡ referent_of g w → 6 ≤ refers_to g w
none_told g w e = subst (Told g w) (sym e) (told g w)
