-- Refusal 4 by example, computed: for each rule a module that keeps it and one that does not, which differ in one number.
use Rattle.std.specs.Prelude.{◌≡◌, true, false, List, [], ◌∷◌, ℕ}
use Rattle.model.specs.Outcome.{Cells}
use Rattle.model.specs.Table.{WORD, SPAN, UPTO, NAME, TYPE, CONSTANT, OVERRIDE, INIT, OPT_INIT, MEMBERS, TYPE_KIND}
use Rattle.model.specs.Tree.{Function, Entry, end, ◌then◌}
use Rattle.model.specs.Module.{Module}
use Rattle.model.specs.Lower.{lower}
use Rattle.model.specs.SampleBodies.{record_with, literal, negate, store, function}

-- types, constants, overrides, global expressions, functions, entry points
abbrev holding : List Cells → List Cells → List Cells → List Cells → List Function → List Entry → Module
holding ts ks os xs fs ps = record { names = []; types = ts; constants = ks; overrides = os; globals = []; exprs = xs; functions = fs; entries = ps; special = record { rays = []; pairs = [] } }

abbrev pointer : ℕ → Cells
pointer t = (NAME, 0) ∷ (SPAN, 0) ∷ (UPTO, 0) ∷ (TYPE_KIND, 1) ∷ (TYPE, t) ∷ (WORD, 9) ∷ (WORD, 9) ∷ []

-- a struct of one member
abbrev struct : ℕ → Cells
struct t = (NAME, 0) ∷ (SPAN, 0) ∷ (UPTO, 0) ∷ (TYPE_KIND, 2) ∷ (WORD, 16) ∷ (MEMBERS, 1) ∷ (NAME, 9) ∷ (TYPE, t) ∷ (WORD, 9) ∷ (WORD, 9) ∷ (WORD, 9) ∷ (WORD, 9) ∷ (WORD, 9) ∷ (WORD, 9) ∷ (WORD, 9) ∷ []

abbrev leaf : Cells
leaf = (NAME, 0) ∷ (SPAN, 0) ∷ (UPTO, 0) ∷ (TYPE_KIND, 0) ∷ (9, 0) ∷ (WORD, 9) ∷ (WORD, 9) ∷ (WORD, 9) ∷ (WORD, 9) ∷ (WORD, 9) ∷ (WORD, 9) ∷ []

abbrev constant : ℕ → Cells
constant x = (NAME, 0) ∷ (SPAN, 0) ∷ (UPTO, 0) ∷ (TYPE, 9) ∷ (INIT, x) ∷ []

-- its init is an optional number
abbrev override : ℕ → Cells
override x = (NAME, 0) ∷ (SPAN, 0) ∷ (UPTO, 0) ∷ (WORD, 9) ∷ (TYPE, 9) ∷ (OPT_INIT, x) ∷ []

abbrev constant-named : ℕ → Cells
constant-named k = record_with 1 ((CONSTANT, k) ∷ [])

abbrev overridden : ℕ → Cells
overridden o = record_with 2 ((OVERRIDE, o) ∷ [])

abbrev calling : List Cells → Entry
calling xs = record { head = []; function = function [] xs end }

pub record Tried : Type 0 where
  pub base : lower (holding (leaf ∷ pointer 0 ∷ []) [] [] [] [] []) ≡ true
  pub base_own : lower (holding (leaf ∷ pointer 1 ∷ []) [] [] [] [] []) ≡ false
  pub member : lower (holding (leaf ∷ leaf ∷ struct 1 ∷ []) [] [] [] [] []) ≡ true
  pub member_later : lower (holding (leaf ∷ struct 2 ∷ leaf ∷ []) [] [] [] [] []) ≡ false
  pub global : lower (holding [] [] [] (literal 7 ∷ negate 0 ∷ []) [] []) ≡ true
  pub global_own : lower (holding [] [] [] (literal 7 ∷ negate 1 ∷ []) [] []) ≡ false
  pub named-constant : lower (holding [] (constant 0 ∷ []) [] (literal 7 ∷ constant-named 0 ∷ []) [] []) ≡ true
  pub constant_own : lower (holding [] (constant 1 ∷ []) [] (literal 7 ∷ constant-named 0 ∷ []) [] []) ≡ false
  pub named-override : lower (holding [] [] (override 1 ∷ []) (literal 7 ∷ overridden 0 ∷ []) [] []) ≡ true
  pub override_own : lower (holding [] [] (override 2 ∷ []) (literal 7 ∷ overridden 0 ∷ []) [] []) ≡ false
  -- an override without an init
  pub override-none : lower (holding [] [] (override 0 ∷ []) (overridden 0 ∷ []) [] []) ≡ true
  pub operand-lower : lower (holding [] [] [] [] (function [] (literal 7 ∷ negate 0 ∷ []) end ∷ []) []) ≡ true
  pub operand_own : lower (holding [] [] [] [] (function [] (literal 7 ∷ negate 1 ∷ []) end ∷ []) []) ≡ false
  pub entry-lower : lower (holding [] [] [] [] [] (calling (literal 7 ∷ negate 0 ∷ []) ∷ [])) ≡ true
  pub entry_own : lower (holding [] [] [] [] [] (calling (literal 7 ∷ negate 1 ∷ []) ∷ [])) ≡ false
  -- a function may name a constant whose init is any global expression, and a statement any expression
  pub elsewhere : lower (holding [] (constant 9 ∷ []) [] [] (function [] (constant-named 0 ∷ []) (store 8 9 then end) ∷ []) []) ≡ true
