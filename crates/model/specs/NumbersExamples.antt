-- Refusal 3 by example: a small module that passes, and for each rule one that is turned back by one word.
use Rattle.std.specs.Prelude.{◌≡◌, true, false, [], ◌∷◌, ℕ}
use Rattle.model.specs.Outcome.{Cells}
use Rattle.model.specs.Table.{WORD, SPAN, UPTO, NAME, TYPE, OPT_TYPE, INIT, EXPR, ARGUMENT, LOCAL, KEY, TEXT, TYPE_KIND}
use Rattle.model.specs.Tree.{end, ◌then◌, Function}
use Rattle.model.specs.Module.{Module}
use Rattle.model.specs.SampleBodies.{record_with, literal, negate, splat, called, evals, store, local, function}
use Rattle.model.specs.Numbers.{numbered}

-- one name, one leaf, one constant whose init is the one global expression, one function
unfoldable pub with-tables : Cells → Cells → Cells → Function → Module
with-tables t c x f = record {
  names = ((TEXT, 0) ∷ []) ∷ [];
  types = t ∷ [];
  constants = c ∷ [];
  overrides = [];
  globals = [];
  exprs = x ∷ [];
  functions = f ∷ [];
  entries = [];
  special = record { rays = (OPT_TYPE, 0) ∷ (OPT_TYPE, 1) ∷ (OPT_TYPE, 0) ∷ []; pairs = ((KEY, 7) ∷ (TYPE, 0) ∷ []) ∷ [] };
}

-- a leaf of a name and a code; a constant of a type and an init
abbrev leaf : ℕ → ℕ → Cells
leaf n k = (NAME, n) ∷ (SPAN, 0) ∷ (UPTO, 0) ∷ (TYPE_KIND, 0) ∷ (9, k) ∷ (WORD, 0) ∷ (WORD, 0) ∷ (WORD, 0) ∷ (WORD, 0) ∷ (WORD, 0) ∷ (WORD, 0) ∷ []

abbrev constant : ℕ → ℕ → Cells
constant t x = (NAME, 0) ∷ (SPAN, 0) ∷ (UPTO, 0) ∷ (TYPE, t) ∷ (INIT, x) ∷ []

abbrev nothing : Function
nothing = function [] [] end

abbrev tabled : Cells → Cells → Cells → Module
tabled t c x = with-tables t c x nothing

-- a function in a module that is fine without it
abbrev holding : Function → Module
holding f = with-tables (leaf 1 8) (constant 0 0) (literal 7) f

pub record Shown : Type 0 where
  pub fine : numbered (tabled (leaf 1 8) (constant 0 0) (literal 7)) ≡ true
  -- a name is optional: its word may be the count of names, and no more
  pub name_over : numbered (tabled (leaf 2 8) (constant 0 0) (literal 7)) ≡ false
  -- a code below its bound: 0 to 8
  pub code_over : numbered (tabled (leaf 1 9) (constant 0 0) (literal 7)) ≡ false
  -- a number below its table's count
  pub type_over : numbered (tabled (leaf 1 8) (constant 1 0) (literal 7)) ≡ false
  pub init_over : numbered (tabled (leaf 1 8) (constant 0 1) (literal 7)) ≡ false
  -- among global expressions an operand is one of them; Load, kind 12, is barred
  pub global-operand : numbered (tabled (leaf 1 8) (constant 0 0) (negate 0)) ≡ true
  pub global_over : numbered (tabled (leaf 1 8) (constant 0 0) (negate 1)) ≡ false
  pub global_barred : numbered (tabled (leaf 1 8) (constant 0 0) (record_with 12 ((EXPR, 0) ∷ []))) ≡ false
  -- in a function it is one of the function's
  pub operand_own : numbered (holding (function [] (literal 0 ∷ negate 0 ∷ []) (store 1 0 then end))) ≡ true
  pub operand_over : numbered (holding (function [] (literal 0 ∷ negate 2 ∷ []) end)) ≡ false
  pub statement_over : numbered (holding (function [] (literal 0 ∷ []) (store 0 1 then end))) ≡ false
  pub local_over : numbered (holding (function [] (record_with 11 ((LOCAL, 0) ∷ []) ∷ []) end)) ≡ false
  pub local_own : numbered (holding (function (local 0 ∷ []) (record_with 11 ((LOCAL, 0) ∷ []) ∷ []) end)) ≡ true
  pub argument_over : numbered (holding (function [] (record_with 9 ((ARGUMENT, 0) ∷ []) ∷ []) end)) ≡ false
  pub function_own : numbered (holding (function [] (called 0 ∷ []) end)) ≡ true
  pub function_over : numbered (holding (function [] (called 1 ∷ []) end)) ≡ false
  -- Emit: start at most end, end at most the expressions
  pub emit_all : numbered (holding (function [] (literal 0 ∷ negate 0 ∷ []) (evals 1 2 then evals 2 2 then end))) ≡ true
  pub emit_falls : numbered (holding (function [] (literal 0 ∷ negate 0 ∷ []) (evals 2 1 then end))) ≡ false
  pub emit_over : numbered (holding (function [] (literal 0 ∷ negate 0 ∷ []) (evals 1 3 then end))) ≡ false
  -- what a local's initialiser reaches, forward too; a Load there is barred, and one that nothing reaches is not
  pub reaches : numbered (holding (function (local 1 ∷ []) (splat 1 ∷ literal 0 ∷ []) end)) ≡ true
  pub reaches_barred : numbered (holding (function (local 1 ∷ []) (splat 1 ∷ record_with 12 ((EXPR, 0) ∷ []) ∷ []) end)) ≡ false
  pub reaches_not : numbered (holding (function (local 1 ∷ []) (literal 0 ∷ record_with 12 ((EXPR, 0) ∷ []) ∷ []) end)) ≡ true
  pub local_init_over : numbered (holding (function (local 3 ∷ []) (literal 0 ∷ literal 1 ∷ []) end)) ≡ false
