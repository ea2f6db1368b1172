-- Refusal 5 by example, computed: for each rule a module that breaks it, and what the rules allow.
use Rattle.std.specs.Prelude.{◌≡◌, true, false, List, [], ◌∷◌, ℕ}
use Rattle.model.specs.Outcome.{Cells}
use Rattle.model.specs.Table.{WORD, SPAN, UPTO, NAME, TYPE, NAMED-EXPR, KEY, PAD, TEXT}
use Rattle.model.specs.Tree.{Function, Entry, end}
use Rattle.model.specs.Module.{Module}
use Rattle.model.specs.Names.{named}

-- names, functions, entry points, pairs of special types
abbrev holding : List Cells → List Function → List Entry → List Cells → Module
holding ns fs ps ks = record { names = ns; types = []; constants = []; overrides = []; globals = []; exprs = []; functions = fs; entries = ps; special = record { rays = []; pairs = ks } }

-- a name of one byte, and one of five
abbrev letter : ℕ → Cells
letter b = (TEXT, 1) ∷ (PAD, b) ∷ []

abbrev letters : ℕ → Cells
letters b = (TEXT, 5) ∷ (WORD, 1684234849) ∷ (PAD, b) ∷ []

-- a function of that name, with these named expressions
abbrev function : ℕ → List Cells → Function
function n ns = record { head = (NAME, n) ∷ (SPAN, 0) ∷ (UPTO, 0) ∷ []; arguments = []; result = []; locals = []; exprs = []; named = ns; body = end }

-- expression e has the name n
abbrev naming : ℕ → ℕ → Cells
naming e n = (NAMED-EXPR, e) ∷ (NAME, n) ∷ []

abbrev entry : ℕ → Function → Entry
entry n f = record { head = (NAME, n) ∷ (WORD, 0) ∷ (WORD, 0) ∷ (WORD, 0) ∷ (WORD, 0) ∷ (WORD, 0) ∷ (WORD, 0) ∷ []; function = f }

abbrev pair : ℕ → Cells
pair k = (KEY, k) ∷ (TYPE, 0) ∷ []

pub record Tried : Type 0 where
  -- two names that differ, functions of these names, entry points that share a name and whose functions have none, expressions that share a name, two keys
  pub fine : named (holding (letters 101 ∷ letters 102 ∷ letter 101 ∷ []) (function 1 (naming 0 1 ∷ naming 1 1 ∷ []) ∷ function 2 (naming 0 1 ∷ []) ∷ []) (entry 1 (function 0 []) ∷ entry 1 (function 0 []) ∷ []) (pair 7 ∷ pair 8 ∷ [])) ≡ true
  pub function-unnamed : named (holding [] (function 0 [] ∷ []) [] []) ≡ false
  pub entry-unnamed : named (holding [] [] (entry 0 (function 1 []) ∷ []) []) ≡ false
  pub expression_unnamed : named (holding [] (function 1 (naming 0 0 ∷ []) ∷ []) [] []) ≡ false
  pub entry_expression_unnamed : named (holding [] [] (entry 1 (function 0 (naming 0 0 ∷ [])) ∷ []) []) ≡ false
  pub names_equal : named (holding (letters 101 ∷ letter 101 ∷ letters 101 ∷ []) [] [] []) ≡ false
  pub functions_equal : named (holding [] (function 1 [] ∷ function 2 [] ∷ function 1 [] ∷ []) [] []) ≡ false
  pub named-twice : named (holding [] (function 1 (naming 0 1 ∷ naming 1 2 ∷ naming 0 3 ∷ []) ∷ []) [] []) ≡ false
  pub entry_named_twice : named (holding [] [] (entry 1 (function 0 (naming 3 1 ∷ naming 3 2 ∷ [])) ∷ []) []) ≡ false
  pub keys_equal : named (holding [] [] [] (pair 7 ∷ pair 8 ∷ pair 7 ∷ [])) ≡ false
