-- Refusal 5: "table function, entry point or named expression unnamed; names, table functions' names, named numbers or special keys equal".
-- The function of an entry point may be unnamed, entry points may share a name, and so may two expressions.
use Rattle.std.specs.Prelude.{Bool, true, false, ◌&&◌, not, List, [], ◌∷◌, map, ℕ, ◌<◌, eqb}
use Rattle.model.specs.Outcome.{Cells, class, word}
use Rattle.model.specs.Table.{NAME, NAMED-EXPR, KEY, EXPRESSIONS, limit}
use Rattle.model.specs.Tree.{Function, Entry}
use Rattle.model.specs.Module.{Module}
use Rattle.model.specs.Carry.{Each}
use Rattle.model.specs.Taped.{Taped}

-- the word of the first field of the class s
unfoldable pub field : ℕ → Cells → ℕ
field s [] = 0
field s (c ∷ cs) = elim (eqb (class c) s) [ true ↦ word c | false ↦ field s cs ]

-- ---- unnamed: "an optional number is 0 for none, else the number plus 1; a name is optional in this form"
unfoldable pub present : List ℕ → Bool
present [] = true
present (w ∷ ws) = not (eqb w 0) && present ws

-- ---- equal numbers
unfoldable pub absent : List ℕ → ℕ → Bool
absent [] x = true
absent (y ∷ ys) x = not (eqb x y) && absent ys x

unfoldable pub distinct : List ℕ → Bool
distinct [] = true
distinct (x ∷ xs) = absent xs x && distinct xs

-- ---- equal names, by bytes: "a name record is its byte length, then bytes, zero-padded to a word", so equal bytes are equal words
unfoldable pub same : List ℕ → List ℕ → Bool
same [] [] = true
same [] (y ∷ ys) = false
same (x ∷ xs) [] = false
same (x ∷ xs) (y ∷ ys) = eqb x y && same xs ys

unfoldable pub unlike : List (List ℕ) → List ℕ → Bool
unlike [] x = true
unlike (y ∷ ys) x = not (same x y) && unlike ys x

-- "names are distinct"
unfoldable pub differ : List (List ℕ) → Bool
differ [] = true
differ (x ∷ xs) = unlike xs x && differ xs

-- ---- functions
-- named expressions: each has a name, and no expression is named twice
unfoldable pub expressions_named : Function → Bool
expressions_named f = present (map (field NAME) f.named) && distinct (map (field NAMED-EXPR) f.named)

unfoldable pub functions_named : List Function → Bool
functions_named [] = true
functions_named (f ∷ fs) = expressions_named f && functions_named fs

unfoldable pub entries_named : List Entry → Bool
entries_named [] = true
entries_named (p ∷ ps) = expressions_named p.function && entries_named ps

-- the names of table functions, and of entry points
unfoldable pub function_names : List Function → List ℕ
function_names [] = []
function_names (f ∷ fs) = field NAME f.head ∷ function_names fs

unfoldable pub entry_names : List Entry → List ℕ
entry_names [] = []
entry_names (p ∷ ps) = field NAME p.head ∷ entry_names ps

-- ---- the test
unfoldable pub named : Module → Bool
named m =
    present (function_names m.functions)
    && (present (entry_names m.entries)
    && (functions_named m.functions
    && (entries_named m.entries
    && (differ (map (map word) m.names)
    -- "functions have distinct names": names differ, so equal names are equal numbers
    && (distinct (function_names m.functions)
    && distinct (map (field KEY) m.special.pairs))))))

-- ---- what refusal 3 leaves of the named numbers: each is the number of an expression of its function, so it is below their limit
abbrev pub Few : Function → Type 0
Few f = Each (λ r. field NAMED-EXPR r < limit EXPRESSIONS) f.named

pub record NumbersFew (m : Module) : Type 0 where
  pub in_functions_lem : Each Few m.functions
  pub in_entries_lem : Each (λ p. Few p.function) m.entries

-- words and tags that hold such a module
pub record Numbered (words tags : List ℕ) (n : ℕ) : Type 0 where
  pub holds : Module
  pub taped : Taped words tags n holds
  pub few : NumbersFew holds
