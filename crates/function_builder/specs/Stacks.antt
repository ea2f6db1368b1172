-- A function under construction as the arrays hold it: its expressions on a stack, one after the other, the place of each beside them; what its expressions are mapped to is in a map of
-- its own; the words of its declarations, its body and its names on another stack.
use Rattle.std.specs.Prelude.{◌≡◌, List, [], ℕ, ◌+◌, ◌≤◌, ◌<◌, length, get_or, take}
use Rattle.std.proofs.Math.Seq.{slice}
use Rattle.model.specs.Outcome.{Cells}
use Rattle.model.specs.Tables.{code_t}
use Rattle.model.specs.References.{Place, table, own, function}
use Rattle.model.specs.Bodies.{known, Builder}
use Rattle.derive_state.specs.Source.{mod_of}
use Rattle.derive_state.specs.Held.{row, cell, st_of}
use Rattle.derive_state.specs.Sizes.{Sizes}
use Rattle.function_references.specs.Cuts.{cut, Rising}

-- ---- what numbers are mapped to
-- by the rows and by the function's own map; a function is not mapped so
unfoldable pub went_by : List (List ℕ) → List ℕ → Place → ℕ → ℕ
went_by maps exprmap (table t) j = cell maps (code_t t) j
went_by maps exprmap own j = get_or exprmap j 0
went_by maps exprmap function j = 0

-- the same, and functions by their names
unfoldable pub went_of : List ℕ → ℕ → List ℕ → List ℕ → List (List ℕ) → List (List ℕ) → Sizes → List ℕ → Place → ℕ → ℕ
went_of words n log logtags starts maps e exprmap (table t) j = cell maps (code_t t) j
went_of words n log logtags starts maps e exprmap own j = get_or exprmap j 0
went_of words n log logtags starts maps e exprmap function j = known (mod_of words n) (st_of words log logtags starts [] [] e) j

-- ---- the stacks: words and classes of expressions, where each starts, and words of declarations, bodies and names
-- where the expressions of a function start, whose first one starts at e₁
unfoldable pub seats_of : List (List ℕ) → ℕ → Sizes → List ℕ
seats_of stacks e₁ e = slice e₁ (e₁ + e.made) (row stacks 2)

-- their cells
unfoldable pub made_of : List (List ℕ) → ℕ → Sizes → List Cells
made_of stacks e₁ e = cut (seats_of stacks e₁ e) e.exprtop (row stacks 1) (row stacks 0)

-- the builder, of a function of k expressions
unfoldable pub making_of : List ℕ → ℕ → List ℕ → List ℕ → List (List ℕ) → List (List ℕ) → List ℕ → Sizes → List ℕ → List (List ℕ) → ℕ → Builder
making_of words k log logtags starts maps special e exprmap stacks e₁ = record { out = st_of words log logtags starts maps special e; memo = take k exprmap; made = made_of stacks e₁ e }

-- lengths of the stacks, and their tops; a clause and no ghost field: of the rows, which C lends as one array, and of sizes, which are passed by value beside them
pub record Stacks (stacks : List (List ℕ)) (e : Sizes) : Type 0 where
  pub four : length stacks ≡ 4
  pub rows : (t : ℕ) → t < 4 → length (row stacks t) ≡ 16384
  pub high : e.exprtop ≤ 16384
  pub high' : e.bodytop ≤ 16384

-- a function under construction; a clause and no ghost field: its map, the stacks and the sizes are parameters of their own, for the reason beside `ShaderFunction`
pub record Under (k : ℕ) (exprmap : List ℕ) (stacks : List (List ℕ)) (e₁ : ℕ) (e : Sizes) : Type 0 where
  pub few : k ≤ 1024
  pub em_long : length exprmap ≡ 1024
  pub stacks_are : Stacks stacks e
  pub rising : Rising (seats_of stacks e₁ e) e₁ e.exprtop
  pub made_is : length (seats_of stacks e₁ e) ≡ e.made
  pub within : (x : ℕ) → get_or exprmap x 0 ≤ e.made
