-- What the pass over named expressions goes over: cell by cell, with marks.
use Rattle.std.specs.Prelude.{◌≡◌, Bool, true, false, ◌&&◌, not, List, [], ◌∷◌, ℕ, ◌<◌, eqb, get_or, set, replicate}
use Rattle.model.specs.Outcome.{Cell, Cells, class, word}
use Rattle.model.specs.Table.{NAME, NAMED-EXPR, NAMED}

-- the class of the cell before, and marks of the expressions that are named
-- a name of an expression that is none
unfoldable pub unnamed : ℕ → ℕ → ℕ → Bool
unnamed b s w = eqb b NAMED-EXPR && (eqb s NAME && eqb w 0)

-- no expression has a mark
abbrev pub NONE : List Bool
NONE = replicate 1024 false

-- every named expression has a name, and none is named twice in a function: b is the class of the cell before, and the marks are those of the expressions that are named so far
unfoldable pub marking : Cells → ℕ → List Bool → Bool
marking [] b ms = true
marking (c ∷ cs) b ms =
    not (unnamed b (class c) (word c))
    && elim (eqb (class c) NAMED) [
      | true ↦ marking cs (class c) NONE
      | false ↦ elim (eqb (class c) NAMED-EXPR) [ true ↦ not (get_or ms (word c) false) && marking cs (class c) (set ms (word c) true) | false ↦ marking cs (class c) ms ]
    ]

-- a named number has a mark
pub record Small (c : Cell) : Type 0 where
  pub small : class c ≡ NAMED-EXPR → word c < 1024
