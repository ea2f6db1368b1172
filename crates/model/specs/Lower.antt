-- Refusal 4: "a reference not lower as above". What a type, an expression or a global expression names has a lower number than its own.
-- Document 01, "Types, constants, overrides, globals" and "Expressions".
use Rattle.std.specs.Prelude.{Bool, true, false, ◌&&◌, List, [], ◌∷◌, ◌++◌, ℕ, suc, eqb, ltb, get_or}
use Rattle.model.specs.Outcome.{Cells, class, word}
use Rattle.model.specs.Table.{TYPE, CONSTANT, OVERRIDE, INIT, OPT_INIT}
use Rattle.model.specs.Tree.{Function, Entry}
use Rattle.model.specs.Module.{Module}
use Rattle.model.specs.Operands.{optional, ops_of}

-- every number is below n
unfoldable pub below : List ℕ → ℕ → Bool
below [] n = true
below (x ∷ xs) n = ltb x n && below xs n

-- ---- "a base or member is a lower-numbered type"
-- the base or the members of a type
unfoldable pub bases_of : Cells → List ℕ
bases_of [] = []
bases_of (c ∷ cs) = elim (eqb (class c) TYPE) [ true ↦ word c ∷ bases_of cs | false ↦ bases_of cs ]

-- the types from number t on
unfoldable pub types_lower : List Cells → ℕ → Bool
types_lower [] t = true
types_lower (r ∷ rs) t = below (bases_of r) t && types_lower rs (suc t)

-- ---- "operands have lower numbers"
-- the expressions from number e on
unfoldable pub operands_lower : List Cells → ℕ → Bool
operands_lower [] e = true
operands_lower (x ∷ xs) e = below (ops_of x) e && operands_lower xs (suc e)

-- in table functions, and in the functions of entry points
unfoldable pub functions_lower : List Function → Bool
functions_lower [] = true
functions_lower (f ∷ fs) = operands_lower f.exprs 0 && functions_lower fs

unfoldable pub entries_lower : List Entry → Bool
entries_lower [] = true
entries_lower (p ∷ ps) = operands_lower p.function.exprs 0 && entries_lower ps

-- ---- "where one names a constant or override with an init, that init's number is lower"
-- the init of a constant, or the optional init of an override
unfoldable pub init_of : Cells → List ℕ
init_of [] = []
init_of (c ∷ cs) = elim (eqb (class c) INIT) [ true ↦ word c ∷ init_of cs | false ↦ elim (eqb (class c) OPT_INIT) [ true ↦ optional (word c) (init_of cs) | false ↦ init_of cs ] ]

-- the inits of the constants and overrides that a global expression names; a number outside its table names nothing (refusal 3)
unfoldable pub inits_of : Cells → List Cells → List Cells → List ℕ
inits_of [] ks os = []
inits_of (c ∷ cs) ks os =
    elim (eqb (class c) CONSTANT) [
      | true ↦ init_of (get_or ks (word c) []) ++ inits_of cs ks os
      | false ↦ elim (eqb (class c) OVERRIDE) [ true ↦ init_of (get_or os (word c) []) ++ inits_of cs ks os | false ↦ inits_of cs ks os ]
    ]

-- the global expressions from number e on, with the constants and the overrides
unfoldable pub inits_lower : List Cells → List Cells → List Cells → ℕ → Bool
inits_lower [] ks os e = true
inits_lower (x ∷ xs) ks os e = below (inits_of x ks os) e && inits_lower xs ks os (suc e)

-- ---- the test
unfoldable pub lower : Module → Bool
lower m =
    types_lower m.types 0
    && (operands_lower m.exprs 0
    && (inits_lower m.exprs m.constants m.overrides 0
    && (functions_lower m.functions
    && entries_lower m.entries)))
