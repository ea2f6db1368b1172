-- Numbers in range and kinds in their places: refusal 3. Unknown kinds and codes of variants are found by layout.
-- A cell is tested by its class: each class has a bound, or none. The bounds are the lengths of the module's tables and of the function's own lists.
-- Document 01, "Turned back by input", 3: "a number or code out of range, or a kind barred from its place".
use Rattle.std.specs.Prelude.{Bool, true, false, ◌&&◌, List, [], ◌∷◌, ℕ, suc, ◌-◌, eqb, ltb, leb, length, get_or}
use Rattle.std.proofs.Math.Option.{Option, none, some}
use Rattle.model.specs.Outcome.{Cell, Cells, class, word}
use Rattle.model.specs.Table.{WORD, FROM}
use Rattle.model.specs.Tree.{Function, Entry, flat, flat_entry}
use Rattle.model.specs.Module.{Module}
use Rattle.model.specs.Operands.{kind, constant_kind}
use Rattle.model.specs.Initial.{initialised}

-- ---- bounds
-- how many there are: of each table, and of expressions, arguments and locals of the function
pub record Bounds : Type 0 where
  pub names : ℕ
  pub types : ℕ
  pub constants : ℕ
  pub overrides : ℕ
  pub globals : ℕ
  pub inits : ℕ
  pub functions : ℕ
  pub exprs : ℕ
  pub arguments : ℕ
  pub locals : ℕ

-- what a word of each class from WORD on stays below; "an optional number is 0 for none, else the number plus 1"
unfoldable pub caps : Bounds → List (Option ℕ)
caps b =
    -- WORD, SPAN, UPTO: any word
    none ∷ none ∷ none
    -- NAME, which is optional
    ∷ some (suc b.names)
    -- TYPE, OPT_TYPE
    ∷ some b.types ∷ some (suc b.types)
    -- CONSTANT, OVERRIDE, GLOBAL
    ∷ some b.constants ∷ some b.overrides ∷ some b.globals
    -- INIT, OPT_INIT
    ∷ some b.inits ∷ some (suc b.inits)
    -- FUNCTION, CALLEE
    ∷ some b.functions ∷ some b.functions
    -- EXPR, OPT_EXPR
    ∷ some b.exprs ∷ some (suc b.exprs)
    -- ARGUMENT, LOCAL
    ∷ some b.arguments ∷ some b.locals
    -- FROM, which its end bounds; TO: "end at most the expression count"
    ∷ none ∷ some (suc b.exprs)
    -- RESULT, OPT_RESULT
    ∷ some b.exprs ∷ some (suc b.exprs)
    -- NAMED-EXPR, LOCAL-INIT
    ∷ some b.exprs ∷ some (suc b.exprs)
    -- from KEY on: any word, or one that layout has tested
    ∷ []

-- a class below WORD is a code below the class
unfoldable pub bound : Bounds → ℕ → Option ℕ
bound b s = elim (ltb s WORD) [ true ↦ some s | false ↦ get_or (caps b) (s - WORD) none ]

unfoldable pub below : Option ℕ → ℕ → Bool
below none w = true
below (some n) w = ltb w n

-- every word of the cells below its bound
unfoldable pub within : Bounds → Cells → Bool
within b [] = true
within b (c ∷ cs) = below (bound b (class c)) (word c) && within b cs

-- ---- Emit: "start at most end", which is the next word
unfoldable pub rising : Cell → Cells → Bool
rising c [] = true
rising c (d ∷ cs) = elim (eqb (class c) FROM) [ true ↦ leb (word c) (word d) | false ↦ true ]

unfoldable pub ordered : Cells → Bool
ordered [] = true
ordered (c ∷ cs) = rising c cs && ordered cs

-- ---- the module
unfoldable pub every : {A : Type 0} → (A → Bool) → List A → Bool
every p [] = true
every p (x ∷ xs) = p x && every p xs

-- the bounds outside functions: an operand is a global expression, and there are no arguments or locals
unfoldable pub outside : Module → Bounds
outside m = record {
  names = length m.names;
  types = length m.types;
  constants = length m.constants;
  overrides = length m.overrides;
  globals = length m.globals;
  inits = length m.exprs;
  functions = length m.functions;
  exprs = length m.exprs;
  arguments = 0;
  locals = 0;
}

-- the bounds in a function: its own expressions, arguments and locals
unfoldable pub inside : Bounds → Function → Bounds
inside b f = record {
  names = b.names;
  types = b.types;
  constants = b.constants;
  overrides = b.overrides;
  globals = b.globals;
  inits = b.inits;
  functions = b.functions;
  exprs = length f.exprs;
  arguments = length f.arguments;
  locals = length f.locals;
}

-- a function, with the cells of its record: "initialisers of locals reach only those kinds"
unfoldable pub sound : Bounds → Function → Cells → Bool
sound b f cs = within (inside b f) cs && (ordered cs && initialised f)

abbrev pub sound_function : Bounds → Function → Bool
sound_function b f = sound b f (flat f)

-- an entry point's name is tested with its function
abbrev pub sound_entry : Bounds → Entry → Bool
sound_entry b e = sound b e.function (flat_entry e)

-- "global expressions use only 0 to 8, 16 to 18 and 20 to 22"
unfoldable pub constant_only : Cells → Bool
constant_only x = constant_kind (kind x)

-- names hold bytes, and no number
unfoldable pub numbered : Module → Bool
numbered m =
    every (within (outside m)) m.types
    && (every (within (outside m)) m.constants
    && (every (within (outside m)) m.overrides
    && (every (within (outside m)) m.globals
    && (every (within (outside m)) m.exprs
    && (every constant_only m.exprs
    && (every (sound_function (outside m)) m.functions
    && (every (sound_entry (outside m)) m.entries
    && (within (outside m) m.special.rays
    && every (within (outside m)) m.special.pairs))))))))
