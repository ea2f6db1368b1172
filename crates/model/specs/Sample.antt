-- A module with every form of statement and a list or a variant in every table, read, written and carried by computation; and modules that are not well formed, which are not read.
use Rattle.std.specs.Prelude.{◌≡◌, true, false, [], ◌∷◌, ℕ, ◌+◌, ltb}
use Rattle.std.proofs.Math.Option.{none, some}
use Rattle.model.specs.Outcome.{Cells, laid, bad, strange}
use Rattle.model.specs.Table.{WORD, SPAN, UPTO, NAME, TYPE, OPT_TYPE, CONSTANT, INIT, EXPR, OPT_EXPR, OPT_RESULT, NAMED-EXPR, LOCAL-INIT, KEY, PLACE, PAD, TEXT, OPERANDS, MEMBERS, TYPE_KIND, EXPR_KIND, LEVEL, VALUE, ATOMIC, RETURNS, types}
use Rattle.model.specs.Tree.{Block, stmt, emit, block, branch, switch, loop, break, continue, return, kill, call, effect, end, ◌then◌, nomore, ◌also◌, case, Range, Function}
use Rattle.model.specs.Module.{Module, read, flat_module, write}
use Rattle.model.specs.Carry.{carry_cells, carry}

unfoldable pub body : Block Range
body =
    stmt 1 2 (emit (record { from = 0; to = 1 }))
    then stmt 0 0 (branch 3 (stmt 0 0 (block end) then end) (stmt 4 5 kill then end))
    then stmt 0 0 (switch 1 (case ((VALUE, 0) ∷ (WORD, 9) ∷ []) end 1 also case ((VALUE, 2) ∷ []) (stmt 0 0 break then end) 0 also nomore))
    then stmt 0 0 (loop (stmt 0 0 continue then end) end (some 6))
    then stmt 0 0 (call 2 (7 ∷ 8 ∷ []) (some 9))
    then stmt 0 0 (effect 13 ((EXPR, 1) ∷ (ATOMIC, 7) ∷ (OPT_EXPR, 2) ∷ (EXPR, 3) ∷ (OPT_RESULT, 0) ∷ []))
    then stmt 0 0 (return none)
    then end

unfoldable pub function : Function
function = record {
  head = (NAME, 1) ∷ (SPAN, 0) ∷ (UPTO, 9) ∷ [];
  arguments = ((NAME, 0) ∷ (TYPE, 0) ∷ (WORD, 1) ∷ (WORD, 2) ∷ (WORD, 3) ∷ (WORD, 4) ∷ (WORD, 5) ∷ (WORD, 6) ∷ []) ∷ [];
  result = (RETURNS, 1) ∷ (TYPE, 0) ∷ (WORD, 1) ∷ (WORD, 2) ∷ (WORD, 3) ∷ (WORD, 4) ∷ (WORD, 5) ∷ (WORD, 6) ∷ [];
  locals = ((SPAN, 3) ∷ (UPTO, 4) ∷ (NAME, 1) ∷ (TYPE, 0) ∷ (LOCAL-INIT, 1) ∷ []) ∷ [];
  exprs = ((EXPR_KIND, 4) ∷ (SPAN, 0) ∷ (UPTO, 0) ∷ (TYPE, 0) ∷ (OPERANDS, 2) ∷ (EXPR, 0) ∷ (EXPR, 1) ∷ [])
      ∷ ((EXPR_KIND, 13) ∷ (SPAN, 0) ∷ (UPTO, 0) ∷ (EXPR, 1) ∷ (EXPR, 2) ∷ (5, 0) ∷ (EXPR, 3) ∷ (OPT_EXPR, 0) ∷ (OPT_EXPR, 1) ∷ (LEVEL, 4) ∷ (EXPR, 5) ∷ (EXPR, 6) ∷ (OPT_EXPR, 0) ∷ (2, 1) ∷ [])
      ∷ [];
  named = ((NAMED-EXPR, 0) ∷ (NAME, 1) ∷ []) ∷ [];
  body = body;
}

-- a name of five bytes, a struct of one member, a constant, a literal, a function, an entry point, a special type
unfoldable pub sample : Module
sample = record {
  names = ((TEXT, 5) ∷ (WORD, 1684234849) ∷ (PAD, 101) ∷ []) ∷ [];
  types = ((NAME, 1) ∷ (SPAN, 0) ∷ (UPTO, 0) ∷ (TYPE_KIND, 2) ∷ (WORD, 16) ∷ (MEMBERS, 1) ∷ (NAME, 0) ∷ (TYPE, 0) ∷ (WORD, 0) ∷ (WORD, 0) ∷ (WORD, 0) ∷ (WORD, 0) ∷ (WORD, 0) ∷ (WORD, 0) ∷ (WORD, 0) ∷ []) ∷ [];
  constants = ((NAME, 0) ∷ (SPAN, 0) ∷ (UPTO, 0) ∷ (TYPE, 0) ∷ (INIT, 0) ∷ []) ∷ [];
  overrides = [];
  globals = [];
  exprs = ((EXPR_KIND, 0) ∷ (SPAN, 0) ∷ (UPTO, 0) ∷ (10, 4) ∷ (WORD, 7) ∷ (WORD, 0) ∷ []) ∷ ((EXPR_KIND, 1) ∷ (SPAN, 0) ∷ (UPTO, 0) ∷ (CONSTANT, 0) ∷ []) ∷ [];
  functions = function ∷ [];
  entries = record { head = (NAME, 1) ∷ (WORD, 2) ∷ (WORD, 0) ∷ (WORD, 0) ∷ (WORD, 1) ∷ (WORD, 1) ∷ (WORD, 1) ∷ []; function = function } ∷ [];
  special = record { rays = (OPT_TYPE, 0) ∷ (OPT_TYPE, 1) ∷ (OPT_TYPE, 0) ∷ []; pairs = ((KEY, 7) ∷ (TYPE, 0) ∷ []) ∷ [] };
}

-- a map that adds its class to every number, and leaves the classes from PLACE on as they are
unfoldable pub moved : ℕ → ℕ → ℕ
moved s w = elim (ltb s PLACE) [ true ↦ s + w | false ↦ w ]

-- not well formed: padding that is not zero, a row that lacks a word, a code that is none of the listed
unfoldable pub named : Cells → Module
named n = record { names = n ∷ []; types = []; constants = []; overrides = []; globals = []; exprs = []; functions = []; entries = []; special = record { rays = (OPT_TYPE, 0) ∷ (OPT_TYPE, 0) ∷ (OPT_TYPE, 0) ∷ []; pairs = [] } }

unfoldable pub padded : Module
padded = named ((TEXT, 1) ∷ (PAD, 256) ∷ [])

unfoldable pub short : Module
short = named ((TEXT, 5) ∷ (WORD, 0) ∷ [])

unfoldable pub odd : Module
odd = record { names = []; types = ((NAME, 0) ∷ (SPAN, 0) ∷ (UPTO, 0) ∷ (TYPE_KIND, 5) ∷ []) ∷ []; constants = []; overrides = []; globals = []; exprs = []; functions = []; entries = []; special = record { rays = (OPT_TYPE, 0) ∷ (OPT_TYPE, 0) ∷ (OPT_TYPE, 0) ∷ []; pairs = [] } }

pub record Shown : Type 0 where
  -- what is written is read
  pub sample-read : read (write sample) ≡ laid sample
  -- the carried tree's cells are the cells carried, and it is read again
  pub sample-carried : flat_module (carry moved sample) ≡ carry_cells moved (flat_module sample)
  pub carried-read : read (write (carry moved sample)) ≡ laid (carry moved sample)
  pub padded-read : read (write padded) ≡ bad
  pub short-read : read (write short) ≡ bad
  pub odd-read : read (write odd) ≡ strange
