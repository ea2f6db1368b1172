-- Callees and orders by example, computed: document 01's P5, P6, P9 and P12 as modules, and Calls in every place of a body.
use Rattle.std.specs.Prelude.{◌≡◌, false, List, [], ◌∷◌, ℕ}
use Rattle.std.proofs.Math.Option.{none, some}
use Rattle.model.specs.Table.{VALUE}
use Rattle.model.specs.Tree.{Stmt, block, branch, switch, loop, break, return, call, end, ◌then◌, nomore, ◌also◌, case, Range, Function}
use Rattle.model.specs.Module.{Module}
use Rattle.model.specs.Calls.{ordered, ring}
use Rattle.model.specs.Callees.{callees, calls, order_of}
use Rattle.model.specs.SampleBodies.{literal, called, does, evals, function}

-- a Call of f, without operands or result
abbrev calling : ℕ → Stmt Range
calling f = does (call f [] none)

-- a function that calls none, and one that calls f
abbrev alone : Function
alone = function [] [] end

abbrev caller : ℕ → Function
caller f = function [] [] (calling f then end)

abbrev holding : List Function → Module
holding fs = record { names = []; types = []; constants = []; overrides = []; globals = []; exprs = []; functions = fs; entries = []; special = record { rays = []; pairs = [] } }

pub record Called : Type 0 where
  -- a CallResult without a Call is no call
  pub result_only : callees (function [] (called 3 ∷ []) (evals 0 0 then end)) ≡ []
  -- a Call with its result is one
  pub with_result : callees (function [] (literal 1 ∷ called 3 ∷ []) (does (call 3 (0 ∷ []) (some 1)) then end)) ≡ 3 ∷ []
  -- after a Return, and twice
  pub not_reached : callees (function [] [] (does (return none) then calling 4 then calling 4 then end)) ≡ 4 ∷ 4 ∷ []
  -- in a switch case in a loop, in the loop's continuing block, and after the loop's Break
  pub nested : callees (function [] (literal 1 ∷ [])
      (does (loop
      (does (switch 0 (case ((VALUE, 2) ∷ []) (calling 1 then does break then end) 0 also case ((VALUE, 2) ∷ []) (calling 2 then end) 1 also nomore)) then does break then calling 3 then end)
      (calling 4 then end) (some 0))
      then end)) ≡ 1 ∷ 2 ∷ 3 ∷ 4 ∷ []
  -- in a block, in accept and in reject
  pub branches : callees (function [] (literal 1 ∷ []) (does (block (does (branch 0 (calling 5 then end) (calling 6 then end)) then end)) then end)) ≡ 5 ∷ 6 ∷ []
  -- past the table nothing is called
  pub past : calls (holding (caller 0 ∷ [])) 1 0 ≡ false
  -- P5: a calls b; b; c
  pub p5 : order_of (holding (caller 1 ∷ alone ∷ alone ∷ [])) ≡ ordered (1 ∷ 2 ∷ 0 ∷ [])
  -- P6: shade calls fog; tone; fog calls tone
  pub p6 : order_of (holding (caller 2 ∷ alone ∷ caller 1 ∷ [])) ≡ ordered (1 ∷ 2 ∷ 0 ∷ [])
  -- P9: one self-caller
  pub p9 : order_of (holding (caller 0 ∷ [])) ≡ ring 1
  -- P12: no functions
  pub p12 : order_of (holding []) ≡ ordered []
  -- a ring that no walk goes round: after a Return
  pub behind : order_of (holding (function [] [] (does (return none) then calling 0 then end) ∷ [])) ≡ ring 1
