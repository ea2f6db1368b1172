-- The Scope paragraph of document 01 by example: for each of its rules a function that passes and, beside it, one that is refused and differs in as little as can be. One table, one theorem.
use Rattle.std.specs.Prelude.{Bool, List, [], ◌∷◌, ℕ}
use Rattle.std.proofs.Math.Option.{Option, none, some}
use Rattle.model.specs.Outcome.{Cells}
use Rattle.model.specs.Tree.{Form, block, branch, switch, loop, break, continue, return, kill, call, Block, end, ◌then◌, case, nomore, ◌also◌, Range, Function}
use Rattle.model.specs.Scope.{scoped}
use Rattle.model.specs.SampleBodies.{literal, negate, called, swapped, loaded, does, evals, store, atomic, uniform_load, local, function}

abbrev Body : Type 0
Body = Block Range

-- two literals, then 2: -0, 3: -2, 4: the result of function 5
abbrev xs : List Cells
xs = literal 7 ∷ literal 8 ∷ negate 0 ∷ negate 2 ∷ called 5 ∷ swapped ∷ loaded ∷ []

abbrev f : Body → Function
f b = function [] xs b

abbrev loops : Body → Body → Option ℕ → Body
loops a b x = does (loop a b x) then end

abbrev only : Form Range → Body
only s = does s then end

-- what passes, and what is refused
pub record Pair : Type 0 where
  pub good : Function
  pub bad : Function

unfoldable pub pairs : List Pair
pairs =
    -- "standing expressions from the start"
    record { good = f (store 0 1 then end); bad = f (store 0 2 then end) }
    -- "an emitted one from its turn in its Emit on"
    ∷ record { good = f (evals 2 4 then store 0 3 then end); bad = f (evals 3 4 then evals 2 3 then end) }
    -- "a result after its statement"
    ∷ record { good = f (does (call 5 (0 ∷ []) (some 4)) then store 0 4 then end); bad = f (does (call 5 (4 ∷ []) (some 4)) then end) }
    -- "until its block ends"
    ∷ record { good = f (does (block (evals 2 3 then store 0 2 then end)) then end); bad = f (does (block (evals 2 3 then end)) then store 0 2 then end) }
    -- cases that fall through do not share scope
    ∷ record {
      good = f (does (switch 0 (case [] (evals 2 3 then end) 1 also case [] (store 0 1 then end) 0 also nomore)) then end);
      bad = f (does (switch 0 (case [] (evals 2 3 then end) 1 also case [] (store 0 2 then end) 0 also nomore)) then end);
    }
    -- "in this paragraph .. those of expressions never evaluated do not count"
    ∷ record { good = f (evals 2 3 then end); bad = f (evals 3 4 then end) }
    -- "in this paragraph the own reads of initialiser expressions .. do not count"
    ∷ record { good = function (local 4 ∷ []) xs (evals 3 4 then end); bad = function (local 1 ∷ []) xs (evals 3 4 then end) }
    -- "Each is evaluated by one Emit or statement at most."
    ∷ record {
      good = f (does (branch 0 (evals 2 3 then end) end) then end);
      bad = f (does (branch 0 (evals 2 3 then end) (evals 2 3 then end)) then end);
    }
    -- initialiser expressions too
    ∷ record { good = function (local 3 ∷ []) xs (evals 2 3 then end); bad = function (local 3 ∷ []) xs (evals 2 3 then evals 2 3 then end) }
    -- "A Loop's continuing and break_if also see the body's top level up to the first Continue of that loop"
    ∷ record {
      good = f (loops (evals 2 3 then does continue then end) (store 0 2 then end) (some 2));
      bad = f (loops (does (branch 0 (only continue) end) then evals 2 3 then end) (store 0 2 then end) none);
    }
    -- an inner loop's Continue does not cut
    ∷ record {
      good = f (loops (does (loop (only continue) end none) then evals 2 3 then end) end (some 2));
      bad = f (loops (does (switch 0 (case [] (only continue) 0 also nomore)) then evals 2 3 then end) end (some 2));
    }
    -- "and break_if the continuing block's"
    ∷ record { good = f (loops end (evals 2 3 then end) (some 2)); bad = f (loops end (only (block (evals 2 3 then end))) (some 2)) }
    -- "Outside initialisers nothing reads an initialiser expression."
    ∷ record { good = function (local 3 ∷ []) xs (evals 2 3 then end); bad = function (local 3 ∷ []) xs (evals 2 3 then store 0 2 then end) }
    -- "An Emit holds no standing or result kind."
    ∷ record { good = f (evals 2 3 then end); bad = f (evals 1 2 then end) }
    ∷ record { good = f (evals 2 4 then end); bad = f (evals 2 5 then end) }
    -- "The innermost Loop block or Switch around a Break .. exists and is no continuing block"
    ∷ record { good = f (loops (only break) end none); bad = f (only break) }
    ∷ record { good = f (loops end (only (switch 0 (case [] (only break) 0 also nomore))) none); bad = f (loops end (only (branch 0 (only break) end)) none) }
    -- not the Switch outside the Loop
    ∷ record { good = f (only (switch 0 (case [] (only break) 0 also nomore))); bad = f (only (switch 0 (case [] (loops end (only break) none) 0 also nomore))) }
    -- "and the innermost Loop block around a Continue"
    ∷ record { good = f (loops end (loops (only continue) end none) none); bad = f (loops end (only (switch 0 (case [] (only continue) 0 also nomore))) none) }
    ∷ record { good = f (loops (only (switch 0 (case [] (only continue) 0 also nomore))) end none); bad = f (only (switch 0 (case [] (only continue) 0 also nomore))) }
    -- "no Return in continuing"
    ∷ record { good = f (loops end (only kill) none); bad = f (loops end (loops (only (return none)) end none) none) }
    -- "A Call's result is a CallResult of the same function"
    ∷ record { good = f (only (call 5 [] (some 4))); bad = f (only (call 6 [] (some 4))) }
    ∷ record { good = f (only (call 5 [] none)); bad = f (only (call 5 [] (some 5))) }
    -- "one of Atomic .. an AtomicResult, one of WorkGroupUniformLoad a WorkGroupUniformLoadResult"
    ∷ record { good = f (atomic 0 1 6 then end); bad = f (atomic 0 1 7 then end) }
    ∷ record { good = f (uniform_load 0 6 then end); bad = f (uniform_load 0 5 then end) }
    ∷ []

unfoldable pub verdicts : List Pair → List (Bool × Bool)
unfolding scoped
verdicts [] = []
verdicts (p ∷ ps) = (scoped p.good, scoped p.bad) ∷ verdicts ps
