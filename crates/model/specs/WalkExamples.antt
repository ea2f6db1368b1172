-- Small walks, computed: which numbers are taken where, the order of events, and each of the five ends. One table, one theorem; and the marks of what a local reaches where operands run forward.
use Rattle.std.specs.Prelude.{List, [], ◌∷◌, ℕ}
use Rattle.std.proofs.Math.Option.{none, some}
use Rattle.model.specs.Outcome.{Cells}
use Rattle.model.specs.Tree.{branch, switch, loop, break, continue, return, kill, call, end, ◌then◌, case, nomore, ◌also◌, Function}
use Rattle.model.specs.Walk.{read, eval, calls, exhausted, missing, finished, returned, killed, Trace, halt, ◌▸◌, walk}
use Rattle.model.specs.SampleBodies.{literal, negate, add, called, swapped, does, evals, store, exchange, local, function}

-- 2: 0 + 1, 3: -2, 4: the result of function 5, 5: that of an Atomic
abbrev xs : List Cells
xs = literal 7 ∷ literal 8 ∷ add 0 1 ∷ negate 2 ∷ called 5 ∷ swapped ∷ []

abbrev emits : Function
emits = function [] xs (evals 2 4 then end)

abbrev branches : Function
branches = function [] xs (does (branch 0 (does kill then end) (does (call 5 (1 ∷ 0 ∷ []) (some 4)) then does (return (some 4)) then end)) then end)

-- the first case falls through to the second, the last past the last
abbrev switches : Function
switches = function [] xs (does (switch 0 (case [] (store 0 0 then end) 1 also case [] (store 1 1 then does break then end) 0 also case [] (store 0 1 then end) 1 also nomore)) then end)

-- a Continue or a Break in the body, a Store in the continuing block, break_if 1
abbrev looping : Function
looping = function [] xs (does (loop (does (branch 0 (does continue then end) (does (branch 1 (does break then end) end) then end)) then end) (store 0 1 then end) (some 1)) then end)

abbrev endless : Function
endless = function [] xs (does (loop (store 0 1 then end) end none) then end)

abbrev exchanging : Function
exchanging = function [] xs (exchange 0 2 0 6 then end)

-- the local's init is 3, which reaches 2
abbrev initialising : Function
initialising = function (local 4 ∷ []) xs (evals 2 4 then end)

pub record Sample : Type 0 where
  pub of : Function
  pub numbers : List ℕ
  pub gives : Trace

unfoldable pub samples : List Sample
samples =
    -- "an emitted expression's reads, then its evaluation"; it ends "with the body"
    record { of = emits; numbers = []; gives = read 0 ▸ read 1 ▸ eval 2 ▸ read 2 ▸ eval 3 ▸ halt finished }
    -- "If takes one (0 rejects)"; "a statement's reads .. before it takes a number, then its call (the callee), then its result's evaluation"; "with Return"
    ∷ record { of = branches; numbers = 0 ∷ []; gives = read 0 ▸ read 1 ▸ read 0 ▸ calls 5 ▸ eval 4 ▸ read 4 ▸ halt returned }
    -- "or with Kill"
    ∷ record { of = branches; numbers = 9 ∷ []; gives = read 0 ▸ halt killed }
    -- "when a number is wanted and none is left": the read comes first
    ∷ record { of = branches; numbers = []; gives = read 0 ▸ halt exhausted }
    -- "Switch one (the index of a case, whose fall_through is followed"; a Break leaves the Switch
    ∷ record { of = switches; numbers = 0 ∷ []; gives = read 0 ▸ read 0 ▸ read 0 ▸ read 1 ▸ read 1 ▸ halt finished }
    -- "none there ends the walk)", past the last case as well
    ∷ record { of = switches; numbers = 2 ∷ []; gives = read 0 ▸ read 0 ▸ read 1 ▸ halt missing }
    ∷ record { of = switches; numbers = 3 ∷ []; gives = read 0 ▸ halt missing }
    -- "each end of a Loop round one, break_if or not (0 goes on": a round with a Continue, one with neither, and one with a Break, which reads no break_if and takes no number for the round
    ∷ record {
      of = looping;
      numbers = 1 ∷ 0 ∷ 0 ∷ 0 ∷ 0 ∷ 0 ∷ 1 ∷ [];
      gives = read 0 ▸ read 0 ▸ read 1 ▸ read 1 ▸ read 0 ▸ read 1 ▸ read 0 ▸ read 1 ▸ read 1 ▸ read 0 ▸ read 1 ▸ halt finished;
    }
    -- "else break_if breaks"
    ∷ record { of = looping; numbers = 1 ∷ 4 ∷ []; gives = read 0 ▸ read 0 ▸ read 1 ▸ read 1 ▸ halt finished }
    -- "without it any goes on)"
    ∷ record { of = endless; numbers = 0 ∷ 5 ∷ []; gives = read 0 ▸ read 1 ▸ read 0 ▸ read 1 ▸ read 0 ▸ read 1 ▸ halt exhausted }
    -- "reads in field order": pointer, compare, value
    ∷ record { of = exchanging; numbers = []; gives = read 0 ▸ read 1 ▸ read 0 ▸ eval 5 ▸ halt finished }
    -- "Initialiser expressions and their own reads are left out."
    ∷ record { of = initialising; numbers = []; gives = halt finished }
    ∷ []

unfoldable pub found : List Sample → List Trace
found [] = []
found (s ∷ ss) = walk s.of s.numbers ∷ found ss

unfoldable pub stated : List Sample → List Trace
stated [] = []
stated (s ∷ ss) = s.gives ∷ stated ss

-- ---- what a local reaches: its init is 0, 0 reads 2, 2 reads 1, 1 reads 2
unfoldable pub forward : Function
forward = function (local 1 ∷ []) (negate 2 ∷ negate 2 ∷ negate 1 ∷ negate 0 ∷ []) end
