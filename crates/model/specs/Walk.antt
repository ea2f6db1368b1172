-- Walks: a body followed by a finite list of numbers, to the events on the way and the end. The trace of a statement is put before the trace of what follows it, so the meaning of a statement takes what follows as an argument (`K`), and nothing is ever put together again.
-- A Loop has fuel, a unit for each round: a round takes a number, so one unit more than there are numbers is enough (`loop_unrolls` of the crate theory_walks removes it).
-- Document 01, "A walk follows a body by a finite list of numbers" to "are left out".
use Rattle.std.specs.Prelude.{List, [], ◌∷◌, ℕ, zero, suc, length}
use Rattle.std.proofs.Math.Option.{Option, none, some}
use Rattle.model.specs.Outcome.{Cells}
use Rattle.model.specs.Tree.{stmt, emit, block, branch, switch, loop, break, continue, return, kill, call, effect, end, ◌then◌, case, nomore, ◌also◌, Function}
use Rattle.model.specs.Operands.{ops_of, result_of, ops}
use Rattle.model.specs.Scope.{XStmt, XForm, XBlock, XCase, XCases, seen}

-- an expression read, an expression evaluated, a function called
pub data Event : Type 0 where
  read eval calls : ℕ → Event

-- "It ends when a number is wanted and none is left, at a missing case, with the body, with Return or with Kill"
pub data End : Type 0 where
  exhausted missing finished returned killed : End

pub data Trace : Type 0 where
  halt : End → Trace
  ◌▸◌ : Event → Trace → Trace

infixr 40 ◌▸◌
-- a part of the walk that is still to come: from the numbers left to its trace
abbrev pub Rest : Type 0
Rest = List ℕ → Trace

unfoldable pub ends : End → Rest
ends h cs = halt h

-- what follows: after the statement, after the Loop or Switch around it (Break), at the Loop's continuing block (Continue)
pub record K : Type 0 where
  pub go : Rest
  pub brk : Rest
  pub con : Rest

-- where a Break or a Continue has no place, it would end the walk with the body; test 6 refuses it
unfoldable pub only : Rest → K
only k = record { go = k; brk = ends finished; con = ends finished }

-- ---- events before a trace
-- "reads in field order"
unfoldable pub ▸read : List ℕ → Trace → Trace
▸read [] t = t
▸read (x ∷ xs) t = read x ▸ ▸read xs t

unfoldable pub ▸readOpt : Option ℕ → Trace → Trace
▸readOpt none t = t
▸readOpt (some e) t = read e ▸ t

-- "its result's evaluation"
unfoldable pub ▸evalOpt : Option ℕ → Trace → Trace
▸evalOpt none t = t
▸evalOpt (some e) t = eval e ▸ t

-- "an emitted expression's reads, then its evaluation"
unfoldable pub ▸emit : List Cells → List ℕ → Trace → Trace
▸emit xs [] t = t
▸emit xs (e ∷ es) t = ▸read (ops xs e) (eval e ▸ ▸emit xs es t)

-- ---- numbers
-- take one
unfoldable pub choose : (ℕ → Rest) → Rest
choose k [] = halt exhausted
choose k (n ∷ cs) = k n cs

-- "0 rejects", "0 goes on": 0 takes the second
unfoldable pub pick : Rest → Rest → ℕ → Rest
pick a b zero cs = b cs
pick a b (suc n) cs = a cs

-- "each end of a Loop round one, break_if or not (0 goes on, else break_if breaks; without it any goes on)": out of the loop, and again
unfoldable pub round_end : Option ℕ → Rest → Rest → Rest
round_end none out again cs = choose (λ n ds. again ds) cs
round_end (some e) out again cs = read e ▸ choose (pick out again) cs

-- a Loop: fuel, body, continuing, break_if, what follows it
unfoldable pub rounds : ℕ → (K → Rest) → (K → Rest) → Option ℕ → Rest → Rest
rounds zero b c x out cs = halt exhausted
rounds (suc n) b c x out cs =
    let cont : Rest = c (only (round_end x out (λ ds. rounds n b c x out ds))) in
    b (record { go = cont; brk = out; con = cont }) cs

-- "whose fall_through is followed": to the next case, or out of the Switch
unfoldable pub fall_to : ℕ → Rest → Rest → Rest
fall_to zero next out = out
fall_to (suc f) next out = next

-- ---- statements: "a statement's reads before it takes a number, then its call (the callee), then its result's evaluation"
unfoldable mutual
  pub walk_s : XStmt → List Cells → K → Rest
  walk_s (stmt a b f) xs k cs = walk_f f xs k cs

  pub walk_f : XForm → List Cells → K → Rest
  walk_f (emit es) xs k cs = ▸emit xs es (k.go cs)
  walk_f (block b) xs k cs = walk_b b xs k cs
  walk_f (branch c a b) xs k cs = read c ▸ choose (pick (λ ds. walk_b a xs k ds) (λ ds. walk_b b xs k ds)) cs
  walk_f (switch c ks) xs k cs = read c ▸ choose (λ n ds. walk_c ks xs (record { go = k.go; brk = k.go; con = k.con }) n ds) cs
  walk_f (loop a b x) xs k cs = rounds (suc (length cs)) (λ j ds. walk_b a xs j ds) (λ j ds. walk_b b xs j ds) x k.go cs
  walk_f break xs k cs = k.brk cs
  walk_f continue xs k cs = k.con cs
  walk_f (return x) xs k cs = ▸readOpt x (halt returned)
  walk_f kill xs k cs = halt killed
  walk_f (call f ys r) xs k cs = ▸read ys (calls f ▸ ▸evalOpt r (k.go cs))
  walk_f (effect n ws) xs k cs = ▸read (ops_of ws) (▸evalOpt (result_of ws) (k.go cs))

  pub walk_b : XBlock → List Cells → K → Rest
  walk_b end xs k cs = k.go cs
  walk_b (s then b) xs k cs = walk_s s xs (record { go = λ ds. walk_b b xs k ds; brk = k.brk; con = k.con }) cs

  -- a case, with the way on if it falls through
  pub walk_k : XCase → List Cells → Rest → K → Rest
  walk_k (case v b f) xs next k cs = walk_b b xs (record { go = fall_to f next k.go; brk = k.brk; con = k.con }) cs

  -- "Switch one (the index of a case ..; none there ends the walk)"; so does falling through past the last case
  pub walk_c : XCases → List Cells → K → ℕ → Rest
  walk_c nomore xs k n cs = halt missing
  walk_c (c also ks) xs k zero cs = walk_k c xs (λ ds. walk_c ks xs k zero ds) k cs
  walk_c (c also ks) xs k (suc n) cs = walk_c ks xs k n cs

-- the walk of a function's body; "initialiser expressions and their own reads are left out"
unfoldable pub walk : Function → Rest
walk F cs = walk_b (seen F) F.exprs (only (ends finished)) cs
