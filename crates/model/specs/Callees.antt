-- The callees of a function, and the order of a module's functions. Document 01, "Functions and entry points": "A chain follows Call statements, reached or not".
-- Only a Call statement calls: the function that a CallResult names is none by itself. Entry points call, and are not called, so the order is that of the table functions alone.
use Rattle.std.specs.Prelude.{Bool, List, [], ◌∷◌, ◌++◌, ℕ, ◌<◌, eqb, length}
use Rattle.std.proofs.Math.Option.{Option, none, some}
use Rattle.std.proofs.Math.ListN.{get_elem?}
use Rattle.model.specs.Tree.{Stmt, Form, Block, Cases, Case, stmt, emit, block, branch, switch, loop, break, continue, return, kill, call, effect, end, ◌then◌, nomore, ◌also◌, case, Range, Function}
use Rattle.model.specs.Module.{Module}
use Rattle.model.specs.Carry.{Each}
use Rattle.model.specs.Calls.{any, Order, order}

-- the functions that Call statements name, in the order of the text: in every block, case, body and continuing block, after a Return as before it
unfoldable mutual
  pub callees_s : Stmt Range → List ℕ
  callees_s (stmt a b f) = callees_f f

  pub callees_f : Form Range → List ℕ
  callees_f (emit r) = []
  callees_f (block b) = callees_b b
  callees_f (branch c a b) = callees_b a ++ callees_b b
  callees_f (switch c ks) = callees_c ks
  callees_f (loop a b o) = callees_b a ++ callees_b b
  callees_f break = []
  callees_f continue = []
  callees_f (return o) = []
  callees_f kill = []
  callees_f (call f xs r) = f ∷ []
  callees_f (effect k cs) = []

  pub callees_b : Block Range → List ℕ
  callees_b end = []
  callees_b (s then b) = callees_s s ++ callees_b b

  pub callees_k : Case Range → List ℕ
  callees_k (case v b f) = callees_b b

  pub callees_c : Cases Range → List ℕ
  callees_c nomore = []
  callees_c (k also ks) = callees_k k ++ callees_c ks

abbrev pub callees : Function → List ℕ
callees f = callees_b f.body

-- those of a table function; past the table there are none
unfoldable pub callees_at : Option Function → List ℕ
callees_at none = []
callees_at (some f) = callees f

-- table function i has a Call of function j in its body
unfoldable pub calls : Module → ℕ → ℕ → Bool
calls m i j = any (callees_at (get_elem? m.functions i)) (λ k. eqb j k)

-- "output order is by rank, then source number", or "12: a ring"
unfoldable pub order_of : Module → Order
order_of m = order (length m.functions) (calls m)

-- every callee of a table function is a table function: a part of refusal 3
abbrev pub CalleesKnown : Module → Type 0
CalleesKnown m = Each (λ f. Each (λ j. j < length m.functions) (callees f)) m.functions
