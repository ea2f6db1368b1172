-- The syntax tree of functions, its flat list of cells, and how it is read. The tree holds nothing that can be computed: counts, lengths and kinds come from `flat`.
-- Document 01, "Statements" and "Functions and entry points".
use Rattle.std.specs.Prelude.{true, false, List, [], ◌∷◌, ◌++◌, map, ℕ, zero, suc, eqb, leb, length}
use Rattle.std.proofs.Math.Option.{Option, none, some}
use Rattle.std.proofs.Math.ListN.{get_elem?}
use Rattle.model.specs.Outcome.{Cells, Outcome, fits, misfit, unknown, ◌⟫◌, eat}
use Rattle.model.specs.Table.{Row, SPAN, UPTO, CALLEE, EXPR, OPT_EXPR, FROM, TO, OPT_RESULT, OPERANDS, ARGUMENTS, LOCALS, EXPRESSIONS, NAMED, VALUE, RETURNS, BLOCK, CASES, LENGTH, STMT_KIND, Shape, s_emit, s_block, s_if, s_switch, s_loop, s_break, s_continue, s_return, s_kill, s_call, s_effect, statements, counted, limit, function_head, entry_head, run}

-- ---- the tree; E is what an Emit holds: a range in an image, the list of what it evaluates in a walk
mutual
  -- its span, and what it does
  pub data Stmt (E : Type 0) : Type 0 where
    stmt : ℕ → ℕ → Form E → Stmt E

  pub data Form (E : Type 0) : Type 0 where
    emit : E → Form E
    block : Block E → Form E
    branch : ℕ → Block E → Block E → Form E
    switch : ℕ → Cases E → Form E
    loop : Block E → Block E → Option ℕ → Form E
    break continue : Form E
    return : Option ℕ → Form E
    kill : Form E
    -- the function, the operands, the result
    call : ℕ → List ℕ → Option ℕ → Form E
    -- its kind, and the fields of its row
    effect : ℕ → Cells → Form E

  pub data Block (E : Type 0) : Type 0 where
    end : Block E
    ◌then◌ : Stmt E → Block E → Block E

  -- the value, the body, fall_through
  pub data Case (E : Type 0) : Type 0 where
    case : Cells → Block E → ℕ → Case E

  pub data Cases (E : Type 0) : Type 0 where
    nomore : Cases E
    ◌also◌ : Case E → Cases E → Cases E

infixr 50 ◌then◌
infixr 50 ◌also◌
-- an Emit's start, and its end, which is excluded
pub record Range : Type 0 where
  pub from : ℕ
  pub to : ℕ

-- "name, span, arguments (name, type, binding), optional result (type, binding), locals (span, name, type, optional init), expressions, named expressions (expression, name), body"
pub record Function : Type 0 where
  pub head : Cells
  pub arguments : List Cells
  pub result : Cells
  pub locals : List Cells
  pub exprs : List Cells
  pub named : List Cells
  pub body : Block Range

-- "name, stage word, two early-depth words, three workgroup words, a function"
pub record Entry : Type 0 where
  pub head : Cells
  pub function : Function

-- ---- optional numbers: "0 for none, else the number plus 1"
unfoldable pub opt_of : ℕ → Option ℕ
opt_of zero = none
opt_of (suc e) = some e

unfoldable pub word_of : Option ℕ → ℕ
word_of none = zero
word_of (some e) = suc e

-- ---- flat
unfoldable pub kind_of : {E : Type 0} → Form E → ℕ
kind_of (emit r) = 0
kind_of (block b) = 1
kind_of (branch c a b) = 2
kind_of (switch c ks) = 3
kind_of (loop a b o) = 4
kind_of break = 5
kind_of continue = 6
kind_of (return o) = 7
kind_of kill = 8
kind_of (call f xs r) = 15
kind_of (effect k cs) = k

unfoldable pub size_b : {E : Type 0} → Block E → ℕ
size_b end = zero
size_b (s then b) = suc (size_b b)

unfoldable pub size_c : {E : Type 0} → Cases E → ℕ
size_c nomore = zero
size_c (k also ks) = suc (size_c ks)

unfoldable pub flat_all : List Cells → Cells
flat_all [] = []
flat_all (r ∷ rs) = r ++ flat_all rs

-- "each list after its count"
unfoldable pub flat_list : ℕ → List Cells → Cells
flat_list s rs = (s, length rs) ∷ flat_all rs

unfoldable pub flat_x : List ℕ → Cells
flat_x xs = (OPERANDS, length xs) ∷ map (λ x. (EXPR, x)) xs

-- "length in words (itself included), kind, span, fields; a block is a count and its statements"
unfoldable mutual
  pub flat_s : Stmt Range → Cells
  flat_s (stmt a b f) = (LENGTH, suc (suc (suc (suc (length (flat_f f)))))) ∷ (STMT_KIND, kind_of f) ∷ (SPAN, a) ∷ (UPTO, b) ∷ flat_f f

  pub flat_f : Form Range → Cells
  flat_f (emit r) = (FROM, r.from) ∷ (TO, r.to) ∷ []
  flat_f (block b) = (BLOCK, size_b b) ∷ flat_b b
  flat_f (branch c a b) = (EXPR, c) ∷ ((BLOCK, size_b a) ∷ flat_b a) ++ (BLOCK, size_b b) ∷ flat_b b
  flat_f (switch c ks) = (EXPR, c) ∷ (CASES, size_c ks) ∷ flat_c ks
  flat_f (loop a b o) = ((BLOCK, size_b a) ∷ flat_b a) ++ ((BLOCK, size_b b) ∷ flat_b b) ++ (OPT_EXPR, word_of o) ∷ []
  flat_f break = []
  flat_f continue = []
  flat_f (return o) = (OPT_EXPR, word_of o) ∷ []
  flat_f kill = []
  flat_f (call f xs r) = (CALLEE, f) ∷ flat_x xs ++ (OPT_RESULT, word_of r) ∷ []
  flat_f (effect k cs) = cs

  pub flat_b : Block Range → Cells
  flat_b end = []
  flat_b (s then b) = flat_s s ++ flat_b b

  pub flat_k : Case Range → Cells
  flat_k (case v b f) = v ++ ((BLOCK, size_b b) ∷ flat_b b) ++ (2, f) ∷ []

  pub flat_c : Cases Range → Cells
  flat_c nomore = []
  flat_c (k also ks) = flat_k k ++ flat_c ks

-- a block after its count
unfoldable pub flat_block : Block Range → Cells
flat_block b = (BLOCK, size_b b) ∷ flat_b b

unfoldable pub flat : Function → Cells
flat t =
    t.head
    ++ flat_list ARGUMENTS t.arguments
    ++ t.result
    ++ flat_list LOCALS t.locals
    ++ flat_list EXPRESSIONS t.exprs
    ++ flat_list NAMED t.named
    ++ flat_block t.body

unfoldable pub flat_entry : Entry → Cells
flat_entry e = e.head ++ flat e.function

-- ---- reading
unfoldable pub rows : ℕ → Row → List ℕ → Outcome (List Cells)
rows zero r ws = fits [] ws
rows (suc n) r ws = run ws r ⟫ λ c ws. rows n r ws ⟫ λ cs ws. fits (c ∷ cs) ws

-- a list of the class s, up to its limit
unfoldable pub listed : ℕ → List ℕ → Outcome (List Cells)
listed s ws = eat ws λ n ws. elim (leb n (limit s)) [ true ↦ rows n (counted s) ws | false ↦ misfit ]

unfoldable pub operands : ℕ → List ℕ → Outcome (List ℕ)
operands zero ws = fits [] ws
operands (suc n) ws = eat ws λ x ws. operands n ws ⟫ λ xs ws. fits (x ∷ xs) ws

unfoldable pub stmts : ℕ → (List ℕ → Outcome (Stmt Range)) → List ℕ → Outcome (Block Range)
stmts zero p ws = fits end ws
stmts (suc n) p ws = p ws ⟫ λ s ws. stmts n p ws ⟫ λ b ws. fits (s then b) ws

-- B reads a block one level down
unfoldable pub case_at : (List ℕ → Outcome (Block Range)) → List ℕ → Outcome (Case Range)
case_at B ws = run ws (VALUE ∷ []) ⟫ λ v ws. B ws ⟫ λ b ws. eat ws λ f ws. fits (case v b f) ws

unfoldable pub cases : ℕ → (List ℕ → Outcome (Case Range)) → List ℕ → Outcome (Cases Range)
cases zero p ws = fits nomore ws
cases (suc n) p ws = p ws ⟫ λ k ws. cases n p ws ⟫ λ ks ws. fits (k also ks) ws

unfoldable pub form : Shape → ℕ → (List ℕ → Outcome (Block Range)) → List ℕ → Outcome (Form Range)
form s_emit k B ws = eat ws λ a ws. eat ws λ b ws. fits (emit (record { from = a; to = b })) ws
form s_block k B ws = B ws ⟫ λ b ws. fits (block b) ws
form s_if k B ws = eat ws λ c ws. B ws ⟫ λ a ws. B ws ⟫ λ b ws. fits (branch c a b) ws
form s_switch k B ws = eat ws λ c ws. eat ws λ n ws. cases n (case_at B) ws ⟫ λ ks ws. fits (switch c ks) ws
form s_loop k B ws = B ws ⟫ λ a ws. B ws ⟫ λ b ws. eat ws λ o ws. fits (loop a b (opt_of o)) ws
form s_break k B ws = fits break ws
form s_continue k B ws = fits continue ws
form s_return k B ws = eat ws λ o ws. fits (return (opt_of o)) ws
form s_kill k B ws = fits kill ws
form s_call k B ws = eat ws λ f ws. eat ws λ n ws. operands n ws ⟫ λ xs ws. eat ws λ r ws. fits (call f xs (opt_of r)) ws
form (s_effect ss) k B ws = run ws ss ⟫ λ cs ws. fits (effect k cs) ws

-- "a statement's length is compared once its fields are laid out"
unfoldable pub checked : ℕ → Stmt Range → List ℕ → Outcome (Stmt Range)
checked n s ws = elim (eqb n (length (flat_s s))) [ true ↦ fits s ws | false ↦ misfit ]

unfoldable pub shaped : Option Shape → (Shape → Outcome (Stmt Range)) → Outcome (Stmt Range)
shaped none f = unknown
shaped (some sh) f = f sh

unfoldable pub statement : (List ℕ → Outcome (Block Range)) → List ℕ → Outcome (Stmt Range)
statement B ws = eat ws λ n ws. eat ws λ k ws. shaped (get_elem? statements k) λ sh. eat ws λ a ws. eat ws λ b ws. form sh k B ws ⟫ λ f ws. checked n (stmt a b f) ws

-- a block with d levels left: "blocks nested 32 deep (a body is depth 1)"
unfoldable pub block_at : ℕ → List ℕ → Outcome (Block Range)
block_at zero ws = misfit
block_at (suc d) ws = eat ws λ n ws. stmts n (statement (block_at d)) ws

abbrev pub DEPTH : ℕ
DEPTH = 32

unfoldable pub function_at : List ℕ → Outcome Function
function_at ws =
    run ws function_head ⟫ λ h ws. listed ARGUMENTS ws ⟫ λ gs ws. run ws (RETURNS ∷ []) ⟫ λ r ws. listed LOCALS ws ⟫ λ ls ws. listed EXPRESSIONS ws ⟫ λ es ws. listed NAMED ws ⟫ λ ns ws. block_at DEPTH ws ⟫ λ b ws.
    fits (record { head = h; arguments = gs; result = r; locals = ls; exprs = es; named = ns; body = b }) ws

unfoldable pub entry_at : List ℕ → Outcome Entry
entry_at ws = run ws entry_head ⟫ λ h ws. function_at ws ⟫ λ f ws. fits (record { head = h; function = f }) ws
