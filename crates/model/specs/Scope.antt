-- Refusal 6: the Scope paragraph of document 01, a definition for each of its sentences, and `scoped`, which joins them into one test of a function.
-- The body is looked at through `expand`: each Emit holds the list of what it evaluates. With the initialiser expressions dropped from these lists, their own reads do not count, and nobody can read them, since they are never in scope; what no Emit holds is never looked at, so its reads do not count either.
use Rattle.std.specs.Prelude.{Bool, true, false, ◌&&◌, ◌||◌, not, List, [], ◌∷◌, ◌++◌, ℕ, zero, suc, ◌-◌, eqb, get_or}
use Rattle.std.proofs.Math.Option.{Option, none, some}
use Rattle.model.specs.Outcome.{Cells}
use Rattle.model.specs.Tree.{Stmt, stmt, Form, emit, block, branch, switch, loop, break, continue, return, kill, call, effect, Block, end, ◌then◌, Case, case, Cases, nomore, ◌also◌, Range, Function, Entry}
use Rattle.model.specs.Module.{Module}
use Rattle.model.specs.Operands.{ops_of, result_of, function_of, emitted_kind, ops, kind_at, standing}
use Rattle.model.specs.Initial.{marked, initials}

-- ---- a body as scope and walks see it
abbrev pub XStmt : Type 0
XStmt = Stmt (List ℕ)

abbrev pub XForm : Type 0
XForm = Form (List ℕ)

abbrev pub XBlock : Type 0
XBlock = Block (List ℕ)

abbrev pub XCase : Type 0
XCase = Case (List ℕ)

abbrev pub XCases : Type 0
XCases = Cases (List ℕ)

-- n numbers from s on
unfoldable pub up_from : ℕ → ℕ → List ℕ
up_from zero s = []
up_from (suc n) s = s ∷ up_from n (suc s)

-- "Emit is start and end, end excluded"
unfoldable pub in_range : Range → List ℕ
in_range r = up_from (r.to - r.from) r.from

-- those that are not dropped
unfoldable pub live : List ℕ → (ℕ → Bool) → List ℕ
live [] drop = []
live (e ∷ es) drop = elim (drop e) [ true ↦ live es drop | false ↦ e ∷ live es drop ]

-- each Emit replaced by the list of what it evaluates; spans are nothing to scope and walks
unfoldable mutual
  pub expand_s : Stmt Range → (ℕ → Bool) → XStmt
  expand_s (stmt a b f) drop = stmt 0 0 (expand_f f drop)

  pub expand_f : Form Range → (ℕ → Bool) → XForm
  expand_f (emit r) drop = emit (live (in_range r) drop)
  expand_f (block b) drop = block (expand b drop)
  expand_f (branch c a b) drop = branch c (expand a drop) (expand b drop)
  expand_f (switch c ks) drop = switch c (expand_c ks drop)
  expand_f (loop a b x) drop = loop (expand a drop) (expand b drop) x
  expand_f break drop = break
  expand_f continue drop = continue
  expand_f (return x) drop = return x
  expand_f kill drop = kill
  expand_f (call f xs r) drop = call f xs r
  expand_f (effect k cs) drop = effect k cs

  pub expand : Block Range → (ℕ → Bool) → XBlock
  expand end drop = end
  expand (s then b) drop = expand_s s drop then expand b drop

  pub expand_k : Case Range → (ℕ → Bool) → XCase
  expand_k (case v b f) drop = case v (expand b drop) f

  pub expand_c : Cases Range → (ℕ → Bool) → XCases
  expand_c nomore drop = nomore
  expand_c (k also ks) drop = expand_k k drop also expand_c ks drop

-- ---- "The innermost Loop block or Switch around a Break, and the innermost Loop block around a Continue, exists and is no continuing block; no Return in continuing."
-- what is allowed at a place
pub record Place : Type 0 where
  pub breaks : Bool
  pub continues : Bool
  pub returns : Bool

abbrev pub in_body : Place
in_body = record { breaks = false; continues = false; returns = true }

abbrev pub in_switch : Place → Place
in_switch p = record { breaks = true; continues = p.continues; returns = p.returns }

abbrev pub in_loop : Place → Place
in_loop p = record { breaks = true; continues = true; returns = p.returns }

abbrev pub in_continuing : Place
in_continuing = record { breaks = false; continues = false; returns = false }

unfoldable mutual
  pub shape_s : XStmt → Place → Bool
  shape_s (stmt a b f) p = shape_f f p

  pub shape_f : XForm → Place → Bool
  shape_f (emit es) p = true
  shape_f (block b) p = shape_b b p
  shape_f (branch c a b) p = shape_b a p && shape_b b p
  shape_f (switch c ks) p = shape_c ks (in_switch p)
  shape_f (loop a b x) p = shape_b a (in_loop p) && shape_b b in_continuing
  shape_f break p = p.breaks
  shape_f continue p = p.continues
  shape_f (return x) p = p.returns
  shape_f kill p = true
  shape_f (call f xs r) p = true
  shape_f (effect k cs) p = true

  pub shape_b : XBlock → Place → Bool
  shape_b end p = true
  shape_b (s then b) p = shape_s s p && shape_b b p

  pub shape_k : XCase → Place → Bool
  shape_k (case v b f) p = shape_b b p

  pub shape_c : XCases → Place → Bool
  shape_c nomore p = true
  shape_c (k also ks) p = shape_k k p && shape_c ks p

-- ---- kinds
-- "An Emit holds no standing or result kind."
unfoldable pub emitted : List Cells → List ℕ → Bool
emitted xs [] = true
emitted xs (e ∷ es) = emitted_kind (kind_at xs e) && emitted xs es

-- "A Call's result is a CallResult of the same function"
unfoldable pub is_of : Option ℕ → ℕ → Bool
is_of none f = false
is_of (some g) f = eqb g f

unfoldable pub call_result : List Cells → ℕ → Option ℕ → Bool
call_result xs f none = true
call_result xs f (some e) = eqb (kind_at xs e) 23 && is_of (function_of (get_or xs e [])) f

-- "one of Atomic or ImageAtomic an AtomicResult, one of WorkGroupUniformLoad a WorkGroupUniformLoadResult"; statement kind 14 is WorkGroupUniformLoad
unfoldable pub effect_result : List Cells → ℕ → Option ℕ → Bool
effect_result xs k none = true
effect_result xs k (some e) = eqb (kind_at xs e) (elim (eqb k 14) [ true ↦ 25 | false ↦ 24 ])

unfoldable mutual
  pub kinds_s : XStmt → List Cells → Bool
  kinds_s (stmt a b f) xs = kinds_f f xs

  pub kinds_f : XForm → List Cells → Bool
  kinds_f (emit es) xs = emitted xs es
  kinds_f (block b) xs = kinds_b b xs
  kinds_f (branch c a b) xs = kinds_b a xs && kinds_b b xs
  kinds_f (switch c ks) xs = kinds_c ks xs
  kinds_f (loop a b x) xs = kinds_b a xs && kinds_b b xs
  kinds_f break xs = true
  kinds_f continue xs = true
  kinds_f (return x) xs = true
  kinds_f kill xs = true
  kinds_f (call f ys r) xs = call_result xs f r
  kinds_f (effect k cs) xs = effect_result xs k (result_of cs)

  pub kinds_b : XBlock → List Cells → Bool
  kinds_b end xs = true
  kinds_b (s then b) xs = kinds_s s xs && kinds_b b xs

  pub kinds_k : XCase → List Cells → Bool
  kinds_k (case v b f) xs = kinds_b b xs

  pub kinds_c : XCases → List Cells → Bool
  kinds_c nomore xs = true
  kinds_c (k also ks) xs = kinds_k k xs && kinds_c ks xs

-- ---- "Each is evaluated by one Emit or statement at most."
unfoldable pub evals_opt : Option ℕ → List ℕ
evals_opt none = []
evals_opt (some e) = e ∷ []

-- what a body evaluates, in the order of the text
unfoldable mutual
  pub evals_s : XStmt → List ℕ
  evals_s (stmt a b f) = evals_f f

  pub evals_f : XForm → List ℕ
  evals_f (emit es) = es
  evals_f (block b) = evals_b b
  evals_f (branch c a b) = evals_b a ++ evals_b b
  evals_f (switch c ks) = evals_c ks
  evals_f (loop a b x) = evals_b a ++ evals_b b
  evals_f break = []
  evals_f continue = []
  evals_f (return x) = []
  evals_f kill = []
  evals_f (call f xs r) = evals_opt r
  evals_f (effect k cs) = evals_opt (result_of cs)

  pub evals_b : XBlock → List ℕ
  evals_b end = []
  evals_b (s then b) = evals_s s ++ evals_b b

  pub evals_k : XCase → List ℕ
  evals_k (case v b f) = evals_b b

  pub evals_c : XCases → List ℕ
  evals_c nomore = []
  evals_c (k also ks) = evals_k k ++ evals_c ks

unfoldable pub has : List ℕ → ℕ → Bool
has [] e = false
has (x ∷ xs) e = eqb e x || has xs e

unfoldable pub distinct : List ℕ → Bool
distinct [] = true
distinct (x ∷ xs) = not (has xs x) && distinct xs

-- ---- "an emitted one from its turn in its Emit on, a result after its statement, until its block ends"
-- what a statement adds to the scope of its block
unfoldable pub add_e : List ℕ → List ℕ → List ℕ
add_e [] ρ = ρ
add_e (e ∷ es) ρ = add_e es (e ∷ ρ)

unfoldable pub add_opt : Option ℕ → List ℕ → List ℕ
add_opt none ρ = ρ
add_opt (some e) ρ = e ∷ ρ

unfoldable pub add_f : XForm → List ℕ → List ℕ
add_f (emit es) ρ = add_e es ρ
add_f (block b) ρ = ρ
add_f (branch c a b) ρ = ρ
add_f (switch c ks) ρ = ρ
add_f (loop a b x) ρ = ρ
add_f break ρ = ρ
add_f continue ρ = ρ
add_f (return x) ρ = ρ
add_f kill ρ = ρ
add_f (call f xs r) ρ = add_opt r ρ
add_f (effect k cs) ρ = add_opt (result_of cs) ρ

unfoldable pub add_s : XStmt → List ℕ → List ℕ
add_s (stmt a b f) ρ = add_f f ρ

-- the scope at the end of a block
unfoldable pub top_b : XBlock → List ℕ → List ℕ
top_b end ρ = ρ
top_b (s then b) ρ = top_b b (add_s s ρ)

-- ---- "the body's top level up to the first Continue of that loop"
-- does it hold a Continue of the loop around it, however deep outside inner loops?
unfoldable mutual
  pub holds_s : XStmt → Bool
  holds_s (stmt a b f) = holds_f f

  pub holds_f : XForm → Bool
  holds_f (emit es) = false
  holds_f (block b) = holds_b b
  holds_f (branch c a b) = holds_b a || holds_b b
  holds_f (switch c ks) = holds_c ks
  holds_f (loop a b x) = false
  holds_f break = false
  holds_f continue = true
  holds_f (return x) = false
  holds_f kill = false
  holds_f (call f xs r) = false
  holds_f (effect k cs) = false

  pub holds_b : XBlock → Bool
  holds_b end = false
  holds_b (s then b) = holds_s s || holds_b b

  pub holds_k : XCase → Bool
  holds_k (case v b f) = holds_b b

  pub holds_c : XCases → Bool
  holds_c nomore = false
  holds_c (k also ks) = holds_k k || holds_c ks

unfoldable pub cont_b : XBlock → List ℕ → List ℕ
cont_b end ρ = ρ
cont_b (s then b) ρ = elim (holds_s s) [ true ↦ ρ | false ↦ cont_b b (add_s s ρ) ]

-- ---- "Statements and evaluations read only what is in scope"; "standing expressions from the start"
-- e is standing, or is one of ρ
unfoldable pub vis : (ℕ → Bool) → List ℕ → ℕ → Bool
vis stands [] e = stands e
vis stands (x ∷ ρ) e = eqb e x || vis stands ρ e

unfoldable pub all_vis : (ℕ → Bool) → List ℕ → List ℕ → Bool
all_vis stands ρ [] = true
all_vis stands ρ (x ∷ xs) = vis stands ρ x && all_vis stands ρ xs

unfoldable pub opt_vis : (ℕ → Bool) → List ℕ → Option ℕ → Bool
opt_vis stands ρ none = true
opt_vis stands ρ (some x) = vis stands ρ x

-- an Emit in the scope ρ, over the table xs of expressions
unfoldable pub ok_e : List Cells → List ℕ → List ℕ → Bool
ok_e xs [] ρ = true
ok_e xs (e ∷ es) ρ = all_vis (standing xs) ρ (ops xs e) && ok_e xs es (e ∷ ρ)

-- "A Loop's continuing and break_if also see the body's top level up to the first Continue of that loop, and break_if the continuing block's."
unfoldable mutual
  pub ok_s : XStmt → List Cells → List ℕ → Bool
  ok_s (stmt a b f) xs ρ = ok_f f xs ρ

  pub ok_f : XForm → List Cells → List ℕ → Bool
  ok_f (emit es) xs ρ = ok_e xs es ρ
  ok_f (block b) xs ρ = ok_b b xs ρ
  ok_f (branch c a b) xs ρ = vis (standing xs) ρ c && (ok_b a xs ρ && ok_b b xs ρ)
  ok_f (switch c ks) xs ρ = vis (standing xs) ρ c && ok_c ks xs ρ
  ok_f (loop a b x) xs ρ = ok_b a xs ρ && (ok_b b xs (cont_b a ρ) && opt_vis (standing xs) (top_b b (cont_b a ρ)) x)
  ok_f break xs ρ = true
  ok_f continue xs ρ = true
  ok_f (return x) xs ρ = opt_vis (standing xs) ρ x
  ok_f kill xs ρ = true
  ok_f (call f ys r) xs ρ = all_vis (standing xs) ρ ys
  ok_f (effect k cs) xs ρ = all_vis (standing xs) ρ (ops_of cs)

  pub ok_b : XBlock → List Cells → List ℕ → Bool
  ok_b end xs ρ = true
  ok_b (s then b) xs ρ = ok_s s xs ρ && ok_b b xs (add_s s ρ)

  pub ok_k : XCase → List Cells → List ℕ → Bool
  ok_k (case v b f) xs ρ = ok_b b xs ρ

  pub ok_c : XCases → List Cells → List ℕ → Bool
  ok_c nomore xs ρ = true
  ok_c (k also ks) xs ρ = ok_k k xs ρ && ok_c ks xs ρ

-- ---- the whole
-- nothing dropped: the rules on kinds and on evaluating once look at initialiser expressions too
unfoldable pub all_of : Function → XBlock
all_of F = expand F.body (λ e. false)

-- the body as walks see it: "outside initialisers nothing reads an initialiser expression"
unfoldable pub seen : Function → XBlock
seen F = expand F.body (marked (initials F))

unfoldable pub scoped_as : XBlock → XBlock → List Cells → Bool
scoped_as all b xs = shape_b b in_body && (kinds_b all xs && (distinct (evals_b all) && ok_b b xs []))

-- the test of one function
unfoldable pub scoped : Function → Bool
scoped F = scoped_as (all_of F) (seen F) F.exprs

unfoldable pub all_scoped : List Function → Bool
all_scoped [] = true
all_scoped (F ∷ Fs) = scoped F && all_scoped Fs

unfoldable pub entries_scoped : List Entry → Bool
entries_scoped [] = true
entries_scoped (e ∷ es) = scoped e.function && entries_scoped es

-- "6: any rule of the Scope paragraph", of every function and every entry point
unfoldable pub in_scope : Module → Bool
in_scope m = all_scoped m.functions && entries_scoped m.entries
