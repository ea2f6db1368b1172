-- THE CELLS OF A BODY, opened as agreement in full has them (`body_of`), are, ignoring spans, a matter of the body as walks see it (`open_b`). So a derived body, which as walks see it is its source carried, is its source carried cell by cell (`body_copied`); and what its cells refer to is what the source mentions and calls (`body-refs`).
use Prim.Native.Nat.{ℕ, zero, suc, ◌+◌, ◌<◌, pred}
use Rattle.std.specs.Prelude.{◌≡◌, Bool, true}
use Rattle.std.proofs.Math.Path.{refl, ap, sym}
use Rattle.std.proofs.Common.{◌∙◌, subst, length-append}
use mathlib.Core.List.{List, [], ◌∷◌, ◌++◌, map, append_assoc, append-nil}
use Rattle.std.proofs.Math.Option.{Option, none, some}
use native.Mathlib.Omega.{arith}
use Rattle.std.proofs.Math.ListN.{length}
use Rattle.std.proofs.lemmas.List.{length-map}
use Rattle.model.specs.Outcome.{Cells, class, word}
use Rattle.model.specs.Table.{SPAN, UPTO, CALLEE, EXPR, OPT_EXPR, RESULT, OPT_RESULT, OPERANDS, BLOCK, CASES, LENGTH, STMT_KIND}
use Rattle.model.specs.Tree.{Stmt, stmt, Form, emit, block, branch, switch, loop, break, continue, return, kill, call, effect, Block, end, ◌then◌, Case, case, Cases, nomore, ◌also◌, Range, Function, word_of, kind_of, size_b, size_c, flat_x, flat_s, flat_f, flat_b, flat_k, flat_c, flat_block}
use Rattle.model.specs.Module.{Module}
use Rattle.model.specs.Carry.{carry_cell, carry_cells, OkS, OkF, OkB, OkBs, OkK, OkC, ok_stmt, ok_emit, ok_block, ok_branch, ok_switch, ok_loop, ok_break, ok_continue, ok_return, ok_kill, ok-call, ok_effect, ok_deeper, ok_end, ok_then, ok_case, ok_nomore, ok_also}
use Rattle.model.specs.References.{Place, table, own, function, Target, copied, start, upto, ref, opt, targets, target, Node, node, ref_of, refs, first_word, carry_w, through}
use Rattle.model.specs.Operands.{ops_of, result_of, ops}
use Rattle.model.specs.Initial.{marked, initials, initial}
use Rattle.model.specs.Scope.{XStmt, XForm, XBlock, XCase, XCases, in_range, live, expand_s, expand_f, expand, expand_k, expand_c, evals_opt, seen}
use Rattle.model.specs.Callees.{callees_s, callees_f, callees_b, callees_k, callees_c, callees}
use Rattle.model.specs.Agreement.{opened, body_of}
use Rattle.theory_walks.specs.Agreement.{Maps, carry_opt as carryOptA, carry_cells as carryCellsA, carry_s as carrySA, carry_f as carryFA, carry_b as carryBA, carry_k as carryKA, carry_c as carryCA, mentions_e, mentions_s, mentions_f, mentions_b, mentions_k, mentions_c, mentioned}
use Rattle.theory_walks.specs.WholeRows.{calm_c, effect_calm, opened-calm, Value, v_i32, v_u32, v_default, value_of}
use Rattle.theory_records.specs.RecordLaws.{All as AllN, all_both as alln-both, Went, Has as HasN, bare_w, bare, refs-bare}
use Rattle.theory_bodies.specs.Lists.{All, all_map, all_l, all-r}
use Rattle.theory_bodies.specs.Context.{Inside, InN, OwnP, owns-all}
use Rattle.theory_bodies.specs.Carried.{Match, cells_carry}
use Rattle.theory_bodies.specs.Classes.{among_elim, effect_classes, result_classes, Effects, e-none, e-last, e-more, effects_of, effect_owned, effect_nameless}
use Rattle.theory_bodies.specs.Function.{maps_of}

-- ---- the cells of a body as walks see it, in front of others
-- how many a statement's fields are where an Emit holds its range
unfoldable mutual
  size_s : XStmt → ℕ
  size_s (stmt a b f) = suc (suc (suc (suc (size_f f))))

  size_f : XForm → ℕ
  size_f (emit es) = 2
  size_f (block b) = suc (long_b b)
  size_f (branch c a b) = suc (suc (long_b a + suc (long_b b)))
  size_f (switch c ks) = suc (suc (long_c ks))
  size_f (loop a b x) = suc (long_b a + suc (long_b b + 1))
  size_f break = 0
  size_f continue = 0
  size_f (return x) = 1
  size_f kill = 0
  size_f (call f ys r) = suc (suc (length ys + 1))
  size_f (effect k cs) = length cs

  long_b : XBlock → ℕ
  long_b end = 0
  long_b (s then b) = size_s s + long_b b

  long_k : XCase → ℕ
  long_k (case v b f) = length v + suc (long_b b + 1)

  long_c : XCases → ℕ
  long_c nomore = 0
  long_c (k also ks) = long_k k + long_c ks

abbrev results : List ℕ → Cells
results es = map (λ e. (RESULT, e)) es

abbrev reads : List ℕ → Cells
reads es = map (λ e. (EXPR, e)) es

unfoldable mutual
  cells_s : XStmt → Cells → Cells
  cells_s (stmt a b f) y = (LENGTH, suc (suc (suc (suc (size_f f))))) ∷ (STMT_KIND, kind_of f) ∷ (SPAN, 0) ∷ (UPTO, 0) ∷ cells_f f y

  cells_f : XForm → Cells → Cells
  cells_f (emit es) y = (OPERANDS, length es) ∷ (results es ++ y)
  cells_f (block b) y = (BLOCK, size_b b) ∷ cells_b b y
  cells_f (branch c a b) y = (EXPR, c) ∷ (BLOCK, size_b a) ∷ cells_b a ((BLOCK, size_b b) ∷ cells_b b y)
  cells_f (switch c ks) y = (EXPR, c) ∷ (CASES, size_c ks) ∷ cells_c ks y
  cells_f (loop a b x) y = (BLOCK, size_b a) ∷ cells_b a ((BLOCK, size_b b) ∷ cells_b b ((OPT_EXPR, word_of x) ∷ y))
  cells_f break y = y
  cells_f continue y = y
  cells_f (return x) y = (OPT_EXPR, word_of x) ∷ y
  cells_f kill y = y
  cells_f (call f ys r) y = (CALLEE, f) ∷ (OPERANDS, length ys) ∷ (reads ys ++ ((OPT_RESULT, word_of r) ∷ y))
  cells_f (effect k cs) y = cs ++ y

  cells_b : XBlock → Cells → Cells
  cells_b end y = y
  cells_b (s then b) y = cells_s s (cells_b b y)

  cells_k : XCase → Cells → Cells
  cells_k (case v b f) y = v ++ ((BLOCK, size_b b) ∷ cells_b b ((2, f) ∷ y))

  cells_c : XCases → Cells → Cells
  cells_c nomore y = y
  cells_c (k also ks) y = cells_k k (cells_c ks y)

-- ---- effects and values have no span, and refer to expressions of the function alone
abbrev Spanless : ℕ → Type 0
Spanless s = (w : ℕ) → bare_w (target s) w ≡ w

effect_spanless : All Spanless effect_classes
unfolding effect_classes target targets bare_w
effect_spanless = (λ w. refl, (λ w. refl, (λ w. refl, (λ w. refl, tt))))

result_spanless : All Spanless result_classes
unfolding result_classes target targets bare_w
result_spanless = (λ w. refl, (λ w. refl, tt))

effect_bare : {cs : Cells} → Effects cs → (y : Cells) → bare (cs ++ y) ≡ cs ++ bare y
unfolding bare
effect_bare e-none y = refl
effect_bare (e-last {s} {w} h) y = rw (among_elim Spanless result_classes result_spanless s h w)
effect_bare (e-more {s} {w} {cs} h e) y = rw (among_elim Spanless effect_classes effect_spanless s h w, effect_bare e y)

value_open : {v : Cells} → Value v → (y : Cells) (drop : ℕ → Bool) → bare (opened (v ++ y) drop) ≡ v ++ bare (opened y drop)
unfolding opened bare target targets bare_w
value_open v_i32 y drop = refl
value_open v_u32 y drop = refl
value_open v_default y drop = refl

abbrev Owned : Node → Type 0
Owned j = own ≡ j.place

abbrev OwnedBy : ℕ → Type 0
OwnedBy s = (w : ℕ) (js : List Node) → AllN Owned js → AllN Owned (ref_of (target s) w js)

opt_owned : (w : ℕ) (js : List Node) → AllN Owned js → AllN Owned (ref_of (opt own) w js)
unfolding ref_of
opt_owned zero js a = a
opt_owned (suc n) js a = (refl, a)

effects_owned : All OwnedBy effect_classes
unfolding effect_classes target targets ref_of
effects_owned = (λ w js a. a, (λ w js a. (refl, a), (opt_owned, (λ w js a. a, tt))))

results-owned : All OwnedBy result_classes
unfolding result_classes target targets ref_of
results-owned = (λ w js a. (refl, a), (opt_owned, tt))

effect_own : {cs : Cells} → Effects cs → AllN Owned (refs cs)
unfolding refs
effect_own e-none = tt
effect_own (e-last {s} {w} h) = among_elim OwnedBy result_classes results-owned s h w [] tt
effect_own (e-more {s} {w} {cs} h e) = among_elim OwnedBy effect_classes effects_owned s h w (refs cs) (effect_own e)

-- what holds of the expressions that an effect reads and evaluates holds of its references
effect_refs : (P : Node → Type 0) {cs : Cells} → Effects cs → All (λ e. P (node own e)) (ops_of cs ++ evals_opt (result_of cs)) → AllN P (refs cs)
unfolding OwnP
effect_refs P {cs} e a = alln-both (refs cs) (λ j q x. go j.place j.num q x) (effect_own e) (owns-all (λ n. P (node own n)) (refs cs) (rw (effect_owned e) a))
  where
    go : (p : Place) (n : ℕ) → own ≡ p → OwnP (λ n. P (node own n)) p n → P (node p n)
    go (table t) n q x = let z : ◌≡◌ {A = ℕ} 0 1 = cc in absurd (omega arith)
    go own n q x = x
    go function n q x = let z : ◌≡◌ {A = ℕ} 0 1 = cc in absurd (omega arith)

-- ---- sizes
size_x : (b : Block Range) (drop : ℕ → Bool) → size_b (expand b drop) ≡ size_b b
unfolding size_b expand
size_x end drop = refl
size_x (s then b) drop = ap suc (size_x b drop)

count-x : (ks : Cases Range) (drop : ℕ → Bool) → size_c (expand_c ks drop) ≡ size_c ks
unfolding size_c expand_c
count-x nomore drop = refl
count-x (k also ks) drop = ap suc (count-x ks drop)

kind-x : (f : Form Range) (drop : ℕ → Bool) → kind_of (expand_f f drop) ≡ kind_of f
unfolding kind_of expand_f
kind-x (emit r) drop = refl
kind-x (block b) drop = refl
kind-x (branch c a b) drop = refl
kind-x (switch c ks) drop = refl
kind-x (loop a b x) drop = refl
kind-x break drop = refl
kind-x continue drop = refl
kind-x (return x) drop = refl
kind-x kill drop = refl
kind-x (call f ys r) drop = refl
kind-x (effect k cs) drop = refl

mutual
  unfolding expand_s flat_s size_s flat_x

  long_s_lem : (s : Stmt Range) (drop : ℕ → Bool) → length (flat_s s) ≡ size_s (expand_s s drop)
  long_s_lem (stmt a b f) drop = rw (long_f_lem f drop)

  long_f_lem : (f : Form Range) (drop : ℕ → Bool) → length (flat_f f) ≡ size_f (expand_f f drop)
  long_f_lem (emit r) drop = refl
  long_f_lem (block b) drop = ap suc (long_b_lem b drop)
  long_f_lem (branch c a b) drop = rw (length-append (flat_b a) ((BLOCK, size_b b) ∷ flat_b b), long_b_lem a drop, long_b_lem b drop)
  long_f_lem (switch c ks) drop = rw (long_c_lem ks drop)
  long_f_lem (loop a b x) drop = rw (length-append (flat_b a ++ ((BLOCK, size_b b) ∷ flat_b b)) ((OPT_EXPR, word_of x) ∷ []), length-append (flat_b a) ((BLOCK, size_b b) ∷ flat_b b), long_b_lem a drop, long_b_lem b drop) (omega arith)
  long_f_lem break drop = refl
  long_f_lem continue drop = refl
  long_f_lem (return x) drop = refl
  long_f_lem kill drop = refl
  long_f_lem (call f ys r) drop = rw (length-append (reads ys) ((OPT_RESULT, word_of r) ∷ []), length-map {B = ℕ × ℕ} ys (λ x. (EXPR, x)))
  long_f_lem (effect k cs) drop = refl

  long_b_lem : (b : Block Range) (drop : ℕ → Bool) → length (flat_b b) ≡ long_b (expand b drop)
  long_b_lem end drop = refl
  long_b_lem (s then b) drop = rw (length-append (flat_s s) (flat_b b), long_s_lem s drop, long_b_lem b drop)

  long_k_lem : (k : Case Range) (drop : ℕ → Bool) → length (flat_k k) ≡ long_k (expand_k k drop)
  long_k_lem (case v b f) drop = rw (length-append (v ++ ((BLOCK, size_b b) ∷ flat_b b)) ((2, f) ∷ []), length-append v ((BLOCK, size_b b) ∷ flat_b b), long_b_lem b drop) (omega arith)

  long_c_lem : (ks : Cases Range) (drop : ℕ → Bool) → length (flat_c ks) ≡ long_c (expand_c ks drop)
  long_c_lem nomore drop = refl
  long_c_lem (k also ks) drop = rw (length-append (flat_k k) (flat_c ks), long_k_lem k drop, long_c_lem ks drop)

-- ---- OPENING
results-bare : (es : List ℕ) (y : Cells) → bare (results es ++ y) ≡ results es ++ bare y
unfolding bare target targets bare_w
results-bare [] y = refl
results-bare (e ∷ es) y = ap ((RESULT, e) ∷◌) (results-bare es y)

module _ (drop : ℕ → Bool) where
  abbrev op : Cells → Cells
  op r = bare (opened r drop)

  reads_open : (ys : List ℕ) (y : Cells) → op (reads ys ++ y) ≡ reads ys ++ op y
  unfolding opened bare target targets bare_w
  reads_open [] y = refl
  reads_open (e ∷ ys) y = ap ((EXPR, e) ∷◌) (reads_open ys y)

  abbrev OpensB : Block Range → Type 0
  OpensB b = (y : Cells) → op (flat_b b ++ y) ≡ cells_b (expand b drop) (op y)

  abbrev OpensC : Cases Range → Type 0
  OpensC ks = (y : Cells) → op (flat_c ks ++ y) ≡ cells_c (expand_c ks drop) (op y)

  abbrev OpensF : Form Range → Type 0
  OpensF f = (y : Cells) → op (flat_f f ++ y) ≡ cells_f (expand_f f drop) (op y)

  emit_open : (r : Range) → OpensF (emit r)
  unfolding flat_f expand_f cells_f opened bare target targets bare_w first_word
  emit_open r y = ap ((OPERANDS, length (live (in_range r) drop)) ∷◌) (results-bare (live (in_range r) drop) (opened y drop))

  block_open : (b : Block Range) → OpensB b → OpensF (block b)
  unfolding flat_f expand_f cells_f opened bare target targets bare_w
  block_open b h y = rw (h y, size_x b drop)

  branch_open : (c : ℕ) (a b : Block Range) → OpensB a → OpensB b → OpensF (branch c a b)
  unfolding flat_f expand_f cells_f opened bare target targets bare_w
  branch_open c a b f g y = rw (append_assoc (flat_b a) ((BLOCK, size_b b) ∷ flat_b b) y, f ((BLOCK, size_b b) ∷ flat_b b ++ y), g y, size_x a drop, size_x b drop)

  switch_open : (c : ℕ) (ks : Cases Range) → OpensC ks → OpensF (switch c ks)
  unfolding flat_f expand_f cells_f opened bare target targets bare_w
  switch_open c ks h y = rw (h y, count-x ks drop)

  loop_open : (a b : Block Range) (x : Option ℕ) → OpensB a → OpensB b → OpensF (loop a b x)
  unfolding flat_f expand_f cells_f opened bare target targets bare_w
  loop_open a b x f g y =
      rw (append_assoc (flat_b a ++ ((BLOCK, size_b b) ∷ flat_b b)) ((OPT_EXPR, word_of x) ∷ []) y, append_assoc (flat_b a) ((BLOCK, size_b b) ∷ flat_b b) ((OPT_EXPR, word_of x) ∷ y), f ((BLOCK, size_b b) ∷ flat_b b ++ ((OPT_EXPR, word_of x) ∷ y)), g ((OPT_EXPR, word_of x) ∷ y), size_x a drop, size_x b drop)

  return_open : (x : Option ℕ) → OpensF (return x)
  unfolding flat_f expand_f cells_f opened bare target targets bare_w
  return_open x y = refl

  call_open : (f : ℕ) (ys : List ℕ) (r : Option ℕ) → OpensF (call f ys r)
  unfolding flat_f flat_x expand_f cells_f opened bare target targets bare_w
  call_open f ys r y = rw (append_assoc (reads ys) ((OPT_RESULT, word_of r) ∷ []) y, reads_open ys ((OPT_RESULT, word_of r) ∷ y))

  effect_open : (k : ℕ) (cs : Cells) → calm_c cs ≡ true → Effects cs → OpensF (effect k cs)
  unfolding flat_f expand_f cells_f
  effect_open k cs c e y = rw (opened-calm cs y drop c) (effect_bare e (opened y drop))

  case_open : (v : Cells) (b : Block Range) (f : ℕ) → Value v → OpensB b → (y : Cells) → op (flat_k (case v b f) ++ y) ≡ cells_k (expand_k (case v b f) drop) (op y)
  unfolding flat_k expand_k cells_k
  case_open v b f q g y =
      rw (append_assoc (v ++ ((BLOCK, size_b b) ∷ flat_b b)) ((2, f) ∷ []) y, append_assoc v ((BLOCK, size_b b) ∷ flat_b b) ((2, f) ∷ y), value_open q ((BLOCK, size_b b) ∷ flat_b b ++ ((2, f) ∷ y)) drop, size_x b drop) (ap (λ (z : Cells). v ++ z) behind)
    where
      behind : op ((BLOCK, size_b b) ∷ flat_b b ++ ((2, f) ∷ y)) ≡ (BLOCK, size_b b) ∷ cells_b (expand b drop) ((2, f) ∷ op y)
      behind = unfold opened bare target targets bare_w in (let z = g ((2, f) ∷ y) in rw z)

  stmt_open : (a b : ℕ) (f : Form Range) → OpensF f → (y : Cells) → op (flat_s (stmt a b f) ++ y) ≡ cells_s (expand_s (stmt a b f) drop) (op y)
  unfolding flat_s expand_s cells_s opened bare target targets bare_w
  stmt_open a b f h y = rw (h y, kind-x f drop, long_f_lem f drop)

  mutual
    unfolding flat_s expand_s cells_s

    open_s : {d : ℕ} {s : Stmt Range} → OkS d s → (y : Cells) → op (flat_s s ++ y) ≡ cells_s (expand_s s drop) (op y)
    open_s (ok_stmt {a = a} {b = b} {x = f} p) y = stmt_open a b f (λ z. open_f p z) y

    open_f : {d : ℕ} {f : Form Range} → OkF d f → (y : Cells) → op (flat_f f ++ y) ≡ cells_f (expand_f f drop) (op y)
    open_f (ok_emit {r = r}) y = emit_open r y
    open_f (ok_block {b = b} p) y = block_open b (λ z. open_b p z) y
    open_f (ok_branch {c = c} {a = a} {b = b} p q) y = branch_open c a b (λ z. open_b p z) (λ z. open_b q z) y
    open_f (ok_switch {c = c} {ks = ks} p) y = switch_open c ks (λ z. open_c p z) y
    open_f (ok_loop {a = a} {b = b} {o = x} p q) y = loop_open a b x (λ z. open_b p z) (λ z. open_b q z) y
    open_f ok_break y = refl
    open_f ok_continue y = refl
    open_f (ok_return {o = x}) y = return_open x y
    open_f ok_kill y = refl
    open_f (ok-call {f = f} {xs = ys} {r = r}) y = call_open f ys r y
    open_f (ok_effect {k = k} {ss = ss} {cs = cs} e l) y = effect_open k cs (effect_calm k ss cs e l) (effects_of k e l) y

    open_b : {d : ℕ} {b : Block Range} → OkB d b → (y : Cells) → op (flat_b b ++ y) ≡ cells_b (expand b drop) (op y)
    open_b (ok_deeper p) y = open_bs p y

    open_bs : {d : ℕ} {b : Block Range} → OkBs d b → (y : Cells) → op (flat_b b ++ y) ≡ cells_b (expand b drop) (op y)
    open_bs ok_end y = refl
    open_bs (ok_then {s = s} {b = b} p q) y = rw (append_assoc (flat_s s) (flat_b b) y, open_s p (flat_b b ++ y), open_bs q y)

    open_k : {d : ℕ} {k : Case Range} → OkK d k → (y : Cells) → op (flat_k k ++ y) ≡ cells_k (expand_k k drop) (op y)
    open_k (ok_case {f = f} {v = v} {b = b} l p) y = case_open v b f (value_of l) (λ z. open_b p z) y

    open_c : {d : ℕ} {ks : Cases Range} → OkC d ks → (y : Cells) → op (flat_c ks ++ y) ≡ cells_c (expand_c ks drop) (op y)
    open_c ok_nomore y = refl
    open_c (ok_also {k = k} {ks = ks} p q) y = rw (append_assoc (flat_k k) (flat_c ks) y, open_k p (flat_c ks ++ y), open_c q y)

  body_open : {d : ℕ} (b : Block Range) → OkB d b → op (flat_block b) ≡ (BLOCK, size_b (expand b drop)) ∷ cells_b (expand b drop) []
  unfolding flat_block
  body_open b p = rw (size_x b drop) (unfold opened bare target targets bare_w in (let z : op (flat_b b) ≡ cells_b (expand b drop) [] = rw append-nil at (open_b p []) in rw z))

-- ---- CARRYING
module _ (w : Went) where
  abbrev τ : ℕ → ℕ → ℕ
  τ = through w

  abbrev ψ : ℕ → ℕ
  ψ e = pred (w own e)

  abbrev μ : Maps
  μ = maps_of w

  abbrev Met : List ℕ → Type 0
  Met es = All (λ e. 0 < w own e) es

  carry-append : (a b : Cells) → carry_cells τ (a ++ b) ≡ carry_cells τ a ++ carry_cells τ b
  carry-append [] b = refl
  carry-append (c ∷ a) b = ap (carry_cell τ c ∷◌) (carry-append a b)

  results-carry : (es : List ℕ) (y : Cells) → results (map ψ es) ++ carry_cells τ y ≡ carry_cells τ (results es ++ y)
  unfolding carry_cell through target targets carry_w
  results-carry [] y = refl
  results-carry (e ∷ es) y = ap ((RESULT, ψ e) ∷◌) (results-carry es y)

  reads-carry : (es : List ℕ) (y : Cells) → reads (map ψ es) ++ carry_cells τ y ≡ carry_cells τ (reads es ++ y)
  unfolding carry_cell through target targets carry_w
  reads-carry [] y = refl
  reads-carry (e ∷ es) y = ap ((EXPR, ψ e) ∷◌) (reads-carry es y)

  opt_carry : (x : Option ℕ) → Met (evals_opt x) → word_of (carryOptA ψ x) ≡ carry_w w (opt own) (word_of x)
  unfolding word_of carryOptA carry_w evals_opt
  opt_carry none a = refl
  opt_carry (some e) a = back (w own e) a.0
    where
      back : (v : ℕ) → 0 < v → suc (pred v) ≡ v
      back v h = omega arith

  value_carry : {v : Cells} → Value v → carry_cells τ v ≡ v
  unfolding carry_cell through target targets carry_w
  value_carry v_i32 = refl
  value_carry v_u32 = refl
  value_carry v_default = refl

  -- an effect, through the maps
  own_match : Match μ ψ (λ n. Unit {0}) w
  own_match = record { of_types_lem = λ n h. refl; of_constants_lem = λ n h. refl; of_overrides_lem = λ n h. refl; of_globals_lem = λ n h. refl; of_inits = λ n h. refl; of_functions = λ n q h. refl; of_own = λ n h. refl }

  effect_carry : (M : Module) {cs : Cells} → Effects cs → Met (ops_of cs ++ evals_opt (result_of cs)) → carryCellsA μ ψ cs ≡ carry_cells τ cs
  unfolding Inside
  effect_carry M {cs} e a = sym (cells_carry μ ψ M (λ n. Unit {0}) w own_match cs (effect_nameless e) (effect_refs (λ j. HasN w j × InN M (λ n. Unit {0}) j) e (all_map (ops_of cs ++ evals_opt (result_of cs)) (λ x h. (h, tt)) a)))

  -- sizes
  size_a : (b : XBlock) → size_b (carryBA b μ ψ) ≡ size_b b
  unfolding size_b carryBA
  size_a end = refl
  size_a (s then b) = ap suc (size_a b)

  count-a : (ks : XCases) → size_c (carryCA ks μ ψ) ≡ size_c ks
  unfolding size_c carryCA
  count-a nomore = refl
  count-a (k also ks) = ap suc (count-a ks)

  kind-a : (f : XForm) → kind_of (carryFA f μ ψ) ≡ kind_of f
  unfolding kind_of carryFA
  kind-a (emit es) = refl
  kind-a (block b) = refl
  kind-a (branch c a b) = refl
  kind-a (switch c ks) = refl
  kind-a (loop a b x) = refl
  kind-a break = refl
  kind-a continue = refl
  kind-a (return x) = refl
  kind-a kill = refl
  kind-a (call f ys r) = refl
  kind-a (effect k cs) = refl

  cells_long : (cs : Cells) → length (carryCellsA μ ψ cs) ≡ length cs
  unfolding carryCellsA
  cells_long [] = refl
  cells_long (c ∷ cs) = ap suc (cells_long cs)

  mutual
    unfolding carrySA size_s

    long_as : (s : XStmt) → size_s (carrySA s μ ψ) ≡ size_s s
    long_as (stmt a b f) = rw (long_af f)

    long_af : (f : XForm) → size_f (carryFA f μ ψ) ≡ size_f f
    long_af (emit es) = refl
    long_af (block b) = ap suc (long_ab b)
    long_af (branch c a b) = rw (long_ab a, long_ab b)
    long_af (switch c ks) = rw (long_ac ks)
    long_af (loop a b x) = rw (long_ab a, long_ab b)
    long_af break = refl
    long_af continue = refl
    long_af (return x) = refl
    long_af kill = refl
    long_af (call f ys r) = rw (length-map {B = ℕ} ys ψ)
    long_af (effect k cs) = cells_long cs

    long_ab : (b : XBlock) → long_b (carryBA b μ ψ) ≡ long_b b
    long_ab end = refl
    long_ab (s then b) = rw (long_as s, long_ab b)

    long_ak : (k : XCase) → long_k (carryKA k μ ψ) ≡ long_k k
    long_ak (case v b f) = rw (long_ab b)

    long_ac : (ks : XCases) → long_c (carryCA ks μ ψ) ≡ long_c ks
    long_ac nomore = refl
    long_ac (k also ks) = rw (long_ak k, long_ac ks)

  module _ (M : Module) (xs : List Cells) (drop : ℕ → Bool) where
    abbrev CarriesB : XBlock → Type 0
    CarriesB b = (y : Cells) → cells_b (carryBA b μ ψ) (carry_cells τ y) ≡ carry_cells τ (cells_b b y)

    abbrev CarriesC : XCases → Type 0
    CarriesC ks = (y : Cells) → cells_c (carryCA ks μ ψ) (carry_cells τ y) ≡ carry_cells τ (cells_c ks y)

    abbrev CarriesF : XForm → Type 0
    CarriesF f = (y : Cells) → cells_f (carryFA f μ ψ) (carry_cells τ y) ≡ carry_cells τ (cells_f f y)

    emit_carry : (es : List ℕ) → CarriesF (emit es)
    unfolding cells_f carryFA carry_cell through target targets carry_w
    emit_carry es y = rw (length-map {B = ℕ} es ψ, results-carry es y)

    block_carry : (b : XBlock) → CarriesB b → CarriesF (block b)
    unfolding cells_f carryFA carry_cell through target targets carry_w
    block_carry b h y = rw (size_a b, h y)

    branch_carry : (c : ℕ) (a b : XBlock) → CarriesB a → CarriesB b → CarriesF (branch c a b)
    unfolding cells_f carryFA carry_cell through target targets carry_w
    branch_carry c a b f g y = rw (size_a a, size_a b, g y, ← f ((BLOCK, size_b b) ∷ cells_b b y))

    switch_carry : (c : ℕ) (ks : XCases) → CarriesC ks → CarriesF (switch c ks)
    unfolding cells_f carryFA carry_cell through target targets carry_w
    switch_carry c ks h y = rw (count-a ks, h y)

    loop_carry : (a b : XBlock) (x : Option ℕ) → Met (evals_opt x) → CarriesB a → CarriesB b → CarriesF (loop a b x)
    unfolding cells_f carryFA carry_cell through target targets
    loop_carry a b x m f g y = rw (size_a a, size_a b, opt_carry x m, ← f ((BLOCK, size_b b) ∷ cells_b b ((OPT_EXPR, word_of x) ∷ y)), ← g ((OPT_EXPR, word_of x) ∷ y)) (unfold carry_w in refl)

    return_carry : (x : Option ℕ) → Met (evals_opt x) → CarriesF (return x)
    unfolding cells_f carryFA carry_cell through target targets
    return_carry x m y = rw (opt_carry x m)

    call-carry : (f : ℕ) (ys : List ℕ) (r : Option ℕ) → Met (ys ++ evals_opt r) → CarriesF (call f ys r)
    unfolding cells_f carryFA carry_cell through target targets
    call-carry f ys r m y = rw (length-map {B = ℕ} ys ψ, opt_carry r (all-r (λ e. 0 < w own e) ys (evals_opt r) m), ← reads-carry ys ((OPT_RESULT, word_of r) ∷ y)) (unfold carry_w in refl)

    effect_carries : (k : ℕ) (cs : Cells) → Effects cs → Met (ops_of cs ++ evals_opt (result_of cs)) → CarriesF (effect k cs)
    unfolding cells_f carryFA
    effect_carries k cs e m y = rw (effect_carry M e m, carry-append cs y)

    case_carry : (v : Cells) (b : XBlock) (f : ℕ) → Value v → CarriesB b → (y : Cells) → cells_k (carryKA (case v b f) μ ψ) (carry_cells τ y) ≡ carry_cells τ (cells_k (case v b f) y)
    unfolding cells_k carryKA
    case_carry v b f q g y = rw (carry-append v ((BLOCK, size_b b) ∷ cells_b b ((2, f) ∷ y)), value_carry q, size_a b) (ap (λ (z : Cells). v ++ z) (unfold carry_cell through target targets carry_w in (let z = g ((2, f) ∷ y) in rw (← z))))

    stmt_carry : (a b : ℕ) (f : XForm) → CarriesF f → (y : Cells) → cells_s (carrySA (stmt a b f) μ ψ) (carry_cells τ y) ≡ carry_cells τ (cells_s (stmt a b f) y)
    unfolding cells_s carrySA carry_cell through target targets carry_w
    stmt_carry a b f h y = rw (h y, kind-a f, long_af f)

    mutual
      unfolding expand_s carrySA cells_s mentions_s

      carry_s_lem : {d : ℕ} {s : Stmt Range} → OkS d s → Met (mentions_s (expand_s s drop) xs) → (y : Cells) → cells_s (carrySA (expand_s s drop) μ ψ) (carry_cells τ y) ≡ carry_cells τ (cells_s (expand_s s drop) y)
      carry_s_lem (ok_stmt {a = a} {b = b} {x = f} p) m y = stmt_carry 0 0 (expand_f f drop) (λ z. carry-f p m z) y

      carry-f : {d : ℕ} {f : Form Range} → OkF d f → Met (mentions_f (expand_f f drop) xs) → (y : Cells) → cells_f (carryFA (expand_f f drop) μ ψ) (carry_cells τ y) ≡ carry_cells τ (cells_f (expand_f f drop) y)
      carry-f (ok_emit {r = r}) m y = emit_carry (live (in_range r) drop) y
      carry-f (ok_block {b = b} p) m y = block_carry (expand b drop) (λ z. carry-b p m z) y
      carry-f (ok_branch {c = c} {a = a} {b = b} p q) m y =
          branch_carry c (expand a drop) (expand b drop)
          (λ z. carry-b p (all_l (λ e. 0 < w own e) (mentions_b (expand a drop) xs) (mentions_b (expand b drop) xs) m.1) z)
          (λ z. carry-b q (all-r (λ e. 0 < w own e) (mentions_b (expand a drop) xs) (mentions_b (expand b drop) xs) m.1) z) y
      carry-f (ok_switch {c = c} {ks = ks} p) m y = switch_carry c (expand_c ks drop) (λ z. carry-c p m.1 z) y
      carry-f (ok_loop {a = a} {b = b} {o = x} p q) m y =
          let n = all-r (λ e. 0 < w own e) (evals_opt x) (mentions_b (expand a drop) xs ++ mentions_b (expand b drop) xs) m in
          loop_carry (expand a drop) (expand b drop) x (all_l (λ e. 0 < w own e) (evals_opt x) (mentions_b (expand a drop) xs ++ mentions_b (expand b drop) xs) m)
          (λ z. carry-b p (all_l (λ e. 0 < w own e) (mentions_b (expand a drop) xs) (mentions_b (expand b drop) xs) n) z)
          (λ z. carry-b q (all-r (λ e. 0 < w own e) (mentions_b (expand a drop) xs) (mentions_b (expand b drop) xs) n) z) y
      carry-f ok_break m y = refl
      carry-f ok_continue m y = refl
      carry-f (ok_return {o = x}) m y = return_carry x m y
      carry-f ok_kill m y = refl
      carry-f (ok-call {f = f} {xs = ys} {r = r}) m y = call-carry f ys r m y
      carry-f (ok_effect {k = k} {ss = ss} {cs = cs} e l) m y = effect_carries k cs (effects_of k e l) m y

      carry-b : {d : ℕ} {b : Block Range} → OkB d b → Met (mentions_b (expand b drop) xs) → (y : Cells) → cells_b (carryBA (expand b drop) μ ψ) (carry_cells τ y) ≡ carry_cells τ (cells_b (expand b drop) y)
      carry-b (ok_deeper p) m y = carry_bs p m y

      carry_bs : {d : ℕ} {b : Block Range} → OkBs d b → Met (mentions_b (expand b drop) xs) → (y : Cells) → cells_b (carryBA (expand b drop) μ ψ) (carry_cells τ y) ≡ carry_cells τ (cells_b (expand b drop) y)
      carry_bs ok_end m y = refl
      carry_bs (ok_then {s = s} {b = b} p q) m y =
          rw (carry_bs q (all-r (λ e. 0 < w own e) (mentions_s (expand_s s drop) xs) (mentions_b (expand b drop) xs) m) y)
          (carry_s_lem p (all_l (λ e. 0 < w own e) (mentions_s (expand_s s drop) xs) (mentions_b (expand b drop) xs) m) (cells_b (expand b drop) y))

      carry-k : {d : ℕ} {k : Case Range} → OkK d k → Met (mentions_k (expand_k k drop) xs) → (y : Cells) → cells_k (carryKA (expand_k k drop) μ ψ) (carry_cells τ y) ≡ carry_cells τ (cells_k (expand_k k drop) y)
      carry-k (ok_case {f = f} {v = v} {b = b} l p) m y = case_carry v (expand b drop) f (value_of l) (λ z. carry-b p m z) y

      carry-c : {d : ℕ} {ks : Cases Range} → OkC d ks → Met (mentions_c (expand_c ks drop) xs) → (y : Cells) → cells_c (carryCA (expand_c ks drop) μ ψ) (carry_cells τ y) ≡ carry_cells τ (cells_c (expand_c ks drop) y)
      carry-c ok_nomore m y = refl
      carry-c (ok_also {k = k} {ks = ks} p q) m y =
          rw (carry-c q (all-r (λ e. 0 < w own e) (mentions_k (expand_k k drop) xs) (mentions_c (expand_c ks drop) xs) m) y)
          (carry-k p (all_l (λ e. 0 < w own e) (mentions_k (expand_k k drop) xs) (mentions_c (expand_c ks drop) xs) m) (cells_c (expand_c ks drop) y))

-- ---- bare and carried, in any order
bare-carry_w : (w : Went) (t : Target) (v : ℕ) → bare_w t (carry_w w t v) ≡ carry_w w t (bare_w t v)
unfolding bare_w carry_w
bare-carry_w w copied v = refl
bare-carry_w w start v = refl
bare-carry_w w upto v = refl
bare-carry_w w (ref p) v = refl
bare-carry_w w (opt p) v = refl

bare-carry : (w : Went) (r : Cells) → bare (carry_cells (through w) r) ≡ carry_cells (through w) (bare r)
unfolding bare carry_cell through
bare-carry w [] = refl
bare-carry w (c ∷ cs) = rw (bare-carry w cs, bare-carry_w w (target (class c)) (word c))

-- ---- WHAT THE CELLS REFER TO
module _ (P : Node → Type 0) where
  abbrev Of : List ℕ → Type 0
  Of es = All (λ e. P (node own e)) es

  abbrev Calls : List ℕ → Type 0
  Calls fs = All (λ f. P (node function f)) fs

  word-before : (t : Target) (v : ℕ) (js ks : List Node) → AllN P (ref_of t v js) → (AllN P js → AllN P ks) → AllN P (ref_of t v ks)
  unfolding ref_of
  word-before copied v js ks a f = f a
  word-before start v js ks a f = f a
  word-before upto v js ks a f = f a
  word-before (ref p) v js ks a f = (a.0, f a.1)
  word-before (opt p) zero js ks a f = f a
  word-before (opt p) (suc n) js ks a f = (a.0, f a.1)

  refs-before : (cs y : Cells) → AllN P (refs cs) → AllN P (refs y) → AllN P (refs (cs ++ y))
  unfolding refs
  refs-before [] y a h = h
  refs-before (c ∷ cs) y a h = word-before (target (class c)) (word c) (refs cs) (refs (cs ++ y)) a (λ b. refs-before cs y b h)

  results-refs : (es : List ℕ) (y : Cells) → Of es → AllN P (refs y) → AllN P (refs (results es ++ y))
  unfolding refs target targets ref_of
  results-refs [] y a h = h
  results-refs (e ∷ es) y a h = (a.0, results-refs es y a.1 h)

  reads-refs : (es : List ℕ) (y : Cells) → Of es → AllN P (refs y) → AllN P (refs (reads es ++ y))
  unfolding refs target targets ref_of
  reads-refs [] y a h = h
  reads-refs (e ∷ es) y a h = (a.0, reads-refs es y a.1 h)

  opt_refs : (x : Option ℕ) (js : List Node) → Of (evals_opt x) → AllN P js → AllN P (ref_of (opt own) (word_of x) js)
  unfolding ref_of word_of evals_opt
  opt_refs none js a h = h
  opt_refs (some e) js a h = (a.0, h)

  value_refs : {v : Cells} → Value v → (y : Cells) → AllN P (refs y) → AllN P (refs (v ++ y))
  unfolding refs target targets ref_of
  value_refs v_i32 y h = h
  value_refs v_u32 y h = h
  value_refs v_default y h = h

  -- what the cells of a part refer to, if the cells after it refer to such things
  abbrev RefsB : XBlock → Type 0
  RefsB b = (y : Cells) → AllN P (refs y) → AllN P (refs (cells_b b y))

  abbrev RefsC : XCases → Type 0
  RefsC ks = (y : Cells) → AllN P (refs y) → AllN P (refs (cells_c ks y))

  abbrev RefsF : XForm → Type 0
  RefsF f = (y : Cells) → AllN P (refs y) → AllN P (refs (cells_f f y))

  block_refs : (b : XBlock) → RefsB b → RefsF (block b)
  unfolding cells_f refs target targets ref_of
  block_refs b f y h = f y h

  branch_refs : (c : ℕ) (a b : XBlock) → P (node own c) → RefsB a → RefsB b → RefsF (branch c a b)
  unfolding cells_f refs target targets ref_of
  branch_refs c a b p f g y h = (p, f ((BLOCK, size_b b) ∷ cells_b b y) (g y h))

  switch_refs : (c : ℕ) (ks : XCases) → P (node own c) → RefsC ks → RefsF (switch c ks)
  unfolding cells_f refs target targets ref_of
  switch_refs c ks p f y h = (p, f y h)

  loop_refs : (a b : XBlock) (x : Option ℕ) → Of (evals_opt x) → RefsB a → RefsB b → RefsF (loop a b x)
  unfolding cells_f refs target targets ref_of
  loop_refs a b x o f g y h = f ((BLOCK, size_b b) ∷ cells_b b ((OPT_EXPR, word_of x) ∷ y)) (g ((OPT_EXPR, word_of x) ∷ y) (opt_refs x (refs y) o h))

  return_refs : (x : Option ℕ) → Of (evals_opt x) → RefsF (return x)
  unfolding cells_f refs target targets
  return_refs x o y h = opt_refs x (refs y) o h

  call-refs : (f : ℕ) (ys : List ℕ) (r : Option ℕ) → P (node function f) → Of (ys ++ evals_opt r) → RefsF (call f ys r)
  unfolding cells_f refs target targets ref_of
  call-refs f ys r p o y h = (p, reads-refs ys ((OPT_RESULT, word_of r) ∷ y) (all_l (λ e. P (node own e)) ys (evals_opt r) o) (opt_refs r (refs y) (all-r (λ e. P (node own e)) ys (evals_opt r) o) h))

  stmt_refs : (a b : ℕ) (f : XForm) → RefsF f → (y : Cells) → AllN P (refs y) → AllN P (refs (cells_s (stmt a b f) y))
  unfolding cells_s refs target targets ref_of
  stmt_refs a b f g y h = g y h

  case_refs : (v : Cells) (b : XBlock) (f : ℕ) → Value v → RefsB b → (y : Cells) → AllN P (refs y) → AllN P (refs (cells_k (case v b f) y))
  unfolding cells_k
  case_refs v b f q g y h = value_refs q ((BLOCK, size_b b) ∷ cells_b b ((2, f) ∷ y)) (unfold refs target targets ref_of in g ((2, f) ∷ y) h)

  module _ (xs : List Cells) (drop : ℕ → Bool) where
    emit_of : (es : List ℕ) → Of (mentions_e es xs) → Of es
    unfolding mentions_e
    emit_of [] a = tt
    emit_of (e ∷ es) a = (a.0, emit_of es (all-r (λ e. P (node own e)) (ops xs e) (mentions_e es xs) a.1))

    emit_refs : (es : List ℕ) → Of (mentions_e es xs) → RefsF (emit es)
    unfolding cells_f refs target targets ref_of
    emit_refs es o y h = results-refs es y (emit_of es o) h

    effect_cells : (k : ℕ) (cs : Cells) → Effects cs → Of (ops_of cs ++ evals_opt (result_of cs)) → RefsF (effect k cs)
    unfolding cells_f
    effect_cells k cs e o y h = refs-before cs y (effect_refs P e o) h

    mutual
      unfolding expand_s cells_s mentions_s callees_s

      refs_s : {d : ℕ} {s : Stmt Range} → OkS d s → Of (mentions_s (expand_s s drop) xs) → Calls (callees_s s) → (y : Cells) → AllN P (refs y) → AllN P (refs (cells_s (expand_s s drop) y))
      refs_s (ok_stmt {a = a} {b = b} {x = f} p) m c y h = stmt_refs 0 0 (expand_f f drop) (λ z i. refs-f p m c z i) y h

      refs-f : {d : ℕ} {f : Form Range} → OkF d f → Of (mentions_f (expand_f f drop) xs) → Calls (callees_f f) → (y : Cells) → AllN P (refs y) → AllN P (refs (cells_f (expand_f f drop) y))
      refs-f (ok_emit {r = r}) m c y h = emit_refs (live (in_range r) drop) m y h
      refs-f (ok_block {b = b} p) m c y h = block_refs (expand b drop) (λ z i. refs-b p m c z i) y h
      refs-f (ok_branch {c = x} {a = a} {b = b} p q) m c y h =
          branch_refs x (expand a drop) (expand b drop) m.0
          (λ z i. refs-b p (all_l (λ e. P (node own e)) (mentions_b (expand a drop) xs) (mentions_b (expand b drop) xs) m.1) (all_l (λ f. P (node function f)) (callees_b a) (callees_b b) c) z i)
          (λ z i. refs-b q (all-r (λ e. P (node own e)) (mentions_b (expand a drop) xs) (mentions_b (expand b drop) xs) m.1) (all-r (λ f. P (node function f)) (callees_b a) (callees_b b) c) z i) y h
      refs-f (ok_switch {c = x} {ks = ks} p) m c y h = switch_refs x (expand_c ks drop) m.0 (λ z i. refs-c p m.1 c z i) y h
      refs-f (ok_loop {a = a} {b = b} {o = x} p q) m c y h =
          let n = all-r (λ e. P (node own e)) (evals_opt x) (mentions_b (expand a drop) xs ++ mentions_b (expand b drop) xs) m in
          loop_refs (expand a drop) (expand b drop) x (all_l (λ e. P (node own e)) (evals_opt x) (mentions_b (expand a drop) xs ++ mentions_b (expand b drop) xs) m)
          (λ z i. refs-b p (all_l (λ e. P (node own e)) (mentions_b (expand a drop) xs) (mentions_b (expand b drop) xs) n) (all_l (λ f. P (node function f)) (callees_b a) (callees_b b) c) z i)
          (λ z i. refs-b q (all-r (λ e. P (node own e)) (mentions_b (expand a drop) xs) (mentions_b (expand b drop) xs) n) (all-r (λ f. P (node function f)) (callees_b a) (callees_b b) c) z i) y h
      refs-f ok_break m c y h = h
      refs-f ok_continue m c y h = h
      refs-f (ok_return {o = x}) m c y h = return_refs x m y h
      refs-f ok_kill m c y h = h
      refs-f (ok-call {f = f} {xs = ys} {r = r}) m c y h = call-refs f ys r c.0 m y h
      refs-f (ok_effect {k = k} {ss = ss} {cs = cs} e l) m c y h = effect_cells k cs (effects_of k e l) m y h

      refs-b : {d : ℕ} {b : Block Range} → OkB d b → Of (mentions_b (expand b drop) xs) → Calls (callees_b b) → (y : Cells) → AllN P (refs y) → AllN P (refs (cells_b (expand b drop) y))
      refs-b (ok_deeper p) m c y h = refs_bs p m c y h

      refs_bs : {d : ℕ} {b : Block Range} → OkBs d b → Of (mentions_b (expand b drop) xs) → Calls (callees_b b) → (y : Cells) → AllN P (refs y) → AllN P (refs (cells_b (expand b drop) y))
      refs_bs ok_end m c y h = h
      refs_bs (ok_then {s = s} {b = b} p q) m c y h =
          refs_s p (all_l (λ e. P (node own e)) (mentions_s (expand_s s drop) xs) (mentions_b (expand b drop) xs) m) (all_l (λ f. P (node function f)) (callees_s s) (callees_b b) c) (cells_b (expand b drop) y)
          (refs_bs q (all-r (λ e. P (node own e)) (mentions_s (expand_s s drop) xs) (mentions_b (expand b drop) xs) m) (all-r (λ f. P (node function f)) (callees_s s) (callees_b b) c) y h)

      refs-k : {d : ℕ} {k : Case Range} → OkK d k → Of (mentions_k (expand_k k drop) xs) → Calls (callees_k k) → (y : Cells) → AllN P (refs y) → AllN P (refs (cells_k (expand_k k drop) y))
      refs-k (ok_case {f = f} {v = v} {b = b} l p) m c y h = case_refs v (expand b drop) f (value_of l) (λ z i. refs-b p m c z i) y h

      refs-c : {d : ℕ} {ks : Cases Range} → OkC d ks → Of (mentions_c (expand_c ks drop) xs) → Calls (callees_c ks) → (y : Cells) → AllN P (refs y) → AllN P (refs (cells_c (expand_c ks drop) y))
      refs-c ok_nomore m c y h = h
      refs-c (ok_also {k = k} {ks = ks} p q) m c y h =
          refs-k p (all_l (λ e. P (node own e)) (mentions_k (expand_k k drop) xs) (mentions_c (expand_c ks drop) xs) m) (all_l (λ f. P (node function f)) (callees_k k) (callees_c ks) c) (cells_c (expand_c ks drop) y)
          (refs-c q (all-r (λ e. P (node own e)) (mentions_k (expand_k k drop) xs) (mentions_c (expand_c ks drop) xs) m) (all-r (λ f. P (node function f)) (callees_k k) (callees_c ks) c) y h)

-- ---- BODIES
-- opened and bare: a matter of the body as walks see it
body_is : {d : ℕ} (F : Function) → OkB d F.body → bare (body_of F) ≡ (BLOCK, size_b (seen F)) ∷ cells_b (seen F) []
unfolding body_of seen initial
body_is F p = body_open (marked (initials F)) F.body p

-- a body that walks see as its source carried is its source carried cell by cell
pub body_copied : (M : Module) (w : Went) {d d' : ℕ} (F F' : Function) → OkB d F.body → OkB d' F'.body → seen F' ≡ carryBA (seen F) (maps_of w) (λ e. pred (w own e)) → All (λ e. 0 < w own e) (mentioned F)
    → bare (body_of F') ≡ bare (carry_cells (through w) (body_of F))
unfolding mentioned
body_copied M w F F' p p' q m =
    body_is F' p' ∙ (rw (q, size_a w (seen F), bare-carry w (body_of F), body_is F p) cells)
  where
    cells : (BLOCK, size_b (seen F)) ∷ cells_b (carryBA (seen F) (maps_of w) (λ e. pred (w own e))) [] ≡ carry_cells (through w) ((BLOCK, size_b (seen F)) ∷ cells_b (seen F) [])
    cells = unfold carry_cell through target targets carry_w seen in (let z = carry-b w M F.exprs (marked (initials F)) p (unfold seen in m) [] in rw z)

-- and refers to what the source mentions and to what it calls
pub body-refs : (P : Node → Type 0) {d : ℕ} (F : Function) → OkB d F.body → All (λ e. P (node own e)) (mentioned F) → All (λ f. P (node function f)) (callees F) → AllN P (refs (body_of F))
unfolding mentioned seen
body-refs P F p m c = subst (λ (js : List Node). AllN P js) (sym (sym (refs-bare (body_of F)) ∙ ap refs (body_is F p))) (unfold refs target targets ref_of in refs-b P F.exprs (marked (initials F)) p m c [] tt)
