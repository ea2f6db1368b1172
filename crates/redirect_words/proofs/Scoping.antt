-- Test 6: a redirected body, as scope and walks see it, is the body with the functions of its Calls changed, and every rule of the Scope paragraph holds of it again: a Call's result is a CallResult of the same function, since both change together.
use mathlib.Core.Path.{◌≡◌, refl, ap, ap₂, ◌∙◌}
use mathlib.Core.Bool.{Bool, true, false, ◌&&◌, ◌||◌}
use mathlib.Core.Option.{Option, none, some}
use mathlib.Core.List.{List, [], ◌∷◌, ◌++◌, map}
use Prim.Native.Nat.{ℕ, suc}
use lib.Dec.{eqb}
use lib.ListN.{get_or}
use borrow.Author.Tests.{eqb-true, eq-eqb}
use Rattle.theory_lists.specs.Booleans.{and-true, and_split}
use Rattle.model.specs.Outcome.{Cells}
use Rattle.model.specs.Table.{CALLEE, FUNCTION, EXPR, OPT_EXPR, OPT_RESULT}
use Rattle.model.specs.Tree.{Stmt, stmt, Form, emit, block, branch, switch, loop, break, continue, return, kill, call, effect, Block, end, ◌then◌, Case, case, Cases, nomore, ◌also◌, Range, Function, Entry, opt_of}
use Rattle.model.specs.Module.{Module}
use Rattle.model.specs.Carry.{carry_cell, carry_cells, carry_opt, carry_range, carry_s, carry_f, carry_b, carry_k, carry_c, carry_function, carry_entry}
use Rattle.model.specs.Operands.{ops_of, result_of, function_of, emitted_kind, ops, kind_at, standing}
use Rattle.model.specs.Initial.{marked, initials}
use Rattle.model.specs.Scope.{XStmt, XForm, XBlock, XCase, XCases, expand_s, expand_f, expand, expand_k, expand_c, Place, in_body, in_switch, in_loop, in_continuing, shape_s, shape_f, shape_b, shape_k, shape_c, emitted, is_of, call_result, effect_result, kinds_s, kinds_f, kinds_b, kinds_k, kinds_c, evals_opt, evals_s, evals_f, evals_b, evals_k, evals_c, distinct, add_opt, add_f, add_s, top_b, holds_s, holds_f, holds_b, holds_k, holds_c, cont_b, vis, all_vis, opt_vis, ok_e, ok_s, ok_f, ok_b, ok_k, ok_c, all_of, seen, scoped_as, scoped, all_scoped, entries_scoped, in_scope}
use Rattle.model.specs.Redirect.{name_word, redirecting, redirect_fn, redirect_entry, stays, redirect_fns, with_functions, with_entries, redirect}
use Rattle.theory_image.specs.Words.{opt_of_lem}
use Rattle.redirect_words.proofs.Kept.{turn, pick, ops-kept, result_kept, kind_at_kept, ops_at_kept, function_at_is, standing-kept, initials-kept}

module _ (a b : ℕ) where
  -- ---- the body as scope and walks see it, with Calls changed
  unfoldable mutual
    pub turn_s : XStmt → XStmt
    turn_s (stmt x y f) = stmt x y (turn_f f)

    pub turn_f : XForm → XForm
    turn_f (emit es) = emit es
    turn_f (block x) = block (turn_b x)
    turn_f (branch c x y) = branch c (turn_b x) (turn_b y)
    turn_f (switch c ks) = switch c (turn_c ks)
    turn_f (loop x y o) = loop (turn_b x) (turn_b y) o
    turn_f break = break
    turn_f continue = continue
    turn_f (return o) = return o
    turn_f kill = kill
    turn_f (call f xs r) = call (turn a b CALLEE f) xs r
    turn_f (effect k cs) = effect k (carry_cells (turn a b) cs)

    pub turn_b : XBlock → XBlock
    turn_b end = end
    turn_b (s then x) = turn_s s then turn_b x

    pub turn_k : XCase → XCase
    turn_k (case v x f) = case (carry_cells (turn a b) v) (turn_b x) f

    pub turn_c : XCases → XCases
    turn_c nomore = nomore
    turn_c (k also ks) = turn_k k also turn_c ks

  same_opt : (s : ℕ) → eqb s CALLEE || eqb s FUNCTION ≡ false → (o : Option ℕ) → carry_opt (turn a b) s o ≡ o
  unfolding carry_opt redirecting
  same_opt s e o = ap opt_of (rw (redirecting, e) refl) ∙ opt_of_lem o

  same_list : (xs : List ℕ) → map (turn a b EXPR) xs ≡ xs
  unfolding redirecting
  same_list [] = refl
  same_list (x ∷ xs) = ap (x ∷◌) (same_list xs)

  mutual
    unfolding expand_s turn_s carry_s carry_range redirecting

    expand_s_lem : (s : Stmt Range) (drop : ℕ → Bool) → expand_s (carry_s (turn a b) s) drop ≡ turn_s (expand_s s drop)
    expand_s_lem (stmt x y f) drop = ap (stmt 0 0) (expand_f_lem f drop)

    expand_f_lem : (f : Form Range) (drop : ℕ → Bool) → expand_f (carry_f (turn a b) f) drop ≡ turn_f (expand_f f drop)
    expand_f_lem (emit r) drop = refl
    expand_f_lem (block x) drop = ap block (expand_b x drop)
    expand_f_lem (branch c x y) drop = ap₂ (branch c) (expand_b x drop) (expand_b y drop)
    expand_f_lem (switch c ks) drop = ap (switch c) (expand_c_lem ks drop)
    expand_f_lem (loop x y o) drop = rw (expand_b x drop, expand_b y drop, same_opt OPT_EXPR refl o)
    expand_f_lem break drop = refl
    expand_f_lem continue drop = refl
    expand_f_lem (return o) drop = ap return (same_opt OPT_EXPR refl o)
    expand_f_lem kill drop = refl
    expand_f_lem (call f xs r) drop = ap₂ (call (turn a b CALLEE f)) (same_list xs) (same_opt OPT_RESULT refl r)
    expand_f_lem (effect k cs) drop = refl

    pub expand_b : (x : Block Range) (drop : ℕ → Bool) → expand (carry_b (turn a b) x) drop ≡ turn_b (expand x drop)
    expand_b end drop = refl
    expand_b (s then x) drop = ap₂ ◌then◌ (expand_s_lem s drop) (expand_b x drop)

    expand_k_lem : (k : Case Range) (drop : ℕ → Bool) → expand_k (carry_k (turn a b) k) drop ≡ turn_k (expand_k k drop)
    expand_k_lem (case v x f) drop = ap (λ y. case (carry_cells (turn a b) v) y f) (expand_b x drop)

    expand_c_lem : (ks : Cases Range) (drop : ℕ → Bool) → expand_c (carry_c (turn a b) ks) drop ≡ turn_c (expand_c ks drop)
    expand_c_lem nomore drop = refl
    expand_c_lem (k also ks) drop = ap₂ ◌also◌ (expand_k_lem k drop) (expand_c_lem ks drop)

  pub seen_turned : (f : Function) → seen (carry_function (turn a b) f) ≡ turn_b (seen f)
  unfolding seen carry_function
  seen_turned f = ap (λ m. expand (carry_b (turn a b) f.body) (marked m)) (initials-kept a b f) ∙ expand_b f.body (marked (initials f))

  all-turned : (f : Function) → all_of (carry_function (turn a b) f) ≡ turn_b (all_of f)
  unfolding all_of carry_function
  all-turned f = expand_b f.body (λ e. false)

  -- ---- Breaks, Continues and Returns
  mutual
    unfolding shape_s turn_s

    shape_s_lem : (s : XStmt) (p : Place) → shape_s (turn_s s) p ≡ shape_s s p
    shape_s_lem (stmt x y f) p = shape_f_lem f p

    shape_f_lem : (f : XForm) (p : Place) → shape_f (turn_f f) p ≡ shape_f f p
    shape_f_lem (emit es) p = refl
    shape_f_lem (block x) p = shape_b_lem x p
    shape_f_lem (branch c x y) p = ap₂ ◌&&◌ (shape_b_lem x p) (shape_b_lem y p)
    shape_f_lem (switch c ks) p = shape_c_lem ks (in_switch p)
    shape_f_lem (loop x y o) p = ap₂ ◌&&◌ (shape_b_lem x (in_loop p)) (shape_b_lem y in_continuing)
    shape_f_lem break p = refl
    shape_f_lem continue p = refl
    shape_f_lem (return o) p = refl
    shape_f_lem kill p = refl
    shape_f_lem (call f xs r) p = refl
    shape_f_lem (effect k cs) p = refl

    shape_b_lem : (x : XBlock) (p : Place) → shape_b (turn_b x) p ≡ shape_b x p
    shape_b_lem end p = refl
    shape_b_lem (s then x) p = ap₂ ◌&&◌ (shape_s_lem s p) (shape_b_lem x p)

    shape_k_lem : (k : XCase) (p : Place) → shape_k (turn_k k) p ≡ shape_k k p
    shape_k_lem (case v x f) p = shape_b_lem x p

    shape_c_lem : (ks : XCases) (p : Place) → shape_c (turn_c ks) p ≡ shape_c ks p
    shape_c_lem nomore p = refl
    shape_c_lem (k also ks) p = ap₂ ◌&&◌ (shape_k_lem k p) (shape_c_lem ks p)

  -- ---- evaluated once
  mutual
    unfolding evals_s turn_s

    evals_s_lem : (s : XStmt) → evals_s (turn_s s) ≡ evals_s s
    evals_s_lem (stmt x y f) = evals-f f

    evals-f : (f : XForm) → evals_f (turn_f f) ≡ evals_f f
    evals-f (emit es) = refl
    evals-f (block x) = evals-b x
    evals-f (branch c x y) = ap₂ ◌++◌ (evals-b x) (evals-b y)
    evals-f (switch c ks) = evals-c ks
    evals-f (loop x y o) = ap₂ ◌++◌ (evals-b x) (evals-b y)
    evals-f break = refl
    evals-f continue = refl
    evals-f (return o) = refl
    evals-f kill = refl
    evals-f (call f xs r) = refl
    evals-f (effect k cs) = ap evals_opt (result_kept a b cs)

    evals-b : (x : XBlock) → evals_b (turn_b x) ≡ evals_b x
    evals-b end = refl
    evals-b (s then x) = ap₂ ◌++◌ (evals_s_lem s) (evals-b x)

    evals-k : (k : XCase) → evals_k (turn_k k) ≡ evals_k k
    evals-k (case v x f) = evals-b x

    evals-c : (ks : XCases) → evals_c (turn_c ks) ≡ evals_c ks
    evals-c nomore = refl
    evals-c (k also ks) = ap₂ ◌++◌ (evals-k k) (evals-c ks)

  -- ---- what is in scope
  mutual
    unfolding holds_s turn_s

    holds_s_lem : (s : XStmt) → holds_s (turn_s s) ≡ holds_s s
    holds_s_lem (stmt x y f) = holds-f f

    holds-f : (f : XForm) → holds_f (turn_f f) ≡ holds_f f
    holds-f (emit es) = refl
    holds-f (block x) = holds-b x
    holds-f (branch c x y) = ap₂ ◌||◌ (holds-b x) (holds-b y)
    holds-f (switch c ks) = holds-c ks
    holds-f (loop x y o) = refl
    holds-f break = refl
    holds-f continue = refl
    holds-f (return o) = refl
    holds-f kill = refl
    holds-f (call f xs r) = refl
    holds-f (effect k cs) = refl

    holds-b : (x : XBlock) → holds_b (turn_b x) ≡ holds_b x
    holds-b end = refl
    holds-b (s then x) = ap₂ ◌||◌ (holds_s_lem s) (holds-b x)

    holds-k : (k : XCase) → holds_k (turn_k k) ≡ holds_k k
    holds-k (case v x f) = holds-b x

    holds-c : (ks : XCases) → holds_c (turn_c ks) ≡ holds_c ks
    holds-c nomore = refl
    holds-c (k also ks) = ap₂ ◌||◌ (holds-k k) (holds-c ks)

  add-f : (f : XForm) (ρ : List ℕ) → add_f (turn_f f) ρ ≡ add_f f ρ
  unfolding add_f turn_f
  add-f (emit es) ρ = refl
  add-f (block x) ρ = refl
  add-f (branch c x y) ρ = refl
  add-f (switch c ks) ρ = refl
  add-f (loop x y o) ρ = refl
  add-f break ρ = refl
  add-f continue ρ = refl
  add-f (return o) ρ = refl
  add-f kill ρ = refl
  add-f (call f xs r) ρ = refl
  add-f (effect k cs) ρ = ap (λ o. add_opt o ρ) (result_kept a b cs)

  add_s_lem : (s : XStmt) (ρ : List ℕ) → add_s (turn_s s) ρ ≡ add_s s ρ
  unfolding add_s turn_s
  add_s_lem (stmt x y f) ρ = add-f f ρ

  top-b : (x : XBlock) (ρ : List ℕ) → top_b (turn_b x) ρ ≡ top_b x ρ
  unfolding top_b turn_b
  top-b end ρ = refl
  top-b (s then x) ρ = ap (top_b (turn_b x)) (add_s_lem s ρ) ∙ top-b x (add_s s ρ)

  cont_b_lem : (x : XBlock) (ρ : List ℕ) → cont_b (turn_b x) ρ ≡ cont_b x ρ
  unfolding cont_b turn_b
  cont_b_lem end ρ = refl
  cont_b_lem (s then x) ρ =
      ap₂ (λ h l. elim h [ true ↦ ρ | false ↦ l ]) (holds_s_lem s) (ap (cont_b (turn_b x)) (add_s_lem s ρ) ∙ cont_b_lem x (add_s s ρ))

  -- ---- reads, over the changed table
  module _ (xs : List Cells) where
    abbrev ys : List Cells
    ys = map (carry_cells (turn a b)) xs

    vis-kept : (ρ : List ℕ) (e : ℕ) → vis (standing ys) ρ e ≡ vis (standing xs) ρ e
    unfolding vis
    vis-kept [] e = standing-kept a b xs e
    vis-kept (x ∷ ρ) e = ap (eqb e x ||◌) (vis-kept ρ e)

    all-kept : (ρ es : List ℕ) → all_vis (standing ys) ρ es ≡ all_vis (standing xs) ρ es
    unfolding all_vis
    all-kept ρ [] = refl
    all-kept ρ (e ∷ es) = ap₂ ◌&&◌ (vis-kept ρ e) (all-kept ρ es)

    opt_kept : (ρ : List ℕ) (o : Option ℕ) → opt_vis (standing ys) ρ o ≡ opt_vis (standing xs) ρ o
    unfolding opt_vis
    opt_kept ρ none = refl
    opt_kept ρ (some e) = vis-kept ρ e

    ok-e : (es ρ : List ℕ) → ok_e ys es ρ ≡ ok_e xs es ρ
    unfolding ok_e
    ok-e [] ρ = refl
    ok-e (e ∷ es) ρ = ap₂ ◌&&◌ (ap (all_vis (standing ys) ρ) (ops_at_kept a b xs e) ∙ all-kept ρ (ops xs e)) (ok-e es (e ∷ ρ))

    mutual
      unfolding ok_s turn_s

      ok_s_lem : (s : XStmt) (ρ : List ℕ) → ok_s (turn_s s) ys ρ ≡ ok_s s xs ρ
      ok_s_lem (stmt x y f) ρ = ok_f_lem f ρ

      ok_f_lem : (f : XForm) (ρ : List ℕ) → ok_f (turn_f f) ys ρ ≡ ok_f f xs ρ
      ok_f_lem (emit es) ρ = ok-e es ρ
      ok_f_lem (block x) ρ = ok-b x ρ
      ok_f_lem (branch c x y) ρ = ap₂ ◌&&◌ (vis-kept ρ c) (ap₂ ◌&&◌ (ok-b x ρ) (ok-b y ρ))
      ok_f_lem (switch c ks) ρ = ap₂ ◌&&◌ (vis-kept ρ c) (ok-c ks ρ)
      ok_f_lem (loop x y o) ρ =
          ap₂ ◌&&◌ (ok-b x ρ)
          (ap₂ ◌&&◌ (ap (ok_b (turn_b y) ys) (cont_b_lem x ρ) ∙ ok-b y (cont_b x ρ)) (ap (λ r. opt_vis (standing ys) r o) (ap (top_b (turn_b y)) (cont_b_lem x ρ) ∙ top-b y (cont_b x ρ)) ∙ opt_kept (top_b y (cont_b x ρ)) o))
      ok_f_lem break ρ = refl
      ok_f_lem continue ρ = refl
      ok_f_lem (return o) ρ = opt_kept ρ o
      ok_f_lem kill ρ = refl
      ok_f_lem (call f es r) ρ = all-kept ρ es
      ok_f_lem (effect k cs) ρ = ap (all_vis (standing ys) ρ) (ops-kept a b cs) ∙ all-kept ρ (ops_of cs)

      ok-b : (x : XBlock) (ρ : List ℕ) → ok_b (turn_b x) ys ρ ≡ ok_b x xs ρ
      ok-b end ρ = refl
      ok-b (s then x) ρ = ap₂ ◌&&◌ (ok_s_lem s ρ) (ap (ok_b (turn_b x) ys) (add_s_lem s ρ) ∙ ok-b x (add_s s ρ))

      ok-k : (k : XCase) (ρ : List ℕ) → ok_k (turn_k k) ys ρ ≡ ok_k k xs ρ
      ok-k (case v x f) ρ = ok-b x ρ

      ok-c : (ks : XCases) (ρ : List ℕ) → ok_c (turn_c ks) ys ρ ≡ ok_c ks xs ρ
      ok-c nomore ρ = refl
      ok-c (k also ks) ρ = ap₂ ◌&&◌ (ok-k k ρ) (ok-c ks ρ)

    -- ---- kinds: a Call and its CallResult change together
    emitted-kept : (es : List ℕ) → emitted ys es ≡ emitted xs es
    unfolding emitted
    emitted-kept [] = refl
    emitted-kept (e ∷ es) = ap₂ (λ k r. emitted_kind k && r) (kind_at_kept a b xs e) (emitted-kept es)

    effect_kept : (k : ℕ) (o : Option ℕ) → effect_result ys k o ≡ effect_result xs k o
    unfolding effect_result
    effect_kept k none = refl
    effect_kept k (some e) = ap (λ x. eqb x (elim (eqb k 14) [ true ↦ 25 | false ↦ 24 ])) (kind_at_kept a b xs e)

    of_turned : (cs : Cells) (f : ℕ) → is_of (function_of cs) f ≡ true → is_of (function_of (carry_cells (turn a b) cs)) (turn a b CALLEE f) ≡ true
    unfolding function_of is_of carry_cell redirecting
    of_turned [] f h = h
    of_turned ((s, w) ∷ cs) f h = go (eqb s FUNCTION) refl (of_turned cs f)
      where
        go : (x : Bool) → eqb s FUNCTION ≡ x → (is_of (function_of cs) f ≡ true → is_of (function_of (carry_cells (turn a b) cs)) (turn a b CALLEE f) ≡ true) → is_of (function_of (carry_cells (turn a b) ((s, w) ∷ cs))) (turn a b CALLEE f) ≡ true
        go true e i =
            let p : s ≡ FUNCTION = eqb-true s FUNCTION e in
            let q : w ≡ f = eqb-true w f (rw (function_of, e) at h) in
            rw (p, q) (eq-eqb (turn a b CALLEE f) (turn a b CALLEE f) refl)
        go false e i = rw (function_of, e) (i (rw (function_of, e) at h))

    call_kept : (f : ℕ) (o : Option ℕ) → call_result xs f o ≡ true → call_result ys (turn a b CALLEE f) o ≡ true
    unfolding call_result
    call_kept f none h = refl
    call_kept f (some e) h =
        let p = and_split (eqb (kind_at xs e) 23) (is_of (function_of (get_or xs e [])) f) h in
        and-true (ap (λ k. eqb k 23) (kind_at_kept a b xs e) ∙ p.0) (ap (λ o. is_of o (turn a b CALLEE f)) (function_at_is a b xs e) ∙ of_turned (get_or xs e []) f p.1)

    mutual
      unfolding kinds_s turn_s

      kinds_s_lem : (s : XStmt) → kinds_s s xs ≡ true → kinds_s (turn_s s) ys ≡ true
      kinds_s_lem (stmt x y f) h = kinds_f_lem f h

      kinds_f_lem : (f : XForm) → kinds_f f xs ≡ true → kinds_f (turn_f f) ys ≡ true
      kinds_f_lem (emit es) h = emitted-kept es ∙ h
      kinds_f_lem (block x) h = kinds_b_lem x h
      kinds_f_lem (branch c x y) h = let p = and_split (kinds_b x xs) (kinds_b y xs) h in and-true (kinds_b_lem x p.0) (kinds_b_lem y p.1)
      kinds_f_lem (switch c ks) h = kinds_c_lem ks h
      kinds_f_lem (loop x y o) h = let p = and_split (kinds_b x xs) (kinds_b y xs) h in and-true (kinds_b_lem x p.0) (kinds_b_lem y p.1)
      kinds_f_lem break h = refl
      kinds_f_lem continue h = refl
      kinds_f_lem (return o) h = refl
      kinds_f_lem kill h = refl
      kinds_f_lem (call f es r) h = call_kept f r h
      kinds_f_lem (effect k cs) h = ap (effect_result ys k) (result_kept a b cs) ∙ effect_kept k (result_of cs) ∙ h

      kinds_b_lem : (x : XBlock) → kinds_b x xs ≡ true → kinds_b (turn_b x) ys ≡ true
      kinds_b_lem end h = refl
      kinds_b_lem (s then x) h = let p = and_split (kinds_s s xs) (kinds_b x xs) h in and-true (kinds_s_lem s p.0) (kinds_b_lem x p.1)

      kinds_k_lem : (k : XCase) → kinds_k k xs ≡ true → kinds_k (turn_k k) ys ≡ true
      kinds_k_lem (case v x f) h = kinds_b_lem x h

      kinds_c_lem : (ks : XCases) → kinds_c ks xs ≡ true → kinds_c (turn_c ks) ys ≡ true
      kinds_c_lem nomore h = refl
      kinds_c_lem (k also ks) h = let p = and_split (kinds_k k xs) (kinds_c ks xs) h in and-true (kinds_k_lem k p.0) (kinds_c_lem ks p.1)

    scoped_as_lem : (x y : XBlock) → scoped_as x y xs ≡ true → scoped_as (turn_b x) (turn_b y) ys ≡ true
    unfolding scoped_as
    scoped_as_lem x y h =
        let p = and_split (shape_b y in_body) (kinds_b x xs && (distinct (evals_b x) && ok_b y xs [])) h in
        let q = and_split (kinds_b x xs) (distinct (evals_b x) && ok_b y xs []) p.1 in
        and-true (shape_b_lem y in_body ∙ p.0) (and-true (kinds_b_lem x q.0) (ap₂ ◌&&◌ (ap distinct (evals-b x)) (ok-b y []) ∙ q.1))

  -- ---- functions
  scoped_fn : (f : Function) → scoped f ≡ true → scoped (redirect_fn a b f) ≡ true
  unfolding scoped redirect_fn carry_function
  scoped_fn f h = ap₂ (λ x y. scoped_as x y (map (carry_cells (turn a b)) f.exprs)) (all-turned f) (seen_turned f) ∙ scoped_as_lem f.exprs (all_of f) (seen f) h

  scoped-pick : (x : Bool) (f : Function) → scoped f ≡ true → scoped (pick a b x f) ≡ true
  scoped-pick true f h = h
  scoped-pick false f h = scoped_fn f h

  scoped_fns : (fs : List Function) (j : ℕ) (omit : List ℕ) → all_scoped fs ≡ true → all_scoped (redirect_fns fs j a b omit) ≡ true
  unfolding all_scoped redirect_fns
  scoped_fns [] j omit h = refl
  scoped_fns (f ∷ fs) j omit h =
      let p = and_split (scoped f) (all_scoped fs) h in
      and-true (scoped-pick (stays b omit j (name_word f)) f p.0) (scoped_fns fs (suc j) omit p.1)

  scoped_points : (es : List Entry) → entries_scoped es ≡ true → entries_scoped (map (redirect_entry a b) es) ≡ true
  unfolding entries_scoped redirect_entry carry_entry redirect_fn
  scoped_points [] h = refl
  scoped_points (e ∷ es) h = let p = and_split (scoped e.function) (entries_scoped es) h in and-true (scoped_fn e.function p.0) (scoped_points es p.1)

  -- LAW
  pub redirect_scope : (m : Module) (omit : List ℕ) → in_scope m ≡ true → in_scope (redirect m a b omit) ≡ true
  unfolding in_scope redirect with_functions with_entries
  redirect_scope m omit h = let p = and_split (all_scoped m.functions) (entries_scoped m.entries) h in and-true (scoped_fns m.functions 0 omit p.0) (scoped_points m.entries p.1)
