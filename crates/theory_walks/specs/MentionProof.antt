-- What a body mentions. What it evaluates is mentioned; and where its reads are in scope, whatever it mentions is standing or evaluated, so that a fact of both is a fact of all that it mentions (`is_b`).
use Rattle.std.specs.Prelude.{ℕ, Bool, eqb}
use Rattle.std.proofs.Math.Logic.{⊎_elim}
use Rattle.std.proofs.Math.Bool.{true, false}
use mathlib.Core.List.{List, [], ◌∷◌, ◌++◌}
use Rattle.std.proofs.Math.Option.{Option, none, some}
use Rattle.std.proofs.Common.{eqb-true}
use Rattle.theory_lists.specs.Booleans.{Yes, and_first, and_second, or_cases}
use Rattle.model.specs.Outcome.{Cells}
use Rattle.model.specs.Tree.{stmt, emit, block, branch, switch, loop, break, continue, return, kill, call, effect, end, ◌then◌, case, nomore, ◌also◌}
use Rattle.model.specs.Operands.{ops_of, result_of, ops, standing}
use Rattle.model.specs.Initial.{Mem, here, there}
use Rattle.model.specs.Scope.{XStmt, XForm, XBlock, XCase, XCases, evals_opt, evals_s, evals_f, evals_b, evals_k, evals_c, add_e, add_opt, add_f, add_s, top_b, holds_s, cont_b, vis, all_vis, opt_vis, ok_e, ok_s, ok_f, ok_b, ok_k, ok_c}
use Rattle.theory_image.specs.Members.{no_mem, mem_left, mem_right, mem_split}
use Rattle.theory_walks.specs.Members.{Each, each_none, each_append, each_cons}
use Rattle.theory_walks.specs.Agreement.{mentions_e, mentions_s, mentions_f, mentions_b, mentions_k, mentions_c}

-- ---- what is evaluated is mentioned
module _ (xs : List Cells) where
  emit_mentions : (es : List ℕ) {e : ℕ} → Mem e es → Mem e (mentions_e es xs)
  unfolding mentions_e
  emit_mentions [] m = absurd (no_mem m)
  emit_mentions (x ∷ es) here = here
  emit_mentions (x ∷ es) (there m) = there (mem_right (ops xs x) (emit_mentions es m))

  mutual
    unfolding evals_s mentions_s

    mention_s : (s : XStmt) {e : ℕ} → Mem e (evals_s s) → Mem e (mentions_s s xs)
    mention_s (stmt a b f) m = mention_f f m

    mention_f : (f : XForm) {e : ℕ} → Mem e (evals_f f) → Mem e (mentions_f f xs)
    mention_f (emit es) m = emit_mentions es m
    mention_f (block b) m = mention_b b m
    mention_f (branch c a b) m = there (mem_split (evals_b a) (evals_b b) (λ p. mention_b a p) (λ p. mention_b b p) m)
    mention_f (switch c ks) m = there (mention_c ks m)
    mention_f (loop a b x) m = mem_right (evals_opt x) (mem_split (evals_b a) (evals_b b) (λ p. mention_b a p) (λ p. mention_b b p) m)
    mention_f break m = m
    mention_f continue m = m
    mention_f (return x) m = absurd (no_mem m)
    mention_f kill m = m
    mention_f (call f ys r) m = mem_right ys m
    mention_f (effect k ws) m = mem_right (ops_of ws) m

    pub mention_b : (b : XBlock) {e : ℕ} → Mem e (evals_b b) → Mem e (mentions_b b xs)
    mention_b end m = m
    mention_b (s then b) m = mem_split (evals_s s) (evals_b b) (λ p. mention_s s p) (λ p. mention_b b p) m

    mention_k : (k : XCase) {e : ℕ} → Mem e (evals_k k) → Mem e (mentions_k k xs)
    mention_k (case v b t) m = mention_b b m

    mention_c : (ks : XCases) {e : ℕ} → Mem e (evals_c ks) → Mem e (mentions_c ks xs)
    mention_c nomore m = m
    mention_c (k also ks) m = mem_split (evals_k k) (evals_c ks) (λ p. mention_k k p) (λ p. mention_c ks p) m

  -- ---- what is mentioned is in scope somewhere: it is standing, or it is evaluated
  module _ (P : ℕ → Type 0) (stands : (e : ℕ) → Yes (standing xs e) → P e) where
    vis_is : (ρ : List ℕ) → Each P ρ → (e : ℕ) → Yes (vis (standing xs) ρ e) → P e
    unfolding vis
    vis_is [] a e h = stands e h
    vis_is (x ∷ ρ) a e h = ⊎_elim (λ q. rw (eqb-true e x q) (a x here)) (λ q. vis_is ρ (λ d m. a d (there m)) e q) (or_cases (eqb e x) _ h)

    all_is : (ρ : List ℕ) → Each P ρ → (ys : List ℕ) → Yes (all_vis (standing xs) ρ ys) → Each P ys
    unfolding all_vis
    all_is ρ a [] h = each_none P
    all_is ρ a (y ∷ ys) h = each_cons (vis_is ρ a y (and_first (vis (standing xs) ρ y) _ h)) (all_is ρ a ys (and_second (vis (standing xs) ρ y) _ h))

    opt_is : (ρ : List ℕ) → Each P ρ → (x : Option ℕ) → Yes (opt_vis (standing xs) ρ x) → Each P (evals_opt x)
    unfolding opt_vis evals_opt
    opt_is ρ a none h = each_none P
    opt_is ρ a (some e) h = each_cons (vis_is ρ a e h) (each_none P)

    -- the scopes hold what was evaluated
    add_e_is : (es ρ : List ℕ) → Each P ρ → Each P es → Each P (add_e es ρ)
    unfolding add_e
    add_e_is [] ρ a b = a
    add_e_is (e ∷ es) ρ a b = add_e_is es (e ∷ ρ) (each_cons (b e here) a) (λ d m. b d (there m))

    add_opt_is : (r : Option ℕ) (ρ : List ℕ) → Each P ρ → Each P (evals_opt r) → Each P (add_opt r ρ)
    unfolding add_opt evals_opt
    add_opt_is none ρ a b = a
    add_opt_is (some e) ρ a b = each_cons (b e here) a

    add_f_is : (f : XForm) (ρ : List ℕ) → Each P ρ → Each P (evals_f f) → Each P (add_f f ρ)
    unfolding add_f evals_f
    add_f_is (emit es) ρ a b = add_e_is es ρ a b
    add_f_is (block c) ρ a b = a
    add_f_is (branch c p q) ρ a b = a
    add_f_is (switch c ks) ρ a b = a
    add_f_is (loop p q x) ρ a b = a
    add_f_is break ρ a b = a
    add_f_is continue ρ a b = a
    add_f_is (return x) ρ a b = a
    add_f_is kill ρ a b = a
    add_f_is (call f ys r) ρ a b = add_opt_is r ρ a b
    add_f_is (effect k ws) ρ a b = add_opt_is (result_of ws) ρ a b

    add_s_is : (s : XStmt) (ρ : List ℕ) → Each P ρ → Each P (evals_s s) → Each P (add_s s ρ)
    unfolding add_s evals_s
    add_s_is (stmt p q f) ρ a b = add_f_is f ρ a b

    top_is : (b : XBlock) (ρ : List ℕ) → Each P ρ → Each P (evals_b b) → Each P (top_b b ρ)
    unfolding top_b evals_b
    top_is end ρ a e = a
    top_is (s then b) ρ a e = top_is b (add_s s ρ) (add_s_is s ρ a (λ d m. e d (mem_left (evals_b b) m))) (λ d m. e d (mem_right (evals_s s) m))

    cont_is : (b : XBlock) (ρ : List ℕ) → Each P ρ → Each P (evals_b b) → Each P (cont_b b ρ)
    unfolding cont_b evals_b
    cont_is end ρ a e = a
    cont_is (s then b) ρ a e = go (holds_s s) (cont_is b (add_s s ρ) (add_s_is s ρ a (λ d m. e d (mem_left (evals_b b) m))) (λ d m. e d (mem_right (evals_s s) m)))
      where
        go : (t : Bool) → Each P (cont_b b (add_s s ρ)) → Each P (elim t [ true ↦ ρ | false ↦ cont_b b (add_s s ρ) ])
        go true ih = a
        go false ih = ih

    emit_is : (es ρ : List ℕ) → Each P ρ → Each P es → Yes (ok_e xs es ρ) → Each P (mentions_e es xs)
    unfolding ok_e mentions_e
    emit_is [] ρ a b h = each_none P
    emit_is (e ∷ es) ρ a b h =
        each_cons (b e here)
        (each_append (ops xs e) (mentions_e es xs) (all_is ρ a (ops xs e) (and_first (all_vis (standing xs) ρ (ops xs e)) _ h))
        (emit_is es (e ∷ ρ) (each_cons (b e here) a) (λ d m. b d (there m)) (and_second (all_vis (standing xs) ρ (ops xs e)) _ h)))

    mutual
      unfolding ok_s mentions_s evals_s

      is_s : (s : XStmt) (ρ : List ℕ) → Each P ρ → Each P (evals_s s) → Yes (ok_s s xs ρ) → Each P (mentions_s s xs)
      is_s (stmt p q f) ρ a e h = is_f f ρ a e h

      is_f : (f : XForm) (ρ : List ℕ) → Each P ρ → Each P (evals_f f) → Yes (ok_f f xs ρ) → Each P (mentions_f f xs)
      is_f (emit es) ρ a e h = emit_is es ρ a e h
      is_f (block b) ρ a e h = is_b b ρ a e h
      is_f (branch c p q) ρ a e h =
          let h₁ = and_second (vis (standing xs) ρ c) _ h in
          each_cons (vis_is ρ a c (and_first (vis (standing xs) ρ c) _ h))
          (each_append (mentions_b p xs) (mentions_b q xs)
          (is_b p ρ a (λ d m. e d (mem_left (evals_b q) m)) (and_first (ok_b p xs ρ) _ h₁)) (is_b q ρ a (λ d m. e d (mem_right (evals_b p) m)) (and_second (ok_b p xs ρ) _ h₁)))
      is_f (switch c ks) ρ a e h = each_cons (vis_is ρ a c (and_first (vis (standing xs) ρ c) _ h)) (is_c ks ρ a e (and_second (vis (standing xs) ρ c) _ h))
      is_f (loop p q x) ρ a e h =
          let h₁ = and_second (ok_b p xs ρ) _ h in
          let ρc = cont_is p ρ a (λ d m. e d (mem_left (evals_b q) m)) in
          let eq : Each P (evals_b q) = λ d m. e d (mem_right (evals_b p) m) in
          each_append (evals_opt x) (mentions_b p xs ++ mentions_b q xs)
          (opt_is (top_b q (cont_b p ρ)) (top_is q (cont_b p ρ) ρc eq) x (and_second (ok_b q xs (cont_b p ρ)) _ h₁))
          (each_append (mentions_b p xs) (mentions_b q xs)
          (is_b p ρ a (λ d m. e d (mem_left (evals_b q) m)) (and_first (ok_b p xs ρ) _ h)) (is_b q (cont_b p ρ) ρc eq (and_first (ok_b q xs (cont_b p ρ)) _ h₁)))
      is_f break ρ a e h = each_none P
      is_f continue ρ a e h = each_none P
      is_f (return x) ρ a e h = opt_is ρ a x h
      is_f kill ρ a e h = each_none P
      is_f (call f ys r) ρ a e h = each_append ys (evals_opt r) (all_is ρ a ys h) e
      is_f (effect k ws) ρ a e h = each_append (ops_of ws) (evals_opt (result_of ws)) (all_is ρ a (ops_of ws) h) e

      pub is_b : (b : XBlock) (ρ : List ℕ) → Each P ρ → Each P (evals_b b) → Yes (ok_b b xs ρ) → Each P (mentions_b b xs)
      is_b end ρ a e h = each_none P
      is_b (s then b) ρ a e h =
          let es : Each P (evals_s s) = λ d m. e d (mem_left (evals_b b) m) in
          each_append (mentions_s s xs) (mentions_b b xs) (is_s s ρ a es (and_first (ok_s s xs ρ) _ h))
          (is_b b (add_s s ρ) (add_s_is s ρ a es) (λ d m. e d (mem_right (evals_s s) m)) (and_second (ok_s s xs ρ) _ h))

      is_k : (k : XCase) (ρ : List ℕ) → Each P ρ → Each P (evals_k k) → Yes (ok_k k xs ρ) → Each P (mentions_k k xs)
      is_k (case v b t) ρ a e h = is_b b ρ a e h

      is_c : (ks : XCases) (ρ : List ℕ) → Each P ρ → Each P (evals_c ks) → Yes (ok_c ks xs ρ) → Each P (mentions_c ks xs)
      is_c nomore ρ a e h = each_none P
      is_c (k also ks) ρ a e h =
          each_append (mentions_k k xs) (mentions_c ks xs) (is_k k ρ a (λ d m. e d (mem_left (evals_c ks) m)) (and_first (ok_k k xs ρ) _ h))
          (is_c ks ρ a (λ d m. e d (mem_right (evals_k k) m)) (and_second (ok_k k xs ρ) _ h))
