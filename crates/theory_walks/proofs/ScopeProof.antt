-- What agreement keeps of scope: where a body's reads are in scope, so are those of the body carried, over records that agree. Scopes are carried element by element, and a Continue is where it was, so each test of the source is a test of the target.
use Rattle.std.specs.Prelude.{ℕ, ◌≡◌, Bool, ◌||◌, eqb}
use Rattle.std.proofs.Math.Path.{refl, ap}
use Rattle.std.proofs.Common.{ap₂, sym, ◌∙◌, eqb-true, eq-eqb}
use Rattle.std.proofs.Math.Bool.{true, false}
use Rattle.std.proofs.lemmas.Bool.{false≢true}
use mathlib.Core.List.{List, [], ◌∷◌, ◌++◌, map}
use Rattle.std.proofs.Math.Option.{Option, none, some}
use Rattle.theory_lists.specs.Booleans.{Yes, and_map, or_map}
use Rattle.model.specs.Outcome.{Cells}
use Rattle.model.specs.Tree.{stmt, emit, block, branch, switch, loop, break, continue, return, kill, call, effect, end, ◌then◌, case, nomore, ◌also◌}
use Rattle.model.specs.Operands.{ops_of, result_of, ops, standing}
use Rattle.model.specs.Initial.{here, there}
use Rattle.model.specs.Scope.{XStmt, XForm, XBlock, XCase, XCases, evals_opt, add_e, add_opt, add_f, add_s, top_b, holds_s, holds_f, holds_b, holds_k, holds_c, cont_b, vis, all_vis, opt_vis, ok_e, ok_s, ok_f, ok_b, ok_k, ok_c}
use Rattle.theory_image.specs.Members.{mem_left, mem_right}
use Rattle.theory_walks.specs.Agreement.{Maps, carry_opt, carry_s, carry_f, carry_b, carry_k, carry_c, mentions_e, mentions_s, mentions_f, mentions_b, mentions_k, mentions_c}
use Rattle.theory_walks.specs.Members.{Each}
use Rattle.theory_walks.proofs.AgreementProof.{ops-carry, result_carry}

module _ (μ : Maps) (f : ℕ → ℕ) where
  -- ---- the scopes are carried
  add_e-carry : (es ρ : List ℕ) → add_e (map f es) (map f ρ) ≡ map f (add_e es ρ)
  unfolding add_e
  add_e-carry [] ρ = refl
  add_e-carry (e ∷ es) ρ = add_e-carry es (e ∷ ρ)

  add_opt-carry : (r : Option ℕ) (ρ : List ℕ) → add_opt (carry_opt f r) (map f ρ) ≡ map f (add_opt r ρ)
  unfolding add_opt carry_opt
  add_opt-carry none ρ = refl
  add_opt-carry (some e) ρ = refl

  add_f-carry : (g : XForm) (ρ : List ℕ) → add_f (carry_f g μ f) (map f ρ) ≡ map f (add_f g ρ)
  unfolding add_f carry_f
  add_f-carry (emit es) ρ = add_e-carry es ρ
  add_f-carry (block b) ρ = refl
  add_f-carry (branch c a b) ρ = refl
  add_f-carry (switch c ks) ρ = refl
  add_f-carry (loop a b x) ρ = refl
  add_f-carry break ρ = refl
  add_f-carry continue ρ = refl
  add_f-carry (return x) ρ = refl
  add_f-carry kill ρ = refl
  add_f-carry (call h ys r) ρ = add_opt-carry r ρ
  add_f-carry (effect n ws) ρ = rw (result_carry μ f ws) (add_opt-carry (result_of ws) ρ)

  add_s-carry : (s : XStmt) (ρ : List ℕ) → add_s (carry_s s μ f) (map f ρ) ≡ map f (add_s s ρ)
  unfolding add_s carry_s
  add_s-carry (stmt a b g) ρ = add_f-carry g ρ

  top-carry : (b : XBlock) (ρ : List ℕ) → top_b (carry_b b μ f) (map f ρ) ≡ map f (top_b b ρ)
  unfolding top_b carry_b
  top-carry end ρ = refl
  top-carry (s then b) ρ = ap (top_b (carry_b b μ f)) (add_s-carry s ρ) ∙ top-carry b (add_s s ρ)

  mutual
    unfolding holds_s carry_s

    holds_s_carry : (s : XStmt) → holds_s (carry_s s μ f) ≡ holds_s s
    holds_s_carry (stmt a b g) = holds_f_carry g

    holds_f_carry : (g : XForm) → holds_f (carry_f g μ f) ≡ holds_f g
    holds_f_carry (emit es) = refl
    holds_f_carry (block b) = holds_b_carry b
    holds_f_carry (branch c a b) = ap₂ ◌||◌ (holds_b_carry a) (holds_b_carry b)
    holds_f_carry (switch c ks) = holds_c_carry ks
    holds_f_carry (loop a b x) = refl
    holds_f_carry break = refl
    holds_f_carry continue = refl
    holds_f_carry (return x) = refl
    holds_f_carry kill = refl
    holds_f_carry (call h ys r) = refl
    holds_f_carry (effect n ws) = refl

    holds_b_carry : (b : XBlock) → holds_b (carry_b b μ f) ≡ holds_b b
    holds_b_carry end = refl
    holds_b_carry (s then b) = ap₂ ◌||◌ (holds_s_carry s) (holds_b_carry b)

    holds_k_carry : (c : XCase) → holds_k (carry_k c μ f) ≡ holds_k c
    holds_k_carry (case v b t) = holds_b_carry b

    holds_c_carry : (ks : XCases) → holds_c (carry_c ks μ f) ≡ holds_c ks
    holds_c_carry nomore = refl
    holds_c_carry (c also ks) = ap₂ ◌||◌ (holds_k_carry c) (holds_c_carry ks)

  cont_carry : (b : XBlock) (ρ : List ℕ) → cont_b (carry_b b μ f) (map f ρ) ≡ map f (cont_b b ρ)
  unfolding cont_b carry_b
  cont_carry end ρ = refl
  cont_carry (s then b) ρ = go (holds_s s) (holds_s (carry_s s μ f)) (holds_s_carry s) (ap (cont_b (carry_b b μ f)) (add_s-carry s ρ) ∙ cont_carry b (add_s s ρ))
    where
      go : (t t' : Bool) → t' ≡ t → cont_b (carry_b b μ f) (add_s (carry_s s μ f) (map f ρ)) ≡ map f (cont_b b (add_s s ρ))
          → elim t' [ true ↦ map f ρ | false ↦ cont_b (carry_b b μ f) (add_s (carry_s s μ f) (map f ρ)) ] ≡ map f (elim t [ true ↦ ρ | false ↦ cont_b b (add_s s ρ) ])
      go true true q ih = refl
      go true false q ih = absurd (false≢true q)
      go false true q ih = absurd (false≢true (sym q))
      go false false q ih = ih

  -- ---- the tests, over two tables of expressions: what is mentioned and standing is standing again, and its operands are carried
  module _ (xs xs' : List Cells) where
    abbrev Stands : ℕ → Type 0
    Stands e = Yes (standing xs e) → Yes (standing xs' (f e))

    eqb_carry : (e x : ℕ) → Yes (eqb e x) → Yes (eqb (f e) (f x))
    eqb_carry e x t = eq-eqb (f e) (f x) (ap f (eqb-true e x t))

    vis-carry : (ρ : List ℕ) (e : ℕ) → Stands e → Yes (vis (standing xs) ρ e) → Yes (vis (standing xs') (map f ρ) (f e))
    unfolding vis
    vis-carry [] e k h = k h
    vis-carry (x ∷ ρ) e k h = or_map (eqb_carry e x) (vis-carry ρ e k) h

    all-carry : (ρ ys : List ℕ) → Each Stands ys → Yes (all_vis (standing xs) ρ ys) → Yes (all_vis (standing xs') (map f ρ) (map f ys))
    unfolding all_vis
    all-carry ρ [] k h = refl
    all-carry ρ (y ∷ ys) k h = and_map (vis-carry ρ y (k y here)) (all-carry ρ ys (λ e m. k e (there m))) h

    opt_carry : (ρ : List ℕ) (x : Option ℕ) → Each Stands (evals_opt x) → Yes (opt_vis (standing xs) ρ x) → Yes (opt_vis (standing xs') (map f ρ) (carry_opt f x))
    unfolding opt_vis carry_opt evals_opt
    opt_carry ρ none k h = refl
    opt_carry ρ (some x) k h = vis-carry ρ x (k x here) h

    pub record Kept (e : ℕ) : Type 0 where
      pub same : ops xs' (f e) ≡ map f (ops xs e)
      pub stands : Yes (standing xs e) → Yes (standing xs' (f e))

    reads-carry : (e : ℕ) (ρ : List ℕ) → Kept e → Each Stands (ops xs e) → Yes (all_vis (standing xs) ρ (ops xs e)) → Yes (all_vis (standing xs') (map f ρ) (ops xs' (f e)))
    reads-carry e ρ p k h = rw p.same (all-carry ρ (ops xs e) k h)

    ok_e-carry : (es ρ : List ℕ) → Each Kept (mentions_e es xs) → Yes (ok_e xs es ρ) → Yes (ok_e xs' (map f es) (map f ρ))
    unfolding ok_e mentions_e
    ok_e-carry [] ρ a h = refl
    ok_e-carry (e ∷ es) ρ a h =
        and_map (reads-carry e ρ (a e here) (λ d m. (a d (there (mem_left (mentions_e es xs) m))).stands))
        (ok_e-carry es (e ∷ ρ) (λ d m. a d (there (mem_right (ops xs e) m)))) h

    mutual
      unfolding ok_s carry_s mentions_s

      ok_s_carry : (s : XStmt) (ρ : List ℕ) → Each Kept (mentions_s s xs) → Yes (ok_s s xs ρ) → Yes (ok_s (carry_s s μ f) xs' (map f ρ))
      ok_s_carry (stmt p q g) ρ a h = ok_f_carry g ρ a h

      ok_f_carry : (g : XForm) (ρ : List ℕ) → Each Kept (mentions_f g xs) → Yes (ok_f g xs ρ) → Yes (ok_f (carry_f g μ f) xs' (map f ρ))
      ok_f_carry (emit es) ρ a h = ok_e-carry es ρ a h
      ok_f_carry (block b) ρ a h = ok_b_carry b ρ a h
      ok_f_carry (branch c p q) ρ a h =
          and_map (vis-carry ρ c (a c here).stands)
          (and_map (λ t. ok_b_carry p ρ (λ d m. a d (there (mem_left (mentions_b q xs) m))) t) (λ t. ok_b_carry q ρ (λ d m. a d (there (mem_right (mentions_b p xs) m))) t)) h
      ok_f_carry (switch c ks) ρ a h = and_map (vis-carry ρ c (a c here).stands) (λ t. ok_c_carry ks ρ (λ d m. a d (there m)) t) h
      ok_f_carry (loop p q x) ρ a h =
          rw (cont_carry p ρ, top-carry q (cont_b p ρ))
          (and_map (λ t. ok_b_carry p ρ (λ d m. a d (mem_right (evals_opt x) (mem_left (mentions_b q xs) m))) t)
          (and_map (λ t. ok_b_carry q (cont_b p ρ) (λ d m. a d (mem_right (evals_opt x) (mem_right (mentions_b p xs) m))) t)
          (opt_carry (top_b q (cont_b p ρ)) x (λ d m. (a d (mem_left (mentions_b p xs ++ mentions_b q xs) m)).stands))) h)
      ok_f_carry break ρ a h = refl
      ok_f_carry continue ρ a h = refl
      ok_f_carry (return x) ρ a h = opt_carry ρ x (λ d m. (a d m).stands) h
      ok_f_carry kill ρ a h = refl
      ok_f_carry (call e ys r) ρ a h = all-carry ρ ys (λ d m. (a d (mem_left (evals_opt r) m)).stands) h
      ok_f_carry (effect n ws) ρ a h = rw (ops-carry μ f ws) (all-carry ρ (ops_of ws) (λ d m. (a d (mem_left (evals_opt (result_of ws)) m)).stands) h)

      pub ok_b_carry : (b : XBlock) (ρ : List ℕ) → Each Kept (mentions_b b xs) → Yes (ok_b b xs ρ) → Yes (ok_b (carry_b b μ f) xs' (map f ρ))
      ok_b_carry end ρ a h = refl
      ok_b_carry (s then b) ρ a h =
          rw (add_s-carry s ρ)
          (and_map (λ t. ok_s_carry s ρ (λ d m. a d (mem_left (mentions_b b xs) m)) t) (λ t. ok_b_carry b (add_s s ρ) (λ d m. a d (mem_right (mentions_s s xs) m)) t) h)

      ok_k_carry : (c : XCase) (ρ : List ℕ) → Each Kept (mentions_k c xs) → Yes (ok_k c xs ρ) → Yes (ok_k (carry_k c μ f) xs' (map f ρ))
      ok_k_carry (case v b t) ρ a h = ok_b_carry b ρ a h

      ok_c_carry : (ks : XCases) (ρ : List ℕ) → Each Kept (mentions_c ks xs) → Yes (ok_c ks xs ρ) → Yes (ok_c (carry_c ks μ f) xs' (map f ρ))
      ok_c_carry nomore ρ a h = refl
      ok_c_carry (c also ks) ρ a h =
          and_map (λ t. ok_k_carry c ρ (λ d m. a d (mem_left (mentions_c ks xs) m)) t) (λ t. ok_c_carry ks ρ (λ d m. a d (mem_right (mentions_k c xs) m)) t) h
