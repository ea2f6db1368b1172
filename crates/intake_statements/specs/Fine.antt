-- Test 6 in the order of the text: one structural function over the body as stored, which threads what is in scope (ρ) and what was evaluated (δ). proofs/Restated.antt proves it equal to the model's `scoped_as`.
use Rattle.std.specs.Prelude.{Bool, true, false, ◌&&◌, ◌||◌, not, List, [], ◌∷◌, ℕ}
use Rattle.model.specs.Outcome.{Cells}
use Rattle.model.specs.Tree.{Stmt, stmt, Form, emit, block, branch, switch, loop, break, continue, return, kill, call, effect, Block, end, ◌then◌, Case, case, Cases, nomore, ◌also◌, Range}
use Rattle.model.specs.Operands.{ops_of, result_of, emitted_kind, ops, kind_at, standing}
use Rattle.model.specs.Scope.{Place, in_switch, in_loop, in_continuing, in_range, expand_s, expand, expand_k, expand_c, call_result, effect_result, evals_s, evals_b, evals_k, evals_c, evals_opt, has, add_e, add_s, top_b, cont_b, vis, all_vis, opt_vis}

-- nothing is dropped
abbrev pub keep_all : ℕ → Bool
keep_all e = false

-- what is evaluated after the list es
unfoldable pub done_b : Block Range → List ℕ → List ℕ
done_b b δ = add_e (evals_b (expand b keep_all)) δ

-- the same after a statement
unfoldable pub done_s : Stmt Range → List ℕ → List ℕ
done_s s δ = add_e (evals_s (expand_s s keep_all)) δ

-- the same after a case
unfoldable pub done_k : Case Range → List ℕ → List ℕ
done_k k δ = add_e (evals_k (expand_k k keep_all)) δ

-- the same after cases
unfoldable pub done_c : Cases Range → List ℕ → List ℕ
done_c ks δ = add_e (evals_c (expand_c ks keep_all)) δ

-- each of the list is evaluated for the first time
unfoldable pub fresh : List ℕ → List ℕ → Bool
fresh [] δ = true
fresh (e ∷ es) δ = not (has δ e) && fresh es (e ∷ δ)

module _ (xs : List Cells) (drop : ℕ → Bool) where
  -- the scope after expression e of an Emit: an initialiser expression does not come into scope
  unfoldable pub next_e : ℕ → List ℕ → List ℕ
  next_e e ρ = elim (drop e) [ true ↦ ρ | false ↦ e ∷ ρ ]

  -- expression e of an Emit: its kind, for the first time, and its reads, unless it is an initialiser expression
  unfoldable pub one_e : ℕ → List ℕ → List ℕ → Bool
  one_e e ρ δ = emitted_kind (kind_at xs e) && (not (has δ e) && (drop e || all_vis (standing xs) ρ (ops xs e)))

  -- expressions of an Emit, one after the other
  unfoldable pub fine_e : List ℕ → List ℕ → List ℕ → Bool
  fine_e [] ρ δ = true
  fine_e (e ∷ es) ρ δ = one_e e ρ δ && fine_e es (next_e e ρ) (e ∷ δ)

  unfoldable mutual
    pub fine_s : Stmt Range → Place → List ℕ → List ℕ → Bool
    fine_s (stmt a b f) p ρ δ = fine_f f p ρ δ

    pub fine_f : Form Range → Place → List ℕ → List ℕ → Bool
    fine_f (emit r) p ρ δ = fine_e (in_range r) ρ δ
    fine_f (block b) p ρ δ = fine_b b p ρ δ
    fine_f (branch c a b) p ρ δ = vis (standing xs) ρ c && (fine_b a p ρ δ && fine_b b p ρ (done_b a δ))
    fine_f (switch c ks) p ρ δ = vis (standing xs) ρ c && fine_c ks (in_switch p) ρ δ
    fine_f (loop a b x) p ρ δ = fine_b a (in_loop p) ρ δ && (fine_b b in_continuing (cont_b (expand a drop) ρ) (done_b a δ) && opt_vis (standing xs) (top_b (expand b drop) (cont_b (expand a drop) ρ)) x)
    fine_f break p ρ δ = p.breaks
    fine_f continue p ρ δ = p.continues
    fine_f (return x) p ρ δ = p.returns && opt_vis (standing xs) ρ x
    fine_f kill p ρ δ = true
    fine_f (call f ys r) p ρ δ = all_vis (standing xs) ρ ys && (call_result xs f r && fresh (evals_opt r) δ)
    fine_f (effect k cs) p ρ δ = all_vis (standing xs) ρ (ops_of cs) && (effect_result xs k (result_of cs) && fresh (evals_opt (result_of cs)) δ)

    pub fine_b : Block Range → Place → List ℕ → List ℕ → Bool
    fine_b end p ρ δ = true
    fine_b (s then b) p ρ δ = fine_s s p ρ δ && fine_b b p (add_s (expand_s s drop) ρ) (done_s s δ)

    pub fine_k : Case Range → Place → List ℕ → List ℕ → Bool
    fine_k (case v b f) p ρ δ = fine_b b p ρ δ

    pub fine_c : Cases Range → Place → List ℕ → List ℕ → Bool
    fine_c nomore p ρ δ = true
    fine_c (k also ks) p ρ δ = fine_k k p ρ δ && fine_c ks p ρ (done_k k δ)
