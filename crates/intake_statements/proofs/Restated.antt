-- The test in the order of the text is the model's: `fine_b` of a body is `scoped_as`. The model's four tests (shape, kinds, once, reads) are each true exactly if all their parts are, so either side is taken apart and put together again.
use mathlib.Core.Path.{◌≡◌, refl, sym, ap, ◌∙◌}
use mathlib.Core.Bool.{Bool, true, false, ◌&&◌, ◌||◌, not}
use Rattle.std.proofs.Math.Bool.{and-false, and_assoc}
use mathlib.Core.List.{List, [], ◌∷◌, ◌++◌}
use Prim.Native.Nat.{ℕ}
use lib.Dec.{eqb}
use borrow.Author.Tests.{eqb-true, eq-eqb}
use Rattle.theory_lists.specs.Booleans.{bool_same, and_right}
use Rattle.model.specs.Outcome.{Cells}
use Rattle.model.specs.Tree.{Stmt, stmt, Form, emit, block, branch, switch, loop, break, continue, return, kill, call, effect, Block, end, ◌then◌, Case, case, Cases, nomore, ◌also◌, Range}
use Rattle.model.specs.Operands.{ops_of, result_of, emitted_kind, ops, kind_at, standing}
use Rattle.model.specs.Scope.{Place, in_body, in_switch, in_loop, in_continuing, in_range, live, expand_s, expand_f, expand, expand_k, expand_c, shape_s, shape_f, shape_b, shape_k, shape_c, emitted, call_result, effect_result, kinds_s, kinds_f, kinds_b, kinds_k, kinds_c, evals_s, evals_f, evals_b, evals_k, evals_c, evals_opt, has, distinct, add_e, add_s, top_b, cont_b, vis, all_vis, opt_vis, ok_e, ok_s, ok_f, ok_b, ok_k, ok_c, scoped_as}
use Rattle.intake_statements.specs.Fine.{keep_all, done_b, done_s, done_k, done_c, fresh, next_e, one_e, fine_e, fine_s, fine_f, fine_b, fine_k, fine_c}

-- ---- tests
-- two halves of four tests
halves : (s₁ s₂ k₁ k₂ f₁ f₂ o₁ o₂ : Bool) → ((s₁ && s₂) && ((k₁ && k₂) && ((f₁ && f₂) && (o₁ && o₂)))) ≡ ((s₁ && (k₁ && (f₁ && o₁))) && (s₂ && (k₂ && (f₂ && o₂))))
halves false s₂ k₁ k₂ f₁ f₂ o₁ o₂ = refl
halves true false k₁ k₂ f₁ f₂ o₁ o₂ = sym (and-false (k₁ && (f₁ && o₁)))
halves true true false k₂ f₁ f₂ o₁ o₂ = refl
halves true true true false f₁ f₂ o₁ o₂ = sym (and-false (f₁ && o₁))
halves true true true true false f₂ o₁ o₂ = refl
halves true true true true true false o₁ o₂ = sym (and-false o₁)
halves true true true true true true o₁ o₂ = refl

-- a read in front
front : (s k f v o : Bool) → (s && (k && (f && (v && o)))) ≡ (v && (s && (k && (f && o))))
front false k f v o = sym (and-false v)
front true false f v o = sym (and-false v)
front true true false v o = sym (and-false v)
front true true true v o = refl

-- a read at the end
behind : (s k f o v : Bool) → (s && (k && (f && (o && v)))) ≡ ((s && (k && (f && o))) && v)
behind false k f o v = refl
behind true false f o v = refl
behind true true false o v = refl
behind true true true false v = refl
behind true true true true v = refl

-- an Emit's first expression, and the others
first : (m ms n ns v os : Bool) → ((m && ms) && ((n && ns) && (v && os))) ≡ ((m && (n && v)) && (ms && (ns && os)))
first false ms n ns v os = refl
first true false n ns v os = sym (and-false (n && v))
first true true false ns v os = refl
first true true true false v os = sym (and-false v)
first true true true true v os = refl

-- reads first
turned : (c f v : Bool) → (c && (f && v)) ≡ (v && (c && f))
turned false f v = sym (and-false v)
turned true false v = sym (and-false v)
turned true true true = refl
turned true true false = refl

-- ---- what is evaluated
pub add_e-append : (es fs δ : List ℕ) → add_e (es ++ fs) δ ≡ add_e fs (add_e es δ)
unfolding add_e
add_e-append [] fs δ = refl
add_e-append (e ∷ es) fs δ = add_e-append es fs (e ∷ δ)

fresh-append : (es fs δ : List ℕ) → fresh (es ++ fs) δ ≡ (fresh es δ && fresh fs (add_e es δ))
unfolding fresh add_e
fresh-append [] fs δ = refl
fresh-append (e ∷ es) fs δ = ap (not (has δ e) &&◌) (fresh-append es fs (e ∷ δ)) ∙ sym (and_assoc (not (has δ e)) (fresh es (e ∷ δ)) (fresh fs (add_e es (e ∷ δ))))

-- nothing is dropped from a list
pub live_all : (es : List ℕ) → live es keep_all ≡ es
unfolding live
live_all [] = refl
live_all (e ∷ es) = ap (e ∷◌) (live_all es)

-- ---- "Each is evaluated by one Emit or statement at most."
not_or : (a b : Bool) → not (a || b) ≡ (not a && not b)
not_or true b = refl
not_or false b = refl

eqb_sym : (a b : ℕ) → eqb a b ≡ eqb b a
eqb_sym a b = bool_same (eqb a b) (eqb b a) (λ h. eq-eqb b a (sym (eqb-true a b h))) (λ h. eq-eqb a b (sym (eqb-true b a h)))

-- none of the list is one of δ
apart : List ℕ → List ℕ → Bool
apart [] δ = true
apart (e ∷ es) δ = not (has δ e) && apart es δ

apart-one : (es : List ℕ) (e : ℕ) (δ : List ℕ) → apart es (e ∷ δ) ≡ (not (has es e) && apart es δ)
unfolding apart has
apart-one [] e δ = refl
apart-one (x ∷ es) e δ =
    ap (λ b. not (b || has δ x) && apart es (e ∷ δ)) (eqb_sym x e)
    ∙ ap (not (eqb e x || has δ x) &&◌) (apart-one es e δ)
    ∙ shift (eqb e x) (has δ x) (has es e) (apart es δ)
  where
    shift : (a b c d : Bool) → (not (a || b) && (not c && d)) ≡ (not (a || c) && (not b && d))
    shift true b c d = refl
    shift false true true d = refl
    shift false true false d = refl
    shift false false true d = refl
    shift false false false d = refl

apart_none : (es : List ℕ) → apart es [] ≡ true
unfolding apart has
apart_none [] = refl
apart_none (e ∷ es) = apart_none es

fresh_is : (es δ : List ℕ) → fresh es δ ≡ (distinct es && apart es δ)
unfolding fresh distinct apart
fresh_is [] δ = refl
fresh_is (e ∷ es) δ =
    ap (not (has δ e) &&◌) (fresh_is es (e ∷ δ) ∙ ap (distinct es &&◌) (apart-one es e δ))
    ∙ shift (not (has δ e)) (distinct es) (not (has es e)) (apart es δ)
  where
    shift : (a b c d : Bool) → (a && (b && (c && d))) ≡ ((c && b) && (a && d))
    shift true true true d = refl
    shift true true false d = refl
    shift true false true d = refl
    shift true false false d = refl
    shift false true true d = refl
    shift false true false d = refl
    shift false false true d = refl
    shift false false false d = refl

pub fresh-distinct : (es : List ℕ) → distinct es ≡ fresh es []
fresh-distinct es = sym (fresh_is es [] ∙ ap (distinct es &&◌) (apart_none es) ∙ and_right (distinct es))

-- ---- the four tests at once
module _ (xs : List Cells) (drop : ℕ → Bool) where
  pub live-drop : (e : ℕ) (es : List ℕ) → drop e ≡ true → live (e ∷ es) drop ≡ live es drop
  unfolding live
  live-drop e es d = rw (live, d)

  pub live-keep : (e : ℕ) (es : List ℕ) → drop e ≡ false → live (e ∷ es) drop ≡ e ∷ live es drop
  unfolding live
  live-keep e es d = rw (live, d)

  pub next-drop : (e : ℕ) (ρ : List ℕ) → drop e ≡ true → next_e xs drop e ρ ≡ ρ
  unfolding next_e
  next-drop e ρ d = rw (next_e, d)

  pub next-keep : (e : ℕ) (ρ : List ℕ) → drop e ≡ false → next_e xs drop e ρ ≡ e ∷ ρ
  unfolding next_e
  next-keep e ρ d = rw (next_e, d)

  live-none : live [] drop ≡ []
  unfolding live
  live-none = refl

  four_e : (es ρ δ : List ℕ) → (emitted xs es && (fresh es δ && ok_e xs (live es drop) ρ)) ≡ fine_e xs drop es ρ δ
  unfolding emitted fresh ok_e fine_e one_e
  four_e [] ρ δ = rw live-none
  four_e (e ∷ es) ρ δ = go (drop e) refl (λ ρ. four_e es ρ (e ∷ δ))
    where
      go : (b : Bool) → drop e ≡ b → ((ρ : List ℕ) → (emitted xs es && (fresh es (e ∷ δ) && ok_e xs (live es drop) ρ)) ≡ fine_e xs drop es ρ (e ∷ δ))
          → (emitted xs (e ∷ es) && (fresh (e ∷ es) δ && ok_e xs (live (e ∷ es) drop) ρ)) ≡ fine_e xs drop (e ∷ es) ρ δ
      go true d ih = rw (live-drop e es d, next-drop e ρ d, d) (first (emitted_kind (kind_at xs e)) (emitted xs es) (not (has δ e)) (fresh es (e ∷ δ)) true (ok_e xs (live es drop) ρ) ∙ ap ((emitted_kind (kind_at xs e) && (not (has δ e) && true)) &&◌) (ih ρ))
      go false d ih = rw (live-keep e es d, next-keep e ρ d, d) (first (emitted_kind (kind_at xs e)) (emitted xs es) (not (has δ e)) (fresh es (e ∷ δ)) (all_vis (standing xs) ρ (ops xs e)) (ok_e xs (live es drop) (e ∷ ρ)) ∙ ap ((emitted_kind (kind_at xs e) && (not (has δ e) && all_vis (standing xs) ρ (ops xs e))) &&◌) (ih (e ∷ ρ)))

  -- two parts one after the other
  two : (s₁ s₂ k₁ k₂ : Bool) (es fs δ : List ℕ) (o₁ o₂ a b : Bool) → (s₁ && (k₁ && (fresh es δ && o₁))) ≡ a → (s₂ && (k₂ && (fresh fs (add_e es δ) && o₂))) ≡ b
      → ((s₁ && s₂) && ((k₁ && k₂) && (fresh (es ++ fs) δ && (o₁ && o₂)))) ≡ (a && b)
  two s₁ s₂ k₁ k₂ es fs δ o₁ o₂ a b h k = rw fresh-append (halves s₁ s₂ k₁ k₂ (fresh es δ) (fresh fs (add_e es δ)) o₁ o₂ ∙ rw (h, k))

  mutual
    unfolding fine_s fine_f fine_b fine_k fine_c expand_s expand_f expand expand_k expand_c shape_s shape_f shape_b shape_k shape_c kinds_s kinds_f kinds_b kinds_k kinds_c evals_s evals_f evals_b evals_k evals_c ok_s ok_f ok_b ok_k ok_c done_b done_s done_k done_c evals_opt fresh

    four_s : (s : Stmt Range) (p : Place) (ρ δ : List ℕ) → (shape_s (expand_s s drop) p && (kinds_s (expand_s s keep_all) xs && (fresh (evals_s (expand_s s keep_all)) δ && ok_s (expand_s s drop) xs ρ))) ≡ fine_s xs drop s p ρ δ
    four_s (stmt a b f) p ρ δ = four_f f p ρ δ

    four_f : (f : Form Range) (p : Place) (ρ δ : List ℕ) → (shape_f (expand_f f drop) p && (kinds_f (expand_f f keep_all) xs && (fresh (evals_f (expand_f f keep_all)) δ && ok_f (expand_f f drop) xs ρ))) ≡ fine_f xs drop f p ρ δ
    four_f (emit r) p ρ δ = rw live_all (four_e (in_range r) ρ δ)
    four_f (block b) p ρ δ = four_b b p ρ δ
    four_f (branch c a b) p ρ δ =
        front (shape_b (expand a drop) p && shape_b (expand b drop) p) (kinds_b (expand a keep_all) xs && kinds_b (expand b keep_all) xs) (fresh (evals_b (expand a keep_all) ++ evals_b (expand b keep_all)) δ) (vis (standing xs) ρ c) (ok_b (expand a drop) xs ρ && ok_b (expand b drop) xs ρ)
        ∙ ap (vis (standing xs) ρ c &&◌)
        (two (shape_b (expand a drop) p) (shape_b (expand b drop) p) (kinds_b (expand a keep_all) xs) (kinds_b (expand b keep_all) xs) (evals_b (expand a keep_all)) (evals_b (expand b keep_all)) δ (ok_b (expand a drop) xs ρ) (ok_b (expand b drop) xs ρ) (fine_b xs drop a p ρ δ) (fine_b xs drop b p ρ (done_b a δ)) (four_b a p ρ δ) (four_b b p ρ (done_b a δ)))
    four_f (switch c ks) p ρ δ =
        front (shape_c (expand_c ks drop) (in_switch p)) (kinds_c (expand_c ks keep_all) xs) (fresh (evals_c (expand_c ks keep_all)) δ) (vis (standing xs) ρ c) (ok_c (expand_c ks drop) xs ρ)
        ∙ ap (vis (standing xs) ρ c &&◌) (four_c ks (in_switch p) ρ δ)
    four_f (loop a b x) p ρ δ =
        two (shape_b (expand a drop) (in_loop p)) (shape_b (expand b drop) in_continuing) (kinds_b (expand a keep_all) xs) (kinds_b (expand b keep_all) xs) (evals_b (expand a keep_all)) (evals_b (expand b keep_all)) δ (ok_b (expand a drop) xs ρ) (ok_b (expand b drop) xs (cont_b (expand a drop) ρ) && opt_vis (standing xs) (top_b (expand b drop) (cont_b (expand a drop) ρ)) x)
        (fine_b xs drop a (in_loop p) ρ δ) (fine_b xs drop b in_continuing (cont_b (expand a drop) ρ) (done_b a δ) && opt_vis (standing xs) (top_b (expand b drop) (cont_b (expand a drop) ρ)) x)
        (four_b a (in_loop p) ρ δ)
        (behind (shape_b (expand b drop) in_continuing) (kinds_b (expand b keep_all) xs) (fresh (evals_b (expand b keep_all)) (done_b a δ)) (ok_b (expand b drop) xs (cont_b (expand a drop) ρ)) (opt_vis (standing xs) (top_b (expand b drop) (cont_b (expand a drop) ρ)) x)
        ∙ ap (◌&& opt_vis (standing xs) (top_b (expand b drop) (cont_b (expand a drop) ρ)) x) (four_b b in_continuing (cont_b (expand a drop) ρ) (done_b a δ)))
    four_f break p ρ δ = and_right p.breaks
    four_f continue p ρ δ = and_right p.continues
    four_f (return x) p ρ δ = refl
    four_f kill p ρ δ = refl
    four_f (call f ys r) p ρ δ = turned (call_result xs f r) (fresh (evals_opt r) δ) (all_vis (standing xs) ρ ys)
    four_f (effect k cs) p ρ δ = turned (effect_result xs k (result_of cs)) (fresh (evals_opt (result_of cs)) δ) (all_vis (standing xs) ρ (ops_of cs))

    four_b : (b : Block Range) (p : Place) (ρ δ : List ℕ) → (shape_b (expand b drop) p && (kinds_b (expand b keep_all) xs && (fresh (evals_b (expand b keep_all)) δ && ok_b (expand b drop) xs ρ))) ≡ fine_b xs drop b p ρ δ
    four_b end p ρ δ = refl
    four_b (s then b) p ρ δ =
        two (shape_s (expand_s s drop) p) (shape_b (expand b drop) p) (kinds_s (expand_s s keep_all) xs) (kinds_b (expand b keep_all) xs) (evals_s (expand_s s keep_all)) (evals_b (expand b keep_all)) δ (ok_s (expand_s s drop) xs ρ) (ok_b (expand b drop) xs (add_s (expand_s s drop) ρ))
        (fine_s xs drop s p ρ δ) (fine_b xs drop b p (add_s (expand_s s drop) ρ) (done_s s δ)) (four_s s p ρ δ) (four_b b p (add_s (expand_s s drop) ρ) (done_s s δ))

    four_k : (k : Case Range) (p : Place) (ρ δ : List ℕ) → (shape_k (expand_k k drop) p && (kinds_k (expand_k k keep_all) xs && (fresh (evals_k (expand_k k keep_all)) δ && ok_k (expand_k k drop) xs ρ))) ≡ fine_k xs drop k p ρ δ
    four_k (case v b f) p ρ δ = four_b b p ρ δ

    four_c : (ks : Cases Range) (p : Place) (ρ δ : List ℕ) → (shape_c (expand_c ks drop) p && (kinds_c (expand_c ks keep_all) xs && (fresh (evals_c (expand_c ks keep_all)) δ && ok_c (expand_c ks drop) xs ρ))) ≡ fine_c xs drop ks p ρ δ
    four_c nomore p ρ δ = refl
    four_c (k also ks) p ρ δ =
        two (shape_k (expand_k k drop) p) (shape_c (expand_c ks drop) p) (kinds_k (expand_k k keep_all) xs) (kinds_c (expand_c ks keep_all) xs) (evals_k (expand_k k keep_all)) (evals_c (expand_c ks keep_all)) δ (ok_k (expand_k k drop) xs ρ) (ok_c (expand_c ks drop) xs ρ)
        (fine_k xs drop k p ρ δ) (fine_c xs drop ks p ρ (done_k k δ)) (four_k k p ρ δ) (four_c ks p ρ (done_k k δ))

  -- THEOREM: the test in the order of the text is the model's
  pub restated : (b : Block Range) → scoped_as (expand b keep_all) (expand b drop) xs ≡ fine_b xs drop b in_body [] []
  unfolding scoped_as
  restated b = rw fresh-distinct (four_b b in_body [] [])
