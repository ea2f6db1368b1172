-- The rest of the Scope paragraph through agreement: places, kinds and single evaluation of the body carried.
-- Single evaluation is where it matters which expressions may share a record: a map that is one to one on what the body evaluates takes distinct numbers to distinct ones.
use Rattle.std.specs.Prelude.{ℕ, ◌≡◌, ◌&&◌, eqb, get_or}
use Rattle.std.proofs.Math.Path.{refl}
use Rattle.std.proofs.Common.{ap, ap₂}
use Rattle.std.proofs.Math.Logic.{⊎_elim}
use mathlib.Core.List.{List, [], ◌∷◌, ◌++◌, map}
use Rattle.std.proofs.Math.Option.{Option, none, some}
use borrow.Author.Tests.{eqb-true, eq-eqb}
use Rattle.theory_lists.specs.Booleans.{Yes, and_later, and_map, or_l, or_r, or_cases, not_map}
use Rattle.model.specs.Outcome.{Cells}
use Rattle.model.specs.Tree.{stmt, emit, block, branch, switch, loop, break, continue, return, kill, call, effect, end, ◌then◌, case, nomore, ◌also◌}
use Rattle.model.specs.Operands.{result_of, function_of, emitted_kind, kind_at}
use Rattle.model.specs.Initial.{Mem, here, there}
use Rattle.model.specs.Scope.{XStmt, XForm, XBlock, XCase, XCases, Place, in_switch, in_loop, in_continuing, shape_s, shape_f, shape_b, shape_k, shape_c, emitted, is_of, call_result, effect_result, kinds_s, kinds_f, kinds_b, kinds_k, kinds_c, evals_opt, evals_s, evals_f, evals_b, evals_k, evals_c, has, distinct}
use Rattle.theory_image.specs.Members.{mem_left, mem_right}
use Rattle.theory_walks.specs.Members.{Each}
use Rattle.theory_walks.specs.Agreement.{Maps, carry_opt, carry_s, carry_f, carry_b, carry_k, carry_c}
use Rattle.theory_walks.proofs.AgreementProof.{result_carry}

module _ (μ : Maps) (f : ℕ → ℕ) where
  -- ---- places
  mutual
    unfolding shape_s carry_s

    shape_s_carry : (s : XStmt) (p : Place) → shape_s (carry_s s μ f) p ≡ shape_s s p
    shape_s_carry (stmt a b g) p = shape_f_carry g p

    shape_f_carry : (g : XForm) (p : Place) → shape_f (carry_f g μ f) p ≡ shape_f g p
    shape_f_carry (emit es) p = refl
    shape_f_carry (block b) p = shape_b_carry b p
    shape_f_carry (branch c a b) p = ap₂ ◌&&◌ (shape_b_carry a p) (shape_b_carry b p)
    shape_f_carry (switch c ks) p = shape_c_carry ks (in_switch p)
    shape_f_carry (loop a b x) p = ap₂ ◌&&◌ (shape_b_carry a (in_loop p)) (shape_b_carry b in_continuing)
    shape_f_carry break p = refl
    shape_f_carry continue p = refl
    shape_f_carry (return x) p = refl
    shape_f_carry kill p = refl
    shape_f_carry (call h ys r) p = refl
    shape_f_carry (effect k ws) p = refl

    pub shape_b_carry : (b : XBlock) (p : Place) → shape_b (carry_b b μ f) p ≡ shape_b b p
    shape_b_carry end p = refl
    shape_b_carry (s then b) p = ap₂ ◌&&◌ (shape_s_carry s p) (shape_b_carry b p)

    shape_k_carry : (k : XCase) (p : Place) → shape_k (carry_k k μ f) p ≡ shape_k k p
    shape_k_carry (case v b t) p = shape_b_carry b p

    shape_c_carry : (ks : XCases) (p : Place) → shape_c (carry_c ks μ f) p ≡ shape_c ks p
    shape_c_carry nomore p = refl
    shape_c_carry (k also ks) p = ap₂ ◌&&◌ (shape_k_carry k p) (shape_c_carry ks p)

  -- ---- what is evaluated
  map-append : (s t : List ℕ) → map f (s ++ t) ≡ map f s ++ map f t
  map-append [] t = refl
  map-append (x ∷ s) t = ap (f x ∷◌) (map-append s t)

  evals_opt-carry : (r : Option ℕ) → evals_opt (carry_opt f r) ≡ map f (evals_opt r)
  unfolding evals_opt carry_opt
  evals_opt-carry none = refl
  evals_opt-carry (some e) = refl

  mutual
    unfolding evals_s carry_s

    evals_s_carry : (s : XStmt) → evals_s (carry_s s μ f) ≡ map f (evals_s s)
    evals_s_carry (stmt a b g) = evals_f_carry g

    evals_f_carry : (g : XForm) → evals_f (carry_f g μ f) ≡ map f (evals_f g)
    evals_f_carry (emit es) = refl
    evals_f_carry (block b) = evals_b_carry b
    evals_f_carry (branch c a b) = rw (evals_b_carry a, evals_b_carry b, map-append)
    evals_f_carry (switch c ks) = evals_c_carry ks
    evals_f_carry (loop a b x) = rw (evals_b_carry a, evals_b_carry b, map-append)
    evals_f_carry break = refl
    evals_f_carry continue = refl
    evals_f_carry (return x) = refl
    evals_f_carry kill = refl
    evals_f_carry (call h ys r) = evals_opt-carry r
    evals_f_carry (effect k ws) = rw (result_carry μ f ws) (evals_opt-carry (result_of ws))

    pub evals_b_carry : (b : XBlock) → evals_b (carry_b b μ f) ≡ map f (evals_b b)
    evals_b_carry end = refl
    evals_b_carry (s then b) = rw (evals_s_carry s, evals_b_carry b, map-append)

    evals_k_carry : (k : XCase) → evals_k (carry_k k μ f) ≡ map f (evals_k k)
    evals_k_carry (case v b t) = evals_b_carry b

    evals_c_carry : (ks : XCases) → evals_c (carry_c ks μ f) ≡ map f (evals_c ks)
    evals_c_carry nomore = refl
    evals_c_carry (k also ks) = rw (evals_k_carry k, evals_c_carry ks, map-append)

  -- f is one to one on the list
  abbrev pub Apart : List ℕ → Type 0
  Apart es = (e d : ℕ) → Mem e es → Mem d es → f e ≡ f d → e ≡ d

  has-carry : (es : List ℕ) (e : ℕ) → ((d : ℕ) → Mem d es → f e ≡ f d → e ≡ d) → Yes (has (map f es) (f e)) → Yes (has es e)
  unfolding has
  has-carry [] e a h = h
  has-carry (x ∷ es) e a h =
      ⊎_elim (λ q. or_l (eqb e x) _ (eq-eqb e x (a x here (eqb-true (f e) (f x) q)))) (λ q. or_r (eqb e x) _ (has-carry es e (λ d m. a d (there m)) q)) (or_cases (eqb (f e) (f x)) _ h)

  pub distinct-carry : (es : List ℕ) → Apart es → Yes (distinct es) → Yes (distinct (map f es))
  unfolding distinct
  distinct-carry [] a h = refl
  distinct-carry (x ∷ es) a h =
      and_map (not_map (has (map f es) (f x)) (has es x) (has-carry es x (λ d m. a x d here (there m))))
      (distinct-carry es (λ e d m n. a e d (there m) (there n))) h

  -- ---- kinds, over two tables of expressions
  module _ (xs xs' : List Cells) where
    pub record Kinds (e : ℕ) : Type 0 where
      pub kind : kind_at xs' (f e) ≡ kind_at xs e
      pub callee : function_of (get_or xs' (f e) []) ≡ carry_opt μ.function (function_of (get_or xs e []))

    emitted-carry : (es : List ℕ) → Each Kinds es → Yes (emitted xs es) → Yes (emitted xs' (map f es))
    unfolding emitted
    emitted-carry [] a h = refl
    emitted-carry (e ∷ es) a h = rw (a e here).kind (and_later (emitted_kind (kind_at xs e)) _ _ (emitted-carry es (λ d m. a d (there m))) h)

    is_of_carry : (g : Option ℕ) (h : ℕ) → Yes (is_of g h) → Yes (is_of (carry_opt μ.function g) (μ.function h))
    unfolding is_of carry_opt
    is_of_carry none h q = q
    is_of_carry (some g) h q = eq-eqb _ _ (ap μ.function (eqb-true g h q))

    call-carry : (h : ℕ) (r : Option ℕ) → Each Kinds (evals_opt r) → Yes (call_result xs h r) → Yes (call_result xs' (μ.function h) (carry_opt f r))
    unfolding call_result carry_opt evals_opt
    call-carry h none a q = refl
    call-carry h (some e) a q = rw ((a e here).kind, (a e here).callee) (and_later (eqb (kind_at xs e) 23) _ _ (is_of_carry (function_of (get_or xs e [])) h) q)

    effect_carry : (k : ℕ) (r : Option ℕ) → Each Kinds (evals_opt r) → Yes (effect_result xs k r) → Yes (effect_result xs' k (carry_opt f r))
    unfolding effect_result carry_opt evals_opt
    effect_carry k none a q = refl
    effect_carry k (some e) a q = rw (a e here).kind q

    mutual
      unfolding kinds_s carry_s evals_s

      kinds_s_carry : (s : XStmt) → Each Kinds (evals_s s) → Yes (kinds_s s xs) → Yes (kinds_s (carry_s s μ f) xs')
      kinds_s_carry (stmt p q g) a h = kinds_f_carry g a h

      kinds_f_carry : (g : XForm) → Each Kinds (evals_f g) → Yes (kinds_f g xs) → Yes (kinds_f (carry_f g μ f) xs')
      kinds_f_carry (emit es) a h = emitted-carry es a h
      kinds_f_carry (block b) a h = kinds_b_carry b a h
      kinds_f_carry (branch c p q) a h = and_map (λ t. kinds_b_carry p (λ d m. a d (mem_left (evals_b q) m)) t) (λ t. kinds_b_carry q (λ d m. a d (mem_right (evals_b p) m)) t) h
      kinds_f_carry (switch c ks) a h = kinds_c_carry ks a h
      kinds_f_carry (loop p q x) a h = and_map (λ t. kinds_b_carry p (λ d m. a d (mem_left (evals_b q) m)) t) (λ t. kinds_b_carry q (λ d m. a d (mem_right (evals_b p) m)) t) h
      kinds_f_carry break a h = refl
      kinds_f_carry continue a h = refl
      kinds_f_carry (return x) a h = refl
      kinds_f_carry kill a h = refl
      kinds_f_carry (call e ys r) a h = call-carry e r a h
      kinds_f_carry (effect k ws) a h = rw (result_carry μ f ws) (effect_carry k (result_of ws) a h)

      pub kinds_b_carry : (b : XBlock) → Each Kinds (evals_b b) → Yes (kinds_b b xs) → Yes (kinds_b (carry_b b μ f) xs')
      kinds_b_carry end a h = refl
      kinds_b_carry (s then b) a h = and_map (λ t. kinds_s_carry s (λ d m. a d (mem_left (evals_b b) m)) t) (λ t. kinds_b_carry b (λ d m. a d (mem_right (evals_s s) m)) t) h

      kinds_k_carry : (k : XCase) → Each Kinds (evals_k k) → Yes (kinds_k k xs) → Yes (kinds_k (carry_k k μ f) xs')
      kinds_k_carry (case v b t) a h = kinds_b_carry b a h

      kinds_c_carry : (ks : XCases) → Each Kinds (evals_c ks) → Yes (kinds_c ks xs) → Yes (kinds_c (carry_c ks μ f) xs')
      kinds_c_carry nomore a h = refl
      kinds_c_carry (k also ks) a h = and_map (λ t. kinds_k_carry k (λ d m. a d (mem_left (evals_c ks) m)) t) (λ t. kinds_c_carry ks (λ d m. a d (mem_right (evals_k k) m)) t) h
