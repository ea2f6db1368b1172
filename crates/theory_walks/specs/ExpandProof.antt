-- What holds of a body with its initialiser expressions dropped because it holds of the body with nothing dropped: its kinds, and that nothing is evaluated twice. And what it evaluates: emitted expressions that were not dropped, and results.
use Rattle.std.specs.Prelude.{ℕ, ◌≡◌, Bool, not, eqb}
use Rattle.std.proofs.Math.Path.{refl}
use Rattle.std.proofs.Common.{⊎_elim, eqb-true}
use Rattle.std.proofs.Math.Bool.{true, false}
use mathlib.Core.List.{List, [], ◌∷◌, ◌++◌}
use Rattle.std.proofs.Math.Option.{Option, none, some}
use Rattle.theory_lists.specs.Booleans.{Yes, and_first, and_second, and-true, or_l, or_r, and_map, or_cases, not_map}
use Rattle.model.specs.Outcome.{Cells}
use Rattle.model.specs.Tree.{Stmt, stmt, Form, emit, block, branch, switch, loop, break, continue, return, kill, call, effect, Block, end, ◌then◌, Case, case, Cases, nomore, ◌also◌, Range}
use Rattle.model.specs.Operands.{result_of, result_kind, emitted_kind, kind_at}
use Rattle.model.specs.Scope.{in_range, live, expand_s, expand_f, expand, expand_k, expand_c, emitted, call_result, effect_result, kinds_s, kinds_f, kinds_b, kinds_k, kinds_c, evals_opt, evals_s, evals_f, evals_b, evals_k, evals_c, has, distinct}
use Rattle.theory_walks.specs.Members.{Each, each_none, each_append, each_cons}

-- ---- a part of a list, in the same order
pub data Part : List ℕ → List ℕ → Type 0 where
  none_left : Part [] []
  keep : {x : ℕ} {xs ys : List ℕ} → Part xs ys → Part (x ∷ xs) (x ∷ ys)
  skip : {y : ℕ} {xs ys : List ℕ} → Part xs ys → Part xs (y ∷ ys)

part-all : (xs : List ℕ) → Part xs xs
part-all [] = none_left
part-all (x ∷ xs) = keep (part-all xs)

part-append : {xs ys vs ws : List ℕ} → Part xs ys → Part vs ws → Part (xs ++ vs) (ys ++ ws)
part-append none_left q = q
part-append (keep p) q = keep (part-append p q)
part-append (skip p) q = skip (part-append p q)

part-has : {xs ys : List ℕ} → Part xs ys → (e : ℕ) → Yes (has xs e) → Yes (has ys e)
unfolding has
part-has none_left e h = h
part-has (keep {x = x} p) e h = ⊎_elim (or_l (eqb e x) _) (λ q. or_r (eqb e x) _ (part-has p e q)) (or_cases (eqb e x) _ h)
part-has (skip {y = y} p) e h = or_r (eqb e y) _ (part-has p e h)

pub part-distinct : {xs ys : List ℕ} → Part xs ys → Yes (distinct ys) → Yes (distinct xs)
unfolding distinct
part-distinct none_left h = h
part-distinct (keep {x = x} {xs = xs} {ys = ys} p) h = and_map (not_map (has xs x) (has ys x) (part-has p x)) (part-distinct p) h
part-distinct (skip {y = y} {ys = ys} p) h = part-distinct p (and_second (not (has ys y)) _ h)

-- ---- what is live
module _ (drop : ℕ → Bool) where
  abbrev all : ℕ → Bool
  all = λ e. false

  live-part : (es : List ℕ) → Part (live es drop) (live es all)
  unfolding live
  live-part [] = none_left
  live-part (e ∷ es) = go (drop e) (live-part es)
    where
      go : (t : Bool) → Part (live es drop) (live es all) → Part (elim t [ true ↦ live es drop | false ↦ e ∷ live es drop ]) (e ∷ live es all)
      go true ih = skip ih
      go false ih = keep ih

  mutual
    unfolding expand_s evals_s

    part_s : (s : Stmt Range) → Part (evals_s (expand_s s drop)) (evals_s (expand_s s all))
    part_s (stmt a b f) = part_f f

    part_f : (f : Form Range) → Part (evals_f (expand_f f drop)) (evals_f (expand_f f all))
    part_f (emit r) = live-part (in_range r)
    part_f (block b) = part_b b
    part_f (branch c a b) = part-append (part_b a) (part_b b)
    part_f (switch c ks) = part_c ks
    part_f (loop a b x) = part-append (part_b a) (part_b b)
    part_f break = none_left
    part_f continue = none_left
    part_f (return x) = none_left
    part_f kill = none_left
    part_f (call f xs r) = part-all (evals_opt r)
    part_f (effect k cs) = part-all (evals_opt (result_of cs))

    pub part_b : (b : Block Range) → Part (evals_b (expand b drop)) (evals_b (expand b all))
    part_b end = none_left
    part_b (s then b) = part-append (part_s s) (part_b b)

    part_k : (k : Case Range) → Part (evals_k (expand_k k drop)) (evals_k (expand_k k all))
    part_k (case v b f) = part_b b

    part_c : (ks : Cases Range) → Part (evals_c (expand_c ks drop)) (evals_c (expand_c ks all))
    part_c nomore = none_left
    part_c (k also ks) = part-append (part_k k) (part_c ks)

  module _ (xs : List Cells) where
    live_kinds : (es : List ℕ) → Yes (emitted xs (live es all)) → Yes (emitted xs (live es drop))
    unfolding live emitted
    live_kinds [] h = refl
    live_kinds (e ∷ es) h = go (drop e) (live_kinds es (and_second (emitted_kind (kind_at xs e)) _ h))
      where
        go : (t : Bool) → Yes (emitted xs (live es drop)) → Yes (emitted xs (elim t [ true ↦ live es drop | false ↦ e ∷ live es drop ]))
        go true ih = ih
        go false ih = and-true (and_first (emitted_kind (kind_at xs e)) _ h) ih

    mutual
      unfolding expand_s kinds_s

      kinds_s_drop : (s : Stmt Range) → Yes (kinds_s (expand_s s all) xs) → Yes (kinds_s (expand_s s drop) xs)
      kinds_s_drop (stmt a b f) h = kinds_f_drop f h

      kinds_f_drop : (f : Form Range) → Yes (kinds_f (expand_f f all) xs) → Yes (kinds_f (expand_f f drop) xs)
      kinds_f_drop (emit r) h = live_kinds (in_range r) h
      kinds_f_drop (block b) h = kinds_b_drop b h
      kinds_f_drop (branch c a b) h = and_map (λ q. kinds_b_drop a q) (λ q. kinds_b_drop b q) h
      kinds_f_drop (switch c ks) h = kinds_c_drop ks h
      kinds_f_drop (loop a b x) h = and_map (λ q. kinds_b_drop a q) (λ q. kinds_b_drop b q) h
      kinds_f_drop break h = refl
      kinds_f_drop continue h = refl
      kinds_f_drop (return x) h = refl
      kinds_f_drop kill h = refl
      kinds_f_drop (call f ys r) h = h
      kinds_f_drop (effect k cs) h = h

      pub kinds_b_drop : (b : Block Range) → Yes (kinds_b (expand b all) xs) → Yes (kinds_b (expand b drop) xs)
      kinds_b_drop end h = refl
      kinds_b_drop (s then b) h = and_map (λ q. kinds_s_drop s q) (λ q. kinds_b_drop b q) h

      kinds_k_drop : (k : Case Range) → Yes (kinds_k (expand_k k all) xs) → Yes (kinds_k (expand_k k drop) xs)
      kinds_k_drop (case v b f) h = kinds_b_drop b h

      kinds_c_drop : (ks : Cases Range) → Yes (kinds_c (expand_c ks all) xs) → Yes (kinds_c (expand_c ks drop) xs)
      kinds_c_drop nomore h = refl
      kinds_c_drop (k also ks) h = and_map (λ q. kinds_k_drop k q) (λ q. kinds_c_drop ks q) h

    -- ---- what is evaluated: of an emitted kind and not dropped, or of a result kind
    pub data Evaluated (e : ℕ) : Type 0 where
      emits : emitted_kind (kind_at xs e) ≡ true → drop e ≡ false → Evaluated e
      results : result_kind (kind_at xs e) ≡ true → Evaluated e

    live_evaluated : (es : List ℕ) → Yes (emitted xs (live es drop)) → Each Evaluated (live es drop)
    unfolding live emitted
    live_evaluated [] h = each_none Evaluated
    live_evaluated (e ∷ es) h = go (drop e) refl (live_evaluated es) h
      where
        go : (t : Bool) → drop e ≡ t → (Yes (emitted xs (live es drop)) → Each Evaluated (live es drop))
            → Yes (emitted xs (elim t [ true ↦ live es drop | false ↦ e ∷ live es drop ])) → Each Evaluated (elim t [ true ↦ live es drop | false ↦ e ∷ live es drop ])
        go true q ih h = ih h
        go false q ih h = each_cons (emits (and_first (emitted_kind (kind_at xs e)) _ h) q) (ih (and_second (emitted_kind (kind_at xs e)) _ h))

    call_evaluated : (f : ℕ) (r : Option ℕ) → Yes (call_result xs f r) → Each Evaluated (evals_opt r)
    unfolding call_result evals_opt result_kind
    call_evaluated f none h = each_none Evaluated
    call_evaluated f (some e) h = each_cons (results (rw (eqb-true (kind_at xs e) 23 (and_first (eqb (kind_at xs e) 23) _ h)))) (each_none Evaluated)

    effect_evaluated : (k : ℕ) (r : Option ℕ) → Yes (effect_result xs k r) → Each Evaluated (evals_opt r)
    unfolding effect_result evals_opt result_kind
    effect_evaluated k none h = each_none Evaluated
    effect_evaluated k (some e) h = each_cons (results (go (eqb k 14) h)) (each_none Evaluated)
      where
        go : (t : Bool) → Yes (eqb (kind_at xs e) (elim t [ true ↦ 25 | false ↦ 24 ])) → result_kind (kind_at xs e) ≡ true
        go true q = rw (eqb-true (kind_at xs e) 25 q)
        go false q = rw (eqb-true (kind_at xs e) 24 q)

    mutual
      unfolding expand_s kinds_s evals_s

      evaluated_s : (s : Stmt Range) → Yes (kinds_s (expand_s s drop) xs) → Each Evaluated (evals_s (expand_s s drop))
      evaluated_s (stmt a b f) h = evaluated_f f h

      evaluated_f : (f : Form Range) → Yes (kinds_f (expand_f f drop) xs) → Each Evaluated (evals_f (expand_f f drop))
      evaluated_f (emit r) h = live_evaluated (in_range r) h
      evaluated_f (block b) h = evaluated_b b h
      evaluated_f (branch c a b) h = each_append _ _ (evaluated_b a (and_first (kinds_b (expand a drop) xs) _ h)) (evaluated_b b (and_second (kinds_b (expand a drop) xs) _ h))
      evaluated_f (switch c ks) h = evaluated_c ks h
      evaluated_f (loop a b x) h = each_append _ _ (evaluated_b a (and_first (kinds_b (expand a drop) xs) _ h)) (evaluated_b b (and_second (kinds_b (expand a drop) xs) _ h))
      evaluated_f break h = each_none Evaluated
      evaluated_f continue h = each_none Evaluated
      evaluated_f (return x) h = each_none Evaluated
      evaluated_f kill h = each_none Evaluated
      evaluated_f (call f ys r) h = call_evaluated f r h
      evaluated_f (effect k cs) h = effect_evaluated k (result_of cs) h

      pub evaluated_b : (b : Block Range) → Yes (kinds_b (expand b drop) xs) → Each Evaluated (evals_b (expand b drop))
      evaluated_b end h = each_none Evaluated
      evaluated_b (s then b) h = each_append _ _ (evaluated_s s (and_first (kinds_s (expand_s s drop) xs) _ h)) (evaluated_b b (and_second (kinds_s (expand_s s drop) xs) _ h))

      evaluated_k : (k : Case Range) → Yes (kinds_k (expand_k k drop) xs) → Each Evaluated (evals_k (expand_k k drop))
      evaluated_k (case v b f) h = evaluated_b b h

      evaluated_c : (ks : Cases Range) → Yes (kinds_c (expand_c ks drop) xs) → Each Evaluated (evals_c (expand_c ks drop))
      evaluated_c nomore h = each_none Evaluated
      evaluated_c (k also ks) h = each_append _ _ (evaluated_k k (and_first (kinds_k (expand_k k drop) xs) _ h)) (evaluated_c ks (and_second (kinds_k (expand_k k drop) xs) _ h))
