-- The words up to which expressions last, and the scope that they mean: how they answer a read, and how an evaluation changes them.
use mathlib.Core.Path.{◌≡◌, refl, sym, ap, ◌∙◌, subst}
use mathlib.Core.Logic.{◌⊎◌, inl, inr}
use mathlib.Core.Bool.{Bool, true, false, ◌&&◌, ◌||◌, false≢true}
use Rattle.std.proofs.Math.Bool.{or_assoc}
use mathlib.Core.List.{List, [], ◌∷◌}
use Prim.Native.Nat.{ℕ, zero, suc, ◌+◌, ◌-◌, ◌≤◌, ◌<◌}
use native.Mathlib.Numerals.{add-one}
use native.Mathlib.Omega.{arith}
use lib.Dec.{eqb, ltb}
use lib.ListN.{length, get_or, set, length-set}
use lib.Seq.{get_or-set_same, get_or-set_other}
use borrow.Author.Tests.{eq-eqb, ne_eqb, lt-ltb, le-ltb, eqb-true, eqb-false, ltb-true, ltb-false}
use Rattle.model.specs.Outcome.{Cells}
use Rattle.model.specs.Table.{Row, EXPR_KIND, expressions, expression_row}
use Rattle.model.specs.Carry.{Lays, lays_next}
use Rattle.model.specs.Operands.{ops_of, NO_KIND, kind, standing_kind, kind_at, standing, ops, emitted_kind}
use Rattle.model.specs.Scope.{has, vis, all_vis, add_e, live, up_from, in_range}
use Rattle.intake_statements.specs.Fine.{one_e, next_e, fine_e}
use Rattle.intake_statements.specs.Tape.{cells_from, cells_in, record_of, table_from, exprs_of, Exprs, marks}
use Rattle.intake_statements.specs.Lasts.{Scope, Kept, Tells, visible_at, all_seen, FoundE, FoundR}
use Rattle.intake_statements.proofs.Restated.{live-drop, live-keep, next-drop, next-keep}
use Rattle.intake_statements.proofs.Leaves.{cells_next}

-- ---- either equal or not
pub either : (x e : ℕ) → (x ≡ e) ⊎ (x ≡ e → ⊥)
either x e = go (eqb x e) refl
  where
    go : (b : Bool) → eqb x e ≡ b → (x ≡ e) ⊎ (x ≡ e → ⊥)
    go true h = inl (eqb-true x e h)
    go false h = inr (eqb-false x e h)

pub which : (b : Bool) → (b ≡ true) ⊎ (b ≡ false)
which true = inl refl
which false = inr refl

pub absurd_bool : {P : Type 0} {b : Bool} → b ≡ true → b ≡ false → P
absurd_bool h k = absurd (false≢true (sym k ∙ h))

-- ---- one of a list
pub has_here : (x : ℕ) (ρ : List ℕ) (e : ℕ) → x ≡ e → has (e ∷ ρ) x ≡ true
unfolding has
has_here x ρ e h = rw (eq-eqb x e h)

pub has_there : (x : ℕ) (ρ : List ℕ) (e : ℕ) → (x ≡ e → ⊥) → has (e ∷ ρ) x ≡ has ρ x
unfolding has
has_there x ρ e h = rw (ne_eqb x e h)

vis-has : (f : ℕ → Bool) (ρ : List ℕ) (e : ℕ) → vis f ρ e ≡ (has ρ e || f e)
unfolding vis has
vis-has f [] e = refl
vis-has f (x ∷ ρ) e = ap (eqb e x ||◌) (vis-has f ρ e) ∙ sym (or_assoc (eqb e x) (has ρ e) (f e))

-- ---- the table of expressions
module _ (ws ts st : List ℕ) where
  table_in : (n e₀ e : ℕ) → e < n → get_or (table_from n ws ts st e₀) e [] ≡ record_of ws ts st (e₀ + e)
  unfolding table_from
  table_in zero e₀ e h = absurd (omega arith)
  table_in (suc n) e₀ zero h = let z : e₀ + 0 ≡ e₀ = omega arith in rw z
  table_in (suc n) e₀ (suc e) h = let z : e₀ + suc e ≡ suc e₀ + e = omega arith in rw z (table_in n (suc e₀) e (omega arith))

  table-out : (n e₀ e : ℕ) → n ≤ e → get_or (table_from n ws ts st e₀) e [] ≡ []
  unfolding table_from
  table-out zero e₀ e h = refl
  table-out (suc n) e₀ zero h = absurd (omega arith)
  table-out (suc n) e₀ (suc e) h = table-out n (suc e₀) e (omega arith)

  module _ (count : ℕ) where
    pub expr_in : (e : ℕ) → e < count → get_or (exprs_of ws ts st count) e [] ≡ record_of ws ts st e
    expr_in e h = let z : 0 + e ≡ e = omega arith in rw z at (table_in count 0 e h)

    pub expr_out : (e : ℕ) → count ≤ e → get_or (exprs_of ws ts st count) e [] ≡ []
    expr_out e h = table-out count 0 e h

    module _ (x : Exprs ws ts st count) where
      -- a record begins with its kind
      pub record_begins : (e : ℕ) → e < count → record_of ws ts st e ≡ (get_or ts (get_or st e 0) 0, get_or ws (get_or st e 0) 0) ∷ cells_from (get_or st (suc e) 0 - (get_or st e 0 + 1)) ws ts (get_or st e 0 + 1)
      unfolding record_of cells_in
      record_begins e h = cells_next ws ts (get_or st e 0) (get_or st (suc e) 0) (x.placed.rising e h)

      lays_class : {s t w : ℕ} {ss : Row} {cs : Cells} → Lays (s ∷ ss) ((t, w) ∷ cs) → t ≡ s
      lays_class (lays_next e l) = refl

      pub kind_tag : (e : ℕ) → e < count → get_or ts (get_or st e 0) 0 ≡ EXPR_KIND
      unfolding expression_row
      kind_tag e h = lays_class (rw (record_begins e h) at (x.lays e h))

      pub kind_in : (e : ℕ) → e < count → kind_at (exprs_of ws ts st count) e ≡ get_or ws (get_or st e 0) 0
      unfolding kind_at kind
      kind_in e h = ap kind (expr_in e h ∙ record_begins e h) ∙ rw (kind, eq-eqb (get_or ts (get_or st e 0) 0) EXPR_KIND (kind_tag e h))

      pub standing_in : (e : ℕ) → e < count → standing (exprs_of ws ts st count) e ≡ standing_kind (get_or ws (get_or st e 0) 0)
      unfolding standing
      standing_in e h = ap standing_kind (kind_in e h)

    pub kind-out : (e : ℕ) → count ≤ e → kind_at (exprs_of ws ts st count) e ≡ NO_KIND
    unfolding kind_at kind
    kind-out e h = ap kind (expr_out e h)

    pub standing-out : (e : ℕ) → count ≤ e → standing (exprs_of ws ts st count) e ≡ false
    unfolding standing standing_kind expressions
    standing-out e h = ap standing_kind (kind-out e h)

    -- ---- what is seen is what is in scope
    module _ (x : Exprs ws ts st count) (u ρ δ : List ℕ) (at k : ℕ) (sc : Scope count at k ρ δ u) (h : at < k) where
      pub visible_is : (e : ℕ) → visible_at ws st u count at e ≡ vis (standing (exprs_of ws ts st count)) ρ e
      unfolding visible_at
      visible_is e = go (ltb e count) refl (has ρ e) refl ∙ sym (vis-has (standing (exprs_of ws ts st count)) ρ e)
        where
          inner : e < count → (b : Bool) → has ρ e ≡ b → elim (ltb at (get_or u e 0)) [ true ↦ true | false ↦ standing_kind (get_or ws (get_or st e 0) 0) ] ≡ (has ρ e || standing (exprs_of ws ts st count) e)
          inner i true g = rw (g, lt-ltb at (get_or u e 0) (omega (arith, sc.inside e g)))
          inner i false g = rw (g, le-ltb at (get_or u e 0) (sc.outside e i g)) (sym (standing_in x e i))

          go : (b : Bool) → ltb e count ≡ b → (c : Bool) → has ρ e ≡ c → visible_at ws st u count at e ≡ (has ρ e || standing (exprs_of ws ts st count) e)
          go true i c g = rw (visible_at, i) (inner (ltb-true e count i) c g)
          go false i true g = absurd (omega (arith, sc.known e g, ltb-false e count i))
          go false i false g = rw (visible_at, i, g) (sym (standing-out e (ltb-false e count i)))

      pub seen_is : (es : List ℕ) → all_seen es (visible_at ws st u count at) ≡ all_vis (standing (exprs_of ws ts st count)) ρ es
      unfolding all_seen all_vis
      seen_is [] = refl
      seen_is (e ∷ es) = rw (visible_is e, seen_is es)

-- ---- later, and for a shorter time
pub scope_on : {count q k : ℕ} {ρ δ u : List ℕ} (q' : ℕ) → q ≤ q' → Scope count q k ρ δ u → Scope count q' k ρ δ u
scope_on q' h s = record {
  long = s.long;
  later = omega (arith, s.later);
  known = s.known;
  inside = s.inside;
  outside = λ e i g. omega (arith, s.outside e i g);
  done = s.done;
}

pub scope_less : {count q k : ℕ} {ρ δ u : List ℕ} (k' : ℕ) → k' ≤ k → Scope count q k ρ δ u → Scope count q k' ρ δ u
scope_less k' h s = record {
  long = s.long;
  later = s.later;
  known = s.known;
  inside = λ e g. omega (arith, s.inside e g);
  outside = s.outside;
  done = s.done;
}

pub kept-all : (k : ℕ) (u : List ℕ) → Kept k u u
kept-all k u = record { same = λ e h. refl; most = λ e h. omega arith }

pub kept_more : {k : ℕ} {u₀ u : List ℕ} (k' : ℕ) → k ≤ k' → Kept k u₀ u → Kept k' u₀ u
kept_more k' h p = record { same = p.same; most = λ e g. omega (arith, p.most e g) }

pub kept_then : {k : ℕ} {u₀ u u₁ : List ℕ} → Kept k u₀ u → Kept k u u₁ → Kept k u₀ u₁
kept_then {k} {u₀} {u} {u₁} p q = record { same = λ e h. q.same e (omega (arith, p.same e h)) ∙ p.same e h; most = λ e h. go e h (either (get_or u e 0) 0) }
  where
    go : (e : ℕ) → get_or u₀ e 0 ≡ 0 → (get_or u e 0 ≡ 0) ⊎ (get_or u e 0 ≡ 0 → ⊥) → get_or u₁ e 0 ≤ k
    go e h (inl z) = q.most e z
    go e h (inr n) = let i : 0 < get_or u e 0 = omega arith in omega (arith, q.same e i, p.most e h)

-- ---- an evaluation: e lasts up to v
module _ (u : List ℕ) (e v : ℕ) (z : get_or u e 0 ≡ 0) where
  pub kept_set : (k : ℕ) → v ≤ k → e < length u → Kept k u (set u e v)
  kept_set k h l = record { same = same; most = λ x g. most x g (either x e) }
    where
      same : (x : ℕ) → 0 < get_or u x 0 → get_or (set u e v) x 0 ≡ get_or u x 0
      same x g = get_or-set_other u e x v 0 (λ q. let w : get_or u x 0 ≡ 0 = ap (λ i. get_or u i 0) q ∙ z in omega arith)

      most : (x : ℕ) → get_or u x 0 ≡ 0 → (x ≡ e) ⊎ (x ≡ e → ⊥) → get_or (set u e v) x 0 ≤ k
      most x g (inl q) = rw q (omega (arith, get_or-set_same u e v 0 l))
      most x g (inr n) = omega (arith, get_or-set_other u e x v 0 n)

  module _ (count at k : ℕ) (ρ δ : List ℕ) (s : Scope count at k ρ δ u) (few : count ≤ 1024) (low : e < count) (h : at < k) where
    set_long : e < length u
    set_long = omega (arith, s.long)

    done_set : 0 < v → (x : ℕ) → x < count → (x ≡ e) ⊎ (x ≡ e → ⊥) → has (e ∷ δ) x ≡ ltb 0 (get_or (set u e v) x 0)
    done_set p x i (inl q) = has_here x δ e q ∙ rw q (sym (ap (ltb 0) (get_or-set_same u e v 0 set_long) ∙ lt-ltb 0 v p))
    done_set p x i (inr n) = has_there x δ e n ∙ s.done x i ∙ ap (ltb 0) (sym (get_or-set_other u e x v 0 n))

    -- it comes into scope
    pub scope_add : v ≡ k → Scope count at k (e ∷ ρ) (e ∷ δ) (set u e v)
    scope_add is = record {
      long = length-set u e v ∙ s.long;
      later = s.later;
      known = λ x g. known x g (either x e);
      inside = λ x g. inside x g (either x e);
      outside = λ x i g. outside x i g (either x e);
      done = λ x i. done_set (omega arith) x i (either x e);
    }
      where
        known : (x : ℕ) → has (e ∷ ρ) x ≡ true → (x ≡ e) ⊎ (x ≡ e → ⊥) → x < count
        known x g (inl q) = omega arith
        known x g (inr n) = s.known x (sym (has_there x ρ e n) ∙ g)

        inside : (x : ℕ) → has (e ∷ ρ) x ≡ true → (x ≡ e) ⊎ (x ≡ e → ⊥) → k ≤ get_or (set u e v) x 0
        inside x g (inl q) = rw q (omega (arith, get_or-set_same u e v 0 set_long))
        inside x g (inr n) = omega (arith, get_or-set_other u e x v 0 n, s.inside x (sym (has_there x ρ e n) ∙ g))

        outside : (x : ℕ) → x < count → has (e ∷ ρ) x ≡ false → (x ≡ e) ⊎ (x ≡ e → ⊥) → get_or (set u e v) x 0 ≤ at
        outside x i g (inl q) = absurd_bool (has_here x ρ e q) g
        outside x i g (inr n) = omega (arith, get_or-set_other u e x v 0 n, s.outside x i (sym (has_there x ρ e n) ∙ g))

    -- it does not
    pub scope_mark : v ≡ 1 → Scope count at k ρ (e ∷ δ) (set u e v)
    scope_mark is = record {
      long = length-set u e v ∙ s.long;
      later = s.later;
      known = s.known;
      inside = λ x g. inside x g (either x e);
      outside = λ x i g. outside x i g (either x e);
      done = λ x i. done_set (omega arith) x i (either x e);
    }
      where
        inside : (x : ℕ) → has ρ x ≡ true → (x ≡ e) ⊎ (x ≡ e → ⊥) → k ≤ get_or (set u e v) x 0
        inside x g (inl q) = let w : get_or u x 0 ≡ 0 = ap (λ i. get_or u i 0) q ∙ z in absurd (omega (arith, s.inside x g))
        inside x g (inr n) = omega (arith, get_or-set_other u e x v 0 n, s.inside x g)

        outside : (x : ℕ) → x < count → has ρ x ≡ false → (x ≡ e) ⊎ (x ≡ e → ⊥) → get_or (set u e v) x 0 ≤ at
        outside x i g (inl q) = rw q (omega (arith, get_or-set_same u e v 0 set_long, s.later))
        outside x i g (inr n) = omega (arith, get_or-set_other u e x v 0 n, s.outside x i g)

-- ---- a refusal
pub tells_false : {count q k : ℕ} {u₀ u : List ℕ} {ok : Bool} {ρ δ : List ℕ} → ok ≡ false → Tells count q k u₀ u false ok ρ δ
tells_false h = record { says = sym h; scope = λ g. absurd_bool g h; kept = λ g. absurd_bool g h }

-- ---- expression e of an Emit
emitted_moves : (k : ℕ) → emitted_kind k ≡ true → standing_kind k ≡ false
unfolding emitted_kind
emitted_moves k h = go (standing_kind k) refl
  where
    go : (b : Bool) → standing_kind k ≡ b → standing_kind k ≡ false
    go true q = absurd_bool h (rw (emitted_kind, q))
    go false q = q

module _ (ws ts st : List ℕ) (count : ℕ) (ini : List Bool) (e : ℕ) where
  pub marks_not : get_or ini e false ≡ false → marks ws ts st count ini e ≡ false
  unfolding marks
  marks_not h = rw (marks, h)

  pub marks_is : get_or ini e false ≡ true → emitted_kind (kind_at (exprs_of ws ts st count) e) ≡ true → marks ws ts st count ini e ≡ true
  unfolding marks standing
  marks_is h k = rw (marks, h, emitted_moves (kind_at (exprs_of ws ts st count) e) k)

pub reads-to : (ws ts st : List ℕ) (count e : ℕ) → Exprs ws ts st count → e < count → get_or st (e + 1) 0 ≤ 16384
reads-to ws ts st count e x i = rw (add-one e) (x.placed.within e i)

module _ (ws ts st : List ℕ) (ini : List Bool) (u : List ℕ) (count at keep e : ℕ) (x : Exprs ws ts st count) (h : at < keep) (i : e < count) where
  module _ (kd : ℕ) (kd-is : kd ≡ get_or ws (get_or st e 0) 0) (em : Bool) (em-is : em ≡ emitted_kind kd) where
    emitted_is : emitted_kind (kind_at (exprs_of ws ts st count) e) ≡ em
    emitted_is = ap emitted_kind (kind_in ws ts st count x e i ∙ sym kd-is) ∙ sym em-is

    pub evaluated_kind : em ≡ false → FoundE ws ts st ini count at keep e u u false
    unfolding one_e
    evaluated_kind n = record { found = λ ρ δ s. tells_false (rw (emitted_is, n)) }

    module _ (y : em ≡ true) where
      pub evaluated_twice : (get_or u e 0 ≡ 0 → ⊥) → FoundE ws ts st ini count at keep e u u false
      unfolding one_e
      evaluated_twice n = record { found = λ ρ δ s. tells_false (rw (emitted_is, y, s.done e i, lt-ltb 0 (get_or u e 0) (omega arith))) }

      module _ (z : get_or u e 0 ≡ 0) where
        new : {ρ δ : List ℕ} → Scope count at keep ρ δ u → has δ e ≡ false
        new s = s.done e i ∙ le-ltb 0 (get_or u e 0) (omega arith)

        pub evaluated_initial : get_or ini e false ≡ true → FoundE ws ts st ini count at keep e u (set u e 1) true
        unfolding one_e
        evaluated_initial n = record {
          found = λ ρ δ s. record {
            says = rw (emitted_is, y, new s, marks_is ws ts st count ini e n (emitted_is ∙ y));
            scope = λ g. rw (next-drop (exprs_of ws ts st count) (marks ws ts st count ini) e ρ (marks_is ws ts st count ini e n (emitted_is ∙ y))) (scope_mark u e 1 z count at keep ρ δ s x.placed.few i h refl);
            kept = λ g. kept_set u e 1 z keep (omega arith) (omega (arith, s.long, x.placed.few));
          };
        }

        module _ (m : get_or ini e false ≡ false) (r : Bool) (r-is : r ≡ all_seen (ops_of (cells_in ws ts (get_or st e 0) (get_or st (e + 1) 0))) (visible_at ws st u count at)) where
          reads_is : (ρ δ : List ℕ) → Scope count at keep ρ δ u → all_vis (standing (exprs_of ws ts st count)) ρ (ops (exprs_of ws ts st count) e) ≡ r
          unfolding ops record_of
          reads_is ρ δ s =
              let a : record_of ws ts st e ≡ cells_in ws ts (get_or st e 0) (get_or st (e + 1) 0) = rw (add-one e) in
              ap (λ l. all_vis (standing (exprs_of ws ts st count)) ρ (ops_of l)) (expr_in ws ts st count e i ∙ a)
              ∙ sym (seen_is ws ts st count x u ρ δ at keep s h (ops_of (cells_in ws ts (get_or st e 0) (get_or st (e + 1) 0))))
              ∙ sym r-is

          pub evaluated_reads : r ≡ false → FoundE ws ts st ini count at keep e u u false
          unfolding one_e
          evaluated_reads n = record { found = λ ρ δ s. tells_false (rw (emitted_is, y, new s, marks_not ws ts st count ini e m, reads_is ρ δ s, n)) }

          pub evaluated_fine : r ≡ true → FoundE ws ts st ini count at keep e u (set u e keep) true
          unfolding one_e
          evaluated_fine n = record {
            found = λ ρ δ s. record {
              says = rw (emitted_is, y, new s, marks_not ws ts st count ini e m, reads_is ρ δ s, n);
              scope = λ g. rw (next-keep (exprs_of ws ts st count) (marks ws ts st count ini) e ρ (marks_not ws ts st count ini e m)) (scope_add u e keep z count at keep ρ δ s x.placed.few i h refl);
              kept = λ g. kept_set u e keep z keep (omega arith) (omega (arith, s.long, x.placed.few));
            };
          }

-- ---- an Emit
pub record Emits (ws ts st : List ℕ) (ini : List Bool) (u₀ : List ℕ) (count at keep a b : ℕ) (ρ δ u : List ℕ) (e : ℕ) : Type 0 where
  pub ρ' : List ℕ
  pub δ' : List ℕ
  pub scope : Scope count at keep ρ' δ' u
  pub kept : Kept keep u₀ u
  pub left : fine_e (exprs_of ws ts st count) (marks ws ts st count ini) (up_from (b - e) e) ρ' δ' ≡ fine_e (exprs_of ws ts st count) (marks ws ts st count ini) (up_from (b - a) a) ρ δ
  pub adds : add_e (live (up_from (b - e) e) (marks ws ts st count ini)) ρ' ≡ add_e (live (up_from (b - a) a) (marks ws ts st count ini)) ρ
  pub dones : add_e (up_from (b - e) e) δ' ≡ add_e (up_from (b - a) a) δ

pub record Emitting (ws ts st : List ℕ) (ini : List Bool) (u₀ : List ℕ) (count at keep a b : ℕ) (u : List ℕ) (e : ℕ) : Type 0 where
  pub going : (ρ δ : List ℕ) → Scope count at keep ρ δ u₀ → Emits ws ts st ini u₀ count at keep a b ρ δ u e

up_next : (b e : ℕ) → e < b → up_from (b - e) e ≡ e ∷ up_from (b - (e + 1)) (e + 1)
unfolding up_from
up_next b e h = let q : b - e ≡ suc (b - (e + 1)) = omega arith in rw (q, add-one e)

up_none : (b e : ℕ) → b ≤ e → up_from (b - e) e ≡ []
unfolding up_from
up_none b e h = let q : b - e ≡ 0 = omega arith in rw q

add-next : (xs : List Cells) (dr : ℕ → Bool) (e : ℕ) (es ρ : List ℕ) → add_e (live (e ∷ es) dr) ρ ≡ add_e (live es dr) (next_e xs dr e ρ)
unfolding add_e
add-next xs dr e es ρ = go (dr e) refl
  where
    go : (b : Bool) → dr e ≡ b → add_e (live (e ∷ es) dr) ρ ≡ add_e (live es dr) (next_e xs dr e ρ)
    go true d = rw (live-drop xs dr e es d, next-drop xs dr e ρ d)
    go false d = rw (live-keep xs dr e es d, next-keep xs dr e ρ d)

fine-next : (xs : List Cells) (dr : ℕ → Bool) (e : ℕ) (es ρ δ : List ℕ) → fine_e xs dr (e ∷ es) ρ δ ≡ (one_e xs dr e ρ δ && fine_e xs dr es (next_e xs dr e ρ) (e ∷ δ))
unfolding fine_e
fine-next xs dr e es ρ δ = refl

done_next : (e : ℕ) (es δ : List ℕ) → add_e (e ∷ es) δ ≡ add_e es (e ∷ δ)
unfolding add_e
done_next e es δ = refl

module _ (ws ts st : List ℕ) (ini : List Bool) (u₀ : List ℕ) (count at keep a b : ℕ) where
  pub emit_begin : Emitting ws ts st ini u₀ count at keep a b u₀ a
  emit_begin = record { going = λ ρ δ s. record { ρ' = ρ; δ' = δ; scope = s; kept = kept-all keep u₀; left = refl; adds = refl; dones = refl } }

  module _ (u : List ℕ) (e : ℕ) (inv : Emitting ws ts st ini u₀ count at keep a b u e) where
    module _ (h : e < b) (u₁ : List ℕ) (r : Bool) (got : FoundE ws ts st ini count at keep e u u₁ r) where
      pub emit_next : r ≡ true → Emitting ws ts st ini u₀ count at keep a b u₁ (e + 1)
      emit_next n = record { going = λ ρ δ s. step ρ δ (inv.going ρ δ s) }
        where
          step : (ρ δ : List ℕ) → Emits ws ts st ini u₀ count at keep a b ρ δ u e → Emits ws ts st ini u₀ count at keep a b ρ δ u₁ (e + 1)
          step ρ δ g =
              let t = got.found g.ρ' g.δ' g.scope in
              let ok : one_e (exprs_of ws ts st count) (marks ws ts st count ini) e g.ρ' g.δ' ≡ true = sym t.says ∙ n in
              record {
                ρ' = next_e (exprs_of ws ts st count) (marks ws ts st count ini) e g.ρ';
                δ' = e ∷ g.δ';
                scope = t.scope ok;
                kept = kept_then g.kept (t.kept ok);
                left = sym (ap (λ l. fine_e (exprs_of ws ts st count) (marks ws ts st count ini) l g.ρ' g.δ') (up_next b e h)
                    ∙ fine-next (exprs_of ws ts st count) (marks ws ts st count ini) e (up_from (b - (e + 1)) (e + 1)) g.ρ' g.δ'
                    ∙ ap (◌&& fine_e (exprs_of ws ts st count) (marks ws ts st count ini) (up_from (b - (e + 1)) (e + 1)) (next_e (exprs_of ws ts st count) (marks ws ts st count ini) e g.ρ') (e ∷ g.δ')) ok)
                    ∙ g.left;
                adds = sym (ap (λ l. add_e (live l (marks ws ts st count ini)) g.ρ') (up_next b e h) ∙ add-next (exprs_of ws ts st count) (marks ws ts st count ini) e (up_from (b - (e + 1)) (e + 1)) g.ρ') ∙ g.adds;
                dones = sym (ap (λ l. add_e l g.δ') (up_next b e h) ∙ done_next e (up_from (b - (e + 1)) (e + 1)) g.δ') ∙ g.dones;
              }

      pub emit_wrong : r ≡ false → FoundR ws ts st ini count at keep a b u₀ u₁ false
      unfolding in_range
      emit_wrong n = record { found = λ ρ δ s. tells_false (wrong ρ δ (inv.going ρ δ s)) }
        where
          wrong : (ρ δ : List ℕ) → Emits ws ts st ini u₀ count at keep a b ρ δ u e → fine_e (exprs_of ws ts st count) (marks ws ts st count ini) (up_from (b - a) a) ρ δ ≡ false
          wrong ρ δ g =
              sym g.left
              ∙ ap (λ l. fine_e (exprs_of ws ts st count) (marks ws ts st count ini) l g.ρ' g.δ') (up_next b e h)
              ∙ fine-next (exprs_of ws ts st count) (marks ws ts st count ini) e (up_from (b - (e + 1)) (e + 1)) g.ρ' g.δ'
              ∙ ap (◌&& fine_e (exprs_of ws ts st count) (marks ws ts st count ini) (up_from (b - (e + 1)) (e + 1)) (next_e (exprs_of ws ts st count) (marks ws ts st count ini) e g.ρ') (e ∷ g.δ')) (sym (got.found g.ρ' g.δ' g.scope).says ∙ n)

    pub emit_done : b ≤ e → FoundR ws ts st ini count at keep a b u₀ u true
    unfolding in_range fine_e add_e live
    emit_done h = record { found = λ ρ δ s. done ρ δ (inv.going ρ δ s) }
      where
        done : (ρ δ : List ℕ) → Emits ws ts st ini u₀ count at keep a b ρ δ u e
            → Tells count at keep u₀ u true (fine_e (exprs_of ws ts st count) (marks ws ts st count ini) (up_from (b - a) a) ρ δ) (add_e (live (up_from (b - a) a) (marks ws ts st count ini)) ρ) (add_e (up_from (b - a) a) δ)
        done ρ δ g = record {
          says = ap (λ l. fine_e (exprs_of ws ts st count) (marks ws ts st count ini) l g.ρ' g.δ') (sym (up_none b e h)) ∙ g.left;
          scope = λ k. subst (λ l. Scope count at keep l (add_e (up_from (b - a) a) δ) u) (ap (λ l. add_e (live l (marks ws ts st count ini)) g.ρ') (sym (up_none b e h)) ∙ g.adds) (subst (λ l. Scope count at keep g.ρ' l u) (ap (λ l. add_e l g.δ') (sym (up_none b e h)) ∙ g.dones) g.scope);
          kept = λ k. g.kept;
        }
