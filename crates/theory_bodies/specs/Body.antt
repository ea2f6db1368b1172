-- The import of a body: a left-to-right pass. What carries it (`Pre`, `Does`): what is in scope and not standing is mapped; what is still to be evaluated is not mapped; nothing but standing expressions and what the part evaluates becomes mapped; tables only grow and what is mapped stays mapped.
-- What it makes is the source's body, as walks see it, carried through the maps in the end.
use Prim.Native.Nat.{ℕ, zero, suc, ◌+◌, ◌-◌, ◌<◌, ◌≤◌, pred}
use Rattle.std.proofs.Math.Path.{◌≡◌, refl}
use Rattle.std.proofs.Common.{ap, sym, ◌∙◌, inl, inr, ⊎_elim, le_trans}
use Rattle.std.specs.Prelude.{◌≢◌, ◌⊎◌, Bool, get_or}
use Rattle.std.proofs.Math.Bool.{true, false}
use Rattle.std.proofs.lemmas.Bool.{false≢true}
use mathlib.Core.List.{List, [], ◌∷◌, ◌++◌, map}
use Rattle.std.proofs.Math.Option.{Option, none, some}
use native.Mathlib.Omega.{arith}
use Rattle.std.proofs.Math.Decide.{dec_lt}
use Rattle.std.proofs.Math.ListN.{length, get_or-eq_default}
use Rattle.theory_lists.specs.Booleans.{and_split}
use Rattle.model.specs.Outcome.{Cells}
use Rattle.model.specs.Table.{SPAN, UPTO, CALLEE, EXPR, OPT_EXPR, FROM, TO, OPT_RESULT, KEY, OPERANDS, BLOCK, CASES, LENGTH, STMT_KIND, expressions}
use Rattle.model.specs.Tree.{Stmt, stmt, Form, emit, block, branch, switch, loop, break, continue, return, kill, call, effect, Block, end, ◌then◌, Case, case, Cases, nomore, ◌also◌, Range, opt_of, word_of, flat_x, flat_s, flat_f, flat_b, flat_k, flat_c}
use Rattle.model.specs.Carry.{carry_cells, carry_opt, carry_f}
use Rattle.model.specs.Tables.{tables}
use Rattle.model.specs.References.{Place, table, own, function, opt, targets, target, Node, refs, fold_refs, carry_w, through}
use Rattle.model.specs.Operands.{ops_of, result_of, kind, standing_kind, kind_at, ops, standing}
use Rattle.model.specs.Initial.{Mem, here, there}
use Rattle.model.specs.Scope.{XStmt, XForm, XBlock, up_from, in_range, live, expand_s, expand_f, expand, expand_k, expand_c, evals_opt, evals_s, evals_f, evals_b, evals_k, evals_c, add_e, add_opt, add_f, add_s, top_b, holds_s, cont_b, vis, all_vis, opt_vis, ok_e, ok_s, ok_f, ok_b, ok_k, ok_c}
use Rattle.model.specs.Imports.{import_t}
use Rattle.model.specs.Bodies.{Builder, bring, mapped_to, step, each_e, opt_e, compares_of, import_stmt, import_form, import_block, import_case, import_cases, carried_form, rebuild_stmt, rebuild_form, rebuild_block, rebuild_case, rebuild_cases}
use Rattle.theory_walks.specs.Agreement.{Maps, carry_opt as carryOptA, carry_cells as carryCellsA, carry_s as carrySA, carry_f as carryFA, carry_b as carryBA, carry_k as carryKA, carry_c as carryCA, mentions_e, mentions_s, mentions_f, mentions_b, mentions_k, mentions_c}
use Rattle.theory_records.specs.RecordLaws.{All as AllN, all_map as alln-map, Has as HasN}
use Rattle.theory_bodies.specs.Lists.{All, Distinct, all_map, all_both, all_append, all_l, all-r, distinct_l, distinct-r, cross, split}
use Rattle.theory_bodies.specs.Context.{Inside, InN, outer, Ctx, OwnP, own_of, owns, all-owns}
use Rattle.theory_bodies.specs.Inv.{Has, Un, place, Ext, ext_refl, ext_trans, ext_has, ext_went, ext_same, ext_place, ext_all, carry_ext, ext_bring, Inv, inv-bring}
use Rattle.theory_bodies.specs.Gen.{bring-has}
use Rattle.theory_bodies.specs.Carried.{Nameless, Free, Match, both_ok, cells_carry}
use Rattle.theory_bodies.specs.Classes.{Effects}
use Rattle.theory_bodies.specs.Steps.{vis_is, lives, Exprs, plain_c, quiet_c, step_c, Pushed, plain_ready, plain-idle, Shared, shared_new, pass1, pass2}

module _ (P : ℕ → Type 0) where
  -- ---- scopes hold what was in them and what is evaluated
  all-add_e : (es ρ : List ℕ) → All P ρ → All P es → All P (add_e es ρ)
  unfolding add_e
  all-add_e [] ρ a b = a
  all-add_e (e ∷ es) ρ a b = all-add_e es (e ∷ ρ) (b.0, a) b.1

  all-add_opt : (r : Option ℕ) (ρ : List ℕ) → All P ρ → All P (evals_opt r) → All P (add_opt r ρ)
  unfolding add_opt evals_opt
  all-add_opt none ρ a b = a
  all-add_opt (some e) ρ a b = (b.0, a)

  all-add_f : (s : XForm) (ρ : List ℕ) → All P ρ → All P (evals_f s) → All P (add_f s ρ)
  unfolding add_f evals_f
  all-add_f (emit es) ρ a b = all-add_e es ρ a b
  all-add_f (block x) ρ a b = a
  all-add_f (branch c x r) ρ a b = a
  all-add_f (switch c ks) ρ a b = a
  all-add_f (loop x c y) ρ a b = a
  all-add_f break ρ a b = a
  all-add_f continue ρ a b = a
  all-add_f (return x) ρ a b = a
  all-add_f kill ρ a b = a
  all-add_f (call h xs r) ρ a b = all-add_opt r ρ a b
  all-add_f (effect k cs) ρ a b = all-add_opt (result_of cs) ρ a b

  pub all-add_s : (s : XStmt) (ρ : List ℕ) → All P ρ → All P (evals_s s) → All P (add_s s ρ)
  unfolding add_s evals_s
  all-add_s (stmt a b f) ρ p q = all-add_f f ρ p q

  pub all-top : (b : XBlock) (ρ : List ℕ) → All P ρ → All P (evals_b b) → All P (top_b b ρ)
  unfolding top_b evals_b
  all-top end ρ a h = a
  all-top (s then b) ρ a h = all-top b (add_s s ρ) (all-add_s s ρ a (all_l P (evals_s s) _ h)) (all-r P (evals_s s) _ h)

  pub all_cont : (b : XBlock) (ρ : List ℕ) → All P ρ → All P (evals_b b) → All P (cont_b b ρ)
  unfolding cont_b evals_b
  all_cont end ρ a h = a
  all_cont (s then b) ρ a h = go (holds_s s) (all_cont b (add_s s ρ) (all-add_s s ρ a (all_l P (evals_s s) _ h)) (all-r P (evals_s s) _ h))
    where
      go : (t : Bool) → All P (cont_b b (add_s s ρ)) → All P (elim t [ true ↦ ρ | false ↦ cont_b b (add_s s ρ) ])
      go true i = a
      go false i = i

-- standing expressions are there
pub standing_in : (xs : List Cells) (e : ℕ) → standing xs e ≡ true → e < length xs
standing_in xs e h = go (dec_lt e (length xs))
  where
    beyond : length xs ≤ e → standing xs e ≡ false
    beyond l = unfold standing kind_at kind standing_kind expressions in rw (get_or-eq_default xs [] {n = e} l)

    go : Dec (e < length xs) → e < length xs
    go (yes p) = p
    go (no q) = absurd (false≢true (sym (beyond (omega arith)) ∙ h))

pub live_high : (init : ℕ → Bool) (n₀ : ℕ) → ((k : ℕ) → n₀ ≤ k → init k ≡ false) → (k n : ℕ) → n₀ ≤ n → live (up_from k n) init ≡ up_from k n
unfolding up_from live
live_high init n₀ h zero n l = refl
live_high init n₀ h (suc k) n l = rw (h n l, live) (ap (n ∷◌) (live_high init n₀ h k (suc n) (omega arith)))

-- ---- what intake leaves of statements, apart from scope
-- an effect: its expressions are its operands and its result, in this order; numbers in range; a compare is an operand; no names; its result has no operands
pub record Effect (c : Ctx) (cs : Cells) : Type 0 where
  pub owned : owns (refs cs) ≡ ops_of cs ++ evals_opt (result_of cs)
  pub inside : AllN (InN c.M c.calls) (refs cs)
  pub compares : (x : ℕ) → Mem x (compares_of cs) → Mem x (ops_of cs)
  pub nameless : Nameless cs
  pub shape : Effects cs
  pub result : All (λ e. ops c.xs e ≡ []) (evals_opt (result_of cs))

pub record Callee (c : Ctx) (f : ℕ) (r : Option ℕ) : Type 0 where
  pub inside : Inside c.M c.calls function f
  pub result : All (λ e. ops c.xs e ≡ []) (evals_opt r)

-- a case: its value is copied words, and fall_through is 0 or 1
pub record CaseFit (v : Cells) (f : ℕ) : Type 0 where
  pub value : Free v
  pub falls : f < 2

unfoldable mutual
  pub FitS : Stmt Range → Ctx → Type 0
  FitS (stmt a b f) c = FitF f c

  pub FitF : Form Range → Ctx → Type 0
  FitF (emit r) c = Unit {0}
  FitF (block b) c = FitB b c
  FitF (branch x a b) c = FitB a c × FitB b c
  FitF (switch x ks) c = FitC ks c
  FitF (loop a b x) c = FitB a c × FitB b c
  FitF break c = Unit {0}
  FitF continue c = Unit {0}
  FitF (return x) c = Unit {0}
  FitF kill c = Unit {0}
  FitF (call f ys r) c = Callee c f r
  FitF (effect k cs) c = Effect c cs

  pub FitB : Block Range → Ctx → Type 0
  FitB end c = Unit {0}
  FitB (s then b) c = FitS s c × FitB b c

  pub FitK : Case Range → Ctx → Type 0
  FitK (case v b f) c = CaseFit v f × FitB b c

  pub FitC : Cases Range → Ctx → Type 0
  FitC nomore c = Unit {0}
  FitC (k also ks) c = FitK k c × FitC ks c

-- the operands of an effect, then its result: each is read, or evaluated at last
pub data Turns (c : Ctx) (ρ : List ℕ) : List ℕ → List ℕ → Type 0 where
  t_none : Turns c ρ [] []
  t_read : {x : ℕ} {xs ev : List ℕ} → vis (standing c.xs) ρ x ≡ true → Turns c ρ xs ev → Turns c ρ (x ∷ xs) ev
  t_eval : {x : ℕ} {xs : List ℕ} → ops c.xs x ≡ [] → Turns c ρ xs [] → Turns c ρ (x ∷ xs) (x ∷ [])

pub turns : (c : Ctx) (ρ xs : List ℕ) (r : Option ℕ) → all_vis (standing c.xs) ρ xs ≡ true → All (λ e. ops c.xs e ≡ []) (evals_opt r) → Turns c ρ (xs ++ evals_opt r) (evals_opt r)
unfolding all_vis evals_opt
turns c ρ [] none v b = t_none
turns c ρ [] (some e) v b = t_eval b.0 t_none
turns c ρ (x ∷ xs) r v b = let t = and_split (vis (standing c.xs) ρ x) _ v in t_read t.0 (turns c ρ xs r t.1 b)

pub vis_sub : (std : ℕ → Bool) (ρ xs ys : List ℕ) → all_vis std ρ xs ≡ true → ((y : ℕ) → Mem y ys → Mem y xs) → all_vis std ρ ys ≡ true
unfolding all_vis
vis_sub std ρ xs [] v m = refl
vis_sub std ρ xs (y ∷ ys) v m = rw (at xs v (m y here)) (vis_sub std ρ xs ys v (λ z k. m z (there k)))
  where
    at : (xs : List ℕ) → all_vis std ρ xs ≡ true → Mem y xs → vis std ρ y ≡ true
    at [] v k = elim k [ ]
    at (x ∷ xs) v here = (and_split (vis std ρ y) _ v).0
    at (x ∷ xs) v (there k) = at xs (and_split (vis std ρ x) _ v).1 k

-- what is to hold of the cells of the derived body, part by part: W holds of what a record's word is mapped to
pub record Room (L : Cells → Type 0) (c : Ctx) (fin : Builder) (μ : Maps) : Type 0 where
  pub none : L []
  pub append : (xs ys : Cells) → L xs → L ys → L (xs ++ ys)
  pub free : (s w : ℕ) → (s ≡ SPAN) ⊎ ((s ≡ UPTO) ⊎ (KEY ≤ s)) → L ((s, w) ∷ [])
  pub range : (a b : ℕ) → a ≤ b → b ≤ length fin.made → L ((FROM, a) ∷ (TO, b) ∷ [])
  pub expr : (e : ℕ) → Has fin.memo e → L ((EXPR, place fin.memo e) ∷ [])
  pub optional : (s : ℕ) (x : Option ℕ) → (s ≡ OPT_EXPR) ⊎ (s ≡ OPT_RESULT) → All (Has fin.memo) (evals_opt x) → L ((s, word_of (carryOptA (place fin.memo) x)) ∷ [])
  pub callee : (h : ℕ) → 0 < mapped_to c.M fin function h → L ((CALLEE, μ.function h) ∷ [])
  pub effect : (cs : Cells) → Effect c cs → AllN (HasN (mapped_to c.M fin)) (refs cs) → L (carryCellsA μ (place fin.memo) cs)
  pub case : (v : Cells) (f : ℕ) → CaseFit v f → L v × L ((2, f) ∷ [])

pub no_room : (c : Ctx) (fin : Builder) (μ : Maps) → Room (λ cs. Unit {0}) c fin μ
no_room c fin μ = record {
  none = tt;
  append = λ xs ys a b. tt;
  free = λ s w h. tt;
  range = λ a b h l. tt;
  expr = λ e h. tt;
  optional = λ s x h a. tt;
  callee = λ h a. tt;
  effect = λ cs k a. tt;
  case = λ v f k. (tt, tt);
}

-- fin: the state in the end, whose maps carry
module _ (c : Ctx) (ex : Exprs c) (init init' : ℕ → Bool) (n₀ : ℕ) (fin : Builder) where
  abbrev pub φ : ℕ → ℕ
  φ = place fin.memo

  abbrev std : ℕ → Bool
  std = standing c.xs

  -- before a part that evaluates ev, in the scope ρ
  pub record Pre (ev ρ : List ℕ) (st : Builder) : Type 0 where
    pub inv : Inv c st
    pub shared : Shared c ex init st.memo
    pub inits : (e : ℕ) → init e ≡ true → Has st.memo e
    pub scope : All (Has st.memo) ρ
    pub high : n₀ ≤ length st.made
    pub un : All (Un st.memo) ev
    pub inside : All (λ x. x < length c.xs) ev
    pub may : All c.may ev
    pub hard : All (λ x. standing c.xs x ≡ false) ev
    pub once : Distinct ev

  -- what it does; C: what it makes is what it was, carried by the maps in the end
  pub record Does (ev : List ℕ) (st st' : Builder) (C : Type 0) : Type 0 where
    pub inv : Inv c st'
    pub shared : Shared c ex init st'.memo
    pub ext : Ext c.M st st'
    pub has : All (Has st'.memo) ev
    pub apart : (y : ℕ) → standing c.xs y ≡ false → All (λ x. y ≢ x) ev → Un st.memo y → Un st'.memo y
    pub carry : Ext c.M st' fin → C

  -- ---- one part after another
  and_then : {a b d : Builder} {C D E : Type 0} (ev₁ ev₂ : List ℕ) → Does ev₁ a b C → Does ev₂ b d D → (C → D → E) → Does (ev₁ ++ ev₂) a d E
  and_then ev₁ ev₂ p q k = record {
    inv = q.inv;
    shared = q.shared;
    ext = ext_trans c.M p.ext q.ext;
    has = all_append _ ev₁ ev₂ (all_map ev₁ (ext_has c.M q.ext) p.has) q.has;
    apart = λ y s n u. q.apart y s (all-r _ ev₁ ev₂ n) (p.apart y s (all_l _ ev₁ ev₂ n) u);
    carry = λ x. k (p.carry (ext_trans c.M q.ext x)) (q.carry x);
  }

  and_read : {a b d : Builder} {C D E : Type 0} (ev : List ℕ) → Does ev a b C → Does [] b d D → (C → D → E) → Does ev a d E
  and_read ev p q k = record {
    inv = q.inv;
    shared = q.shared;
    ext = ext_trans c.M p.ext q.ext;
    has = all_map ev (ext_has c.M q.ext) p.has;
    apart = λ y s n u. q.apart y s tt (p.apart y s n u);
    carry = λ x. k (p.carry (ext_trans c.M q.ext x)) (q.carry x);
  }

  and_both : {a b d : Builder} {C D : Type 0} (ev₁ ev₂ : List ℕ) → Does ev₁ a b C → Does ev₂ b d D → Does (ev₁ ++ ev₂) a d (C × D)
  and_both ev₁ ev₂ p q = and_then ev₁ ev₂ p q (λ x y. (x, y))

  done : (st : Builder) {ev ρ : List ℕ} → Pre ev ρ st → {C : Type 0} → (Ext c.M st fin → C) → Does [] st st C
  done st p k = record { inv = p.inv; shared = p.shared; ext = ext_refl c.M st; has = tt; apart = λ y s n u. u; carry = k }

  -- the same, said of the maps in the end
  means : {a b : Builder} {ev : List ℕ} {C D : Type 0} → Does ev a b C → (Ext c.M b fin → C → D) → Does ev a b D
  means p k = record { inv = p.inv; shared = p.shared; ext = p.ext; has = p.has; apart = p.apart; carry = λ x. k x (p.carry x) }

  pub pre_l : (a b ρ : List ℕ) {st : Builder} → Pre (a ++ b) ρ st → Pre a ρ st
  pre_l a b ρ p = record {
    inv = p.inv;
    shared = p.shared;
    inits = p.inits;
    scope = p.scope;
    high = p.high;
    un = all_l _ a b p.un;
    inside = all_l _ a b p.inside;
    may = all_l _ a b p.may;
    hard = all_l _ a b p.hard;
    once = distinct_l a b p.once;
  }

  pub pre_next : (a b ρ ρ' : List ℕ) {st st' : Builder} {C : Type 0} → Pre (a ++ b) ρ st → Does a st st' C → All (Has st'.memo) ρ' → Pre b ρ' st'
  pre_next a b ρ ρ' {st} {st'} p d s = record {
    inv = d.inv;
    shared = d.shared;
    inits = λ e h. ext_has c.M d.ext e (p.inits e h);
    scope = s;
    high = le_trans p.high d.ext.longer;
    un = all_both {Q = λ y. standing c.xs y ≡ false → Un st'.memo y} b (λ y h w. w h) (all-r _ a b p.hard) (all_both b (λ y n u h. d.apart y h n u) (cross a b p.once) (all-r _ a b p.un));
    inside = all-r _ a b p.inside;
    may = all-r _ a b p.may;
    hard = all-r _ a b p.hard;
    once = distinct-r a b p.once;
  }

  -- the same scope, after what evaluates nothing
  pub pre_same : (ev ρ : List ℕ) {st st' : Builder} {C : Type 0} → Pre ev ρ st → Does [] st st' C → Pre ev ρ st'
  pre_same ev ρ p d = pre_next [] ev ρ ρ p d (all_map ρ (ext_has c.M d.ext) p.scope)

  -- after the last that is evaluated
  pub pre_end : (ev ρ ρ' : List ℕ) {st st' : Builder} {C : Type 0} → Pre ev ρ st → Does ev st st' C → All (Has st'.memo) ρ' → Pre [] ρ' st'
  pre_end ev ρ ρ' p d s = record {
    inv = d.inv;
    shared = d.shared;
    inits = λ e h. ext_has c.M d.ext e (p.inits e h);
    scope = s;
    high = le_trans p.high d.ext.longer;
    un = tt;
    inside = tt;
    may = tt;
    hard = tt;
    once = tt;
  }

  -- ---- operands on demand
  pushed_does : (e : ℕ) {st st' : Builder} {ev ρ : List ℕ} → Pre ev ρ st → Pushed c e st st' → standing c.xs e ≡ true → Does [] st st' (Has st'.memo e)
  pushed_does e {st} {st'} p q s = record {
    inv = q.inv;
    shared = shared_new c ex init e st st' p.inv p.shared q.at q.other;
    ext = q.ext;
    has = tt;
    apart = λ y h n u. q.other y (λ w. false≢true (sym h ∙ rw w s)) ∙ u;
    carry = λ x. omega (arith, q.at);
  }

  pub read : (e : ℕ) (ρ : List ℕ) (st : Builder) {ev : List ℕ} → Pre ev ρ st → vis (standing c.xs) ρ e ≡ true → Does [] st (plain_c c e st) (Has (plain_c c e st).memo e)
  read e ρ st p v = ⊎_elim
      (λ u. ⊎_elim
      (λ s. pushed_does e p (plain_ready c ex e st p.inv (standing_in c.xs e s) (ex.stands_may e s) u (rw (ex.bare e s) tt)) s)
      (λ h. absurd (omega arith))
      (vis_is (standing c.xs) (Has st.memo) ρ e v p.scope))
      (λ h. rw (plain-idle c ex e st h) (done st p (λ x. h)))
      (split (get_or st.memo e 0))

  pub reads : (xs ρ : List ℕ) (st : Builder) {ev : List ℕ} → Pre ev ρ st → all_vis (standing c.xs) ρ xs ≡ true → Does [] st (each_e xs (plain_c c) st) (All (Has (each_e xs (plain_c c) st).memo) xs)
  unfolding each_e all_vis
  reads [] ρ st p v = done st p (λ x. tt)
  reads (x ∷ xs) ρ st {ev} p v =
      let t = and_split (vis (standing c.xs) ρ x) _ v in
      let d = read x ρ st p t.0 in
      let r = reads xs ρ (plain_c c x st) (pre_same ev ρ p d) t.1 in
      and_then [] [] d r (λ a b. (ext_has c.M r.ext x a, b))

  pub read_opt : (x : Option ℕ) (ρ : List ℕ) (st : Builder) {ev : List ℕ} → Pre ev ρ st → opt_vis (standing c.xs) ρ x ≡ true → Does [] st (opt_e x (plain_c c) st) (All (Has (opt_e x (plain_c c) st).memo) (evals_opt x))
  unfolding opt_e opt_vis evals_opt
  read_opt none ρ st p v = done st p (λ x. tt)
  read_opt (some e) ρ st p v = means (read e ρ st p v) (λ x a. (a, tt))

  pub brings : (p : Place) (n : ℕ) (st : Builder) {ev ρ : List ℕ} → Inside c.M c.calls p n → (own ≡ p → ⊥) → Pre ev ρ st
      → Does [] st (bring (outer c.o c.M c.follow p n) st) (0 < mapped_to c.M (bring (outer c.o c.M c.follow p n) st) p n)
  unfolding bring
  brings p n st w o i = record {
    inv = inv-bring c p n st w i.inv;
    shared = i.shared;
    ext = ext_bring c p n st w i.inv.good;
    has = tt;
    apart = λ y h k u. u;
    carry = λ x. bring-has c p n st w i.inv o;
  }

  -- ---- a result
  pub result1 : (e : ℕ) (ρ : List ℕ) (st : Builder) → Pre (e ∷ []) ρ st → ops c.xs e ≡ [] → Does (e ∷ []) st (plain_c c e st) (Has (plain_c c e st).memo e)
  result1 e ρ st p b =
      let q = plain_ready c ex e st p.inv p.inside.0 p.may.0 p.un.0 (rw b tt) in
      record {
        inv = q.inv;
        shared = shared_new c ex init e st (plain_c c e st) p.inv p.shared q.at q.other;
        ext = q.ext;
        has = (omega (arith, q.at), tt);
        apart = λ y h n u. q.other y n.0 ∙ u;
        carry = λ x. omega (arith, q.at);
      }

  pub result : (r : Option ℕ) (ρ : List ℕ) (st : Builder) → Pre (evals_opt r) ρ st → All (λ e. ops c.xs e ≡ []) (evals_opt r) → Does (evals_opt r) st (opt_e r (plain_c c) st) (All (Has (opt_e r (plain_c c) st).memo) (evals_opt r))
  unfolding opt_e evals_opt
  result none ρ st p b = done st p (λ x. tt)
  result (some e) ρ st p b = means (result1 e ρ st p b.0) (λ x a. (a, tt))

  -- ---- references, in their order
  none_left : {ev ρ : List ℕ} (st : Builder) → Turns c ρ [] ev → Pre ev ρ st → Does ev st st (Unit {0})
  none_left st t_none p = done st p (λ x. tt)

  abbrev pub run : List Node → Builder → Builder
  run js st = fold_refs js (step_c c (plain_c c)) st

  abbrev pub RunsTo : List Node → Builder → Type 0
  RunsTo js st = AllN (HasN (mapped_to c.M (run js st))) js

  pub nodes : (js : List Node) (ev ρ : List ℕ) (st : Builder) → Pre ev ρ st → AllN (InN c.M c.calls) js → Turns c ρ (owns js) ev → Does ev st (run js st) (RunsTo js st)
  unfolding fold_refs owns
  nodes [] ev ρ st p w t = none_left st t p
  nodes (j ∷ js) ev ρ st p w t = go j.place j.num w.0 t (λ ev st p t. nodes js ev ρ st p w.1 t)
    where
      Rest : Type 0
      Rest = (ev : List ℕ) (st : Builder) → Pre ev ρ st → Turns c ρ (owns js) ev → Does ev st (run js st) (RunsTo js st)

      Goal : List ℕ → Place → ℕ → Type 0
      Goal ev p n = Does ev st (run js (step_c c (plain_c c) p n st)) ((0 < mapped_to c.M (run js (step_c c (plain_c c) p n st)) p n) × RunsTo js (step_c c (plain_c c) p n st))

      mine : (ev : List ℕ) (n : ℕ) → Pre ev ρ st → Turns c ρ (n ∷ owns js) ev → Rest → Does ev st (run js (plain_c c n st)) ((0 < mapped_to c.M (run js (plain_c c n st)) own n) × RunsTo js (plain_c c n st))
      mine ev n p (t_read v t) ih =
          let d = read n ρ st p v in
          let r = ih ev (plain_c c n st) (pre_same ev ρ p d) t in
          and_then [] ev d r (λ a b. (unfold mapped_to in ext_has c.M r.ext n a, b))
      mine ev n p (t_eval b t) ih =
          let d = result1 n ρ st p b in
          let r = ih [] (plain_c c n st) (pre_end (n ∷ []) ρ ρ p d (all_map ρ (ext_has c.M d.ext) p.scope)) t in
          and_read (n ∷ []) d r (λ a b. (unfold mapped_to in ext_has c.M r.ext n a, b))

      go : (q : Place) (n : ℕ) → Inside c.M c.calls q n → Turns c ρ (own_of q n (owns js)) ev → Rest → Goal ev q n
      go (table u) n w t ih = unfold step in
          (let d : Does [] st (bring (import_t c.o (tables c.M) u n) st) (0 < mapped_to c.M (bring (import_t c.o (tables c.M) u n) st) (table u) n) = unfold outer in brings (table u) n st w (λ q. (let e : ◌≡◌ {A = ℕ} 0 1 = cc in omega arith)) p in
          let r = ih ev (bring (import_t c.o (tables c.M) u n) st) (pre_same ev ρ p d) (unfold own_of in t) in
          and_then [] ev d r (λ a b. (ext_went c.M r.ext (table u) n a, b)))
      go own n w t ih = unfold step in mine ev n p (unfold own_of in t) ih
      go function n w t ih = unfold step in
          (let d : Does [] st (bring (c.follow n) st) (0 < mapped_to c.M (bring (c.follow n) st) function n) = unfold outer in brings function n st w (λ q. (let e : ◌≡◌ {A = ℕ} 0 1 = cc in omega arith)) p in
          let r = ih ev (bring (c.follow n) st) (pre_same ev ρ p d) (unfold own_of in t) in
          and_then [] ev d r (λ a b. (ext_went c.M r.ext function n a, b)))

  -- ---- what is written, by the maps in the end
  pub has-owns : (st : Builder) (js : List Node) → AllN (HasN (mapped_to c.M st)) js → All (Has st.memo) (owns js)
  has-owns st js a = all-owns (Has st.memo) js (alln-map js (λ j h. go j.place j.num h) a)
    where
      go : (p : Place) (n : ℕ) → 0 < mapped_to c.M st p n → OwnP (Has st.memo) p n
      go (table t) n h = unfold OwnP in tt
      go own n h = unfold OwnP in (unfold mapped_to in h)
      go function n h = unfold OwnP in tt

  expr_carry : (e : ℕ) {st : Builder} → Ext c.M st fin → Has st.memo e → through (mapped_to c.M st) EXPR e ≡ φ e
  unfolding through target targets carry_w mapped_to place
  expr_carry e x h = rw (ext_same c.M x e h)

  list_carry : (es : List ℕ) {st : Builder} → Ext c.M st fin → All (Has st.memo) es → map (through (mapped_to c.M st) EXPR) es ≡ map φ es
  list_carry [] x a = refl
  list_carry (e ∷ es) x a = rw (expr_carry e x a.0, list_carry es x a.1)

  some_opt : (v : ℕ) → 0 < v → opt_of v ≡ some (pred v)
  unfolding opt_of
  some_opt zero h = absurd (omega arith)
  some_opt (suc v) h = refl

  opt_carry : (s : ℕ) → target s ≡ opt own → (x : Option ℕ) {st : Builder} → Ext c.M st fin → All (Has st.memo) (evals_opt x) → carry_opt (through (mapped_to c.M st)) s x ≡ carryOptA φ x
  unfolding carry_opt carryOptA through carry_w mapped_to evals_opt word_of place
  opt_carry s q none x a = rw q (unfold opt_of in refl)
  opt_carry s q (some e) x a = rw (q, some_opt (get_or _ e 0) a.0, ext_same c.M x e a.0)

  module _ (μ : Maps) (match : Match μ φ c.calls (mapped_to c.M fin)) (high : (k : ℕ) → n₀ ≤ k → init' k ≡ false) (L : Cells → Type 0) (room : Room L c fin μ) where
    callee-carry : (h : ℕ) {st : Builder} → c.calls h → Ext c.M st fin → 0 < mapped_to c.M st function h → through (mapped_to c.M st) CALLEE h ≡ μ.function h
    unfolding through target targets carry_w
    callee-carry h k x a = rw (match.of_functions h k (ext_went c.M x function h a), x.keeps function h a)

    cells_end : (cs : Cells) {st : Builder} → AllN (InN c.M c.calls) (refs cs) → Ext c.M st fin → Nameless cs → AllN (HasN (mapped_to c.M st)) (refs cs) → carry_cells (through (mapped_to c.M st)) cs ≡ carryCellsA μ φ cs
    cells_end cs k x n a = sym (carry_ext c.M x cs a) ∙ cells_carry μ φ c.M c.calls (mapped_to c.M fin) match cs n (both_ok μ φ c.M c.calls (mapped_to c.M fin) match (refs cs) (ext_all c.M x (refs cs) a) k)

    -- ---- an Emit
    map_agrees : (m : List ℕ) (g : ℕ → ℕ) → ((e : ℕ) → Has m e → g e ≡ place m e) → (es : List ℕ) → All (Has m) es → map (place m) es ≡ map g es
    map_agrees m g h [] a = refl
    map_agrees m g h (e ∷ es) a = rw (h e a.0, map_agrees m g h es a.1)

    -- what an Emit evaluates and reads is mapped
    emit_mentions : (es : List ℕ) (st : Builder) → Inv c st → Ext c.M st fin → All (Has st.memo) es → All (Has fin.memo) (mentions_e es c.xs)
    unfolding mentions_e
    emit_mentions [] st i x a = tt
    emit_mentions (e ∷ es) st i x a =
        (ext_has c.M x e a.0, all_append _ (ops c.xs e) _ (all_map (ops c.xs e) (ext_has c.M x) (rw (ex.owned e) at (has-owns st (refs (get_or c.xs e [])) (i.found e a.0).ready))) (emit_mentions es st i x a.1))

    emits : (r : Range) (ρ : List ℕ) (st : Builder) → Pre (live (in_range r) init) ρ st → ok_e c.xs (live (in_range r) init) ρ ≡ true
        → Does (live (in_range r) init) st (each_e (in_range r) (plain_c c) (each_e (in_range r) (quiet_c c) st))
        ((live
        (in_range (record { from = length (each_e (in_range r) (quiet_c c) st).made; to = length (each_e (in_range r) (plain_c c) (each_e (in_range r) (quiet_c c) st)).made }))
        init'
        ≡ map φ (live (in_range r) init)) × All (Has fin.memo) (mentions_e (live (in_range r) init) c.xs)
        × L ((FROM, length (each_e (in_range r) (quiet_c c) st).made) ∷ (TO, length (each_e (in_range r) (plain_c c) (each_e (in_range r) (quiet_c c) st)).made) ∷ []))
    emits r ρ st p v =
        let es = live (in_range r) init in
        let a = pass1 c ex init (lives init (in_range r)) st p.inits p.inside p.may p.inv p.shared in
        let u = all_both es (λ y h w. a.apart y h w) p.hard p.un in
        let b = pass2 c ex init (lives init (in_range r)) ρ (each_e (in_range r) (quiet_c c) st) (λ e h. ext_has c.M a.ext e (p.inits e h)) a.inv a.shared
        (all_map ρ (ext_has c.M a.ext) p.scope) v (all_both es (λ e k w. k w) a.under u) p.inside p.may u p.once in
        record {
          inv = b.inv;
          shared = b.shared;
          ext = ext_trans c.M a.ext b.ext;
          has = b.has;
          apart = λ y h n w. b.apart y n (a.apart y h w);
          carry = λ x. (range _ _ es (omega (arith, a.ext.longer, p.high)) b.len ∙ (sym b.row ∙ map_agrees _ φ (ext_place c.M x) es b.has), emit_mentions es _ b.inv x b.has, room.range _ _ b.ext.longer x.longer);
        }
      where
        range : (x y : ℕ) (es : List ℕ) → n₀ ≤ x → y ≡ x + length es → live (in_range (record { from = x; to = y })) init' ≡ up_from (length es) x
        range x y es l q = unfold in_range in (let z : y - x ≡ length es = omega arith in rw z (live_high init' n₀ high (length es) x l))

    -- ---- statements
    abbrev pub run_f : Form Range → Builder → Builder
    run_f = import_form c.o c.M c.follow (plain_c c) (quiet_c c)

    abbrev pub run_s : Stmt Range → Builder → Builder
    run_s = import_stmt c.o c.M c.follow (plain_c c) (quiet_c c)

    abbrev pub run_b : Block Range → Builder → Builder
    run_b = import_block c.o c.M c.follow (plain_c c) (quiet_c c)

    abbrev pub run_k : Case Range → Builder → Builder
    run_k = import_case c.o c.M c.follow (plain_c c) (quiet_c c)

    abbrev pub run_c : Cases Range → Builder → Builder
    run_c = import_cases c.o c.M c.follow (plain_c c) (quiet_c c)

    abbrev new_f : Form Range → Builder → Form Range
    new_f = rebuild_form c.o c.M c.follow (plain_c c) (quiet_c c)

    abbrev new_s : Stmt Range → Builder → Stmt Range
    new_s = rebuild_stmt c.o c.M c.follow (plain_c c) (quiet_c c)

    abbrev new_b : Block Range → Builder → Block Range
    new_b = rebuild_block c.o c.M c.follow (plain_c c) (quiet_c c)

    abbrev new_k : Case Range → Builder → Case Range
    new_k = rebuild_case c.o c.M c.follow (plain_c c) (quiet_c c)

    abbrev new_c : Cases Range → Builder → Cases Range
    new_c = rebuild_cases c.o c.M c.follow (plain_c c) (quiet_c c)

    abbrev Ment : List ℕ → Type 0
    Ment es = All (Has fin.memo) es

    to-fin : (es : List ℕ) {st : Builder} → Ext c.M st fin → All (Has st.memo) es → Ment es
    to-fin es x a = all_map es (ext_has c.M x) a

    read-end : (e : ℕ) (ρ : List ℕ) (st : Builder) {ev : List ℕ} → Pre ev ρ st → vis (standing c.xs) ρ e ≡ true
        → Does [] st (plain_c c e st) ((through (mapped_to c.M (plain_c c e st)) EXPR e ≡ φ e) × Has fin.memo e)
    read-end e ρ st p v = means (read e ρ st p v) (λ x h. (expr_carry e x h, ext_has c.M x e h))

    opt_end : (o : Option ℕ) (ρ : List ℕ) (st : Builder) {ev : List ℕ} → Pre ev ρ st → opt_vis (standing c.xs) ρ o ≡ true
        → Does [] st (opt_e o (plain_c c) st) ((carry_opt (through (mapped_to c.M (opt_e o (plain_c c) st))) OPT_EXPR o ≡ carryOptA φ o) × Ment (evals_opt o))
    opt_end o ρ st p v = means (read_opt o ρ st p v) (λ x h. (opt_carry OPT_EXPR (unfold target targets in refl) o x h, to-fin (evals_opt o) x h))

    -- ---- the cells of what is made
    counted : (s n : ℕ) (cs : Cells) → KEY ≤ s → L cs → L ((s, n) ∷ cs)
    counted s n cs h a = room.append ((s, n) ∷ []) cs (room.free s n (inr (inr h))) a

    stmt_room : (n k a b : ℕ) {cs : Cells} → L cs → L ((LENGTH, n) ∷ (STMT_KIND, k) ∷ (SPAN, a) ∷ (UPTO, b) ∷ cs)
    stmt_room n k a b {cs} h =
        counted LENGTH n _ (omega arith) (counted STMT_KIND k _ (omega arith)
        (room.append ((SPAN, a) ∷ []) _ (room.free SPAN a (inl refl)) (room.append ((UPTO, b) ∷ []) _ (room.free UPTO b (inr (inl refl))) h)))

    expr_room : (e w : ℕ) → Has fin.memo e → w ≡ φ e → L ((EXPR, w) ∷ [])
    expr_room e w h q = rw q (room.expr e h)

    branch_room : (e w m n : ℕ) (us vs : Cells) → Has fin.memo e → w ≡ φ e → L us → L vs → L ((EXPR, w) ∷ ((BLOCK, m) ∷ us) ++ (BLOCK, n) ∷ vs)
    branch_room e w m n us vs h q a b = room.append ((EXPR, w) ∷ []) _ (expr_room e w h q) (room.append _ _ (counted BLOCK m us (omega arith) a) (counted BLOCK n vs (omega arith) b))

    switch_room : (e w n : ℕ) (cs : Cells) → Has fin.memo e → w ≡ φ e → L cs → L ((EXPR, w) ∷ (CASES, n) ∷ cs)
    switch_room e w n cs h q a = room.append ((EXPR, w) ∷ []) _ (expr_room e w h q) (counted CASES n cs (omega arith) a)

    opt_room : (o w : Option ℕ) → Ment (evals_opt o) → w ≡ carryOptA φ o → L ((OPT_EXPR, word_of w) ∷ [])
    opt_room o w h q = rw q (room.optional OPT_EXPR o (inl refl) h)

    loop_room : (o w : Option ℕ) (m n : ℕ) (us vs : Cells) → Ment (evals_opt o) → w ≡ carryOptA φ o → L us → L vs → L (((BLOCK, m) ∷ us) ++ ((BLOCK, n) ∷ vs) ++ (OPT_EXPR, word_of w) ∷ [])
    loop_room o w m n us vs h q a b = room.append _ _ (room.append _ _ (counted BLOCK m us (omega arith) a) (counted BLOCK n vs (omega arith) b)) (opt_room o w h q)

    exprs_room : (ys zs : List ℕ) → Ment ys → zs ≡ map φ ys → L (map (λ x. (EXPR, x)) zs)
    exprs_room ys zs h q = rw q (go ys h)
      where
        go : (ys : List ℕ) → Ment ys → L (map (λ x. (EXPR, x)) (map φ ys))
        go [] h = room.none
        go (y ∷ ys) h = room.append ((EXPR, φ y) ∷ []) _ (room.expr y h.0) (go ys h.1)

    call-room : (h : ℕ) (ys : List ℕ) (r : Option ℕ) (w : ℕ) (zs : List ℕ) (u : Option ℕ) → 0 < mapped_to c.M fin function h → w ≡ μ.function h → Ment ys → zs ≡ map φ ys → Ment (evals_opt r) → u ≡ carryOptA φ r
        → L ((CALLEE, w) ∷ flat_x zs ++ (OPT_RESULT, word_of u) ∷ [])
    unfolding flat_x
    call-room h ys r w zs u a p b q d e =
        room.append ((CALLEE, w) ∷ []) _ (rw p (room.callee h a))
        (room.append _ _ (counted OPERANDS _ _ (omega arith) (exprs_room ys zs b q)) (rw e (room.optional OPT_RESULT r (inr refl) d)))

    case_room : (v : Cells) (t n : ℕ) (bs : Cells) → CaseFit v t → L bs → L (v ++ ((BLOCK, n) ∷ bs) ++ (2, t) ∷ [])
    case_room v t n bs k a = let z = room.case v t k in room.append _ _ (room.append v _ z.0 (counted BLOCK n bs (omega arith) a)) z.1

    result_class : target OPT_RESULT ≡ opt own
    unfolding target targets
    result_class = refl

    called : (h : ℕ) (st : Builder) {ev ρ : List ℕ} → Inside c.M c.calls function h → Pre ev ρ st → Does [] st (bring (c.follow h) st) (0 < mapped_to c.M (bring (c.follow h) st) function h)
    unfolding outer
    called h st w p = brings function h st w (λ q. (let e : ◌≡◌ {A = ℕ} 0 1 = cc in omega arith)) p

    calls : (h : ℕ) (ys : List ℕ) (r : Option ℕ) (ρ : List ℕ) (st : Builder) → Callee c h r → Pre (evals_opt r) ρ st → all_vis (standing c.xs) ρ ys ≡ true
        → Does (evals_opt r) st (run_f (call h ys r) st) ((expand_f (new_f (call h ys r) st) init' ≡ call (μ.function h) (map φ ys) (carryOptA φ r)) × Ment (ys ++ evals_opt r) × L (flat_f (new_f (call h ys r) st)))
    unfolding import_form rebuild_form carried_form carry_f expand_f flat_f
    calls h ys r ρ st k p v =
        let d = called h st k.inside p in
        let p₁ = pre_same _ ρ p d in
        let d₁ = reads ys ρ (bring (c.follow h) st) p₁ v in
        let d₂ = result r ρ (each_e ys (plain_c c) (bring (c.follow h) st)) (pre_same _ ρ p₁ d₁) k.result in
        means (and_both [] (evals_opt r) d (and_both [] (evals_opt r) d₁ d₂))
        (λ x y.
        let w = ext_went c.M (ext_trans c.M d₁.ext d₂.ext) function h y.0 in
        let ws = all_map ys (ext_has c.M d₂.ext) y.1.0 in
        (rw (callee-carry h (unfold Inside in k.inside) x w, list_carry ys x ws, opt_carry OPT_RESULT result_class r x y.1.1), all_append _ ys _ (to-fin ys x ws) (to-fin (evals_opt r) x y.1.1), call-room h ys r _ _ _ (ext_went c.M x function h w) (callee-carry h (unfold Inside in k.inside) x w) (to-fin ys x ws) (list_carry ys x ws) (to-fin (evals_opt r) x y.1.1) (opt_carry OPT_RESULT result_class r x y.1.1)))

    effects : (n : ℕ) (cs : Cells) (ρ : List ℕ) (st : Builder) → Effect c cs → Pre (evals_opt (result_of cs)) ρ st → all_vis (standing c.xs) ρ (ops_of cs) ≡ true
        → Does (evals_opt (result_of cs)) st (run_f (effect n cs) st) ((expand_f (new_f (effect n cs) st) init' ≡ effect n (carryCellsA μ φ cs)) × Ment (ops_of cs ++ evals_opt (result_of cs)) × L (flat_f (new_f (effect n cs) st)))
    unfolding import_form rebuild_form carried_form carry_f expand_f flat_f
    effects n cs ρ st k p v =
        let d = reads (compares_of cs) ρ st p (vis_sub (standing c.xs) ρ (ops_of cs) (compares_of cs) v k.compares) in
        let p₁ = pre_same _ ρ p d in
        let tn = turns c ρ (ops_of cs) (result_of cs) v k.result in
        let d₁ = nodes (refs cs) (evals_opt (result_of cs)) ρ (each_e (compares_of cs) (plain_c c) st) p₁ k.inside (rw k.owned tn) in
        means (and_then [] (evals_opt (result_of cs)) d d₁ (λ x y. y))
        (λ x y. (ap (effect n) (cells_end cs k.inside x k.nameless y), rw k.owned at (to-fin (owns (refs cs)) x (has-owns _ (refs cs) y)), rw (cells_end cs k.inside x k.nameless y) (room.effect cs k (ext_all c.M x (refs cs) y))))

    mutual
      unfolding import_form rebuild_form carried_form carry_f expand_f ok_f evals_f carryFA mentions_f FitF add_f add_s top_b cont_b flat_f

      pub does_s : (s : Stmt Range) (ρ : List ℕ) (st : Builder) → FitS s c → Pre (evals_s (expand_s s init)) ρ st → ok_s (expand_s s init) c.xs ρ ≡ true
          → Does (evals_s (expand_s s init)) st (run_s s st) ((expand_s (new_s s st) init' ≡ carrySA (expand_s s init) μ φ) × Ment (mentions_s (expand_s s init) c.xs) × L (flat_s (new_s s st)))
      does_s (stmt a b g) ρ st k p v = means (does_f g ρ st k p v) (λ x y. (ap (stmt 0 0) y.0, y.1, stmt_room _ _ _ _ y.2))

      pub does_f : (g : Form Range) (ρ : List ℕ) (st : Builder) → FitF g c → Pre (evals_f (expand_f g init)) ρ st → ok_f (expand_f g init) c.xs ρ ≡ true
          → Does (evals_f (expand_f g init)) st (run_f g st) ((expand_f (new_f g st) init' ≡ carryFA (expand_f g init) μ φ) × Ment (mentions_f (expand_f g init) c.xs) × L (flat_f (new_f g st)))
      does_f (emit r) ρ st k p v = means (emits r ρ st p v) (λ x a. (ap emit a.0, a.1, a.2))
      does_f (block b) ρ st k p v = means (does_b b ρ st k p v) (λ x a. (ap block a.0, a.1, counted BLOCK _ _ (omega arith) a.2))
      does_f (branch e a b) ρ st k p v =
          let ea = evals_b (expand a init) in
          let eb = evals_b (expand b init) in
          let t = and_split (vis (standing c.xs) ρ e) _ v in
          let t₁ = and_split (ok_b (expand a init) c.xs ρ) _ t.1 in
          let d = read-end e ρ st p t.0 in
          let p₁ = pre_same _ ρ p d in
          let d₁ = does_b a ρ (plain_c c e st) k.0 (pre_l ea eb ρ p₁) t₁.0 in
          let p₂ = pre_next ea eb ρ ρ p₁ d₁ (all_map ρ (ext_has c.M d₁.ext) p₁.scope) in
          let d₂ = does_b b ρ (run_b a (plain_c c e st)) k.1 p₂ t₁.1 in
          and_then [] (ea ++ eb) d (and_both ea eb d₁ d₂)
          (λ x y. (rw (x.0, y.0.0, y.1.0), (x.1, all_append _ (mentions_b (expand a init) c.xs) _ y.0.1 y.1.1), branch_room e _ _ _ _ _ x.1 x.0 y.0.2 y.1.2))
      does_f (switch e ks) ρ st k p v =
          let t = and_split (vis (standing c.xs) ρ e) _ v in
          let d = read-end e ρ st p t.0 in
          and_then [] (evals_c (expand_c ks init)) d (does_c ks ρ (plain_c c e st) k (pre_same _ ρ p d) t.1)
          (λ x y. (rw (x.0, y.0), (x.1, y.1), switch_room e _ _ _ x.1 x.0 y.2))
      does_f (loop a b o) ρ st k p v =
          let ea = evals_b (expand a init) in
          let eb = evals_b (expand b init) in
          let ρb = cont_b (expand a init) ρ in
          let t = and_split (ok_b (expand a init) c.xs ρ) _ v in
          let t₁ = and_split (ok_b (expand b init) c.xs ρb) _ t.1 in
          let d = does_b a ρ st k.0 (pre_l ea eb ρ p) t.0 in
          let s₁ = all_cont _ (expand a init) ρ (all_map ρ (ext_has c.M d.ext) p.scope) d.has in
          let p₁ = pre_next ea eb ρ ρb p d s₁ in
          let d₁ = does_b b ρb (run_b a st) k.1 p₁ t₁.0 in
          let s₂ = all-top _ (expand b init) ρb (all_map ρb (ext_has c.M d₁.ext) s₁) d₁.has in
          let d₂ = opt_end o (top_b (expand b init) ρb) (run_b b (run_b a st)) (pre_end eb ρb (top_b (expand b init) ρb) p₁ d₁ s₂) t₁.1 in
          and_read (ea ++ eb) (and_both ea eb d d₁) d₂
          (λ x y. (rw (x.0.0, x.1.0, y.0), all_append _ (evals_opt o) _ y.1 (all_append _ (mentions_b (expand a init) c.xs) _ x.0.1 x.1.1), loop_room o _ _ _ _ _ y.1 y.0 x.0.2 x.1.2))
      does_f break ρ st k p v = done st p (λ x. (refl, tt, room.none))
      does_f continue ρ st k p v = done st p (λ x. (refl, tt, room.none))
      does_f (return o) ρ st k p v = means (opt_end o ρ st p v) (λ x h. (ap return h.0, h.1, opt_room o _ h.1 h.0))
      does_f kill ρ st k p v = done st p (λ x. (refl, tt, room.none))
      does_f (call h ys r) ρ st k p v = calls h ys r ρ st k p v
      does_f (effect n cs) ρ st k p v = effects n cs ρ st k p v

      pub does_b : (b : Block Range) (ρ : List ℕ) (st : Builder) → FitB b c → Pre (evals_b (expand b init)) ρ st → ok_b (expand b init) c.xs ρ ≡ true
          → Does (evals_b (expand b init)) st (run_b b st) ((expand (new_b b st) init' ≡ carryBA (expand b init) μ φ) × Ment (mentions_b (expand b init) c.xs) × L (flat_b (new_b b st)))
      does_b end ρ st k p v = done st p (λ x. (refl, tt, room.none))
      does_b (s then b) ρ st k p v =
          let es = evals_s (expand_s s init) in
          let eb = evals_b (expand b init) in
          let t = and_split (ok_s (expand_s s init) c.xs ρ) _ v in
          let d = does_s s ρ st k.0 (pre_l es eb ρ p) t.0 in
          let p₁ = pre_next es eb ρ (add_s (expand_s s init) ρ) p d (all-add_s _ (expand_s s init) ρ (all_map ρ (ext_has c.M d.ext) p.scope) d.has) in
          and_then es eb d (does_b b (add_s (expand_s s init) ρ) (run_s s st) k.1 p₁ t.1) (λ x y. (rw (x.0, y.0), all_append _ (mentions_s (expand_s s init) c.xs) _ x.1 y.1, room.append _ _ x.2 y.2))

      pub does_k : (g : Case Range) (ρ : List ℕ) (st : Builder) → FitK g c → Pre (evals_k (expand_k g init)) ρ st → ok_k (expand_k g init) c.xs ρ ≡ true
          → Does (evals_k (expand_k g init)) st (run_k g st) ((expand_k (new_k g st) init' ≡ carryKA (expand_k g init) μ φ) × Ment (mentions_k (expand_k g init) c.xs) × L (flat_k (new_k g st)))
      does_k (case w b t) ρ st k p v = means (does_b b ρ st k.1 p v) (λ x a. (ap (λ (y : XBlock). case w y t) a.0, a.1, case_room w t _ _ k.0 a.2))

      pub does_c : (ks : Cases Range) (ρ : List ℕ) (st : Builder) → FitC ks c → Pre (evals_c (expand_c ks init)) ρ st → ok_c (expand_c ks init) c.xs ρ ≡ true
          → Does (evals_c (expand_c ks init)) st (run_c ks st) ((expand_c (new_c ks st) init' ≡ carryCA (expand_c ks init) μ φ) × Ment (mentions_c (expand_c ks init) c.xs) × L (flat_c (new_c ks st)))
      does_c nomore ρ st k p v = done st p (λ x. (refl, tt, room.none))
      does_c (g also ks) ρ st k p v =
          let eb = evals_k (expand_k g init) in
          let ek = evals_c (expand_c ks init) in
          let t = and_split (ok_k (expand_k g init) c.xs ρ) _ v in
          let d = does_k g ρ st k.0 (pre_l eb ek ρ p) t.0 in
          let p₁ = pre_next eb ek ρ ρ p d (all_map ρ (ext_has c.M d.ext) p.scope) in
          and_then eb ek d (does_c ks ρ (run_k g st) k.1 p₁ t.1) (λ x y. (rw (x.0, y.0), all_append _ (mentions_k (expand_k g init) c.xs) _ x.1 y.1, room.append _ _ x.2 y.2))
