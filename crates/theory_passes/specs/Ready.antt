-- The operands of one statement, in the one_level form: each is mapped already, or may be imported and has no operands. What they import is steady: a number that is mapped at its turn is mapped to the same after the statement.
use Rattle.std.specs.Prelude.{ℕ, ◌<◌, ◌⊎◌, Bool, true, length, get_or}
use Rattle.std.proofs.Math.Path.{◌≡◌, refl}
use Rattle.std.proofs.Common.{sym, subst, inl, inr, ⊎_elim, arith}
use mathlib.Core.List.{List, [], ◌∷◌}
use Rattle.std.proofs.Math.Option.{Option}
use Rattle.model.specs.Tree.{Range}
use Rattle.model.specs.References.{Place, table, own, function, Node, node, fold_refs}
use Rattle.model.specs.Operands.{ops, standing}
use Rattle.model.specs.Scope.{in_range, live, emitted, call_result, effect_result, evals_opt, all_vis}
use Rattle.model.specs.Bodies.{known, Builder, bring, mapped_to, step, each_e}
use Rattle.theory_records.specs.RecordLaws.{All as AllN}
use Rattle.theory_bodies.specs.Lists.{All, all_map, split}
use Rattle.theory_bodies.specs.Context.{Inside, InN, outer, Ctx, OwnP, Own, owns-map}
use Rattle.theory_bodies.specs.Inv.{Has, Ext, ext_refl, ext_trans, ext_has, Inv, ext_bring, inv-bring}
use Rattle.theory_bodies.specs.Gen.{bring-has}
use Rattle.theory_bodies.specs.Steps.{all-vis, Exprs, step_c, plain_ready}
use Rattle.theory_bodies.specs.Body.{standing_in}
use Rattle.theory_bodies.specs.Shallow.{need_c, glance_c, need-idle, plain-need}
use Rattle.theory_passes.specs.Passage.{Steady}

module _ (c : Ctx) (ex : Exprs c) where
  -- mapped, or ready to be imported
  abbrev pub Ready : Builder → ℕ → Type 0
  Ready st e = Has st.memo e ⊎ ((e < length c.xs) × c.may e × (ops c.xs e ≡ []))

  pub ready_ext : {st st' : Builder} → Ext c.M st st' → (e : ℕ) → Ready st e → Ready st' e
  ready_ext x e r = ⊎_elim (λ h. inl (ext_has c.M x e h)) inr r

  pub ready-vis : (ρ es : List ℕ) (st : Builder) → all_vis (standing c.xs) ρ es ≡ true → All (Has st.memo) ρ → All (Ready st) es
  ready-vis ρ es st v a = all_map es (λ e z. ⊎_elim (λ s. inr (standing_in c.xs e s, ex.stands_may e s, ex.bare e s)) inl z) (all-vis (standing c.xs) (Has st.memo) ρ es v a)

  pub ready-new : (es : List ℕ) (st : Builder) → All (λ x. x < length c.xs) es → All c.may es → All (λ e. ops c.xs e ≡ []) es → All (Ready st) es
  ready-new [] st l m b = tt
  ready-new (e ∷ es) st l m b = (inr (l.0, m.0, b.0), ready-new es st l.1 m.1 b.1)

  pub record Had (e : ℕ) (st st' : Builder) : Type 0 where
    pub inv : Inv c st'
    pub ext : Ext c.M st st'
    pub has : Has st'.memo e

  pub had : (e : ℕ) (st : Builder) → Inv c st → Ready st e → Had e st (need_c c e st)
  had e st i r = ⊎_elim
      (λ z. ⊎_elim (λ h. absurd (omega arith)) (λ b.
      let a : All (Has st.memo) (ops c.xs e) = rw b.2 tt in
      let p = plain_ready c ex e st i b.0 b.1 z a in
      subst (Had e st) (plain-need c ex e st b.0 a) (record { inv = p.inv; ext = p.ext; has = omega (arith, p.at) })) r)
      (λ h. rw (need-idle c e st h) (record { inv = i; ext = ext_refl c.M st; has = h }))
      (split (get_or st.memo e 0))

  -- ---- operands that are imported one after the other
  pub record Ran (st st' : Builder) : Type 0 where
    pub inv : Inv c st'
    pub ext : Ext c.M st st'

  pub ran : (es : List ℕ) (st : Builder) → Inv c st → All (Ready st) es → Ran st (each_e es (need_c c) st)
  unfolding each_e
  ran [] st i a = record { inv = i; ext = ext_refl c.M st }
  ran (e ∷ es) st i a =
      let h = had e st i a.0 in
      let z = ran es (need_c c e st) h.inv (all_map es (ready_ext h.ext) a.1) in
      record { inv = z.inv; ext = ext_trans c.M h.ext z.ext }

  -- ---- references
  pub record Mapped (s : Place) (n : ℕ) (st st' : Builder) : Type 0 where
    pub inv : Inv c st'
    pub ext : Ext c.M st st'
    pub has : 0 < mapped_to c.M st' s n

  pub mapped : (s : Place) (n : ℕ) (st : Builder) → Inv c st → Inside c.M c.calls s n → OwnP (Ready st) s n → Mapped s n st (step_c c (need_c c) s n st)
  unfolding step outer OwnP mapped_to
  mapped (table t) n st i w r = record { inv = inv-bring c (table t) n st w i; ext = ext_bring c (table t) n st w i.good; has = bring-has c (table t) n st w i (λ q. (let e : ◌≡◌ {A = ℕ} 0 1 = cc in omega arith)) }
  mapped own n st i w r = let h = had n st i r in record { inv = h.inv; ext = h.ext; has = h.has }
  mapped function n st i w r = record { inv = inv-bring c function n st w i; ext = ext_bring c function n st w i.good; has = bring-has c function n st w i (λ q. (let e : ◌≡◌ {A = ℕ} 0 1 = cc in omega arith)) }

  pub record Steadily (js : List Node) (st st' : Builder) : Type 0 where
    pub inv : Inv c st'
    pub ext : Ext c.M st st'
    pub steady : Steady c.o c.M c.follow (need_c c) (glance_c c) js st' st

  pub steadily : (js : List Node) (st : Builder) → Inv c st → AllN (InN c.M c.calls) js → AllN (Own (Ready st)) js → Steadily js st (fold_refs js (step_c c (need_c c)) st)
  unfolding fold_refs Steady
  steadily [] st i w a = record { inv = i; ext = ext_refl c.M st; steady = tt }
  steadily (j ∷ js) st i w a =
      let h = mapped j.place j.num st i w.0 a.0 in
      let z = steadily js (step_c c (need_c c) j.place j.num st) h.inv w.1 (owns-map (ready_ext h.ext) js a.1) in
      record { inv = z.inv; ext = ext_trans c.M h.ext z.ext; steady = (sym (z.ext.keeps j.place j.num h.has), z.steady) }

-- ---- other ways to import an expression, which do what `need` does where the expression is light
pub record Ways (c : Ctx) (ex : Exprs c) (init : ℕ → Bool) (p q : ℕ → Builder → Builder) : Type 1 where
  pub Light : Builder → ℕ → Type 0
  pub light_ext : (st st' : Builder) → Ext c.M st st' → (e : ℕ) → Light st e → Light st' e
  pub same : (e : ℕ) (st : Builder) → Inv c st → Ready c ex st e → Light st e → p e st ≡ need_c c e st
  -- standing expressions, what is mapped, the result of an effect, and that of a call of a known function
  pub stands : (e : ℕ) (st : Builder) → standing c.xs e ≡ true → Light st e
  pub has : (e : ℕ) (st : Builder) → Has st.memo e → Light st e
  pub of_effect : (n : ℕ) (r : Option ℕ) (st : Builder) → effect_result c.xs n r ≡ true → All (Light st) (evals_opt r)
  pub of_call : (f : ℕ) (r : Option ℕ) (st : Builder) → call_result c.xs f r ≡ true → 0 < known c.M st.out f → All (Light st) (evals_opt r)
  -- the two passes of an Emit
  pub firsts : (r : Range) (st : Builder) → ((e : ℕ) → init e ≡ true → Has st.memo e) → emitted c.xs (live (in_range r) init) ≡ true → each_e (in_range r) q st ≡ each_e (in_range r) (glance_c c) st
  pub seconds : (r : Range) (st : Builder) → ((e : ℕ) → init e ≡ true → Has st.memo e) → emitted c.xs (live (in_range r) init) ≡ true → each_e (in_range r) p st ≡ each_e (in_range r) (need_c c) st

module _ (c : Ctx) (ex : Exprs c) (init : ℕ → Bool) (p q : ℕ → Builder → Builder) (ways : Ways c ex init p q) where
  pub light_vis : (ρ es : List ℕ) (st : Builder) → all_vis (standing c.xs) ρ es ≡ true → All (Has st.memo) ρ → All (ways.Light st) es
  light_vis ρ es st v a = all_map es (λ e z. ⊎_elim (λ s. ways.stands e st s) (λ h. ways.has e st h) z) (all-vis (standing c.xs) (Has st.memo) ρ es v a)

  pub light_all : (es : List ℕ) (st : Builder) → Inv c st → All (Ready c ex st) es → All (ways.Light st) es → each_e es p st ≡ each_e es (need_c c) st
  unfolding each_e
  light_all [] st i r l = refl
  light_all (e ∷ es) st i r l =
      let h = had c ex e st i r.0 in
      rw (ways.same e st i r.0 l.0) (light_all es (need_c c e st) h.inv (all_map es (ready_ext c ex h.ext) r.1) (all_map es (ways.light_ext st (need_c c e st) h.ext) l.1))

  same_step : (s : Place) (n : ℕ) (st : Builder) → Inv c st → OwnP (Ready c ex st) s n → OwnP (ways.Light st) s n → step_c c p s n st ≡ step_c c (need_c c) s n st
  unfolding step OwnP
  same_step (table t) n st i r l = refl
  same_step own n st i r l = ways.same n st i r l
  same_step function n st i r l = refl

  pub record Lightly (js : List Node) (st st' : Builder) : Type 0 where
    pub same : fold_refs js (step_c c p) st ≡ st'
    pub steady : Steady c.o c.M c.follow p q js st' st

  pub lightly : (js : List Node) (st : Builder) → Inv c st → AllN (InN c.M c.calls) js → AllN (Own (Ready c ex st)) js → AllN (Own (ways.Light st)) js → Lightly js st (fold_refs js (step_c c (need_c c)) st)
  unfolding fold_refs Steady
  lightly [] st i w r l = record { same = refl; steady = tt }
  lightly (j ∷ js) st i w r l =
      let h = mapped c ex j.place j.num st i w.0 r.0 in
      let t = step_c c (need_c c) j.place j.num st in
      let r' = owns-map (ready_ext c ex h.ext) js r.1 in
      let y = steadily c ex js t h.inv w.1 r' in
      let z = lightly js t h.inv w.1 r' (owns-map (ways.light_ext st t h.ext) js l.1) in
      let e = same_step j.place j.num st i r.0 l.0 in
      record { same = rw e z.same; steady = rw e (sym (y.ext.keeps j.place j.num h.has), z.steady) }

  -- a callee in front
  pub lightly_call : (f : ℕ) (js : List Node) (st : Builder) → Inv c st → Inside c.M c.calls function f → AllN (InN c.M c.calls) js → AllN (Own (Ready c ex st)) js
      → ((st₁ : Builder) → 0 < known c.M st₁.out f → Ext c.M st st₁ → AllN (Own (ways.Light st₁)) js)
      → Lightly (node function f ∷ js) st (fold_refs (node function f ∷ js) (step_c c (need_c c)) st)
  unfolding fold_refs Steady step OwnP mapped_to
  lightly_call f js st i w ws r l =
      let h = mapped c ex function f st i w tt in
      let t = bring (c.follow f) st in
      let r' = owns-map (ready_ext c ex h.ext) js r in
      let y = steadily c ex js t h.inv ws r' in
      let z = lightly js t h.inv ws r' (l t h.has h.ext) in
      record { same = z.same; steady = (sym (y.ext.keeps function f h.has), z.steady) }
