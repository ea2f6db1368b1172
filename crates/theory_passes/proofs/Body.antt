-- THE BODY: one pass over its cells leaves what the import over the tree leaves, and what is written is the flat list of the body made.
use Rattle.std.specs.Prelude.{ℕ, ◌<◌, ◌≤◌, Bool, true}
use Rattle.std.proofs.Math.Path.{◌≡◌, refl, ap, subst}
use Rattle.std.proofs.Common.{sym, ◌∙◌, inl, inr, ⊎_elim}
use Rattle.std.proofs.Math.Bool.{false}
use mathlib.Core.List.{List, [], ◌∷◌, ◌++◌, map}
use Rattle.std.proofs.Math.Option.{Option, none, some}
use Rattle.std.proofs.Math.ListN.{length}
use Rattle.std.proofs.lemmas.List.{length-map}
use Rattle.theory_lists.specs.Booleans.{and_split}
use Rattle.model.specs.Outcome.{Cells}
use Rattle.model.specs.Module.{Module}
use Rattle.model.specs.Table.{SPAN, UPTO, CALLEE, EXPR, OPT_RESULT, OPERANDS}
use Rattle.model.specs.Tree.{Stmt, stmt, Form, emit, block, branch, switch, loop, break, continue, return, kill, call, effect, Block, end, ◌then◌, Case, case, Cases, nomore, ◌also◌, Range, Function, word_of, kind_of, flat_x, flat_f, flat_block}
use Rattle.model.specs.Carry.{carry_cell, carry_cells, carry_opt, carry_f, OkS, OkF, OkB, OkBs, OkK, OkC, ok_stmt, ok_block, ok_branch, ok_switch, ok_loop, ok_effect, ok_deeper, ok_then, ok_case, ok_also}
use Rattle.model.specs.References.{own, function, targets, target, Node, node, ref_of, refs, fold_refs, carry_w, through}
use Rattle.model.specs.Operands.{ops_of, result_of, standing}
use Rattle.model.specs.Initial.{marked, initials}
use Rattle.model.specs.Scope.{in_range, live, emitted, call_result, effect_result, kinds_s, kinds_f, kinds_b, kinds_k, kinds_c, shape_b, in_body, expand_s, expand_f, expand, expand_k, expand_c, evals_opt, evals_s, evals_f, evals_b, evals_k, evals_c, add_f, add_s, top_b, cont_b, vis, all_vis, opt_vis, ok_e, ok_s, ok_f, ok_b, ok_k, ok_c, all_of, seen, scoped_as, scoped}
use Rattle.model.specs.Imports.{Derived}
use Rattle.model.specs.Bodies.{known, Builder, bring, mapped_to, carried, step, each_e, opt_e, compares_of, import_stmt, import_form, import_block, import_case, carried_form, rebuild_form, declared, walked, rebuilt, final}
use Rattle.theory_image.specs.Words.{word_of_lem}
use Rattle.theory_walks.specs.Agreement.{Maps}
use Rattle.theory_walks.specs.ExpandProof.{kinds_b_drop}
use Rattle.theory_records.specs.RecordLaws.{All as AllN}
use Rattle.theory_bodies.specs.Lists.{All, all_map, all_append, all_mem, mem_all}
use Rattle.theory_bodies.specs.Context.{Inside, InN, Law, Ctx, OwnP, Own, owns-all}
use Rattle.theory_bodies.specs.Inv.{Has, place, Ext, ext_has}
use Rattle.theory_bodies.specs.Carried.{Match}
use Rattle.theory_bodies.specs.Steps.{vis_is, Exprs, plain_c, quiet_c, step_c, plain-idle}
use Rattle.theory_bodies.specs.Body.{all-add_s, all-top, all_cont, standing_in, Effect, Callee, FitS, FitF, FitB, FitK, FitC, no_room, Pre, pre_l, pre_next, pre_same, pre_end, read, does_s, does_b, does_k}
use Rattle.theory_bodies.specs.Shallow.{need, glance, need_c, glance_c, need-idle, plain-need}
use Rattle.theory_bodies.specs.Quick.{emit_need, quick_f}
use Rattle.theory_bodies.specs.Function.{Fine, ctx, maps_of, maps_match, before}
use Rattle.theory_passes.specs.Pass.{atomic_kind, early, body_after, body_written}
use Rattle.theory_passes.specs.Passage.{calm?, still?, Passage, alone-after, alone-written, fields-carried}
use Rattle.theory_passes.specs.Forms.{T, TF, TS, TB, TK, TC, t_stmt, t_emit, t_block, t_branch, t_switch, t_loop, t_break, t_continue, t_return, t_kill, t_end, t_then, t_case, t_nomore, t_also, t_body}
use Rattle.theory_passes.specs.Ready.{Ready, ready_ext, ready-vis, ready-new, ran, Ways, light_vis, light_all, Lightly, lightly, lightly_call}
use Rattle.theory_passes.proofs.Light.{range_keeps}
use Rattle.theory_passes.proofs.Shapes.{Calms, calm-fields, calm-shift, effect_calm, value_copies, effect_early}

-- ---- the cells of a call
abbrev behind : List ℕ → Option ℕ → Cells
behind ys r = map (λ (x : ℕ). (EXPR, x)) ys ++ ((OPT_RESULT, word_of r) ∷ [])

behind-calm : (ys : List ℕ) (r : Option ℕ) → Calms (behind ys r)
unfolding calm? still? target targets
behind-calm [] r = (refl, tt)
behind-calm (y ∷ ys) r = (refl, behind-calm ys r)

call-calm : (f : ℕ) (ys : List ℕ) (r : Option ℕ) → Calms (flat_f (call f ys r))
unfolding flat_f flat_x calm? still? target targets
call-calm f ys r = (refl, (refl, behind-calm ys r))

behind-all : (P : Node → Type 0) (ys : List ℕ) (r : Option ℕ) → All (λ y. P (node own y)) ys → All (λ y. P (node own y)) (evals_opt r) → AllN P (refs (behind ys r))
unfolding refs ref_of target targets word_of evals_opt
behind-all P [] none a b = tt
behind-all P [] (some e) a b = (b.0, tt)
behind-all P (y ∷ ys) r a b = (a.0, behind-all P ys r a.1 b)

call-refs : (f : ℕ) (ys : List ℕ) (r : Option ℕ) → refs (flat_f (call f ys r)) ≡ node function f ∷ refs (behind ys r)
unfolding flat_f flat_x refs ref_of target targets
call-refs f ys r = refl

module _ (o : ℕ) (M : Module) (follow : ℕ → Derived → Derived) (p q : ℕ → Builder → Builder) where
  behind-run : (ys : List ℕ) (r : Option ℕ) (st : Builder) → fold_refs (refs (behind ys r)) (step o M follow p) st ≡ opt_e r p (each_e ys p st)
  unfolding refs ref_of target targets word_of fold_refs step each_e opt_e
  behind-run [] none st = refl
  behind-run [] (some e) st = refl
  behind-run (y ∷ ys) r st = behind-run ys r (p y st)

  call-run : (f : ℕ) (ys : List ℕ) (r : Option ℕ) (st : Builder) → fold_refs (refs (flat_f (call f ys r))) (step o M follow p) st ≡ import_form o M follow p q (call f ys r) st
  unfolding flat_f flat_x refs ref_of target targets fold_refs step import_form
  call-run f ys r st = behind-run ys r (bring (follow f) st)

  -- a statement carried
  behind-carried : (m : Builder) (ys : List ℕ) (r : Option ℕ) → carry_cells (through (mapped_to M m)) (behind ys r) ≡ map (λ (x : ℕ). (EXPR, x)) (map (through (mapped_to M m) EXPR) ys) ++ ((OPT_RESULT, word_of (carry_opt (through (mapped_to M m)) OPT_RESULT r)) ∷ [])
  unfolding carry_cell carry_opt
  behind-carried m [] r = rw (word_of_lem (through (mapped_to M m) OPT_RESULT (word_of r)))
  behind-carried m (y ∷ ys) r = ap (λ (l : Cells). (EXPR, through (mapped_to M m) EXPR y) ∷ l) (behind-carried m ys r)

  call-carried : (f : ℕ) (ys : List ℕ) (r : Option ℕ) (m : Builder) → carried o M m (flat_f (call f ys r)) ≡ flat_f (carried_form o M follow p q m (call f ys r))
  unfolding carried carried_form
  call-carried f ys r m = calm-shift (mapped_to M m) (flat_f (call f ys r)) (call-calm f ys r) o false ∙ unfold flat_f flat_x carry_cell carry_f in cells
    where
      cells : ◌≡◌ {A = Cells} ((CALLEE, through (mapped_to M m) CALLEE f) ∷ (OPERANDS, through (mapped_to M m) OPERANDS (length ys)) ∷ carry_cells (through (mapped_to M m)) (behind ys r))
          ((CALLEE, through (mapped_to M m) CALLEE f) ∷ (OPERANDS, length (map (through (mapped_to M m) EXPR) ys)) ∷ (map (λ (x : ℕ). (EXPR, x)) (map (through (mapped_to M m) EXPR) ys) ++ ((OPT_RESULT, word_of (carry_opt (through (mapped_to M m)) OPT_RESULT r)) ∷ [])))
      cells = unfold through carry_w target targets in rw (length-map ys (through (mapped_to M m) EXPR), behind-carried m ys r)

  effect_carried : (k : ℕ) (cs : Cells) (m : Builder) → Calms cs → carried o M m cs ≡ flat_f (carried_form o M follow p q m (effect k cs))
  unfolding carried carried_form flat_f carry_f
  effect_carried k cs m a = calm-shift (mapped_to M m) cs a o false

inner : {d : ℕ} {b : Block Range} → OkB d b → (n : ℕ) × OkBs n b
inner (ok_deeper {d} w) = (d, w)

-- what a statement imports first
unfoldable begins : (ℕ → Builder → Builder) → Form Range → Builder → Builder
begins p (emit r) st = st
begins p (block b) st = st
begins p (branch c a b) st = st
begins p (switch c ks) st = st
begins p (loop a b x) st = st
begins p break st = st
begins p continue st = st
begins p (return x) st = st
begins p kill st = st
begins p (call f xs r) st = st
begins p (effect k cs) st = each_e (compares_of cs) p st

module _ (o : ℕ) (M : Module) (follow : ℕ → Derived → Derived) (p q : ℕ → Builder → Builder) where
  begins-early : (g : Form Range) {d : ℕ} → OkF d g → (a b : ℕ) (ts : Cells) (st : Builder) → early o M follow p q (kind_of g) ((SPAN, a) ∷ (UPTO, b) ∷ (flat_f g ++ ts)) st ≡ begins p g st
  unfolding early atomic_kind kind_of begins flat_f
  begins-early (emit r) w a b ts st = refl
  begins-early (block x) w a b ts st = refl
  begins-early (branch c x y) w a b ts st = refl
  begins-early (switch c ks) w a b ts st = refl
  begins-early (loop x y e) w a b ts st = refl
  begins-early break w a b ts st = refl
  begins-early continue w a b ts st = refl
  begins-early (return x) w a b ts st = refl
  begins-early kill w a b ts st = refl
  begins-early (call f xs r) w a b ts st = refl
  begins-early (effect k cs) (ok_effect e l) a b ts st = effect_early o M follow p q k e l a b ts st

module _ (c : Ctx) (ex : Exprs c) (init init' : ℕ → Bool) (n₀ : ℕ) (fin : Builder) (μ : Maps) (match : Match μ (place fin.memo) c.calls (mapped_to c.M fin)) (high : (k : ℕ) → n₀ ≤ k → init' k ≡ false)
    (p' q' : ℕ → Builder → Builder) (ways : Ways c ex init p' q') where
  abbrev K : List ℕ → List ℕ → Builder → Type 0
  K = Pre c ex init init' n₀ fin

  abbrev p : ℕ → Builder → Builder
  p = plain_c c

  abbrev q : ℕ → Builder → Builder
  q = quiet_c c

  abbrev go_f₁ : (ℕ → Builder → Builder) → (ℕ → Builder → Builder) → Form Range → Builder → Builder
  go_f₁ = import_form c.o c.M c.follow

  abbrev go_b₁ : (ℕ → Builder → Builder) → (ℕ → Builder → Builder) → Block Range → Builder → Builder
  go_b₁ = import_block c.o c.M c.follow

  abbrev PF : Form Range → Builder → Builder → Type 0
  PF = TF c.o c.M c.follow p p' q q'

  read-need : (e : ℕ) (ρ : List ℕ) (st : Builder) {ev : List ℕ} → K ev ρ st → vis (standing c.xs) ρ e ≡ true → p' e st ≡ p e st
  read-need e ρ st k v = ⊎_elim
      (λ s. ways.same e st k.inv (inr (standing_in c.xs e s, ex.stands_may e s, ex.bare e s)) (ways.stands e st s) ∙ sym (plain-need c ex e st (standing_in c.xs e s) (rw (ex.bare e s) tt)))
      (λ h. ways.same e st k.inv (inl h) (ways.has e st h) ∙ (need-idle c e st h ∙ sym (plain-idle c ex e st h)))
      (vis_is (standing c.xs) (Has st.memo) ρ e v k.scope)

  opt_need : (x : Option ℕ) (ρ : List ℕ) (st : Builder) {ev : List ℕ} → K ev ρ st → opt_vis (standing c.xs) ρ x ≡ true → opt_e x p' st ≡ opt_e x p st
  unfolding opt_e opt_vis
  opt_need none ρ st k v = refl
  opt_need (some x) ρ st k v = read-need x ρ st k v

  -- ---- an Emit
  emits : (r : Range) (ρ : List ℕ) (st : Builder) → K (live (in_range r) init) ρ st → ok_e c.xs (live (in_range r) init) ρ ≡ true → emitted c.xs (live (in_range r) init) ≡ true → PF (emit r) st st
  emits r ρ st k v z =
      let a = emit_need c ex init init' n₀ fin μ match high r ρ st k v in
      let h : (e : ℕ) → init e ≡ true → Has (each_e (in_range r) q st).memo e = λ e i. subst (λ (m : Builder). Has m.memo e) a.0 (range_keeps c.o c.M c.follow c.xs (in_range r) st e (k.inits e i)) in
      t_emit c.o c.M c.follow p p' q q' r st (ways.firsts r st k.inits z ∙ a.0) (ways.seconds r (each_e (in_range r) q st) h z ∙ a.1)

  -- ---- a call, and an effect: their operands are imported one after the other, each written at its turn
  call_passes : (h : ℕ) (ys : List ℕ) (r : Option ℕ) (ρ : List ℕ) (st : Builder) → Callee c h r → K (evals_opt r) ρ st → all_vis (standing c.xs) ρ ys ≡ true → call_result c.xs h r ≡ true
      → go_f₁ (need_c c) (glance_c c) (call h ys r) st ≡ go_f₁ p q (call h ys r) st → PF (call h ys r) st st
  unfolding rebuild_form OwnP Inside
  call_passes h ys r ρ st w k v z e =
      let ws = flat_f (call h ys r) in
      let d = fold_refs (refs ws) (step_c c (need_c c)) st in
      let a : AllN (InN c.M c.calls) (refs (behind ys r)) = behind-all _ ys r (all_mem _ ys (λ x m. tt)) (all_mem _ (evals_opt r) (λ x m. tt)) in
      let b : AllN (Own (Ready c ex st)) (refs (behind ys r)) = behind-all _ ys r (ready-vis c ex ρ ys st v k.scope) (ready-new c ex (evals_opt r) st k.inside k.may w.result) in
      let l : (st₁ : Builder) → 0 < known c.M st₁.out h → Ext c.M st st₁ → AllN (Own (ways.Light st₁)) (refs (behind ys r)) = λ st₁ n x. behind-all _ ys r (all_map ys (ways.light_ext st st₁ x) (light_vis c ex init p' q' ways ρ ys st v k.scope)) (ways.of_call h r st₁ z n) in
      let s : Lightly c ex init p' q' ways (refs ws) st d = subst (λ (js : List Node). Lightly c ex init p' q' ways js st (fold_refs js (step_c c (need_c c)) st)) (sym (call-refs h ys r)) (lightly_call c ex init p' q' ways h (refs (behind ys r)) st k.inv w.inside a b l) in
      let f = fields-carried c.o c.M c.follow p' q' (calm-fields ws (call-calm h ys r)) d st s.steady in
      subst (λ (m : Builder). T c.o c.M c.follow p p' q q' ws st m (flat_f (carried_form c.o c.M c.follow p q m (call h ys r)))) (call-run c.o c.M c.follow (need_c c) (glance_c c) h ys r st ∙ e)
      (rw (← call-carried c.o c.M c.follow p q h ys r d) (subst (λ (m : Builder). T c.o c.M c.follow p p' q q' ws st m (carried c.o c.M d ws)) s.same f))

  effect_passes : (n : ℕ) (cs : Cells) (ρ : List ℕ) (st : Builder) → Effect c cs → K (evals_opt (result_of cs)) ρ st → all_vis (standing c.xs) ρ (ops_of cs) ≡ true → effect_result c.xs n (result_of cs) ≡ true
      → go_f₁ (need_c c) (glance_c c) (effect n cs) st ≡ go_f₁ p q (effect n cs) st → PF (effect n cs) (each_e (compares_of cs) p' st) st
  unfolding flat_f import_form rebuild_form
  effect_passes n cs ρ st w k v z e =
      let r = ready-vis c ex ρ (ops_of cs) st v k.scope in
      let l = light_vis c ex init p' q' ways ρ (ops_of cs) st v k.scope in
      let rc = all_mem (Ready c ex st) (compares_of cs) (λ x m. mem_all _ (w.compares x m) r) in
      let y = ran c ex (compares_of cs) st k.inv rc in
      let st₁ = each_e (compares_of cs) (need_c c) st in
      let d = fold_refs (refs cs) (step_c c (need_c c)) st₁ in
      let m = all_append (Ready c ex st₁) (ops_of cs) (evals_opt (result_of cs)) (all_map (ops_of cs) (ready_ext c ex y.ext) r) (ready-new c ex (evals_opt (result_of cs)) st₁ k.inside k.may w.result) in
      let n' = all_append (ways.Light st₁) (ops_of cs) (evals_opt (result_of cs)) (all_map (ops_of cs) (ways.light_ext st st₁ y.ext) l) (ways.of_effect n (result_of cs) st₁ z) in
      let s = lightly c ex init p' q' ways (refs cs) st₁ y.inv w.inside (owns-all (Ready c ex st₁) (refs cs) (rw w.owned m)) (owns-all (ways.Light st₁) (refs cs) (rw w.owned n')) in
      let f = fields-carried c.o c.M c.follow p' q' (calm-fields cs (effect_calm w.shape)) d st₁ s.steady in
      rw (light_all c ex init p' q' ways (compares_of cs) st k.inv rc (all_mem (ways.Light st) (compares_of cs) (λ x m. mem_all _ (w.compares x m) l)))
      (subst (λ (m : Builder). T c.o c.M c.follow p p' q q' cs st₁ m (flat_f (carried_form c.o c.M c.follow p q m (effect n cs)))) e
      (rw (← effect_carried c.o c.M c.follow p q n cs d (effect_calm w.shape)) (subst (λ (m : Builder). T c.o c.M c.follow p p' q q' cs st₁ m (carried c.o c.M d cs)) s.same f)))

  mutual
    unfolding import_form rebuild_form expand_f ok_f evals_f FitF add_f add_s top_b cont_b begins kinds_f

    pass_s : (s : Stmt Range) {d : ℕ} → OkS d s → (ρ : List ℕ) (st : Builder) → FitS s c → K (evals_s (expand_s s init)) ρ st → ok_s (expand_s s init) c.xs ρ ≡ true → kinds_s (expand_s s init) c.xs ≡ true → TS c.o c.M c.follow p p' q q' s st
    pass_s (stmt a b g) (ok_stmt l) ρ st w k v z = t_stmt c.o c.M c.follow p p' q q' a b g st (begins p' g st) (λ ts. begins-early c.o c.M c.follow p' q' g l a b ts st) (pass_f g l ρ st w k v z)

    pass_f : (g : Form Range) {d : ℕ} → OkF d g → (ρ : List ℕ) (st : Builder) → FitF g c → K (evals_f (expand_f g init)) ρ st → ok_f (expand_f g init) c.xs ρ ≡ true → kinds_f (expand_f g init) c.xs ≡ true → PF g (begins p' g st) st
    pass_f (emit r) l ρ st w k v z = emits r ρ st k v z
    pass_f (block b) (ok_block l) ρ st w k v z = t_block c.o c.M c.follow p p' q q' b st (pass_b b (inner l).1 ρ st w k v z)
    pass_f (branch e a b) (ok_branch l m) ρ st w k v z =
        let z₁ = and_split (kinds_b (expand a init) c.xs) _ z in
        let ea = evals_b (expand a init) in
        let eb = evals_b (expand b init) in
        let t = and_split (vis (standing c.xs) ρ e) _ v in
        let t₁ = and_split (ok_b (expand a init) c.xs ρ) _ t.1 in
        let k₁ = pre_same c ex init init' n₀ fin _ ρ k (read c ex init init' n₀ fin e ρ st k t.0) in
        let d₁ = does_b c ex init init' n₀ fin μ match high (λ cs. Unit {0}) (no_room c fin μ) a ρ (p e st) w.0 (pre_l c ex init init' n₀ fin ea eb ρ k₁) t₁.0 in
        let k₂ = pre_next c ex init init' n₀ fin ea eb ρ ρ k₁ d₁ (all_map ρ (ext_has c.M d₁.ext) k₁.scope) in
        let x = pass_b a (inner l).1 ρ (p e st) w.0 (pre_l c ex init init' n₀ fin ea eb ρ k₁) t₁.0 z₁.0 in
        let y = pass_b b (inner m).1 ρ (go_b₁ p q a (p e st)) w.1 k₂ t₁.1 z₁.1 in
        t_branch c.o c.M c.follow p p' q q' e a b st (read-need e ρ st k t.0) x y
    pass_f (switch e ks) (ok_switch l) ρ st w k v z =
        let t = and_split (vis (standing c.xs) ρ e) _ v in
        let k₁ = pre_same c ex init init' n₀ fin _ ρ k (read c ex init init' n₀ fin e ρ st k t.0) in
        let x = pass_c ks l ρ (p e st) w k₁ t.1 z in
        t_switch c.o c.M c.follow p p' q q' e ks st (read-need e ρ st k t.0) x
    pass_f (loop a b o) (ok_loop l m) ρ st w k v z =
        let z₁ = and_split (kinds_b (expand a init) c.xs) _ z in
        let ea = evals_b (expand a init) in
        let eb = evals_b (expand b init) in
        let ρb = cont_b (expand a init) ρ in
        let t = and_split (ok_b (expand a init) c.xs ρ) _ v in
        let t₁ = and_split (ok_b (expand b init) c.xs ρb) _ t.1 in
        let k₀ = pre_l c ex init init' n₀ fin ea eb ρ k in
        let d = does_b c ex init init' n₀ fin μ match high (λ cs. Unit {0}) (no_room c fin μ) a ρ st w.0 k₀ t.0 in
        let s₁ = all_cont _ (expand a init) ρ (all_map ρ (ext_has c.M d.ext) k.scope) d.has in
        let k₁ = pre_next c ex init init' n₀ fin ea eb ρ ρb k d s₁ in
        let d₁ = does_b c ex init init' n₀ fin μ match high (λ cs. Unit {0}) (no_room c fin μ) b ρb (go_b₁ p q a st) w.1 k₁ t₁.0 in
        let s₂ = all-top _ (expand b init) ρb (all_map ρb (ext_has c.M d₁.ext) s₁) d₁.has in
        let k₂ = pre_end c ex init init' n₀ fin eb ρb (top_b (expand b init) ρb) k₁ d₁ s₂ in
        let x₀ = pass_b a (inner l).1 ρ st w.0 k₀ t.0 z₁.0 in
        let x₁ = pass_b b (inner m).1 ρb (go_b₁ p q a st) w.1 k₁ t₁.0 z₁.1 in
        let x₂ = opt_need o (top_b (expand b init) ρb) (go_b₁ p q b (go_b₁ p q a st)) k₂ t₁.1 in
        t_loop c.o c.M c.follow p p' q q' a b o st x₀ x₁ x₂
    pass_f break l ρ st w k v z = t_break c.o c.M c.follow p p' q q' st
    pass_f continue l ρ st w k v z = t_continue c.o c.M c.follow p p' q q' st
    pass_f (return o) l ρ st w k v z = t_return c.o c.M c.follow p p' q q' o st (opt_need o ρ st k v)
    pass_f kill l ρ st w k v z = t_kill c.o c.M c.follow p p' q q' st
    pass_f (call h ys r) l ρ st w k v z = call_passes h ys r ρ st w k v z (quick_f c ex init init' n₀ fin μ match high (call h ys r) ρ st w k v).0
    pass_f (effect n cs) l ρ st w k v z = effect_passes n cs ρ st w k v z (quick_f c ex init init' n₀ fin μ match high (effect n cs) ρ st w k v).0

    pub pass_b : (b : Block Range) {d : ℕ} → OkBs d b → (ρ : List ℕ) (st : Builder) → FitB b c → K (evals_b (expand b init)) ρ st → ok_b (expand b init) c.xs ρ ≡ true → kinds_b (expand b init) c.xs ≡ true → TB c.o c.M c.follow p p' q q' b st
    pass_b end l ρ st w k v z = t_end c.o c.M c.follow p p' q q' st
    pass_b (s then b) (ok_then l m) ρ st w k v z =
        let z₁ = and_split (kinds_s (expand_s s init) c.xs) _ z in
        let es = evals_s (expand_s s init) in
        let eb = evals_b (expand b init) in
        let t = and_split (ok_s (expand_s s init) c.xs ρ) _ v in
        let k₀ = pre_l c ex init init' n₀ fin es eb ρ k in
        let d = does_s c ex init init' n₀ fin μ match high (λ cs. Unit {0}) (no_room c fin μ) s ρ st w.0 k₀ t.0 in
        let k₁ = pre_next c ex init init' n₀ fin es eb ρ (add_s (expand_s s init) ρ) k d (all-add_s _ (expand_s s init) ρ (all_map ρ (ext_has c.M d.ext) k.scope) d.has) in
        let x = pass_s s l ρ st w.0 k₀ t.0 z₁.0 in
        let y = pass_b b m (add_s (expand_s s init) ρ) (import_stmt c.o c.M c.follow p q s st) w.1 k₁ t.1 z₁.1 in
        t_then c.o c.M c.follow p p' q q' s b st x y

    pass_k : (g : Case Range) {d : ℕ} → OkK d g → (ρ : List ℕ) (st : Builder) → FitK g c → K (evals_k (expand_k g init)) ρ st → ok_k (expand_k g init) c.xs ρ ≡ true → kinds_k (expand_k g init) c.xs ≡ true → TK c.o c.M c.follow p p' q q' g st
    pass_k (case a b t) (ok_case x l) ρ st w k v z = t_case c.o c.M c.follow p p' q q' a b t st (value_copies x) (pass_b b (inner l).1 ρ st w.1 k v z)

    pass_c : (ks : Cases Range) {d : ℕ} → OkC d ks → (ρ : List ℕ) (st : Builder) → FitC ks c → K (evals_c (expand_c ks init)) ρ st → ok_c (expand_c ks init) c.xs ρ ≡ true → kinds_c (expand_c ks init) c.xs ≡ true → TC c.o c.M c.follow p p' q q' ks st
    pass_c nomore l ρ st w k v z = t_nomore c.o c.M c.follow p p' q q' st
    pass_c (g also ks) (ok_also l m) ρ st w k v z =
        let z₁ = and_split (kinds_k (expand_k g init) c.xs) _ z in
        let eb = evals_k (expand_k g init) in
        let ek = evals_c (expand_c ks init) in
        let t = and_split (ok_k (expand_k g init) c.xs ρ) _ v in
        let k₀ = pre_l c ex init init' n₀ fin eb ek ρ k in
        let d = does_k c ex init init' n₀ fin μ match high (λ cs. Unit {0}) (no_room c fin μ) g ρ st w.0 k₀ t.0 in
        let k₁ = pre_next c ex init init' n₀ fin eb ek ρ ρ k d (all_map ρ (ext_has c.M d.ext) k.scope) in
        let x = pass_k g l ρ st w.0 k₀ t.0 z₁.0 in
        let y = pass_c ks m ρ (import_case c.o c.M c.follow p q g st) w.1 k₁ t.1 z₁.1 in
        t_also c.o c.M c.follow p p' q q' g ks st x y

-- THE BODY of a function that passed intake, in any of these ways
module _ (o : ℕ) (M : Module) (follow : ℕ → Derived → Derived) (Q : ℕ → Type 0) (G : Derived → Type 0) (law : Law o M follow Q G) (F : Function) (fine : Fine (ctx o M follow Q G law F) F) {d : ℕ} (ok : OkB d F.body) (six : scoped F ≡ true) (s : Derived) (good : G s) where
  abbrev dec : Builder
  dec = declared o M follow F s

  abbrev c : Ctx
  c = ctx o M follow Q G law F

  kinds_seen : kinds_b (seen F) F.exprs ≡ true
  unfolding seen all_of scoped scoped_as
  kinds_seen = kinds_b_drop (marked (initials F)) F.exprs F.body (and_split (kinds_b (all_of F) F.exprs) _ (and_split (shape_b (seen F) in_body) _ six).1).0

  pub body-ways : (p' q' : ℕ → Builder → Builder) → Ways c fine.exprs (marked (initials F)) p' q' → Passage o M follow p' q' (flat_block F.body) dec (walked o M follow F dec) (flat_block (rebuilt o M follow F dec))
  unfolding walked rebuilt seen
  body-ways p' q' ways =
      t_body o M follow _ p' _ q' F.body dec
      (pass_b c fine.exprs (marked (initials F)) (λ k. false) (length dec.made) (final o M follow F s) (maps_of (mapped_to M (final o M follow F s))) (maps_match M Q (final o M follow F s)) (λ k l. refl) p' q' ways
      F.body (inner ok).1 [] dec fine.fit (before o M follow Q G law F fine s good (λ k. false)) fine.scope (unfold seen in kinds_seen))

  -- `need` and `glance` themselves
  itself : Ways c fine.exprs (marked (initials F)) (need o M follow F.exprs) (glance o M follow F.exprs)
  itself = record {
    Light = λ st e. Unit {0};
    light_ext = λ st st' x e l. tt;
    same = λ e st i r l. refl;
    stands = λ e st h. tt;
    has = λ e st h. tt;
    of_effect = λ n r st h. all_mem _ (evals_opt r) (λ x m. tt);
    of_call = λ f r st h k. all_mem _ (evals_opt r) (λ x m. tt);
    firsts = λ r st h z. refl;
    seconds = λ r st h z. refl;
  }

  pub body_passage : Passage o M follow (need o M follow F.exprs) (glance o M follow F.exprs) (flat_block F.body) dec (walked o M follow F dec) (flat_block (rebuilt o M follow F dec))
  body_passage = body-ways (need o M follow F.exprs) (glance o M follow F.exprs) itself

  pub body-after : body_after o M follow F dec ≡ walked o M follow F dec
  unfolding body_after
  body-after = alone-after o M follow _ _ body_passage

  pub body-written : body_written o M follow F dec ≡ flat_block (rebuilt o M follow F dec)
  unfolding body_written
  body-written = alone-written o M follow _ _ body_passage false
