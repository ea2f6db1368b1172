-- The whole body imported without recursion into expressions: `need` for an operand, `glance` for the first pass of an Emit. The same state, the same body. This is the form for the code.
use Rattle.std.specs.Prelude.{ℕ, ◌<◌, ◌≤◌, Bool, true, false, length}
use Rattle.std.proofs.Math.Path.{◌≡◌, refl, ap}
use Rattle.std.proofs.Common.{sym, ◌∙◌, ⊎_elim, arith}
use mathlib.Core.List.{List, [], ◌∷◌}
use Rattle.std.proofs.Math.Option.{Option, none, some}
use Rattle.theory_lists.specs.Booleans.{and_split}
use Rattle.model.specs.Outcome.{Cells}
use Rattle.model.specs.Module.{Module}
use Rattle.model.specs.Tree.{Stmt, stmt, Form, emit, block, branch, switch, loop, break, continue, return, kill, call, effect, Block, end, ◌then◌, Case, case, Cases, nomore, ◌also◌, Range, Function}
use Rattle.model.specs.Carry.{carry_f}
use Rattle.model.specs.References.{Place, table, own, function, Node, refs, fold_refs, through}
use Rattle.model.specs.Operands.{ops_of, result_of, ops, standing}
use Rattle.model.specs.Initial.{marked, initials}
use Rattle.model.specs.Scope.{in_range, live, expand_s, expand_f, expand, expand_k, expand_c, evals_opt, evals_s, evals_f, evals_b, evals_k, evals_c, add_f, add_s, top_b, cont_b, vis, all_vis, opt_vis, ok_e, ok_s, ok_f, ok_b, ok_k, ok_c, seen}
use Rattle.model.specs.Imports.{Derived}
use Rattle.model.specs.Bodies.{Builder, bring, mapped_to, step, each_e, opt_e, compares_of, import_stmt, import_form, import_block, import_case, import_cases, carried_form, rebuild_stmt, rebuild_form, rebuild_block, rebuild_case, rebuild_cases, declared, walked, rebuilt, final}
use Rattle.theory_walks.specs.Agreement.{Maps}
use Rattle.theory_records.specs.RecordLaws.{All as AllN}
use Rattle.theory_bodies.specs.Lists.{All, Distinct, all_map, all_both}
use Rattle.theory_bodies.specs.Context.{Inside, InN, outer, Law, Ctx, own_of, owns}
use Rattle.theory_bodies.specs.Inv.{Has, Un, place, ext_has, Inv}
use Rattle.theory_bodies.specs.Carried.{Match}
use Rattle.theory_bodies.specs.Steps.{vis_is, Lives, l_end, l_skip, l_keep, lives, Exprs, plain_c, quiet_c, step_c, plain_ready, plain-idle, Under, now_has, pass1}
use Rattle.theory_bodies.specs.Body.{all-add_s, all-top, all_cont, standing_in, Effect, Callee, FitS, FitF, FitB, FitK, FitC, Turns, t_read, t_eval, turns, vis_sub, no_room, Pre, pre_l, pre_next, pre_same, pre_end, read, reads, brings, result1, does_s, does_b, does_k}
use Rattle.theory_bodies.specs.Shallow.{need, glance, need_c, glance_c, need-idle, s_has, plain-need, pass1_glance}
use Rattle.theory_bodies.specs.Function.{Fine, ctx, maps_of, maps_match, before}

-- ---- a statement is made alike where its parts are
module _ (o : ℕ) (M : Module) (follow : ℕ → Derived → Derived) (p p' q q' : ℕ → Builder → Builder) where
  -- the same state, and the same part made
  abbrev pub SameS : Stmt Range → Builder → Type 0
  SameS s st = (import_stmt o M follow p' q' s st ≡ import_stmt o M follow p q s st) × (rebuild_stmt o M follow p' q' s st ≡ rebuild_stmt o M follow p q s st)

  abbrev pub SameF : Form Range → Builder → Type 0
  SameF g st = (import_form o M follow p' q' g st ≡ import_form o M follow p q g st) × (rebuild_form o M follow p' q' g st ≡ rebuild_form o M follow p q g st)

  abbrev pub SameB : Block Range → Builder → Type 0
  SameB b st = (import_block o M follow p' q' b st ≡ import_block o M follow p q b st) × (rebuild_block o M follow p' q' b st ≡ rebuild_block o M follow p q b st)

  abbrev pub SameK : Case Range → Builder → Type 0
  SameK k st = (import_case o M follow p' q' k st ≡ import_case o M follow p q k st) × (rebuild_case o M follow p' q' k st ≡ rebuild_case o M follow p q k st)

  abbrev pub SameC : Cases Range → Builder → Type 0
  SameC ks st = (import_cases o M follow p' q' ks st ≡ import_cases o M follow p q ks st) × (rebuild_cases o M follow p' q' ks st ≡ rebuild_cases o M follow p q ks st)

  same_stmt : (a b : ℕ) (g : Form Range) (st : Builder) → SameF g st → SameS (stmt a b g) st
  unfolding import_form rebuild_form
  same_stmt a b g st z = (z.0, rw z.1)

  same_emit : (r : Range) (st : Builder) → each_e (in_range r) q' st ≡ each_e (in_range r) q st → each_e (in_range r) p' (each_e (in_range r) q st) ≡ each_e (in_range r) p (each_e (in_range r) q st) → SameF (emit r) st
  unfolding import_form rebuild_form
  same_emit r st x y = (rw x y, rw (x, y))

  same_block : (b : Block Range) (st : Builder) → SameB b st → SameF (block b) st
  unfolding import_form rebuild_form
  same_block b st z = (z.0, ap block z.1)

  same_branch : (e : ℕ) (a b : Block Range) (st : Builder) → p' e st ≡ p e st → SameB a (p e st) → SameB b (import_block o M follow p q a (p e st)) → SameF (branch e a b) st
  unfolding import_form rebuild_form
  same_branch e a b st z x y = (rw (z, x.0) y.0, rw (z, x.0, x.1, y.1))

  same_switch : (e : ℕ) (ks : Cases Range) (st : Builder) → p' e st ≡ p e st → SameC ks (p e st) → SameF (switch e ks) st
  unfolding import_form rebuild_form
  same_switch e ks st z x = (rw z x.0, rw (z, x.1))

  same_loop : (a b : Block Range) (x : Option ℕ) (st : Builder) → SameB a st → SameB b (import_block o M follow p q a st) → opt_e x p' (import_block o M follow p q b (import_block o M follow p q a st)) ≡ opt_e x p (import_block o M follow p q b (import_block o M follow p q a st)) → SameF (loop a b x) st
  unfolding import_form rebuild_form
  same_loop a b x st u v w = (rw (u.0, v.0) w, rw (u.0, v.0, u.1, v.1, w))

  same_return : (x : Option ℕ) (st : Builder) → opt_e x p' st ≡ opt_e x p st → SameF (return x) st
  unfolding import_form rebuild_form carried_form
  same_return x st z = (z, rw z)

  same-call : (h : ℕ) (ys : List ℕ) (r : Option ℕ) (st : Builder) → import_form o M follow p' q' (call h ys r) st ≡ import_form o M follow p q (call h ys r) st → SameF (call h ys r) st
  unfolding rebuild_form carried_form
  same-call h ys r st z = (z, ap (λ (m : Builder). carry_f (through (mapped_to M m)) (call h ys r)) z)

  same_effect : (n : ℕ) (cs : Cells) (st : Builder) → import_form o M follow p' q' (effect n cs) st ≡ import_form o M follow p q (effect n cs) st → SameF (effect n cs) st
  unfolding rebuild_form carried_form
  same_effect n cs st z = (z, ap (λ (m : Builder). carry_f (through (mapped_to M m)) (effect n cs)) z)

  same_then : (s : Stmt Range) (b : Block Range) (st : Builder) → SameS s st → SameB b (import_stmt o M follow p q s st) → SameB (s then b) st
  unfolding import_form rebuild_form
  same_then s b st x y = (rw x.0 y.0, rw (x.0, x.1, y.1))

  same_case : (v : Cells) (b : Block Range) (f : ℕ) (st : Builder) → SameB b st → SameK (case v b f) st
  unfolding import_form rebuild_form
  same_case v b f st z = (z.0, ap (λ (y : Block Range). case v y f) z.1)

  same_also : (k : Case Range) (ks : Cases Range) (st : Builder) → SameK k st → SameC ks (import_case o M follow p q k st) → SameC (k also ks) st
  unfolding import_form rebuild_form
  same_also k ks st x y = (rw x.0 y.0, rw (x.0, x.1, y.1))

module _ (c : Ctx) (ex : Exprs c) (init init' : ℕ → Bool) (n₀ : ℕ) (fin : Builder) (μ : Maps) (match : Match μ (place fin.memo) c.calls (mapped_to c.M fin)) (high : (k : ℕ) → n₀ ≤ k → init' k ≡ false) where
  abbrev K : List ℕ → List ℕ → Builder → Type 0
  K = Pre c ex init init' n₀ fin

  abbrev p : ℕ → Builder → Builder
  p = plain_c c

  abbrev p' : ℕ → Builder → Builder
  p' = need_c c

  abbrev q : ℕ → Builder → Builder
  q = quiet_c c

  abbrev q' : ℕ → Builder → Builder
  q' = glance_c c

  read-need : (e : ℕ) (ρ : List ℕ) (st : Builder) {ev : List ℕ} → K ev ρ st → vis (standing c.xs) ρ e ≡ true → p' e st ≡ p e st
  read-need e ρ st k v = ⊎_elim
      (λ s. sym (plain-need c ex e st (standing_in c.xs e s) (rw (ex.bare e s) tt)))
      (λ h. need-idle c e st h ∙ sym (plain-idle c ex e st h))
      (vis_is (standing c.xs) (Has st.memo) ρ e v k.scope)

  reads-need : (xs ρ : List ℕ) (st : Builder) {ev : List ℕ} → K ev ρ st → all_vis (standing c.xs) ρ xs ≡ true → each_e xs p' st ≡ each_e xs p st
  unfolding each_e all_vis
  reads-need [] ρ st k v = refl
  reads-need (x ∷ xs) ρ st {ev} k v =
      let t = and_split (vis (standing c.xs) ρ x) _ v in
      rw (read-need x ρ st k t.0) (reads-need xs ρ (p x st) (pre_same c ex init init' n₀ fin ev ρ k (read c ex init init' n₀ fin x ρ st k t.0)) t.1)

  opt_need : (x : Option ℕ) (ρ : List ℕ) (st : Builder) {ev : List ℕ} → K ev ρ st → opt_vis (standing c.xs) ρ x ≡ true → opt_e x p' st ≡ opt_e x p st
  unfolding opt_e opt_vis
  opt_need none ρ st k v = refl
  opt_need (some x) ρ st k v = read-need x ρ st k v

  result1_need : (e : ℕ) (ρ : List ℕ) (st : Builder) → K (e ∷ []) ρ st → ops c.xs e ≡ [] → p' e st ≡ p e st
  result1_need e ρ st k b = sym (plain-need c ex e st k.inside.0 (rw b tt))

  result_need : (r : Option ℕ) (ρ : List ℕ) (st : Builder) → K (evals_opt r) ρ st → All (λ e. ops c.xs e ≡ []) (evals_opt r) → opt_e r p' st ≡ opt_e r p st
  unfolding opt_e evals_opt
  result_need none ρ st k b = refl
  result_need (some e) ρ st k b = result1_need e ρ st k b.0

  -- one reference
  record Turned (ρ rest : List ℕ) (s : Place) (n : ℕ) (st : Builder) : Type 0 where
    ev : List ℕ
    pre : K ev ρ (step_c c p s n st)
    left : Turns c ρ rest ev
    same : step_c c p' s n st ≡ step_c c p s n st

  mine : (ρ rest : List ℕ) (n : ℕ) (st : Builder) (ev : List ℕ) → K ev ρ st → Turns c ρ (n ∷ rest) ev → Turned ρ rest own n st
  unfolding step
  mine ρ rest n st ev k (t_read v t) = record { ev = ev; pre = pre_same c ex init init' n₀ fin ev ρ k (read c ex init init' n₀ fin n ρ st k v); left = t; same = read-need n ρ st k v }
  mine ρ rest n st ev k (t_eval b t) =
      let d = result1 c ex init init' n₀ fin n ρ st k b in
      record { ev = []; pre = pre_end c ex init init' n₀ fin (n ∷ []) ρ ρ k d (all_map ρ (ext_has c.M d.ext) k.scope); left = t; same = result1_need n ρ st k b }

  turned : (ρ rest : List ℕ) (s : Place) (n : ℕ) (st : Builder) (ev : List ℕ) → K ev ρ st → Inside c.M c.calls s n → Turns c ρ (own_of s n rest) ev → Turned ρ rest s n st
  unfolding step outer own_of
  turned ρ rest (table u) n st ev k w t = record { ev = ev; pre = pre_same c ex init init' n₀ fin ev ρ k (brings c ex init init' n₀ fin (table u) n st w (λ q. (let e : ◌≡◌ {A = ℕ} 0 1 = cc in omega arith)) k); left = t; same = refl }
  turned ρ rest own n st ev k w t = mine ρ rest n st ev k t
  turned ρ rest function n st ev k w t = record { ev = ev; pre = pre_same c ex init init' n₀ fin ev ρ k (brings c ex init init' n₀ fin function n st w (λ q. (let e : ◌≡◌ {A = ℕ} 0 1 = cc in omega arith)) k); left = t; same = refl }

  nodes_need : (js : List Node) (ev ρ : List ℕ) (st : Builder) → K ev ρ st → AllN (InN c.M c.calls) js → Turns c ρ (owns js) ev → fold_refs js (step_c c p') st ≡ fold_refs js (step_c c p) st
  unfolding fold_refs owns
  nodes_need [] ev ρ st k w t = refl
  nodes_need (j ∷ js) ev ρ st k w t =
      let r = turned ρ (owns js) j.place j.num st ev k w.0 t in
      rw r.same (nodes_need js r.ev ρ (step_c c p j.place j.num st) r.pre w.1 r.left)

  -- the second pass
  pass2_need : {es ls : List ℕ} → Lives init es ls → (ρ : List ℕ) (st : Builder) → ((e : ℕ) → init e ≡ true → Has st.memo e) → Inv c st → All (Has st.memo) ρ
      → ok_e c.xs ls ρ ≡ true → All (Under c ex init st) ls
      → All (λ x. x < length c.xs) ls → All c.may ls → All (Un st.memo) ls → Distinct ls
      → each_e es p' st ≡ each_e es p st
  unfolding each_e ok_e
  pass2_need l_end ρ st h i v k b l w u d = refl
  pass2_need (l_skip {e = e} x m) ρ st h i v k b l w u d = rw (need-idle c e st (h e x), plain-idle c ex e st (h e x)) (pass2_need m ρ st h i v k b l w u d)
  pass2_need (l_keep {e = e} {ls = ls} m) ρ st h i v k b l w u d =
      let t = and_split (all_vis (standing c.xs) ρ (ops c.xs e)) _ k in
      let a = now_has c ex init ρ st e v t.0 b.0 in
      let r = plain_ready c ex e st i l.0 w.0 u.0 a in
      rw (← plain-need c ex e st l.0 a)
      (pass2_need m (e ∷ ρ) (p e st)
      (λ x y. ext_has c.M r.ext x (h x y)) r.inv (omega (arith, r.at), all_map ρ (ext_has c.M r.ext) v) t.1
      (all_map ls (λ y w. all_map (ops c.xs y) (λ x f z. ext_has c.M r.ext x (f z)) w) b.1) l.1 w.1
      (all_both ls (λ y n w. r.other y (λ z. n (sym z)) ∙ w) d.0 u.1) d.1)

  -- AN EMIT: both passes one level deep
  pub emit_need : (r : Range) (ρ : List ℕ) (st : Builder) → K (live (in_range r) init) ρ st → ok_e c.xs (live (in_range r) init) ρ ≡ true
      → (each_e (in_range r) q' st ≡ each_e (in_range r) q st) × (each_e (in_range r) p' (each_e (in_range r) q st) ≡ each_e (in_range r) p (each_e (in_range r) q st))
  emit_need r ρ st k v =
      let es = live (in_range r) init in
      let a = pass1 c ex init (lives init (in_range r)) st k.inits k.inside k.may k.inv k.shared in
      let u = all_both es (λ y h w. a.apart y h w) k.hard k.un in (
        sym (pass1_glance c ex init (lives init (in_range r)) ρ st k.inits k.inv (all_map ρ (λ x h. s_has h) k.scope) v k.inside k.may k.hard).0,
        pass2_need (lives init (in_range r)) ρ (each_e (in_range r) q st) (λ e h. ext_has c.M a.ext e (k.inits e h)) a.inv
            (all_map ρ (ext_has c.M a.ext) k.scope) v (all_both es (λ e j w. j w) a.under u) k.inside k.may u k.once,
      )

  -- ---- statements
  abbrev go_f₁ : (ℕ → Builder → Builder) → (ℕ → Builder → Builder) → Form Range → Builder → Builder
  go_f₁ = import_form c.o c.M c.follow

  abbrev go_b₁ : (ℕ → Builder → Builder) → (ℕ → Builder → Builder) → Block Range → Builder → Builder
  go_b₁ = import_block c.o c.M c.follow

  abbrev mk_f₁ : (ℕ → Builder → Builder) → (ℕ → Builder → Builder) → Form Range → Builder → Form Range
  mk_f₁ = rebuild_form c.o c.M c.follow

  called : (h : ℕ) (st : Builder) {ev ρ : List ℕ} → Inside c.M c.calls function h → K ev ρ st → K ev ρ (bring (c.follow h) st)
  unfolding outer
  called h st {ev} {ρ} w k = pre_same c ex init init' n₀ fin ev ρ k (brings c ex init init' n₀ fin function h st w (λ q. (let e : ◌≡◌ {A = ℕ} 0 1 = cc in omega arith)) k)

  call-need : (h : ℕ) (ys : List ℕ) (r : Option ℕ) (ρ : List ℕ) (st : Builder) → Callee c h r → K (evals_opt r) ρ st → all_vis (standing c.xs) ρ ys ≡ true
      → go_f₁ p' q' (call h ys r) st ≡ go_f₁ p q (call h ys r) st
  unfolding import_form
  call-need h ys r ρ st w k v =
      let k₁ = called h st w.inside k in
      let k₂ = pre_same c ex init init' n₀ fin _ ρ k₁ (reads c ex init init' n₀ fin ys ρ (bring (c.follow h) st) k₁ v) in
      rw (reads-need ys ρ (bring (c.follow h) st) k₁ v) (result_need r ρ (each_e ys p (bring (c.follow h) st)) k₂ w.result)

  effect_need : (n : ℕ) (cs : Cells) (ρ : List ℕ) (st : Builder) → Effect c cs → K (evals_opt (result_of cs)) ρ st → all_vis (standing c.xs) ρ (ops_of cs) ≡ true
      → go_f₁ p' q' (effect n cs) st ≡ go_f₁ p q (effect n cs) st
  unfolding import_form
  effect_need n cs ρ st w k v =
      let v₁ = vis_sub (standing c.xs) ρ (ops_of cs) (compares_of cs) v w.compares in
      let k₁ = pre_same c ex init init' n₀ fin _ ρ k (reads c ex init init' n₀ fin (compares_of cs) ρ st k v₁) in
      rw (reads-need (compares_of cs) ρ st k v₁)
      (nodes_need (refs cs) (evals_opt (result_of cs)) ρ (each_e (compares_of cs) p st) k₁ w.inside (rw w.owned (turns c ρ (ops_of cs) (result_of cs) v w.result)))

  mutual
    unfolding import_form rebuild_form expand_f ok_f evals_f FitF add_f add_s top_b cont_b

    pub quick_s : (s : Stmt Range) (ρ : List ℕ) (st : Builder) → FitS s c → K (evals_s (expand_s s init)) ρ st → ok_s (expand_s s init) c.xs ρ ≡ true
        → SameS c.o c.M c.follow p p' q q' s st
    quick_s (stmt a b g) ρ st w k v = let z = quick_f g ρ st w k v in same_stmt c.o c.M c.follow p p' q q' a b g st z

    pub quick_f : (g : Form Range) (ρ : List ℕ) (st : Builder) → FitF g c → K (evals_f (expand_f g init)) ρ st → ok_f (expand_f g init) c.xs ρ ≡ true
        → SameF c.o c.M c.follow p p' q q' g st
    quick_f (emit r) ρ st w k v = let z = emit_need r ρ st k v in same_emit c.o c.M c.follow p p' q q' r st z.0 z.1
    quick_f (block b) ρ st w k v = same_block c.o c.M c.follow p p' q q' b st (quick_b b ρ st w k v)
    quick_f (branch e a b) ρ st w k v =
        let ea = evals_b (expand a init) in
        let eb = evals_b (expand b init) in
        let t = and_split (vis (standing c.xs) ρ e) _ v in
        let t₁ = and_split (ok_b (expand a init) c.xs ρ) _ t.1 in
        let k₁ = pre_same c ex init init' n₀ fin _ ρ k (read c ex init init' n₀ fin e ρ st k t.0) in
        let d₁ = does_b c ex init init' n₀ fin μ match high (λ cs. Unit {0}) (no_room c fin μ) a ρ (p e st) w.0 (pre_l c ex init init' n₀ fin ea eb ρ k₁) t₁.0 in
        let k₂ = pre_next c ex init init' n₀ fin ea eb ρ ρ k₁ d₁ (all_map ρ (ext_has c.M d₁.ext) k₁.scope) in
        let x = quick_b a ρ (p e st) w.0 (pre_l c ex init init' n₀ fin ea eb ρ k₁) t₁.0 in
        let y = quick_b b ρ (go_b₁ p q a (p e st)) w.1 k₂ t₁.1 in
        let z = read-need e ρ st k t.0 in
        same_branch c.o c.M c.follow p p' q q' e a b st z x y
    quick_f (switch e ks) ρ st w k v =
        let t = and_split (vis (standing c.xs) ρ e) _ v in
        let k₁ = pre_same c ex init init' n₀ fin _ ρ k (read c ex init init' n₀ fin e ρ st k t.0) in
        let x = quick_c ks ρ (p e st) w k₁ t.1 in
        let z = read-need e ρ st k t.0 in
        same_switch c.o c.M c.follow p p' q q' e ks st z x
    quick_f (loop a b o) ρ st w k v =
        let ea = evals_b (expand a init) in
        let eb = evals_b (expand b init) in
        let ρb = cont_b (expand a init) ρ in
        let t = and_split (ok_b (expand a init) c.xs ρ) _ v in
        let t₁ = and_split (ok_b (expand b init) c.xs ρb) _ t.1 in
        let k₀ = pre_l c ex init init' n₀ fin ea eb ρ k in
        let d = does_b c ex init init' n₀ fin μ match high (λ cs. Unit {0}) (no_room c fin μ) a ρ st w.0 k₀ t.0 in
        let s₁ = all_cont _ (expand a init) ρ (all_map ρ (ext_has c.M d.ext) k.scope) d.has in
        let k₁ = pre_next c ex init init' n₀ fin ea eb ρ ρb k d s₁ in
        let d₁ = does_b c ex init init' n₀ fin μ match high (λ cs. Unit {0}) (no_room c fin μ) b ρb (go_b₁ p q a st) w.1 k₁ t₁.0 in
        let s₂ = all-top _ (expand b init) ρb (all_map ρb (ext_has c.M d₁.ext) s₁) d₁.has in
        let k₂ = pre_end c ex init init' n₀ fin eb ρb (top_b (expand b init) ρb) k₁ d₁ s₂ in
        let x₀ = quick_b a ρ st w.0 k₀ t.0 in
        let x₁ = quick_b b ρb (go_b₁ p q a st) w.1 k₁ t₁.0 in
        let x₂ = opt_need o (top_b (expand b init) ρb) (go_b₁ p q b (go_b₁ p q a st)) k₂ t₁.1 in
        same_loop c.o c.M c.follow p p' q q' a b o st x₀ x₁ x₂
    quick_f break ρ st w k v = (refl, refl)
    quick_f continue ρ st w k v = (refl, refl)
    quick_f (return o) ρ st w k v = same_return c.o c.M c.follow p p' q q' o st (opt_need o ρ st k v)
    quick_f kill ρ st w k v = (refl, refl)
    quick_f (call h ys r) ρ st w k v = same-call c.o c.M c.follow p p' q q' h ys r st (call-need h ys r ρ st w k v)
    quick_f (effect n cs) ρ st w k v = same_effect c.o c.M c.follow p p' q q' n cs st (effect_need n cs ρ st w k v)

    pub quick_b : (b : Block Range) (ρ : List ℕ) (st : Builder) → FitB b c → K (evals_b (expand b init)) ρ st → ok_b (expand b init) c.xs ρ ≡ true
        → SameB c.o c.M c.follow p p' q q' b st
    quick_b end ρ st w k v = (refl, refl)
    quick_b (s then b) ρ st w k v =
        let es = evals_s (expand_s s init) in
        let eb = evals_b (expand b init) in
        let t = and_split (ok_s (expand_s s init) c.xs ρ) _ v in
        let k₀ = pre_l c ex init init' n₀ fin es eb ρ k in
        let d = does_s c ex init init' n₀ fin μ match high (λ cs. Unit {0}) (no_room c fin μ) s ρ st w.0 k₀ t.0 in
        let k₁ = pre_next c ex init init' n₀ fin es eb ρ (add_s (expand_s s init) ρ) k d (all-add_s _ (expand_s s init) ρ (all_map ρ (ext_has c.M d.ext) k.scope) d.has) in
        let x = quick_s s ρ st w.0 k₀ t.0 in
        let y = quick_b b (add_s (expand_s s init) ρ) (import_stmt c.o c.M c.follow p q s st) w.1 k₁ t.1 in
        same_then c.o c.M c.follow p p' q q' s b st x y

    pub quick_k : (g : Case Range) (ρ : List ℕ) (st : Builder) → FitK g c → K (evals_k (expand_k g init)) ρ st → ok_k (expand_k g init) c.xs ρ ≡ true
        → SameK c.o c.M c.follow p p' q q' g st
    quick_k (case a b t) ρ st w k v = same_case c.o c.M c.follow p p' q q' a b t st (quick_b b ρ st w.1 k v)

    pub quick_c : (ks : Cases Range) (ρ : List ℕ) (st : Builder) → FitC ks c → K (evals_c (expand_c ks init)) ρ st → ok_c (expand_c ks init) c.xs ρ ≡ true
        → SameC c.o c.M c.follow p p' q q' ks st
    quick_c nomore ρ st w k v = (refl, refl)
    quick_c (g also ks) ρ st w k v =
        let eb = evals_k (expand_k g init) in
        let ek = evals_c (expand_c ks init) in
        let t = and_split (ok_k (expand_k g init) c.xs ρ) _ v in
        let k₀ = pre_l c ex init init' n₀ fin eb ek ρ k in
        let d = does_k c ex init init' n₀ fin μ match high (λ cs. Unit {0}) (no_room c fin μ) g ρ st w.0 k₀ t.0 in
        let k₁ = pre_next c ex init init' n₀ fin eb ek ρ ρ k d (all_map ρ (ext_has c.M d.ext) k.scope) in
        let x = quick_k g ρ st w.0 k₀ t.0 in
        let y = quick_c ks ρ (import_case c.o c.M c.follow p q g st) w.1 k₁ t.1 in
        same_also c.o c.M c.follow p p' q q' g ks st x y

-- THE ONE-LEVEL FORM of the body of a function that passed intake: the builder after it, and what it makes
pub quick : (o : ℕ) (M : Module) (follow : ℕ → Derived → Derived) (Q : ℕ → Type 0) (G : Derived → Type 0) (law : Law o M follow Q G) (F : Function) → Fine (ctx o M follow Q G law F) F → (s : Derived) → G s
    → (import_block o M follow (need o M follow F.exprs) (glance o M follow F.exprs) F.body (declared o M follow F s) ≡ walked o M follow F (declared o M follow F s))
    × (rebuild_block o M follow (need o M follow F.exprs) (glance o M follow F.exprs) F.body (declared o M follow F s) ≡ rebuilt o M follow F (declared o M follow F s))
unfolding walked rebuilt seen
quick o M follow Q G law F fine s g =
    quick_b (ctx o M follow Q G law F) fine.exprs (marked (initials F)) (λ k. false) (length (declared o M follow F s).made) (final o M follow F s) (maps_of (mapped_to M (final o M follow F s))) (maps_match M Q (final o M follow F s)) (λ k l. refl)
    F.body [] (declared o M follow F s) fine.fit (before o M follow Q G law F fine s g (λ k. false)) fine.scope
