-- TWO WAYS TO FOLLOW CALLS that do the same to every callee of a function, in every state that its import meets, import it alike: the same state in the end, and the same derived function. So the bound on nesting does not matter where callees have heights below it.
use Rattle.std.specs.Prelude.{◌≡◌, Bool, length, get_or}
use Rattle.std.proofs.Math.Path.{refl, ap}
use Rattle.std.proofs.Common.{◌∙◌}
use Rattle.std.proofs.Math.Logic.{inr}
use Rattle.std.proofs.Math.Bool.{true, false}
use mathlib.Core.List.{List, [], ◌∷◌, ◌++◌}
use Rattle.std.proofs.Math.Option.{Option, none, some}
use Prim.Native.Nat.{ℕ, zero, suc}
use Rattle.model.specs.Outcome.{Cells}
use Rattle.model.specs.Tree.{Stmt, stmt, Form, emit, block, branch, switch, loop, break, continue, return, kill, call, effect, Block, end, ◌then◌, Case, case, Cases, nomore, ◌also◌, Range, Function}
use Rattle.model.specs.Module.{Module}
use Rattle.model.specs.Carry.{carry_f}
use Rattle.model.specs.Operands.{ops_of, result_of, ops, standing}
use Rattle.model.specs.Initial.{Mem, root, roots, marked, initials, initial}
use Rattle.theory_image.specs.Reached.{initial_is}
use Rattle.model.specs.Scope.{in_range, expand_s, expand_f, expand, expand_k, expand_c, evals_opt, seen}
use Rattle.model.specs.References.{Place, table, own, function, Node, refs, fold_refs, through}
use Rattle.model.specs.Imports.{Derived, unless_mapped}
use Rattle.model.specs.Bodies.{Builder, bring, mapped_to, compares_of, each_e, opt_e, step, append_expr, intern_expr, append_standing, import_e, import_body, import_initialiser, import_standing, import_stmt, import_form, import_block, import_case, import_cases, carried_form, rebuild_stmt, rebuild_form, rebuild_block, rebuild_case, rebuild_cases, name_cells, kept_names, declarations, declared, walked, rebuilt, named_after, derived, final, localized}
use Rattle.theory_walks.specs.Agreement.{mentions_e, mentions_s, mentions_f, mentions_b, mentions_k, mentions_c}
use Rattle.theory_records.specs.RecordLaws.{All as AllN}
use Rattle.theory_bodies.specs.Lists.{All, all_mem, mem_all, all_l, all-r}
use Rattle.theory_bodies.specs.Context.{Inside, InN, outer, Law, Ctx, OwnP, Own, owns-all}
use Rattle.theory_bodies.specs.Steps.{Lives, l_end, l_skip, l_keep, lives, Exprs, own_ops}
use Rattle.theory_bodies.specs.Body.{Effect, FitS, FitF, FitB, FitK, FitC}
use Rattle.theory_bodies.specs.Function.{Fine, May, ctx, keep_in, names_in_lem, names_own}

module _ (c : Ctx) (ex : Exprs c) (follow' : ℕ → Derived → Derived) (same : (n : ℕ) (s : Derived) → c.calls n → c.G s → follow' n s ≡ c.follow n s) where
  abbrev K : Builder → Type 0
  K x = c.G x.out

  -- the same of what may be imported, and G goes on
  abbrev Agree : (ℕ → Builder → Builder) → (ℕ → Builder → Builder) → Type 0
  Agree h h' = (e : ℕ) (x : Builder) → c.may e → K x → (h' e x ≡ h e x) × K (h e x)

  -- ---- references
  step_same : {h h' : ℕ → Builder → Builder} → Agree h h' → (p : Place) (n : ℕ) (x : Builder) → Inside c.M c.calls p n → OwnP c.may p n → K x
      → (step c.o c.M follow' h' p n x ≡ step c.o c.M c.follow h p n x) × K (step c.o c.M c.follow h p n x)
  unfolding step bring OwnP Inside outer
  step_same a (table t) n x i w k = (refl, c.law.good (table t) n x.out i k)
  step_same a own n x i w k = a n x w k
  step_same a function n x i w k = (ap (λ (r : Derived). record { out = r; memo = x.memo; made = x.made }) (same n x.out i k), c.law.good function n x.out i k)

  each_same : {h h' : ℕ → Builder → Builder} → Agree h h' → (js : List Node) (x : Builder) → AllN (InN c.M c.calls) js → AllN (Own c.may) js → K x
      → (fold_refs js (step c.o c.M follow' h') x ≡ fold_refs js (step c.o c.M c.follow h) x) × K (fold_refs js (step c.o c.M c.follow h) x)
  unfolding fold_refs
  each_same a [] x i w k = (refl, k)
  each_same {h} {h'} a (j ∷ js) x i w k =
      let r = step_same a j.place j.num x i.0 w.0 k in
      let z = each_same a js (step c.o c.M c.follow h j.place j.num x) i.1 w.1 r.1 in
      (ap (fold_refs js (step c.o c.M follow' h')) r.0 ∙ z.0, z.1)

  -- ---- expressions
  import_same : (d d' : ℕ → Builder → Builder) → ((e : ℕ) (x : Builder) → K x → (d' e x ≡ d e x) × K (d e x)) → (n : ℕ) → Agree (import_e c.o c.M c.follow c.xs d n) (import_e c.o c.M follow' c.xs d' n)
  unfolding import_e
  import_same d d' f zero e x m k = (refl, k)
  import_same d d' f (suc n) e x m k = go (get_or x.memo e 0) (each_same (import_same d d' f n) (refs (get_or c.xs e [])) x (ex.inside e m) (own_ops c ex c.may e (ex.may_ops e m)) k)
    where
      y : Builder
      y = fold_refs (refs (get_or c.xs e [])) (step c.o c.M c.follow (import_e c.o c.M c.follow c.xs d n)) x

      y' : Builder
      y' = fold_refs (refs (get_or c.xs e [])) (step c.o c.M follow' (import_e c.o c.M follow' c.xs d' n)) x

      go : (v : ℕ) → (y' ≡ y) × K y → (unless_mapped v (λ z. d' e y') x ≡ unless_mapped v (λ z. d e y) x) × K (unless_mapped v (λ z. d e y) x)
      go zero r = unfold unless_mapped in (ap (d' e) r.0 ∙ (f e y r.1).0, (f e y r.1).1)
      go (suc v) r = unfold unless_mapped in (refl, k)

  abbrev p : ℕ → Builder → Builder
  p = import_body c.o c.M c.follow c.xs

  abbrev p' : ℕ → Builder → Builder
  p' = import_body c.o c.M follow' c.xs

  abbrev q : ℕ → Builder → Builder
  q = import_standing c.o c.M c.follow c.xs

  abbrev q' : ℕ → Builder → Builder
  q' = import_standing c.o c.M follow' c.xs

  plain-same : Agree p p'
  unfolding import_body append_expr
  plain-same = import_same (append_expr c.o c.M c.follow c.xs) (append_expr c.o c.M follow' c.xs) (λ e x k. (refl, k)) (length c.xs)

  unique_same : Agree (import_initialiser c.o c.M c.follow c.xs) (import_initialiser c.o c.M follow' c.xs)
  unfolding import_initialiser intern_expr
  unique_same = import_same (intern_expr c.o c.M c.follow c.xs) (intern_expr c.o c.M follow' c.xs) (λ e x k. (refl, k)) (length c.xs)

  quiet_same : Agree q q'
  unfolding import_standing append_standing append_expr
  quiet_same = import_same (append_standing c.o c.M c.follow c.xs) (append_standing c.o c.M follow' c.xs) (λ e x k. (refl, stays e x k)) (length c.xs)
    where
      stays : (e : ℕ) (x : Builder) → K x → K (append_standing c.o c.M c.follow c.xs e x)
      stays e x k = go (standing c.xs e)
        where
          go : (b : Bool) → K (let y : Builder = elim b [ true ↦ append_expr c.o c.M c.follow c.xs e x | false ↦ x ] in y)
          go true = k
          go false = k

  each_e-same : {h h' : ℕ → Builder → Builder} → Agree h h' → (es : List ℕ) (x : Builder) → All c.may es → K x → (each_e es h' x ≡ each_e es h x) × K (each_e es h x)
  unfolding each_e
  each_e-same a [] x w k = (refl, k)
  each_e-same {h} {h'} a (e ∷ es) x w k = let r = a e x w.0 k in let z = each_e-same a es (h e x) w.1 r.1 in (ap (each_e es h') r.0 ∙ z.0, z.1)

  opt_e-same : {h h' : ℕ → Builder → Builder} → Agree h h' → (e : Option ℕ) (x : Builder) → All c.may (evals_opt e) → K x → (opt_e e h' x ≡ opt_e e h x) × K (opt_e e h x)
  unfolding opt_e evals_opt
  opt_e-same a none x w k = (refl, k)
  opt_e-same a (some e) x w k = a e x w.0 k

  -- ---- statements: the same state after, the same statement made
  abbrev SameS : Stmt Range → Builder → Type 0
  SameS s x = (import_stmt c.o c.M follow' p' q' s x ≡ import_stmt c.o c.M c.follow p q s x) × (rebuild_stmt c.o c.M follow' p' q' s x ≡ rebuild_stmt c.o c.M c.follow p q s x) × K (import_stmt c.o c.M c.follow p q s x)

  abbrev SameF : Form Range → Builder → Type 0
  SameF g x = (import_form c.o c.M follow' p' q' g x ≡ import_form c.o c.M c.follow p q g x) × (rebuild_form c.o c.M follow' p' q' g x ≡ rebuild_form c.o c.M c.follow p q g x) × K (import_form c.o c.M c.follow p q g x)

  abbrev SameB : Block Range → Builder → Type 0
  SameB b x = (import_block c.o c.M follow' p' q' b x ≡ import_block c.o c.M c.follow p q b x) × (rebuild_block c.o c.M follow' p' q' b x ≡ rebuild_block c.o c.M c.follow p q b x) × K (import_block c.o c.M c.follow p q b x)

  abbrev SameK : Case Range → Builder → Type 0
  SameK g x = (import_case c.o c.M follow' p' q' g x ≡ import_case c.o c.M c.follow p q g x) × (rebuild_case c.o c.M follow' p' q' g x ≡ rebuild_case c.o c.M c.follow p q g x) × K (import_case c.o c.M c.follow p q g x)

  abbrev SameC : Cases Range → Builder → Type 0
  SameC g x = (import_cases c.o c.M follow' p' q' g x ≡ import_cases c.o c.M c.follow p q g x) × (rebuild_cases c.o c.M follow' p' q' g x ≡ rebuild_cases c.o c.M c.follow p q g x) × K (import_cases c.o c.M c.follow p q g x)

  same_stmt : (a b : ℕ) (g : Form Range) (x : Builder) → SameF g x → SameS (stmt a b g) x
  unfolding import_form rebuild_form
  same_stmt a b g x z = (z.0, rw z.1 refl, z.2)

  same_emit : (r : Range) (x : Builder) → All c.may (in_range r) → K x → SameF (emit r) x
  unfolding import_form rebuild_form
  same_emit r x w k =
      let y = each_e-same quiet_same (in_range r) x w k in
      let z = each_e-same plain-same (in_range r) (each_e (in_range r) q x) w y.1 in
      (rw y.0 z.0, rw (y.0, z.0) refl, z.1)

  same_block : (b : Block Range) (x : Builder) → SameB b x → SameF (block b) x
  unfolding import_form rebuild_form
  same_block b x z = (z.0, ap block z.1, z.2)

  same_branch : (e : ℕ) (a b : Block Range) (x : Builder) → p' e x ≡ p e x → SameB a (p e x) → SameB b (import_block c.o c.M c.follow p q a (p e x)) → SameF (branch e a b) x
  unfolding import_form rebuild_form
  same_branch e a b x z u v = (rw (z, u.0) v.0, rw (z, u.0, u.1, v.1) refl, v.2)

  same_switch : (e : ℕ) (ks : Cases Range) (x : Builder) → p' e x ≡ p e x → SameC ks (p e x) → SameF (switch e ks) x
  unfolding import_form rebuild_form
  same_switch e ks x z u = (rw z u.0, rw (z, u.1) refl, u.2)

  same_loop : (a b : Block Range) (e : Option ℕ) (x : Builder) → SameB a x → SameB b (import_block c.o c.M c.follow p q a x) → (opt_e e p' (import_block c.o c.M c.follow p q b (import_block c.o c.M c.follow p q a x)) ≡ opt_e e p (import_block c.o c.M c.follow p q b (import_block c.o c.M c.follow p q a x))) × K (opt_e e p (import_block c.o c.M c.follow p q b (import_block c.o c.M c.follow p q a x))) → SameF (loop a b e) x
  unfolding import_form rebuild_form
  same_loop a b e x u v w = (rw (u.0, v.0) w.0, rw (u.0, v.0, u.1, v.1, w.0) refl, w.1)

  same_return : (e : Option ℕ) (x : Builder) → (opt_e e p' x ≡ opt_e e p x) × K (opt_e e p x) → SameF (return e) x
  unfolding import_form rebuild_form carried_form
  same_return e x z = (z.0, rw z.0 refl, z.1)

  same-call : (f : ℕ) (ys : List ℕ) (r : Option ℕ) (x : Builder) → c.calls f → All c.may ys → All c.may (evals_opt r) → K x → SameF (call f ys r) x
  unfolding import_form rebuild_form carried_form step bring Inside OwnP
  same-call f ys r x w a b k =
      let s = step_same plain-same function f x w tt k in
      let t = each_e-same plain-same ys (bring (c.follow f) x) a s.1 in
      let u = opt_e-same plain-same r (each_e ys p (bring (c.follow f) x)) b t.1 in
      let e : opt_e r p' (each_e ys p' (bring (follow' f) x)) ≡ opt_e r p (each_e ys p (bring (c.follow f) x)) = ap (λ (y : Builder). opt_e r p' (each_e ys p' y)) s.0 ∙ ap (opt_e r p') t.0 ∙ u.0 in
      (e, ap (λ (m : Builder). carry_f (through (mapped_to c.M m)) (call f ys r)) e, u.1)

  same_effect : (n : ℕ) (cs : Cells) (x : Builder) → Effect c cs → All c.may (ops_of cs ++ evals_opt (result_of cs)) → K x → SameF (effect n cs) x
  unfolding import_form rebuild_form carried_form
  same_effect n cs x w a k =
      let o = all_l c.may (ops_of cs) (evals_opt (result_of cs)) a in
      let t = each_e-same plain-same (compares_of cs) x (all_mem c.may (compares_of cs) (λ y m. mem_all c.may (w.compares y m) o)) k in
      let u = each_same plain-same (refs cs) (each_e (compares_of cs) p x) w.inside (owns-all c.may (refs cs) (rw w.owned a)) t.1 in
      let e : fold_refs (refs cs) (step c.o c.M follow' p') (each_e (compares_of cs) p' x) ≡ fold_refs (refs cs) (step c.o c.M c.follow p) (each_e (compares_of cs) p x) = ap (fold_refs (refs cs) (step c.o c.M follow' p')) t.0 ∙ u.0 in
      (e, ap (λ (m : Builder). carry_f (through (mapped_to c.M m)) (effect n cs)) e, u.1)

  same_then : (s : Stmt Range) (b : Block Range) (x : Builder) → SameS s x → SameB b (import_stmt c.o c.M c.follow p q s x) → SameB (s then b) x
  unfolding import_form rebuild_form
  same_then s b x u v = (rw u.0 v.0, rw (u.0, u.1, v.1) refl, v.2)

  same_case : (v : Cells) (b : Block Range) (f : ℕ) (x : Builder) → SameB b x → SameK (case v b f) x
  unfolding import_form rebuild_form
  same_case v b f x z = (z.0, ap (λ (y : Block Range). case v y f) z.1, z.2)

  same_also : (g : Case Range) (ks : Cases Range) (x : Builder) → SameK g x → SameC ks (import_case c.o c.M c.follow p q g x) → SameC (g also ks) x
  unfolding import_form rebuild_form
  same_also g ks x u v = (rw u.0 v.0, rw (u.0, u.1, v.1) refl, v.2)

  -- what an Emit's range holds is an initialiser expression or evaluated
  range_may : (drop : ℕ → Bool) → ((e : ℕ) → drop e ≡ true → c.may e) → {es ls : List ℕ} → Lives drop es ls → All c.may (mentions_e ls c.xs) → All c.may es
  unfolding mentions_e
  range_may drop f l_end a = tt
  range_may drop f (l_skip {e = e} h l) a = (f e h, range_may drop f l a)
  range_may drop f (l_keep {e = e} {ls = ls} l) a = (a.0, range_may drop f l (all-r c.may (ops c.xs e) (mentions_e ls c.xs) a.1))

  module _ (drop : ℕ → Bool) (dropped : (e : ℕ) → drop e ≡ true → c.may e) where
    abbrev M? : List ℕ → Type 0
    M? es = All c.may es

    mutual
      unfolding import_form rebuild_form expand_f mentions_f FitF Inside

      same_s : (s : Stmt Range) (x : Builder) → FitS s c → M? (mentions_s (expand_s s drop) c.xs) → K x → SameS s x
      same_s (stmt a b g) x w m k = same_stmt a b g x (same_f g x w m k)

      same_f : (g : Form Range) (x : Builder) → FitF g c → M? (mentions_f (expand_f g drop) c.xs) → K x → SameF g x
      same_f (emit r) x w m k = same_emit r x (range_may drop dropped (lives drop (in_range r)) m) k
      same_f (block b) x w m k = same_block b x (same_b b x w m k)
      same_f (branch e a b) x w m k =
          let z = plain-same e x m.0 k in
          let u = same_b a (p e x) w.0 (all_l c.may (mentions_b (expand a drop) c.xs) _ m.1) z.1 in
          let v = same_b b (import_block c.o c.M c.follow p q a (p e x)) w.1 (all-r c.may (mentions_b (expand a drop) c.xs) _ m.1) u.2 in
          same_branch e a b x z.0 u v
      same_f (switch e ks) x w m k = let z = plain-same e x m.0 k in same_switch e ks x z.0 (same_c ks (p e x) w m.1 z.1)
      same_f (loop a b e) x w m k =
          let n = all-r c.may (evals_opt e) _ m in
          let u = same_b a x w.0 (all_l c.may (mentions_b (expand a drop) c.xs) _ n) k in
          let v = same_b b (import_block c.o c.M c.follow p q a x) w.1 (all-r c.may (mentions_b (expand a drop) c.xs) _ n) u.2 in
          same_loop a b e x u v (opt_e-same plain-same e (import_block c.o c.M c.follow p q b (import_block c.o c.M c.follow p q a x)) (all_l c.may (evals_opt e) _ m) v.2)
      same_f break x w m k = (refl, refl, k)
      same_f continue x w m k = (refl, refl, k)
      same_f (return e) x w m k = same_return e x (opt_e-same plain-same e x m k)
      same_f kill x w m k = (refl, refl, k)
      same_f (call f ys r) x w m k = same-call f ys r x w.inside (all_l c.may ys _ m) (all-r c.may ys _ m) k
      same_f (effect n cs) x w m k = same_effect n cs x w m k

      same_b : (b : Block Range) (x : Builder) → FitB b c → M? (mentions_b (expand b drop) c.xs) → K x → SameB b x
      same_b end x w m k = (refl, refl, k)
      same_b (s then b) x w m k =
          let u = same_s s x w.0 (all_l c.may (mentions_s (expand_s s drop) c.xs) _ m) k in
          let v = same_b b (import_stmt c.o c.M c.follow p q s x) w.1 (all-r c.may (mentions_s (expand_s s drop) c.xs) _ m) u.2 in
          same_then s b x u v

      same_k : (g : Case Range) (x : Builder) → FitK g c → M? (mentions_k (expand_k g drop) c.xs) → K x → SameK g x
      same_k (case v b f) x w m k = same_case v b f x (same_b b x w.1 m k)

      same_c : (ks : Cases Range) (x : Builder) → FitC ks c → M? (mentions_c (expand_c ks drop) c.xs) → K x → SameC ks x
      same_c nomore x w m k = (refl, refl, k)
      same_c (g also ks) x w m k =
          let u = same_k g x w.0 (all_l c.may (mentions_k (expand_k g drop) c.xs) _ m) k in
          let v = same_c ks (import_case c.o c.M c.follow p q g x) w.1 (all-r c.may (mentions_k (expand_k g drop) c.xs) _ m) u.2 in
          same_also g ks x u v

-- ---- the whole function
module _ (o : ℕ) (M : Module) (follow follow' : ℕ → Derived → Derived) (Q : ℕ → Type 0) (G : Derived → Type 0) (law : Law o M follow Q G) (F : Function) (fine : Fine (ctx o M follow Q G law F) F)
    (mentions : (x : ℕ) → Mem x (mentions_b (seen F) F.exprs) → May F x) (same : (n : ℕ) (s : Derived) → Q n → G s → follow' n s ≡ follow n s) (s : Derived) (good : G s) where
  abbrev c : Ctx
  c = ctx o M follow Q G law F

  dec : (declared o M follow' F s ≡ declared o M follow F s) × G (declared o M follow F s).out
  unfolding declared declarations
  dec = each_same c fine.exprs follow' same (unique_same c fine.exprs follow' same) (refs (declarations o M follow F)) _ fine.declared_in
      (owns-all (May F) (refs (declarations o M follow F)) (rw fine.declared-owned (all_mem (May F) (roots F.locals) (λ x m. inr (inr (root m)))))) good

  bod : SameB c fine.exprs follow' same F.body (declared o M follow F s)
  unfolding seen
  bod = same_b c fine.exprs follow' same (marked (initials F)) (λ e h. inr (inr (initial_is F e (unfold initial in h)).0)) F.body (declared o M follow F s) fine.fit (all_mem (May F) (mentions_b (seen F) F.exprs) mentions) dec.1

  fin : (final o M follow' F s ≡ final o M follow F s) × G (final o M follow F s).out
  unfolding final walked named_after kept_names
  fin =
      let x = walked o M follow F (declared o M follow F s) in
      let w : walked o M follow' F (declared o M follow' F s) ≡ x = ap (walked o M follow' F) dec.0 ∙ bod.0 in
      let n = each_same c fine.exprs follow' same (plain-same c fine.exprs follow' same) (refs (name_cells (kept_names o M follow F x))) x (names_in_lem M Q _ (keep_in M Q F.named x.memo [] fine.named_in tt)) (names_own (May F) _) bod.2 in
      (ap (named_after o M follow' F) w ∙ n.0, n.1)

  pub final-same : final o M follow' F s ≡ final o M follow F s
  final-same = fin.0

  pub localized-same : localized o M follow' F s ≡ localized o M follow F s
  unfolding localized derived rebuilt kept_names
  localized-same = rw (dec.0, fin.0, bod.1) refl
