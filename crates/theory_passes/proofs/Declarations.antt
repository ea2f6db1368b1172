-- THE DECLARATIONS: one pass over the head, the arguments, the result and the locals leaves what `declared` leaves, and what is written is the same cells of the derived function. The model carries them by the maps after all of them, the pass by those of each word's turn: what is mapped stays mapped.
use Rattle.std.specs.Prelude.{ℕ, zero, suc, ◌<◌, ◌≡◌, true, length, get_or}
use Rattle.std.proofs.Math.Path.{refl}
use Rattle.std.proofs.Common.{ap, sym, ◌∙◌, inr, arith}
use Rattle.std.proofs.Math.Bool.{false}
use mathlib.Core.List.{List, [], ◌∷◌, ◌++◌, map}
use Rattle.std.proofs.Math.ListN.{length-replicate}
use Rattle.std.proofs.lemmas.List.{length-map}
use Rattle.model.specs.Outcome.{Cells, class, word}
use Rattle.model.specs.Table.{ARGUMENTS, LOCALS}
use Rattle.model.specs.Tree.{Function, flat_all, flat_list}
use Rattle.model.specs.Module.{Module}
use Rattle.model.specs.Carry.{Each, each_none, each_next, WellFunction}
use Rattle.model.specs.References.{Place, table, own, function, Target, copied, start, upto, ref, opt, targets, target, Node, ref_of, refs, fold_refs}
use Rattle.model.specs.Operands.{ops}
use Rattle.model.specs.Initial.{root, step as reach_step, Reached, roots}
use Rattle.model.specs.Imports.{Derived}
use Rattle.model.specs.Bodies.{Builder, carried, step, intern_expr as joinE, import_initialiser, declarations, declared, derived, localized}
use Rattle.theory_records.specs.RecordLaws.{All as AllN, all_both as alln-both}
use Rattle.theory_bodies.specs.Lists.{all_any, all_mem}
use Rattle.theory_bodies.specs.Context.{InN, Law, Ctx, OwnP, Own, owns-all}
use Rattle.theory_bodies.specs.Inv.{Un, Inv, join-put}
use Rattle.theory_bodies.specs.Gen.{Wants, Ends, Res, Many, many, import_res}
use Rattle.theory_bodies.specs.Steps.{Exprs, own_ops}
use Rattle.theory_bodies.specs.Function.{Fine, ctx, no_has}
use Rattle.theory_passes.specs.Pass.{front, begin, front_after, front_written}
use Rattle.theory_passes.specs.Passage.{Fields, still?, calm?, Passage, nothing, join, alone-after, alone-written, Steady, fields-carried}
use Rattle.theory_passes.specs.Forms.{copy}
use Rattle.theory_passes.proofs.Shapes.{head_fields, argument-fields, local-fields, result_fields, each_fields}

-- ---- references, one run after the other
ref_append : (t : Target) (w : ℕ) (js ks : List Node) → ref_of t w (js ++ ks) ≡ ref_of t w js ++ ks
unfolding ref_of
ref_append copied w js ks = refl
ref_append start w js ks = refl
ref_append upto w js ks = refl
ref_append (ref s) w js ks = refl
ref_append (opt s) zero js ks = refl
ref_append (opt s) (suc n) js ks = refl

pub refs-append : (a b : Cells) → refs (a ++ b) ≡ refs a ++ refs b
unfolding refs
refs-append [] b = refl
refs-append (c ∷ a) b = ap (ref_of (target (class c)) (word c)) (refs-append a b) ∙ ref_append (target (class c)) (word c) (refs a) (refs b)

pub each_append : {S : Type 0} (js ks : List Node) (f : Place → ℕ → S → S) (s : S) → fold_refs (js ++ ks) f s ≡ fold_refs ks f (fold_refs js f s)
unfolding fold_refs
each_append [] ks f s = refl
each_append (j ∷ js) ks f s = each_append js ks f (f j.place j.num s)

module _ (o : ℕ) (M : Module) (follow : ℕ → Derived → Derived) (p q : ℕ → Builder → Builder) where
  abbrev step_p : Place → ℕ → Builder → Builder
  step_p = step o M follow p

  steady_append : (js ks : List Node) (d st : Builder) → Steady o M follow p q (js ++ ks) d st → Steady o M follow p q js d st × Steady o M follow p q ks d (fold_refs js step_p st)
  unfolding Steady fold_refs
  steady_append [] ks d st h = (tt, h)
  steady_append (j ∷ js) ks d st h = let z = steady_append js ks d (step_p j.place j.num st) h.1 in ((h.0, z.0), z.1)

  -- cells, one run after the other
  pub steady_both : (a b : Cells) (d st : Builder) → Steady o M follow p q (refs (a ++ b)) d st → Steady o M follow p q (refs a) d st × Steady o M follow p q (refs b) d (fold_refs (refs a) step_p st)
  steady_both a b d st h = steady_append (refs a) (refs b) d st (rw (refs-append a b) at h)

  pub run-both : (a b : Cells) (st : Builder) → fold_refs (refs (a ++ b)) step_p st ≡ fold_refs (refs b) step_p (fold_refs (refs a) step_p st)
  run-both a b st = rw (refs-append a b) (each_append (refs a) (refs b) step_p st)

  -- records
  records : {rs : List Cells} → Each Fields rs → (d st : Builder) → Steady o M follow p q (refs (flat_all rs)) d st → Passage o M follow p q (flat_all rs) st (fold_refs (refs (flat_all rs)) step_p st) (flat_all (map (carried o M d) rs))
  unfolding flat_all refs fold_refs
  records each_none d st h = nothing o M follow p q st
  records (each_next {a = r} {l = rs} f fs) d st h =
      let z = steady_both r (flat_all rs) d st h in
      rw (run-both r (flat_all rs) st) (join o M follow p q (fields-carried o M follow p q f d st z.0) (records fs d (fold_refs (refs r) step_p st) z.1))

  -- a list after its count
  pub listed : (s : ℕ) {rs : List Cells} → calm? s ≡ true → target s ≡ copied → Each Fields rs → (d st : Builder) → Steady o M follow p q (refs (flat_all rs)) d st
      → Passage o M follow p q (flat_list s rs) st (fold_refs (refs (flat_all rs)) step_p st) (flat_list s (map (carried o M d) rs))
  unfolding flat_list
  listed s {rs} c t fs d st h = rw (length-map rs (carried o M d)) (join o M follow p q (copy o M follow p p q q s (length rs) st c t) (records fs d st h))

  -- a run of cells after another
  behind : (a b : Cells) {ws vs x y : Cells} (st : Builder) → Passage o M follow p q ws st (fold_refs (refs a) step_p st) x → Passage o M follow p q vs (fold_refs (refs a) step_p st) (fold_refs (refs b) step_p (fold_refs (refs a) step_p st)) y → Passage o M follow p q (ws ++ vs) st (fold_refs (refs (a ++ b)) step_p st) (x ++ y)
  behind a b st f g = rw (run-both a b st) (join o M follow p q f g)

  -- a head, a list, a result, a list
  pub declares : (h b : Cells) (A L : List Cells) → Fields h → Each Fields A → Fields b → Each Fields L → (d st : Builder) → Steady o M follow p q (refs (h ++ flat_all A ++ b ++ flat_all L)) d st
      → Passage o M follow p q (h ++ flat_list ARGUMENTS A ++ b ++ flat_list LOCALS L) st (fold_refs (refs (h ++ flat_all A ++ b ++ flat_all L)) step_p st)
      (carried o M d h ++ flat_list ARGUMENTS (map (carried o M d) A) ++ carried o M d b ++ flat_list LOCALS (map (carried o M d) L))
  declares h b A L fh fA fb fL d st k =
      let z₃ = steady_both (h ++ flat_all A ++ b) (flat_all L) d st k in
      let z₂ = steady_both (h ++ flat_all A) b d st z₃.0 in
      let z₁ = steady_both h (flat_all A) d st z₂.0 in
      let a = fields-carried o M follow p q fh d st z₁.0 in
      let a₁ = behind h (flat_all A) st a (listed ARGUMENTS (unfold calm? still? target targets in refl) (unfold target targets in refl) fA d (fold_refs (refs h) step_p st) z₁.1) in
      let a₂ = behind (h ++ flat_all A) b st a₁ (fields-carried o M follow p q fb d (fold_refs (refs (h ++ flat_all A)) step_p st) z₂.1) in
      behind (h ++ flat_all A ++ b) (flat_all L) st a₂ (listed LOCALS (unfold calm? still? target targets in refl) (unfold target targets in refl) fL d (fold_refs (refs (h ++ flat_all A ++ b)) step_p st) z₃.1)

-- ---- of a function that passed intake
module _ (o : ℕ) (M : Module) (follow : ℕ → Derived → Derived) (Q : ℕ → Type 0) (G : Derived → Type 0) (law : Law o M follow Q G) (F : Function) (fine : Fine (ctx o M follow Q G law F) F) where
  abbrev xs : List Cells
  xs = F.exprs

  abbrev c : Ctx
  c = ctx o M follow Q G law F

  abbrev ex : Exprs c
  ex = fine.exprs

  abbrev R : ℕ → Type 0
  R = Reached F

  abbrev join_f : ℕ → Builder → Builder
  join_f = joinE o M follow xs

  abbrev u : ℕ → Builder → Builder
  u = import_initialiser o M follow xs

  abbrev step_u : Place → ℕ → Builder → Builder
  step_u = step o M follow u

  -- initialisers merge
  merges : (e : ℕ) (st : Builder) → e < length xs → R e → Un st.memo e → Inv c st → Unit {0} → AllN (Wants c join_f (λ e. true) R (λ y. R y → ⊥) (λ s. Unit {0}) st) (refs (get_or xs e []))
      → Ends c join_f (λ e. true) R (λ y. R y → ⊥) (λ s. Unit {0}) e st (join_f e st)
  merges e st l r z i j a =
      let p = join-put c e st i l z (alln-both (refs (get_or xs e [])) (λ j f g. f g) a (own_ops c ex (λ y. true ≡ true) e (all_any (ops xs e) (λ y. refl)))) in
      record { inv = p.inv; j = tt; ext = p.ext; has = λ w. omega (arith, p.at); other = λ y n u. p.other y n ∙ u; self = λ q u. absurd (q r) }

  pub reach_ops : (e : ℕ) → R e → AllN (Own R) (refs (get_or xs e []))
  reach_ops e h = own_ops c ex R e (all_mem R (ops xs e) (λ y m. reach_step h m))

  one : (x : ℕ) (st : Builder) → x < length xs → R x → Inv c st → Unit {0} → Res c join_f (λ e. true) R (λ y. R y → ⊥) (λ s. Unit {0}) x st (u x st)
  unfolding import_initialiser
  one x st l r i j =
      import_res c join_f (λ e. true) R (λ y. R y → ⊥) (λ s. Unit {0}) (λ e m. own_ops c ex _ e (ex.lower e m)) (λ e r. ex.inside e (inr (inr r))) reach_ops
      (λ p n s j. tt) merges (length xs) x st l l r i j

  runs : (js : List Node) (st : Builder) → AllN (Own (λ x. x < length xs)) js → AllN (Own R) js → AllN (InN M Q) js → Inv c st → Many c join_f (λ e. true) R (λ y. R y → ⊥) (λ s. Unit {0}) (length xs) js st (fold_refs js step_u st)
  runs js st l r w i =
      many c join_f (λ e. true) R (λ y. R y → ⊥) (λ s. Unit {0}) (λ e m. own_ops c ex _ e (ex.lower e m)) (λ e r. ex.inside e (inr (inr r))) reach_ops
      (λ p n s j. tt) merges (length xs) u one js st l r w i tt

  wanted : (s : Place) (n : ℕ) → OwnP (λ y. true ≡ true) s n
  unfolding OwnP
  wanted (table t) n = tt
  wanted own n = refl
  wanted function n = tt

  steadies : (js : List Node) (st : Builder) → AllN (Own (λ x. x < length xs)) js → AllN (Own R) js → AllN (InN M Q) js → Inv c st → Steady o M follow u u js (fold_refs js step_u st) st
  unfolding Steady fold_refs
  steadies [] st l r w i = tt
  steadies (j ∷ js) st l r w i =
      let a = runs (j ∷ []) st (l.0, tt) (r.0, tt) (w.0, tt) i in
      let z = runs js (step_u j.place j.num st) l.1 r.1 w.1 a.inv in
      (sym (z.ext.keeps j.place j.num (a.has.0 (wanted j.place j.num))), steadies js (step_u j.place j.num st) l.1 r.1 w.1 a.inv)

  module _ (s : Derived) (good : G s) where
    abbrev d : Builder
    d = declared o M follow F s

    begin-inv : Inv c (begin F s)
    unfolding begin
    begin-inv = record { good = good; size = length-replicate (length xs) 0; found = λ e h. absurd (no_has (length xs) e h); low = λ k h. absurd (omega arith); from = λ k h. absurd (omega arith) }

    pub steady : Steady o M follow u u (refs (declarations o M follow F)) d (begin F s)
    unfolding declared begin
    steady =
        let js = refs (declarations o M follow F) in
        steadies js (begin F s) (owns-all _ js (rw fine.declared-owned fine.roots_in)) (owns-all R js (rw fine.declared-owned (all_mem R (roots F.locals) (λ x m. root m)))) fine.declared_in (unfold begin in begin-inv)

    pub front_passage : WellFunction F → Passage o M follow u u (front F) (begin F s) d (front (localized o M follow F s))
    unfolding front declared localized derived declarations begin
    front_passage w =
        declares o M follow u u F.head F.result F.arguments F.locals (head_fields w.head_ok) (each_fields (λ r l. argument-fields l) w.arguments_ok.each) (result_fields w.result_ok_lem) (each_fields (λ r l. local-fields l) w.locals_ok.each)
        d (begin F s) (unfold declarations in steady)

    pub front-after : WellFunction F → front_after o M follow F s ≡ d
    unfolding front_after
    front-after w = alone-after o M follow u u (front_passage w)

    pub front-written : WellFunction F → front_written o M follow F s ≡ front (localized o M follow F s)
    unfolding front_written
    front-written w = alone-written o M follow u u (front_passage w) false
