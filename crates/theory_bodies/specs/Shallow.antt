-- In the body of a function that is in scope, import_expression never goes deeper than one level, and the first pass of an Emit needs no marks: what an import does is then what `need` and `glance` do, which do not recur.
use Prim.Native.Nat.{ℕ, zero, suc, ◌<◌}
use Rattle.std.specs.Prelude.{◌≡◌, ◌⊎◌, Bool, length, get_or}
use Rattle.std.proofs.Math.Path.{refl, ap}
use Rattle.std.proofs.Common.{sym, ◌∙◌, subst, inl, inr, ⊎_elim, arith}
use Rattle.std.proofs.Math.Bool.{true, false}
use mathlib.Core.List.{List, [], ◌∷◌}
use Rattle.theory_lists.specs.Booleans.{and_split}
use Rattle.model.specs.Outcome.{Cells}
use Rattle.model.specs.Module.{Module}
use Rattle.model.specs.References.{Place, table, own, function, Node, refs, fold_refs}
use Rattle.model.specs.Operands.{ops, standing}
use Rattle.model.specs.Initial.{Mem}
use Rattle.model.specs.Scope.{all_vis, ok_e}
use Rattle.model.specs.Imports.{Derived, unless_mapped}
use Rattle.model.specs.Bodies.{Builder, bring, mapped_to, step, each_e, append_expr, append_standing, import_e, import_body, import_standing}
use Rattle.theory_records.specs.RecordLaws.{All as AllN, all_map as alln-map}
use Rattle.theory_bodies.specs.Lists.{All, all_map, mem_all, all_mem, split}
use Rattle.theory_bodies.specs.Context.{look, Inside, InN, outer, Ctx, OwnP, Own, own_map, owns-map, once_is, once_cong}
use Rattle.theory_bodies.specs.Inv.{Has, Ext, ext_refl, ext_trans, ext_has, ext_went, ext_bring, Inv, inv-bring}
use Rattle.theory_bodies.specs.Steps.{all-vis, Lives, l_end, l_skip, l_keep, Exprs, own_ops, ops_own, plain_c, quiet_c, step_c, import_c, push_c, stand_c, import_idle, each_idle, plain_ready, quiet-idle}
use Rattle.theory_bodies.specs.Body.{standing_in}

module _ (o : ℕ) (M : Module) (follow : ℕ → Derived → Derived) (xs : List Cells) where
  -- an expression whose operands are mapped: its references outside, and then itself
  unfoldable pub need : ℕ → Builder → Builder
  need e st = unless_mapped (get_or st.memo e 0) (λ z. append_expr o M follow xs e (fold_refs (refs (get_or xs e [])) (step o M follow (λ x m. m)) st)) st

  unfoldable pub peek : ℕ → Builder → Builder
  peek x st = elim (standing xs x) [ true ↦ need x st | false ↦ st ]

  -- an expression of an Emit's range, in the first pass: its references outside, and the standing operands
  unfoldable pub glance : ℕ → Builder → Builder
  glance e st = unless_mapped (get_or st.memo e 0) (λ z. fold_refs (refs (get_or xs e [])) (step o M follow peek) st) st

module _ (c : Ctx) where
  abbrev pub need_c : ℕ → Builder → Builder
  need_c = need c.o c.M c.follow c.xs

  abbrev pub peek_c : ℕ → Builder → Builder
  peek_c = peek c.o c.M c.follow c.xs

  abbrev pub glance_c : ℕ → Builder → Builder
  glance_c = glance c.o c.M c.follow c.xs

  abbrev refs_at : ℕ → List Node
  refs_at e = refs (get_or c.xs e [])

  -- ---- need
  import_need : (n e : ℕ) (st : Builder) → e < n → AllN (Own (Has st.memo)) (refs_at e) → import_c c (push_c c) n e st ≡ need_c e st
  unfolding import_e need
  import_need zero e st l a = absurd (omega arith)
  import_need (suc n) e st l a = once_cong (get_or st.memo e 0) _ _ st (λ z. ap (push_c c e) (each_idle c (import_c c (push_c c) n) (import_idle c (push_c c) n) (refs_at e) st a))

  pub need-idle : (x : ℕ) (st : Builder) → Has st.memo x → need_c x st ≡ st
  unfolding need
  need-idle x st h = once_is (λ s. s ≡ st) (get_or st.memo x 0) _ st (λ z. absurd (omega arith)) (λ w. refl)

  pub glance-idle : (x : ℕ) (st : Builder) → Has st.memo x → glance_c x st ≡ st
  unfolding glance
  glance-idle x st h = once_is (λ s. s ≡ st) (get_or st.memo x 0) _ st (λ z. absurd (omega arith)) (λ w. refl)

  -- ---- what the first pass has been at: a second visit adds nothing
  -- references outside that are mapped
  abbrev pub Out : Builder → Node → Type 0
  Out st j = 0 < look c.M st.out j.place j.num

  pub data Settled (st : Builder) : ℕ → Type 0 where
    s_has : {e : ℕ} → Has st.memo e → Settled st e
    s_seen : {e : ℕ} → standing c.xs e ≡ false → c.may e → AllN (Out st) (refs (get_or c.xs e [])) → ((x : ℕ) → Mem x (ops c.xs e) → Settled st x) → Settled st e

  look_ext : {st st' : Builder} → Ext c.M st st' → (p : Place) (n : ℕ) → 0 < look c.M st.out p n → 0 < look c.M st'.out p n
  unfolding look mapped_to
  look_ext x (table t) n h = ext_went c.M x (table t) n h
  look_ext x own n h = h
  look_ext x function n h = ext_went c.M x function n h

  out_ext : {st st' : Builder} → Ext c.M st st' → (js : List Node) → AllN (Out st) js → AllN (Out st') js
  out_ext x js a = alln-map js (λ j. look_ext x j.place j.num) a

  pub settled_ext : {st st' : Builder} {e : ℕ} → Ext c.M st st' → Settled st e → Settled st' e
  settled_ext x (s_has h) = s_has (ext_has c.M x _ h)
  settled_ext x (s_seen {e = e} s w o a) = s_seen s w (out_ext x (refs_at e) o) (λ y m. settled_ext x (a y m))

  -- one reference that adds nothing
  step_settled : (h : ℕ → Builder → Builder) (p : Place) (n : ℕ) (st : Builder) → Inv c st → Inside c.M c.calls p n → 0 < look c.M st.out p n → OwnP (λ x. h x st ≡ st) p n → step_c c h p n st ≡ st
  unfolding step outer bring OwnP
  step_settled h (table t) n st i w o a = let q = c.law.idle (table t) n st.out w i.good o in rw q
  step_settled h own n st i w o a = a
  step_settled h function n st i w o a = let q = c.law.idle function n st.out w i.good o in rw q

  each_settled : (h : ℕ → Builder → Builder) (js : List Node) (st : Builder) → Inv c st → AllN (InN c.M c.calls) js → AllN (Out st) js → AllN (Own (λ x. h x st ≡ st)) js → fold_refs js (step_c c h) st ≡ st
  unfolding fold_refs
  each_settled h [] st i w o a = refl
  each_settled h (j ∷ js) st i w o a = rw (step_settled h j.place j.num st i w.0 o.0 a.0) (each_settled h js st i w.1 o.1 a.1)

  pub stand_not : (e : ℕ) (st : Builder) → standing c.xs e ≡ false → stand_c c e st ≡ st
  unfolding append_standing
  stand_not e st s = rw (s, append_standing)

  stand_push : (e : ℕ) (st : Builder) → standing c.xs e ≡ true → stand_c c e st ≡ push_c c e st
  unfolding append_standing
  stand_push e st s = rw (s, append_standing)

  peek-need : (x : ℕ) (st : Builder) → standing c.xs x ≡ true → peek_c x st ≡ need_c x st
  unfolding peek
  peek-need x st s = rw (s, peek)

  peek_not : (x : ℕ) (st : Builder) → standing c.xs x ≡ false → peek_c x st ≡ st
  unfolding peek
  peek_not x st s = rw (s, peek)

  settled_peek : {st : Builder} {e : ℕ} → Settled st e → peek_c e st ≡ st
  unfolding peek
  settled_peek {st} (s_has {e = e} h) = go (standing c.xs e)
    where
      go : (t : Bool) → elim t [ true ↦ need_c e st | false ↦ st ] ≡ st
      go true = need-idle e st h
      go false = refl
  settled_peek {st} (s_seen {e = e} s w o a) = peek_not e st s

  module _ (ex : Exprs c) where
    pub plain-need : (e : ℕ) (st : Builder) → e < length c.xs → All (Has st.memo) (ops c.xs e) → plain_c c e st ≡ need_c e st
    unfolding import_body
    plain-need e st l a = import_need (length c.xs) e st l (own_ops c ex (Has st.memo) e a)

    pub settled_idle : {st : Builder} {e : ℕ} → Inv c st → Settled st e → (n : ℕ) → import_c c (stand_c c) n e st ≡ st
    unfolding import_e
    settled_idle {st} i (s_has {e = e} h) n = import_idle c (stand_c c) n e st h
    settled_idle {st} i (s_seen s w o a) zero = refl
    settled_idle {st} i (s_seen {e = e} s w o a) (suc n) =
        let q : fold_refs (refs_at e) (step_c c (import_c c (stand_c c) n)) st ≡ st =
        each_settled (import_c c (stand_c c) n) (refs_at e) st i (ex.inside e w) o (own_ops c ex _ e (all_mem _ (ops c.xs e) (λ x m. settled_idle i (a x m) n))) in
        once_is (λ s. s ≡ st) (get_or st.memo e 0) _ st (λ z. ap (stand_c c e) q ∙ stand_not e st s) (λ h. refl)

    -- standing expressions
    standing-peek : (n x : ℕ) (st : Builder) → x < n → standing c.xs x ≡ true → import_c c (stand_c c) n x st ≡ peek_c x st
    unfolding import_e need
    standing-peek zero x st l s = absurd (omega arith)
    standing-peek (suc n) x st l s =
        rw (peek-need x st s) (once_cong (get_or st.memo x 0) _ _ st (λ z. stand_push x _ s ∙ ap (push_c c x) (each_idle c (import_c c (stand_c c) n) (import_idle c (stand_c c) n) (refs_at x) st (own_ops c ex _ x (rw (ex.bare x s) tt)))))

    -- ---- one operand, then all references
    pub record Seen (x : ℕ) (st st' : Builder) : Type 0 where
      pub inv : Inv c st'
      pub ext : Ext c.M st st'
      pub settled : Settled st' x

    need-seen : (x : ℕ) (st : Builder) → Inv c st → standing c.xs x ≡ true → Seen x st (need_c x st)
    need-seen x st i s = ⊎_elim
        (λ z.
        let a : All (Has st.memo) (ops c.xs x) = rw (ex.bare x s) tt in
        let p = plain_ready c ex x st i (standing_in c.xs x s) (ex.stands_may x s) z a in
        subst (λ q. Seen x st q) (plain-need x st (standing_in c.xs x s) a) (record { inv = p.inv; ext = p.ext; settled = s_has (omega (arith, p.at)) }))
        (λ h. rw (need-idle x st h) (record { inv = i; ext = ext_refl c.M st; settled = s_has h }))
        (split (get_or st.memo x 0))

    abbrev pub Ready : Builder → ℕ → Type 0
    Ready st x = (standing c.xs x ≡ true) ⊎ Settled st x

    seen : (n x : ℕ) (st : Builder) → x < n → Inv c st → Ready st x → (import_c c (stand_c c) n x st ≡ peek_c x st) × Seen x st (peek_c x st)
    seen n x st l i (inl s) = (standing-peek n x st l s, rw (peek-need x st s) (need-seen x st i s))
    seen n x st l i (inr s) = (settled_idle i s n ∙ sym (settled_peek s), rw (settled_peek s) (record { inv = i; ext = ext_refl c.M st; settled = s }))

    -- one reference
    record Seen1 (n : ℕ) (p : Place) (k : ℕ) (st : Builder) : Type 0 where
      same : step_c c (import_c c (stand_c c) n) p k st ≡ step_c c peek_c p k st
      inv : Inv c (step_c c peek_c p k st)
      ext : Ext c.M st (step_c c peek_c p k st)
      out : 0 < look c.M (step_c c peek_c p k st).out p k
      settled : OwnP (Settled (step_c c peek_c p k st)) p k

    seen1 : (n : ℕ) (p : Place) (k : ℕ) (st : Builder) → Inv c st → Inside c.M c.calls p k → OwnP (λ x. x < n) p k → OwnP (Ready st) p k → Seen1 n p k st
    unfolding step outer bring OwnP look
    seen1 n (table t) k st i w l a = record { same = refl; inv = inv-bring c (table t) k st w i; ext = ext_bring c (table t) k st w i.good; out = c.law.maps (table t) k st.out w i.good; settled = tt }
    seen1 n own k st i w l a = let r = seen n k st l i a in record { same = r.0; inv = r.1.inv; ext = r.1.ext; out = omega arith; settled = r.1.settled }
    seen1 n function k st i w l a = record { same = refl; inv = inv-bring c function k st w i; ext = ext_bring c function k st w i.good; out = c.law.maps function k st.out w i.good; settled = tt }

    record SeenAll (n : ℕ) (js : List Node) (st : Builder) : Type 0 where
      same : fold_refs js (step_c c (import_c c (stand_c c) n)) st ≡ fold_refs js (step_c c peek_c) st
      inv : Inv c (fold_refs js (step_c c peek_c) st)
      ext : Ext c.M st (fold_refs js (step_c c peek_c) st)
      outs : AllN (Out (fold_refs js (step_c c peek_c) st)) js
      settled : AllN (Own (Settled (fold_refs js (step_c c peek_c) st))) js

    ready_ext : {st st' : Builder} → Ext c.M st st' → (x : ℕ) → Ready st x → Ready st' x
    ready_ext e x r = ⊎_elim inl (λ s. inr (settled_ext e s)) r

    seen_all : (n : ℕ) (js : List Node) (st : Builder) → Inv c st → AllN (InN c.M c.calls) js → AllN (Own (λ x. x < n)) js → AllN (Own (Ready st)) js → SeenAll n js st
    unfolding fold_refs
    seen_all n [] st i w l a = record { same = refl; inv = i; ext = ext_refl c.M st; outs = tt; settled = tt }
    seen_all n (j ∷ js) st i w l a =
        let s = seen1 n j.place j.num st i w.0 l.0 a.0 in
        let z = seen_all n js (step_c c peek_c j.place j.num st) s.inv w.1 l.1 (owns-map (ready_ext s.ext) js a.1) in
        record {
          same = rw s.same z.same;
          inv = z.inv;
          ext = ext_trans c.M s.ext z.ext;
          outs = (look_ext z.ext j.place j.num s.out, z.outs);
          settled = (own_map (λ y. settled_ext z.ext) j.place j.num s.settled, z.settled);
        }

    -- ---- one of the range, then the range
    import_glance : (n e : ℕ) (st : Builder) → e < n → e < length c.xs → c.may e → standing c.xs e ≡ false → Inv c st → All (Ready st) (ops c.xs e)
        → (import_c c (stand_c c) n e st ≡ glance_c e st) × Seen e st (glance_c e st)
    unfolding import_e glance
    import_glance zero e st l m w s i a = absurd (omega arith)
    import_glance (suc n) e st l m w s i a =
        let z = seen_all n (refs_at e) st i (ex.inside e w) (own_ops c ex _ e (all_map (ops c.xs e) (λ x h. omega arith) (ex.lower e m))) (own_ops c ex (Ready st) e a) in (
          once_cong (get_or st.memo e 0) _ _ st (λ q. stand_not e _ s ∙ z.same),
          once_is (Seen e st) (get_or st.memo e 0) _ st
              (λ q. record { inv = z.inv; ext = z.ext; settled = s_seen s w z.outs (λ x k. mem_all _ k (ops_own c ex _ e z.settled)) })
              (λ h. record { inv = i; ext = ext_refl c.M st; settled = s_has h }),
        )

    quiet-glance : (e : ℕ) (st : Builder) → e < length c.xs → c.may e → standing c.xs e ≡ false → Inv c st → All (Ready st) (ops c.xs e) → (quiet_c c e st ≡ glance_c e st) × Seen e st (glance_c e st)
    unfolding import_standing
    quiet-glance e st l w s i a = import_glance (length c.xs) e st l l w s i a

    -- THE FIRST PASS WITHOUT RECURSION: in scope, each of the range is looked at once, one level deep
    pub pass1_glance : (init : ℕ → Bool) {es ls : List ℕ} → Lives init es ls → (ρ : List ℕ) (st : Builder) → ((e : ℕ) → init e ≡ true → Has st.memo e) → Inv c st → All (Settled st) ρ
        → ok_e c.xs ls ρ ≡ true → All (λ x. x < length c.xs) ls → All c.may ls → All (λ x. standing c.xs x ≡ false) ls
        → (each_e es (quiet_c c) st ≡ each_e es glance_c st) × Ext c.M st (each_e es glance_c st)
    unfolding each_e ok_e
    pass1_glance init l_end ρ st h i v k l a s = (refl, ext_refl c.M st)
    pass1_glance init (l_skip {e = e} q m) ρ st h i v k l a s = rw (quiet-idle c ex e st (h e q), glance-idle e st (h e q)) (pass1_glance init m ρ st h i v k l a s)
    pass1_glance init (l_keep {e = e} m) ρ st h i v k l a s =
        let t = and_split (all_vis (standing c.xs) ρ (ops c.xs e)) _ k in
        let z = quiet-glance e st l.0 a.0 s.0 i (all-vis (standing c.xs) (Settled st) ρ (ops c.xs e) t.0 v) in
        let y = pass1_glance init m (e ∷ ρ) (glance_c e st) (λ x q. ext_has c.M z.1.ext x (h x q)) z.1.inv (z.1.settled, all_map ρ (λ x w. settled_ext z.1.ext w) v) t.1 l.1 a.1 s.1 in
        (rw z.0 y.0, ext_trans c.M z.1.ext y.1)
