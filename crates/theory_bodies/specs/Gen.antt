-- The import of an expression, whichever way it ends: by induction on the number. Used for the declarations (merging) and for the first pass of an Emit (only standing expressions).
use Prim.Native.Nat.{ℕ, zero, suc, ◌<◌, ◌≤◌}
use Rattle.std.proofs.Math.Path.{◌≡◌}
use Rattle.std.specs.Prelude.{refl, ◌≢◌, Bool, true, length, get_or}
use Rattle.std.proofs.Common.{arith}
use mathlib.Core.List.{List, [], ◌∷◌}
use Rattle.std.proofs.Math.Decide.{ℕ_discrete}
use Rattle.model.specs.References.{Place, table, own, function, Node, refs, fold_refs}
use Rattle.model.specs.Bodies.{Builder, bring, mapped_to, step, import_e}
use Rattle.theory_records.specs.RecordLaws.{All as AllN, all_map as alln-map, Has as HasN}
use Rattle.theory_bodies.specs.Context.{look, Inside, InN, outer, Ctx, OwnP, Own, once_is}
use Rattle.theory_bodies.specs.Inv.{Has, Un, Ext, ext_refl, ext_trans, ext_went, ext_bring, Inv, inv-bring}

-- a reference outside is mapped after it was imported
pub bring-has : (c : Ctx) (p : Place) (n : ℕ) (st : Builder) → Inside c.M c.calls p n → Inv c st → (own ≡ p → ⊥) → 0 < mapped_to c.M (bring (outer c.o c.M c.follow p n) st) p n
unfolding bring mapped_to look
bring-has c (table t) n st w i h = c.law.maps (table t) n st.out w i.good
bring-has c own n st w i h = absurd (h refl)
bring-has c function n st w i h = c.law.maps function n st.out w i.good

module _ (c : Ctx) (ending : ℕ → Builder → Builder) (want : ℕ → Bool) (P Q : ℕ → Type 0) (J : Builder → Type 0) where
  abbrev Want : ℕ → Type 0
  Want x = want x ≡ true

  abbrev refs_at : ℕ → List Node
  refs_at e = refs (get_or c.xs e [])

  -- a wanted reference is mapped
  abbrev pub Wants : Builder → Node → Type 0
  Wants st j = Own Want j → HasN (mapped_to c.M st) j

  -- what ending with e does: it leaves the others, and e too where Q holds of it
  pub record Ends (e : ℕ) (st st' : Builder) : Type 0 where
    pub inv : Inv c st'
    pub j : J st'
    pub ext : Ext c.M st st'
    pub has : want e ≡ true → Has st'.memo e
    pub other : (y : ℕ) → y ≢ e → Un st.memo y → Un st'.memo y
    pub self : Q e → Un st.memo e → Un st'.memo e

  -- what importing e does
  pub record Res (e : ℕ) (st st' : Builder) : Type 0 where
    pub inv : Inv c st'
    pub j : J st'
    pub ext : Ext c.M st st'
    pub has : want e ≡ true → Has st'.memo e
    pub under : Un st.memo e → AllN (Wants st') (refs_at e)
    pub above : (y : ℕ) → e < y → Un st.memo y → Un st'.memo y
    pub apart : (y : ℕ) → Q y → Un st.memo y → Un st'.memo y

  -- what a reference does, and what references do
  pub record One (b : ℕ) (p : Place) (n : ℕ) (st st' : Builder) : Type 0 where
    pub inv : Inv c st'
    pub j : J st'
    pub ext : Ext c.M st st'
    pub has : OwnP Want p n → 0 < mapped_to c.M st' p n
    pub above : (y : ℕ) → b ≤ y → Un st.memo y → Un st'.memo y
    pub apart : (y : ℕ) → Q y → Un st.memo y → Un st'.memo y

  pub record Many (b : ℕ) (js : List Node) (st st' : Builder) : Type 0 where
    pub inv : Inv c st'
    pub j : J st'
    pub ext : Ext c.M st st'
    pub has : AllN (Wants st') js
    pub above : (y : ℕ) → b ≤ y → Un st.memo y → Un st'.memo y
    pub apart : (y : ℕ) → Q y → Un st.memo y → Un st'.memo y

  module _ (lower : (e : ℕ) → e < length c.xs → AllN (Own (λ x. x < e)) (refs_at e))
      (inside : (e : ℕ) → P e → AllN (InN c.M c.calls) (refs_at e))
      (P-ops : (e : ℕ) → P e → AllN (Own P) (refs_at e))
      (J-bring : (p : Place) (n : ℕ) (st : Builder) → J st → J (bring (outer c.o c.M c.follow p n) st))
      (commit : (e : ℕ) (st : Builder) → e < length c.xs → P e → Un st.memo e → Inv c st → J st → AllN (Wants st) (refs_at e) → Ends e st (ending e st)) where
    outside : (b : ℕ) (p : Place) (n : ℕ) (st : Builder) → Inside c.M c.calls p n → (own ≡ p → ⊥) → Inv c st → J st → One b p n st (bring (outer c.o c.M c.follow p n) st)
    unfolding bring
    outside b p n st w o i k = record {
      inv = inv-bring c p n st w i;
      j = J-bring p n st k;
      ext = ext_bring c p n st w i.good;
      has = λ h. bring-has c p n st w i o;
      above = λ y l u. u;
      apart = λ y q u. u;
    }

    module _ (b : ℕ) (h : ℕ → Builder → Builder) (r : (x : ℕ) (st : Builder) → x < b → P x → Inv c st → J st → Res x st (h x st)) where
      one : (p : Place) (n : ℕ) (st : Builder) → OwnP (λ x. x < b) p n → OwnP P p n → Inside c.M c.calls p n → Inv c st → J st → One b p n st (step c.o c.M c.follow h p n st)
      unfolding step OwnP outer mapped_to
      one (table t) n st l p w i k = let z = outside b (table t) n st w (λ q. (let e : ◌≡◌ {A = ℕ} 0 1 = cc in omega arith)) i k in z
      one own n st l p w i k =
          let z = r n st l p i k in
          record { inv = z.inv; j = z.j; ext = z.ext; has = z.has; above = λ y m u. z.above y (omega arith) u; apart = z.apart }
      one function n st l p w i k = let z = outside b function n st w (λ q. (let e : ◌≡◌ {A = ℕ} 0 1 = cc in omega arith)) i k in z

      pub many : (js : List Node) (st : Builder) → AllN (Own (λ x. x < b)) js → AllN (Own P) js → AllN (InN c.M c.calls) js → Inv c st → J st → Many b js st (fold_refs js (step c.o c.M c.follow h) st)
      unfolding fold_refs
      many [] st l p w i k = record { inv = i; j = k; ext = ext_refl c.M st; has = tt; above = λ y m u. u; apart = λ y q u. u }
      many (j ∷ js) st l p w i k =
          let a = one j.place j.num st l.0 p.0 w.0 i k in
          let z = many js (step c.o c.M c.follow h j.place j.num st) l.1 p.1 w.1 a.inv a.j in
          record {
            inv = z.inv;
            j = z.j;
            ext = ext_trans c.M a.ext z.ext;
            has = (λ v. ext_went c.M z.ext j.place j.num (a.has v), z.has);
            above = λ y m u. z.above y m (a.above y m u);
            apart = λ y q u. z.apart y q (a.apart y q u);
          }

    -- the references, then the end
    whole : (e : ℕ) (st a z : Builder) → Many e (refs_at e) st a → Ends e a z → Res e st z
    whole e st a z f d = record {
      inv = d.inv;
      j = d.j;
      ext = ext_trans c.M f.ext d.ext;
      has = d.has;
      under = λ u. alln-map (refs_at e) (λ i h w. ext_went c.M d.ext i.place i.num (h w)) f.has;
      above = λ y l u. d.other y (λ q. omega arith) (f.above y (omega arith) u);
      apart = λ y q u. side y (ℕ_discrete y e) q (f.apart y q u);
    }
      where
        side : (y : ℕ) → Dec (y ≡ e) → Q y → Un a.memo y → Un z.memo y
        side y (yes p) q u = rw p (d.self (rw p at q) (rw p at u))
        side y (no n) q u = d.other y n u

    pub import_res : (n e : ℕ) (st : Builder) → e < n → e < length c.xs → P e → Inv c st → J st → Res e st (import_e c.o c.M c.follow c.xs ending n e st)
    unfolding import_e
    import_res zero e st l m p i k = absurd (omega arith)
    import_res (suc n) e st l m p i k =
        once_is (Res e st) (get_or st.memo e 0) _ st
        (λ z.
        let f = many e (import_e c.o c.M c.follow c.xs ending n) (λ x s w q v u. import_res n x s (omega arith) (omega arith) q v u) (refs_at e) st (lower e m) (P-ops e p) (inside e p) i k in
        whole e st _ _ f (commit e _ m p (f.above e (omega arith) z) f.inv f.j f.has))
        (λ h. record { inv = i; j = k; ext = ext_refl c.M st; has = λ w. h; under = λ u. absurd (omega arith); above = λ y w u. u; apart = λ y q u. u })
