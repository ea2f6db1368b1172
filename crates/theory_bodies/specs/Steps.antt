-- The parts of a body's import: an operand that is imported when it is needed, the two passes of an Emit. The second pass appends exactly what is live, in order.
use Prim.Native.Nat.{ℕ, zero, suc, ◌+◌, ◌<◌, pred}
use Rattle.std.proofs.Math.Path.{◌≡◌, refl}
use Rattle.std.proofs.Common.{ap, sym, ◌∙◌, inl, inr, ⊎_elim, arith, eqb-true}
use Rattle.std.specs.Prelude.{◌≢◌, ◌⊎◌, Bool, length, get_or, eqb}
use Rattle.std.proofs.Math.Bool.{true, false}
use Rattle.std.proofs.lemmas.Bool.{false≢true}
use mathlib.Core.List.{List, [], ◌∷◌, map}
use Rattle.std.proofs.Math.Decide.{ℕ_discrete}
use Rattle.std.proofs.Math.ListN.{length-append}
use Rattle.theory_lists.specs.Booleans.{and_split, or_cases}
use Rattle.model.specs.References.{Place, table, own, function, Node, refs, fold_refs}
use Rattle.model.specs.Operands.{ops, standing}
use Rattle.model.specs.Scope.{up_from, live, vis, all_vis, ok_e}
use Rattle.model.specs.Bodies.{Builder, bring, mapped_to, step, each_e, append_expr, append_standing, import_e, import_body, import_standing}
use Rattle.theory_records.specs.RecordLaws.{All as AllN, all_map as alln-map, all_both as alln-both, Has as HasN}
use Rattle.theory_bodies.specs.Lists.{All, Distinct, all_map, all_both, split}
use Rattle.theory_bodies.specs.Context.{Inside, InN, outer, Ctx, OwnP, Own, owns, owns-all, all-owns, once_is}
use Rattle.theory_bodies.specs.Inv.{Has, Un, place, Ext, ext_refl, ext_trans, ext_has, ext_went, ext_same, ext_bring, Inv, inv-bring, push_put}
use Rattle.theory_bodies.specs.Gen.{bring-has, Wants, Ends, Res, import_res}

-- in scope: it is standing, or it is one of ρ
pub vis_is : (std : ℕ → Bool) (P : ℕ → Type 0) (ρ : List ℕ) (e : ℕ) → vis std ρ e ≡ true → All P ρ → (std e ≡ true) ⊎ P e
unfolding vis
vis_is std P [] e h a = inl h
vis_is std P (x ∷ ρ) e h a = ⊎_elim (λ q. inr (rw (eqb-true e x q) a.0)) (λ q. vis_is std P ρ e q a.1) (or_cases (eqb e x) _ h)

pub all-vis : (std : ℕ → Bool) (P : ℕ → Type 0) (ρ xs : List ℕ) → all_vis std ρ xs ≡ true → All P ρ → All (λ x. (std x ≡ true) ⊎ P x) xs
unfolding all_vis
all-vis std P ρ [] h a = tt
all-vis std P ρ (x ∷ xs) h a = let p = and_split (vis std ρ x) _ h in (vis_is std P ρ x p.0 a, all-vis std P ρ xs p.1 a)

-- live, as a judgement
pub data Lives (init : ℕ → Bool) : List ℕ → List ℕ → Type 0 where
  l_end : Lives init [] []
  l_skip : {e : ℕ} {es ls : List ℕ} → init e ≡ true → Lives init es ls → Lives init (e ∷ es) ls
  l_keep : {e : ℕ} {es ls : List ℕ} → Lives init es ls → Lives init (e ∷ es) (e ∷ ls)

pub lives : (init : ℕ → Bool) (es : List ℕ) → Lives init es (live es init)
unfolding live
lives init [] = l_end
lives init (e ∷ es) = go (init e) refl (lives init es)
  where
    go : (t : Bool) → init e ≡ t → Lives init es (live es init) → Lives init (e ∷ es) (elim t [ true ↦ live es init | false ↦ e ∷ live es init ])
    go true q h = l_skip q h
    go false q h = l_keep h

-- what tests 3 and 4 and the layout leave of a function's expressions
pub record Exprs (c : Ctx) : Type 0 where
  pub owned : (e : ℕ) → owns (refs (get_or c.xs e [])) ≡ ops c.xs e
  pub lower : (e : ℕ) → e < length c.xs → All (λ x. x < e) (ops c.xs e)
  -- of what may be imported, the functions that it names may be followed
  pub inside : (e : ℕ) → c.may e → AllN (InN c.M c.calls) (refs (get_or c.xs e []))
  pub may_ops : (e : ℕ) → c.may e → All c.may (ops c.xs e)
  pub stands_may : (e : ℕ) → standing c.xs e ≡ true → c.may e
  pub bare : (e : ℕ) → standing c.xs e ≡ true → ops c.xs e ≡ []

pub own_ops : (c : Ctx) → Exprs c → (P : ℕ → Type 0) (e : ℕ) → All P (ops c.xs e) → AllN (Own P) (refs (get_or c.xs e []))
own_ops c x P e a = owns-all P (refs (get_or c.xs e [])) (rw (x.owned e) a)

pub ops_own : (c : Ctx) → Exprs c → (P : ℕ → Type 0) (e : ℕ) → AllN (Own P) (refs (get_or c.xs e [])) → All P (ops c.xs e)
ops_own c x P e a = rw (x.owned e) at (all-owns P (refs (get_or c.xs e [])) a)

module _ (c : Ctx) where
  abbrev refs_at : ℕ → List Node
  refs_at e = refs (get_or c.xs e [])

  abbrev pub plain_c : ℕ → Builder → Builder
  plain_c = import_body c.o c.M c.follow c.xs

  abbrev pub quiet_c : ℕ → Builder → Builder
  quiet_c = import_standing c.o c.M c.follow c.xs

  abbrev pub step_c : (ℕ → Builder → Builder) → Place → ℕ → Builder → Builder
  step_c = step c.o c.M c.follow

  abbrev pub import_c : (ℕ → Builder → Builder) → ℕ → ℕ → Builder → Builder
  import_c = import_e c.o c.M c.follow c.xs

  abbrev pub push_c : ℕ → Builder → Builder
  push_c = append_expr c.o c.M c.follow c.xs

  abbrev pub stand_c : ℕ → Builder → Builder
  stand_c = append_standing c.o c.M c.follow c.xs

  -- the references outside only
  abbrev pub abroad : List Node → Builder → Builder
  abroad js st = fold_refs js (step_c (λ e m. m)) st

  -- what is mapped stays as it is
  pub import_idle : (d : ℕ → Builder → Builder) (n e : ℕ) (st : Builder) → Has st.memo e → import_c d n e st ≡ st
  unfolding import_e
  import_idle d zero e st h = refl
  import_idle d (suc n) e st h = once_is (λ s. s ≡ st) (get_or st.memo e 0) _ st (λ z. absurd (omega arith)) (λ w. refl)

  memo_step : (p : Place) (n : ℕ) (st : Builder) → (step_c (λ e m. m) p n st).memo ≡ st.memo
  unfolding step bring
  memo_step (table t) n st = refl
  memo_step own n st = refl
  memo_step function n st = refl

  pub each_idle : (h : ℕ → Builder → Builder) → ((e : ℕ) (st : Builder) → Has st.memo e → h e st ≡ st) → (js : List Node) (st : Builder) → AllN (Own (Has st.memo)) js → fold_refs js (step_c h) st ≡ abroad js st
  unfolding fold_refs
  each_idle h k [] st a = refl
  each_idle h k (j ∷ js) st a =
      rw (go j.place j.num a.0)
      (each_idle h k js (step_c (λ e m. m) j.place j.num st) (rw (memo_step j.place j.num st) a.1))
    where
      go : (p : Place) (n : ℕ) → OwnP (Has st.memo) p n → step_c h p n st ≡ step_c (λ e m. m) p n st
      go (table t) n a = unfold step in refl
      go own n a = unfold step in k n st (unfold OwnP in a)
      go function n a = unfold step in refl

  pub record Brought (js : List Node) (st st' : Builder) : Type 0 where
    pub inv : Inv c st'
    pub ext : Ext c.M st st'
    pub memo : st'.memo ≡ st.memo
    pub made : st'.made ≡ st.made
    pub has : AllN (λ j. Own (Has st.memo) j → HasN (mapped_to c.M st') j) js

  pub record Brought1 (p : Place) (n : ℕ) (st st' : Builder) : Type 0 where
    pub inv : Inv c st'
    pub ext : Ext c.M st st'
    pub memo : st'.memo ≡ st.memo
    pub made : st'.made ≡ st.made
    pub has : OwnP (Has st.memo) p n → 0 < mapped_to c.M st' p n

  pub brought1 : (p : Place) (n : ℕ) (st : Builder) → Inv c st → Inside c.M c.calls p n → Brought1 p n st (step_c (λ e m. m) p n st)
  unfolding step outer bring mapped_to OwnP
  brought1 (table t) n st i w =
      record { inv = inv-bring c (table t) n st w i; ext = ext_bring c (table t) n st w i.good; memo = refl; made = refl; has = λ h. bring-has c (table t) n st w i (λ q. (let e : ◌≡◌ {A = ℕ} 0 1 = cc in omega arith)) }
  brought1 own n st i w = record { inv = i; ext = ext_refl c.M st; memo = refl; made = refl; has = λ h. h }
  brought1 function n st i w =
      record { inv = inv-bring c function n st w i; ext = ext_bring c function n st w i.good; memo = refl; made = refl; has = λ h. bring-has c function n st w i (λ q. (let e : ◌≡◌ {A = ℕ} 0 1 = cc in omega arith)) }

  pub brought : (js : List Node) (st : Builder) → Inv c st → AllN (InN c.M c.calls) js → Brought js st (abroad js st)
  unfolding fold_refs
  brought [] st i w = record { inv = i; ext = ext_refl c.M st; memo = refl; made = refl; has = tt }
  brought (j ∷ js) st i w =
      let a = brought1 j.place j.num st i w.0 in
      let z = brought js (step_c (λ e m. m) j.place j.num st) a.inv w.1 in
      record {
        inv = z.inv;
        ext = ext_trans c.M a.ext z.ext;
        memo = z.memo ∙ a.memo;
        made = z.made ∙ a.made;
        has = (λ h. ext_went c.M z.ext j.place j.num (a.has h), alln-map js (λ i f h. f (rw a.memo h)) z.has);
      }

  -- exactly e is appended
  pub record Pushed (e : ℕ) (st st' : Builder) : Type 0 where
    pub inv : Inv c st'
    pub ext : Ext c.M st st'
    pub at : get_or st'.memo e 0 ≡ suc (length st.made)
    pub other : (y : ℕ) → y ≢ e → get_or st'.memo y 0 ≡ get_or st.memo y 0
    pub len : length st'.made ≡ suc (length st.made)

  push_len : (e : ℕ) (st : Builder) → length (push_c e st).made ≡ suc (length st.made)
  unfolding append_expr
  push_len e st = simp length-append (omega arith)

  module _ (x : Exprs c) where
    pub import_ready : (n e : ℕ) (st : Builder) → e < n → Inv c st → e < length c.xs → c.may e → Un st.memo e → AllN (Own (Has st.memo)) (refs_at e) → Pushed e st (import_c push_c n e st)
    unfolding import_e
    import_ready zero e st l i m y z a = absurd (omega arith)
    import_ready (suc n) e st l i m y z a =
        once_is (Pushed e st) (get_or st.memo e 0) _ st
        (λ q. rw (each_idle (import_c push_c n) (import_idle push_c n) (refs_at e) st a) (go (brought (refs_at e) st i (x.inside e y)))) (λ q. absurd (omega arith))
      where
        go : {s : Builder} → Brought (refs_at e) st s → Pushed e st (push_c e s)
        go {s} b =
            let p = push_put c e s b.inv m (rw b.memo z) (alln-both (refs_at e) (λ j f g. f g) b.has a) in
            record {
              inv = p.inv;
              ext = ext_trans c.M b.ext p.ext;
              at = rw (p.at, b.made);
              other = λ y q. p.other y q ∙ rw b.memo;
              len = rw (push_len e s, b.made);
            }

    pub plain_ready : (e : ℕ) (st : Builder) → Inv c st → e < length c.xs → c.may e → Un st.memo e → All (Has st.memo) (ops c.xs e) → Pushed e st (plain_c e st)
    unfolding import_body
    plain_ready e st i l y z a = import_ready (length c.xs) e st l i l y z (own_ops c x (Has st.memo) e a)

    pub plain-idle : (e : ℕ) (st : Builder) → Has st.memo e → plain_c e st ≡ st
    unfolding import_body
    plain-idle e st h = import_idle push_c (length c.xs) e st h

    pub quiet-idle : (e : ℕ) (st : Builder) → Has st.memo e → quiet_c e st ≡ st
    unfolding import_standing
    quiet-idle e st h = import_idle stand_c (length c.xs) e st h

    module _ (init : ℕ → Bool) where
      -- what may share a record
      abbrev pub Soft : ℕ → Type 0
      Soft e = (standing c.xs e ≡ true) ⊎ (init e ≡ true)

      abbrev pub Shared : List ℕ → Type 0
      Shared m = (e e' : ℕ) → Has m e → Has m e' → place m e ≡ place m e' → (e ≡ e') ⊎ (Soft e × Soft e')

      -- e alone has the new place
      pub shared_new : (e : ℕ) (st st' : Builder) → Inv c st → Shared st.memo → get_or st'.memo e 0 ≡ suc (length st.made)
          → ((y : ℕ) → y ≢ e → get_or st'.memo y 0 ≡ get_or st.memo y 0) → Shared st'.memo
      unfolding place
      shared_new e st st' i s at other a b ha hb q = go (ℕ_discrete a e) (ℕ_discrete b e)
        where
          older : (z : ℕ) → z ≢ e → Has st'.memo z → Has st.memo z
          older z n h = rw (other z n) at h

          low : (z : ℕ) → z ≢ e → Has st'.memo z → pred (get_or st'.memo z 0) < length st.made
          low z n h = rw (other z n) (i.found z (older z n h)).below

          newer : (z : ℕ) → z ≡ e → pred (get_or st'.memo z 0) ≡ length st.made
          newer z p = rw (p, at)

          go : Dec (a ≡ e) → Dec (b ≡ e) → (a ≡ b) ⊎ (Soft a × Soft b)
          go (yes u) (yes v) = inl (u ∙ sym v)
          go (yes u) (no v) = absurd (omega (arith, newer a u, low b v hb))
          go (no u) (yes v) = absurd (omega (arith, newer b v, low a u ha))
          go (no u) (no v) = s a b (older a u ha) (older b v hb) (sym (ap pred (other a u)) ∙ (q ∙ ap pred (other b v)))

      -- ---- the first pass
      abbrev Stands : ℕ → Bool
      Stands = standing c.xs

      abbrev Moves : ℕ → Type 0
      Moves y = standing c.xs y ≡ false

      abbrev Quiet : ℕ → Builder → Builder → Type 0
      Quiet e st st' = Res c stand_c Stands c.may Moves (λ s. Shared s.memo) e st st'

      -- a standing expression has no operands
      pub stands-has : (e : ℕ) (P : ℕ → Type 0) → standing c.xs e ≡ true → AllN (Own P) (refs_at e)
      stands-has e P s = own_ops c x P e (rw (x.bare e s) tt)

      stand_ends : (e : ℕ) (st : Builder) → e < length c.xs → c.may e → Un st.memo e → Inv c st → Shared st.memo → AllN (Wants c stand_c Stands c.may Moves (λ s. Shared s.memo) st) (refs_at e)
          → Ends c stand_c Stands c.may Moves (λ s. Shared s.memo) e st (stand_c e st)
      unfolding append_standing
      stand_ends e st l u z i s a = go (standing c.xs e) refl
        where
          go : (t : Bool) → standing c.xs e ≡ t → Ends c stand_c Stands c.may Moves (λ s. Shared s.memo) e st (elim t [ true ↦ push_c e st | false ↦ st ])
          go true q =
              let p = push_put c e st i l z (alln-both (refs_at e) (λ j f g. f g) a (stands-has e (λ y. standing c.xs y ≡ true) q)) in
              record {
                inv = p.inv;
                j = shared_new e st (push_c e st) i s p.at p.other;
                ext = p.ext;
                has = λ w. omega (arith, p.at);
                other = λ y n u. p.other y n ∙ u;
                self = λ w u. absurd (false≢true (sym w ∙ q));
              }
          go false q = record { inv = i; j = s; ext = ext_refl c.M st; has = λ w. absurd (false≢true (sym q ∙ w)); other = λ y n u. u; self = λ w u. u }

      quiet_res : (e : ℕ) (st : Builder) → e < length c.xs → c.may e → Inv c st → Shared st.memo → Quiet e st (quiet_c e st)
      unfolding import_standing bring
      quiet_res e st l y i s =
          import_res c stand_c Stands c.may Moves (λ s. Shared s.memo) (λ e m. own_ops c x _ e (x.lower e m)) x.inside
          (λ y h. own_ops c x _ y (x.may_ops y h)) (λ p n s j. j) stand_ends
          (length c.xs) e st l l y i s

      -- its standing operands are mapped
      abbrev pub Under : Builder → ℕ → Type 0
      Under st e = All (λ y. standing c.xs y ≡ true → Has st.memo y) (ops c.xs e)

      pub record Pass1 (es : List ℕ) (st st' : Builder) : Type 0 where
        pub inv : Inv c st'
        pub shared : Shared st'.memo
        pub ext : Ext c.M st st'
        pub apart : (y : ℕ) → standing c.xs y ≡ false → Un st.memo y → Un st'.memo y
        pub under : All (λ e. Un st'.memo e → Under st' e) es

      wants_under : (e : ℕ) (st : Builder) → AllN (Wants c stand_c Stands c.may Moves (λ s. Shared s.memo) st) (refs_at e) → Under st e
      wants_under e st a = ops_own c x (λ y. standing c.xs y ≡ true → Has st.memo y) e (alln-map (refs_at e) (λ j h. go j.place j.num h) a)
        where
          go : (p : Place) (n : ℕ) → (OwnP (λ y. standing c.xs y ≡ true) p n → 0 < mapped_to c.M st p n) → OwnP (λ y. standing c.xs y ≡ true → Has st.memo y) p n
          go (table t) n h = unfold OwnP in tt
          go own n h = unfold OwnP in (unfold OwnP mapped_to in h)
          go function n h = unfold OwnP in tt

      quiet-first : (e : ℕ) (ls : List ℕ) (st a z : Builder) → Quiet e st a → Pass1 ls a z → Pass1 (e ∷ ls) st z
      quiet-first e ls st a z r p = record {
        inv = p.inv;
        shared = p.shared;
        ext = ext_trans c.M r.ext p.ext;
        apart = λ y w u. p.apart y w (r.apart y w u);
        under = (λ u. all_map (ops c.xs e) (λ y k w. ext_has c.M p.ext y (k w)) (wants_under e a (r.under (was u))), p.under);
      }
        where
          was : Un z.memo e → Un st.memo e
          was u = ⊎_elim (λ w. w) (λ w. absurd (omega (arith, ext_has c.M (ext_trans c.M r.ext p.ext) e w))) (split (get_or st.memo e 0))

      pub pass1 : {es ls : List ℕ} → Lives init es ls → (st : Builder) → ((e : ℕ) → init e ≡ true → Has st.memo e) → All (λ y. y < length c.xs) ls → All c.may ls → Inv c st → Shared st.memo
          → Pass1 ls st (each_e es quiet_c st)
      unfolding each_e
      pass1 l_end st h l y i s = record { inv = i; shared = s; ext = ext_refl c.M st; apart = λ y q u. u; under = tt }
      pass1 (l_skip {e = e} q v) st h l y i s = rw (quiet-idle e st (h e q)) (pass1 v st h l y i s)
      pass1 (l_keep {e = e} {es = es} {ls = ls} v) st h l y i s =
          let r = quiet_res e st l.0 y.0 i s in
          quiet-first e ls st _ _ r (pass1 v (quiet_c e st) (λ y q. ext_has c.M r.ext y (h y q)) l.1 y.1 r.inv r.j)

      -- ---- the second pass: exactly what is live is appended, in order
      pub record Pass2 (es : List ℕ) (st st' : Builder) : Type 0 where
        pub inv : Inv c st'
        pub shared : Shared st'.memo
        pub ext : Ext c.M st st'
        pub has : All (Has st'.memo) es
        pub apart : (y : ℕ) → All (λ z. y ≢ z) es → Un st.memo y → Un st'.memo y
        pub len : length st'.made ≡ length st.made + length es
        pub row : map (place st'.memo) es ≡ up_from (length es) (length st.made)

      -- e in front
      first : (e : ℕ) (es : List ℕ) (st a z : Builder) → Pushed e st a → Pass2 es a z → Pass2 (e ∷ es) st z
      unfolding up_from place
      first e es st a z p r = record {
        inv = r.inv;
        shared = r.shared;
        ext = ext_trans c.M p.ext r.ext;
        has = (ext_has c.M r.ext e (omega (arith, p.at)), r.has);
        apart = λ y w u. r.apart y w.1 (p.other y w.0 ∙ u);
        len = omega (arith, r.len, p.len);
        row = rw (ext_same c.M r.ext e (omega (arith, p.at)), p.at, r.row, p.len);
      }

      -- what is in scope or standing, and is mapped where it is
      pub now_has : (ρ : List ℕ) (st : Builder) (e : ℕ) → All (Has st.memo) ρ → all_vis (standing c.xs) ρ (ops c.xs e) ≡ true → Under st e → All (Has st.memo) (ops c.xs e)
      now_has ρ st e v t b = all_both (ops c.xs e) (λ y f g. ⊎_elim f (λ w. w) g) b (all-vis (standing c.xs) (Has st.memo) ρ (ops c.xs e) t v)

      pub pass2 : {es ls : List ℕ} → Lives init es ls → (ρ : List ℕ) (st : Builder) → ((e : ℕ) → init e ≡ true → Has st.memo e) → Inv c st → Shared st.memo → All (Has st.memo) ρ
          → ok_e c.xs ls ρ ≡ true → All (Under st) ls
          → All (λ y. y < length c.xs) ls → All c.may ls → All (Un st.memo) ls → Distinct ls
          → Pass2 ls st (each_e es plain_c st)
      unfolding each_e ok_e up_from
      pass2 l_end ρ st h i s v k b l a u d = record { inv = i; shared = s; ext = ext_refl c.M st; has = tt; apart = λ y w u. u; len = omega arith; row = refl }
      pass2 (l_skip {e = e} q m) ρ st h i s v k b l a u d = rw (plain-idle e st (h e q)) (pass2 m ρ st h i s v k b l a u d)
      pass2 (l_keep {e = e} {ls = ls} m) ρ st h i s v k b l a u d =
          let t = and_split (all_vis (standing c.xs) ρ (ops c.xs e)) _ k in
          let p = plain_ready e st i l.0 a.0 u.0 (now_has ρ st e v t.0 b.0) in
          first e ls st _ _ p
          (pass2 m (e ∷ ρ) (plain_c e st)
          (λ y q. ext_has c.M p.ext y (h y q)) p.inv (shared_new e st (plain_c e st) i s p.at p.other)
          (omega (arith, p.at), all_map ρ (ext_has c.M p.ext) v)
          t.1
          (all_map ls (λ y w. all_map (ops c.xs y) (λ z f q. ext_has c.M p.ext z (f q)) w) b.1)
          l.1
          a.1
          (all_both ls (λ y n w. p.other y (λ q. n (sym q)) ∙ w) d.0 u.1)
          d.1)
