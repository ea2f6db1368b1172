-- Calls are followed at a Call's word alone: the import of an expression need not follow calls (`still`).
use Prim.Native.Nat.{ℕ, zero, suc, ◌<◌}
use Rattle.std.proofs.Math.Path.{◌≡◌, refl, ap}
use Rattle.std.proofs.Common.{sym, ◌∙◌, arith}
use Rattle.std.specs.Prelude.{Bool, length, get_or, set}
use Rattle.std.proofs.Math.Bool.{true, false}
use mathlib.Core.List.{List, [], ◌∷◌}
use Rattle.model.specs.Outcome.{Cells}
use Rattle.model.specs.Module.{Module}
use Rattle.model.specs.References.{Place, table, own, function, Node, refs, fold_refs}
use Rattle.model.specs.Operands.{standing}
use Rattle.model.specs.Imports.{Derived}
use Rattle.model.specs.Bodies.{known, Builder, bring, step, each_e, append_expr, intern_expr, import_e, import_initialiser}
use Rattle.theory_records.specs.RecordLaws.{All as AllN, all_map as alln-map}
use Rattle.theory_finish.specs.Called.{FunOk, fun_table, fun_own, fun_call, FunsOk}
use Rattle.theory_bodies.specs.Lists.{All}
use Rattle.theory_bodies.specs.Context.{look, Inside, InN, outer, Ctx, OwnP, Own, once_cong}
use Rattle.theory_bodies.specs.Inv.{Has}
use Rattle.theory_bodies.specs.Steps.{Lives, l_end, l_skip, l_keep}
use Rattle.theory_bodies.specs.Shallow.{need, peek, glance}
use Rattle.theory_passes.specs.Pass.{after}
use Rattle.theory_passes.specs.Operands.{need-mapped, glance-mapped}
use Rattle.theory_passes.proofs.Growth.{Growing, grow_all, grow_after, grow_need, grow_glance, grow_unique}
use Rattle.theory_passes.specs.Light.{still}

pub funs_map : {P Q : ℕ → Type 0} → ((n : ℕ) → P n → Q n) → (js : List Node) → FunsOk P js → FunsOk Q js
funs_map {P} {Q} f js a = alln-map js (λ j. go j.place j.num) a
  where
    go : (p : Place) (n : ℕ) → FunOk P p n → FunOk Q p n
    go (table t) n fun_table = fun_table
    go own n fun_own = fun_own
    go function n (fun_call q) = fun_call (f n q)

-- ---- what is mapped stays mapped
module _ (o : ℕ) (M : Module) (follow : ℕ → Derived → Derived) (xs : List Cells) where
  pub record Keeps (m m' : Builder) : Type 0 where
    pub keeps : (y : ℕ) → Has m.memo y → Has m'.memo y

  set-has : (ms : List ℕ) (e v : ℕ) → (y : ℕ) → Has ms y → Has (set ms e (suc v)) y
  set-has [] e v y h = h
  set-has (m ∷ ms) zero v zero h = omega arith
  set-has (m ∷ ms) zero v (suc y) h = h
  set-has (m ∷ ms) (suc e) v zero h = h
  set-has (m ∷ ms) (suc e) v (suc y) h = set-has ms e v y h

  pub keeping : Growing o M follow xs Keeps
  unfolding bring append_expr intern_expr
  keeping = record {
    same = λ m. record { keeps = λ y h. h };
    next = λ a b c p q. record { keeps = λ y h. q.keeps y (p.keeps y h) };
    tables = λ t n m. record { keeps = λ y h. h };
    functions = λ f m. record { keeps = λ y h. h };
    appends = λ e m. record { keeps = λ y h. set-has m.memo e _ y h };
    merges = λ e m. record { keeps = λ y h. set-has m.memo e _ y h };
  }

  -- ---- what each single step keeps, the passes without calls in expressions keep, from any cell on
  module _ (R : Builder → Builder → Type 0) (g : Growing o M follow xs R) where
    alike : Growing o M still xs R
    unfolding bring append_expr intern_expr
    alike = record { same = g.same; next = g.next; tables = g.tables; functions = λ f m. g.same m; appends = g.appends; merges = g.merges }

    pub still_grow_front : (cs : Cells) (m : Builder) → R m (after o M follow (import_initialiser o M still xs) (import_initialiser o M still xs) cs m)
    still_grow_front cs m = grow_after o M follow xs R g (import_initialiser o M still xs) (grow_unique o M still xs R alike) (import_initialiser o M still xs) (grow_all o M still xs R alike (import_initialiser o M still xs) (grow_unique o M still xs R alike)) cs m

    pub still_grow_body : (cs : Cells) (m : Builder) → R m (after o M follow (need o M still xs) (glance o M still xs) cs m)
    still_grow_body cs m = grow_after o M follow xs R g (need o M still xs) (grow_need o M still xs R alike) (glance o M still xs) (grow_all o M still xs R alike (glance o M still xs) (grow_glance o M still xs R alike)) cs m

  -- ---- an expression that names no function
  abbrev pub Bare : ℕ → Type 0
  Bare e = FunsOk (λ f. ⊥) (refs (get_or xs e []))

  step_light : (h k : ℕ → Builder → Builder) → ((e : ℕ) (m : Builder) → h e m ≡ k e m) → (p : Place) (n : ℕ) (m : Builder) → FunOk (λ f. ⊥) p n → step o M follow h p n m ≡ step o M still k p n m
  unfolding step
  step_light h k a (table t) n m fun_table = refl
  step_light h k a own n m fun_own = a n m
  step_light h k a function n m (fun_call q) = absurd q

  each_light : (h k : ℕ → Builder → Builder) → ((e : ℕ) (m : Builder) → h e m ≡ k e m) → (js : List Node) (m : Builder) → FunsOk (λ f. ⊥) js → fold_refs js (step o M follow h) m ≡ fold_refs js (step o M still k) m
  unfolding fold_refs
  each_light h k a [] m b = refl
  each_light h k a (j ∷ js) m b = rw (step_light h k a j.place j.num m b.0) (each_light h k a js (step o M still k j.place j.num m) b.1)

  pub need_light : (e : ℕ) (m : Builder) → Bare e → need o M follow xs e m ≡ need o M still xs e m
  unfolding need append_expr
  need_light e m b = once_cong (get_or m.memo e 0) _ _ m (λ z. ap (append_expr o M follow xs e) (each_light (λ x m. m) (λ x m. m) (λ e m. refl) (refs (get_or xs e [])) m b))

  pub need_had : (e : ℕ) (m : Builder) → Has m.memo e → need o M follow xs e m ≡ need o M still xs e m
  need_had e m h = need-mapped o M follow xs e m h ∙ sym (need-mapped o M still xs e m h)

  -- ---- an initialiser: P holds of it and of all that it reaches
  module _ (P : ℕ → Type 0) (bare : (e : ℕ) → P e → Bare e) (below : (e : ℕ) → P e → AllN (Own P) (refs (get_or xs e []))) where
    among-step : (h k : ℕ → Builder → Builder) → ((e : ℕ) (m : Builder) → P e → h e m ≡ k e m) → (p : Place) (n : ℕ) (m : Builder) → FunOk (λ f. ⊥) p n → OwnP P p n → step o M follow h p n m ≡ step o M still k p n m
    unfolding step OwnP
    among-step h k a (table t) n m fun_table b = refl
    among-step h k a own n m fun_own b = a n m b
    among-step h k a function n m (fun_call q) b = absurd q

    among_each : (h k : ℕ → Builder → Builder) → ((e : ℕ) (m : Builder) → P e → h e m ≡ k e m) → (js : List Node) (m : Builder) → FunsOk (λ f. ⊥) js → AllN (Own P) js → fold_refs js (step o M follow h) m ≡ fold_refs js (step o M still k) m
    unfolding fold_refs
    among_each h k a [] m f b = refl
    among_each h k a (j ∷ js) m f b = rw (among-step h k a j.place j.num m f.0 b.0) (among_each h k a js (step o M still k j.place j.num m) f.1 b.1)

    levels_light : (n e : ℕ) (m : Builder) → P e → import_e o M follow xs (intern_expr o M follow xs) n e m ≡ import_e o M still xs (intern_expr o M still xs) n e m
    unfolding import_e intern_expr
    levels_light zero e m h = refl
    levels_light (suc n) e m h =
        once_cong (get_or m.memo e 0) _ _ m
        (λ z. ap (intern_expr o M follow xs e) (among_each (import_e o M follow xs (intern_expr o M follow xs) n) (import_e o M still xs (intern_expr o M still xs) n) (λ x k q. levels_light n x k q) (refs (get_or xs e [])) m (bare e h) (below e h)))

    pub unique_light : (e : ℕ) (m : Builder) → P e → import_initialiser o M follow xs e m ≡ import_initialiser o M still xs e m
    unfolding import_initialiser
    unique_light e m h = levels_light (length xs) e m h

  module _ (stands : (e : ℕ) → standing xs e ≡ true → Bare e) where
    peek_light : (e : ℕ) (m : Builder) → peek o M follow xs e m ≡ peek o M still xs e m
    unfolding peek
    peek_light e m = go (standing xs e) refl
      where
        go : (b : Bool) → standing xs e ≡ b → ◌≡◌ {A = Builder} (elim b [ true ↦ need o M follow xs e m | false ↦ m ]) (elim b [ true ↦ need o M still xs e m | false ↦ m ])
        go true s = need_light e m (stands e s)
        go false s = refl

    pub glance_light : (e : ℕ) (m : Builder) → Bare e → glance o M follow xs e m ≡ glance o M still xs e m
    unfolding glance
    glance_light e m b = once_cong (get_or m.memo e 0) _ _ m (λ z. each_light (peek o M follow xs) (peek o M still xs) peek_light (refs (get_or xs e [])) m b)

    -- ---- a range: what is not live is mapped
    pub range_need : {init : ℕ → Bool} {es ls : List ℕ} → Lives init es ls → (m : Builder) → ((e : ℕ) → init e ≡ true → Has m.memo e) → All Bare ls → each_e es (need o M still xs) m ≡ each_e es (need o M follow xs) m
    unfolding each_e
    range_need l_end m h b = refl
    range_need (l_skip {e = e} q l) m h b = rw (need-mapped o M still xs e m (h e q), need-mapped o M follow xs e m (h e q)) (range_need l m h b)
    range_need (l_keep {e = e} l) m h b = rw (← need_light e m b.0) (range_need l (need o M follow xs e m) (λ y q. (grow_need o M follow xs Keeps keeping e m).keeps y (h y q)) b.1)

    pub range_glance : {init : ℕ → Bool} {es ls : List ℕ} → Lives init es ls → (m : Builder) → ((e : ℕ) → init e ≡ true → Has m.memo e) → All Bare ls → each_e es (glance o M still xs) m ≡ each_e es (glance o M follow xs) m
    unfolding each_e
    range_glance l_end m h b = refl
    range_glance (l_skip {e = e} q l) m h b = rw (glance-mapped o M still xs e m (h e q), glance-mapped o M follow xs e m (h e q)) (range_glance l m h b)
    range_glance (l_keep {e = e} l) m h b = rw (← glance_light e m b.0) (range_glance l (glance o M follow xs e m) (λ y q. (grow_glance o M follow xs Keeps keeping e m).keeps y (h y q)) b.1)

  pub range_keeps : (es : List ℕ) (m : Builder) (y : ℕ) → Has m.memo y → Has (each_e es (glance o M follow xs) m).memo y
  range_keeps es m y h = (grow_all o M follow xs Keeps keeping (glance o M follow xs) (grow_glance o M follow xs Keeps keeping) es m).keeps y h

-- ---- an expression that names functions that are known already
module _ (c : Ctx) where
  abbrev pub Known : Builder → ℕ → Type 0
  Known st f = 0 < known c.M st.out f

  abbrev idle : ℕ → Builder → Builder
  idle e m = m

  known_on : (p : Place) (n : ℕ) (st : Builder) → Inside c.M c.calls p n → c.G st.out → (f : ℕ) → Known st f → Known (bring (outer c.o c.M c.follow p n) st) f
  unfolding bring look
  known_on p n st w g f h = let e : look c.M (outer c.o c.M c.follow p n st.out) function f ≡ look c.M st.out function f = c.law.keeps p n st.out w g function f h in rw e h

  each_known : (js : List Node) (st : Builder) → c.G st.out → AllN (InN c.M c.calls) js → FunsOk (Known st) js → fold_refs js (step c.o c.M c.follow idle) st ≡ fold_refs js (step c.o c.M still idle) st
  unfolding fold_refs
  each_known [] st g w a = refl
  each_known (j ∷ js) st g w a = go j.place j.num w.0 a.0 (λ s. each_known js s)
    where
      go : (p : Place) (n : ℕ) → Inside c.M c.calls p n → FunOk (Known st) p n → ((s : Builder) → c.G s.out → AllN (InN c.M c.calls) js → FunsOk (Known s) js → fold_refs js (step c.o c.M c.follow idle) s ≡ fold_refs js (step c.o c.M still idle) s)
          → fold_refs js (step c.o c.M c.follow idle) (step c.o c.M c.follow idle p n st) ≡ fold_refs js (step c.o c.M still idle) (step c.o c.M still idle p n st)
      go (table t) n i fun_table f = unfold step in f _ (unfold bring outer in c.law.good (table t) n st.out i g) w.1 (unfold outer in funs_map (known_on (table t) n st i g) js a.1)
      go own n i fun_own f = unfold step in f st g w.1 a.1
      go function n i (fun_call k) f = unfold step bring in (let e : c.follow n st.out ≡ st.out = (unfold outer look in c.law.idle function n st.out i g k) in rw e (f st g w.1 a.1))

  pub need-known : (e : ℕ) (st : Builder) → c.G st.out → AllN (InN c.M c.calls) (refs (get_or c.xs e [])) → FunsOk (Known st) (refs (get_or c.xs e [])) → need c.o c.M c.follow c.xs e st ≡ need c.o c.M still c.xs e st
  unfolding need append_expr
  need-known e st g w a = once_cong (get_or st.memo e 0) _ _ st (λ z. ap (append_expr c.o c.M c.follow c.xs e) (each_known (refs (get_or c.xs e [])) st g w a))
