-- THE PASSES WITHOUT CALLS IN EXPRESSIONS: an expression is imported by `need`, `glance` and `import_initialiser` with a follow that does nothing (`still`); calls are followed at a Call's word alone. The same state, the same cells.
use Rattle.std.specs.Prelude.{ℕ, ◌<◌, ◌≡◌, refl, ◌⊎◌, Bool, length, get_or}
use Rattle.std.proofs.Common.{sym, ◌∙◌, inl, inr, ⊎_elim, arith}
use Rattle.std.proofs.Math.Path.{subst}
use Rattle.std.proofs.Math.Bool.{true, false, false≢true}
use mathlib.Core.List.{List, [], ◌∷◌}
use Rattle.std.proofs.Math.Option.{Option, none, some}
use Rattle.std.proofs.Math.Decide.{dec_lt}
use Rattle.std.proofs.Math.Dec.{eqb}
use Rattle.std.proofs.Math.ListN.{get_or-eq_default}
use borrow.Author.Tests.{eqb-true}
use Rattle.theory_lists.specs.Booleans.{and_split}
use Rattle.model.specs.Outcome.{Cells}
use Rattle.model.specs.Tree.{Function, flat_block}
use Rattle.model.specs.Module.{Module}
use Rattle.model.specs.References.{function, Node, refs}
use Rattle.model.specs.Operands.{kind, standing_kind, result_kind, emitted_kind, constant_kind, function_of, kind_at, standing}
use Rattle.model.specs.Initial.{root, Reached, roots, marked, initials}
use Rattle.theory_image.specs.Reached.{initialised_is}
use Rattle.model.specs.Scope.{in_range, live, emitted, is_of, call_result, effect_result, evals_opt}
use Rattle.model.specs.Callees.{callees}
use Rattle.model.specs.Imports.{Derived}
use Rattle.model.specs.Bodies.{Builder, mapped_to, step, import_initialiser, declarations, declared, walked, rebuilt, derived, localized}
use Rattle.theory_finish.specs.Called.{FunsOk}
use Rattle.theory_records.specs.RecordLaws.{All as AllN}
use Rattle.theory_bodies.specs.Lists.{All, all_mem}
use Rattle.theory_bodies.specs.Context.{Law, Ctx, Own, owns-all}
use Rattle.theory_bodies.specs.Inv.{Has, Ext, ext_has, Inv}
use Rattle.theory_bodies.specs.Steps.{lives}
use Rattle.theory_bodies.specs.Classes.{not_call, call_result_lem}
use Rattle.theory_bodies.specs.Shallow.{need, glance, need_c}
use Rattle.theory_bodies.specs.Passing.{Passes, fine, initials-fine, row_lays}
use Rattle.theory_bodies.specs.Function.{Fine, ctx}
use Rattle.theory_passes.specs.Pass.{front, begin}
use Rattle.theory_passes.specs.Passage.{Passage, Steady}
use Rattle.theory_passes.specs.Operands.{Agree, step_same, each_same}
use Rattle.theory_passes.proofs.Shapes.{head_fields, argument-fields, local-fields, result_fields, each_fields}
use Rattle.theory_passes.proofs.Declarations.{declares, steady, reach_ops}
use Rattle.theory_passes.specs.Ready.{Ready, Ways}
use Rattle.theory_passes.specs.Light.{still}
use Rattle.theory_passes.proofs.Light.{funs_map, Bare, Known, need_had, need-known, unique_light, range_need, range_glance}
use Rattle.theory_passes.proofs.Body.{body-ways}

module _ (o : ℕ) (M : Module) (follow : ℕ → Derived → Derived) (Q : ℕ → Type 0) (G : Derived → Type 0) (law : Law o M follow Q G) (F : Function) (pass : Passes M F) (calls : All Q (callees F)) where
  abbrev xs : List Cells
  xs = F.exprs

  abbrev c : Ctx
  c = ctx o M follow Q G law F

  abbrev fit : Fine c F
  fit = fine o M follow Q G law F pass calls

  -- ---- which expressions name a function
  not_result : (P : ℕ → Type 0) (e : ℕ) → (kind_at xs e ≡ 23 → ⊥) → FunsOk P (refs (get_or xs e []))
  unfolding kind_at
  not_result P e d = elim (dec_lt e (length xs)) [ yes l ↦ not_call P (row_lays o M follow Q G law F pass calls e l) d | no n ↦ rw (get_or-eq_default xs [] {n = e} (omega arith)) (unfold refs in tt) ]

  stands-bare : (P : ℕ → Type 0) (e : ℕ) → standing xs e ≡ true → FunsOk P (refs (get_or xs e []))
  unfolding standing standing_kind
  stands-bare P e h = not_result P e (λ q. false≢true (rw q at h))

  emitted-bare : (es : List ℕ) → emitted xs es ≡ true → All (Bare o M follow xs) es
  unfolding emitted
  emitted-bare [] h = tt
  emitted-bare (e ∷ es) h = let a = and_split (emitted_kind (kind_at xs e)) _ h in (not_result _ e (λ q. moves (kind_at xs e) q a.0), emitted-bare es a.1)
    where
      moves : (k : ℕ) → k ≡ 23 → emitted_kind k ≡ true → ⊥
      moves k q h = false≢true (unfold emitted_kind standing_kind result_kind in rw q at h)

  effect_bare : (P : ℕ → Type 0) (n : ℕ) (r : Option ℕ) → effect_result xs n r ≡ true → All (λ e. FunsOk P (refs (get_or xs e []))) (evals_opt r)
  unfolding effect_result evals_opt
  effect_bare P n none h = tt
  effect_bare P n (some e) h = (go (eqb n 14) h, tt)
    where
      go : (t : Bool) → eqb (kind_at xs e) (elim t [ true ↦ 25 | false ↦ 24 ]) ≡ true → FunsOk P (refs (get_or xs e []))
      go true q = not_result P e (λ z. omega (arith, eqb-true (kind_at xs e) 25 q))
      go false q = not_result P e (λ z. omega (arith, eqb-true (kind_at xs e) 24 q))

  call_names : (f : ℕ) (r : Option ℕ) → call_result xs f r ≡ true → All (λ e. FunsOk (λ g. g ≡ f) (refs (get_or xs e []))) (evals_opt r)
  unfolding call_result evals_opt kind_at
  call_names f none h = tt
  call_names f (some e) h = (elim (dec_lt e (length xs)) [ yes l ↦ called l | no n ↦ rw (get_or-eq_default xs [] {n = e} (omega arith)) (unfold refs in tt) ], tt)
    where
      both : (eqb (kind (get_or xs e [])) 23 ≡ true) × (is_of (function_of (get_or xs e [])) f ≡ true)
      both = and_split (eqb (kind (get_or xs e [])) 23) _ h

      called : e < length xs → FunsOk (λ g. g ≡ f) (refs (get_or xs e []))
      called l = call_result_lem (λ g. g ≡ f) (row_lays o M follow Q G law F pass calls e l) (eqb-true (kind (get_or xs e [])) 23 both.0) f both.1 refl

  abbrev init : ℕ → Bool
  init = marked (initials F)

  abbrev LightS : Builder → ℕ → Type 0
  LightS st e = Has st.memo e ⊎ FunsOk (Known c st) (refs (get_or xs e []))

  known_ext : (st st' : Builder) → Ext M st st' → (f : ℕ) → Known c st f → Known c st' f
  unfolding mapped_to
  known_ext st st' x f h = rw (x.keeps function f h) h

  light_funs : (st : Builder) (f : ℕ) → Known c st f → (es : List ℕ) → All (λ e. FunsOk (λ g. g ≡ f) (refs (get_or xs e []))) es → All (LightS st) es
  light_funs st f k [] a = tt
  light_funs st f k (e ∷ es) a = (inr (funs_map (λ g q. rw q k) (refs (get_or xs e [])) a.0), light_funs st f k es a.1)

  light_bares : (st : Builder) (es : List ℕ) → All (λ e. FunsOk (Known c st) (refs (get_or xs e []))) es → All (LightS st) es
  light_bares st [] a = tt
  light_bares st (e ∷ es) a = (inr a.0, light_bares st es a.1)

  same : (e : ℕ) (st : Builder) → Inv c st → Ready c fit.exprs st e → LightS st e → need o M still xs e st ≡ need_c c e st
  same e st i (inl h) l = sym (need_had o M follow xs e st h)
  same e st i (inr b) (inl h) = sym (need_had o M follow xs e st h)
  same e st i (inr b) (inr k) = sym (need-known c e st i.good (fit.exprs.inside e b.1) k)

  pub stilly : Ways c fit.exprs init (need o M still xs) (glance o M still xs)
  stilly = record {
    Light = LightS;
    light_ext = λ st st' x e l. ⊎_elim (λ h. inl (ext_has M x e h)) (λ k. inr (funs_map (known_ext st st' x) (refs (get_or xs e [])) k)) l;
    same = same;
    stands = λ e st h. inr (stands-bare _ e h);
    has = λ e st h. inl h;
    of_effect = λ n r st h. light_bares st (evals_opt r) (effect_bare _ n r h);
    of_call = λ f r st h k. light_funs st f k (evals_opt r) (call_names f r h);
    firsts = λ r st h z. range_glance o M follow xs (stands-bare _) (lives init (in_range r)) st h (emitted-bare (live (in_range r) init) z);
    seconds = λ r st h z. range_need o M follow xs (stands-bare _) (lives init (in_range r)) st h (emitted-bare (live (in_range r) init) z);
  }

  -- ---- initialisers
  initial-bare : (e : ℕ) → Reached F e → Bare o M follow xs e
  initial-bare e r = elim (dec_lt e (length xs)) [ yes l ↦ not_result _ e (λ q. constant (kind_at xs e) q (initialised_is F (initials-fine o M follow Q G law F pass calls) e l r)) | no n ↦ rw (get_or-eq_default xs [] {n = e} (omega arith)) (unfold refs in tt) ]
    where
      constant : (k : ℕ) → k ≡ 23 → constant_kind k ≡ true → ⊥
      constant k q h = false≢true (unfold constant_kind in rw q at h)

  abbrev u : ℕ → Builder → Builder
  u = import_initialiser o M follow xs

  abbrev v : ℕ → Builder → Builder
  v = import_initialiser o M still xs

  roots-agree : AllN (Own (Agree o M follow xs u v)) (refs (declarations o M follow F))
  roots-agree = owns-all _ (refs (declarations o M follow F)) (rw fit.declared-owned (all_mem _ (roots F.locals) (λ x m k. unique_light o M follow xs (Reached F) initial-bare (reach_ops o M follow Q G law F fit) x k (root m))))

  steady_same : (js : List Node) (d st : Builder) → AllN (Own (Agree o M follow xs u v)) js → Steady o M follow u u js d st → Steady o M follow v v js d st
  unfolding Steady
  steady_same [] d st a h = tt
  steady_same (j ∷ js) d st a h =
      let e = step_same o M follow xs u v j.place j.num st a.0 in
      rw (← e) (h.0, steady_same js d (step o M follow u j.place j.num st) a.1 h.1)

  module _ (s : Derived) (good : G s) where
    pub still-front : Passage o M follow v v (front F) (begin F s) (declared o M follow F s) (front (localized o M follow F s))
    unfolding front localized derived declarations
    still-front =
        let w = pass.well in
        let js = refs (declarations o M follow F) in
        let d = declared o M follow F s in
        let f = declares o M follow v v F.head F.result F.arguments F.locals (head_fields w.head_ok) (each_fields (λ r l. argument-fields l) w.arguments_ok.each) (result_fields w.result_ok_lem) (each_fields (λ r l. local-fields l) w.locals_ok.each)
        d (begin F s) (steady_same js d (begin F s) roots-agree (steady o M follow Q G law F fit s good)) in
        subst (λ (m : Builder). Passage o M follow v v (front F) (begin F s) m (front (localized o M follow F s))) (sym (each_same o M follow xs u v js (begin F s) roots-agree) ∙ (unfold declared begin in refl)) f

    abbrev dec : Builder
    dec = declared o M follow F s

    pub still-body : Passage o M follow (need o M still xs) (glance o M still xs) (flat_block F.body) dec (walked o M follow F dec) (flat_block (rebuilt o M follow F dec))
    still-body = body-ways o M follow Q G law F fit pass.well.body_ok pass.six s good (need o M still xs) (glance o M still xs) stilly
