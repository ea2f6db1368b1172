-- What the import of a function keeps when it follows only calls of some functions: the walk of `Lifted`, with a condition on the functions that are named.
use Rattle.std.specs.Prelude.{◌≡◌, Bool, ◌&&◌, ltb, length, get_or}
use Rattle.std.proofs.Math.Path.{refl}
use Rattle.std.proofs.Math.Bool.{true, false}
use mathlib.Core.List.{List, [], ◌∷◌, ◌++◌}
use Rattle.std.proofs.Math.Option.{Option, none, some}
use Prim.Native.Nat.{ℕ, zero, suc, ◌-◌, ◌<◌}
use Rattle.std.proofs.Common.{arith}
use Rattle.std.proofs.Math.Dec.{eqb}
use borrow.Author.Tests.{eqb-true, eqb-false, ltb-false, lt-ltb, ltb-true}
use Rattle.theory_lists.specs.Booleans.{and-true, and_split}
use Rattle.model.specs.Outcome.{Cells, class, word}
use Rattle.model.specs.Table.{SPAN, UPTO, NAME, EXPR, OPT_EXPR, NAMED-EXPR, ARGUMENTS, LOCALS, EXPRESSIONS, NAMED, BLOCK, CASES, LENGTH, STMT_KIND}
use Rattle.model.specs.Tree.{Stmt, Form, Block, Case, Cases, Range, Function, flat_all, flat_list, flat_s, flat_f, flat_b, flat_k, flat_c, flat_block, flat, word_of}
use Rattle.model.specs.Module.{Module}
use Rattle.model.specs.Operands.{standing}
use Rattle.model.specs.Names.{field}
use Rattle.model.specs.Scope.{in_range}
use Rattle.model.specs.Numbers.{Bounds, caps, bound, below as under, within, outside, inside}
use Rattle.model.specs.Tables.{Tab, tables, count}
use Rattle.model.specs.References.{Place, table, own, function, Target, copied, start, upto, ref, opt, targets, target, Node, ref_of, refs, fold_refs}
use Rattle.model.specs.Imports.{Derived, unless_mapped, import_t}
use Rattle.model.specs.Bodies.{Builder, bring, compares_of, each_e, opt_e, step, append_expr, intern_expr, append_standing, import_e, import_body, import_initialiser, import_standing, import_stmt, import_form, import_block, import_case, import_cases, put_name, name_if, keep_names, name_cells, declarations, declared, walked, kept_names, named_after, final}
use Rattle.theory_records.specs.RecordLaws.{All}
use Rattle.theory_records.specs.Functions.{TabIn, in_table, in_own, in_function_lem, TabsIn, cells_in}
use Rattle.model.specs.Table.{FUNCTION, CALLEE, function_head, counted}
use Rattle.model.specs.Carry.{Each, each_none, each_next, OkS, OkF, OkB, OkBs, OkK, OkC, ok_stmt, ok_emit, ok_block, ok_branch, ok_switch, ok_loop, ok_break, ok_continue, ok_return, ok_kill, ok-call, ok_effect, ok_deeper, ok_end, ok_then, ok_case, ok_nomore, ok_also, WellFunction}
use Rattle.model.specs.Callees.{callees_s, callees_f, callees_b, callees_k, callees_c, callees}
use Rattle.theory_image.specs.Quiet.{each_append}
use Rattle.theory_image.specs.Within.{within-append, within-next, within-join, within-row}
use Rattle.theory_finish.specs.Firsts.{either}
use Rattle.theory_finish.specs.Cellwise.{each_first, each_both}
use Rattle.theory_finish.specs.Classes.{Not, calm?, calms?, all_not, functionless, calleeless, effect_functionless, effect_calleeless}

-- ---- references to functions
pub data FunOk (Q : ℕ → Type 0) : Place → ℕ → Type 0 where
  fun_table : {t : Tab} {n : ℕ} → FunOk Q (table t) n
  fun_own : {n : ℕ} → FunOk Q own n
  fun_call : {n : ℕ} → Q n → FunOk Q function n

abbrev pub FunsOk : (ℕ → Type 0) → List Node → Type 0
FunsOk Q js = All (λ j. FunOk Q j.place j.num) js

no_fun_p : Place → Bool
no_fun_p (table t) = true
no_fun_p own = true
no_fun_p function = false

no_fun : Target → Bool
no_fun copied = true
no_fun start = true
no_fun upto = true
no_fun (ref p) = no_fun_p p
no_fun (opt p) = no_fun_p p

no_funs : List Target → Bool
no_funs [] = true
no_funs (t ∷ ts) = no_fun t && no_funs ts

no_fun_at : (ts : List Target) (k : ℕ) → no_funs ts ≡ true → no_fun (get_or ts k copied) ≡ true
unfolding no_funs no_fun
no_fun_at [] k h = refl
no_fun_at (t ∷ ts) zero h = (and_split (no_fun t) (no_funs ts) h).0
no_fun_at (t ∷ ts) (suc k) h = no_fun_at ts k (and_split (no_fun t) (no_funs ts) h).1

targets-at : (k : ℕ) → (k ≡ 10 → ⊥) → (k ≡ 11 → ⊥) → no_fun (get_or targets k copied) ≡ true
unfolding targets no_fun no_fun_p no_funs
targets-at zero a b = refl
targets-at (suc zero) a b = refl
targets-at (suc (suc zero)) a b = refl
targets-at (suc (suc (suc zero))) a b = refl
targets-at (suc (suc (suc (suc zero)))) a b = refl
targets-at (suc (suc (suc (suc (suc zero))))) a b = refl
targets-at (suc (suc (suc (suc (suc (suc zero)))))) a b = refl
targets-at (suc (suc (suc (suc (suc (suc (suc zero))))))) a b = refl
targets-at (suc (suc (suc (suc (suc (suc (suc (suc zero)))))))) a b = refl
targets-at (suc (suc (suc (suc (suc (suc (suc (suc (suc zero))))))))) a b = refl
targets-at (suc (suc (suc (suc (suc (suc (suc (suc (suc (suc zero)))))))))) a b = absurd (a refl)
targets-at (suc (suc (suc (suc (suc (suc (suc (suc (suc (suc (suc zero))))))))))) a b = absurd (b refl)
targets-at (suc (suc (suc (suc (suc (suc (suc (suc (suc (suc (suc (suc k)))))))))))) a b = no_fun_at (ref own ∷ opt own ∷ copied ∷ copied ∷ copied ∷ copied ∷ ref own ∷ opt own ∷ ref own ∷ opt own ∷ []) k refl

target_no_fun : (s : ℕ) → eqb s FUNCTION ≡ false → eqb s CALLEE ≡ false → no_fun (target s) ≡ true
unfolding target
target_no_fun s a b = either (ltb s SPAN) (λ e. rw (target, e) (unfold no_fun in refl)) λ e. rw (target, e) (targets-at (s - SPAN) (λ q. eqb-false s FUNCTION a (omega (arith, ltb-false s SPAN e))) λ q. eqb-false s CALLEE b (omega (arith, ltb-false s SPAN e)))

place_ok : (Q : ℕ → Type 0) (p : Place) (n : ℕ) → no_fun_p p ≡ true → FunOk Q p n
unfolding no_fun_p
place_ok Q (table t) n h = fun_table
place_ok Q own n h = fun_own
place_ok Q function n h = let z : ◌≡◌ {A = ℕ} 0 1 = cc in absurd (omega arith)

target_ok : (Q : ℕ → Type 0) (t : Target) (w : ℕ) (js : List Node) → no_fun t ≡ true → FunsOk Q js → FunsOk Q (ref_of t w js)
unfolding ref_of no_fun
target_ok Q copied w js h a = a
target_ok Q start w js h a = a
target_ok Q upto w js h a = a
target_ok Q (ref p) w js h a = (place_ok Q p w h, a)
target_ok Q (opt p) zero js h a = a
target_ok Q (opt p) (suc n) js h a = (place_ok Q p n h, a)

pub no_funs_lem : (Q : ℕ → Type 0) {r : Cells} → Each (Not FUNCTION) r → Each (Not CALLEE) r → FunsOk Q (refs r)
unfolding refs
no_funs_lem Q each_none each_none = tt
no_funs_lem Q (each_next {a = c} {l = cs} h hs) (each_next g gs) = target_ok Q (target (class c)) (word c) (refs cs) (target_no_fun (class c) h g) (no_funs_lem Q hs gs)

-- numbers of functions that are in range
low_fun : (b : Bounds) (s w : ℕ) → (target s ≡ ref function) × (bound b s ≡ some b.functions) → (js : List Node) → FunsOk (λ j. j < b.functions) js → under (bound b s) w ≡ true → FunsOk (λ j. j < b.functions) (ref_of (target s) w js)
unfolding ref_of under
low_fun b s w e js a h = let l : ltb w b.functions ≡ true = rw e.1 at h in rw e.0 (fun_call (ltb-true w b.functions l), a)

pub low_funs : (b : Bounds) (r : Cells) → within b r ≡ true → FunsOk (λ j. j < b.functions) (refs r)
unfolding within refs
low_funs b [] h = tt
low_funs b (c ∷ cs) h =
    let p = and_split (under (bound b (class c)) (word c)) (within b cs) h in
    let i = low_funs b cs p.1 in
    either (eqb (class c) FUNCTION) (λ e. low_fun b (class c) (word c) (is_function (eqb-true (class c) FUNCTION e)) (refs cs) i p.0) λ e.
    either (eqb (class c) CALLEE) (λ f. low_fun b (class c) (word c) (is_callee (eqb-true (class c) CALLEE f)) (refs cs) i p.0) λ f.
    target_ok (λ j. j < b.functions) (target (class c)) (word c) (refs cs) (target_no_fun (class c) e f) i
  where
    is_function : class c ≡ FUNCTION → (target (class c) ≡ ref function) × (bound b (class c) ≡ some b.functions)
    is_function e = rw e (unfold target targets bound caps in (refl, refl))

    is_callee : class c ≡ CALLEE → (target (class c) ≡ ref function) × (bound b (class c) ≡ some b.functions)
    is_callee e = rw e (unfold target targets bound caps in (refl, refl))

name_funs : (Q : ℕ → Type 0) (ps : List (ℕ × ℕ)) → FunsOk Q (refs (name_cells ps))
unfolding name_cells refs
name_funs Q [] = tt
name_funs Q (p ∷ ps) = target_ok Q (target NAME) p.1 (refs (name_cells ps)) (unfold target targets no_fun no_fun_p in refl) (name_funs Q ps)

module _ (m : Module) (o : ℕ) (K : Derived → Type 0) (ik : (t : Tab) (n : ℕ) (s : Derived) → n < count (tables m) t → K s → K (import_t o (tables m) t n s)) where
  module _ (fol : ℕ → Derived → Derived) (Q : ℕ → Type 0) (fk : (f : ℕ) (s : Derived) → Q f → K s → K (fol f s)) where
    abbrev pub Good : (ℕ → Builder → Builder) → Type 0
    Good h = (e : ℕ) (x : Builder) → K x.out → K (h e x).out

    step_kept : (h : ℕ → Builder → Builder) → Good h → {p : Place} {n : ℕ} → TabIn (tables m) p n → FunOk Q p n → (x : Builder) → K x.out → K (step o m fol h p n x).out
    unfolding step bring
    step_kept h g (in_table {t} {n} l) q x k = ik t n x.out l k
    step_kept h g (in_own {n}) q x k = g n x k
    step_kept h g (in_function_lem {n}) (fun_call q) x k = fk n x.out q k

    pub each_kept : (h : ℕ → Builder → Builder) → Good h → (js : List Node) → TabsIn (tables m) js → FunsOk Q js → (x : Builder) → K x.out → K (fold_refs js (step o m fol h) x).out
    unfolding fold_refs
    each_kept h g [] a q x k = k
    each_kept h g (j ∷ js) a q x k = each_kept h g js a.1 q.1 (step o m fol h j.place j.num x) (step_kept h g a.0 q.0 x k)

    each_e-kept : (h : ℕ → Builder → Builder) → Good h → (es : List ℕ) (x : Builder) → K x.out → K (each_e es h x).out
    unfolding each_e
    each_e-kept h g [] x k = k
    each_e-kept h g (e ∷ es) x k = each_e-kept h g es (h e x) (g e x k)

    opt_e-kept : (h : ℕ → Builder → Builder) → Good h → (e : Option ℕ) (x : Builder) → K x.out → K (opt_e e h x).out
    unfolding opt_e
    opt_e-kept h g none x k = k
    opt_e-kept h g (some e) x k = g e x k

    once-kept : (v : ℕ) (f : ℕ → Builder) (x : Builder) → K (f 0).out → K x.out → K (unless_mapped v f x).out
    unfolding unless_mapped
    once-kept zero f x a b = a
    once-kept (suc v) f x a b = b

    module _ (F : Function) (fine : within (inside (outside m) F) (flat F) ≡ true) (wellF : WellFunction F) (rowQ : (e : ℕ) → FunsOk Q (refs (get_or F.exprs e []))) (callQ : Each Q (callees F)) where
      abbrev b : Bounds
      b = inside (outside m) F

      -- the parts of the record
      record Parts : Type 0 where
        decls : within b (declarations o m fol F) ≡ true
        rows : within b (flat_all F.exprs) ≡ true
        named : within b (flat_all F.named) ≡ true
        body : within b (flat_b F.body) ≡ true

      parts : Parts
      unfolding flat flat_list flat_block declarations
      parts =
          let a1 = within-append b (F.head ++ flat_list ARGUMENTS F.arguments ++ F.result ++ flat_list LOCALS F.locals ++ flat_list EXPRESSIONS F.exprs ++ flat_list NAMED F.named) (flat_block F.body) fine in
          let a2 = within-append b (F.head ++ flat_list ARGUMENTS F.arguments ++ F.result ++ flat_list LOCALS F.locals ++ flat_list EXPRESSIONS F.exprs) (flat_list NAMED F.named) a1.0 in
          let a3 = within-append b (F.head ++ flat_list ARGUMENTS F.arguments ++ F.result ++ flat_list LOCALS F.locals) (flat_list EXPRESSIONS F.exprs) a2.0 in
          let a4 = within-append b (F.head ++ flat_list ARGUMENTS F.arguments ++ F.result) (flat_list LOCALS F.locals) a3.0 in
          let a5 = within-append b (F.head ++ flat_list ARGUMENTS F.arguments) F.result a4.0 in
          let a6 = within-append b F.head (flat_list ARGUMENTS F.arguments) a5.0 in
          record {
            decls = within-join b (F.head ++ flat_all F.arguments ++ F.result) (flat_all F.locals)
                (within-join b (F.head ++ flat_all F.arguments) F.result (within-join b F.head (flat_all F.arguments) a6.0 (within-next b ARGUMENTS _ (flat_all F.arguments) a6.1)) a5.1)
                (within-next b LOCALS _ (flat_all F.locals) a4.1);
            rows = within-next b EXPRESSIONS _ (flat_all F.exprs) a3.1;
            named = within-next b NAMED _ (flat_all F.named) a2.1;
            body = within-next b BLOCK _ (flat_b F.body) a1.1;
          }

      -- ---- expressions
      row_in : (e : ℕ) → TabsIn (tables m) (refs (get_or F.exprs e []))
      row_in e = cells_in m F (get_or F.exprs e []) (within-row b F.exprs parts.rows e)

      import_e-kept : (ending : ℕ → Builder → Builder) → Good ending → (n : ℕ) → Good (import_e o m fol F.exprs ending n)
      unfolding import_e
      import_e-kept ending g zero e x k = k
      import_e-kept ending g (suc n) e x k =
          once-kept (get_or x.memo e 0) _ x (g e _ (each_kept (import_e o m fol F.exprs ending n) (import_e-kept ending g n) (refs (get_or F.exprs e [])) (row_in e) (rowQ e) x k)) k

      push_kept : Good (append_expr o m fol F.exprs)
      unfolding append_expr
      push_kept e x k = k

      join_kept : Good (intern_expr o m fol F.exprs)
      unfolding intern_expr
      join_kept e x k = k

      stand_kept : Good (append_standing o m fol F.exprs)
      unfolding append_standing append_expr
      stand_kept e x k = go (standing F.exprs e)
        where
          go : (c : Bool) → K (let y : Builder = elim c [ true ↦ append_expr o m fol F.exprs e x | false ↦ x ] in y.out)
          go true = k
          go false = k

      abbrev p : ℕ → Builder → Builder
      p = import_body o m fol F.exprs

      abbrev q : ℕ → Builder → Builder
      q = import_standing o m fol F.exprs

      plain-kept : Good p
      unfolding import_body
      plain-kept = import_e-kept (append_expr o m fol F.exprs) push_kept (length F.exprs)

      unique_kept : Good (import_initialiser o m fol F.exprs)
      unfolding import_initialiser
      unique_kept = import_e-kept (intern_expr o m fol F.exprs) join_kept (length F.exprs)

      quiet-kept : Good q
      unfolding import_standing
      quiet-kept = import_e-kept (append_standing o m fol F.exprs) stand_kept (length F.exprs)

      -- ---- bodies
      mutual
        unfolding import_stmt flat_s flat_block bring callees_s

        go_s_kept : {d : ℕ} {s : Stmt Range} → OkS d s → Each Q (callees_s s) → within b (flat_s s) ≡ true → (x : Builder) → K x.out → K (import_stmt o m fol p q s x).out
        go_s_kept (ok_stmt f) c h x k = go_f_kept f c (within-next b UPTO _ _ (within-next b SPAN _ _ (within-next b STMT_KIND _ _ (within-next b LENGTH _ _ h)))) x k

        go_f_kept : {d : ℕ} {f : Form Range} → OkF d f → Each Q (callees_f f) → within b (flat_f f) ≡ true → (x : Builder) → K x.out → K (import_form o m fol p q f x).out
        go_f_kept (ok_emit {r}) c h x k = each_e-kept p plain-kept (in_range r) _ (each_e-kept q quiet-kept (in_range r) x k)
        go_f_kept (ok_block a) c h x k = go_b_kept a c (within-next b BLOCK _ _ h) x k
        go_f_kept (ok_branch {c = e} {a = v} {b = u} a d) c h x k =
            let w = within-append b (flat_block v) (flat_block u) (within-next b EXPR _ _ h) in
            let y = each_both (callees_b v) c in
            go_b_kept d y.1 (within-next b BLOCK _ _ w.1) _ (go_b_kept a y.0 (within-next b BLOCK _ _ w.0) _ (plain-kept e x k))
        go_f_kept (ok_switch {c = e} ks) c h x k = go_c_kept ks c (within-next b CASES _ _ (within-next b EXPR _ _ h)) _ (plain-kept e x k)
        go_f_kept (ok_loop {a = v} {b = u} {o = e} a d) c h x k =
            let z = within-append b (flat_block v ++ flat_block u) ((OPT_EXPR, word_of e) ∷ []) h in
            let w = within-append b (flat_block v) (flat_block u) z.0 in
            let y = each_both (callees_b v) c in
            opt_e-kept p plain-kept e _ (go_b_kept d y.1 (within-next b BLOCK _ _ w.1) _ (go_b_kept a y.0 (within-next b BLOCK _ _ w.0) x k))
        go_f_kept ok_break c h x k = k
        go_f_kept ok_continue c h x k = k
        go_f_kept (ok_return {o = e}) c h x k = opt_e-kept p plain-kept e x k
        go_f_kept ok_kill c h x k = k
        go_f_kept (ok-call {f} {xs} {r}) c h x k = opt_e-kept p plain-kept r _ (each_e-kept p plain-kept xs _ (fk f x.out (each_first c) k))
        go_f_kept (ok_effect {k = n} {cs} e l) c h x k = each_kept p plain-kept (refs cs) (cells_in m F cs h) (no_funs_lem Q (effect_functionless n e l) (effect_calleeless n e l)) _ (each_e-kept p plain-kept (compares_of cs) x k)

        go_b_kept : {d : ℕ} {a : Block Range} → OkB d a → Each Q (callees_b a) → within b (flat_b a) ≡ true → (x : Builder) → K x.out → K (import_block o m fol p q a x).out
        go_b_kept (ok_deeper a) c h x k = go_bs_kept a c h x k

        go_bs_kept : {d : ℕ} {a : Block Range} → OkBs d a → Each Q (callees_b a) → within b (flat_b a) ≡ true → (x : Builder) → K x.out → K (import_block o m fol p q a x).out
        go_bs_kept ok_end c h x k = k
        go_bs_kept (ok_then {s = u} {b = v} s a) c h x k = let w = within-append b (flat_s u) (flat_b v) h in let y = each_both (callees_s u) c in go_bs_kept a y.1 w.1 _ (go_s_kept s y.0 w.0 x k)

        go_k_kept : {d : ℕ} {a : Case Range} → OkK d a → Each Q (callees_k a) → within b (flat_k a) ≡ true → (x : Builder) → K x.out → K (import_case o m fol p q a x).out
        go_k_kept (ok_case {v = z} {b = v} l a) c h x k = go_b_kept a c (within-next b BLOCK _ _ (within-append b z (flat_block v) (within-append b (z ++ flat_block v) _ h).0).1) x k

        go_c_kept : {d : ℕ} {ks : Cases Range} → OkC d ks → Each Q (callees_c ks) → within b (flat_c ks) ≡ true → (x : Builder) → K x.out → K (import_cases o m fol p q ks x).out
        go_c_kept ok_nomore c h x k = k
        go_c_kept (ok_also {k = u} {ks = us} a ks) c h x k = let w = within-append b (flat_k u) (flat_c us) h in let y = each_both (callees_k u) c in go_c_kept ks y.1 w.1 _ (go_k_kept a y.0 w.0 x k)

      declared_funs : FunsOk Q (refs (declarations o m fol F))
      unfolding declarations function_head counted calms? calm?
      declared_funs =
          no_funs_lem Q
          (each_append (each_append (each_append (functionless wellF.head_ok refl) (all_not FUNCTION (λ cs l. functionless l refl) wellF.arguments_ok.each)) (functionless wellF.result_ok_lem refl)) (all_not FUNCTION (λ cs l. functionless l refl) wellF.locals_ok.each))
          (each_append (each_append (each_append (calleeless wellF.head_ok refl) (all_not CALLEE (λ cs l. calleeless l refl) wellF.arguments_ok.each)) (calleeless wellF.result_ok_lem refl)) (all_not CALLEE (λ cs l. calleeless l refl) wellF.locals_ok.each))

      pub declared-kept : (s : Derived) → K s → K (declared o m fol F s).out
      unfolding declared
      declared-kept s k = each_kept (import_initialiser o m fol F.exprs) unique_kept (refs (declarations o m fol F)) (cells_in m F (declarations o m fol F) parts.decls) declared_funs _ k

      walked-kept : (x : Builder) → K x.out → K (walked o m fol F x).out
      unfolding walked
      walked-kept x k = go_b_kept wellF.body_ok callQ parts.body x k

      -- ---- names of expressions
      abbrev ok : ℕ → Type 0
      ok w = under (bound b NAME) w ≡ true

      name_ok : (r : Cells) → within b r ≡ true → ok (field NAME r)
      unfolding within field inside outside
      name_ok [] h = unfold bound caps under in lt-ltb 0 (suc (length m.names)) (omega arith)
      name_ok (c ∷ cs) h = go (eqb (class c) NAME) refl (name_ok cs (and_split (under (bound b (class c)) (word c)) (within b cs) h).1)
        where
          go : (z : Bool) → eqb (class c) NAME ≡ z → ok (field NAME cs) → ok (elim z [ true ↦ word c | false ↦ field NAME cs ])
          go true e ih = rw (eqb-true (class c) NAME e) at (and_split (under (bound b (class c)) (word c)) (within b cs) h).0
          go false e ih = ih

      put-ok : (ps : List (ℕ × ℕ)) (j w : ℕ) → ok w → within b (name_cells ps) ≡ true → within b (name_cells (put_name ps j w)) ≡ true
      unfolding put_name name_cells within
      put-ok [] j w g h = and-true g refl
      put-ok (a ∷ ps) j w g h = go (eqb a.0 j) (put-ok ps j w g (and_split (under (bound b NAME) a.1) (within b (name_cells ps)) h).1)
        where
          go : (z : Bool) → within b (name_cells (put_name ps j w)) ≡ true → within b (name_cells (elim z [ true ↦ (j, w) ∷ ps | false ↦ a ∷ put_name ps j w ])) ≡ true
          go true ih = and-true g (and_split (under (bound b NAME) a.1) (within b (name_cells ps)) h).1
          go false ih = and-true (and_split (under (bound b NAME) a.1) (within b (name_cells ps)) h).0 ih

      if_ok : (v w : ℕ) (ps : List (ℕ × ℕ)) → ok w → within b (name_cells ps) ≡ true → within b (name_cells (name_if v w ps)) ≡ true
      unfolding name_if
      if_ok zero w ps g h = h
      if_ok (suc j) w ps g h = put-ok ps j w g h

      keep-ok : (rs : List Cells) (memo : List ℕ) (ps : List (ℕ × ℕ)) → within b (flat_all rs) ≡ true → within b (name_cells ps) ≡ true → within b (name_cells (keep_names rs memo ps)) ≡ true
      unfolding keep_names flat_all
      keep-ok [] memo ps f h = h
      keep-ok (r ∷ rs) memo ps f h =
          let a = within-append b r (flat_all rs) f in
          keep-ok rs memo _ a.1 (if_ok (get_or memo (field NAMED-EXPR r) 0) (field NAME r) ps (name_ok r a.0) h)

      pub named-kept : (x : Builder) → K x.out → K (named_after o m fol F x).out
      unfolding named_after kept_names
      named-kept x k = each_kept p plain-kept (refs (name_cells (keep_names F.named x.memo []))) (cells_in m F _ (keep-ok F.named x.memo [] parts.named (unfold name_cells within in refl))) (name_funs Q (keep_names F.named x.memo [])) x k

      pub final-kept : (s : Derived) → K s → K (final o m fol F s).out
      unfolding final
      final-kept s k = named-kept _ (walked-kept (declared o m fol F s) (declared-kept s k))
