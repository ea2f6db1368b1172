-- What every import of a record and of a callee keeps, the passes over a function's cells keep, from any cell on. So at each Call's word of the body the state is one in which callees may be followed, and what is asked of them there holds (`ReadyFrom`). The words that call are the function's callees.
use Rattle.std.specs.Prelude.{ℕ, ◌<◌, ◌≡◌, Bool, eqb, get_or}
use Rattle.std.proofs.Math.Path.{refl, subst}
use Rattle.std.proofs.Math.Bool.{true, false}
use mathlib.Core.List.{List, [], ◌∷◌, ◌++◌, map}
use Rattle.std.proofs.Math.Option.{Option}
use Rattle.model.specs.Outcome.{Cell, Cells, class, word}
use Rattle.model.specs.Table.{FUNCTION, CALLEE, EXPR, OPT_EXPR, OPT_RESULT, FROM, STMT_KIND, VALUE}
use Rattle.model.specs.Tree.{Stmt, Form, call, Block, Case, Cases, Range, Function, word_of, flat_x, flat_s, flat_f, flat_b, flat_k, flat_c, flat_block}
use Rattle.model.specs.Module.{Module}
use Rattle.model.specs.Carry.{each_none, each_next, Lays, OkS, OkF, OkB, OkBs, OkK, OkC, ok_stmt, ok_emit, ok_block, ok_branch, ok_switch, ok_loop, ok_break, ok_continue, ok_return, ok_kill, ok-call, ok_effect, ok_deeper, ok_end, ok_then, ok_case, ok_nomore, ok_also}
use Rattle.model.specs.Tables.{Tab, tables, count}
use Rattle.model.specs.References.{table, function, Target, targets, target, Node, ref_of, refs, fold_refs, first_word}
use Rattle.model.specs.Operands.{standing}
use Rattle.model.specs.Scope.{in_range}
use Rattle.model.specs.Callees.{callees_s, callees_f, callees_b, callees_k, callees_c}
use Rattle.model.specs.Imports.{Derived, import_t}
use Rattle.model.specs.Bodies.{Builder, step, compares_of, each_e, append_expr}
use Rattle.theory_records.specs.Passing.{first_of}
use Rattle.theory_records.specs.RecordLaws.{All as AllN, rest_of}
use Rattle.theory_records.specs.Tested.{cons_all}
use Rattle.theory_finish.specs.Classes.{calm?, calms?, functionless, calleeless, effect_functionless, effect_calleeless}
use Rattle.theory_finish.specs.Called.{FunOk, fun_own, fun_call, FunsOk, no_funs_lem}
use Rattle.theory_finish.specs.Walked as Walked
use Rattle.theory_bodies.specs.Lists.{All, all_l, all-r}
use Rattle.theory_bodies.specs.Context.{Inside, InN, once_is}
use Rattle.theory_bodies.specs.Shallow.{need, peek, glance}
use Rattle.theory_passes.specs.Pass.{atomic_kind, arrive, first, both, early, passed, after}
use Rattle.theory_passes.specs.Passage.{arrive_each}
use Rattle.theory_passes.specs.Light.{still}
use Rattle.function_nesting.specs.Nested.{ReadyFrom}

-- ---- references of one cell, and of those after it

-- ---- the functions that the cells of a body name are its callees
module _ (Q : ℕ → Type 0) where
  abbrev Ok : Node → Type 0
  Ok j = FunOk Q j.place j.num

  both_funs : (xs ys : Cells) → FunsOk Q (refs xs) → FunsOk Q (refs ys) → FunsOk Q (refs (xs ++ ys))
  unfolding refs
  both_funs [] ys a b = b
  both_funs (c ∷ cs) ys a b =
      cons_all Ok (target (class c)) (word c) (refs (cs ++ ys)) (first_of Ok (target (class c)) (word c) (refs cs) a) (both_funs cs ys (rest_of Ok (target (class c)) (word c) (refs cs) a) b)

  one_fun : (s w : ℕ) → eqb s FUNCTION ≡ false → eqb s CALLEE ≡ false → FunsOk Q (refs ((s, w) ∷ []))
  one_fun s w a b = no_funs_lem Q (each_next a each_none) (each_next b each_none)

  operand_funs : (xs : List ℕ) → FunsOk Q (refs (map (λ (x : ℕ). (EXPR, x)) xs))
  unfolding refs ref_of target targets
  operand_funs [] = tt
  operand_funs (x ∷ xs) = (fun_own, operand_funs xs)

  call_funs : (f : ℕ) (xs : List ℕ) (r : Option ℕ) → Q f → FunsOk Q (refs (flat_f (call f xs r)))
  unfolding flat_f flat_x refs ref_of target targets
  call_funs f xs r h = (fun_call h, both_funs (map (λ (x : ℕ). (EXPR, x)) xs) ((OPT_RESULT, word_of r) ∷ []) (operand_funs xs) (one_fun OPT_RESULT (word_of r) refl refl))

  value_funs : {v : Cells} → Lays (VALUE ∷ []) v → FunsOk Q (refs v)
  unfolding calms? calm?
  value_funs l = no_funs_lem Q (functionless l refl) (calleeless l refl)

  mutual
    unfolding flat_s flat_block refs ref_of target targets callees_s

    funs_s : {d : ℕ} {s : Stmt Range} → OkS d s → All Q (callees_s s) → FunsOk Q (refs (flat_s s))
    funs_s (ok_stmt f) k = funs_f f k

    funs_f : {d : ℕ} {f : Form Range} → OkF d f → All Q (callees_f f) → FunsOk Q (refs (flat_f f))
    funs_f ok_emit k = tt
    funs_f (ok_block a) k = funs_b a k
    funs_f (ok_branch {a = v} {b = u} a d) k = (fun_own, both_funs (flat_block v) (flat_block u) (funs_b a (all_l Q (callees_b v) (callees_b u) k)) (funs_b d (all-r Q (callees_b v) (callees_b u) k)))
    funs_f (ok_switch ks) k = (fun_own, funs_c ks k)
    funs_f (ok_loop {a = v} {b = u} {o = e} a d) k =
        both_funs (flat_block v ++ flat_block u) ((OPT_EXPR, word_of e) ∷ []) (both_funs (flat_block v) (flat_block u) (funs_b a (all_l Q (callees_b v) (callees_b u) k)) (funs_b d (all-r Q (callees_b v) (callees_b u) k))) (one_fun OPT_EXPR (word_of e) refl refl)
    funs_f ok_break k = tt
    funs_f ok_continue k = tt
    funs_f (ok_return {o = e}) k = one_fun OPT_EXPR (word_of e) refl refl
    funs_f ok_kill k = tt
    funs_f (ok-call {f} {xs} {r}) k = call_funs f xs r k.0
    funs_f (ok_effect {k = n} e l) k = no_funs_lem Q (effect_functionless n e l) (effect_calleeless n e l)

    funs_b : {d : ℕ} {b : Block Range} → OkB d b → All Q (callees_b b) → FunsOk Q (refs (flat_b b))
    funs_b (ok_deeper a) k = funs_bs a k

    funs_bs : {d : ℕ} {b : Block Range} → OkBs d b → All Q (callees_b b) → FunsOk Q (refs (flat_b b))
    funs_bs ok_end k = tt
    funs_bs (ok_then {s = u} {b = v} s a) k = both_funs (flat_s u) (flat_b v) (funs_s s (all_l Q (callees_s u) (callees_b v) k)) (funs_bs a (all-r Q (callees_s u) (callees_b v) k))

    funs_k : {d : ℕ} {c : Case Range} → OkK d c → All Q (callees_k c) → FunsOk Q (refs (flat_k c))
    funs_k (ok_case {f} {v = z} {b = v} l a) k = both_funs (z ++ flat_block v) ((2, f) ∷ []) (both_funs z (flat_block v) (value_funs l) (funs_b a k)) tt

    funs_c : {d : ℕ} {ks : Cases Range} → OkC d ks → All Q (callees_c ks) → FunsOk Q (refs (flat_c ks))
    funs_c ok_nomore k = tt
    funs_c (ok_also {k = u} {ks = us} a ks) k = both_funs (flat_k u) (flat_c us) (funs_k a (all_l Q (callees_k u) (callees_c us) k)) (funs_c ks (all-r Q (callees_k u) (callees_c us) k))

  pub body_funs : {d : ℕ} {b : Block Range} → OkB d b → All Q (callees_b b) → FunsOk Q (refs (flat_block b))
  unfolding flat_block refs ref_of target targets
  body_funs w k = funs_b w k

-- any function may be named where calls are not followed
abbrev pub Any : ℕ → Type 0
Any n = Unit {0}

-- ---- G holds between imports
module _ (o : ℕ) (M : Module) (G : Derived → Type 0) (imports : (t : Tab) (n : ℕ) (s : Derived) → n < count (tables M) t → G s → G (import_t o (tables M) t n s)) where
  abbrev pub Good : (ℕ → Builder → Builder) → Type 0
  Good h = (e : ℕ) (x : Builder) → G x.out → G (h e x).out

  abbrev pub Refs : (ℕ → Type 0) → Cells → Type 0
  Refs Q cs = AllN (InN M Q) (refs cs)

  import_on : (Q : ℕ → Type 0) (t : Tab) (n : ℕ) (s : Derived) → Inside M Q (table t) n → G s → G (import_t o (tables M) t n s)
  unfolding Inside
  import_on Q t n s a k = imports t n s a k

  all-on : (h : ℕ → Builder → Builder) → Good h → (es : List ℕ) (x : Builder) → G x.out → G (each_e es h x).out
  unfolding each_e
  all-on h g [] x k = k
  all-on h g (e ∷ es) x k = all-on h g es (h e x) (g e x k)

  -- ---- one expression, whose calls are not followed
  module _ (xs : List Cells) (rows : (e : ℕ) → Refs Any (get_or xs e [])) where
    each_still : (h : ℕ → Builder → Builder) → Good h → (e : ℕ) (x : Builder) → G x.out → G (fold_refs (refs (get_or xs e [])) (step o M still h) x).out
    each_still h g e x k = Walked.each_kept M o (Inside M Any) G (import_on Any) still (λ f s a k. k) h g (refs (get_or xs e [])) (rows e) x k

    pub need-on : Good (need o M still xs)
    unfolding need append_expr
    need-on e x k = once_is (λ (y : Builder). G y.out) (get_or x.memo e 0) _ x (λ z. each_still (λ e m. m) (λ e m k. k) e x k) (λ z. k)

    peek-on : Good (peek o M still xs)
    unfolding peek
    peek-on e x k = go (standing xs e)
      where
        go : (b : Bool) → G (let y : Builder = elim b [ true ↦ need o M still xs e x | false ↦ x ] in y.out)
        go true = need-on e x k
        go false = k

    pub glance-on : Good (glance o M still xs)
    unfolding glance
    glance-on e x k = once_is (λ (y : Builder). G y.out) (get_or x.memo e 0) _ x (λ z. each_still (peek o M still xs) peek-on e x k) (λ z. k)

  -- ---- cells
  module _ (follow : ℕ → Derived → Derived) (Q : ℕ → Type 0) (good : (n : ℕ) (s : Derived) → Q n → G s → G (follow n s)) where
    follow-on : (n : ℕ) (s : Derived) → Inside M Q function n → G s → G (follow n s)
    unfolding Inside
    follow-on n s a k = good n s a k

    module _ (p q : ℕ → Builder → Builder) (gp : Good p) (gq : Good q) where
      arrive-on : (t : Target) (w : ℕ) (x : Builder) → AllN (InN M Q) (ref_of t w []) → G x.out → G (arrive o M follow p q t w x).out
      unfolding fold_refs
      arrive-on t w x a k = subst (λ (y : Builder). G y.out) (arrive_each o M follow p q t w [] x) (Walked.each_kept M o (Inside M Q) G (import_on Q) follow follow-on p gp (ref_of t w []) a x k)

      pub passed_on : (c : Cell) (cs : Cells) (x : Builder) → AllN (InN M Q) (ref_of (target (class c)) (word c) []) → G x.out → G (passed o M follow p q c cs x).out
      unfolding passed
      passed_on c cs x a k = go (eqb (class c) FROM) (eqb (class c) STMT_KIND)
        where
          kinds : (b : Bool) → G (let y : Builder = elim b [ true ↦ each_e (compares_of cs) p x | false ↦ x ] in y.out)
          kinds true = all-on p gp (compares_of cs) x k
          kinds false = k

          go : (b d : Bool) → G (let y : Builder = elim b [ true ↦ both o M follow p q (word c) (first_word cs) x | false ↦ elim d [ true ↦ early o M follow p q (word c) cs x | false ↦ arrive o M follow p q (target (class c)) (word c) x ] ] in y.out)
          go true d = unfold both first in all-on p gp (in_range (record { from = word c; to = first_word cs })) _ (all-on q gq (in_range (record { from = word c; to = first_word cs })) x k)
          go false true = unfold early in kinds (atomic_kind (word c))
          go false false = arrive-on (target (class c)) (word c) x a k

      -- from any cell on
      pub after_on : (cs : Cells) (x : Builder) → Refs Q cs → G x.out → G (after o M follow p q cs x).out
      unfolding after refs
      after_on [] x a k = k
      after_on (c ∷ cs) x a k =
          after_on cs (passed o M follow p q c cs x) (rest_of (InN M Q) (target (class c)) (word c) (refs cs) a) (passed_on c cs x (first_of (InN M Q) (target (class c)) (word c) (refs cs) a) k)

    -- ---- what is required of callees holds at each Call's word
    callee : (s w : ℕ) → s ≡ CALLEE → AllN (InN M Q) (ref_of (target s) w []) → Q w
    callee s w e a = go (rw e at a)
      where
        go : AllN (InN M Q) (ref_of (target CALLEE) w []) → Q w
        go b = unfold target targets ref_of Inside in b.0

    module _ (ready : ℕ → Derived → Type 0) (is : (n : ℕ) (s : Derived) → Q n → G s → ready n s) (F : Function) (rows : (e : ℕ) → Refs Any (get_or F.exprs e [])) where
      pub ready_from : (cs : Cells) (x : Builder) → Refs Q cs → G x.out → ReadyFrom o M ready follow F cs x
      unfolding ReadyFrom refs
      ready_from [] x a k = tt
      ready_from (c ∷ cs) x a k =
          let b = first_of (InN M Q) (target (class c)) (word c) (refs cs) a in (
            λ e. is (word c) x.out (callee (class c) (word c) e b) k,
            ready_from cs _ (rest_of (InN M Q) (target (class c)) (word c) (refs cs) a) (passed_on (need o M still F.exprs) (glance o M still F.exprs) (need-on F.exprs rows) (glance-on F.exprs rows) c cs x b k),
          )
