-- The import of a function as one walk over its references: a fact of a state that the import of every allowed reference keeps holds after the declarations, after the body, and after the names of its expressions.
use mathlib.Core.List.{List, [], ◌∷◌, ◌++◌}
use Rattle.std.specs.Prelude.{Bool, length, get_or}
use Rattle.std.proofs.Math.Bool.{true, false}
use Rattle.std.proofs.Math.Option.{Option, none, some}
use Prim.Native.Nat.{ℕ, zero, suc}
use Rattle.model.specs.Outcome.{Cells, class, word}
use Rattle.model.specs.Tree.{Stmt, stmt, Form, emit, block, branch, switch, loop, break, continue, return, kill, call, effect, Block, end, ◌then◌, Case, case, Cases, nomore, ◌also◌, Range, Function, flat_s, flat_f, flat_b, flat_k, flat_c, flat_block, word_of}
use Rattle.model.specs.Table.{OPT_EXPR}
use Rattle.model.specs.Module.{Module}
use Rattle.model.specs.Operands.{standing}
use Rattle.model.specs.Scope.{in_range}
use Rattle.model.specs.Tables.{Tab, tables}
use Rattle.model.specs.References.{Place, table, own, function, Target, copied, start, upto, ref, opt, targets, target, Node, ref_of, refs, fold_refs}
use Rattle.model.specs.Imports.{Derived, unless_mapped, import_t}
use Rattle.model.specs.Bodies.{Builder, bring, compares_of, each_e, opt_e, step, append_expr, intern_expr, append_standing, import_e, import_body, import_initialiser, import_standing, import_stmt, import_form, import_block, import_case, import_cases, name_cells, declarations, declared, walked, kept_names, named_after}
use Rattle.theory_records.specs.RecordLaws.{All, rest_of}

-- ---- references of one row after another
only-first : (P : Node → Type 0) (t : Target) (w : ℕ) (js ks : List Node) → All P (ref_of t w js) → All P ks → All P (ref_of t w ks)
unfolding ref_of
only-first P copied w js ks a b = b
only-first P start w js ks a b = b
only-first P upto w js ks a b = b
only-first P (ref p) w js ks a b = (a.0, b)
only-first P (opt p) zero js ks a b = b
only-first P (opt p) (suc n) js ks a b = (a.0, b)

pub refs-both : (P : Node → Type 0) (xs ys : Cells) → All P (refs (xs ++ ys)) → All P (refs xs) × All P (refs ys)
unfolding refs
refs-both P [] ys h = (tt, h)
refs-both P (c ∷ cs) ys h =
    let r = refs-both P cs ys (rest_of P (target (class c)) (word c) (refs (cs ++ ys)) h) in
    (only-first P (target (class c)) (word c) (refs (cs ++ ys)) (refs cs) h r.0, r.1)

module _ (m : Module) (o : ℕ) (Ok : Place → ℕ → Type 0) (K : Derived → Type 0) (ik : (t : Tab) (n : ℕ) (s : Derived) → Ok (table t) n → K s → K (import_t o (tables m) t n s))
    (fol : ℕ → Derived → Derived) (fk : (f : ℕ) (s : Derived) → Ok function f → K s → K (fol f s)) where
  abbrev pub Oks : List Node → Type 0
  Oks js = All (λ j. Ok j.place j.num) js

  abbrev pub Good : (ℕ → Builder → Builder) → Type 0
  Good h = (e : ℕ) (x : Builder) → K x.out → K (h e x).out

  step_kept : (h : ℕ → Builder → Builder) → Good h → (p : Place) (n : ℕ) → Ok p n → (x : Builder) → K x.out → K (step o m fol h p n x).out
  unfolding step bring
  step_kept h g (table t) n a x k = ik t n x.out a k
  step_kept h g own n a x k = g n x k
  step_kept h g function n a x k = fk n x.out a k

  pub each_kept : (h : ℕ → Builder → Builder) → Good h → (js : List Node) → Oks js → (x : Builder) → K x.out → K (fold_refs js (step o m fol h) x).out
  unfolding fold_refs
  each_kept h g [] a x k = k
  each_kept h g (j ∷ js) a x k = each_kept h g js a.1 (step o m fol h j.place j.num x) (step_kept h g j.place j.num a.0 x k)

  each_e-kept : (h : ℕ → Builder → Builder) → Good h → (es : List ℕ) (x : Builder) → K x.out → K (each_e es h x).out
  unfolding each_e
  each_e-kept h g [] x k = k
  each_e-kept h g (e ∷ es) x k = each_e-kept h g es (h e x) (g e x k)

  opt_e-kept : (h : ℕ → Builder → Builder) → Good h → (e : Option ℕ) (x : Builder) → K x.out → K (opt_e e h x).out
  unfolding opt_e
  opt_e-kept h g none x k = k
  opt_e-kept h g (some e) x k = g e x k

  once-kept : (v : ℕ) (f : ℕ → Builder) (x : Builder) → K (f 0).out → K x.out → K (unless_mapped v f x).out
  unfolding unless_mapped
  once-kept zero f x a b = a
  once-kept (suc v) f x a b = b

  module _ (F : Function) (rows : (e : ℕ) → Oks (refs (get_or F.exprs e []))) where
    -- ---- expressions
    import_e-kept : (ending : ℕ → Builder → Builder) → Good ending → (n : ℕ) → Good (import_e o m fol F.exprs ending n)
    unfolding import_e
    import_e-kept ending g zero e x k = k
    import_e-kept ending g (suc n) e x k =
        once-kept (get_or x.memo e 0) _ x (g e _ (each_kept (import_e o m fol F.exprs ending n) (import_e-kept ending g n) (refs (get_or F.exprs e [])) (rows e) x k)) k

    push_kept : Good (append_expr o m fol F.exprs)
    unfolding append_expr
    push_kept e x k = k

    join_kept : Good (intern_expr o m fol F.exprs)
    unfolding intern_expr
    join_kept e x k = k

    stand_kept : Good (append_standing o m fol F.exprs)
    unfolding append_standing append_expr
    stand_kept e x k = go (standing F.exprs e)
      where
        go : (c : Bool) → K (let y : Builder = elim c [ true ↦ append_expr o m fol F.exprs e x | false ↦ x ] in y.out)
        go true = k
        go false = k

    abbrev p : ℕ → Builder → Builder
    p = import_body o m fol F.exprs

    abbrev q : ℕ → Builder → Builder
    q = import_standing o m fol F.exprs

    plain-kept : Good p
    unfolding import_body
    plain-kept = import_e-kept (append_expr o m fol F.exprs) push_kept (length F.exprs)

    pub unique_kept : Good (import_initialiser o m fol F.exprs)
    unfolding import_initialiser
    unique_kept = import_e-kept (intern_expr o m fol F.exprs) join_kept (length F.exprs)

    quiet-kept : Good q
    unfolding import_standing
    quiet-kept = import_e-kept (append_standing o m fol F.exprs) stand_kept (length F.exprs)

    -- ---- bodies
    abbrev OkC : Cells → Type 0
    OkC cs = Oks (refs cs)

    abbrev both : (xs ys : Cells) → OkC (xs ++ ys) → OkC xs × OkC ys
    both = refs-both (λ j. Ok j.place j.num)

    mutual
      unfolding import_stmt flat_s flat_block bring refs target targets ref_of

      go_s_kept : (s : Stmt Range) → OkC (flat_s s) → (x : Builder) → K x.out → K (import_stmt o m fol p q s x).out
      go_s_kept (stmt a c f) h x k = go_f_kept f h x k

      go_f_kept : (f : Form Range) → OkC (flat_f f) → (x : Builder) → K x.out → K (import_form o m fol p q f x).out
      go_f_kept (emit r) h x k = each_e-kept p plain-kept (in_range r) _ (each_e-kept q quiet-kept (in_range r) x k)
      go_f_kept (block a) h x k = go_b_kept a h x k
      go_f_kept (branch c a d) h x k = let w = both (flat_block a) (flat_block d) h.1 in go_b_kept d w.1 _ (go_b_kept a w.0 _ (plain-kept c x k))
      go_f_kept (switch c ks) h x k = go_c_kept ks h.1 _ (plain-kept c x k)
      go_f_kept (loop a d e) h x k =
          let w = both (flat_block a) (flat_block d) (both (flat_block a ++ flat_block d) ((OPT_EXPR, word_of e) ∷ []) h).0 in
          opt_e-kept p plain-kept e _ (go_b_kept d w.1 _ (go_b_kept a w.0 x k))
      go_f_kept break h x k = k
      go_f_kept continue h x k = k
      go_f_kept (return e) h x k = opt_e-kept p plain-kept e x k
      go_f_kept kill h x k = k
      go_f_kept (call f xs r) h x k = opt_e-kept p plain-kept r _ (each_e-kept p plain-kept xs _ (fk f x.out h.0 k))
      go_f_kept (effect n cs) h x k = each_kept p plain-kept (refs cs) h _ (each_e-kept p plain-kept (compares_of cs) x k)

      go_b_kept : (a : Block Range) → OkC (flat_b a) → (x : Builder) → K x.out → K (import_block o m fol p q a x).out
      go_b_kept end h x k = k
      go_b_kept (s then a) h x k = let w = both (flat_s s) (flat_b a) h in go_b_kept a w.1 _ (go_s_kept s w.0 x k)

      go_k_kept : (c : Case Range) → OkC (flat_k c) → (x : Builder) → K x.out → K (import_case o m fol p q c x).out
      go_k_kept (case v a f) h x k = go_b_kept a (both v (flat_block a) (both (v ++ flat_block a) _ h).0).1 x k

      go_c_kept : (ks : Cases Range) → OkC (flat_c ks) → (x : Builder) → K x.out → K (import_cases o m fol p q ks x).out
      go_c_kept nomore h x k = k
      go_c_kept (c also ks) h x k = let w = both (flat_k c) (flat_c ks) h in go_c_kept ks w.1 _ (go_k_kept c w.0 x k)

    -- DECLARATIONS
    pub declared-kept : OkC (declarations o m fol F) → (s : Derived) → K s → K (declared o m fol F s).out
    unfolding declared
    declared-kept a s k = each_kept (import_initialiser o m fol F.exprs) unique_kept (refs (declarations o m fol F)) a _ k

    -- BODY
    pub walked-kept : OkC (flat_b F.body) → (x : Builder) → K x.out → K (walked o m fol F x).out
    unfolding walked
    walked-kept a x k = go_b_kept F.body a x k

    -- NAMES of expressions
    pub named-kept : (x : Builder) → OkC (name_cells (kept_names o m fol F x)) → K x.out → K (named_after o m fol F x).out
    unfolding named_after
    named-kept x a k = each_kept p plain-kept (refs (name_cells (kept_names o m fol F x))) a x k
