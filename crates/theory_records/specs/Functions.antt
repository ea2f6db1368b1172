-- The import of a function keeps what the imports of tables' records keep: all that it does to the derived tables are such imports, of numbers that test 3 found in range.
use Rattle.std.specs.Prelude.{◌≡◌, Bool}
use Rattle.std.proofs.Math.Path.{refl}
use Rattle.std.proofs.Common.{le_of_suc-le-suc}
use Rattle.std.proofs.Math.Bool.{true, false}
use mathlib.Core.List.{List, [], ◌∷◌, ◌++◌}
use Rattle.std.proofs.Math.Option.{Option, none, some}
use Prim.Native.Nat.{ℕ, zero, suc, ◌-◌, ◌<◌, ◌≤◌}
use native.Mathlib.Omega.{arith}
use Rattle.std.proofs.Math.Decide.{dec_lt}
use Rattle.std.proofs.Math.Dec.{eqb, ltb}
use Rattle.std.proofs.Math.ListN.{length, get_or, get_or-eq_default}
use borrow.Author.Tests.{eqb-true, ltb-true, ltb-false, le-ltb, lt-ltb}
use Rattle.theory_lists.specs.Lists.{behind, get_d_behind}
use Rattle.theory_lists.specs.Booleans.{and-true, and_split}
use Rattle.model.specs.Outcome.{Cells, class, word}
use Rattle.model.specs.Table.{WORD, SPAN, UPTO, NAME, EXPR, OPT_EXPR, NAMED-EXPR, ARGUMENTS, LOCALS, EXPRESSIONS, NAMED, BLOCK, CASES, LENGTH, STMT_KIND}
use Rattle.model.specs.Tree.{Stmt, stmt, Form, emit, block, branch, switch, loop, break, continue, return, kill, call, effect, Block, end, ◌then◌, Case, case, Cases, nomore, ◌also◌, Range, Function, flat_all, flat_list, flat_s, flat_f, flat_b, flat_k, flat_c, flat_block, flat, size_b, word_of}
use Rattle.model.specs.Module.{Module}
use Rattle.model.specs.Carry.{WellFormed}
use Rattle.model.specs.Operands.{standing}
use Rattle.model.specs.Names.{field}
use Rattle.model.specs.Scope.{in_range}
use Rattle.model.specs.Numbers.{Bounds, caps, bound, below as under, within, every, outside, inside, constant_only, sound, sound_function, numbered}
use Rattle.model.specs.Lower.{lower}
use Rattle.model.specs.Redirect.{nothing, function as function_at}
use Rattle.model.specs.Tables.{Tab, names, types, constants, overrides, globals, exprs, at, Tables, tables, count}
use Rattle.model.specs.References.{Place, table, own, function, Target, copied, start, upto, ref, opt, targets, target, Node, ref_of, refs, fold_refs}
use Rattle.model.specs.Imports.{Derived, unless_mapped}
use Rattle.model.specs.Bodies.{known, Builder, bring, compares_of, each_e, opt_e, step, append_expr, intern_expr, append_standing, import_e, import_body, import_initialiser, import_standing, import_stmt, import_form, import_block, import_case, import_cases, put_name, name_if, keep_names, name_cells, declarations, declared, walked, kept_names, named_after, final, localized, appended, append, follow_f, follow}
use Rattle.theory_image.specs.Within.{within-append, within-next, within-join, within-row}
use Rattle.theory_records.specs.RecordLaws.{All}
use Rattle.theory_records.specs.Trace.{Sized}
use Rattle.theory_records.specs.Theorems.{Inside, Distinct}
use Rattle.theory_records.specs.Tested.{cons_all, every-at}
use Rattle.theory_records.specs.Imported.{Kept, import_kept}

-- ---- a reference in range, where it is to a table
pub data TabIn (T : Tables) : Place → ℕ → Type 0 where
  in_table : {t : Tab} {n : ℕ} → n < count T t → TabIn T (table t) n
  in_own : {n : ℕ} → TabIn T own n
  in_function_lem : {n : ℕ} → TabIn T function n

abbrev pub TabsIn : Tables → List Node → Type 0
TabsIn T js = All (λ j. TabIn T j.place j.num) js

-- a target and its bound
abbrev Rel : Tables → Target → Option ℕ → Type 0
Rel T t c = (w : ℕ) → under c w ≡ true → TabsIn T (ref_of t w [])

abbrev Rels : Tables → List Target → List (Option ℕ) → Type 0
Rels T [] cs = Unit {0}
Rels T (t ∷ ts) [] = ⊥
Rels T (t ∷ ts) (c ∷ cs) = Rel T t c × Rels T ts cs

rel_at : (T : Tables) (ts : List Target) (cs : List (Option ℕ)) → Rels T ts cs → (k : ℕ) → Rel T (get_or ts k copied) (get_or cs k none)
unfolding ref_of
rel_at T [] cs a k w h = tt
rel_at T (t ∷ ts) [] a k w h = absurd a
rel_at T (t ∷ ts) (c ∷ cs) a zero w h = a.0 w h
rel_at T (t ∷ ts) (c ∷ cs) a (suc k) w h = rel_at T ts cs a.1 k w h

ref_rel : (T : Tables) (t : Tab) → Rel T (ref (table t)) (some (count T t))
unfolding ref_of under
ref_rel T t w h = (in_table (ltb-true w (count T t) h), tt)

opt_rel : (T : Tables) (t : Tab) → Rel T (opt (table t)) (some (suc (count T t)))
unfolding ref_of under
opt_rel T t zero h = tt
opt_rel T t (suc n) h = (in_table (le_of_suc-le-suc (ltb-true (suc n) (suc (count T t)) h)), tt)

own_rel : (T : Tables) (c : Option ℕ) → Rel T (ref own) c
unfolding ref_of
own_rel T c w h = (in_own, tt)

own_opt_rel : (T : Tables) (c : Option ℕ) → Rel T (opt own) c
unfolding ref_of
own_opt_rel T c zero h = tt
own_opt_rel T c (suc n) h = (in_own, tt)

fn_rel : (T : Tables) (c : Option ℕ) → Rel T (ref function) c
unfolding ref_of
fn_rel T c w h = (in_function_lem, tt)

none_rel : (T : Tables) (c : Option ℕ) → Rel T copied c
unfolding ref_of
none_rel T c w h = tt

start_rel : (T : Tables) (c : Option ℕ) → Rel T start c
unfolding ref_of
start_rel T c w h = tt

upto_rel : (T : Tables) (c : Option ℕ) → Rel T upto c
unfolding ref_of
upto_rel T c w h = tt

module _ (m : Module) (F : Function) where
  abbrev pub B : Bounds
  B = inside (outside m) F

  rels : Rels (tables m) targets (behind (caps B))
  unfolding targets caps inside outside count tables at
  rels =
      (start_rel (tables m) none, (upto_rel (tables m) none, (opt_rel (tables m) names, (ref_rel (tables m) types, (opt_rel (tables m) types, (ref_rel (tables m) constants, (ref_rel (tables m) overrides, (ref_rel (tables m) globals, (ref_rel (tables m) exprs, (opt_rel (tables m) exprs, (fn_rel (tables m) _, (fn_rel (tables m) _, (own_rel (tables m) _, (own_opt_rel (tables m) _, (none_rel (tables m) _, (none_rel (tables m) _, (none_rel (tables m) _, (none_rel (tables m) _, (own_rel (tables m) _, (own_opt_rel (tables m) _, (own_rel (tables m) _, (own_opt_rel (tables m) _, tt))))))))))))))))))))))

  cell_in : (s w : ℕ) → under (bound B s) w ≡ true → TabsIn (tables m) (ref_of (target s) w [])
  unfolding target bound
  cell_in s w h = go (ltb s SPAN) refl
    where
      go : (b : Bool) → ltb s SPAN ≡ b → TabsIn (tables m) (ref_of (elim b [ true ↦ copied | false ↦ get_or targets (s - SPAN) copied ]) w [])
      go true e = none_rel (tables m) none w (unfold under in refl)
      go false e =
          let l : SPAN ≤ s = ltb-false s SPAN e in
          let q : s - WORD ≡ suc (s - SPAN) = omega arith in
          let h' : under (get_or (caps B) (s - WORD) none) w ≡ true = rw (le-ltb s WORD (omega arith), bound) at h in
          rel_at (tables m) targets (behind (caps B)) rels (s - SPAN) w (rw (q, get_d_behind (caps B) (s - SPAN) none) at h')

  pub cells_in : (r : Cells) → within B r ≡ true → TabsIn (tables m) (refs r)
  unfolding within refs
  cells_in [] h = tt
  cells_in (c ∷ cs) h =
      let a = and_split (under (bound B (class c)) (word c)) (within B cs) h in
      cons_all (λ j. TabIn (tables m) j.place j.num) (target (class c)) (word c) (refs cs) (cell_in (class c) (word c) a.0) (cells_in cs a.1)

-- ---- from a source that passed, with a way to follow calls that keeps what is to be kept
module _ (m : Module) (well : WellFormed m) (three : numbered m ≡ true) (four : lower m ≡ true) (o : ℕ) where
  abbrev pub K : Derived → Type 0
  K s = Kept (tables m) s

  module _ (fol : ℕ → Derived → Derived) (fk : (f : ℕ) (s : Derived) → K s → K (fol f s)) where
    abbrev pub Good : (ℕ → Builder → Builder) → Type 0
    Good h = (e : ℕ) (x : Builder) → K x.out → K (h e x).out

    step_kept : (h : ℕ → Builder → Builder) → Good h → {p : Place} {n : ℕ} → TabIn (tables m) p n → (x : Builder) → K x.out → K (step o m fol h p n x).out
    unfolding step bring
    step_kept h g (in_table {t} {n} l) x k = (import_kept m well three four o t n x.out l k).0
    step_kept h g (in_own {n}) x k = g n x k
    step_kept h g (in_function_lem {n}) x k = fk n x.out k

    pub each_kept : (h : ℕ → Builder → Builder) → Good h → (js : List Node) → TabsIn (tables m) js → (x : Builder) → K x.out → K (fold_refs js (step o m fol h) x).out
    unfolding fold_refs
    each_kept h g [] a x k = k
    each_kept h g (j ∷ js) a x k = each_kept h g js a.1 (step o m fol h j.place j.num x) (step_kept h g a.0 x k)

    each_e-kept : (h : ℕ → Builder → Builder) → Good h → (es : List ℕ) (x : Builder) → K x.out → K (each_e es h x).out
    unfolding each_e
    each_e-kept h g [] x k = k
    each_e-kept h g (e ∷ es) x k = each_e-kept h g es (h e x) (g e x k)

    opt_e-kept : (h : ℕ → Builder → Builder) → Good h → (e : Option ℕ) (x : Builder) → K x.out → K (opt_e e h x).out
    unfolding opt_e
    opt_e-kept h g none x k = k
    opt_e-kept h g (some e) x k = g e x k

    once-kept : (v : ℕ) (f : ℕ → Builder) (x : Builder) → K (f 0).out → K x.out → K (unless_mapped v f x).out
    unfolding unless_mapped
    once-kept zero f x a b = a
    once-kept (suc v) f x a b = b

    module _ (F : Function) (fine : within (inside (outside m) F) (flat F) ≡ true) where
      abbrev b : Bounds
      b = inside (outside m) F

      -- the parts of the record
      record Parts : Type 0 where
        decls : within b (declarations o m fol F) ≡ true
        rows : within b (flat_all F.exprs) ≡ true
        named : within b (flat_all F.named) ≡ true
        body : within b (flat_b F.body) ≡ true

      parts : Parts
      unfolding flat flat_list flat_block declarations
      parts =
          let a1 = within-append b (F.head ++ flat_list ARGUMENTS F.arguments ++ F.result ++ flat_list LOCALS F.locals ++ flat_list EXPRESSIONS F.exprs ++ flat_list NAMED F.named) (flat_block F.body) fine in
          let a2 = within-append b (F.head ++ flat_list ARGUMENTS F.arguments ++ F.result ++ flat_list LOCALS F.locals ++ flat_list EXPRESSIONS F.exprs) (flat_list NAMED F.named) a1.0 in
          let a3 = within-append b (F.head ++ flat_list ARGUMENTS F.arguments ++ F.result ++ flat_list LOCALS F.locals) (flat_list EXPRESSIONS F.exprs) a2.0 in
          let a4 = within-append b (F.head ++ flat_list ARGUMENTS F.arguments ++ F.result) (flat_list LOCALS F.locals) a3.0 in
          let a5 = within-append b (F.head ++ flat_list ARGUMENTS F.arguments) F.result a4.0 in
          let a6 = within-append b F.head (flat_list ARGUMENTS F.arguments) a5.0 in
          record {
            decls = within-join b (F.head ++ flat_all F.arguments ++ F.result) (flat_all F.locals)
                (within-join b (F.head ++ flat_all F.arguments) F.result (within-join b F.head (flat_all F.arguments) a6.0 (within-next b ARGUMENTS _ (flat_all F.arguments) a6.1)) a5.1)
                (within-next b LOCALS _ (flat_all F.locals) a4.1);
            rows = within-next b EXPRESSIONS _ (flat_all F.exprs) a3.1;
            named = within-next b NAMED _ (flat_all F.named) a2.1;
            body = within-next b BLOCK _ (flat_b F.body) a1.1;
          }

      -- ---- expressions
      row_in : (e : ℕ) → TabsIn (tables m) (refs (get_or F.exprs e []))
      row_in e = cells_in m F (get_or F.exprs e []) (within-row b F.exprs parts.rows e)

      import_e-kept : (ending : ℕ → Builder → Builder) → Good ending → (n : ℕ) → Good (import_e o m fol F.exprs ending n)
      unfolding import_e
      import_e-kept ending g zero e x k = k
      import_e-kept ending g (suc n) e x k =
          once-kept (get_or x.memo e 0) _ x (g e _ (each_kept (import_e o m fol F.exprs ending n) (import_e-kept ending g n) (refs (get_or F.exprs e [])) (row_in e) x k)) k

      push_kept : Good (append_expr o m fol F.exprs)
      unfolding append_expr
      push_kept e x k = k

      join_kept : Good (intern_expr o m fol F.exprs)
      unfolding intern_expr
      join_kept e x k = k

      stand_kept : Good (append_standing o m fol F.exprs)
      unfolding append_standing append_expr
      stand_kept e x k = go (standing F.exprs e)
        where
          go : (c : Bool) → K (let y : Builder = elim c [ true ↦ append_expr o m fol F.exprs e x | false ↦ x ] in y.out)
          go true = k
          go false = k

      abbrev p : ℕ → Builder → Builder
      p = import_body o m fol F.exprs

      abbrev q : ℕ → Builder → Builder
      q = import_standing o m fol F.exprs

      plain-kept : Good p
      unfolding import_body
      plain-kept = import_e-kept (append_expr o m fol F.exprs) push_kept (length F.exprs)

      unique_kept : Good (import_initialiser o m fol F.exprs)
      unfolding import_initialiser
      unique_kept = import_e-kept (intern_expr o m fol F.exprs) join_kept (length F.exprs)

      quiet-kept : Good q
      unfolding import_standing
      quiet-kept = import_e-kept (append_standing o m fol F.exprs) stand_kept (length F.exprs)

      -- ---- bodies
      mutual
        unfolding import_stmt flat_s flat_block bring

        go_s_kept : (s : Stmt Range) → within b (flat_s s) ≡ true → (x : Builder) → K x.out → K (import_stmt o m fol p q s x).out
        go_s_kept (stmt a c f) h x k = go_f_kept f (within-next b UPTO _ _ (within-next b SPAN _ _ (within-next b STMT_KIND _ _ (within-next b LENGTH _ _ h)))) x k

        go_f_kept : (f : Form Range) → within b (flat_f f) ≡ true → (x : Builder) → K x.out → K (import_form o m fol p q f x).out
        go_f_kept (emit r) h x k = each_e-kept p plain-kept (in_range r) _ (each_e-kept q quiet-kept (in_range r) x k)
        go_f_kept (block a) h x k = go_b_kept a (within-next b BLOCK _ _ h) x k
        go_f_kept (branch c a d) h x k =
            let w = within-append b (flat_block a) (flat_block d) (within-next b EXPR _ _ h) in
            go_b_kept d (within-next b BLOCK _ _ w.1) _ (go_b_kept a (within-next b BLOCK _ _ w.0) _ (plain-kept c x k))
        go_f_kept (switch c ks) h x k = go_c_kept ks (within-next b CASES _ _ (within-next b EXPR _ _ h)) _ (plain-kept c x k)
        go_f_kept (loop a d e) h x k =
            let u = within-append b (flat_block a ++ flat_block d) ((OPT_EXPR, word_of e) ∷ []) h in
            let w = within-append b (flat_block a) (flat_block d) u.0 in
            opt_e-kept p plain-kept e _ (go_b_kept d (within-next b BLOCK _ _ w.1) _ (go_b_kept a (within-next b BLOCK _ _ w.0) x k))
        go_f_kept break h x k = k
        go_f_kept continue h x k = k
        go_f_kept (return e) h x k = opt_e-kept p plain-kept e x k
        go_f_kept kill h x k = k
        go_f_kept (call f xs r) h x k = opt_e-kept p plain-kept r _ (each_e-kept p plain-kept xs _ (fk f x.out k))
        go_f_kept (effect n cs) h x k = each_kept p plain-kept (refs cs) (cells_in m F cs h) _ (each_e-kept p plain-kept (compares_of cs) x k)

        go_b_kept : (a : Block Range) → within b (flat_b a) ≡ true → (x : Builder) → K x.out → K (import_block o m fol p q a x).out
        go_b_kept end h x k = k
        go_b_kept (s then a) h x k = let w = within-append b (flat_s s) (flat_b a) h in go_b_kept a w.1 _ (go_s_kept s w.0 x k)

        go_k_kept : (c : Case Range) → within b (flat_k c) ≡ true → (x : Builder) → K x.out → K (import_case o m fol p q c x).out
        go_k_kept (case v a f) h x k = go_b_kept a (within-next b BLOCK _ _ (within-append b v (flat_block a) (within-append b (v ++ flat_block a) _ h).0).1) x k

        go_c_kept : (ks : Cases Range) → within b (flat_c ks) ≡ true → (x : Builder) → K x.out → K (import_cases o m fol p q ks x).out
        go_c_kept nomore h x k = k
        go_c_kept (c also ks) h x k = let w = within-append b (flat_k c) (flat_c ks) h in go_c_kept ks w.1 _ (go_k_kept c w.0 x k)

      declared-kept : (s : Derived) → K s → K (declared o m fol F s).out
      unfolding declared
      declared-kept s k = each_kept (import_initialiser o m fol F.exprs) unique_kept (refs (declarations o m fol F)) (cells_in m F (declarations o m fol F) parts.decls) _ k

      walked-kept : (x : Builder) → K x.out → K (walked o m fol F x).out
      unfolding walked
      walked-kept x k = go_b_kept F.body parts.body x k

      -- ---- names of expressions
      abbrev ok : ℕ → Type 0
      ok w = under (bound b NAME) w ≡ true

      name_ok : (r : Cells) → within b r ≡ true → ok (field NAME r)
      unfolding within field inside outside
      name_ok [] h = unfold bound caps under in lt-ltb 0 (suc (length m.names)) (omega arith)
      name_ok (c ∷ cs) h = go (eqb (class c) NAME) refl (name_ok cs (and_split (under (bound b (class c)) (word c)) (within b cs) h).1)
        where
          go : (z : Bool) → eqb (class c) NAME ≡ z → ok (field NAME cs) → ok (elim z [ true ↦ word c | false ↦ field NAME cs ])
          go true e ih = rw (eqb-true (class c) NAME e) at (and_split (under (bound b (class c)) (word c)) (within b cs) h).0
          go false e ih = ih

      put-ok : (ps : List (ℕ × ℕ)) (j w : ℕ) → ok w → within b (name_cells ps) ≡ true → within b (name_cells (put_name ps j w)) ≡ true
      unfolding put_name name_cells within
      put-ok [] j w g h = and-true g refl
      put-ok (a ∷ ps) j w g h = go (eqb a.0 j) (put-ok ps j w g (and_split (under (bound b NAME) a.1) (within b (name_cells ps)) h).1)
        where
          go : (z : Bool) → within b (name_cells (put_name ps j w)) ≡ true → within b (name_cells (elim z [ true ↦ (j, w) ∷ ps | false ↦ a ∷ put_name ps j w ])) ≡ true
          go true ih = and-true g (and_split (under (bound b NAME) a.1) (within b (name_cells ps)) h).1
          go false ih = and-true (and_split (under (bound b NAME) a.1) (within b (name_cells ps)) h).0 ih

      if_ok : (v w : ℕ) (ps : List (ℕ × ℕ)) → ok w → within b (name_cells ps) ≡ true → within b (name_cells (name_if v w ps)) ≡ true
      unfolding name_if
      if_ok zero w ps g h = h
      if_ok (suc j) w ps g h = put-ok ps j w g h

      keep-ok : (rs : List Cells) (memo : List ℕ) (ps : List (ℕ × ℕ)) → within b (flat_all rs) ≡ true → within b (name_cells ps) ≡ true → within b (name_cells (keep_names rs memo ps)) ≡ true
      unfolding keep_names flat_all
      keep-ok [] memo ps f h = h
      keep-ok (r ∷ rs) memo ps f h =
          let a = within-append b r (flat_all rs) f in
          keep-ok rs memo _ a.1 (if_ok (get_or memo (field NAMED-EXPR r) 0) (field NAME r) ps (name_ok r a.0) h)

      pub final-kept : (s : Derived) → K s → K (final o m fol F s).out
      unfolding final named_after kept_names
      final-kept s k =
          let x : Builder = walked o m fol F (declared o m fol F s) in
          each_kept p plain-kept (refs (name_cells (keep_names F.named x.memo []))) (cells_in m F _ (keep-ok F.named x.memo [] parts.named (unfold name_cells within in refl))) x (walked-kept (declared o m fol F s) (declared-kept s k))

  -- ---- the functions of the module
  appended-kept : (f : Function) (s : Derived) → K s → K (appended f s)
  unfolding appended Sized Inside Distinct
  appended-kept f s k = record { base = record { sized = k.base.sized; inside = k.base.inside; wf = k.base.wf; distinct = k.base.distinct }; fit = k.fit }

  functions_in_lem : every (sound_function (outside m)) m.functions ≡ true
  unfolding numbered
  functions_in_lem =
      let a = and_split (every (within (outside m)) m.types) _ three in
      let b = and_split (every (within (outside m)) m.constants) _ a.1 in
      let c = and_split (every (within (outside m)) m.overrides) _ b.1 in
      let d = and_split (every (within (outside m)) m.globals) _ c.1 in
      let e = and_split (every (within (outside m)) m.exprs) _ d.1 in
      let f = and_split (every constant_only m.exprs) _ e.1 in
      (and_split (every (sound_function (outside m)) m.functions) _ f.1).0

  function_in_lem : (n : ℕ) → within (inside (outside m) (function_at m n)) (flat (function_at m n)) ≡ true
  function_in_lem n =
      elim (dec_lt n (length m.functions)) [
        | yes l ↦ unfold function_at sound in (and_split (within (inside (outside m) (function_at m n)) (flat (function_at m n))) _ (every-at (sound_function (outside m)) m.functions functions_in_lem n nothing l)).0
        | no l ↦ rw (none_there l) (unfold nothing flat flat_list flat_all flat_block flat_b size_b within bound caps under in refl)
      ]
    where
      none_there : (n < length m.functions → ⊥) → function_at m n ≡ nothing
      none_there l = unfold function_at in get_or-eq_default m.functions nothing {n = n} (omega arith)

  append-kept : (fol : ℕ → Derived → Derived) → ((f : ℕ) (s : Derived) → K s → K (fol f s)) → (n : ℕ) (s : Derived) → K s → K (append o m fol n s)
  unfolding append
  append-kept fol fk n s k = appended-kept (localized o m fol (function_at m n) s) (final o m fol (function_at m n) s).out (final-kept fol fk (function_at m n) (function_in_lem n) s k)

  once_st : (v : ℕ) (f : ℕ → Derived) (s : Derived) → K (f 0) → K s → K (unless_mapped v f s)
  unfolding unless_mapped
  once_st zero f s a c = a
  once_st (suc v) f s a c = c

  follow-kept : (d n : ℕ) (s : Derived) → K s → K (follow_f d o m n s)
  unfolding follow_f
  follow-kept zero n s k = k
  follow-kept (suc d) n s k = once_st (known m s n) _ s (append-kept (follow_f d o m) (follow-kept d) n s k) k

  -- IMPORT_FUNCTION AND MAP_FUNCTION_HANDLE KEEP IT
  pub import_function_kept : (n : ℕ) (s : Derived) → K s → K (append o m (follow o m) n s)
  unfolding follow
  import_function_kept n s k = append-kept (follow o m) (follow-kept (length m.functions)) n s k

  pub map_function_kept : (n : ℕ) (s : Derived) → K s → K (follow o m n s)
  unfolding follow
  map_function_kept n s k = follow-kept (length m.functions) n s k
