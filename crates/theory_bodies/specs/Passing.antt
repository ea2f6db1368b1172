-- What the import of a body requires of a function, from intake's tests: its layout, numbers in range (3), lower operands (4), and scope (6).
use Prim.Native.Nat.{ℕ, zero, suc, ◌+◌, ◌-◌, ◌<◌, ◌≤◌}
use Rattle.std.specs.Prelude.{◌≡◌, Bool, ◌&&◌, ◌||◌, not}
use Rattle.std.proofs.Math.Path.{refl, sym}
use Rattle.std.proofs.Common.{◌∙◌, inl, inr, not-suc-le-zero}
use Rattle.std.proofs.Math.Logic.{⊎_elim}
use Rattle.std.proofs.Math.Bool.{true, false, false≢true}
use mathlib.Core.List.{List, [], ◌∷◌, ◌++◌}
use Rattle.std.proofs.Math.Option.{Option, none, some}
use native.Mathlib.Omega.{arith}
use Rattle.std.proofs.Math.Nat.{le_of_suc-le-suc}
use Rattle.std.proofs.Math.Decide.{dec_lt}
use Rattle.std.proofs.Math.Dec.{eqb, ltb, leb}
use Rattle.std.proofs.Math.ListN.{length, get_or, get_or-eq_default}
use borrow.Author.Tests.{eqb-true, ltb-true, ltb-false, leb-true, le-ltb, eq-eqb}
use Rattle.theory_lists.specs.Lists.{behind, get_d_behind}
use Rattle.theory_lists.specs.Booleans.{and_split, or_cases, by}
use Rattle.model.specs.Outcome.{Cells, class, word}
use Rattle.model.specs.Table.{WORD, SPAN, UPTO, NAME, CALLEE, EXPR, OPT_EXPR, FROM, TO, OPT_RESULT, NAMED-EXPR, FUNCTION, function_head, ARGUMENTS, LOCALS, EXPRESSIONS, NAMED, BLOCK, CASES, LENGTH, STMT_KIND, VALUE, expression_row, counted}
use Rattle.model.specs.Tree.{Stmt, stmt, Form, emit, block, branch, switch, loop, break, continue, return, kill, call, effect, Block, end, ◌then◌, Case, case, Cases, nomore, ◌also◌, Range, Function, flat_all, flat_list, flat_x, flat_s, flat_f, flat_b, flat_k, flat_c, flat_block, flat, word_of}
use Rattle.model.specs.Module.{Module}
use Rattle.model.specs.Carry.{Each, each_next, Lays, OkS, OkF, OkB, OkBs, OkK, OkC, ok_stmt, ok_block, ok_branch, ok_switch, ok_loop, ok_effect, ok_deeper, ok_then, ok_case, ok_also, WellFunction}
use Rattle.model.specs.Names.{field}
use Rattle.model.specs.Numbers.{Bounds, caps, bound, below as under, within, ordered, outside, inside, sound, sound_function}
use Rattle.model.specs.Lower.{below, operands_lower}
use Rattle.model.specs.Tables.{names, types, constants, overrides, globals, exprs, at, tables, count}
use Rattle.model.specs.References.{Place, table, own, function, Target, copied, start, upto, ref, opt, targets, target, Node, ref_of, refs}
use Rattle.model.specs.Operands.{ops_of, result_of, function_of, standing_kind, result_kind, emitted_kind, constant_kind, ops, kind_at, standing}
use Rattle.model.specs.Callees.{callees_s, callees_f, callees_b, callees_k, callees_c, callees}
use Rattle.theory_image.specs.Reached.{initialised_is}
use Rattle.theory_image.specs.Members.{no_mem, mem_left, mem_right, mem_cases, each_at}
use Rattle.model.specs.Initial.{Mem, here, there, step as reach_step, roots, marked, initials, initial, initialised}
use Rattle.model.specs.Scope.{XStmt, XForm, XBlock, XCase, XCases, emitted, is_of, up_from, in_range, live, expand_s, expand_f, expand, expand_k, expand_c, call_result, effect_result, kinds_s, kinds_f, kinds_b, kinds_k, kinds_c, evals_opt, evals_s, evals_f, evals_b, evals_k, evals_c, has, distinct, shape_b, in_body, ok_b, all_of, seen, scoped_as, scoped}
use Rattle.model.specs.Imports.{Derived}
use Rattle.model.specs.Bodies.{declarations}
use Rattle.theory_walks.specs.ExpandProof.{Evaluated, emits, results, part-distinct, part_b, kinds_b_drop, evaluated_b}
use Rattle.theory_walks.specs.MentionProof.{mention_b, is_b}
use Rattle.theory_walks.specs.Agreement.{mentions_e, mentions_s, mentions_f, mentions_b, mentions_k, mentions_c, mentioned}
use Rattle.theory_walks.proofs.Theorems.{unread}
use Rattle.theory_finish.specs.Classes.{calm?, calms?, all_not, functionless, calleeless, effect_functionless, effect_calleeless}
use Rattle.theory_finish.specs.Called.{FunOk, fun_call, FunsOk, no_funs_lem}
use Rattle.theory_image.specs.Quiet.{each_append, Plainly, plain-none, plain-next, named_shape}
use Rattle.theory_image.specs.Within.{within-append}
use Rattle.theory_records.specs.RecordLaws.{All as AllN, all_map as alln-map, all_both as alln-both}
use Rattle.theory_records.specs.Tested.{cons_all}
use Rattle.theory_bodies.specs.Lists.{All, Distinct, all_map, all_append, all_l, all-r, all_mem, mem_all}
use Rattle.theory_bodies.specs.Context.{Inside, InN, Law, Ctx, OwnP, owns, all-owns}
use Rattle.theory_bodies.specs.Carried.{Nameless}
use Rattle.theory_bodies.specs.Body.{Effect, Callee, CaseFit, FitS, FitF, FitB, FitK, FitC}
use Rattle.theory_bodies.specs.Function.{Fine, May, ctx, NameIn, NamesIn}
use Rattle.theory_bodies.specs.Size.{Twos}
use Rattle.theory_bodies.specs.Classes.{not_call, call_result_lem, bare_kind, expr_owned, expr_nameless, bare-ops, effects_of, effect_owned, effect_nameless, compares_in, decls-owned, value_free}

-- ---- the tests, of one function of a module
pub record Passes (M : Module) (F : Function) : Type 0 where
  pub well : WellFunction F
  pub three : sound_function (outside M) F ≡ true
  pub four : operands_lower F.exprs 0 ≡ true
  pub six : scoped F ≡ true

-- ---- 3: references in range, k expressions
unfoldable pub InF : Module → ℕ → Place → ℕ → Type 0
InF M k (table t) n = n < count (tables M) t
InF M k own n = n < k
InF M k function n = n < length M.functions

abbrev pub InFN : Module → ℕ → Node → Type 0
InFN M k j = InF M k j.place j.num

-- a reference that is in range, and names no function but one of Q
in_outer : (M : Module) (Q : ℕ → Type 0) (k : ℕ) (p : Place) (n : ℕ) → InF M k p n → FunOk Q p n → Inside M Q p n
unfolding InF Inside
in_outer M Q k (table t) n h q = h
in_outer M Q k own n h q = tt
in_outer M Q k function n h (fun_call q) = q

in_own : (M : Module) (k : ℕ) (p : Place) (n : ℕ) → InF M k p n → OwnP (λ x. x < k) p n
unfolding InF OwnP
in_own M k (table t) n h = tt
in_own M k own n h = h
in_own M k function n h = tt

module _ (M : Module) (F : Function) where
  abbrev k : ℕ
  k = length F.exprs

  abbrev B : Bounds
  B = inside (outside M) F

  abbrev Rel : Target → Option ℕ → Type 0
  Rel t c = (w : ℕ) → under c w ≡ true → AllN (InFN M k) (ref_of t w [])

  abbrev Rels : List Target → List (Option ℕ) → Type 0
  Rels [] cs = Unit {0}
  Rels (t ∷ ts) [] = ⊥
  Rels (t ∷ ts) (c ∷ cs) = Rel t c × Rels ts cs

  rel_at : (ts : List Target) (cs : List (Option ℕ)) → Rels ts cs → (i : ℕ) → Rel (get_or ts i copied) (get_or cs i none)
  unfolding ref_of
  rel_at [] cs a i w h = tt
  rel_at (t ∷ ts) [] a i w h = absurd a
  rel_at (t ∷ ts) (c ∷ cs) a zero w h = a.0 w h
  rel_at (t ∷ ts) (c ∷ cs) a (suc i) w h = rel_at ts cs a.1 i w h

  ref_rel : (p : Place) (n : ℕ) → ((x : ℕ) → x < n → InF M k p x) → Rel (ref p) (some n)
  unfolding ref_of under
  ref_rel p n f w h = (f w (ltb-true w n h), tt)

  opt_rel : (p : Place) (n : ℕ) → ((x : ℕ) → x < n → InF M k p x) → Rel (opt p) (some (suc n))
  unfolding ref_of under
  opt_rel p n f zero h = tt
  opt_rel p n f (suc w) h = (f w (le_of_suc-le-suc (ltb-true (suc w) (suc n) h)), tt)

  none_rel : (c : Option ℕ) → Rel copied c
  unfolding ref_of
  none_rel c w h = tt

  start_rel : (c : Option ℕ) → Rel start c
  unfolding ref_of
  start_rel c w h = tt

  upto_rel : (c : Option ℕ) → Rel upto c
  unfolding ref_of
  upto_rel c w h = tt

  rels : Rels targets (behind (caps B))
  unfolding targets caps inside outside count tables at InF
  rels =
      (start_rel none, (upto_rel none, (opt_rel (table names) _ (λ x h. h), (ref_rel (table types) _ (λ x h. h), (opt_rel (table types) _ (λ x h. h), (ref_rel (table constants) _ (λ x h. h), (ref_rel (table overrides) _ (λ x h. h), (ref_rel (table globals) _ (λ x h. h), (ref_rel (table exprs) _ (λ x h. h), (opt_rel (table exprs) _ (λ x h. h), (ref_rel function _ (λ x h. h), (ref_rel function _ (λ x h. h), (ref_rel own _ (λ x h. h), (opt_rel own _ (λ x h. h), (none_rel _, (none_rel _, (none_rel _, (none_rel _, (ref_rel own _ (λ x h. h), (opt_rel own _ (λ x h. h), (ref_rel own _ (λ x h. h), (opt_rel own _ (λ x h. h), tt))))))))))))))))))))))

  cell_in : (s w : ℕ) → under (bound B s) w ≡ true → AllN (InFN M k) (ref_of (target s) w [])
  unfolding target bound
  cell_in s w h = go (ltb s SPAN) refl
    where
      go : (b : Bool) → ltb s SPAN ≡ b → AllN (InFN M k) (ref_of (elim b [ true ↦ copied | false ↦ get_or targets (s - SPAN) copied ]) w [])
      go true e = none_rel none w (unfold under in refl)
      go false e =
          let l : SPAN ≤ s = ltb-false s SPAN e in
          let q : s - WORD ≡ suc (s - SPAN) = omega arith in
          let h' : under (get_or (caps B) (s - WORD) none) w ≡ true = rw (le-ltb s WORD (omega arith), bound) at h in
          rel_at targets (behind (caps B)) rels (s - SPAN) w (rw (q, get_d_behind (caps B) (s - SPAN) none) at h')

  cells_in : (r : Cells) → within B r ≡ true → AllN (InFN M k) (refs r)
  unfolding within refs
  cells_in [] h = tt
  cells_in (c ∷ cs) h =
      let a = and_split (under (bound B (class c)) (word c)) (within B cs) h in
      cons_all (InFN M k) (target (class c)) (word c) (refs cs) (cell_in (class c) (word c) a.0) (cells_in cs a.1)

  outers : (Q : ℕ → Type 0) (r : Cells) → within B r ≡ true → FunsOk Q (refs r) → AllN (InN M Q) (refs r)
  outers Q r h q = alln-both (refs r) (λ j. in_outer M Q k j.place j.num) (cells_in r h) q

  mine : (r : Cells) → within B r ≡ true → All (λ x. x < k) (owns (refs r))
  mine r h = all-owns (λ x. x < k) (refs r) (alln-map (refs r) (λ j. in_own M k j.place j.num) (cells_in r h))

  next : (s w : ℕ) (cs : Cells) → within B ((s, w) ∷ cs) ≡ true → within B cs ≡ true
  unfolding within
  next s w cs h = (and_split (under (bound B s) w) (within B cs) h).1

  first : (s w : ℕ) (cs : Cells) → within B ((s, w) ∷ cs) ≡ true → under (bound B s) w ≡ true
  unfolding within
  first s w cs h = (and_split (under (bound B s) w) (within B cs) h).0

  join : (xs ys : Cells) → within B xs ≡ true → within B ys ≡ true → within B (xs ++ ys) ≡ true
  unfolding within
  join [] ys h g = g
  join (c ∷ cs) ys h g = let a = and_split (under (bound B (class c)) (word c)) (within B cs) h in rw a.0 (join cs ys a.1 g)

  pub row_in : (rs : List Cells) → within B (flat_all rs) ≡ true → (e : ℕ) → within B (get_or rs e []) ≡ true
  unfolding flat_all within
  row_in [] h e = refl
  row_in (r ∷ rs) h zero = (within-append B r (flat_all rs) h).0
  row_in (r ∷ rs) h (suc e) = row_in rs (within-append B r (flat_all rs) h).1 e

  -- the name of a named expression
  name_word_lem : (Q : ℕ → Type 0) (w : ℕ) → AllN (InFN M k) (ref_of (opt (table names)) w []) → AllN (InN M Q) (ref_of (opt (table names)) w [])
  unfolding ref_of InF Inside
  name_word_lem Q zero a = tt
  name_word_lem Q (suc w) a = (a.0, tt)

  name_in_lem : (Q : ℕ → Type 0) (r : Cells) → within B r ≡ true → NameIn M Q (field NAME r)
  unfolding within field
  name_in_lem Q [] h = unfold target targets ref_of in tt
  name_in_lem Q (c ∷ cs) h = go (eqb (class c) NAME) refl (name_in_lem Q cs (and_split (under (bound B (class c)) (word c)) (within B cs) h).1)
    where
      go : (z : Bool) → eqb (class c) NAME ≡ z → NameIn M Q (field NAME cs) → NameIn M Q (elim z [ true ↦ word c | false ↦ field NAME cs ])
      go true e ih = unfold target targets in name_word_lem Q (word c) (unfold target targets in cell_in NAME (word c) (rw (eqb-true (class c) NAME e) at (and_split (under (bound B (class c)) (word c)) (within B cs) h).0))
      go false e ih = ih

  names_in_lem : (Q : ℕ → Type 0) (rs : List Cells) → within B (flat_all rs) ≡ true → NamesIn M Q rs
  unfolding flat_all
  names_in_lem Q [] h = tt
  names_in_lem Q (r ∷ rs) h = let a = within-append B r (flat_all rs) h in (name_in_lem Q r a.0, names_in_lem Q rs a.1)

-- ---- 4: lower
below_all : (xs : List ℕ) (n : ℕ) → below xs n ≡ true → All (λ x. x < n) xs
unfolding below
below_all [] n h = tt
below_all (x ∷ xs) n h = let a = and_split (ltb x n) (below xs n) h in (ltb-true x n a.0, below_all xs n a.1)

lower-at : (xs : List Cells) (i : ℕ) → operands_lower xs i ≡ true → (e : ℕ) → e < length xs → All (λ x. x < i + e) (ops_of (get_or xs e []))
unfolding operands_lower
lower-at [] i h e l = absurd (not-suc-le-zero l)
lower-at (x ∷ xs) i h zero l = all_map (ops_of x) (λ y q. omega arith) (below_all (ops_of x) i (and_split (below (ops_of x) i) (operands_lower xs (suc i)) h).0)
lower-at (x ∷ xs) i h (suc e) l = all_map (ops_of (get_or xs e [])) (λ y q. omega arith) (lower-at xs (suc i) (and_split (below (ops_of x) i) (operands_lower xs (suc i)) h).1 e (omega arith))

-- ---- lists
has_mem : (xs : List ℕ) (e : ℕ) → Mem e xs → has xs e ≡ true
unfolding has
has_mem [] e m = elim m [ ]
has_mem (x ∷ xs) e here = rw (eq-eqb e e refl)
has_mem (x ∷ xs) e (there m) = go (eqb e x) (has_mem xs e m)
  where
    go : (b : Bool) → has xs e ≡ true → (b || has xs e) ≡ true
    go true h = refl
    go false h = h

distinct_is : (xs : List ℕ) → distinct xs ≡ true → Distinct xs
unfolding distinct
distinct_is [] h = tt
distinct_is (x ∷ xs) h =
    let a = and_split (not (has xs x)) (distinct xs) h in
    (all_mem _ xs (λ y m q. (let z : has xs x ≡ true = rw q (has_mem xs y m) in absurd (false≢true (rw z at a.0)))), distinct_is xs a.1)

up_from_below : (n s b : ℕ) → s + n ≤ b → All (λ x. x < b) (up_from n s)
unfolding up_from
up_from_below zero s b h = tt
up_from_below (suc n) s b h = (omega arith, up_from_below n (suc s) b (omega arith))

live_all : (P : ℕ → Type 0) (es : List ℕ) (drop : ℕ → Bool) → All P es → All P (live es drop)
unfolding live
live_all P [] drop a = tt
live_all P (e ∷ es) drop a = go (drop e) (live_all P es drop a.1)
  where
    go : (b : Bool) → All P (live es drop) → All P (elim b [ true ↦ live es drop | false ↦ e ∷ live es drop ])
    go true h = h
    go false h = (a.0, h)

-- ---- the function
module _ (o : ℕ) (M : Module) (follow : ℕ → Derived → Derived) (Q : ℕ → Type 0) (G : Derived → Type 0) (law : Law o M follow Q G) (F : Function) (pass : Passes M F) (calls : All Q (callees F)) where
  abbrev c : Ctx
  c = ctx o M follow Q G law F

  abbrev xs : List Cells
  xs = F.exprs

  abbrev b : Bounds
  b = inside (outside M) F

  pub row_lays : (e : ℕ) → e < length xs → Lays expression_row (get_or xs e [])
  unfolding counted expression_row
  row_lays e l = each_at pass.well.exprs_ok.each e [] l

  beyond : (e : ℕ) → (e < length xs → ⊥) → get_or xs e [] ≡ []
  beyond e n = get_or-eq_default xs [] {n = e} (omega arith)

  owned : (e : ℕ) → owns (refs (get_or xs e [])) ≡ ops xs e
  unfolding ops
  owned e = elim (dec_lt e (length xs)) [ yes l ↦ expr_owned (row_lays e l) | no n ↦ rw (beyond e n) (unfold refs owns ops_of in refl) ]

  nameless : (e : ℕ) → Nameless (get_or xs e [])
  nameless e = elim (dec_lt e (length xs)) [ yes l ↦ expr_nameless (row_lays e l) | no n ↦ rw (beyond e n) (unfold Nameless in tt) ]

  bare : (e : ℕ) → bare_kind (kind_at xs e) ≡ true → ops xs e ≡ []
  unfolding ops kind_at
  bare e h = elim (dec_lt e (length xs)) [ yes l ↦ bare-ops (row_lays e l) h | no n ↦ rw (beyond e n) (unfold ops_of in refl) ]

  stands-bare : (e : ℕ) → standing xs e ≡ true → ops xs e ≡ []
  unfolding standing bare_kind
  stands-bare e h = bare e (rw h)

  call-bare : (f : ℕ) (r : Option ℕ) → call_result xs f r ≡ true → All (λ e. ops xs e ≡ []) (evals_opt r)
  unfolding call_result evals_opt
  call-bare f none h = tt
  call-bare f (some e) h = (bare e (rw (eqb-true (kind_at xs e) 23 (and_split (eqb (kind_at xs e) 23) _ h).0) (unfold bare_kind standing_kind result_kind in refl)), tt)

  effect_bare : (n : ℕ) (r : Option ℕ) → effect_result xs n r ≡ true → All (λ e. ops xs e ≡ []) (evals_opt r)
  unfolding effect_result evals_opt
  effect_bare n none h = tt
  effect_bare n (some e) h = (go (eqb n 14) h, tt)
    where
      go : (t : Bool) → eqb (kind_at xs e) (elim t [ true ↦ 25 | false ↦ 24 ]) ≡ true → ops xs e ≡ []
      go true q = bare e (rw (eqb-true (kind_at xs e) 25 q) (unfold bare_kind standing_kind result_kind in refl))
      go false q = bare e (rw (eqb-true (kind_at xs e) 24 q) (unfold bare_kind standing_kind result_kind in refl))

  -- ---- the parts of the record
  pub record Parts : Type 0 where
    pub decls : within b (declarations o M follow F) ≡ true
    pub rows : within b (flat_all xs) ≡ true
    pub named : within b (flat_all F.named) ≡ true
    pub body : within b (flat_b F.body) ≡ true

  whole : (within b (flat F) ≡ true) × (initialised F ≡ true)
  unfolding sound
  whole = let a = and_split (within b (flat F)) _ pass.three in (a.0, (and_split (ordered (flat F)) (initialised F) a.1).1)

  pub parts : Parts
  unfolding flat flat_list flat_block declarations
  parts =
      let a1 = within-append b (F.head ++ flat_list ARGUMENTS F.arguments ++ F.result ++ flat_list LOCALS F.locals ++ flat_list EXPRESSIONS F.exprs ++ flat_list NAMED F.named) (flat_block F.body) whole.0 in
      let a2 = within-append b (F.head ++ flat_list ARGUMENTS F.arguments ++ F.result ++ flat_list LOCALS F.locals ++ flat_list EXPRESSIONS F.exprs) (flat_list NAMED F.named) a1.0 in
      let a3 = within-append b (F.head ++ flat_list ARGUMENTS F.arguments ++ F.result ++ flat_list LOCALS F.locals) (flat_list EXPRESSIONS F.exprs) a2.0 in
      let a4 = within-append b (F.head ++ flat_list ARGUMENTS F.arguments ++ F.result) (flat_list LOCALS F.locals) a3.0 in
      let a5 = within-append b (F.head ++ flat_list ARGUMENTS F.arguments) F.result a4.0 in
      let a6 = within-append b F.head (flat_list ARGUMENTS F.arguments) a5.0 in
      record {
        decls = join M F (F.head ++ flat_all F.arguments ++ F.result) (flat_all F.locals)
            (join M F (F.head ++ flat_all F.arguments) F.result (join M F F.head (flat_all F.arguments) a6.0 (next M F ARGUMENTS _ (flat_all F.arguments) a6.1)) a5.1)
            (next M F LOCALS _ (flat_all F.locals) a4.1);
        rows = next M F EXPRESSIONS _ (flat_all F.exprs) a3.1;
        named = next M F NAMED _ (flat_all F.named) a2.1;
        body = next M F BLOCK _ (flat_b F.body) a1.1;
      }

  decl_owned : owns (refs (declarations o M follow F)) ≡ roots F.locals
  unfolding declarations
  decl_owned = decls-owned pass.well.head_ok pass.well.arguments_ok.each pass.well.result_ok_lem pass.well.locals_ok.each

  -- ---- the body
  abbrev Below : List ℕ → Type 0
  Below es = All (λ x. x < length xs) es

  -- what it evaluates is there, and names no function but one of Q
  abbrev Fit : List ℕ → Type 0
  Fit es = All (λ x. (x < length xs) × FunsOk Q (refs (get_or xs x []))) es

  fit-both : (es : List ℕ) → Below es → All (λ x. FunsOk Q (refs (get_or xs x []))) es → Fit es
  fit-both [] a b = tt
  fit-both (e ∷ es) a b = ((a.0, b.0), fit-both es a.1 b.1)

  fit-below : (es : List ℕ) → Fit es → Below es
  fit-below [] a = tt
  fit-below (e ∷ es) a = (a.0.0, fit-below es a.1)

  not_result : (e : ℕ) → (kind_at xs e ≡ 23 → ⊥) → FunsOk Q (refs (get_or xs e []))
  unfolding kind_at
  not_result e d = elim (dec_lt e (length xs)) [ yes l ↦ not_call Q (row_lays e l) d | no n ↦ rw (beyond e n) (unfold refs in tt) ]

  of_kind : (e k : ℕ) → kind_at xs e ≡ k → (k ≡ 23 → ⊥) → FunsOk Q (refs (get_or xs e []))
  of_kind e k p d = not_result e (λ q. d (sym p ∙ q))

  effect_kind : (n : ℕ) (r : Option ℕ) → effect_result xs n r ≡ true → All (λ x. FunsOk Q (refs (get_or xs x []))) (evals_opt r)
  unfolding effect_result evals_opt
  effect_kind n none h = tt
  effect_kind n (some e) h = (go (eqb n 14) h, tt)
    where
      go : (t : Bool) → eqb (kind_at xs e) (elim t [ true ↦ 25 | false ↦ 24 ]) ≡ true → FunsOk Q (refs (get_or xs e []))
      go true q = of_kind e 25 (eqb-true (kind_at xs e) 25 q) (λ z. omega arith)
      go false q = of_kind e 24 (eqb-true (kind_at xs e) 24 q) (λ z. omega arith)

  call-kind : (f : ℕ) (r : Option ℕ) → Q f → call_result xs f r ≡ true → All (λ x. FunsOk Q (refs (get_or xs x []))) (evals_opt r)
  unfolding call_result evals_opt
  call-kind f none k h = tt
  call-kind f (some e) k h = (elim (dec_lt e (length xs)) [ yes l ↦ called l | no n ↦ rw (beyond e n) (unfold refs in tt) ], tt)
    where
      both : (eqb (kind_at xs e) 23 ≡ true) × (is_of (function_of (get_or xs e [])) f ≡ true)
      both = and_split (eqb (kind_at xs e) 23) _ h

      called : e < length xs → FunsOk Q (refs (get_or xs e []))
      called l = call_result_lem Q (row_lays e l) (unfold kind_at in eqb-true (kind_at xs e) 23 both.0) f both.1 k

  emitted_not : (k : ℕ) → emitted_kind k ≡ true → k ≡ 23 → ⊥
  unfolding emitted_kind standing_kind result_kind
  emitted_not k h q = false≢true (rw q at h)

  emitted_kinds : (es : List ℕ) → emitted xs es ≡ true → All (λ x. FunsOk Q (refs (get_or xs x []))) es
  unfolding emitted
  emitted_kinds [] h = tt
  emitted_kinds (e ∷ es) h = let a = and_split (emitted_kind (kind_at xs e)) _ h in (not_result e (emitted_not (kind_at xs e) a.0), emitted_kinds es a.1)

  range_below : (r : Range) → within b ((FROM, r.from) ∷ (TO, r.to) ∷ []) ≡ true → Below (in_range r)
  unfolding in_range inside outside
  range_below r h = elim (dec_lt r.from r.to) [
    | yes l ↦ up_from_below (r.to - r.from) r.from (length xs) (omega (arith, top))
    | no l ↦ (let z : r.to - r.from ≡ 0 = omega arith in rw z (unfold up_from in tt))
  ]
    where
      top : r.to ≤ length xs
      top = unfold bound caps under in (let q = first M F TO r.to [] (next M F FROM r.from ((TO, r.to) ∷ []) h) in le_of_suc-le-suc (ltb-true r.to (suc (length xs)) (unfold bound caps under in q)))

  opt_below : (r : Option ℕ) (cs : Cells) → within b ((OPT_RESULT, word_of r) ∷ cs) ≡ true → Below (evals_opt r)
  unfolding word_of evals_opt target targets ref_of InF
  opt_below none cs h = tt
  opt_below (some e) cs h = ((cell_in M F OPT_RESULT (suc e) (first M F OPT_RESULT (suc e) cs h)).0, tt)

  effect_fits : (n : ℕ) (cs : Cells) {d : ℕ} → OkF d (effect n cs) → within b cs ≡ true → effect_result xs n (result_of cs) ≡ true → Effect c cs × Fit (evals_opt (result_of cs))
  effect_fits n cs (ok_effect e l) h q =
      let f = effects_of n e l in (
        record { owned = effect_owned f; inside = outers M F Q cs h (no_funs_lem Q (effect_functionless n e l) (effect_calleeless n e l)); compares = compares_in cs; nameless = effect_nameless f; shape = f; result = effect_bare n (result_of cs) q },
        fit-both (evals_opt (result_of cs)) (all-r _ (ops_of cs) _ (rw (effect_owned f) at (mine M F cs h))) (effect_kind n (result_of cs) q),
      )

  call_fits : (f : ℕ) (ys : List ℕ) (r : Option ℕ) → Q f → within b (flat_f (call f ys r)) ≡ true → call_result xs f r ≡ true → Callee c f r × Fit (evals_opt r)
  unfolding flat_f
  call_fits f ys r k h q = (
    record { inside = unfold Inside in k; result = call-bare f r q },
    fit-both (evals_opt r) (opt_below r [] (within-append b (flat_x ys) ((OPT_RESULT, word_of r) ∷ []) (next M F CALLEE f _ h)).1) (call-kind f r k q),
  )

  case_with : {P Q : Type 0} (v : Cells) (f : ℕ) → Lays (VALUE ∷ []) v → within b ((2, f) ∷ []) ≡ true → P × Q → (CaseFit v f × P) × Q
  unfolding bound under
  case_with v f l h r = ((record { value = value_free v l; falls = ltb-true f 2 (first M F 2 f [] h) }, r.0), r.1)

  inner : {d : ℕ} {a : Block Range} → OkB d a → (n : ℕ) × OkBs n a
  inner (ok_deeper {d} w) = (d, w)

  module _ (drop : ℕ → Bool) where
    mutual
      unfolding flat_s flat_block expand_s kinds_s evals_s FitS callees_s

      fits_s : (s : Stmt Range) {d : ℕ} → OkS d s → All Q (callees_s s) → within b (flat_s s) ≡ true → kinds_s (expand_s s drop) xs ≡ true → FitS s c × Fit (evals_s (expand_s s drop))
      fits_s (stmt x y g) (ok_stmt w) k h q = fits_f g w k (next M F UPTO _ _ (next M F SPAN _ _ (next M F STMT_KIND _ _ (next M F LENGTH _ _ h)))) q

      fits_f : (g : Form Range) {d : ℕ} → OkF d g → All Q (callees_f g) → within b (flat_f g) ≡ true → kinds_f (expand_f g drop) xs ≡ true → FitF g c × Fit (evals_f (expand_f g drop))
      fits_f (emit r) w k h q = (tt, fit-both (live (in_range r) drop) (live_all _ (in_range r) drop (range_below r h)) (emitted_kinds (live (in_range r) drop) q))
      fits_f (block a) (ok_block w) k h q = fits_b a (inner w).1 k (next M F BLOCK _ _ h) q
      fits_f (branch e x y) (ok_branch w v) k h q =
          let t = within-append b (flat_block x) (flat_block y) (next M F EXPR _ _ h) in
          let z = and_split (kinds_b (expand x drop) xs) _ q in
          let m = fits_b x (inner w).1 (all_l Q (callees_b x) (callees_b y) k) (next M F BLOCK _ _ t.0) z.0 in
          let n = fits_b y (inner v).1 (all-r Q (callees_b x) (callees_b y) k) (next M F BLOCK _ _ t.1) z.1 in
          ((m.0, n.0), all_append _ (evals_b (expand x drop)) _ m.1 n.1)
      fits_f (switch e ks) (ok_switch w) k h q = fits_c ks w k (next M F CASES _ _ (next M F EXPR _ _ h)) q
      fits_f (loop x y e) (ok_loop w v) k h q =
          let u = within-append b (flat_block x ++ flat_block y) ((OPT_EXPR, word_of e) ∷ []) h in
          let t = within-append b (flat_block x) (flat_block y) u.0 in
          let z = and_split (kinds_b (expand x drop) xs) _ q in
          let m = fits_b x (inner w).1 (all_l Q (callees_b x) (callees_b y) k) (next M F BLOCK _ _ t.0) z.0 in
          let n = fits_b y (inner v).1 (all-r Q (callees_b x) (callees_b y) k) (next M F BLOCK _ _ t.1) z.1 in
          ((m.0, n.0), all_append _ (evals_b (expand x drop)) _ m.1 n.1)
      fits_f break w k h q = (tt, tt)
      fits_f continue w k h q = (tt, tt)
      fits_f (return e) w k h q = (tt, tt)
      fits_f kill w k h q = (tt, tt)
      fits_f (call f ys r) w k h q = call_fits f ys r k.0 h q
      fits_f (effect n cs) w k h q = effect_fits n cs w h q

      fits_b : (a : Block Range) {d : ℕ} → OkBs d a → All Q (callees_b a) → within b (flat_b a) ≡ true → kinds_b (expand a drop) xs ≡ true → FitB a c × Fit (evals_b (expand a drop))
      fits_b end w k h q = (tt, tt)
      fits_b (s then a) (ok_then w v) k h q =
          let t = within-append b (flat_s s) (flat_b a) h in
          let z = and_split (kinds_s (expand_s s drop) xs) _ q in
          let m = fits_s s w (all_l Q (callees_s s) (callees_b a) k) t.0 z.0 in
          let n = fits_b a v (all-r Q (callees_s s) (callees_b a) k) t.1 z.1 in
          ((m.0, n.0), all_append _ (evals_s (expand_s s drop)) _ m.1 n.1)

      fits_k : (g : Case Range) {d : ℕ} → OkK d g → All Q (callees_k g) → within b (flat_k g) ≡ true → kinds_k (expand_k g drop) xs ≡ true → FitK g c × Fit (evals_k (expand_k g drop))
      fits_k (case v a f) (ok_case l w) k h q = case_with v f l (within-append b (v ++ flat_block a) _ h).1 (fits_b a (inner w).1 k (next M F BLOCK _ _ (within-append b v (flat_block a) (within-append b (v ++ flat_block a) _ h).0).1) q)

      fits_c : (ks : Cases Range) {d : ℕ} → OkC d ks → All Q (callees_c ks) → within b (flat_c ks) ≡ true → kinds_c (expand_c ks drop) xs ≡ true → FitC ks c × Fit (evals_c (expand_c ks drop))
      fits_c nomore w k h q = (tt, tt)
      fits_c (g also ks) (ok_also w v) k h q =
          let t = within-append b (flat_k g) (flat_c ks) h in
          let z = and_split (kinds_k (expand_k g drop) xs) _ q in
          let m = fits_k g w (all_l Q (callees_k g) (callees_c ks) k) t.0 z.0 in
          let n = fits_c ks v (all-r Q (callees_k g) (callees_c ks) k) t.1 z.1 in
          ((m.0, n.0), all_append _ (evals_k (expand_k g drop)) _ m.1 n.1)

  -- ---- 6
  record Rules : Type 0 where
    kinds : kinds_b (all_of F) xs ≡ true
    once : distinct (evals_b (all_of F)) ≡ true
    reads : ok_b (seen F) xs [] ≡ true

  rules : Rules
  unfolding scoped scoped_as
  rules =
      let h₁ = (and_split (shape_b (seen F) in_body) _ pass.six).1 in
      let h₂ = and_split (kinds_b (all_of F) xs) _ h₁ in
      let h₃ = and_split (distinct (evals_b (all_of F))) _ h₂.1 in
      record { kinds = h₂.0; once = h₃.0; reads = h₃.1 }

  seen_kinds : kinds_b (seen F) xs ≡ true
  unfolding seen all_of
  seen_kinds = kinds_b_drop (marked (initials F)) xs F.body rules.kinds

  fits : FitB F.body c × Fit (evals_b (seen F))
  unfolding seen
  fits = fits_b (marked (initials F)) F.body (inner pass.well.body_ok).1 calls parts.body seen_kinds

  once-seen : Distinct (evals_b (seen F))
  unfolding seen all_of
  once-seen = distinct_is _ (part-distinct (part_b (marked (initials F)) F.body) rules.once)

  emitted_moves : (n : ℕ) → emitted_kind n ≡ true → standing_kind n ≡ false
  unfolding emitted_kind
  emitted_moves n h = go (standing_kind n) h
    where
      go : (t : Bool) → elim t [ true ↦ false | false ↦ elim (result_kind n) [ true ↦ false | false ↦ true ] ] ≡ true → t ≡ false
      go true q = sym q
      go false q = refl

  result_moves : (n : ℕ) → result_kind n ≡ true → standing_kind n ≡ false
  unfolding result_kind standing_kind
  result_moves n h =
      let a = leb-true 23 n (and_split (leb 23 n) _ h).0 in
      by _ (leb n 3 || (leb 9 n && leb n 11))
      (λ s. ⊎_elim (λ q. absurd (omega (arith, leb-true n 3 q))) (λ q. absurd (omega (arith, leb-true n 11 (and_split (leb 9 n) _ q).1))) (or_cases (leb n 3) _ s))
      (λ s. s)

  moves : All (λ x. standing xs x ≡ false) (evals_b (seen F))
  unfolding seen standing
  moves = all_mem _ (evals_b (seen F)) (λ e m. go e (evaluated_b (marked (initials F)) xs F.body seen_kinds e m))
    where
      go : (e : ℕ) → Evaluated (marked (initials F)) xs e → standing_kind (kind_at xs e) ≡ false
      go e (emits h d) = emitted_moves (kind_at xs e) h
      go e (results h) = result_moves (kind_at xs e) h

  fresh : All (λ x. initial F x ≡ false) (evals_b (seen F))
  unfolding mentioned
  fresh = all_mem _ (evals_b (seen F)) (λ e m. unread F pass.six whole.1 e (mention_b xs (seen F) m))

  lowers : (e : ℕ) → e < length xs → All (λ x. x < e) (ops xs e)
  unfolding ops
  lowers e l = all_map (ops_of (get_or xs e [])) (λ x h. omega arith) (lower-at xs 0 pass.four e l)

  decl_funs : FunsOk Q (refs (declarations o M follow F))
  unfolding declarations function_head counted calms? calm?
  decl_funs =
      let w = pass.well in
      no_funs_lem Q
      (each_append (each_append (each_append (functionless w.head_ok refl) (all_not FUNCTION (λ cs l. functionless l refl) w.arguments_ok.each)) (functionless w.result_ok_lem refl)) (all_not FUNCTION (λ cs l. functionless l refl) w.locals_ok.each))
      (each_append (each_append (each_append (calleeless w.head_ok refl) (all_not CALLEE (λ cs l. calleeless l refl) w.arguments_ok.each)) (calleeless w.result_ok_lem refl)) (all_not CALLEE (λ cs l. calleeless l refl) w.locals_ok.each))

  -- ---- what may be imported names no function but one of Q
  stands_not : (k : ℕ) → standing_kind k ≡ true → k ≡ 23 → ⊥
  unfolding standing_kind
  stands_not k h q = false≢true (rw q at h)

  constant_not : (k : ℕ) → constant_kind k ≡ true → k ≡ 23 → ⊥
  unfolding constant_kind
  constant_not k h q = false≢true (rw q at h)

  may_funs : (e : ℕ) → May F e → FunsOk Q (refs (get_or xs e []))
  unfolding standing
  may_funs e (inl h) = not_result e (stands_not (kind_at xs e) h)
  may_funs e (inr (inl m)) = (mem_all _ m fits.1).1
  may_funs e (inr (inr r)) = elim (dec_lt e (length xs)) [ yes l ↦ not_result e (constant_not (kind_at xs e) (initialised_is F whole.1 e l r)) | no n ↦ rw (beyond e n) (unfold refs in tt) ]

  -- ---- and so of its operands
  emit_up : (es : List ℕ) {e x : ℕ} → Mem e es → Mem x (ops xs e) → Mem x (mentions_e es xs)
  unfolding mentions_e
  emit_up [] m k = elim m [ ]
  emit_up (e ∷ es) here k = there (mem_left (mentions_e es xs) k)
  emit_up (e ∷ es) (there m) k = there (mem_right (ops xs e) (emit_up es m k))

  none-up : {e x : ℕ} {l : List ℕ} (r : Option ℕ) → All (λ e. ops xs e ≡ []) (evals_opt r) → Mem e (evals_opt r) → Mem x (ops xs e) → Mem x l
  none-up r a m k = absurd (no_mem (rw (mem_all _ m a) at k))

  mutual
    unfolding evals_s mentions_s kinds_s

    up_s : (s : XStmt) → kinds_s s xs ≡ true → {e x : ℕ} → Mem e (evals_s s) → Mem x (ops xs e) → Mem x (mentions_s s xs)
    up_s (stmt a b f) h m k = up_f f h m k

    up_f : (f : XForm) → kinds_f f xs ≡ true → {e x : ℕ} → Mem e (evals_f f) → Mem x (ops xs e) → Mem x (mentions_f f xs)
    up_f (emit es) h m k = emit_up es m k
    up_f (block b) h m k = up_b b h m k
    up_f (branch c a b) h m k = let z = and_split (kinds_b a xs) _ h in there (⊎_elim (λ p. mem_left (mentions_b b xs) (up_b a z.0 p k)) (λ p. mem_right (mentions_b a xs) (up_b b z.1 p k)) (mem_cases (evals_b a) (evals_b b) m))
    up_f (switch c ks) h m k = there (up_c ks h m k)
    up_f (loop a b x) h m k = let z = and_split (kinds_b a xs) _ h in mem_right (evals_opt x) (⊎_elim (λ p. mem_left (mentions_b b xs) (up_b a z.0 p k)) (λ p. mem_right (mentions_b a xs) (up_b b z.1 p k)) (mem_cases (evals_b a) (evals_b b) m))
    up_f break h m k = absurd (no_mem m)
    up_f continue h m k = absurd (no_mem m)
    up_f (return x) h m k = absurd (no_mem m)
    up_f kill h m k = absurd (no_mem m)
    up_f (call f ys r) h m k = none-up r (call-bare f r h) m k
    up_f (effect n cs) h m k = none-up (result_of cs) (effect_bare n (result_of cs) h) m k

    up_b : (b : XBlock) → kinds_b b xs ≡ true → {e x : ℕ} → Mem e (evals_b b) → Mem x (ops xs e) → Mem x (mentions_b b xs)
    up_b end h m k = absurd (no_mem m)
    up_b (s then b) h m k = let z = and_split (kinds_s s xs) _ h in ⊎_elim (λ p. mem_left (mentions_b b xs) (up_s s z.0 p k)) (λ p. mem_right (mentions_s s xs) (up_b b z.1 p k)) (mem_cases (evals_s s) (evals_b b) m)

    up_k : (c : XCase) → kinds_k c xs ≡ true → {e x : ℕ} → Mem e (evals_k c) → Mem x (ops xs e) → Mem x (mentions_k c xs)
    up_k (case v b t) h m k = up_b b h m k

    up_c : (ks : XCases) → kinds_c ks xs ≡ true → {e x : ℕ} → Mem e (evals_c ks) → Mem x (ops xs e) → Mem x (mentions_c ks xs)
    up_c nomore h m k = absurd (no_mem m)
    up_c (c also ks) h m k = let z = and_split (kinds_k c xs) _ h in ⊎_elim (λ p. mem_left (mentions_c ks xs) (up_k c z.0 p k)) (λ p. mem_right (mentions_k c xs) (up_c ks z.1 p k)) (mem_cases (evals_k c) (evals_c ks) m)

  pub mentions_may : (x : ℕ) → Mem x (mentions_b (seen F) xs) → May F x
  mentions_may = is_b xs (May F) (λ e s. inl s) (seen F) [] (λ e m. absurd (no_mem m)) (λ e m. inr (inl m)) rules.reads

  may_ops : (e : ℕ) → May F e → All (May F) (ops xs e)
  may_ops e (inl h) = rw (stands-bare e h) tt
  may_ops e (inr (inl m)) = all_mem _ (ops xs e) (λ x k. mentions_may x (up_b (seen F) seen_kinds m k))
  may_ops e (inr (inr r)) = all_mem _ (ops xs e) (λ x k. inr (inr (reach_step r k)))

  -- WHAT THE IMPORT ASKS OF A FUNCTION holds of one that passed intake
  pub fine : Fine c F
  fine = record {
    exprs = record {
      owned = owned;
      lower = lowers;
      inside = λ e m. outers M F Q (get_or xs e []) (row_in M F xs parts.rows e) (may_funs e m);
      may_ops = may_ops;
      stands_may = λ e h. inl h;
      bare = stands-bare;
    };
    nameless = nameless;
    declared-owned = decl_owned;
    declared_in = outers M F Q (declarations o M follow F) parts.decls decl_funs;
    roots_in = rw decl_owned at (mine M F (declarations o M follow F) parts.decls);
    named_in = names_in_lem M F Q F.named parts.named;
    fit = fits.0;
    inside = fit-below (evals_b (seen F)) fits.1;
    may = all_mem _ (evals_b (seen F)) (λ e m. inr (inl m));
    hard = moves;
    soft = fresh;
    once = once-seen;
    scope = rules.reads;
  }

  pub initials-fine : initialised F ≡ true
  initials-fine = whole.1

  named-two : (rs : List Cells) → Each (Lays (counted NAMED)) rs → Twos rs
  named-two [] e = tt
  named-two (r ∷ rs) (each_next a e) = (two (named_shape a), named-two rs e)
    where
      two : {r : Cells} → Plainly (NAMED-EXPR ∷ NAME ∷ []) r → length r ≡ 2
      two (plain-next (plain-next plain-none)) = refl

  pub named_twos : Twos F.named
  named_twos = named-two F.named pass.well.named_ok.each
