-- What every import of a table's record keeps, and every call that is followed, the import of a function keeps, of a function whose references test 3 found in range.
use Rattle.std.specs.Prelude.{◌≡◌, Bool, length, get_or, replicate}
use Rattle.std.proofs.Math.Path.{refl}
use Rattle.std.proofs.Math.Bool.{true, false}
use mathlib.Core.List.{List, [], ◌∷◌, ◌++◌}
use Prim.Native.Nat.{ℕ, zero, suc, ◌<◌}
use Rattle.std.proofs.Common.{arith}
use Rattle.std.proofs.Math.Dec.{eqb}
use borrow.Author.Tests.{eqb-true, lt-ltb}
use Rattle.theory_lists.specs.Booleans.{and-true, and_split}
use Rattle.model.specs.Outcome.{Cells, class, word}
use Rattle.model.specs.Table.{NAME, NAMED-EXPR, ARGUMENTS, LOCALS, EXPRESSIONS, NAMED, BLOCK}
use Rattle.model.specs.Tree.{Function, flat_all, flat_list, flat_b, flat_block, flat}
use Rattle.model.specs.Module.{Module}
use Rattle.model.specs.Names.{field}
use Rattle.model.specs.Numbers.{Bounds, caps, bound, below as under, within, outside, inside}
use Rattle.model.specs.Tables.{Tab, tables, count}
use Rattle.model.specs.References.{table, function, Node, refs, fold_refs}
use Rattle.model.specs.Imports.{Derived, import_t}
use Rattle.model.specs.Bodies.{Builder, step, import_initialiser, put_name, name_if, keep_names, name_cells, declarations, declared, walked, kept_names, named_after, final}
use Rattle.theory_image.specs.Within.{within-append, within-next, within-join, within-row}
use Rattle.theory_records.specs.Functions.{TabIn, in_table, TabsIn, cells_in}
use Rattle.theory_finish.specs.Walked as Walked

-- ---- the references of a function whose numbers test 3 found in range
module _ (m : Module) (o : ℕ) (fol : ℕ → Derived → Derived) (F : Function) (fine : within (inside (outside m) F) (flat F) ≡ true) where
  abbrev b : Bounds
  b = inside (outside m) F

  -- the parts of the record
  record Parts : Type 0 where
    decls : within b (declarations o m fol F) ≡ true
    rows : within b (flat_all F.exprs) ≡ true
    named : within b (flat_all F.named) ≡ true
    body : within b (flat_b F.body) ≡ true

  parts : Parts
  unfolding flat flat_list flat_block declarations
  parts =
      let a1 = within-append b (F.head ++ flat_list ARGUMENTS F.arguments ++ F.result ++ flat_list LOCALS F.locals ++ flat_list EXPRESSIONS F.exprs ++ flat_list NAMED F.named) (flat_block F.body) fine in
      let a2 = within-append b (F.head ++ flat_list ARGUMENTS F.arguments ++ F.result ++ flat_list LOCALS F.locals ++ flat_list EXPRESSIONS F.exprs) (flat_list NAMED F.named) a1.0 in
      let a3 = within-append b (F.head ++ flat_list ARGUMENTS F.arguments ++ F.result ++ flat_list LOCALS F.locals) (flat_list EXPRESSIONS F.exprs) a2.0 in
      let a4 = within-append b (F.head ++ flat_list ARGUMENTS F.arguments ++ F.result) (flat_list LOCALS F.locals) a3.0 in
      let a5 = within-append b (F.head ++ flat_list ARGUMENTS F.arguments) F.result a4.0 in
      let a6 = within-append b F.head (flat_list ARGUMENTS F.arguments) a5.0 in
      record {
        decls = within-join b (F.head ++ flat_all F.arguments ++ F.result) (flat_all F.locals)
            (within-join b (F.head ++ flat_all F.arguments) F.result (within-join b F.head (flat_all F.arguments) a6.0 (within-next b ARGUMENTS _ (flat_all F.arguments) a6.1)) a5.1)
            (within-next b LOCALS _ (flat_all F.locals) a4.1);
        rows = within-next b EXPRESSIONS _ (flat_all F.exprs) a3.1;
        named = within-next b NAMED _ (flat_all F.named) a2.1;
        body = within-next b BLOCK _ (flat_b F.body) a1.1;
      }

  -- ---- expressions
  pub row_in : (e : ℕ) → TabsIn (tables m) (refs (get_or F.exprs e []))
  row_in e = cells_in m F (get_or F.exprs e []) (within-row b F.exprs parts.rows e)

  pub decls_in : TabsIn (tables m) (refs (declarations o m fol F))
  decls_in = cells_in m F (declarations o m fol F) parts.decls

  pub body_in : TabsIn (tables m) (refs (flat_b F.body))
  body_in = cells_in m F (flat_b F.body) parts.body

  -- ---- names of expressions
  abbrev ok : ℕ → Type 0
  ok w = under (bound b NAME) w ≡ true

  name_ok : (r : Cells) → within b r ≡ true → ok (field NAME r)
  unfolding within field inside outside
  name_ok [] h = unfold bound caps under in lt-ltb 0 (suc (length m.names)) (omega arith)
  name_ok (c ∷ cs) h = go (eqb (class c) NAME) refl (name_ok cs (and_split (under (bound b (class c)) (word c)) (within b cs) h).1)
    where
      go : (z : Bool) → eqb (class c) NAME ≡ z → ok (field NAME cs) → ok (elim z [ true ↦ word c | false ↦ field NAME cs ])
      go true e ih = rw (eqb-true (class c) NAME e) at (and_split (under (bound b (class c)) (word c)) (within b cs) h).0
      go false e ih = ih

  put-ok : (ps : List (ℕ × ℕ)) (j w : ℕ) → ok w → within b (name_cells ps) ≡ true → within b (name_cells (put_name ps j w)) ≡ true
  unfolding put_name name_cells within
  put-ok [] j w g h = and-true g refl
  put-ok (a ∷ ps) j w g h = go (eqb a.0 j) (put-ok ps j w g (and_split (under (bound b NAME) a.1) (within b (name_cells ps)) h).1)
    where
      go : (z : Bool) → within b (name_cells (put_name ps j w)) ≡ true → within b (name_cells (elim z [ true ↦ (j, w) ∷ ps | false ↦ a ∷ put_name ps j w ])) ≡ true
      go true ih = and-true g (and_split (under (bound b NAME) a.1) (within b (name_cells ps)) h).1
      go false ih = and-true (and_split (under (bound b NAME) a.1) (within b (name_cells ps)) h).0 ih

  if_ok : (v w : ℕ) (ps : List (ℕ × ℕ)) → ok w → within b (name_cells ps) ≡ true → within b (name_cells (name_if v w ps)) ≡ true
  unfolding name_if
  if_ok zero w ps g h = h
  if_ok (suc j) w ps g h = put-ok ps j w g h

  keep-ok : (rs : List Cells) (memo : List ℕ) (ps : List (ℕ × ℕ)) → within b (flat_all rs) ≡ true → within b (name_cells ps) ≡ true → within b (name_cells (keep_names rs memo ps)) ≡ true
  unfolding keep_names flat_all
  keep-ok [] memo ps f h = h
  keep-ok (r ∷ rs) memo ps f h =
      let a = within-append b r (flat_all rs) f in
      keep-ok rs memo _ a.1 (if_ok (get_or memo (field NAMED-EXPR r) 0) (field NAME r) ps (name_ok r a.0) h)

  pub named_in : (x : Builder) → TabsIn (tables m) (refs (name_cells (kept_names o m fol F x)))
  unfolding kept_names
  named_in x = cells_in m F _ (keep-ok F.named x.memo [] parts.named (unfold name_cells within in refl))

module _ (m : Module) (o : ℕ) (K : Derived → Type 0) (ik : (t : Tab) (n : ℕ) (s : Derived) → n < count (tables m) t → K s → K (import_t o (tables m) t n s)) where
  module _ (fol : ℕ → Derived → Derived) (fk : (f : ℕ) (s : Derived) → K s → K (fol f s)) where
    abbrev pub Good : (ℕ → Builder → Builder) → Type 0
    Good h = (e : ℕ) (x : Builder) → K x.out → K (h e x).out

    allowed : (t : Tab) (n : ℕ) (s : Derived) → TabIn (tables m) (table t) n → K s → K (import_t o (tables m) t n s)
    allowed t n s (in_table l) k = ik t n s l k

    called : (f : ℕ) (s : Derived) → TabIn (tables m) function f → K s → K (fol f s)
    called f s a k = fk f s k

    pub each_kept : (h : ℕ → Builder → Builder) → Good h → (js : List Node) → TabsIn (tables m) js → (x : Builder) → K x.out → K (fold_refs js (step o m fol h) x).out
    each_kept h g js a x k = Walked.each_kept m o (TabIn (tables m)) K allowed fol called h g js a x k

    module _ (F : Function) (fine : within (inside (outside m) F) (flat F) ≡ true) where
      unique_kept : Good (import_initialiser o m fol F.exprs)
      unique_kept = Walked.unique_kept m o (TabIn (tables m)) K allowed fol called F (row_in m o fol F fine)

      pub declared-kept : (s : Derived) → K s → K (declared o m fol F s).out
      declared-kept s k = Walked.declared-kept m o (TabIn (tables m)) K allowed fol called F (row_in m o fol F fine) (decls_in m o fol F fine) s k

      -- where the first reference of the declarations is known
      pub declared-after : (s : Derived) (j : Node) (js : List Node) → refs (declarations o m fol F) ≡ j ∷ js
          → K (step o m fol (import_initialiser o m fol F.exprs) j.place j.num (record { out = s; memo = replicate (length F.exprs) 0; made = [] })).out → K (declared o m fol F s).out
      unfolding declared fold_refs
      declared-after s j js e k =
          let a : TabsIn (tables m) (j ∷ js) = rw e at (decls_in m o fol F fine) in
          rw e (each_kept (import_initialiser o m fol F.exprs) unique_kept js a.1 _ k)

      pub walked-kept : (x : Builder) → K x.out → K (walked o m fol F x).out
      walked-kept x k = Walked.walked-kept m o (TabIn (tables m)) K allowed fol called F (row_in m o fol F fine) (body_in m o fol F fine) x k

      pub named-kept : (x : Builder) → K x.out → K (named_after o m fol F x).out
      named-kept x k = Walked.named-kept m o (TabIn (tables m)) K allowed fol called F (row_in m o fol F fine) x (named_in m o fol F fine x) k

      pub final-kept : (s : Derived) → K s → K (final o m fol F s).out
      unfolding final
      final-kept s k = named-kept _ (walked-kept (declared o m fol F s) (declared-kept s k))

      -- what is after the declarations, and at the end
      pub rest-kept : (s : Derived) → K (declared o m fol F s).out → K (final o m fol F s).out
      unfolding final
      rest-kept s k = named-kept _ (walked-kept (declared o m fol F s) k)
