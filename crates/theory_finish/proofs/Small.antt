-- The theorems on what is defined in `specs/Small.antt`.
use Rattle.std.specs.Prelude.{◌≡◌, Bool, length, get_or, set}
use Rattle.std.proofs.Math.Path.{refl}
use Rattle.std.proofs.Math.Bool.{true, false}
use Rattle.std.proofs.lemmas.Bool.{false≢true}
use mathlib.Core.List.{List, [], ◌∷◌, map}
use Rattle.std.proofs.Math.Option.{Option, none, some}
use Prim.Native.Nat.{ℕ, zero, suc, ◌^◌, ◌<◌}
use native.Mathlib.Omega.{arith}
use Rattle.std.proofs.Math.Dec.{eqb}
use Rattle.std.proofs.Common.{eqb-true}
use Rattle.model.specs.Outcome.{Cells}
use Rattle.model.specs.Table.{NAME, OPT_TYPE, KEY, TYPE}
use Rattle.model.specs.Tree.{Stmt, Form, Block, Cases, Case, stmt, emit, block, branch, switch, loop, break, continue, return, kill, call, effect, end, ◌then◌, nomore, ◌also◌, case, Range, Function, Entry}
use Rattle.model.specs.Module.{Module}
use Rattle.model.specs.Carry.{carry_cell, carry_cells, carry_s, carry_f, carry_b, carry_k, carry_c, carry_function, carry_entry, carry_special, carry, Each, each_none, each_next}
use Rattle.model.specs.Names.{field}
use Rattle.model.specs.Redirect.{nothing, function as function_at}
use Rattle.model.specs.Scope.{in_range}
use Rattle.model.specs.Tables.{Tab, names, types, constants, overrides, globals, exprs, at, upd, Tables, rec_at, map_at, tables}
use Rattle.model.specs.References.{Place, table, own, function, Target, copied, start, upto, ref, opt, target, targets, Node, refs, fold_refs, carry_w, through, add, span_by, undefined, first_word, undefined_at, moved, shift, alike, interned}
use Rattle.model.specs.Imports.{Derived, unless_mapped, intern, made, commit, step_t, import_f, import_t, levels, emptied, fresh}
use Rattle.model.specs.Bodies.{known, Builder, bring, compares_of, each_e, opt_e, carried, step, append_expr, intern_expr, append_standing, import_e, import_body, import_initialiser, import_standing, import_stmt, import_form, import_block, import_case, import_cases, carried_form, rebuild_stmt, rebuild_form, rebuild_block, rebuild_case, rebuild_cases, named_rows, declarations, declared, walked, rebuilt, named_after, derived, final, localized, appended, append, follow_f, follow, entered, entry_made, enter_all, entries_made}
use Rattle.model.specs.Special.{force, with_special, put_ray, ray_to, ray, rays, keyed, put_pair, pair_to, pairs, sourced}
use Rattle.model.specs.Finish.{renumber, with_names, named_by, gathered, finished, appearing}
use Rattle.model.specs.Link.{append_all}
use Rattle.model.specs.Operands.{standing}
use Rattle.theory_image.specs.Quiet.{each_append}
use Rattle.theory_records.specs.RecordLaws.{Went}
use Rattle.theory_records.specs.TableLaws.{Tab_dec, at_same, at_other, at-six}
use Rattle.theory_finish.specs.Cellwise.{each_first, each_rest}
use Rattle.theory_finish.specs.Small.{fixed, Small, Rows, Takes, SmallS, small_stmt, SmallF, small_emit, small_block, small_branch, small_switch, small_loop, small_break, small_continue, small_return, small_kill, small_call, small_effect, SmallB, small_end, small_then, SmallK, small_case, SmallC, small_nomore, small_also, SmallFunction, SmallEntry, SmallModule, SmallState, SmallMaking}

pub through_takes : (g : Went) → Takes (through g)
unfolding through carry_w fixed
through_takes g = record { over = λ s w f. go (target s) w f }
  where
    go : (t : Target) (w : ℕ) → fixed t ≡ true → carry_w g t w ≡ w
    go copied w f = refl
    go start w f = refl
    go upto w f = refl
    go (ref p) w f = absurd (false≢true f)
    go (opt p) w f = absurd (false≢true f)

pub renumber_takes : (ns : List ℕ) → Takes (renumber ns)
unfolding renumber target targets fixed
renumber_takes ns = record { over = go }
  where
    named : (s w : ℕ) (b : Bool) → eqb s NAME ≡ b → fixed (target s) ≡ true → b ≡ false
    named s w true e f = let k : fixed (target 83) ≡ true = rw (eqb-true s NAME e) at f in absurd (false≢true k)
    named s w false e f = refl

    go : (s w : ℕ) → fixed (target s) ≡ true → renumber ns s w ≡ w
    go s zero f = refl
    go s (suc n) f = rw (renumber, named s n (eqb s NAME) refl f)

-- ---- records
pub carry_small : {m : ℕ → ℕ → ℕ} {r : Cells} → Takes m → Each Small r → Each Small (carry_cells m r)
unfolding carry_cell
carry_small t each_none = each_none
carry_small {m} t (each_next {a = c} h hs) = each_next {a = (c.0, m c.0 c.1)} (record { below = λ f. rw (t.over c.0 c.1 f) (h.below f) }) (carry_small t hs)

pub carry-rows : {m : ℕ → ℕ → ℕ} {rs : List Cells} → Takes m → Rows rs → Rows (map (carry_cells m) rs)
carry-rows t each_none = each_none
carry-rows t (each_next h hs) = each_next (carry_small t h) (carry-rows t hs)

add_small : (u : Bool) (o w : ℕ) → w < 2 ^ 32 → add u o w < 2 ^ 32
unfolding add
add_small true o w h = h
add_small false o w h = omega arith

pub shift_small : {r : Cells} → Each Small r → (o : ℕ) (u : Bool) → Each Small (shift r o u)
unfolding shift moved fixed
shift_small each_none o u = each_none
shift_small (each_next {a = c} {l = cs} h hs) o u = let v = undefined_at (target c.0) c.1 (first_word cs) u in each_next (record { below = λ f. go (target c.0) c.1 v f (h.below f) }) (shift_small hs o v)
  where
    go : (t : Target) (w : ℕ) (v : Bool) → fixed t ≡ true → w < 2 ^ 32 → moved t w o v < 2 ^ 32
    go copied w v f h = h
    go start w v f h = add_small v o w h
    go upto w v f h = add_small v o w h
    go (ref p) w v f h = h
    go (opt p) w v f h = h

pub merged_small : (ds : List Cells) (r : Cells) → Rows ds → Each Small r → Rows (interned ds r)
unfolding interned
merged_small [] r e h = each_next h each_none
merged_small (d ∷ ds) r e h = go (alike d r) (merged_small ds r (each_rest e) h)
  where
    go : (b : Bool) → Rows (interned ds r) → Rows (elim b [ true ↦ d ∷ ds | false ↦ d ∷ interned ds r ])
    go true i = e
    go false i = each_next (each_first e) i

pub at_row : {P : Cells → Type 0} {rs : List Cells} → Each P rs → P [] → (n : ℕ) → P (get_or rs n [])
at_row each_none z n = z
at_row (each_next h hs) z zero = h
at_row (each_next h hs) z (suc n) = at_row hs z n

-- carried by a map that takes over what is fixed
module _ {m : ℕ → ℕ → ℕ} (t : Takes m) where
  mutual
    unfolding carry_s target targets fixed

    pub carry_s_lem : {s : Stmt Range} → SmallS s → SmallS (carry_s m s)
    carry_s_lem (small_stmt {a} {b} h k x) = small_stmt {a = m 81 a} {b = m 82 b} (rw (t.over 81 a refl) h) (rw (t.over 82 b refl) k) (carry-f x)

    pub carry-f : {x : Form Range} → SmallF x → SmallF (carry_f m x)
    carry-f small_emit = small_emit
    carry-f (small_block b) = small_block (carry-b b)
    carry-f (small_branch a b) = small_branch (carry-b a) (carry-b b)
    carry-f (small_switch ks) = small_switch (carry-c ks)
    carry-f (small_loop a b) = small_loop (carry-b a) (carry-b b)
    carry-f small_break = small_break
    carry-f small_continue = small_continue
    carry-f small_return = small_return
    carry-f small_kill = small_kill
    carry-f small_call = small_call
    carry-f (small_effect k h) = small_effect k (carry_small t h)

    pub carry-b : {b : Block Range} → SmallB b → SmallB (carry_b m b)
    carry-b small_end = small_end
    carry-b (small_then s b) = small_then (carry_s_lem s) (carry-b b)

    pub carry-k : {k : Case Range} → SmallK k → SmallK (carry_k m k)
    carry-k (small_case v b) = small_case (carry_small t v) (carry-b b)

    pub carry-c : {ks : Cases Range} → SmallC ks → SmallC (carry_c m ks)
    carry-c small_nomore = small_nomore
    carry-c (small_also k ks) = small_also (carry-k k) (carry-c ks)

-- ---- what steps keep
once_keeps : {S : Type 0} (P : S → Type 0) (v : ℕ) (k : ℕ → S) (s : S) → P s → P (k zero) → P (unless_mapped v k s)
unfolding unless_mapped
once_keeps P zero k s p q = q
once_keeps P (suc v) k s p q = p

each_keeps : {S : Type 0} (P : S → Type 0) (js : List Node) (f : Place → ℕ → S → S) → ((p : Place) (n : ℕ) (s : S) → P s → P (f p n s)) → (s : S) → P s → P (fold_refs js f s)
unfolding fold_refs
each_keeps P [] f h s p = p
each_keeps P (j ∷ js) f h s p = each_keeps P js f h (f j.place j.num s) (h j.place j.num s p)

-- ---- imports of tables' records
module _ (o : ℕ) (T : Tables) (small : (u : Tab) → Rows (at u T)) where
  record_small : (t : Tab) (n : ℕ) → Each Small (rec_at T t n)
  unfolding rec_at
  record_small t n = at_row (small t) each_none n

  commit_small : (t : Tab) (n : ℕ) (s : Derived) → SmallState s → SmallState (commit o T t n s)
  unfolding commit intern made
  commit_small t n s k = record { in_tables_lem = rows; in_functions_lem = k.in_functions_lem; in_rays = k.in_rays; in_pairs = k.in_pairs }
    where
      new : Each Small (made o T t n s)
      new = unfold made in shift_small (carry_small (through_takes _) (record_small t n)) o false

      rows : (u : Tab) → Rows (at u (upd t (interned (at t s.recs) (made o T t n s)) s.recs))
      rows u = go (Tab_dec t u)
        where
          go : Dec (t ≡ u) → Rows (at u (upd t (interned (at t s.recs) (made o T t n s)) s.recs))
          go (yes e) = rw (← e, at_same t (interned (at t s.recs) (made o T t n s)) s.recs) (merged_small (at t s.recs) (made o T t n s) (k.in_tables_lem t) new)
          go (no n') = rw (at_other t u (interned (at t s.recs) (made o T t n s)) s.recs n') (k.in_tables_lem u)

  step_small : (g : Tab → ℕ → Derived → Derived) → ((t : Tab) (n : ℕ) (s : Derived) → SmallState s → SmallState (g t n s)) → (p : Place) (n : ℕ) (s : Derived) → SmallState s → SmallState (step_t g p n s)
  unfolding step_t
  step_small g h (table u) n s k = h u n s k
  step_small g h own n s k = h exprs n s k
  step_small g h function n s k = k

  import_f_small : (f : ℕ) (t : Tab) (n : ℕ) (s : Derived) → SmallState s → SmallState (import_f f o T t n s)
  unfolding import_f
  import_f_small zero t n s k = k
  import_f_small (suc f) t n s k = once_keeps SmallState (map_at s.maps t n) _ s k (commit_small t n _ (each_keeps SmallState (refs (rec_at T t n)) (step_t (import_f f o T)) (step_small (import_f f o T) λ u n s k. import_f_small f u n s k) s k))

  -- AN IMPORT keeps what is derived small
  pub import_small : (t : Tab) (n : ℕ) (s : Derived) → SmallState s → SmallState (import_t o T t n s)
  unfolding import_t
  import_small t n s k = import_f_small (levels T) t n s k

-- ---- a function under construction
each_e_keeps : (es : List ℕ) (h : ℕ → Builder → Builder) → ((e : ℕ) (m : Builder) → SmallMaking m → SmallMaking (h e m)) → (m : Builder) → SmallMaking m → SmallMaking (each_e es h m)
unfolding each_e
each_e_keeps [] h f m k = k
each_e_keeps (e ∷ es) h f m k = each_e_keeps es h f (h e m) (f e m k)

opt_e_keeps : (x : Option ℕ) (h : ℕ → Builder → Builder) → ((e : ℕ) (m : Builder) → SmallMaking m → SmallMaking (h e m)) → (m : Builder) → SmallMaking m → SmallMaking (opt_e x h m)
unfolding opt_e
opt_e_keeps none h f m k = k
opt_e_keeps (some e) h f m k = f e m k

names_small : (ps : List (ℕ × ℕ)) (f : ℕ → ℕ) → Rows (named_rows ps f)
unfolding named_rows target targets fixed
names_small [] f = each_none
names_small (p ∷ ps) f = each_next (each_next (record { below = λ e. absurd (false≢true e) }) (each_next (record { below = λ e. absurd (false≢true e) }) each_none)) (names_small ps f)

module _ (o : ℕ) (M : Module) where
  pub carried_small : (m : Builder) (r : Cells) → Each Small r → Each Small (carried o M m r)
  unfolding carried
  carried_small m r h = shift_small (carry_small (through_takes _) h) o false

  carried_rows : (m : Builder) {rs : List Cells} → Rows rs → Rows (map (carried o M m) rs)
  carried_rows m each_none = each_none
  carried_rows m (each_next {a = r} h hs) = each_next (carried_small m r h) (carried_rows m hs)

  module _ (follow : ℕ → Derived → Derived) (p q : ℕ → Builder → Builder) where
    -- ---- what a body becomes: this requires nothing of the builder
    mutual
      unfolding rebuild_stmt carried_form carry_f span_by

      mk_s : {s : Stmt Range} → SmallS s → (m : Builder) → SmallS (rebuild_stmt o M follow p q s m)
      mk_s (small_stmt {a} {b} h k x) m = small_stmt (add_small (undefined a b) o a h) (add_small (undefined a b) o b k) (mk_f x m)

      mk_f : {x : Form Range} → SmallF x → (m : Builder) → SmallF (rebuild_form o M follow p q x m)
      mk_f small_emit m = small_emit
      mk_f (small_block b) m = small_block (mk_b b m)
      mk_f (small_branch {c} {a} {b} x y) m = small_branch (mk_b x (p c m)) (mk_b y (import_block o M follow p q a (p c m)))
      mk_f (small_switch {c} ks) m = small_switch (mk_c ks (p c m))
      mk_f (small_loop {a} x y) m = small_loop (mk_b x m) (mk_b y (import_block o M follow p q a m))
      mk_f small_break m = small_break
      mk_f small_continue m = small_continue
      mk_f small_return m = small_return
      mk_f small_kill m = small_kill
      mk_f small_call m = small_call
      mk_f (small_effect {k} {cs} l h) m = small_effect l (carry_small (through_takes _) h)

      pub mk_b : {b : Block Range} → SmallB b → (m : Builder) → SmallB (rebuild_block o M follow p q b m)
      mk_b small_end m = small_end
      mk_b (small_then {s} x y) m = small_then (mk_s x m) (mk_b y (import_stmt o M follow p q s m))

      mk_k : {k : Case Range} → SmallK k → (m : Builder) → SmallK (rebuild_case o M follow p q k m)
      mk_k (small_case v b) m = small_case v (mk_b b m)

      mk_c : {ks : Cases Range} → SmallC ks → (m : Builder) → SmallC (rebuild_cases o M follow p q ks m)
      mk_c small_nomore m = small_nomore
      mk_c (small_also {k} x y) m = small_also (mk_k x m) (mk_c y (import_case o M follow p q k m))

  module _ (small : SmallModule M) (follow : ℕ → Derived → Derived) (follows : (n : ℕ) (s : Derived) → SmallState s → SmallState (follow n s)) where
    bring_small : (f : Derived → Derived) → ((s : Derived) → SmallState s → SmallState (f s)) → (m : Builder) → SmallMaking m → SmallMaking (bring f m)
    unfolding bring
    bring_small f h m k = record { in_out = h m.out k.in_out; in_made = k.in_made }

    reference_small : (h : ℕ → Builder → Builder) → ((e : ℕ) (m : Builder) → SmallMaking m → SmallMaking (h e m)) → (p : Place) (n : ℕ) (m : Builder) → SmallMaking m → SmallMaking (step o M follow h p n m)
    unfolding step
    reference_small h f (table t) n m k = bring_small (import_t o (tables M) t n) (import_small o (tables M) small.in_tables_lem t n) m k
    reference_small h f own n m k = f n m k
    reference_small h f function n m k = bring_small (follow n) (follows n) m k

    module _ (xs : List Cells) (rows : Rows xs) where
      expr_small : (e : ℕ) (m : Builder) → Each Small (carried o M m (get_or xs e []))
      expr_small e m = carried_small m (get_or xs e []) (at_row rows each_none e)

      push_small : (e : ℕ) (m : Builder) → SmallMaking m → SmallMaking (append_expr o M follow xs e m)
      unfolding append_expr
      push_small e m k = record { in_out = k.in_out; in_made = each_append k.in_made (each_next (expr_small e m) each_none) }

      join_small : (e : ℕ) (m : Builder) → SmallMaking m → SmallMaking (intern_expr o M follow xs e m)
      unfolding intern_expr
      join_small e m k = record { in_out = k.in_out; in_made = merged_small m.made (carried o M m (get_or xs e [])) k.in_made (expr_small e m) }

      stand_small : (e : ℕ) (m : Builder) → SmallMaking m → SmallMaking (append_standing o M follow xs e m)
      unfolding append_standing
      stand_small e m k = go (standing xs e)
        where
          go : (b : Bool) → SmallMaking (elim b [ true ↦ append_expr o M follow xs e m | false ↦ m ])
          go true = push_small e m k
          go false = k

      import_e_small : (ending : ℕ → Builder → Builder) → ((e : ℕ) (m : Builder) → SmallMaking m → SmallMaking (ending e m)) → (n e : ℕ) (m : Builder) → SmallMaking m → SmallMaking (import_e o M follow xs ending n e m)
      unfolding import_e
      import_e_small ending h zero e m k = k
      import_e_small ending h (suc n) e m k = once_keeps SmallMaking (get_or m.memo e 0) _ m k (h e _ (each_keeps SmallMaking (refs (get_or xs e [])) _ (reference_small (import_e o M follow xs ending n) λ e m k. import_e_small ending h n e m k) m k))

      plain_small : (e : ℕ) (m : Builder) → SmallMaking m → SmallMaking (import_body o M follow xs e m)
      unfolding import_body
      plain_small e m k = import_e_small (append_expr o M follow xs) push_small (length xs) e m k

      unique_small : (e : ℕ) (m : Builder) → SmallMaking m → SmallMaking (import_initialiser o M follow xs e m)
      unfolding import_initialiser
      unique_small e m k = import_e_small (intern_expr o M follow xs) join_small (length xs) e m k

      quiet_small : (e : ℕ) (m : Builder) → SmallMaking m → SmallMaking (import_standing o M follow xs e m)
      unfolding import_standing
      quiet_small e m k = import_e_small (append_standing o M follow xs) stand_small (length xs) e m k

    module _ (p q : ℕ → Builder → Builder) (ps : (e : ℕ) (m : Builder) → SmallMaking m → SmallMaking (p e m)) (qs : (e : ℕ) (m : Builder) → SmallMaking m → SmallMaking (q e m)) where
      mutual
        unfolding import_stmt

        go_s_lem : (s : Stmt Range) (m : Builder) → SmallMaking m → SmallMaking (import_stmt o M follow p q s m)
        go_s_lem (stmt a b f) m k = go_f_lem f m k

        go_f_lem : (x : Form Range) (m : Builder) → SmallMaking m → SmallMaking (import_form o M follow p q x m)
        go_f_lem (emit r) m k = each_e_keeps (in_range r) p ps _ (each_e_keeps (in_range r) q qs m k)
        go_f_lem (block b) m k = go_b_lem b m k
        go_f_lem (branch c a b) m k = go_b_lem b _ (go_b_lem a _ (ps c m k))
        go_f_lem (switch c ks) m k = go_c_lem ks _ (ps c m k)
        go_f_lem (loop a b x) m k = opt_e_keeps x p ps _ (go_b_lem b _ (go_b_lem a m k))
        go_f_lem break m k = k
        go_f_lem continue m k = k
        go_f_lem (return x) m k = opt_e_keeps x p ps m k
        go_f_lem kill m k = k
        go_f_lem (call f xs r) m k = opt_e_keeps r p ps _ (each_e_keeps xs p ps _ (bring_small (follow f) (follows f) m k))
        go_f_lem (effect n cs) m k = each_keeps SmallMaking (refs cs) _ (reference_small p ps) _ (each_e_keeps (compares_of cs) p ps m k)

        go_b_lem : (b : Block Range) (m : Builder) → SmallMaking m → SmallMaking (import_block o M follow p q b m)
        go_b_lem end m k = k
        go_b_lem (s then b) m k = go_b_lem b _ (go_s_lem s m k)

        go_k_lem : (c : Case Range) (m : Builder) → SmallMaking m → SmallMaking (import_case o M follow p q c m)
        go_k_lem (case v b f) m k = go_b_lem b m k

        go_c_lem : (ks : Cases Range) (m : Builder) → SmallMaking m → SmallMaking (import_cases o M follow p q ks m)
        go_c_lem nomore m k = k
        go_c_lem (c also ks) m k = go_c_lem ks _ (go_k_lem c m k)

    -- ---- a function
    module _ (F : Function) (f : SmallFunction F) where
      declared_small : (s : Derived) → SmallState s → SmallMaking (declared o M follow F s)
      unfolding declared
      declared_small s k = each_keeps SmallMaking (refs (declarations o M follow F)) _ (reference_small _ (unique_small F.exprs f.in_exprs)) _ (record { in_out = k; in_made = each_none })

      pub final_small : (s : Derived) → SmallState s → SmallMaking (final o M follow F s)
      unfolding final walked named_after
      final_small s k = each_keeps SmallMaking _ _ (reference_small _ (plain_small F.exprs f.in_exprs)) _ (go_b_lem _ _ (plain_small F.exprs f.in_exprs) (quiet_small F.exprs f.in_exprs) F.body _ (declared_small s k))

      pub localized_small : (s : Derived) → SmallState s → SmallFunction (localized o M follow F s)
      unfolding localized derived rebuilt
      localized_small s k =
          let d = declared o M follow F s in
          record {
            in_head = carried_small d F.head f.in_head;
            in_arguments = carried_rows d f.in_arguments;
            in_result = carried_small d F.result f.in_result;
            in_locals = carried_rows d f.in_locals;
            in_exprs = (final_small s k).in_made;
            in_named = names_small _ _;
            in_body = mk_b follow _ _ f.in_body d;
          }

    pub append_small : (n : ℕ) (s : Derived) → SmallState s → SmallState (append o M follow n s)
    unfolding append appended function_at nothing
    append_small n s k =
        let f = at-function small.in_functions_lem n in
        let g = (final_small (function_at M n) f s k).in_out in
        record { in_tables_lem = g.in_tables_lem; in_functions_lem = each_append g.in_functions_lem (each_next (localized_small (function_at M n) f s k) each_none); in_rays = g.in_rays; in_pairs = g.in_pairs }
      where
        at-function : {fs : List Function} → Each SmallFunction fs → (n : ℕ) → SmallFunction (get_or fs n nothing)
        at-function each_none n = record { in_head = each_none; in_arguments = each_none; in_result = each_none; in_locals = each_none; in_exprs = each_none; in_named = each_none; in_body = small_end }
        at-function (each_next h hs) zero = h
        at-function (each_next h hs) (suc n) = at-function hs n

  module _ (small : SmallModule M) where
    follow_f_small : (f n : ℕ) (s : Derived) → SmallState s → SmallState (follow_f f o M n s)
    unfolding follow_f
    follow_f_small zero n s k = k
    follow_f_small (suc f) n s k = once_keeps SmallState (known M s n) _ s k (append_small small (follow_f f o M) (λ n s k. follow_f_small f n s k) n s k)

    pub follow_small : (n : ℕ) (s : Derived) → SmallState s → SmallState (follow o M n s)
    unfolding follow
    follow_small n s k = follow_f_small (length M.functions) n s k

    -- THE IMPORT OF FUNCTIONS
    pub functions_small : (is : List ℕ) (s : Derived) → SmallState s → SmallState (append_all is o M s)
    unfolding append_all
    functions_small [] s k = k
    functions_small (i ∷ is) s k = functions_small is _ (append_small small (follow o M) follow_small i s k)

    -- ENTRY POINTS
    entered_small : (e : Entry) → SmallEntry e → (s : Derived) → SmallState s → SmallMaking (entered o M e s)
    unfolding entered
    entered_small e h s k = each_keeps SmallMaking (refs e.head) _ (reference_small small (follow o M) follow_small (λ x m. m) (λ x m j. j)) _ (final_small small (follow o M) follow_small e.function h.in_function_lem s k)

    pub enter_small : {es : List Entry} → Each SmallEntry es → (s : Derived) → SmallState s → SmallState (enter_all es o M s)
    unfolding enter_all
    enter_small each_none s k = k
    enter_small (each_next {a = e} h hs) s k = enter_small hs _ (entered_small e h s k).in_out

    pub entries_small : {es : List Entry} → Each SmallEntry es → (s : Derived) → SmallState s → Each SmallEntry (entries_made es o M s)
    unfolding entries_made entry_made
    entries_small each_none s k = each_none
    entries_small (each_next {a = e} h hs) s k = each_next (record { in_head = carried_small (entered o M e s) e.head h.in_head; in_function_lem = localized_small small (follow o M) follow_small e.function h.in_function_lem s k }) (entries_small hs _ (entered_small e h s k).in_out)

    -- A SOURCE THAT IS SET
    set-ray : {cs : Cells} → Each Small cs → (k w : ℕ) → Each Small (set cs k (OPT_TYPE, w))
    unfolding target targets fixed
    set-ray each_none k w = each_none
    set-ray (each_next h hs) zero w = each_next (record { below = λ e. absurd (false≢true e) }) hs
    set-ray (each_next h hs) (suc k) w = each_next h (set-ray hs k w)

    ray_to_small : (v j n : ℕ) (s : Derived) → SmallState s → SmallState (ray_to v j n o (tables M) s)
    unfolding ray_to put_ray with_special force
    ray_to_small zero j n s k = let i = import_small o (tables M) small.in_tables_lem types n s k in record { in_tables_lem = i.in_tables_lem; in_functions_lem = i.in_functions_lem; in_rays = set-ray i.in_rays j _; in_pairs = i.in_pairs }
    ray_to_small (suc v) j n s k = record { in_tables_lem = k.in_tables_lem; in_functions_lem = k.in_functions_lem; in_rays = k.in_rays; in_pairs = k.in_pairs }

    rays_small : (cs : Cells) (j : ℕ) (s : Derived) → SmallState s → SmallState (rays cs j o (tables M) s)
    unfolding rays ray
    rays_small [] j s k = k
    rays_small (c ∷ cs) j s k = rays_small cs (suc j) _ (one c.1)
      where
        one : (w : ℕ) → SmallState (ray w j o (tables M) s)
        one zero = k
        one (suc n) = ray_to_small (get_or s.special.rays j (0, 0)).1 j n s k

    key_below : {r : Cells} → Each Small r → field KEY r < 2 ^ 32
    unfolding field target targets fixed
    key_below each_none = omega arith
    key_below (each_next {a = c} {l = cs} h hs) = go (eqb c.0 KEY) refl (key_below hs)
      where
        go : (b : Bool) → eqb c.0 KEY ≡ b → field KEY cs < 2 ^ 32 → (let v : ℕ = elim b [ true ↦ c.1 | false ↦ field KEY cs ] in v) < 2 ^ 32
        go true e l = h.below (rw (eqb-true c.0 KEY e))
        go false e l = l

    pair_to_small : (v key n : ℕ) → key < 2 ^ 32 → (s : Derived) → SmallState s → SmallState (pair_to v key n o (tables M) s)
    unfolding pair_to put_pair with_special force target targets fixed
    pair_to_small zero key n l s k =
        let i = import_small o (tables M) small.in_tables_lem types n s k in
        record { in_tables_lem = i.in_tables_lem; in_functions_lem = i.in_functions_lem; in_rays = i.in_rays; in_pairs = each_append i.in_pairs (each_next (each_next (record { below = λ e. l }) (each_next (record { below = λ e. absurd (false≢true e) }) each_none)) each_none) }
    pair_to_small (suc v) key n l s k = record { in_tables_lem = k.in_tables_lem; in_functions_lem = k.in_functions_lem; in_rays = k.in_rays; in_pairs = k.in_pairs }

    pairs_small : {rs : List Cells} → Rows rs → (s : Derived) → SmallState s → SmallState (pairs rs o (tables M) s)
    unfolding pairs
    pairs_small each_none s k = k
    pairs_small (each_next {a = r} h hs) s k = pairs_small hs _ (pair_to_small (keyed s.special.pairs (field KEY r)) (field KEY r) (field TYPE r) (key_below h) s k)

    pub sourced_small : (s : Derived) → SmallState s → SmallState (sourced o M s)
    unfolding sourced emptied
    sourced_small s k = pairs_small small.in_pairs _ (rays_small M.special.rays 0 _ (record { in_tables_lem = k.in_tables_lem; in_functions_lem = k.in_functions_lem; in_rays = k.in_rays; in_pairs = k.in_pairs }))

-- AT THE START nothing is derived
pub fresh_small : SmallState fresh
unfolding fresh target targets fixed
fresh_small = record { in_tables_lem = λ u. rw (at-six u (λ t. [])) each_none; in_functions_lem = each_none; in_rays = each_next (record { below = λ e. absurd (false≢true e) }) (each_next (record { below = λ e. absurd (false≢true e) }) (each_next (record { below = λ e. absurd (false≢true e) }) each_none)); in_pairs = each_none }

-- ---- names numbered again
module _ {m : ℕ → ℕ → ℕ} (t : Takes m) where
  carry-function : {f : Function} → SmallFunction f → SmallFunction (carry_function m f)
  unfolding carry_function
  carry-function f = record { in_head = carry_small t f.in_head; in_arguments = carry-rows t f.in_arguments; in_result = carry_small t f.in_result; in_locals = carry-rows t f.in_locals; in_exprs = carry-rows t f.in_exprs; in_named = carry-rows t f.in_named; in_body = carry-b t f.in_body }

  carry_functions : {fs : List Function} → Each SmallFunction fs → Each SmallFunction (map (carry_function m) fs)
  carry_functions each_none = each_none
  carry_functions (each_next h hs) = each_next (carry-function h) (carry_functions hs)

  carry_entries : {es : List Entry} → Each SmallEntry es → Each SmallEntry (map (carry_entry m) es)
  unfolding carry_entry
  carry_entries each_none = each_none
  carry_entries (each_next h hs) = each_next (record { in_head = carry_small t h.in_head; in_function_lem = carry-function h.in_function_lem }) (carry_entries hs)

picked-rows : (ns : List ℕ) (rs : List Cells) → Rows rs → Rows (map (λ n. get_or rs n []) ns)
picked-rows [] rs h = each_none
picked-rows (n ∷ ns) rs h = each_next (at_row h each_none n) (picked-rows ns rs h)

pub gathered_small : (s : Derived) (es : List Entry) → SmallState s → Each SmallEntry es → SmallModule (gathered s es)
unfolding gathered tables
gathered_small s es k e = record { in_tables_lem = rows; in_functions_lem = k.in_functions_lem; in_entries_lem = e; in_rays = k.in_rays; in_pairs = k.in_pairs }
  where
    rows : (u : Tab) → Rows (at u (tables (gathered s es)))
    rows names = k.in_tables_lem names
    rows types = k.in_tables_lem types
    rows constants = k.in_tables_lem constants
    rows overrides = k.in_tables_lem overrides
    rows globals = k.in_tables_lem globals
    rows exprs = k.in_tables_lem exprs

-- WHAT IS FINISHED IS SMALL
pub finished_small : (s : Derived) (es : List Entry) → SmallState s → Each SmallEntry es → SmallModule (finished s es)
unfolding finished named_by with_names carry carry_special tables at
finished_small s es k e = record { in_tables_lem = rows; in_functions_lem = carry_functions t g.in_functions_lem; in_entries_lem = carry_entries t g.in_entries_lem; in_rays = carry_small t g.in_rays; in_pairs = carry-rows t g.in_pairs }
  where
    g : SmallModule (gathered s es)
    g = gathered_small s es k e

    t : Takes (renumber (appearing (gathered s es)))
    t = renumber_takes (appearing (gathered s es))

    rows : (u : Tab) → Rows (at u (tables (finished s es)))
    rows names = picked-rows (appearing (gathered s es)) (gathered s es).names (g.in_tables_lem names)
    rows types = carry-rows t (g.in_tables_lem types)
    rows constants = carry-rows t (g.in_tables_lem constants)
    rows overrides = carry-rows t (g.in_tables_lem overrides)
    rows globals = carry-rows t (g.in_tables_lem globals)
    rows exprs = carry-rows t (g.in_tables_lem exprs)
