-- EVERY DERIVED NAME APPEARS after every step of a session: setting a source, the import of a record, the renaming of a type, the import of a function with all that it calls; and at the end with the entry points. The names of a function's declarations go where its derived declarations have them, and the names of its expressions are taken only where they stay.
use Rattle.std.specs.Prelude.{◌≡◌, true, length, get_or}
use Rattle.std.proofs.Math.Path.{refl}
use Rattle.std.proofs.Common.{ap}
use Rattle.std.proofs.Math.Bool.{false}
use Rattle.std.proofs.Math.Logic.{inl, inr, ⊎_elim}
use mathlib.Core.List.{List, [], ◌∷◌, ◌++◌, map}
use Prim.Native.Nat.{ℕ, zero, suc, ◌<◌}
use Rattle.model.specs.Outcome.{Cells}
use Rattle.model.specs.Table.{NAME, EXPR, NAMED-EXPR, ARGUMENTS, LOCALS, EXPRESSIONS, NAMED, counted}
use Rattle.model.specs.Tree.{Stmt, Form, Block, Case, Cases, Range, Function, Entry, flat_x, flat_s, flat_f, flat_b, flat_k, flat_c, flat_all, flat_list, flat, flat_entry}
use Rattle.model.specs.Module.{Module}
use Rattle.model.specs.Carry.{carry_cell, carry_cells, Each, each_none, each_next, OkS, OkF, OkB, OkBs, OkK, OkC, ok_stmt, ok_emit, ok_block, ok_branch, ok_switch, ok_loop, ok_break, ok_continue, ok_return, ok_kill, ok-call, ok_effect, ok_deeper, ok_end, ok_then, ok_case, ok_nomore, ok_also, WellFunction}
use Rattle.model.specs.Initial.{Mem}
use Rattle.model.specs.Numbers.{within, outside, inside}
use Rattle.model.specs.Redirect.{function as function_at}
use Rattle.model.specs.Tables.{Tab, names, Tables, tables, rec_at, count, map_at}
use Rattle.model.specs.References.{Place, table, target, targets, ref_of, refs, fold_refs, through}
use Rattle.model.specs.Imports.{Derived, import_t}
use Rattle.model.specs.Bodies.{known, Builder, bring, mapped_to, carried, step, name_cells, named_rows, declarations, declared, walked, kept_names, named_after, import_body as plain', derived, final, localized, appended, append, follow_f, follow, entered, entry_made, enter_all, entries_made}
use Rattle.model.specs.Finish.{names_in}
use Rattle.theory_image.specs.Quiet.{each_map, each_append}
use Rattle.theory_image.specs.Writing.{flat_right}
use Rattle.theory_image.specs.Within.{within-append}
use Rattle.theory_records.specs.Trace.{once_is}
use Rattle.theory_records.specs.Functions.{cells_in}
use Rattle.theory_finish.specs.Classes.{Not, nameless, expression_not, effect_nameless, calm?, calms?}
use Rattle.theory_finish.specs.Finished.{no_names}
use Rattle.theory_finish.specs.Borne.{no_names as without, same-cell, shift_names, carry_names, left_names, right_names, split_names, Allowed, mores_allowed, refs_names, refs-nameless, names_low}
use Rattle.theory_finish.specs.Walked as Walked
use Rattle.theory_finish.specs.Lifted.{decls_in, named_in}
use Rattle.theory_finish.specs.Shown.{in_table, in_function_lem, Where, appears, waits, held, Shown, Or, Bears, more_waits, waits_held, held-map, import_shown}

-- ---- the cells of a function, part by part
module _ (f : Function) {j : ℕ} where
  in_head : Mem j (names_in f.head) → Mem j (names_in (flat f))
  in_head m = rw (flat_right f) (left_names f.head _ m)

  in_arguments : Mem j (names_in (flat_all f.arguments)) → Mem j (names_in (flat f))
  in_arguments m = rw (flat_right f) (right_names f.head _ (left_names (flat_list ARGUMENTS f.arguments) _ (unfold flat_list names_in in m)))

  in_result : Mem j (names_in f.result) → Mem j (names_in (flat f))
  in_result m = rw (flat_right f) (right_names f.head _ (right_names (flat_list ARGUMENTS f.arguments) _ (left_names f.result _ m)))

  in_locals : Mem j (names_in (flat_all f.locals)) → Mem j (names_in (flat f))
  in_locals m = rw (flat_right f) (right_names f.head _ (right_names (flat_list ARGUMENTS f.arguments) _ (right_names f.result _ (left_names (flat_list LOCALS f.locals) _ (unfold flat_list names_in in m)))))

  in_named : Mem j (names_in (flat_all f.named)) → Mem j (names_in (flat f))
  in_named m =
      rw (flat_right f)
      (right_names f.head _ (right_names (flat_list ARGUMENTS f.arguments) _ (right_names f.result _ (right_names (flat_list LOCALS f.locals) _ (right_names (flat_list EXPRESSIONS f.exprs) _ (left_names (flat_list NAMED f.named) _ (unfold flat_list names_in in m)))))))

-- ---- rows carried
map-append : (f : ℕ → ℕ → ℕ) (xs ys : Cells) → carry_cells f (xs ++ ys) ≡ carry_cells f xs ++ carry_cells f ys
map-append f [] ys = refl
map-append f (x ∷ xs) ys = ap (carry_cell f x ∷◌) (map-append f xs ys)

module _ (o : ℕ) (m : Module) (d : Builder) where
  row_names : (r : Cells) → names_in (carried o m d r) ≡ names_in (carry_cells (through (mapped_to m d)) r)
  unfolding carried
  row_names r = shift_names (carry_cells (through (mapped_to m d)) r) o false

  rows_names : (rs : List Cells) {j : ℕ} → Mem j (names_in (carry_cells (through (mapped_to m d)) (flat_all rs))) → Mem j (names_in (flat_all (map (carried o m d) rs)))
  unfolding flat_all
  rows_names [] h = h
  rows_names (r ∷ rs) {j} h =
      let g = through (mapped_to m d) in
      let i : Mem j (names_in (carry_cells g (flat_all rs))) → Mem j (names_in (flat_all (map (carried o m d) rs))) = rows_names rs in
      ⊎_elim (λ k. left_names (carried o m d r) _ (rw (row_names r) k)) (λ k. right_names (carried o m d r) _ (i k)) (split_names (carry_cells g r) (carry_cells g (flat_all rs)) (rw (map-append g r (flat_all rs)) at h))

-- the names of expressions that stay
module _ (g : Place → ℕ → ℕ) where
  rows_are : (ps : List (ℕ × ℕ)) → names_in (flat_all (named_rows ps (through g NAME))) ≡ names_in (carry_cells (through g) (name_cells ps))
  unfolding name_cells named_rows flat_all carry_cell
  rows_are [] = refl
  rows_are ((k, w) ∷ ps) = first k ((NAME, through g NAME w) ∷ flat_all (named_rows ps (through g NAME))) (same-cell NAME (through g NAME w) (through g NAME w) (flat_all (named_rows ps (through g NAME))) (carry_cells (through g) (name_cells ps)) (λ e. refl) (rows_are ps))
    where
      first : (k : ℕ) (cs : Cells) {l : List ℕ} → names_in cs ≡ l → names_in ((NAMED-EXPR, k) ∷ cs) ≡ l
      first k cs e = unfold names_in in e

  named_names : (ps : List (ℕ × ℕ)) {n j : ℕ} → Mem n (names_in (name_cells ps)) → g (table names) n ≡ suc j → Mem j (names_in (flat_all (named_rows ps (through g NAME))))
  named_names ps m e = rw (rows_are ps) (carry_names g (name_cells ps) m e)

-- the names of expressions leave the memo
named_memo : (o : ℕ) (m : Module) (fol : ℕ → Derived → Derived) (h : ℕ → Builder → Builder) (ps : List (ℕ × ℕ)) (x : Builder) → (fold_refs (refs (name_cells ps)) (step o m fol h) x).memo ≡ x.memo
unfolding name_cells refs ref_of target targets fold_refs step bring
named_memo o m fol h [] x = refl
named_memo o m fol h ((k, zero) ∷ ps) x = named_memo o m fol h ps x
named_memo o m fol h ((k, suc n) ∷ ps) x = named_memo o m fol h ps (bring (import_t o (tables m) names n) x)

-- ---- a body has no name
operands-nameless : (xs : List ℕ) → Each (Not NAME) (map (λ x. (EXPR, x)) xs)
operands-nameless [] = each_none
operands-nameless (x ∷ xs) = each_next refl (operands-nameless xs)

mutual
  unfolding flat_s flat_f flat_b flat_k flat_c flat_x calms? calm?

  stmt_nameless : {d : ℕ} {s : Stmt Range} → OkS d s → Each (Not NAME) (flat_s s)
  stmt_nameless (ok_stmt f) = each_next refl (each_next refl (each_next refl (each_next refl (form-nameless f))))

  form-nameless : {d : ℕ} {f : Form Range} → OkF d f → Each (Not NAME) (flat_f f)
  form-nameless ok_emit = each_next refl (each_next refl each_none)
  form-nameless (ok_block b) = each_next refl (block_nameless b)
  form-nameless (ok_branch a b) = each_next refl (each_next refl (each_append (block_nameless a) (each_next refl (block_nameless b))))
  form-nameless (ok_switch ks) = each_next refl (each_next refl (cases-nameless ks))
  form-nameless (ok_loop a b) = each_append (each_append (each_next refl (block_nameless a)) (each_next refl (block_nameless b))) (each_next refl each_none)
  form-nameless ok_break = each_none
  form-nameless ok_continue = each_none
  form-nameless ok_return = each_next refl each_none
  form-nameless ok_kill = each_none
  form-nameless (ok-call {xs}) = each_next refl (each_append (each_next refl (operands-nameless xs)) (each_next refl each_none))
  form-nameless (ok_effect {k} e l) = effect_nameless k e l

  block_nameless : {d : ℕ} {b : Block Range} → OkB d b → Each (Not NAME) (flat_b b)
  block_nameless (ok_deeper b) = then_nameless b

  then_nameless : {d : ℕ} {b : Block Range} → OkBs d b → Each (Not NAME) (flat_b b)
  then_nameless ok_end = each_none
  then_nameless (ok_then s b) = each_append (stmt_nameless s) (then_nameless b)

  case_nameless : {d : ℕ} {k : Case Range} → OkK d k → Each (Not NAME) (flat_k k)
  case_nameless (ok_case v b) = each_append (each_append (nameless v refl) (each_next refl (block_nameless b))) (each_next refl each_none)

  cases-nameless : {d : ℕ} {ks : Cases Range} → OkC d ks → Each (Not NAME) (flat_c ks)
  cases-nameless ok_nomore = each_none
  cases-nameless (ok_also k ks) = each_append (case_nameless k) (cases-nameless ks)

pub record Nameless (F : Function) : Type 0 where
  pub rows : (e : ℕ) → names_in (get_or F.exprs e []) ≡ []
  pub body : names_in (flat_b F.body) ≡ []

pub row_any : {P : Cells → Type 0} {rs : List Cells} → P [] → Each P rs → (n : ℕ) → P (get_or rs n [])
row_any z each_none n = z
row_any z (each_next p ps) zero = p
row_any z (each_next p ps) (suc n) = row_any z ps n

pub well_nameless : {F : Function} → WellFunction F → Nameless F
unfolding counted
well_nameless w = record {
  rows = λ e. no_names (row_any {P = λ r. Each (Not NAME) r} each_none (each_map (λ r l. expression_not NAME refl refl l) w.exprs_ok.each) e);
  body = no_names (block_nameless w.body_ok);
}

-- ---- one function, with a way to follow calls
module _ (m : Module) (o : ℕ) (plain : (k : ℕ) → refs (rec_at (tables m) names k) ≡ []) (low : (t : Tab) (n k : ℕ) → Mem k (names_in (rec_at (tables m) t n)) → k < count (tables m) names) where
  abbrev T : Tables
  T = tables m

  abbrev Follows : (ℕ → Derived → Derived) → Type 1
  Follows fol = (L J : ℕ → Type 0) (f : ℕ) (s : Derived) → Shown T L J s → Shown T L J (fol f s)

  module _ (fol : ℕ → Derived → Derived) (fk : Follows fol) (F : Function) (fine : within (inside (outside m) F) (flat F) ≡ true) (bare : Nameless F) (L J : ℕ → Type 0) (s : Derived) (v : Shown T L J s) where
    abbrev decls : Cells
    decls = declarations o m fol F

    abbrev d : Builder
    d = declared o m fol F s

    abbrev w : Builder
    w = walked o m fol F d

    abbrev kept : List (ℕ × ℕ)
    kept = kept_names o m fol F w

    abbrev f : Function
    f = localized o m fol F s

    -- the declarations
    after-declared : Shown T (Or L (Bears decls)) J d.out
    after-declared =
        Walked.declared-kept m o (Allowed (Or L (Bears decls))) (Shown T (Or L (Bears decls)) J) (λ t n x a. import_shown o T plain low _ J t n x a) fol (λ g x a. fk _ J g x) F
        (λ e. refs-nameless _ _ (bare.rows e)) (mores_allowed (λ n. inr) (refs decls) (refs_names decls)) s (more_waits (names_low T decls (decls_in m o fol F fine)) v)

    -- their names are in the derived declarations
    abbrev Declared : ℕ → Type 0
    Declared j = Mem j (names_in (carry_cells (through (mapped_to m d)) decls))

    declared_there : (n j : ℕ) → Bears decls n → map_at d.out.maps names n ≡ suc j → Declared j
    unfolding mapped_to
    declared_there n j b e = carry_names (mapped_to m d) decls b e

    declared-held : Shown T L (Or J Declared) d.out
    declared-held = waits_held declared_there after-declared

    -- the body imports no name
    after-walked : Shown T L (Or J Declared) w.out
    after-walked =
        Walked.walked-kept m o (Allowed L) (Shown T L (Or J Declared)) (λ t n x a. import_shown o T plain low L (Or J Declared) t n x a) fol (λ g x a. fk L (Or J Declared) g x) F
        (λ e. refs-nameless L _ (bare.rows e)) (refs-nameless L _ bare.body) d declared-held

    -- the names of the expressions that stay
    after-named : Shown T (Or L (Bears (name_cells kept))) (Or J Declared) (final o m fol F s).out
    unfolding final
    after-named =
        Walked.named-kept m o (Allowed (Or L (Bears (name_cells kept)))) (Shown T (Or L (Bears (name_cells kept))) (Or J Declared)) (λ t n x a. import_shown o T plain low _ (Or J Declared) t n x a) fol (λ g x a. fk _ (Or J Declared) g x) F
        (λ e. refs-nameless _ _ (bare.rows e)) w (mores_allowed (λ n. inr) (refs (name_cells kept)) (refs_names (name_cells kept))) (more_waits (names_low T (name_cells kept) (named_in m o fol F fine w)) after-walked)

    -- ALL THESE NAMES are in the derived function
    abbrev InF : ℕ → Type 0
    InF j = Mem j (names_in (flat f))

    heads_in : (j : ℕ) → Declared j → InF j
    unfolding declarations localized derived
    heads_in j h =
        let g = through (mapped_to m d) in
        let a : Cells = F.head in
        let b : Cells = flat_all F.arguments in
        let c : Cells = F.result in
        let e : Cells = flat_all F.locals in
        ⊎_elim
        (λ k₁. ⊎_elim
        (λ k₂. ⊎_elim (λ k₃. in_head f (rw (row_names o m d a) k₃)) (λ k₃. in_arguments f (rows_names o m d F.arguments k₃)) (split_names (carry_cells g a) (carry_cells g b) (rw (map-append g a b) at k₂)))
        (λ k₂. in_result f (rw (row_names o m d c) k₂)) (split_names (carry_cells g (a ++ b)) (carry_cells g c) (rw (map-append g (a ++ b) c) at k₁)))
        (λ k₁. in_locals f (rows_names o m d F.locals k₁)) (split_names (carry_cells g (a ++ b ++ c)) (carry_cells g e) (rw (map-append g (a ++ b ++ c) e) at h))

    same_kept : kept_names o m fol F (final o m fol F s) ≡ kept
    unfolding kept_names final named_after
    same_kept = rw (named_memo o m fol (plain' o m fol F.exprs) (kept_names o m fol F w) w)

    names_in_lem : (n j : ℕ) → Bears (name_cells kept) n → map_at (final o m fol F s).out.maps names n ≡ suc j → InF j
    unfolding localized derived mapped_to
    names_in_lem n j b e = in_named f (rw same_kept (named_names (mapped_to m (final o m fol F s)) kept b e))

    pub function-held : Shown T L (Or J InF) (final o m fol F s).out
    function-held = held-map (λ j. ⊎_elim (⊎_elim inl (λ h. inr (heads_in j h))) inr) (waits_held names_in_lem after-named)

  -- ---- a function more
  old_functions : {j : ℕ} (fs : List Function) (f : Function) → Mem j (names_in (flat_all (map flat fs))) → Mem j (names_in (flat_all (map flat (fs ++ (f ∷ [])))))
  unfolding flat_all
  old_functions [] f h = without h
  old_functions (g ∷ fs) f h = ⊎_elim (left_names (flat g) _) (λ k. right_names (flat g) _ (old_functions fs f k)) (split_names (flat g) _ h)

  new-function : {j : ℕ} (fs : List Function) (f : Function) → Mem j (names_in (flat f)) → Mem j (names_in (flat_all (map flat (fs ++ (f ∷ [])))))
  unfolding flat_all
  new-function [] f h = left_names (flat f) [] h
  new-function (g ∷ fs) f h = right_names (flat g) _ (new-function fs f h)

  appended-shown : (L J : ℕ → Type 0) (f : Function) (x : Derived) → Shown T L (Or J (λ j. Mem j (names_in (flat f)))) x → Shown T L J (appended f x)
  unfolding appended
  appended-shown L J f x v = record { room = v.room; range = v.range; all = λ j l. go j (v.all j l) }
    where
      go : (j : ℕ) → Where L (Or J (λ j. Mem j (names_in (flat f)))) x j → Where L J (appended f x) j
      go j (appears (in_table t q m)) = appears (in_table t q m)
      go j (appears (in_function_lem m)) = appears (in_function_lem (old_functions x.functions f m))
      go j (waits n l e) = waits n l e
      go j (held (inl h)) = held h
      go j (held (inr h)) = appears (in_function_lem (new-function x.functions f h))

  -- ---- functions, and the calls that they make
  module _ (fine : (n : ℕ) → within (inside (outside m) (function_at m n)) (flat (function_at m n)) ≡ true) (bare : (n : ℕ) → Nameless (function_at m n)) where
    append-shown : (fol : ℕ → Derived → Derived) → Follows fol → (L J : ℕ → Type 0) (n : ℕ) (s : Derived) → Shown T L J s → Shown T L J (append o m fol n s)
    unfolding append
    append-shown fol fk L J n s v = appended-shown L J (localized o m fol (function_at m n) s) _ (function-held fol fk (function_at m n) (fine n) (bare n) L J s v)

    depth_shown : (d : ℕ) → Follows (follow_f d o m)
    unfolding follow_f
    depth_shown zero L J n s v = v
    depth_shown (suc d) L J n s v = once_is o T (Shown T L J) (known m s n) _ s (λ e. append-shown (follow_f d o m) (depth_shown d) L J n s v) (λ h. v)

    pub follow-shown : Follows (follow o m)
    unfolding follow
    follow-shown L J n s v = depth_shown (length m.functions) L J n s v

    -- AN IMPORT OF A FUNCTION
    pub function-shown : (L J : ℕ → Type 0) (n : ℕ) (s : Derived) → Shown T L J s → Shown T L J (append o m (follow o m) n s)
    function-shown L J n s v = append-shown (follow o m) follow-shown L J n s v

    -- ---- entry points
    abbrev At : Entry → Derived → ℕ → Type 0
    At e s j = Mem j (names_in (flat_entry (entry_made o m e s)))

    module _ (e : Entry) (fit : within (inside (outside m) e.function) (e.head ++ flat e.function) ≡ true) (bareE : Nameless e.function) (L J : ℕ → Type 0) (s : Derived) (v : Shown T L J s) where
      abbrev F : Function
      F = e.function

      abbrev In : ℕ → Type 0
      In j = Mem j (names_in (flat (localized o m (follow o m) F s)))

      abbrev HeadAt : ℕ → Type 0
      HeadAt j = Mem j (names_in (carried o m (entered o m e s) e.head))

      two : (within (inside (outside m) F) e.head ≡ true) × (within (inside (outside m) F) (flat F) ≡ true)
      two = within-append (inside (outside m) F) e.head (flat F) fit

      after_head : Shown T (Or L (Bears e.head)) (Or J In) (entered o m e s).out
      unfolding entered
      after_head =
          Walked.each_kept m o (Allowed (Or L (Bears e.head))) (Shown T (Or L (Bears e.head)) (Or J In)) (λ t n x a. import_shown o T plain low _ (Or J In) t n x a) (follow o m) (λ g x a. follow-shown _ (Or J In) g x)
          (λ x y. y) (λ k x h. h) (refs e.head) (mores_allowed (λ n. inr) (refs e.head) (refs_names e.head)) (final o m (follow o m) F s)
          (more_waits (names_low T e.head (cells_in m F e.head two.0)) (function-held (follow o m) follow-shown F two.1 bareE L J s v))

      head_at : (n j : ℕ) → Bears e.head n → map_at (entered o m e s).out.maps names n ≡ suc j → HeadAt j
      unfolding mapped_to
      head_at n j b q = rw (row_names o m (entered o m e s) e.head) (carry_names (mapped_to m (entered o m e s)) e.head b q)

      entry-held : Shown T L (Or J (At e s)) (entered o m e s).out
      unfolding entry_made flat_entry
      entry-held = held-map (λ j. ⊎_elim (⊎_elim inl (λ h. inr (right_names (carried o m (entered o m e s) e.head) _ h))) (λ h. inr (left_names (carried o m (entered o m e s) e.head) _ h))) (waits_held head_at after_head)

    abbrev pub Ats : List Entry → Derived → ℕ → Type 0
    Ats es s j = Mem j (names_in (flat_all (map flat_entry (entries_made es o m s))))

    pub data FitEntries : List Entry → Type 0 where
      no_more : FitEntries []
      one_more : {e : Entry} {es : List Entry} → within (inside (outside m) e.function) (e.head ++ flat e.function) ≡ true → Nameless e.function → FitEntries es → FitEntries (e ∷ es)

    -- THE ENTRY POINTS at the end
    pub entries_shown : {es : List Entry} → FitEntries es → (L J : ℕ → Type 0) (s : Derived) → Shown T L J s → Shown T L (Or J (Ats es s)) (enter_all es o m s)
    unfolding enter_all entries_made flat_all
    entries_shown no_more L J s v = held-map (λ j. inl) v
    entries_shown (one_more {e} {es} f b fs) L J s v =
        held-map (λ j. ⊎_elim (⊎_elim inl (λ h. inr (left_names (flat_entry (entry_made o m e s)) _ h))) (λ h. inr (right_names (flat_entry (entry_made o m e s)) _ h)))
        (entries_shown fs L (Or J (At e s)) (entered o m e s).out (entry-held e f b L J s v))
