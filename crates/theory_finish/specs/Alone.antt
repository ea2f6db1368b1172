-- FOLLOW NEVER IMPORTS in output order: while function i is imported, every function that it calls is known, so that no other function is appended. A CallResult imports its function too: it has to name a function that i calls (of those that are imported, scope says so; here it is a premise on all of them).
use Rattle.std.specs.Prelude.{◌≡◌, refl, true, List, [], ◌∷◌, ◌++◌, ℕ, zero, suc, ◌<◌, eqb, length, get_or}
use Rattle.std.proofs.Common.{sym, ap, ◌∙◌, arith, eq-eqb}
use Rattle.std.proofs.Math.ListN.{get_elem?}
use Rattle.theory_lists.specs.Booleans.{and_split}
use Rattle.model.specs.Table.{ARGUMENTS, LOCALS, EXPRESSIONS}
use Rattle.model.specs.Tree.{Function, Entry, flat_all, flat_list, flat, flat_entry}
use Rattle.model.specs.Module.{Module}
use Rattle.model.specs.Carry.{Each, each_none, each_next, WellFunction, WellEntry, WellFormed}
use Rattle.model.specs.Numbers.{Bounds, bound, below as under, within, outside, inside, sound, sound_entry, numbered}
use Rattle.model.specs.Lower.{lower}
use Rattle.model.specs.Names.{named}
use Rattle.model.specs.Calls.{Call, In, here, later, ordered}
use Rattle.model.specs.Callees.{callees, callees_at, calls, order_of, CalleesKnown}
use Rattle.model.specs.Redirect.{nothing, function as function_at}
use Rattle.model.specs.Tables.{Tab, tables, count}
use Rattle.model.specs.References.{refs}
use Rattle.model.specs.Imports.{Derived, import_t}
use Rattle.model.specs.Special.{sourced}
use Rattle.model.specs.Bodies.{final, follow, entered}
use Rattle.model.specs.Link.{append_all}
use Rattle.theory_order.specs.Cells.{cells_function}
use Rattle.theory_order.specs.Numbered.{numbered-known, cells_below}
use Rattle.theory_order.specs.Lists.{in_any, in_right}
use Rattle.theory_image.specs.Writing.{flat_right}
use Rattle.theory_image.specs.Members.{each_at}
use Rattle.theory_image.specs.Within.{within-append, within-row}
use Rattle.theory_order.specs.Theorems.{each_once, times_in}
use Rattle.theory_records.specs.Functions.{cells_in}
use Rattle.theory_finish.specs.Ringless.{low}
use Rattle.theory_finish.specs.Sessions.{function_in_lem}
use Rattle.theory_finish.specs.Known.{Follows, follows_refl}
use Rattle.theory_finish.specs.Output.{follows_keeping, source_follows, all-follow, bears_kept, follow-idle, callees_idle_on, all_known}
use Rattle.theory_finish.specs.Counting.{type_functions}
use Rattle.theory_finish.specs.Called.{FunsOk, low_funs, each_kept, final-kept}

-- ---- the callees of function i are called by it
callees-at : (fs : List Function) (i : ℕ) → i < length fs → callees_at (get_elem? fs i) ≡ callees (get_or fs i nothing)
unfolding callees_at
callees-at [] i h = absurd (omega arith)
callees-at (f ∷ fs) zero h = refl
callees-at (f ∷ fs) (suc i) h = callees-at fs i (omega arith)

each_in : (js ks : List ℕ) → ((j : ℕ) → In j js → In j ks) → Each (λ j. In j ks) js
each_in [] ks h = each_none
each_in (j ∷ js) ks h = each_next (h j here) (each_in js ks λ x g. h x (later g))

each_two : {P Q R : ℕ → Type 0} {js : List ℕ} → ((j : ℕ) → P j → Q j → R j) → Each P js → Each Q js → Each R js
each_two f each_none each_none = each_none
each_two f (each_next {a = j} p ps) (each_next q qs) = each_next (f j p q) (each_two f ps qs)

is_called : (m : Module) (i j : ℕ) → i < length m.functions → In j (callees (function_at m i)) → calls m i j ≡ true
unfolding calls function_at
is_called m i j h g = rw (callees-at m.functions i h) (in_any (λ k. eqb j k) g (eq-eqb j j refl))

module _ (m : Module) (known : CalleesKnown m) where
  pub called : (i : ℕ) → i < length m.functions → Each (Call (length m.functions) (calls m) i) (callees (function_at m i))
  called i h = each_two (λ j l g. record { from = h; to = l; is = is_called m i j h g }) below (each_in (callees (function_at m i)) (callees (function_at m i)) λ j g. g)
    where
      below : Each (λ j. j < length m.functions) (callees (function_at m i))
      below = unfold function_at in each_at known i nothing h

expr_within : (b : Bounds) (f : Function) → within b (flat f) ≡ true → (x : ℕ) → within b (get_or f.exprs x []) ≡ true
unfolding flat_list within
expr_within b f h x =
    let a₀ = ap (within b) (sym (flat_right f)) ∙ h in
    let a₁ = (within-append b f.head _ a₀).1 in
    let a₂ = (within-append b (flat_list ARGUMENTS f.arguments) _ a₁).1 in
    let a₃ = (within-append b f.result _ a₂).1 in
    let a₄ = (within-append b (flat_list LOCALS f.locals) _ a₃).1 in
    let a₅ = (within-append b (flat_list EXPRESSIONS f.exprs) _ a₄).0 in
    within-row b f.exprs (and_split (under (bound b EXPRESSIONS) (length f.exprs)) (within b (flat_all f.exprs)) a₅).1 x

module _ (m : Module) (well : WellFormed m) (three : numbered m ≡ true) (four : lower m ≡ true) (five : named m ≡ true) (os : List ℕ) (e : order_of m ≡ ordered os) where
  -- ALONE
  pub alone : (s : Derived) (xs ys : List ℕ) (i : ℕ) → os ≡ xs ++ (i ∷ ys) → ((x : ℕ) → FunsOk (Call (length m.functions) (calls m) i) (refs (get_or (function_at m i).exprs x [])))
      → (final 0 m (follow 0 m) (function_at m i) (append_all xs 0 m (sourced 0 m s))).out.functions ≡ (append_all xs 0 m (sourced 0 m s)).functions
  alone s xs ys i q rows =
      (final-kept m 0 K ik (follow 0 m) (Call (length m.functions) (calls m) i) fk (function_at m i) (function_in_lem m three i) well_at rows (called m (numbered-known m well three) i l) a (start, refl)).1
    where
      a : Derived
      a = append_all xs 0 m (sourced 0 m s)

      l : i < length m.functions
      l = low m os e i (rw q (in_right xs here))

      well_at : WellFunction (function_at m i)
      well_at = unfold function_at in each_at well.functions_ok.each i nothing l

      start : Follows (tables m) a a
      start = follows_refl (all-follow m well three four 0 _ xs _ (source_follows m well three four five os e s))

      K : Derived → Type 0
      K r = Follows (tables m) a r × (r.functions ≡ a.functions)

      ik : (t : Tab) (n : ℕ) (r : Derived) → n < count (tables m) t → K r → K (import_t 0 (tables m) t n r)
      ik t n r h k = ((follows_keeping m well three four 0 a).imports t n r h k.0, type_functions 0 (tables m) t n r ∙ k.1)

      fk : (f : ℕ) (r : Derived) → Call (length m.functions) (calls m) i f → K r → K (follow 0 m f r)
      fk f r c k = rw (callees_idle_on m well three four five os e s r xs ys i f q c k.0) k

  -- ---- ENTRY POINTS: in the end every function is known

  pub all-idle : (s r : Derived) (j : ℕ) → j < length m.functions → Follows (tables m) (append_all os 0 m (sourced 0 m s)) r → follow 0 m j r ≡ r
  all-idle s r j h f =
      let g : In j os = times_in os j (omega (arith, each_once (length m.functions) (calls m) os (unfold order_of in e) j h)) in
      follow-idle m well three four 0 r j (bears_kept m well three four 0 j f (all_known m well three four five os e s j g)).found

  -- no function is appended by an entry point
  pub entry-alone : (s r : Derived) (p : Entry) → WellEntry p → sound_entry (outside m) p ≡ true → Follows (tables m) (append_all os 0 m (sourced 0 m s)) r → (entered 0 m p r).out.functions ≡ r.functions
  entry-alone s r p w q f = unfold entered in (each_kept m 0 K ik (follow 0 m) (λ j. j < b.functions) fk (λ x y. y) (λ x y z. z) (refs p.head) (cells_in m p.function p.head both.0) (low_funs b p.head both.0) _ body).1
    where
      b : Bounds
      b = inside (outside m) p.function

      both : (within b p.head ≡ true) × (within b (flat p.function) ≡ true)
      both = unfold sound flat_entry in within-append b p.head (flat p.function) (and_split (within b (p.head ++ flat p.function)) _ q).0

      K : Derived → Type 0
      K t = Follows (tables m) (append_all os 0 m (sourced 0 m s)) t × (t.functions ≡ r.functions)

      ik : (t : Tab) (n : ℕ) (u : Derived) → n < count (tables m) t → K u → K (import_t 0 (tables m) t n u)
      ik t n u h k = ((follows_keeping m well three four 0 _).imports t n u h k.0, type_functions 0 (tables m) t n u ∙ k.1)

      fk : (j : ℕ) (u : Derived) → j < b.functions → K u → K (follow 0 m j u)
      fk j u h k = let l : j < length m.functions = (unfold inside outside in h) in rw (all-idle s u j l k.0) k

      rows : (x : ℕ) → FunsOk (λ j. j < b.functions) (refs (get_or p.function.exprs x []))
      rows x = low_funs b (get_or p.function.exprs x []) (row x)
        where
          row : (x : ℕ) → within b (get_or p.function.exprs x []) ≡ true
          row x = expr_within b p.function both.1 x

      calls_low : Each (λ j. j < b.functions) (callees p.function)
      calls_low = rw (cells_function w.function-ok) at (cells_below b (flat p.function) both.1)

      body : K (final 0 m (follow 0 m) p.function r).out
      body = final-kept m 0 K ik (follow 0 m) (λ j. j < b.functions) fk p.function both.1 w.function-ok rows calls_low r (f, refl)
