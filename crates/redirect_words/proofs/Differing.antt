-- What redirecting leaves: well-formed modules, cells that differ in Calls and CallResults alone, and nothing at all where the original replaces itself.
use mathlib.Core.Path.{◌≡◌, refl, sym, ap, ap₂, ◌∙◌}
use mathlib.Core.Bool.{Bool, true, false, ◌||◌}
use mathlib.Core.List.{List, [], ◌∷◌, ◌++◌, map}
use Prim.Native.Nat.{ℕ, suc, ◌+◌}
use native.Mathlib.Omega.{arith}
use lib.Dec.{eqb}
use lib.ListN.{length, length-map}
use borrow.Author.Tests.{eqb-true}
use Rattle.model.specs.Outcome.{Cell, Cells, word, fits}
use Rattle.model.specs.Table.{PLACE, CALLEE, FUNCTION}
use Rattle.model.specs.Tree.{Function, Entry, flat, flat_entry, flat_all, function_at, entry_at}
use Rattle.model.specs.Module.{Module, places, flat_table, flat_module}
use Rattle.model.specs.Carry.{carry_cell, carry_cells, Each, each_none, each_next, WellFunction, WellEntry, WellFormed}
use Rattle.model.specs.Redirect.{name_word, redirecting, redirect_fn, redirect_entry, stays, redirect_fns, with_functions, with_entries, redirect}
use Rattle.theory_image.specs.Writing.{write-function, write-entry}
use Rattle.theory_image.specs.Carries.{flat_carry_function, flat_carry_entry, carry_well_function, carry_well_entry}
use Rattle.redirect_words.specs.Claims.{Differs, differs_none, differs_same, differs_call, differs_result}
use Rattle.redirect_calls.proofs.Turning.{redirecting_keeps, well_functions, well_entries}
use Rattle.redirect_calls.proofs.Contexts.{functions_before, functions_behind, functions_in_lem, entries_before, entries_behind, entries_in}

-- ---- a word of any other class stays
module _ (a b : ℕ) where
  pub by-class : {P : Type 0} (s w : ℕ) → (redirecting a b s w ≡ w → P) → (s ≡ CALLEE → P) → (s ≡ FUNCTION → P) → P
  unfolding redirecting
  by-class {P} s w f g h = go (eqb s CALLEE) (eqb s FUNCTION) refl refl
    where
      go : (x y : Bool) → eqb s CALLEE ≡ x → eqb s FUNCTION ≡ y → P
      go true y p q = g (eqb-true s CALLEE p)
      go false true p q = h (eqb-true s FUNCTION q)
      go false false p q = f (rw (redirecting, p, q))

  -- a Call or a CallResult: the original's, or another's
  pub by_word : {P : Type 0} (w : ℕ) → (w ≡ a → elim (eqb w a) [ true ↦ b | false ↦ w ] ≡ b → P) → (elim (eqb w a) [ true ↦ b | false ↦ w ] ≡ w → P) → P
  by_word {P} w f g = go (eqb w a) refl
    where
      go : (x : Bool) → eqb w a ≡ x → P
      go true e = f (eqb-true w a e) (rw e refl)
      go false e = g (rw e refl)

  pub differs_refl : (cs : Cells) → Differs a b cs cs
  differs_refl [] = differs_none
  differs_refl (c ∷ cs) = differs_same (differs_refl cs)

  pub differs_append : {cs ds es fs : Cells} → Differs a b cs ds → Differs a b es fs → Differs a b (cs ++ es) (ds ++ fs)
  differs_append differs_none q = q
  differs_append (differs_same p) q = differs_same (differs_append p q)
  differs_append (differs_call p) q = differs_call (differs_append p q)
  differs_append (differs_result p) q = differs_result (differs_append p q)

  pub differs_carry : (cs : Cells) → Differs a b cs (carry_cells (redirecting a b) cs)
  unfolding carry_cell redirecting
  differs_carry [] = differs_none
  differs_carry ((s, w) ∷ cs) =
      let r = differs_carry cs in
      by-class s w (λ e. rw e (differs_same r))
      (λ e. rw e (by_word w (λ p q. rw (q, p) (differs_call r)) λ q. rw q (differs_same r)))
      (λ e. rw e (by_word w (λ p q. rw (q, p) (differs_result r)) λ q. rw q (differs_same r)))

  pub differs_long : {cs ds : Cells} → Differs a b cs ds → length ds ≡ length cs
  differs_long differs_none = refl
  differs_long (differs_same p) = ap suc (differs_long p)
  differs_long (differs_call p) = ap suc (differs_long p)
  differs_long (differs_result p) = ap suc (differs_long p)

  -- ---- tables, record by record
  data Rows : List Cells → List Cells → Type 0 where
    rows_none : Rows [] []
    rows_next : {r s : Cells} {rs ss : List Cells} → Differs a b r s → Rows rs ss → Rows (r ∷ rs) (s ∷ ss)

  rows_long : {rs ss : List Cells} → Rows rs ss → length ss ≡ length rs
  rows_long rows_none = refl
  rows_long (rows_next p ps) = ap suc (rows_long ps)

  rows-places : {rs ss : List Cells} → Rows rs ss → (at : ℕ) → places at ss ≡ places at rs
  unfolding places
  rows-places rows_none at = refl
  rows-places (rows_next {r} {s} {rs} {ss} p ps) at = ap ((PLACE, at) ∷◌) (ap (λ n. places (at + n) ss) (differs_long p) ∙ rows-places ps (at + length r))

  rows-flat : {rs ss : List Cells} → Rows rs ss → Differs a b (flat_all rs) (flat_all ss)
  unfolding flat_all
  rows-flat rows_none = differs_none
  rows-flat (rows_next p ps) = differs_append p (rows-flat ps)

  rows-table : {rs ss : List Cells} → Rows rs ss → Differs a b (flat_table rs) (flat_table ss)
  unfolding flat_table
  rows-table {rs} {ss} p =
      let e : places (length ss) ss ≡ places (length rs) rs = ap (λ n. places n ss) (rows_long p) ∙ rows-places p (length rs) in
      rw e (differs_append (differs_refl (places (length rs) rs)) (rows-flat p))

  -- ---- functions and entry points
  pub fns_long : (fs : List Function) (j : ℕ) (omit : List ℕ) → length (redirect_fns fs j a b omit) ≡ length fs
  unfolding redirect_fns
  fns_long [] j omit = refl
  fns_long (f ∷ fs) j omit = ap suc (fns_long fs (suc j) omit)

  differs_fn : (x : Bool) (f : Function) → Differs a b (flat f) (flat (elim x [ true ↦ f | false ↦ redirect_fn a b f ]))
  unfolding redirect_fn
  differs_fn true f = differs_refl (flat f)
  differs_fn false f = rw (flat_carry_function (redirecting a b) (redirecting_keeps a b) f) (differs_carry (flat f))

  fns_rows : (fs : List Function) (j : ℕ) (omit : List ℕ) → Rows (map flat fs) (map flat (redirect_fns fs j a b omit))
  unfolding redirect_fns
  fns_rows [] j omit = rows_none
  fns_rows (f ∷ fs) j omit = rows_next (differs_fn (stays b omit j (name_word f)) f) (fns_rows fs (suc j) omit)

  entry-rows : (es : List Entry) → Rows (map flat_entry es) (map flat_entry (map (redirect_entry a b) es))
  unfolding redirect_entry
  entry-rows [] = rows_none
  entry-rows (e ∷ es) = rows_next {r = flat_entry e} {s = flat_entry (redirect_entry a b e)} (rw (flat_carry_entry (redirecting a b) (redirecting_keeps a b) e) (differs_carry (flat_entry e))) (entry-rows es)

  differs_functions : (m : Module) (omit : List ℕ) → Differs a b (flat_module m) (flat_module (with_functions m (redirect_fns m.functions 0 a b omit)))
  unfolding with_functions
  differs_functions m omit =
      let p = rows-table (fns_rows m.functions 0 omit) in
      let here : flat_module m ≡ functions_before m ++ (flat_table (map flat m.functions) ++ functions_behind m) = functions_in_lem m m.functions refl refl in
      let there = functions_in_lem m (redirect_fns m.functions 0 a b omit) (fns_long m.functions 0 omit) (differs_long p) in
      rw (here, there) (differs_append (differs_refl (functions_before m)) (differs_append p (differs_refl (functions_behind m))))

  -- a second step with the same two functions changes no more
  same_first : {c : Cell} {cs es : Cells} → Differs a b (c ∷ cs) es → (P : Cells → Type 0) → ((ds : Cells) → Differs a b cs ds → P (c ∷ ds)) → ((ds : Cells) → c ≡ (CALLEE, a) → Differs a b cs ds → P ((CALLEE, b) ∷ ds)) → ((ds : Cells) → c ≡ (FUNCTION, a) → Differs a b cs ds → P ((FUNCTION, b) ∷ ds)) → P es
  same_first (differs_same q) P f g h = f _ q
  same_first (differs_call q) P f g h = g _ refl q
  same_first (differs_result q) P f g h = h _ refl q

  pub differs_trans : {cs ds es : Cells} → Differs a b cs ds → Differs a b ds es → Differs a b cs es
  differs_trans differs_none q = q
  differs_trans (differs_same {c} {cs} p) q =
      same_first q (λ es. Differs a b (c ∷ cs) es) (λ es r. differs_same (differs_trans p r)) (λ es e r. rw e (differs_call (differs_trans p r))) λ es e r. rw e (differs_result (differs_trans p r))
  differs_trans (differs_call {cs} p) q =
      same_first q (λ es. Differs a b ((CALLEE, a) ∷ cs) es) (λ es r. differs_call (differs_trans p r)) (λ es e r. differs_call (differs_trans p r)) λ es e r. let z = ap (λ (c : Cell). c.0) e in absurd (omega arith)
  differs_trans (differs_result {cs} p) q =
      same_first q (λ es. Differs a b ((FUNCTION, a) ∷ cs) es) (λ es r. differs_result (differs_trans p r)) (λ es e r. let z = ap (λ (c : Cell). c.0) e in absurd (omega arith)) λ es e r. differs_result (differs_trans p r)

  differs_entries : (m : Module) → Differs a b (flat_module m) (flat_module (with_entries m (map (redirect_entry a b) m.entries)))
  unfolding with_entries
  differs_entries m =
      let p = rows-table (entry-rows m.entries) in
      let here : flat_module m ≡ entries_before m ++ (flat_table (map flat_entry m.entries) ++ entries_behind m) = entries_in m m.entries refl refl in
      let there = entries_in m (map (redirect_entry a b) m.entries) (length-map m.entries (redirect_entry a b)) (differs_long p) in
      rw (here, there) (differs_append (differs_refl (entries_before m)) (differs_append p (differs_refl (entries_behind m))))

  -- LAW: nothing but those words differs
  pub redirect_differs : (m : Module) (omit : List ℕ) → Differs a b (flat_module m) (flat_module (redirect m a b omit))
  unfolding redirect with_functions
  redirect_differs m omit = differs_trans (differs_functions m omit) (differs_entries (with_functions m (redirect_fns m.functions 0 a b omit)))

  -- ---- well formed
  well_fn : (x : Bool) (f : Function) → WellFunction f → WellFunction (elim x [ true ↦ f | false ↦ redirect_fn a b f ])
  unfolding redirect_fn
  well_fn true f w = w
  well_fn false f w = carry_well_function (redirecting a b) (redirecting_keeps a b) f w

  well_fns : {fs : List Function} → Each WellFunction fs → (j : ℕ) (omit : List ℕ) → Each WellFunction (redirect_fns fs j a b omit)
  unfolding redirect_fns
  well_fns each_none j omit = each_none
  well_fns (each_next {a = f} w ws) j omit = each_next (well_fn (stays b omit j (name_word f)) f w) (well_fns ws (suc j) omit)

  well_points : {es : List Entry} → Each WellEntry es → Each WellEntry (map (redirect_entry a b) es)
  unfolding redirect_entry
  well_points each_none = each_none
  well_points (each_next {a = e} w ws) = each_next (carry_well_entry (redirecting a b) (redirecting_keeps a b) e w) (well_points ws)

  pub redirect_well : (m : Module) (omit : List ℕ) → WellFormed m → WellFormed (redirect m a b omit)
  unfolding redirect with_functions
  redirect_well m omit w =
      let v = well_functions m w (redirect_fns m.functions 0 a b omit) (fns_long m.functions 0 omit) (well_fns w.functions_ok.each 0 omit) in
      well_entries (with_functions m (redirect_fns m.functions 0 a b omit)) v (map (redirect_entry a b) m.entries) (length-map m.entries (redirect_entry a b)) (well_points w.entries_ok.each)

-- ---- functions of the same cells are the same
pub flat-same : {f g : Function} → WellFunction f → WellFunction g → flat f ≡ flat g → f ≡ g
flat-same {f} {g} u v e =
    let p : fits f [] ≡ fits g [] = sym (write-function f u []) ∙ ap (λ c. function_at (map word c ++ [])) e ∙ write-function g v [] in
    cc

pub entry-same : {f g : Entry} → WellEntry f → WellEntry g → flat_entry f ≡ flat_entry g → f ≡ g
entry-same {f} {g} u v e =
    let p : fits f [] ≡ fits g [] = sym (write-entry f u []) ∙ ap (λ c. entry_at (map word c ++ [])) e ∙ write-entry g v [] in
    cc

-- LAW: a function none of whose cells names the original in a Call or a CallResult stays
pub redirect-none : (a b : ℕ) (f : Function) → WellFunction f → carry_cells (redirecting a b) (flat f) ≡ flat f → redirect_fn a b f ≡ f
unfolding redirect_fn
redirect-none a b f w e =
    flat-same (carry_well_function (redirecting a b) (redirecting_keeps a b) f w) w (flat_carry_function (redirecting a b) (redirecting_keeps a b) f ∙ e)

-- ---- the original replaced by itself
itself-word : (a s w : ℕ) → redirecting a a s w ≡ w
unfolding redirecting
itself-word a s w = go (eqb s CALLEE || eqb s FUNCTION) refl (eqb w a) refl
  where
    go : (x : Bool) → eqb s CALLEE || eqb s FUNCTION ≡ x → (y : Bool) → eqb w a ≡ y → redirecting a a s w ≡ w
    go true p true q = rw (redirecting, p, q) (sym (eqb-true w a q))
    go true p false q = rw (redirecting, p, q)
    go false p y q = rw (redirecting, p)

itself_cells : (a : ℕ) (cs : Cells) → carry_cells (redirecting a a) cs ≡ cs
unfolding carry_cell
itself_cells a [] = refl
itself_cells a ((s, w) ∷ cs) = ap₂ (λ x l. (s, x) ∷ l) (itself-word a s w) (itself_cells a cs)

itself_fn : (a : ℕ) (x : Bool) (f : Function) → WellFunction f → elim x [ true ↦ f | false ↦ redirect_fn a a f ] ≡ f
itself_fn a true f w = refl
itself_fn a false f w = redirect-none a a f w (itself_cells a (flat f))

itself_fns : (a : ℕ) {fs : List Function} → Each WellFunction fs → (j : ℕ) (omit : List ℕ) → redirect_fns fs j a a omit ≡ fs
unfolding redirect_fns
itself_fns a each_none j omit = refl
itself_fns a (each_next {a = f} w ws) j omit = ap₂ ◌∷◌ (itself_fn a (stays a omit j (name_word f)) f w) (itself_fns a ws (suc j) omit)

itself_entries : (a : ℕ) {es : List Entry} → Each WellEntry es → map (redirect_entry a a) es ≡ es
unfolding redirect_entry
itself_entries a each_none = refl
itself_entries a (each_next {a = e} w ws) =
    ap₂ ◌∷◌ (entry-same (carry_well_entry (redirecting a a) (redirecting_keeps a a) e w) w (flat_carry_entry (redirecting a a) (redirecting_keeps a a) e ∙ itself_cells a (flat_entry e))) (itself_entries a ws)

-- LAW
pub redirect-itself : (m : Module) (a : ℕ) (omit : List ℕ) → WellFormed m → redirect m a a omit ≡ m
unfolding redirect with_functions with_entries
redirect-itself m a omit w = ap₂ (λ fs es. with_entries (with_functions m fs) es) (itself_fns a w.functions_ok.each 0 omit) (itself_entries a w.entries_ok.each)
