-- The theorems on redirecting, each with its statement in full. They are about the definition alone; that the code is the definition is the contract of `redirect_words`.
use mathlib.Core.Path.{◌≡◌, refl, sym, ap, ap₂, ◌∙◌}
use mathlib.Core.Bool.{Bool, true, false, ◌&&◌}
use mathlib.Core.Option.{Option, none, some}
use mathlib.Core.List.{List, [], ◌∷◌}
use Prim.Native.Nat.{ℕ, zero, suc, ◌+◌, ◌*◌, ◌<◌}
use native.Mathlib.Omega.{arith}
use lib.Dec.{eqb, leb}
use lib.ListN.{length, get_elem?}
use Rattle.model.specs.Outcome.{laid}
use Rattle.model.specs.Tree.{Function, flat}
use Rattle.model.specs.Module.{Module, read, flat_module, write, sized}
use Rattle.model.specs.Carry.{carry_cells, WellFunction, WellFormed}
use Rattle.model.specs.Intake.{tested, verdict, intake_of, Passes}
use Rattle.model.specs.Walk.{walk}
use Rattle.model.specs.Redirect.{name_word, find, all_below, argument_types, agree, result_type, same, redirecting, redirect_fn, stays, redirect_fns, with_functions, with_entries, redirect, redirected, outside, no_replacement, arguments_differ, results_differ, function, compared, with_replacement, with_original, redirect_function}
use Rattle.theory_image.specs.Carries.{flat_carry_function}
use Rattle.theory_image.specs.Modules.{write_read}
use Rattle.theory_image.specs.Views.{length-write, view_edition, view_total}
use Rattle.redirect_words.specs.Claims.{Differs}
use Rattle.model.specs.Image.{redirect_ended}
use Rattle.redirect_calls.specs.Turns.{turned}
use Rattle.redirect_calls.proofs.Turning.{redirecting_keeps}
use Rattle.redirect_words.proofs.Finding.{find_in}
use Rattle.redirect_words.proofs.Ending.{answered}
use Rattle.redirect_words.proofs.Differing.{differs_long, redirect_differs, redirect_well, redirect-none, redirect-itself}
use Rattle.redirect_words.proofs.Kept.{redirect-lower, redirect-named}
use Rattle.redirect_words.proofs.Scoping.{redirect_scope}
use Rattle.redirect_words.proofs.Numbering.{redirect-numbered}

-- ---- nothing but those words differs
-- Cell by cell the redirected module is the module, but for Calls and CallResults of the original, which are those of the replacement.
pub nothing_else : (m : Module) (a b : ℕ) (omit : List ℕ) → Differs a b (flat_module m) (flat_module (redirect m a b omit))
nothing_else m a b omit = redirect_differs a b m omit

looked : (a b : ℕ) (omit : List ℕ) (fs : List Function) (i k j : ℕ) {f : Function} → i + k ≡ j → get_elem? fs k ≡ some f → get_elem? (redirect_fns fs i a b omit) k ≡ some (turned a b omit j f)
unfolding redirect_fns turned
looked a b omit [] i k j q e = let z : ◌≡◌ {A = ℕ} 0 1 = cc in absurd (omega arith)
looked a b omit (g ∷ fs) i zero j {f} q e =
    let x : i ≡ j = omega arith in
    let y : g ≡ f = cc in
    ap₂ (λ k h. some (turned a b omit k h)) x y
looked a b omit (g ∷ fs) i (suc k) j q e = looked a b omit fs (suc i) k j (omega arith) e

-- Exactly: function j is redirected unless it stays, and its cells are then the cells rewritten by class.
pub function_is : (m : Module) (a b : ℕ) (omit : List ℕ) (j : ℕ) (f : Function) → get_elem? m.functions j ≡ some f → get_elem? (redirect m a b omit).functions j ≡ some (turned a b omit j f)
unfolding redirect with_functions with_entries
function_is m a b omit j f e = looked a b omit m.functions 0 j j (omega arith) e

pub cells_are : (a b : ℕ) (f : Function) → flat (redirect_fn a b f) ≡ carry_cells (redirecting a b) (flat f)
unfolding redirect_fn
cells_are a b f = flat_carry_function (redirecting a b) (redirecting_keeps a b) f

-- ---- a function redirected to itself
pub itself : (m : Module) (a : ℕ) (omit : List ℕ) → WellFormed m → redirect m a a omit ≡ m
itself = redirect-itself

-- ---- the redirected module is read again
pub well : (m : Module) (a b : ℕ) (omit : List ℕ) → WellFormed m → WellFormed (redirect m a b omit)
well m a b omit w = redirect_well a b m omit w

pub read_back : (m : Module) (a b : ℕ) (omit : List ℕ) → WellFormed m → read (write (redirect m a b omit)) ≡ laid (redirect m a b omit)
read_back m a b omit w = write_read (redirect m a b omit) (well m a b omit w)

pub as_long : (m : Module) (a b : ℕ) (omit : List ℕ) → length (write (redirect m a b omit)) ≡ length (write m)
as_long m a b omit = length-write (redirect m a b omit) ∙ differs_long a b (nothing_else m a b omit) ∙ sym (length-write m)

-- ---- it passes the tests of intake
-- Test 1: the same bytes, edition and total.
pub sizes : (m : Module) (a b : ℕ) (omit : List ℕ) (bytes : ℕ) → sized bytes (write (redirect m a b omit)) ≡ sized bytes (write m)
unfolding sized
sizes m a b omit bytes =
    ap₂ (λ x y. leb 80 bytes && (leb bytes 65536 && (eqb x 1 && eqb bytes (4 * y))))
    (view_edition (redirect m a b omit) ∙ sym (view_edition m))
    (view_total (redirect m a b omit) ∙ as_long m a b omit ∙ sym (view_total m))

-- Tests 3 to 6, where the replacement is a table function.
pub passes : (m : Module) (a b : ℕ) (omit : List ℕ) → b < length m.functions → WellFormed m → Passes m → Passes (redirect m a b omit)
passes m a b omit low w p =
    record {
      numbers = redirect-numbered m a b omit w low p.numbers;
      lowers = redirect-lower a b m omit ∙ p.lowers;
      names = redirect-named a b m omit ∙ p.names;
      scope = redirect_scope a b m omit p.scope;
    }

-- ---- an accepted redirecting
pub record Accepted (m : Module) (o p : ℕ) (omit : List ℕ) (a b : ℕ) (m' : Module) : Type 0 where
  pub original : find m.functions 0 o ≡ some a
  pub replacement : find m.functions 0 p ≡ some b
  pub module_is : m' ≡ redirect m a b omit

accept_compared : (m : Module) (omit : List ℕ) (i k a b : ℕ) (m' : Module) → compared m i k omit ≡ redirected a b m' → (i ≡ a) × (k ≡ b)
unfolding compared
accept_compared m omit i k a b m' e = go (agree (argument_types (function m i)) (argument_types (function m k))) (same (result_type (function m i)) (result_type (function m k))) e
  where
    go : (x y : Bool) → elim x [ true ↦ elim y [ true ↦ redirected i k (redirect m i k omit) | false ↦ results_differ ] | false ↦ arguments_differ ] ≡ redirected a b m' → (i ≡ a) × (k ≡ b)
    go true true q = (cc, cc)
    go true false q = let z : ◌≡◌ {A = ℕ} 0 1 = cc in absurd (omega arith)
    go false y q = let z : ◌≡◌ {A = ℕ} 0 1 = cc in absurd (omega arith)

accept_found : (m : Module) (o p : ℕ) (omit : List ℕ) (x y : Option ℕ) (a b : ℕ) (m' : Module) → find m.functions 0 o ≡ x → find m.functions 0 p ≡ y → with_original m p omit x ≡ redirected a b m' → (x ≡ some a) × (y ≡ some b)
unfolding with_original with_replacement
accept_found m o p omit none y a b m' u v e = let z : ◌≡◌ {A = ℕ} 0 1 = cc in absurd (omega arith)
accept_found m o p omit (some i) none a b m' u v e =
    let q : no_replacement ≡ redirected a b m' = rw (with_replacement, v) at e in
    let z : ◌≡◌ {A = ℕ} 0 1 = cc in
    absurd (omega arith)
accept_found m o p omit (some i) (some k) a b m' u v e =
    let q : compared m i k omit ≡ redirected a b m' = rw (with_replacement, v) at e in
    let r = accept_compared m omit i k a b m' q in
    (ap some r.0, ap some r.1)

pub accepted : (m : Module) (o p : ℕ) (omit : List ℕ) (a b : ℕ) (m' : Module) → redirect_function m o p omit ≡ redirected a b m' → Accepted m o p omit a b m'
unfolding redirect_function redirect_ended
accepted m o p omit a b m' e =
    let r = parts (all_below (o ∷ p ∷ omit) (length m.names)) e in
    let q : redirect_function m o p omit ≡ redirected a b (redirect m a b omit) = (answered m o p omit).done_is a b (ap redirect_ended e) in
    let s : redirected a b m' ≡ redirected a b (redirect m a b omit) = sym e ∙ q in
    record { original = r.0; replacement = r.1; module_is = cc }
  where
    parts : (x : Bool) → elim x [ true ↦ with_original m p omit (find m.functions 0 o) | false ↦ outside ] ≡ redirected a b m' → (find m.functions 0 o ≡ some a) × (find m.functions 0 p ≡ some b)
    parts true q = accept_found m o p omit (find m.functions 0 o) (find m.functions 0 p) a b m' refl refl q
    parts false q = let z : ◌≡◌ {A = ℕ} 0 1 = cc in absurd (omega arith)

-- THE REDIRECTED IMAGE PASSES INTAKE: where the module's image passed, so does the image of the one that redirecting gives.
pub redirected_well : (m : Module) (o p : ℕ) (omit : List ℕ) (a b : ℕ) (m' : Module) → redirect_function m o p omit ≡ redirected a b m' → WellFormed m → WellFormed m'
redirected_well m o p omit a b m' e w = let r = accepted m o p omit a b m' e in rw r.module_is (well m a b omit w)

pub redirected_passes : (m : Module) (o p : ℕ) (omit : List ℕ) (a b : ℕ) (m' : Module) → redirect_function m o p omit ≡ redirected a b m' → WellFormed m → Passes m → Passes m'
redirected_passes m o p omit a b m' e w q =
    let r = accepted m o p omit a b m' e in
    rw r.module_is (passes m a b omit (omega (arith, find_in m.functions 0 p b r.replacement)) w q)

pub redirected_intake : (m : Module) (o p : ℕ) (omit : List ℕ) (a b : ℕ) (m' : Module) → redirect_function m o p omit ≡ redirected a b m' → WellFormed m → Passes m → (bytes : ℕ) → sized bytes (write m) ≡ true → intake_of bytes (write m') ≡ 0
unfolding intake_of verdict tested
redirected_intake m o p omit a b m' e w q bytes h =
    let r = accepted m o p omit a b m' e in
    let t = redirected_passes m o p omit a b m' e w q in
    let z : sized bytes (write m') ≡ true = ap (λ x. sized bytes (write x)) r.module_is ∙ sizes m a b omit bytes ∙ h in
    rw (intake_of, z, write_read m' (redirected_well m o p omit a b m' e w), tested, t.numbers, t.lowers, t.names, t.scope)

-- A FUNCTION REDIRECTED TO ITSELF: nothing changes.
pub redirected_itself : (m : Module) (o : ℕ) (omit : List ℕ) (a b : ℕ) (m' : Module) → WellFormed m → redirect_function m o o omit ≡ redirected a b m' → m' ≡ m
redirected_itself m o omit a b m' w e =
    let r = accepted m o o omit a b m' e in
    let q : some a ≡ some b = sym r.original ∙ r.replacement in
    let x : b ≡ a = cc in
    r.module_is ∙ ap (λ k. redirect m a k omit) x ∙ itself m a omit w

-- ---- what the walk of an untouched function does stays
-- untouched: the replacement, an omitted function, or one whose cells name the original in no Call and no CallResult
pub data Untouched (a b : ℕ) (omit : List ℕ) (j : ℕ) (f : Function) : Type 0 where
  is_left : stays b omit j (name_word f) ≡ true → Untouched a b omit j f
  names_none : WellFunction f → carry_cells (redirecting a b) (flat f) ≡ flat f → Untouched a b omit j f

untouched_is : (a b : ℕ) (omit : List ℕ) (j : ℕ) (f : Function) → Untouched a b omit j f → turned a b omit j f ≡ f
unfolding turned
untouched_is a b omit j f (is_left e) = rw (turned, e)
untouched_is a b omit j f (names_none w e) = go (stays b omit j (name_word f))
  where
    go : (x : Bool) → elim x [ true ↦ f | false ↦ redirect_fn a b f ] ≡ f
    go true = refl
    go false = redirect-none a b f w e

pub untouched : (m : Module) (a b : ℕ) (omit : List ℕ) (j : ℕ) (f : Function) → get_elem? m.functions j ≡ some f → Untouched a b omit j f → get_elem? (redirect m a b omit).functions j ≡ some f
untouched m a b omit j f e u = function_is m a b omit j f e ∙ ap some (untouched_is a b omit j f u)

-- so by every list of numbers its walk in the redirected module is its walk in the module
pub walk-stays : (m : Module) (a b : ℕ) (omit : List ℕ) (j : ℕ) (f g : Function) → get_elem? m.functions j ≡ some f → Untouched a b omit j f → get_elem? (redirect m a b omit).functions j ≡ some g → (cs : List ℕ) → walk g cs ≡ walk f cs
walk-stays m a b omit j f g e u h cs =
    let p : some g ≡ some f = sym h ∙ untouched m a b omit j f e u in
    let q : g ≡ f = cc in
    ap (λ x. walk x cs) q
