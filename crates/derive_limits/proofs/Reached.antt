-- The theorems on what is defined in `specs/Reached.antt`.
use Rattle.std.specs.Prelude.{◌≡◌, false, List, [], ◌∷◌, ℕ, ◌<◌, length}
use Rattle.std.proofs.Common.{subst}
use Rattle.std.proofs.Math.Option.{Option, none, some}
use Rattle.model.specs.Module.{Module}
use Rattle.model.specs.Carry.{Each, each_none, each_next, WellFormed}
use Rattle.model.specs.Intake.{Passes}
use Rattle.model.specs.Callees.{callees}
use Rattle.model.specs.Redirect.{function}
use Rattle.model.specs.Tables.{Tab, names, types, is_t, tables, count}
use Rattle.model.specs.Imports.{Derived, import_t, renamed}
use Rattle.model.specs.Special.{sourced}
use Rattle.model.specs.Bodies.{append, follow}
use Rattle.model.specs.Session.{Source, Session, new, meets_ring}
use Rattle.theory_finish.specs.Shown.{Shown}
use Rattle.theory_finish.specs.ShownSource.{None, nowhere, source_sound, rename-shown, record_shown, call-shown, import_function_shown, sourced-shown}
use Rattle.theory_finish.specs.NamedSession.{NamedBy, Named, new-named, set-named, clear-named, span_named, import_named, rename-named, function-named, handle_named, finish-named, end-named}
use Rattle.theory_sessions.specs.Following.{Holds, from_next}
use Rattle.theory_sessions.specs.Holding.{import_next, rename-next, function-next, handle_from}
use Rattle.theory_sessions.specs.Operating.{Operation, sets, clears, spans, imports, renames, functions, handles, finishes, finishes_with, does, run, GoodBy, Good, new_good, set_good, does_good}
use Rattle.derive_limits.specs.Reached.{Public, Reached, At}

does-named : (p : Operation) → Public p → (s : Session) → Named s → Named (does p s)
unfolding does Public
does-named (sets bytes ws o) q s v = set-named s v bytes ws o
does-named clears q s v = clear-named s v
does-named (spans p) q s v = span_named s v p
does-named (imports t n) q s v = import_named s v t q n
does-named (renames n name) q s v = rename-named s v n name
does-named (functions n) q s v = function-named s v n
does-named (handles n) q s v = handle_named s v n
does-named (finishes room) q s v = finish-named s v room
does-named (finishes_with room) q s v = end-named s v room

-- AN OPERATION leads from one of them to another
pub does-reached : (p : Operation) → Public p → (s : Session) → Reached s → Reached (does p s)
does-reached p q s r = record { good = does_good p s r.good; named = does-named p q s r.named }

run-reached : {ps : List Operation} → Each Public ps → (s : Session) → Reached s → Reached (run ps s)
unfolding run
run-reached each_none s r = r
run-reached (each_next {a = p} q qs) s r = run-reached qs (does p s) (does-reached p q s r)

-- ANY SESSION of such operations
pub reached : {ps : List Operation} → Each Public ps → Reached (run ps new)
reached qs = run-reached qs new (record { good = new_good; named = new-named })

pub at_source : {s : Session} → Reached s → (x : Source) → s.source ≡ some x → At x s.state
unfolding Good GoodBy NamedBy
at_source {s} r x e = go s.source e r.good r.named
  where
    go : (y : Option Source) → y ≡ some x → GoodBy y s.state → NamedBy y s.state → At x s.state
    go y e g v = record { set = subst (λ (z : Option Source). GoodBy z s.state) e g; shown = (subst (λ (z : Option Source). NamedBy z s.state) e v).2 }

-- ---- what an operation makes of one
module _ {x : Source} {s : Derived} (a : At x s) where
  abbrev m : Module
  m = x.image

  abbrev o : ℕ
  o = x.offset

  next : (r : Derived) → Holds (tables m) r → Shown (tables m) None None r → At x r
  next r h v = record { set = record { well = a.set.well; passes = a.set.passes; holds = h }; shown = v }

  pub import_at : (t : Tab) → is_t t names ≡ false → (n : ℕ) → n < count (tables m) t → At x (import_t o (tables m) t n s)
  import_at t q n l = next _ (import_next m a.set.well a.set.passes o t n s l a.set.holds).holds (record_shown m a.set.well a.set.passes.numbers o None t n s q a.shown)

  pub rename-at : (n name : ℕ) → n < count (tables m) types → name < count (tables m) names → At x (import_t o (renamed (tables m) n name) types n s)
  rename-at n name l k = next _ (rename-next m a.set.well a.set.passes o n name s l k a.set.holds).holds (rename-shown (tables m) (source_sound m a.set.well a.set.passes.numbers) n name k o None None s a.shown)

  pub function-at : (n : ℕ) → n < length m.functions → meets_ring (n ∷ callees (function m n)) m s ≡ false → At x (append o m (follow o m) n s)
  function-at n l e = next _ (function-next m a.set.well a.set.passes o n s l e a.set.holds).holds (import_function_shown m a.set.well a.set.passes.numbers o None n s a.shown)

  pub handle_at : (n : ℕ) → n < length m.functions → meets_ring (n ∷ []) m s ≡ false → At x (follow o m n s)
  handle_at n l e = next _ (from_next (handle_from m a.set.well a.set.passes o n s l e a.set.holds)).holds (call-shown m a.set.well a.set.passes.numbers o None n s a.shown)

-- a source that is set, after whatever was before
pub sourced-at : {s : Session} → Reached s → (o : ℕ) (m : Module) → WellFormed m → Passes m → At (record { image = m; offset = o }) (sourced o m s.state)
unfolding Good GoodBy NamedBy
sourced-at {s} r o m w p = record { set = unfold Good GoodBy in set_good s r.good o m w p; shown = go s.source r.named }
  where
    go : (y : Option Source) → NamedBy y s.state → Shown (tables m) None None (sourced o m s.state)
    go none v = sourced-shown m w p.numbers o nowhere None s.state v
    go (some x) v = sourced-shown m w p.numbers o (tables x.image) None s.state v.2
