-- The theorems on sessions, each with its statement in full. A session is any list of operations from the start (`run`), whatever is answered or refused; its sources are images that passed intake, since others are refused when they are set.
use Rattle.std.specs.Prelude.{◌≡◌, ◌⊎◌, true, false, List, [], ◌∷◌, ◌++◌, ℕ, ◌<◌, ◌≤◌, length, get_or}
use Rattle.std.proofs.Common.{subst}
use Rattle.std.proofs.Math.Option.{Option, some}
use Rattle.model.specs.Tree.{Function}
use Rattle.model.specs.Module.{Module}
use Rattle.model.specs.Names.{distinct, function_names, named}
use Rattle.model.specs.Callees.{callees}
use Rattle.model.specs.Redirect.{function}
use Rattle.model.specs.Imports.{Derived, unless_mapped, import_t, renamed}
use Rattle.model.specs.Bodies.{known, append, follow_f, follow, mapped_to, enter_all}
use Rattle.model.specs.Finish.{finished}
use Rattle.model.specs.Session.{Source, Session, Answer, answered, refused, after, new, meets_ring, set, importing, rename_type, import_function, map_function_handle, has_required_special_types, finish, callees_of, with_entries, finish_with_entry_points}
use Rattle.model.specs.References as References
use Rattle.model.specs.Walk.{walk}
use Rattle.theory_walks.specs.Agreement.{Carries}
use Rattle.theory_walks.specs.Events.{Along}
use Rattle.theory_records.specs.Trace.{Keeps}
use Rattle.theory_records.specs.Theorems.{Distinct, Base, Sound}
use Rattle.theory_bodies.specs.Function.{maps_of}
use Rattle.theory_bodies.specs.Inv.{place}
use Rattle.theory_bodies.specs.Lawful as Lawful
use Rattle.model.specs.Carry.{each_none, WellFormed}
use Rattle.model.specs.Intake.{Passes}
use Rattle.model.specs.Tables.{Tab, types, tables}
use Rattle.model.specs.Special.{sourced}
use Rattle.theory_sessions.specs.Height.{Low, unknowns}
use Rattle.theory_sessions.specs.Following.{Origin, From}
use Rattle.theory_sessions.specs.Following as Following
use Rattle.theory_sessions.specs.Holding as Holding
use Rattle.theory_sessions.specs.Depth as Depth
use Rattle.theory_sessions.specs.Ending.{Written, Origins}
use Rattle.theory_sessions.specs.Ending as Ending
use Rattle.theory_sessions.specs.Operating.{Operation, does, run, Set, GoodBy, Good, Newly}
use Rattle.theory_sessions.specs.Operating as Operating
use Rattle.theory_sessions.proofs.Operating as OperatingProved
use Rattle.theory_sessions.specs.Growing.{Grew, ends, turns}
use Rattle.theory_sessions.specs.Growing as Growing
use Rattle.theory_sessions.specs.Mapped.{taken, all_renamed, Stays, But}
use Rattle.theory_sessions.proofs.Mapped as Mapped
use Rattle.theory_sessions.specs.Untaken as Untaken
use Rattle.theory_sessions.specs.Answers.{Gives, Appends, Bears}
use Rattle.theory_sessions.specs.Answers as Answers

-- ---- ANY SESSION
-- what a session's state holds, at every state
pub every-state : (ps : List Operation) → Good (run ps new)
every-state ps = Operating.run_good ps new Operating.new_good

-- the source that is set passed intake
pub source-set : (s : Session) → Good s → (x : Source) → s.source ≡ some x → Set x s.state
unfolding Good GoodBy
source-set s g x e = by-source s.source e g
  where
    by-source : (y : Option Source) → y ≡ some x → GoodBy y s.state → Set x s.state
    by-source y e h = subst (λ (z : Option Source). GoodBy z s.state) e h

-- ---- 1. CALLS ARE FOLLOWED, whatever is known, where 22 is not met
-- `follow` does what the import of a body requires of it, for all functions that have heights
pub followed : (x : Source) (s : Derived) → Set x s → Lawful.Follows x.offset x.image (follow x.offset x.image) (λ j. Low (unknowns x.image s) x.image s j) (From x.image s)
followed x s k = Holding.follow_follows x.image k.well k.passes x.offset s

-- the bound on nesting does not matter: each that is no less than the number of unknown names does the same
pub fuel_removed : (x : Source) (s : Derived) → Set x s → (n : ℕ) → n < length x.image.functions → meets_ring (n ∷ []) x.image s ≡ false → (k : ℕ) → unknowns x.image s ≤ k
    → follow_f k x.offset x.image n s ≡ follow x.offset x.image n s
fuel_removed x s k n l e = Depth.fuel_removed x.image k.well k.passes x.offset s k.holds n l e

-- and so it is with import_function
pub function_fuel : (x : Source) (s : Derived) → Set x s → (n : ℕ) → n < length x.image.functions → meets_ring (n ∷ callees (function x.image n)) x.image s ≡ false → (k : ℕ) → unknowns x.image s ≤ k
    → append x.offset x.image (follow_f k x.offset x.image) n s ≡ append x.offset x.image (follow x.offset x.image) n s
function_fuel x s k n l e = Depth.function_fuel x.image k.well k.passes x.offset s k.holds n l e

-- the equation without it
pub follow_is : (x : Source) (s : Derived) → Set x s → (n : ℕ) → n < length x.image.functions → meets_ring (n ∷ []) x.image s ≡ false
    → follow x.offset x.image n s ≡ unless_mapped (known x.image s n) (λ z. append x.offset x.image (follow x.offset x.image) n s) s
follow_is x s k n l e = Depth.follow_is x.image k.well k.passes x.offset s k.holds n l e

-- ---- 2. WHAT IS WRITTEN is read back and passes tests 1 to 4 and 6, and 5 unless two functions have one name (`Written`)
pub written : (ps : List Operation) (room : ℕ) (ws : List ℕ) (r : Session) → finish room (run ps new) ≡ answered ws r → Written (finished (run ps new).state []) ws
written ps = OperatingProved.finish-written (run ps new) (every-state ps)

pub written-with : (s : Session) → Good s → (x : Source) → s.source ≡ some x → (room : ℕ) (ws : List ℕ) (r : Session) → finish_with_entry_points room s ≡ answered ws r → Written (with_entries x s.state) ws
unfolding finish_with_entry_points
written-with s g x e room ws r h = OperatingProved.finish_with_written x s.state (source-set s g x e) room ws r (unfold finish_with_entry_points in rw e at h)

-- the functions' names are distinct in it exactly if they are in the state
pub names_twice : (s : Session) → Good s → distinct (function_names (finished s.state []).functions) ≡ distinct (function_names s.state.functions)
unfolding Good
names_twice s g = Ending.names_finished (Operating.good_holds s.source s.state g).1 each_none

-- each of its functions comes from one of a source that was set, and agrees with it through the maps as they were (`Origin`)
pub origins : (ps : List Operation) → Origins (run ps new).state (finished (run ps new).state [])
origins ps = Operating.finish_origins (run ps new) (every-state ps)

pub origins_with : (x : Source) (s : Derived) → Set x s → meets_ring (callees_of x.image.entries) x.image s ≡ false → Origins (enter_all x.image.entries x.offset x.image s) (with_entries x s)
origins_with = Operating.finish_with_origins

-- so its walks are that function's, carried
pub walks : {s : Derived} {f : Function} (p : Origin s f) → (D : Module) (cs : List ℕ) → Carries (maps_of (mapped_to p.source p.under)) p.function f (place p.under.memo) cs
walks = Following.origin_walks

-- ---- 3. WHAT OPERATIONS LEAVE
-- except by finishing, tables and functions only grow
pub only_grows : (p : Operation) → ends p ≡ false → (s : Session) → Good s → Grew s.state (does p s).state
only_grows = Growing.does_grow

-- while the source stays, what is mapped stays mapped to the same
pub stays-mapped : (p : Operation) → turns p ≡ false → (s : Session) → Good s → Keeps s.state (does p s).state
stays-mapped = Growing.does-keep

-- no two derived records of a table are equal, ignoring spans
pub records-differ : (ps : List Operation) → Distinct (run ps new).state
records-differ ps = Growing.all-distinct (run ps new) (every-state ps)

-- ---- where a special type's place or key is taken
-- a source that is set passed intake
pub newly_set : (bytes : ℕ) (ws : List ℕ) (o : ℕ) (s : Session) (v : Unit {0}) (r : Session) → set bytes ws o s ≡ answered v r → Newly s o ws r
newly_set = Operating.set_answered

-- from then on, while it stays, every mapped number but the types that were mapped by hand has its source's record, carried through the maps as they were, which are the maps as they are but for references to those types (`SoundBut`). Mapped by hand are special types whose place or key was taken when it was set, and types that were renamed since.
pub mapped-records : (x : Source) → WellFormed x.image → Passes x.image → (s : Session) → Good s → {ps : List Operation} → Stays ps
    → But (taken x.offset x.image s.state ++ all_renamed ps) x (run ps (record { source = some x; state = sourced x.offset x.image s.state }))
mapped-records = Mapped.while_set

-- where there are none, every mapped record is its source's, through the maps as they are
pub mapped-plainly : (x : Source) → WellFormed x.image → Passes x.image → (s : Session) → Good s → {ps : List Operation} → Stays ps → taken x.offset x.image s.state ≡ [] → all_renamed ps ≡ []
    → Sound (tables x.image) (run ps (record { source = some x; state = sourced x.offset x.image s.state })).state
mapped-plainly = Mapped.while_plain

-- so it is with the first source, and with any other as long as no special type is derived
pub none-taken : (o : ℕ) (m : Module) → named m ≡ true → (s : Session) → has_required_special_types s ≡ false → taken o m s.state ≡ []
none-taken = Untaken.none-taken

-- and of any mapping, by hand or not: the derived tables are well formed, no two records are equal, and what is mapped is there
pub tables_hold : (x : Source) (s : Derived) → Set x s → Base (tables x.image) s
tables_hold x s k = k.holds.typed.kept.base

-- ---- 4. A REFUSAL keeps the session, and every operation answers or refuses
pub refused_keeps : {A : Type 0} (s : Session) (n : ℕ) (a : Answer A) → a ≡ refused n → after s a ≡ s
refused_keeps = Growing.refused_keeps

pub answered_or_refused : {A : Type 0} (a : Answer A) → ((v : A) × (r : Session) × (a ≡ answered v r)) ⊎ ((n : ℕ) × (a ≡ refused n))
answered_or_refused = Growing.answered_or_refused

-- ---- 5. WHAT IS ANSWERED
-- the number of the derived record that the number given is mapped to
pub import_gives : (x : Source) (s : Derived) (k : Set x s) → (t : Tab) (n v : ℕ) (q : Session) → importing t n (record { source = some x; state = s }) ≡ answered v q → Gives x s k t n v q (import_t x.offset (tables x.image) t n s)
import_gives = Answers.import_gives

pub rename-gives : (x : Source) (s : Derived) (k : Set x s) → (n name v : ℕ) (q : Session) → rename_type n name (record { source = some x; state = s }) ≡ answered v q → Gives x s k types n v q (import_t x.offset (renamed (tables x.image) n name) types n s)
rename-gives = Answers.rename-gives

-- the last function, which comes from the one given
pub function-gives : (x : Source) (s : Derived) (k : Set x s) → (n v : ℕ) (q : Session) → import_function n (record { source = some x; state = s }) ≡ answered v q → Appends x s k n v q (append x.offset x.image (follow x.offset x.image) n s)
function-gives = Answers.function-gives

-- the function that has the name of the one given
pub handle_gives : (x : Source) (s : Derived) (k : Set x s) → (n v : ℕ) (q : Session) → map_function_handle n (record { source = some x; state = s }) ≡ answered v q → Bears x s k n v q (follow x.offset x.image n s)
handle_gives = Answers.handle_gives
