-- THE IMPORT BY PASSES IS THE MODEL'S, each theorem with its statement in full, for a source that passed intake and the states that a session reaches, where 22 is not met: a call to an unknown name (`follow_s`), import_function (`append_s`) and entry points (`entered_s`, `entry_s`) leave the model's states and make the model's functions, and every record that is written on the way can be read back and names what is derived by then (`Ready`, `ReadyF`).
use Rattle.std.specs.Prelude.{ℕ, ◌<◌, ◌≤◌, ◌≡◌, false, [], ◌∷◌, length}
use Rattle.model.specs.Module.{Module}
use Rattle.model.specs.Carry.{WellFormed}
use Rattle.model.specs.Intake.{Passes}
use Rattle.model.specs.Calls.{here}
use Rattle.model.specs.Callees.{callees}
use Rattle.model.specs.Redirect.{function}
use Rattle.model.specs.Imports.{Derived}
use Rattle.model.specs.Bodies.{append, follow_f, follow, enter_all, entries_made}
use Rattle.model.specs.Session.{Source, meets_ring, callees_of}
use Rattle.theory_bodies.specs.Lists.{All}
use Rattle.theory_sessions.specs.Height.{Low, unknowns, ringless}
use Rattle.theory_sessions.specs.Following.{From, holds_from}
use Rattle.theory_sessions.specs.Holding.{few, callees_low}
use Rattle.theory_sessions.specs.Operating.{Set}
use Rattle.theory_sessions.specs.Entering.{entries_sound}
use Rattle.function_nesting.specs.Nested.{append_s, follow_s, ReadyF, Ready}
use Rattle.function_nesting.specs.Deep as Deep
use Rattle.function_nesting.specs.Entries.{enter_all_s, entries_s, EntriesMade, Alike, entries_alike}

-- ---- 1. A CALL TO A NAME THAT IS NOT YET KNOWN: any room that is no less than the callee's height, in every state that came from a
pub nested : (m : Module) → WellFormed m → Passes m → (o d k : ℕ) → d ≤ k → (a s : Derived) → From m a s → (n : ℕ) → Low d m a n → (follow_s o m k n s ≡ follow_f k o m n s) × Ready o m k n s
nested m well ok o d k l a s f n q = let h = Deep.brought m well ok o d k l a n s q f in (h.same, h.ready)

-- ---- 2. IMPORT_FUNCTION, of a function whose callees have heights
pub appended : (m : Module) → WellFormed m → Passes m → (o d k : ℕ) → d ≤ k → (s : Derived) → From m s s → (n : ℕ) → n < length m.functions → All (λ j. Low d m s j) (callees (function m n))
    → (append_s o m (follow_s o m k) n s ≡ append o m (follow_f k o m) n s) × ReadyF o m (Ready o m k) (follow_s o m k) (function m n) s
appended m well ok o d k l s f n h calls = let r = Deep.appended-alike m well ok o d k l s f n h calls in (r.same, r.ready)

-- ---- 3. IN A SESSION, with room for as many functions in progress as the source has
abbrev pub room : Source → ℕ
room x = length x.image.functions

pub follow_is : (x : Source) (s : Derived) → Set x s → (n : ℕ) → n < length x.image.functions → meets_ring (n ∷ []) x.image s ≡ false
    → (follow_s x.offset x.image (room x) n s ≡ follow x.offset x.image n s) × Ready x.offset x.image (room x) n s
unfolding follow
follow_is x s h n l e =
    nested x.image h.well h.passes x.offset (unknowns x.image s) (room x) (few x.image h.well h.passes x.offset s) s s (holds_from h.holds) n (ringless x.image h.well h.passes.numbers s (n ∷ []) e n here l)

pub append_is : (x : Source) (s : Derived) → Set x s → (n : ℕ) → n < length x.image.functions → meets_ring (n ∷ callees (function x.image n)) x.image s ≡ false
    → (append_s x.offset x.image (follow_s x.offset x.image (room x)) n s ≡ append x.offset x.image (follow x.offset x.image) n s)
    × ReadyF x.offset x.image (Ready x.offset x.image (room x)) (follow_s x.offset x.image (room x)) (function x.image n) s
unfolding follow
append_is x s h n l e =
    appended x.image h.well h.passes x.offset (unknowns x.image s) (room x) (few x.image h.well h.passes x.offset s) s (holds_from h.holds) n l (callees_low x.image h.well h.passes x.offset s n l e)

-- entry points: each at its turn (`EntryMade`), the state after all of them, and what they become
pub entries_are : (x : Source) (s : Derived) → Set x s → meets_ring (callees_of x.image.entries) x.image s ≡ false
    → EntriesMade x.offset x.image (room x) x.image.entries s
    × (enter_all_s x.offset x.image (follow_s x.offset x.image (room x)) x.image.entries s ≡ enter_all x.image.entries x.offset x.image s)
    × (entries_s x.offset x.image (follow_s x.offset x.image (room x)) x.image.entries s ≡ entries_made x.image.entries x.offset x.image s)
entries_are x s h e =
    let r : Alike x.image h.well h.passes x.offset s x.image.entries s = entries_alike x.image h.well h.passes x.offset s (entries_sound x.image h.well h.passes x.offset s e) s (holds_from h.holds) in
    (r.each, r.out, r.entries)
