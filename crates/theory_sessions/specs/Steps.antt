-- THE STEPS OF AN EXPORTED SESSION (`run` of the model's Steps.antt) ARE OPERATIONS: the session after a step is the session after one operation, or the same session. So every theorem on any session is one on the exported steps, and `Stepped` has the main ones: whatever the steps are, each leaves a session of which they hold, what it writes is read back and passes intake, but for 5 where a function's name stands twice, tables and functions only grow until a finish, and a refused step changes nothing.
use Rattle.std.proofs.Math.Path.{◌≡◌}
use Rattle.std.specs.Prelude.{◌⊎◌, ℕ, ◌+◌, ◌*◌, ◌<◌, ◌≤◌, get_or}
use mathlib.Core.List.{List, [], ◌∷◌}
use Rattle.std.proofs.Math.ListN.{length}
use Rattle.base_words.specs.Words.{words_of}
use Rattle.model.specs.Module.{Module}
use Rattle.model.specs.Tables as Tab
use Rattle.model.specs.Imports.{Derived}
use Rattle.model.specs.Bodies.{mapped_to}
use Rattle.model.specs.Session.{Session, new}
use Rattle.model.specs.Steps.{Operation, sets-source, clears_source, maps_span, types, renames, constants, overrides, globals, expressions, functions, new_functions, handles, required, finishes, finishes_entries, unknown, Said, part, run}
use Rattle.model.specs.Tree.{Function}
use Rattle.model.specs.References as References
use Rattle.model.specs.Walk.{walk}
use Rattle.theory_walks.specs.Agreement.{Carries}
use Rattle.theory_walks.specs.Events as Events
use Rattle.theory_records.specs.Theorems.{Distinct}
use Rattle.theory_bodies.specs.Function.{maps_of}
use Rattle.theory_bodies.specs.Inv.{place}
use Rattle.theory_sessions.specs.Following.{Origin}
use Rattle.theory_sessions.specs.Ending.{Written, Origins}
use Rattle.theory_sessions.specs.Operating.{Good}
use Rattle.theory_sessions.specs.Operating as Op
use Rattle.theory_sessions.specs.Growing.{Grew}

-- ---- THE OPERATIONS OF A STEP: one, or none
unfoldable pub step_as : Operation → ℕ → ℕ → ℕ → List ℕ → List ℕ → List Op.Operation
step_as sets-source a b c sources output = Op.sets (length (part a b sources)) (words_of (part a b sources)) c ∷ []
step_as clears_source a b c sources output = Op.clears ∷ []
step_as maps_span a b c sources output = Op.spans (a, b) ∷ []
step_as types a b c sources output = Op.imports Tab.types a ∷ []
step_as renames a b c sources output = Op.renames a b ∷ []
step_as constants a b c sources output = Op.imports Tab.constants a ∷ []
step_as overrides a b c sources output = Op.imports Tab.overrides a ∷ []
step_as globals a b c sources output = Op.imports Tab.globals a ∷ []
step_as expressions a b c sources output = Op.imports Tab.exprs a ∷ []
step_as functions a b c sources output = Op.functions a ∷ []
step_as new_functions a b c sources output = Op.handles a ∷ []
step_as handles a b c sources output = Op.handles a ∷ []
step_as required a b c sources output = []
step_as finishes a b c sources output = Op.finishes (length (part a b output)) ∷ []
step_as finishes_entries a b c sources output = Op.finishes_with (length (part a b output)) ∷ []
step_as unknown a b c sources output = []

-- ---- WHAT HOLDS OF EACH STEP, from the session s that it begins with
-- the image that a step writes into an output of this length
pub record Image (room : ℕ) (x : Said) : Type 0 where
  pub accepted : x.refusal ≡ 0
  pub told : x.first ≡ 4 * length x.written
  pub fits : x.at + 4 * length x.written ≤ room
  -- it is read back as this module, and passes tests 1 to 4 and 6, and 5 unless two functions have one name
  pub holds : Module
  pub written : Written holds x.written
  -- each of its functions, and that of each entry point, comes from one of a source that was set, and agrees with it through the maps as they were; so its walks are that function's, carried (`image_walks`)
  pub derived : Derived
  pub origins : Origins derived holds

pub record Stepped (room : ℕ) (s : Session) (x : Said) : Type 0 where
  -- the operations that it does: one at most
  pub does_them : (ps : List Op.Operation) × (x.session ≡ Op.run ps s)
  -- what holds of any session holds of the one that it leaves, so all theorems on such sessions
  pub good : Good x.session
  pub differ : Distinct x.session.state
  -- tables and functions only grow, unless it finished; then the session is new
  pub grows : Grew s.state x.session.state ⊎ (x.session ≡ new)
  -- a refusal keeps the session, and nothing is written
  pub keeps : 0 < x.refusal → (x.session ≡ s) × (x.written ≡ [])
  -- it writes nothing, or an image
  pub writes-image : (x.written ≡ []) ⊎ Image room x

-- each of a list of steps, from the session that the one before it leaves
pub data StepByStep (P : Session → Said → Type 0) : Session → List Said → Type 0 where
  no_steps : {s : Session} → StepByStep P s []
  and_step : {s : Session} {x : Said} {xs : List Said} → P s x → StepByStep P x.session xs → StepByStep P s (x ∷ xs)

-- THE WALKS of the functions and entry points of an image that a step writes are those of the functions that they come from, carried, by every list of numbers, and every number on the way is mapped
pub record Walks (d : Derived) (f : Function) : Type 0 where
  pub from : Origin d f
  pub carried : (cs : List ℕ) → Carries (maps_of (mapped_to from.source from.under)) from.function f (place from.under.memo) cs
