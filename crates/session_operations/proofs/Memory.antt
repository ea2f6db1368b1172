-- What operations leave of a session's memory: the arrays are the caller's. What a source that is set, or is not, means for the lemmas on sources.
use mathlib.Core.Path.{◌≡◌, refl}
use mathlib.Core.Bool.{Bool, true, false, not}
use Rattle.derive_state.proofs.State.{arrays_same}
use Rattle.session_operations.specs.declared.Session.{Session}
use Rattle.std.specs.Prelude.{Option, None, Some, Result, Err}
use Rattle.std.specs.Option.{ok_or}
use Rattle.base_refusals.specs.declared.Refusal.{Refusal}
use Rattle.session_operations.specs.declared.SetSource.{SetSource}
use Rattle.function_references.specs.Fits.{Ground}
use Rattle.session_operations.specs.Sessions.{SameMemory, ValidRecords}

pub memory_same : (s : Session) → SameMemory s s
memory_same s = record { words_same = refl; tags_same = refl; derived_same = arrays_same _; special_same = refl; stacks_same = refl }

-- no source is set where asking for it fails
pub no_source : (f : Option SetSource) (e y : Refusal) (r : Result SetSource Refusal) → r ≡ ok_or f e → r ≡ Err y → (f ≡ None) × (y ≡ e)
no_source None e y r is q = (refl, cc)
no_source (Some a) e y r is q = absurd (cc)

-- as the lemmas on a source have it
pub set_not : {b : Bool} → b ≡ true → not b ≡ false
set_not e = rw e

-- the source that is set passed intake
pub set_ground : (s : Session) → ValidRecords s → (x : SetSource) → s.source ≡ Some x → Ground s.words.now s.tags.now x.n
set_ground s v x q = let L = rw q at v in record { source = record { taped = L.taped refl; three = (L.passes refl).numbers; four = (L.passes refl).lowers }; names = (L.passes refl).names }
