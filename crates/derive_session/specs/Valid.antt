-- A session as the arrays hold it: the model's session that they mean (`session_of`), and when they are valid between two operations (`ValidSession`).
use Rattle.std.specs.Prelude.{◌≡◌, Bool, true, false, List, [], ℕ, length, get_or}
use Rattle.std.proofs.Math.Option.{none, some}
use Rattle.model.specs.Taped.{Taped}
use Rattle.model.specs.Intake.{Passes}
use Rattle.model.specs.Tables.{six}
use Rattle.model.specs.Imports.{emptied}
use Rattle.model.specs.Session.{Session}
use Rattle.derive_limits.specs.Reached.{Reached}
use Rattle.derive_state.specs.Source.{mod_of}
use Rattle.derive_state.specs.Held.{st_of, ValidArrays, Specials}
use Rattle.derive_state.specs.Sizes.{Sizes}

-- with the source of the first n words and the offset o, or without one
unfoldable pub session_of : Bool → ℕ → ℕ → List ℕ → List ℕ → List ℕ → List (List ℕ) → List (List ℕ) → List ℕ → Sizes → Session
session_of true n o words log logtags starts maps special e = record { source = some (record { image = mod_of words n; offset = o }); state = st_of words log logtags starts maps special e }
session_of false n o words log logtags starts maps special e = record { source = none; state = emptied (six (λ t. [])) (st_of words log logtags starts maps special e) }

-- between operations
pub record ValidSession (set : Bool) (n o : ℕ) (words tags log logtags : List ℕ) (starts maps : List (List ℕ)) (buckets special : List ℕ) (e : Sizes) : Type 0 where
  pub reached : Reached (session_of set n o words log logtags starts maps special e)
  pub kept : ValidArrays log logtags starts maps buckets e
  pub specials : Specials special e
  pub words_long : length words ≡ 16384
  pub tape_long : length tags ≡ 16384
  -- a source that is set passed intake
  pub taped : set ≡ true → Taped words tags n (mod_of words n)
  pub passes : set ≡ true → Passes (mod_of words n)
  -- no entry points, and no function in progress
  pub no_entries : get_or e.counts 7 0 ≡ 0
  pub lowest : (e.exprtop ≡ 0) × (e.bodytop ≡ 0)
  pub going : e.full ≡ false
