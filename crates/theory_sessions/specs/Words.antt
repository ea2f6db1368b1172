-- WORDS STAY WORDS, in any session: where the words of every source are below 2^32, so is all that is derived, whatever was answered or refused; and so are the words that finishing writes. So the bytes of what is written give the words back.
use Rattle.std.specs.Prelude.{◌≡◌, List, length}
use Rattle.std.proofs.Math.Option.{Option, none, some}
use Prim.Native.Nat.{ℕ, ◌*◌, ◌^◌}
use Rattle.base_words.specs.Words.{AllBelow}
use Rattle.model.specs.Intake.{intake_of}
use Rattle.model.specs.Tables.{Tab}
use Rattle.model.specs.Session.{Source, Session}
use Rattle.theory_finish.specs.Small.{SmallModule, SmallState}
use Rattle.theory_sessions.specs.Operating.{Operation, sets, clears, spans, imports, renames, functions, handles, finishes, finishes_with}

-- ---- what a source is given as: words, four bytes to each
pub record Given (bytes : ℕ) (ws : List ℕ) : Type 0 where
  pub below : AllBelow (2 ^ 32) ws
  pub whole : intake_of bytes ws ≡ 0 → bytes ≡ 4 * length ws

pub data GivenBy : Operation → Type 0 where
  given-source : {bytes : ℕ} {ws : List ℕ} {o : ℕ} → Given bytes ws → GivenBy (sets bytes ws o)
  given_clears : GivenBy clears
  given_spans : {v : ℕ × ℕ} → GivenBy (spans v)
  given-imports : {t : Tab} {n : ℕ} → GivenBy (imports t n)
  given-renames : {n name : ℕ} → GivenBy (renames n name)
  given_functions : {n : ℕ} → GivenBy (functions n)
  given_handles : {n : ℕ} → GivenBy (handles n)
  given_finishes : {room : ℕ} → GivenBy (finishes room)
  given_finishes_with : {room : ℕ} → GivenBy (finishes_with room)

-- ---- what a session keeps
unfoldable pub SmallBy : Option Source → Type 0
SmallBy none = Unit {0}
SmallBy (some x) = SmallModule x.image

pub record SmallSession (s : Session) : Type 0 where
  pub in_source : SmallBy s.source
  pub in_state : SmallState s.state
