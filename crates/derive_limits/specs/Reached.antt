-- THE STATES THAT A SESSION REACHES, by the operations that document 01 has: they are good (the crate theory_sessions), and every derived name appears (the crate theory_finish). An operation on a number in range, where no ring is met, leads from one of them to another, too large or not.
use Rattle.std.specs.Prelude.{◌≡◌, false}
use Rattle.model.specs.Tables.{names, is_t, tables}
use Rattle.model.specs.Imports.{Derived}
use Rattle.model.specs.Session.{Source, Session}
use Rattle.theory_finish.specs.Shown.{Shown}
use Rattle.theory_finish.specs.ShownSource.{None}
use Rattle.theory_finish.specs.NamedSession.{Named}
use Rattle.theory_sessions.specs.Operating.{Operation, sets, clears, spans, imports, renames, functions, handles, finishes, finishes_with, Set, Good}

-- what is imported by itself is a record of a table other than that of names
unfoldable pub Public : Operation → Type 0
Public (sets bytes ws o) = Unit
Public clears = Unit
Public (spans p) = Unit
Public (imports t n) = is_t t names ≡ false
Public (renames n name) = Unit
Public (functions n) = Unit
Public (handles n) = Unit
Public (finishes room) = Unit
Public (finishes_with room) = Unit

-- ---- sessions
pub record Reached (s : Session) : Type 0 where
  pub good : Good s
  pub named : Named s

-- ---- states with a source that is set
pub record At (x : Source) (s : Derived) : Type 0 where
  pub set : Set x s
  pub shown : Shown (tables x.image) None None s
