-- WHAT IS MAPPED, while a source is set: which types are mapped by hand, and that every other mapped number has its source's record (`SoundBut`).
use Rattle.std.specs.Prelude.{◌≡◌, false, List, [], ◌∷◌, ◌++◌, get_or}
use Rattle.std.proofs.Math.Option.{some}
use Prim.Native.Nat.{ℕ, zero, suc}
use Rattle.model.specs.Outcome.{Cells, word}
use Rattle.model.specs.Table.{KEY, TYPE}
use Rattle.model.specs.Module.{Module}
use Rattle.model.specs.Names.{field}
use Rattle.model.specs.Tables.{Tables, tables}
use Rattle.model.specs.Imports.{Derived, unmapped, emptied}
use Rattle.model.specs.Special.{ray, rays, keyed, pair_to, pairs}
use Rattle.model.specs.Session.{Source, Session}
use Rattle.theory_sessions.specs.Replaced.{SoundBut}
use Rattle.theory_sessions.specs.Operating.{Operation, sets, clears, spans, imports, renames, functions, handles, finishes, finishes_with}
use Rattle.theory_sessions.specs.Growing.{turns}

-- ---- the types that setting a source maps by hand: special ones whose place or key was taken
unfoldable pub hand_if : ℕ → ℕ → List ℕ
hand_if zero n = []
hand_if (suc v) n = n ∷ []

unfoldable pub hand_ray : ℕ → ℕ → Derived → List ℕ
hand_ray zero k s = []
hand_ray (suc n) k s = hand_if (word (get_or s.special.rays k (0, 0))) n

unfoldable pub hand_rays : Cells → ℕ → ℕ → Tables → Derived → List ℕ
hand_rays [] k o T s = []
hand_rays (c ∷ cs) k o T s = hand_ray (word c) k s ++ hand_rays cs (suc k) o T (ray (word c) k o T s)

unfoldable pub hand_pairs : List Cells → ℕ → Tables → Derived → List ℕ
hand_pairs [] o T s = []
hand_pairs (r ∷ rs) o T s = hand_if (keyed s.special.pairs (field KEY r)) (field TYPE r) ++ hand_pairs rs o T (pair_to (keyed s.special.pairs (field KEY r)) (field KEY r) (field TYPE r) o T s)

-- each step as `sourced` takes it
unfoldable pub taken : ℕ → Module → Derived → List ℕ
taken o m s =
    hand_rays m.special.rays 0 o (tables m) (emptied (unmapped (tables m)) s)
    ++ hand_pairs m.special.pairs o (tables m) (rays m.special.rays 0 o (tables m) (emptied (unmapped (tables m)) s))

-- ---- SESSIONS
-- x is the source that is set
pub record But (hs : List ℕ) (x : Source) (s : Session) : Type 0 where
  pub is : s.source ≡ some x
  pub sound : SoundBut hs (tables x.image) s.state

-- the types that operations rename
unfoldable pub renamed_by : Operation → List ℕ
renamed_by (sets bytes ws o) = []
renamed_by clears = []
renamed_by (spans p) = []
renamed_by (imports t n) = []
renamed_by (renames n name) = n ∷ []
renamed_by (functions n) = []
renamed_by (handles n) = []
renamed_by (finishes room) = []
renamed_by (finishes_with room) = []

unfoldable pub all_renamed : List Operation → List ℕ
all_renamed [] = []
all_renamed (p ∷ ps) = renamed_by p ++ all_renamed ps

-- while the source stays
pub data Stays : List Operation → Type 0 where
  stays-none : Stays []
  stays-next : {p : Operation} {ps : List Operation} → turns p ≡ false → Stays ps → Stays (p ∷ ps)
