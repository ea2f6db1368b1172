-- Refusal 22 as sets of marks: the functions of unknown name, those of them that are stuck, and whether an import would meet one. None of it depends on maps or
-- special types, so each holds with all of them.
use Rattle.std.specs.Prelude.{◌≡◌, Bool, List, [], ◌∷◌, ℕ, ◌≤◌, ◌<◌, length}
use Rattle.std.specs.Coded.{le_prop}
use Rattle.std.proofs.Props.{props}
use mathlib.Core.Path.{refl}
use Rattle.model.specs.Module.{count_at}
use Rattle.model.specs.Carry.{Each, each_none, each_next}
use Rattle.model.specs.Calls.{keep}
use Rattle.model.specs.Session.{unknown, stuck, meets_ring}
use Rattle.order_ranks.specs.Marks.{members, Below}
use Rattle.order_callees.specs.Gathering.{picked}
use Rattle.derive_state.specs.Source.{mod_of}
use Rattle.derive_state.specs.Held.{st_of}
use Rattle.derive_state.specs.Sizes.{Sizes}

-- unknown names, with no maps and no special types
abbrev pub unknown_by : List ℕ → ℕ → List ℕ → List ℕ → List (List ℕ) → Sizes → ℕ → Bool
unknown_by words n log logtags starts e = unknown (mod_of words n) (st_of words log logtags starts [] [] e)

-- those of a set whose names are unknown
pub record Unknowns (words : List ℕ) (n : ℕ) (log logtags : List ℕ) (starts : List (List ℕ)) (e : Sizes) (began set : List ℕ) : Type 0 where
  pub long : length set ≡ 4
  pub low : Below (count_at 6 words) set
  pub is : (maps : List (List ℕ)) (special : List ℕ) → members set ≡ keep (members began) (unknown (mod_of words n) (st_of words log logtags starts maps special e))

-- the functions of unknown name from which calls lead, through such functions, to a ring
pub record Stuck (words : List ℕ) (n : ℕ) (log logtags : List ℕ) (starts : List (List ℕ)) (e : Sizes) (set : List ℕ) : Type 0 where
  pub long : length set ≡ 4
  pub low : Below (count_at 6 words) set
  pub is : (maps : List (List ℕ)) (special : List ℕ) → members set ≡ stuck (mod_of words n) (st_of words log logtags starts maps special e)

-- whether one of js is among them
pub record RingsEnsures (js : List ℕ) (words : List ℕ) (n : ℕ) (log logtags : List ℕ) (starts : List (List ℕ)) (e : Sizes) (r : Bool) : Type 0 where
  pub is : (maps : List (List ℕ)) (special : List ℕ) → r ≡ meets_ring js (mod_of words n) (st_of words log logtags starts maps special e)

-- words and tags are arrays, and what is called between two places is among the first m functions; a ghost field of `Caller`
pub record Scannable (words tags : List ℕ) (at end m : ℕ) : Type 0 where
  pub words_long : length words ≡ 16384
  pub tags_long : length tags ≡ 16384
  pub rising : at ≤ end
  pub within : end ≤ 16384
  pub known : Each (λ j. j < m) (picked words tags at end)

-- numbers are below m by one proof at most
Below-prop : (m : ℕ) (js : List ℕ) → IsProp (Each (λ j. j < m) js)
Below-prop m [] each_none each_none = refl
Below-prop m (j ∷ js) (each_next p ps) (each_next q qs) = λ i. each_next (le_prop p q i) (Below-prop m js ps qs i)

-- and words are such by one proof at most
pub Scannable-prop : (words tags : List ℕ) (at end m : ℕ) → IsProp (Scannable words tags at end m)
Scannable-prop words tags at end m = hlevel (props, le_prop, Below-prop)
