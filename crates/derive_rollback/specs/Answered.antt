-- What an import answers.
use Rattle.std.specs.Prelude.{◌≡◌, List, ℕ, ◌<◌, pred}
use Rattle.model.specs.Module.{count_at}
use Rattle.model.specs.Tables.{map_at}
use Rattle.derive_state.specs.Refers.{tab_of}
use Rattle.derive_state.specs.Held.{st_of}
use Rattle.derive_state.specs.Sizes.{Sizes}

-- r is the derived number of number h of table t, in every state that has these maps
pub record MappedToEnsures (maps : List (List ℕ)) (t h r : ℕ) : Type 0 where
  pub is : (words log logtags : List ℕ) (starts : List (List ℕ)) (special : List ℕ) (e : Sizes) → h < count_at t words → r ≡ pred (map_at (st_of words log logtags starts maps special e).maps (tab_of t) h)
