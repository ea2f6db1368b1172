-- The expression that an atomic statement compares, as the list that the model has for it.
use Rattle.std.specs.Prelude.{List, [], ◌∷◌, ℕ, Option, None, Some}

-- the list of one, or of none
unfoldable pub compared : Option ℕ → List ℕ
compared None = []
compared (Some x) = x ∷ []
