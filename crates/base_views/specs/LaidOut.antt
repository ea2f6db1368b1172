-- Words and tags that hold an image, as an equation: what `Tape` says, which has the module as a field, said of the module that is read, so that a type can say it.
use Rattle.std.specs.Prelude.{◌≡◌, List, map, take, ℕ, ◌≤◌, Option, Some, None}
use Rattle.model.specs.Outcome.{Laid, laid, bad, strange, class}
use Rattle.model.specs.Module.{Module, read, write, flat_module}

-- the words of a module that was read, and their classes
unfoldable pub written : Laid Module → Option (List ℕ × List ℕ)
written (laid m) = Some (write m, map class (flat_module m))
written bad = None
written strange = None

-- the first n words hold a module, and the first n tags are the classes of its words
pub record LaidOut (words tags : List ℕ) (n : ℕ) : Type 0 where
  pub small : n ≤ 16384
  pub same : written (read (take n words)) ≡ Some (take n words, take n tags)
