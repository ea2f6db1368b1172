-- Words and tags that hold an image: what laying out leaves where an image fits, and what every later pass begins with.
use Rattle.std.specs.Prelude.{◌≡◌, List, map, ℕ, ◌≤◌, length, take}
use Rattle.model.specs.Outcome.{class}
use Rattle.model.specs.Module.{Module, flat_module, write}
use Rattle.model.specs.Carry.{WellFormed}

-- the first n words are the module's, and the first n tags their classes
pub record Taped (words tags : List ℕ) (n : ℕ) (m : Module) : Type 0 where
  pub small : n ≤ 16384
  pub words_long : length words ≡ 16384
  pub tags_long : length tags ≡ 16384
  pub words_are : take n words ≡ write m
  pub tags_are : take n tags ≡ map class (flat_module m)
  pub well : WellFormed m

-- they are those of some module
pub record Tape (words tags : List ℕ) (n : ℕ) : Type 0 where
  pub holds : Module
  pub taped : Taped words tags n holds
