-- The source as the words hold it, and what a word refers to.
use Rattle.std.specs.Prelude.{◌≡◌, ℕ, zero, suc, ◌-◌, true, cond, List, [], take, nat_lt}
use Rattle.model.specs.Outcome.{Laid, laid, bad, strange}
use Rattle.model.specs.Module.{Module, read}
use Rattle.model.specs.Taped.{Taped}
use Rattle.model.specs.Numbers.{numbered}
use Rattle.model.specs.Lower.{lower}
use Rattle.model.specs.Tables.{Tables, tables}
use Rattle.model.specs.References.{Target}
use Rattle.derive_state.specs.Refers.{target_of}

-- a module of which nothing is known: it has no records
unfoldable pub none : Module
none = record { names = []; types = []; constants = []; overrides = []; globals = []; exprs = []; functions = []; entries = []; special = record { rays = []; pairs = [] } }

-- the module that was read, and that without records where none was
unfoldable pub held_by : Laid Module → Module
held_by (laid m) = m
held_by bad = none
held_by strange = none

-- the module that the first n words hold
unfoldable pub mod_of : List ℕ → ℕ → Module
mod_of words n = held_by (read (take n words))

-- and its tables
unfoldable pub src_of : List ℕ → ℕ → Tables
src_of words n = tables (mod_of words n)

-- words and tags of a module that passed tests 3 and 4: what the type `ShaderSource` says (`source_of` of derive_state/proofs/Sources.antt)
pub record Source (words tags : List ℕ) (n : ℕ) : Type 0 where
  pub taped : Taped words tags n (mod_of words n)
  pub three : numbered (mod_of words n) ≡ true
  pub four : lower (mod_of words n) ≡ true

-- a table, and 6 where an optional word is 0
unfoldable pub if_some : ℕ → ℕ → ℕ
if_some zero u = 6
if_some (suc w) u = u

-- the table that a word refers to, no less than 6 where it refers to none
unfoldable pub refers_to : Target → ℕ → ℕ
refers_to g w = cond (nat_lt (target_of g) 6) (target_of g) (cond (nat_lt (target_of g) 8) 6 (if_some w (target_of g - 8)))

-- one less, and 0 of 0
unfoldable pub less : ℕ → ℕ
less zero = 0
less (suc w) = w

-- the number that it refers to there
unfoldable pub number_of : Target → ℕ → ℕ
number_of g w = cond (nat_lt (target_of g) 6) w (less w)
