-- What a state's names and functions have to be for its functions to be found by name, and what finding one answers.
use Rattle.std.specs.Prelude.{◌≡◌, List, [], ℕ, suc, ◌+◌, ◌-◌, ◌≤◌, ◌<◌, length, get_or, take, Option, None, Some}
use Rattle.std.specs.Coded.{le_prop}
use Rattle.std.proofs.Props.{props}
use Rattle.model.specs.Outcome.{Cells}
use Rattle.model.specs.Redirect.{name_word}
use Rattle.model.specs.References.{index_of}
use Rattle.model.specs.Bodies.{known}
use Rattle.derive_state.specs.Flats.{function_of}
use Rattle.derive_state.specs.Source.{mod_of}
use Rattle.derive_state.specs.Held.{rec_at, recs_at, Apart, st_of}
use Rattle.derive_state.specs.Sizes.{Sizes}

-- records that start at the first n of these places lie in the log, and no two are alike; a part of `Bearing`
pub record Names (log logtags starts : List ℕ) (n : ℕ) : Type 0 where
  pub few : n ≤ 512
  pub log_long : length log ≡ 16384
  pub tags_long : length logtags ≡ 16384
  pub starts_long : length starts ≡ 512
  pub within : (k : ℕ) → k < n → get_or starts k 0 + suc (get_or log (get_or starts k 0) 0) ≤ 16384
  pub apart : Apart (recs_at log logtags (take n starts))

-- number m, less 1, is that of the first of them that is alike
pub record Went (log logtags starts : List ℕ) (n : ℕ) (c : Cells) (m : ℕ) : Type 0 where
  pub some : 0 < m
  pub few : m ≤ 512
  pub first : m - 1 ≡ index_of (recs_at log logtags (take n starts)) c

-- records that are functions, each with its name in its first word
pub record Heads (log logtags starts : List ℕ) (n : ℕ) : Type 0 where
  pub few : n ≤ 256
  pub starts_long : length starts ≡ 512
  pub within : (k : ℕ) → k < n → suc (get_or starts k 0) < 16384
  pub first : (k : ℕ) → k < n → name_word (function_of (rec_at log logtags (get_or starts k 0))) ≡ get_or log (suc (get_or starts k 0)) 0

-- the names and the functions of a state; a ghost field of `NamedDerived`
pub record Bearing (log logtags : List ℕ) (starts : List (List ℕ)) (e : Sizes) : Type 0 where
  pub names : Names log logtags (get_or starts 0 []) (get_or e.counts 0 0)
  pub functions : Heads log logtags (get_or starts 6 []) (get_or e.counts 6 0)

-- that they are such has one proof at most
pub Bearing-prop : (log logtags : List ℕ) (starts : List (List ℕ)) (e : Sizes) → IsProp (Bearing log logtags starts e)
Bearing-prop log logtags starts e = hlevel (props, le_prop)

-- a number plus 1, and 0 for none
abbrev pub plus_one : Option ℕ → ℕ
plus_one None = 0
plus_one (Some h) = suc h

-- the derived function that has the name of the source's function f: its number plus 1, or 0. Neither maps nor special types have a say in it
pub record KnownEnsures (words : List ℕ) (n : ℕ) (log logtags : List ℕ) (starts : List (List ℕ)) (e : Sizes) (f r : ℕ) : Type 0 where
  pub is : (maps : List (List ℕ)) (special : List ℕ) → r ≡ known (mod_of words n) (st_of words log logtags starts maps special e) f
  pub low : r ≤ get_or e.counts 6 0
