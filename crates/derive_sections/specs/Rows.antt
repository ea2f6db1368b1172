-- What the arrays hold: tables of records in a log, and the names met so far.
use Rattle.std.specs.Prelude.{◌≡◌, cond, List, [], ◌∷◌, ℕ, zero, suc, ◌+◌, ◌≤◌, ◌<◌, eqb, length, get_or, take}
use Rattle.std.specs.Coded.{le_prop}
use Rattle.std.proofs.Props.{props}
use Rattle.model.specs.Outcome.{Cell, Cells, class, word}
use Rattle.model.specs.Table.{NAME}
use Rattle.derive_state.specs.Held.{recs_at}

-- the tables from these starts on, with these counts
unfoldable pub tabs_of : List ℕ → List ℕ → List (List ℕ) → List ℕ → List (List Cells)
tabs_of log logtags [] ns = []
tabs_of log logtags (ss ∷ sss) [] = []
tabs_of log logtags (ss ∷ sss) (n ∷ ns) = recs_at log logtags (take n ss) ∷ tabs_of log logtags sss ns

-- a record lies in the log, and its names are among the first
pub record Rec (names : ℕ) (log logtags : List ℕ) (s : ℕ) : Type 0 where
  pub log_long : length log ≡ 16384
  pub tags_long : length logtags ≡ 16384
  pub within : s + suc (get_or log s 0) ≤ 16384
  pub low : (i : ℕ) → s < i → i < suc s + get_or log s 0 → get_or logtags i 0 ≡ NAME → get_or log i 0 ≤ names

-- a table's records; a clause, since finishing asks it of a row that is its own, the names as they first appear, beside the rows of the module
pub record Row (names : ℕ) (log logtags ss : List ℕ) (n : ℕ) : Type 0 where
  pub row_long : length ss ≡ 512
  pub few : n ≤ 512
  pub recs : (k : ℕ) → k < n → Rec names log logtags (get_or ss k 0)

-- the same of a table whose records' starts stand alone; a ghost field of `Table`, and a clause where names are noted, of which there are as many as the module has
pub record Starts (names : ℕ) (log logtags ss : List ℕ) : Type 0 where
  pub few : length ss ≤ 512
  pub recs : (k : ℕ) → k < length ss → Rec names log logtags (get_or ss k 0)

-- all tables; a ghost field of `WritableTables`
pub record Rows (names : ℕ) (log logtags : List ℕ) (starts : List (List ℕ)) (counts : List ℕ) : Type 0 where
  pub eight : length starts ≡ 8
  pub eight' : length counts ≡ 8
  pub log_long : length log ≡ 16384
  pub tags_long : length logtags ≡ 16384
  pub rows : (t : ℕ) → t < 8 → Row names log logtags (get_or starts t []) (get_or counts t 0)

-- that they are such has one proof at most
Rec-prop : (names : ℕ) (log logtags : List ℕ) (s : ℕ) → IsProp (Rec names log logtags s)
Rec-prop names log logtags s = hlevel (props, le_prop)

Row-prop : (names : ℕ) (log logtags ss : List ℕ) (n : ℕ) → IsProp (Row names log logtags ss n)
Row-prop names log logtags ss n = hlevel (props, le_prop, Rec-prop)

pub Starts-prop : (names : ℕ) (log logtags ss : List ℕ) → IsProp (Starts names log logtags ss)
Starts-prop names log logtags ss = hlevel (props, le_prop, Rec-prop)

pub Rows-prop : (names : ℕ) (log logtags : List ℕ) (starts : List (List ℕ)) (counts : List ℕ) → IsProp (Rows names log logtags starts counts)
Rows-prop names log logtags starts counts = hlevel (props, le_prop, Row-prop)

-- ---- names met so far
-- 0, or the place of a number plus 1
unfoldable pub up : ℕ → ℕ
up zero = zero
up (suc n) = suc (suc n)

-- the place of x plus 1, and 0 where it is not met
unfoldable pub place_of : List ℕ → ℕ → ℕ
place_of [] x = 0
place_of (y ∷ ys) x = cond (eqb y x) 1 (up (place_of ys x))

-- how many are not 0
unfoldable pub nonzero : List ℕ → ℕ
nonzero [] = 0
nonzero (zero ∷ xs) = nonzero xs
nonzero (suc x ∷ xs) = suc (nonzero xs)

-- `order` has the n names `ns` that are met, of so many names, and `places` the place of each plus 1
pub record AppearingEnsures (names : ℕ) (ns order places : List ℕ) (n : ℕ) : Type 0 where
  pub names_few : names ≤ 512
  pub order_long : length order ≡ 512
  pub places_long : length places ≡ 512
  pub few : n ≤ 512
  pub is : take n order ≡ ns
  pub filled : nonzero places ≡ n
  pub agree : (x : ℕ) → get_or places x 0 ≡ place_of ns x
  pub inside : (j : ℕ) → j < n → get_or order j 0 < names

-- ---- a NAME word through the places: an optional number
unfoldable pub behind : List ℕ → ℕ → ℕ
behind ps zero = zero
behind ps (suc n) = get_or ps n 0

-- a cell's word
unfoldable pub named : List ℕ → Cell → ℕ
named ps c = cond (eqb (class c) NAME) (behind ps (word c)) (word c)
