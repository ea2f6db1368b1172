-- The flat passes of refusal 4. A pass goes over cells with a count of the records that have begun: what is being read is record `count - 1`, so a number w is lower where w + 1 < count, and an optional number w (0 for none, else the number plus 1) where w < count.
use Rattle.std.specs.Prelude.{◌≡◌, ◌^◌, ◌≤◌, Bool, true, false, ◌&&◌, List, [], ◌∷◌, ℕ, suc, ◌+◌, ◌<◌, eqb, ltb, leb, get_or}
use Rattle.model.specs.Outcome.{Cells, class, word}
use Rattle.model.specs.Table.{TYPE, CONSTANT, OVERRIDE, EXPR, OPT_EXPR, NAMED, TYPE_KIND, EXPR_KIND}
use Rattle.model.specs.Module.{count_at, offset_at}
use Rattle.model.specs.View.{record_at}
use Rattle.model.specs.Between.{between}

-- `next` counts, by the class; `ok` tests a word of a class, by the count
unfoldable pub pass : Cells → (ℕ → ℕ → ℕ) → (ℕ → ℕ → ℕ → Bool) → ℕ → Bool
pass [] next ok n = true
pass (c ∷ cs) next ok n = ok (class c) (word c) (next (class c) n) && pass cs next ok (next (class c) n)

-- ---- types: a base or a member
-- how many types have begun, after a word of the class s
unfoldable pub type_next : ℕ → ℕ → ℕ
type_next s n = elim (eqb s TYPE_KIND) [ true ↦ suc n | false ↦ n ]

-- a base or a member is lower than the type that is being read
unfoldable pub type_ok : ℕ → ℕ → ℕ → Bool
type_ok s w n = elim (eqb s TYPE) [ true ↦ ltb (suc w) n | false ↦ true ]

-- ---- operands: none is read outside the expressions, where the count is 0; the named expressions follow the expressions of a function
-- how many expressions have begun, after a word of the class s; none in front of named ones
unfoldable pub expr_next : ℕ → ℕ → ℕ
expr_next s n = elim (eqb s EXPR_KIND) [ true ↦ suc n | false ↦ elim (eqb s NAMED) [ true ↦ 0 | false ↦ n ] ]

-- an operand is lower than the expression that is being read
unfoldable pub expr_ok : ℕ → ℕ → ℕ → Bool
expr_ok s w n = elim (eqb n 0) [ true ↦ true | false ↦ elim (eqb s EXPR) [ true ↦ ltb (suc w) n | false ↦ elim (eqb s OPT_EXPR) [ true ↦ ltb w n | false ↦ true ] ] ]

-- ---- inits: word 4 of a constant, word 5 of an override
-- word d of record j of section k
unfoldable pub word_at : List ℕ → ℕ → ℕ → ℕ → ℕ
word_at ws k j d = get_or ws (record_at k j ws + d) 0

-- the init of a constant or an override that the word names is lower
unfoldable pub init_ok : List ℕ → ℕ → ℕ → ℕ → Bool
init_ok ws s w n =
    elim (eqb s CONSTANT) [
      | true ↦ elim (leb (count_at 2 ws) w) [ true ↦ true | false ↦ ltb (suc (word_at ws 2 w 4)) n ]
      | false ↦ elim (eqb s OVERRIDE) [ true ↦ elim (leb (count_at 3 ws) w) [ true ↦ true | false ↦ ltb (word_at ws 3 w 5) n ] | false ↦ true ]
    ]

-- every record of section k has a word d
pub record Reaches (ws : List ℕ) (k d : ℕ) : Type 0 where
  pub offset : (j : ℕ) → j < count_at k ws → offset_at k ws + j < 16384
  pub reach : (j : ℕ) → j < count_at k ws → record_at k j ws + d < 16384

-- ---- code that counts by `counts` and tests by `tests`, of each class, word and count that a pass can meet
-- the code counts by `next` and tests by `ok`
pub record Does (counts : ℕ → ℕ → ℕ → Type 0) (tests : ℕ → ℕ → ℕ → Bool → Type 0) (next : ℕ → ℕ → ℕ) (ok : ℕ → ℕ → ℕ → Bool) : Type 0 where
  pub counted : (s n r : ℕ) → s < 256 → n < 16384 → counts s n r → r ≡ next s n
  pub tested : (s w n : ℕ) (b : Bool) → s < 256 → w < 2 ^ 32 → n ≤ 16384 → tests s w n b → b ≡ ok s w n

-- the answer r is that of the pass over the words from `at` to `end`, where the code counts and tests as the pass does
pub record Passed (counts : ℕ → ℕ → ℕ → Type 0) (tests : ℕ → ℕ → ℕ → Bool → Type 0) (r : Bool) (words tags : List ℕ) (at end : ℕ) : Type 0 where
  pub same : (next : ℕ → ℕ → ℕ) (ok : ℕ → ℕ → ℕ → Bool) → Does counts tests next ok → r ≡ pass (between tags words at end) next ok 0
