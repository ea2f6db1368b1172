-- The table of bounds as the code has it, and what the passes over words and tags answer, in terms of the model's cells.
use Rattle.std.specs.Prelude.{◌≡◌, Bool, ◌&&◌, List, [], ◌∷◌, ◌++◌, map, slice_set, ℕ, zero, suc, ◌+◌, ◌^◌, replicate}
use Rattle.std.proofs.Math.Option.{Option, none, some}
use Rattle.model.specs.Module.{count_at}
use Rattle.model.specs.Between.{between}
use Rattle.model.specs.Numbers.{Bounds, bound, within, ordered}

-- ---- the table of bounds: a word has 32 bits, so one that is free stays below 2 ^ 32
-- what a word stays below whose bound is this, or which is free
unfoldable pub cap : Option ℕ → ℕ
cap none = 2 ^ 32
cap (some n) = n

-- n numbers from k on
unfoldable pub up_to : ℕ → ℕ → List ℕ
up_to k zero = []
up_to k (suc n) = k ∷ up_to (suc k) n

-- for each class: a byte has 256 values
unfoldable pub table : Bounds → List ℕ
table b = map (λ s. cap (bound b s)) (up_to 0 256)

-- before the counts are known
unfoldable pub codes : List ℕ
codes = up_to 0 80 ++ replicate 176 (2 ^ 32)

-- the counts of the header
unfoldable pub headed : List ℕ → Bounds
headed ws = record {
  names = count_at 0 ws;
  types = count_at 1 ws;
  constants = count_at 2 ws;
  overrides = count_at 3 ws;
  globals = count_at 4 ws;
  inits = count_at 5 ws;
  functions = count_at 6 ws;
  exprs = count_at 5 ws;
  arguments = 0;
  locals = 0;
}

-- with other expressions, arguments and locals
unfoldable pub owned : Bounds → ℕ → ℕ → ℕ → Bounds
owned b e a l = record {
  names = b.names;
  types = b.types;
  constants = b.constants;
  overrides = b.overrides;
  globals = b.globals;
  inits = b.inits;
  functions = b.functions;
  exprs = e;
  arguments = a;
  locals = l;
}

-- each word from `at` to `end` is below the bound of its class
pub record InRangeEnsures (r : Bool) (words tags t : List ℕ) (at end : ℕ) : Type 0 where
  pub same : (b : Bounds) → t ≡ table b → r ≡ within b (between tags words at end)

-- with the order of Emit's words
pub record FunctionInRangeEnsures (r : Bool) (words tags t : List ℕ) (at end : ℕ) : Type 0 where
  pub same : (b : Bounds) → t ≡ table b → r ≡ within b (between tags words at end) && ordered (between tags words at end)

-- the table with these bounds for what a function has of its own
unfoldable pub with_own : List ℕ → ℕ → ℕ → ℕ → List ℕ
with_own t e a l = slice_set (slice_set (slice_set (slice_set (slice_set (slice_set (slice_set (slice_set (slice_set t 93 e) 94 (e + 1)) 95 a) 96 l) 98 (e + 1)) 99 e) 100 (e + 1)) 101 e) 102 (e + 1)

-- of a table of bounds the result is one, of the same bounds with these
pub record Owned (t₁ t : List ℕ) (e a l : ℕ) : Type 0 where
  pub same : (b : Bounds) → t ≡ table b → t₁ ≡ table (owned b e a l)
