-- Functions and entry points as flat records, and special types as words: what a state keeps of them, read back.
use Rattle.std.specs.Prelude.{ℕ, zero, suc, ◌+◌, List, [], ◌∷◌, map, slice_index}
use Rattle.model.specs.Outcome.{Cells, word, Outcome, fits, misfit, unknown}
use Rattle.model.specs.Table.{TYPE, OPT_TYPE, KEY}
use Rattle.model.specs.Tree.{Function, Entry, function_at, entry_at}
use Rattle.model.specs.Module.{Special}
use Rattle.model.specs.Redirect.{nothing}

-- ---- the function that was read; one without a part where none was
unfoldable pub function_in : Outcome Function → Function
function_in (fits f ws) = f
function_in misfit = nothing
function_in unknown = nothing

-- the function that a flat record is
unfoldable pub function_of : Cells → Function
function_of cs = function_in (function_at (map word cs))

-- ---- the same for entry points
-- one without a part
unfoldable pub no_entry : Entry
no_entry = record { head = []; function = nothing }

-- the entry point that was read
unfoldable pub entry_in : Outcome Entry → Entry
entry_in (fits e ws) = e
entry_in misfit = no_entry
entry_in unknown = no_entry

-- the entry point that a flat record is
unfoldable pub entry_of : Cells → Entry
entry_of cs = entry_in (entry_at (map word cs))

-- ---- special types: n pairs of a key and a type, from word i on
unfoldable pub pairs_at : List ℕ → ℕ → ℕ → List Cells
pairs_at ws i zero = []
pairs_at ws i (suc n) = ((KEY, slice_index ws i) ∷ (TYPE, slice_index ws (1 + i)) ∷ []) ∷ pairs_at ws (2 + i) n

-- three optional types, and then n pairs
unfoldable pub special_of : List ℕ → ℕ → Special
special_of ws n = record { rays = (OPT_TYPE, slice_index ws 0) ∷ (OPT_TYPE, slice_index ws 1) ∷ (OPT_TYPE, slice_index ws 2) ∷ []; pairs = pairs_at ws 3 n }
