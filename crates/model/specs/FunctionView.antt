-- Where the parts of a function record are in the words, for a record that starts at s: the counts of its lists and their records, found by reading the counts before them. An entry point's function starts seven words after the start of its record.
use Rattle.std.specs.Prelude.{List, ℕ, ◌+◌, ◌*◌, get_or}

-- the words before an entry point's function
abbrev pub entry_head_words : ℕ
entry_head_words = 7

-- the count of arguments, after name and span
abbrev pub arguments_at : ℕ → ℕ
arguments_at s = s + 3

-- argument i: eight words
abbrev pub argument_at : ℕ → ℕ → ℕ
argument_at s i = s + 4 + 8 * i

-- the result: 0, or 1 and seven words
unfoldable pub returns_at : ℕ → List ℕ → ℕ
returns_at s ws = s + 4 + 8 * get_or ws (s + 3) 0

-- the count of locals
unfoldable pub locals_at : ℕ → List ℕ → ℕ
locals_at s ws = returns_at s ws + 1 + 7 * get_or ws (returns_at s ws) 0

-- local i: five words
abbrev pub local_at : ℕ → ℕ → List ℕ → ℕ
local_at s i ws = locals_at s ws + 1 + 5 * i

-- the count of expressions, and after it their records
unfoldable pub expressions_at : ℕ → List ℕ → ℕ
expressions_at s ws = locals_at s ws + 1 + 5 * get_or ws (locals_at s ws) 0
