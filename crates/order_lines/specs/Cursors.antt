-- What a cursor puts into its buffer.
use Rattle.std.specs.Prelude.{◌≡◌, List, ℕ}
use Rattle.order_lines.specs.Lines.{TextEnsures}
use Rattle.order_lines.specs.declared.Cursor.{Cursor}

-- these bytes are put at its place, and it goes on after them
abbrev pub Puts : Cursor → List ℕ → Cursor → Type 0
Puts c xs c' = TextEnsures c.out.now c.at xs c'.out.now c'.at

-- its buffer is the one that was lent to it
abbrev pub SameBuffer : Cursor → Cursor → Type 0
SameBuffer c c' = c'.out.ghost_name ≡ c.out.ghost_name
