-- Where the parts of a module are in its words: the tables as lists of records, and the start and the end of a record, by the header and the offsets.
use Rattle.std.specs.Prelude.{true, false, List, [], ◌∷◌, map, ℕ, suc, ◌+◌, eqb, get_or}
use Rattle.model.specs.Outcome.{Cells}
use Rattle.model.specs.Tree.{flat, flat_entry}
use Rattle.model.specs.Module.{Module, count_at, offset_at, end_at}

-- sections 0 to 7, each as the cells of its records
unfoldable pub tables : Module → List (List Cells)
tables m = m.names ∷ m.types ∷ m.constants ∷ m.overrides ∷ m.globals ∷ m.exprs ∷ map flat m.functions ∷ map flat_entry m.entries ∷ []

-- record j of section k: it starts at its offset from the section's start, and ends where the next one starts, the last one where the section ends
unfoldable pub record_at : ℕ → ℕ → List ℕ → ℕ
record_at k j ws = offset_at k ws + get_or ws (offset_at k ws + j) 0

unfoldable pub record_end : ℕ → ℕ → List ℕ → ℕ
record_end k j ws = elim (eqb (suc j) (count_at k ws)) [ true ↦ end_at k ws | false ↦ record_at k (suc j) ws ]
