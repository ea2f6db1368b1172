-- FULL, as the code means it, is refusal 21, as the model says it, of what is gathered: the words that the code counts are the image's, and the counts that it looks at are those that the limits bound.
use Rattle.std.specs.Prelude.{List, map, ◌<◌}
use Rattle.std.proofs.Math.ListN.{length}
use Rattle.model.specs.Tree.{Entry, flat_entry}
use Rattle.model.specs.Imports.{Derived}
use Rattle.derive_state.specs.Held.{size_r, Over}

-- what the code means, with these entry points: too many words or records, or too many entry points
pub data Full (s : Derived) (es : List Entry) : Type 0 where
  over : Over (size_r (map flat_entry es)) s → Full s es
  entries : 16 < length es → Full s es
