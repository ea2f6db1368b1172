-- `intake_fields::table::numbers` meets its contract: the numbers of the code are those of the model, by computation.
use mathlib.Core.Path.{refl}
use Rattle.intake_fields.specs.Rows.{SIZE}
use Rattle.intake_fields.proofs.table.numbers.Goals as goal

pub returns : goal.returns
unfolding SIZE
returns c = refl
