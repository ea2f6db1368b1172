-- `intake_fields::table::entry` meets its contract: the numbers of the code are those of the model, by computation.
use Rattle.std.proofs.Common.{refl}
use Rattle.intake_fields.specs.Rows.{SIZE}
use Rattle.intake_fields.proofs.table.entry.Goals as goal

pub returns : goal.returns
unfolding SIZE
returns c = refl
