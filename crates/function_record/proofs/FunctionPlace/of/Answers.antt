use Rattle.base_views.proofs.Places.{standing-inside}
use Rattle.function_record.proofs.FunctionPlace.of.Goals as goal

pub expressions_at-requires : goal.expressions_at-requires
expressions_at-requires c = standing-inside c.requires
