use Rattle.function_builder.proofs.Carries.{fits_at}
use Rattle.function_builder.proofs.carried_at.Goals as goal

pub carried-requires : goal.carried-requires
carried-requires c = let a = c.args in record { all = fits_at a.piece.now.legible a.i c.requires.i_bound.0 c.requires.i_bound.1 }
