use mathlib.Core.Path.{refl}
use Rattle.intake_ranges.proofs.Ranging.{outside_is}
use Rattle.intake_ranges.proofs.Bounds.set_module.Goals as goal

pub returns : goal.returns
returns c = outside_is _ _ _ c.requires _ _ _ _ _ _ _ _ c.count-names.ensures.0 c.count-types.ensures.0 c.count-inits.ensures.0 c.count-functions.ensures.0 c.count.ensures.0 c.count-2.ensures.0 c.count-3.ensures.0 refl c.set_function.ensures.is
