use Rattle.derive_state.proofs.Pairs.{words_cleared}
use Rattle.derive_state.proofs.special_types.Special.clear_rays.Goals as goal

pub returns : goal.returns
returns c = rw (← c.self.view_is) (words_cleared c.self.inside.rays c.self.inside.pairs c.self.invariant.0)
