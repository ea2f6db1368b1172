use Rattle.derive_state.proofs.Pairs.{words_none}
use Rattle.derive_state.proofs.special_types.Special.new.Goals as goal

pub returns : goal.returns
returns c = words_none
