use Rattle.derive_session.specs.Fresh.{zeros, zeros_spaces}
use Rattle.session.proofs.session.Goals as goal

pub session_in-requires : goal.session_in-requires
session_in-requires c = record { words_len = (zeros.words_long, zeros.tape_long); scratch_lengths = zeros_spaces }
