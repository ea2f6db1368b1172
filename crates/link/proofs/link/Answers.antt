use Prim.Native.Nat.{ℕ}
use lib.ListN.{length-replicate}
use Rattle.derive_session.specs.Fresh.{zeros_spaces}
use Rattle.link.proofs.link.Goals as goal

pub link_in-requires : goal.link_in-requires
link_in-requires c = record { words_len = (length-replicate {A = ℕ} 16384 0, length-replicate {A = ℕ} 16384 0); scratch_lengths = zeros_spaces }
