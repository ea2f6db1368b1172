use Rattle.std.proofs.Common.{◌%◌, ap, mod-lt, arith}
use Rattle.derive_state.proofs.bucket_of.Goals as goal

pub returns : goal.returns
returns c = (ap (λ x. x % 16384) c.hash.ensures, mod-lt _ (omega arith))
