use lib.ListN.{get_or}
use Prim.Native.Nat.{◌+◌}
use mathlib.Core.Path.{ap}
use Rattle.redirect_words.proofs.type_at.Goals as goal

pub returns : goal.returns
returns c = ap (λ x. get_or c.args.words.now (x + 1) 0) c.argument_at.ensures
