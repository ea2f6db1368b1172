use Rattle.derive_image.proofs.Choosing.{Choosing}
use Rattle.derive_image.proofs.choose.Given as goal

abbrev pub invariant-loop-j : goal.invariant-loop-j
invariant-loop-j l = Choosing l.row l.order l.r l.j
