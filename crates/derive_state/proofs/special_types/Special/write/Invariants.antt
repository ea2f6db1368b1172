use Prim.Native.Nat.{◌+◌}
use Rattle.derive_state.proofs.Pairs.{Writing}
use Rattle.derive_state.proofs.special_types.Special.write.Given as goal

abbrev pub invariant-loop-j : goal.invariant-loop-j
invariant-loop-j l = Writing l.initial.out (l.at + 3) l.pair-items l.out l.j
