use Prim.Native.Nat.{◌+◌, ◌-◌}
use Rattle.derive_state.proofs.Passes.{Comparing}
use Rattle.derive_lookup.proofs.Compares.{stay}
use Rattle.derive_lookup.proofs.equals_name.Given as goal

abbrev pub invariant-loop-j : goal.invariant-loop-j
invariant-loop-j l = Comparing l.name.cells.words.now l.name.cells.tags.now l.derived.log.now l.derived.logtags.now stay l.name.at l.name.end l.s l.j (l.s + 1 + (l.j - l.name.at))
