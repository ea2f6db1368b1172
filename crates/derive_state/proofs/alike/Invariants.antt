use Rattle.std.proofs.Common.{◌+◌, ◌-◌}
use Rattle.derive_state.specs.Refers.{went_r}
use Rattle.derive_state.proofs.Passes.{Comparing}
use Rattle.derive_state.proofs.alike.Given as goal

abbrev pub invariant-loop-j : goal.invariant-loop-j
invariant-loop-j l = Comparing l.original.cells.words.now l.original.cells.tags.now l.derived.log.now l.derived.logtags.now (went_r l.derived.maps.now) l.original.at l.original.end l.s l.j (l.s + 1 + (l.j - l.original.at))
