use Rattle.std.proofs.Common.{◌≡◌, ◌+◌, ◌-◌}
use Rattle.model.specs.References.{first_word}
use Rattle.derive_state.specs.Held.{carried_by}
use Rattle.derive_state.specs.Refers.{went_r, Small}
use Rattle.derive_state.proofs.Passes.{Writing}
use Rattle.derive_state.proofs.write.Given as goal

abbrev pub invariant-loop-j : goal.invariant-loop-j
invariant-loop-j l = (Writing Small l.original.cells.words.now l.original.cells.tags.now (went_r l.maps) l.original.at l.original.end l.to l.offset l.initial.log l.initial.logtags l.log l.logtags l.j (l.to + (l.j - l.original.at)) l.u) × (l.w ≡ first_word (carried_by (went_r l.maps) l.original.cells.tags.now l.original.cells.words.now l.j l.original.end))
