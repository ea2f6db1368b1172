-- `copy_mapped_run` meets its contract: at each turn one word more is written, until one imports something or there is no room.
use mathlib.Core.Path.{◌≡◌}
use Prim.Native.Nat.{◌+◌, ◌-◌}
use Rattle.function_builder.specs.Stacks.{went_by}
use Rattle.function_runs.proofs.Quiets.{Onto}
use Rattle.function_runs.proofs.copy_mapped_run.Given as goal

abbrev pub invariant-loop-i : goal.invariant-loop-i
invariant-loop-i l = (Onto l.cells.words.now l.cells.tags.now l.maps l.exprmap (went_by l.maps l.exprmap) l.initial.reach.sizes.made l.offset l.initial.reach.at l.end l.initial.reach.sizes.bodytop l.initial.reach.undefined l.initial.stacks l.stacks l.i (l.initial.reach.sizes.bodytop + (l.i - l.initial.reach.at)) l.u) × (l.reach ≡ l.initial.reach)
