-- `intake_blocks::+block_looped_parts_stmt` meets its contract.
use Prim.Native.Nat.{ℕ, ◌*◌, ◌+◌, ◌-◌, ◌≤◌}
use Rattle.intake_blocks.specs.Found.{place_of}
use Rattle.intake_blocks.proofs.Blocks.{Walking}
use Rattle.intake_blocks.proofs.Inner.{Passing}
use Rattle.intake_blocks.proofs.+block_looped_parts_stmt.Given as goal

abbrev pub decreases-block : goal.decreases-block
decreases-block l = 3 * (l.fin - l.at) + 2

abbrev pub decreases-looped : goal.decreases-looped
decreases-looped l = 3 * (l.stop - l.at)

abbrev pub decreases-parts : goal.decreases-parts
decreases-parts l = 3 * (l.stop - l.at)

abbrev pub decreases-stmt : goal.decreases-stmt
decreases-stmt l = 3 * (l.stop - l.at) + 1

abbrev pub invariant-block-loop-i : goal.invariant-block-loop-i
invariant-block-loop-i l = Walking l.expressions.places.cells.words.now l.expressions.places.cells.tags.now l.expressions.places.starts.now l.expressions.initial.now l.initial.until l.expressions.places.count l.at l.fin l.keep (place_of l.place.breaks l.place.continues l.place.returns) l.until l.i l.flow

abbrev pub decreases-block-loop-i : goal.decreases-block-loop-i
decreases-block-loop-i l = l.fin - l.i

abbrev pub invariant-parts-loop-i : goal.invariant-parts-loop-i
invariant-parts-loop-i l = (keep : ℕ) → l.stop ≤ keep → Passing l.expressions.places.cells.words.now l.expressions.places.cells.tags.now l.expressions.places.starts.now l.expressions.initial.now l.initial.until l.expressions.places.count l.at l.stop keep (place_of l.place.breaks l.place.continues l.place.returns) l.until l.i l.flow

abbrev pub decreases-parts-loop-i : goal.decreases-parts-loop-i
decreases-parts-loop-i l = l.stop - l.i
