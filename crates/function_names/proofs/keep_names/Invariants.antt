-- The named expressions that stay: the loop passes one record at a turn.
use Rattle.function_names.proofs.Keeping.{Keeping}
use Rattle.derive_state.specs.Sizes.{going}
use Rattle.function_names.proofs.keep_names.Given as goal

abbrev pub invariant-loop-i : goal.invariant-loop-i
invariant-loop-i l = Keeping l.words l.exprmap l.at l.initial.stacks (going l.initial.e) l.stacks l.seats (going l.e) l.i
