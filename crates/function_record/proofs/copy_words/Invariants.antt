-- `copy_words` meets its contract: what is left to copy from here is the whole.
use Rattle.derive_state.specs.Held.{row}
use Rattle.function_record.proofs.Copying.{Copying}
use Rattle.function_record.proofs.copy_words.Given as goal

abbrev pub invariant-loop-j : goal.invariant-loop-j
invariant-loop-j l = Copying (row l.stacks l.t) l.a l.count l.initial.log l.p l.log l.j
