-- `intake_names::expressions` meets its contract: the invariant is that what is left from word i on, with the class before it and the marks, says what the whole says.
use Rattle.model.specs.Between.{between}
use Rattle.intake_names.specs.Passes.{NONE, marking}
use Rattle.intake_names.proofs.Steps.{Marked}
use Rattle.intake_names.proofs.expressions.Given as goal

abbrev pub invariant-loop-j : goal.invariant-loop-j
invariant-loop-j l = Marked l.cells.words.now l.cells.tags.now l.end (marking (between l.cells.tags.now l.cells.words.now l.at l.end) 0 NONE) l.marks l.before l.j
