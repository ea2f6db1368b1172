use mathlib.Core.Bool.{Bool}
use Rattle.intake_numbers.specs.Passes.{Passed}
use Rattle.intake_numbers.proofs.all_functions.Given as goal

-- what is passed from here on is the whole
abbrev pub invariant-loop-i : goal.invariant-loop-i
invariant-loop-i g l = (r : Bool) (s : _) → Passed (goal.F-post g l.fine) l.image.words.now l.table l.i l.scratch r s → Passed (goal.F-post g l.fine) l.image.words.now l.table 0 l.initial.scratch r s
