use mathlib.Core.Path.{sym, ◌∙◌}
use Rattle.intake_initialisers.proofs.Visiting.{less_one, roots-next, roots_skip, roots_done}
use borrow.Author.Rules.{rules}
use Rattle.intake_initialisers.proofs.visited.Visited.roots.Goals.{in-Some, in_default}
use Rattle.intake_initialisers.proofs.visited.Visited.roots.Goals as goal

pub loop-j-preserved : goal.loop-j-preserved
loop-j-preserved c = elim c.match-checked_sub.branch [
  | in-Some w ↦ rw w.self-is (roots-next _ _ _ _ _ _ c.loop-j.invariant c.loop-j-test.true _ (sym w.in-Some.is ∙ less_one _ _ c.checked_sub.ensures) _ w.visit.ensures)
  | in_default w ↦ rw w.self-is (roots_skip _ _ _ _ _ _ c.loop-j.invariant c.loop-j-test.true (sym w.in_default.is ∙ less_one _ _ c.checked_sub.ensures))
]

pub returns : goal.returns
returns c = search (roots_done, rules)
