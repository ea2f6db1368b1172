use mathlib.Core.Path.{sym, ◌∙◌}
use Rattle.intake_initialisers.proofs.Visiting.{spread_next, spread_skip, spread_done}
use borrow.Author.Rules.{rules}
use Rattle.intake_initialisers.proofs.visited.Visited.spread.Goals.{in-Some, in_default}
use Rattle.intake_initialisers.proofs.visited.Visited.spread.Goals as goal

pub loop-j-preserved : goal.loop-j-preserved
loop-j-preserved c = elim c.match-operand.branch [
  | in-Some w ↦ rw w.self-is (spread_next _ _ _ _ _ _ _ c.loop-j.invariant c.loop-j-test.true c.args.cells.long c.requires.end_bound _ (sym w.in-Some.is ∙ c.operand.ensures) _ w.visit.ensures)
  | in_default w ↦ rw w.self-is (spread_skip _ _ _ _ _ _ _ c.loop-j.invariant c.loop-j-test.true c.args.cells.long c.requires.end_bound (sym w.in_default.is ∙ c.operand.ensures))
]

pub returns : goal.returns
returns c = search (spread_done, rules)
