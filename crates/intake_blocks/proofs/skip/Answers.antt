use Rattle.intake_blocks.proofs.Answers.{skip_next, skip_done}
use borrow.Author.Rules.{rules}
use Rattle.intake_blocks.proofs.skip.Goals as goal

pub loop-preserved : goal.loop-preserved
loop-preserved c = search (skip_next, rules)

pub returns : goal.returns
returns c = search (skip_done, rules)
