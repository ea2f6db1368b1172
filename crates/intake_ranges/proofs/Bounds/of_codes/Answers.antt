-- `Bounds::of_codes` meets its contract: the codes are stored in their order (`Coded`).
use Rattle.intake_ranges.proofs.Codes.{coded-first, coded-next, coded-last}
use borrow.Author.Rules.{rules}
use Rattle.intake_ranges.proofs.Bounds.of_codes.Goals as goal

pub loop-i-init : goal.loop-i-init
loop-i-init c = coded-first

pub loop-i-preserved : goal.loop-i-preserved
loop-i-preserved c = search (coded-next, rules)

pub returns : goal.returns
returns c = search (coded-last, rules)
