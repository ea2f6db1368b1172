use Rattle.std.proofs.Common.{rules, arith}
use Rattle.base_views.proofs.Limits.{limit-six, limit-seven, limit-other}
use Rattle.base_views.proofs.limit.Goals as goal

pub returns-in-6 : goal.returns-in-6
returns-in-6 c = (limit-six _ c.in-6.is, omega arith)

pub returns-in-7 : goal.returns-in-7
returns-in-7 c = (limit-seven _ c.in-7.is, omega arith)

pub returns-in_default : goal.returns-in_default
returns-in_default c = (search (limit-other, rules), omega arith)
