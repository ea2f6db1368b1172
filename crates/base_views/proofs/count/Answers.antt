use Rattle.model.specs.Module.{count_at}
use borrow.Author.Rules.{rules}
use Rattle.base_views.proofs.count.Goals as goal

pub returns : goal.returns
unfolding count_at
returns c = search rules
