use Rattle.model.specs.Module.{offset_at}
use borrow.Author.Rules.{rules}
use Rattle.base_views.proofs.offset.Goals as goal

pub returns : goal.returns
unfolding offset_at
returns c = search rules
