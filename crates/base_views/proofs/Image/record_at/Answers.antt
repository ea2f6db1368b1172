use Rattle.base_views.proofs.LaidOut.{tape}
use Rattle.base_views.proofs.Places.{offset_inside}
use borrow.Author.Rules.{rules}
use Rattle.base_views.proofs.Image.record_at.Goals as goal

pub start_of-requires : goal.start_of-requires
start_of-requires c = search (offset_inside, tape c.args.self, rules)
