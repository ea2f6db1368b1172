use Rattle.base_views.proofs.LaidOut.{tape}
use Rattle.base_views.proofs.Places.{offsets-inside}
use borrow.Author.Rules.{rules}
use Rattle.base_views.proofs.Image.record_end.Goals as goal

pub end_of-requires : goal.end_of-requires
end_of-requires c = search (offsets-inside, tape c.args.self, rules)
