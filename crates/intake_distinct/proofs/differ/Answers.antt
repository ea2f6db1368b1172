-- `intake_distinct::differ` meets its contract: each name is none of the later ones.
use Rattle.std.proofs.Common.{rules}
use Rattle.intake_distinct.specs.Listed.{name_at}
use Rattle.intake_distinct.specs.Places.{hash}
use Rattle.intake_distinct.proofs.Places.{names, all_alone_is}
use Rattle.intake_distinct.proofs.differ.Goals as goal

pub returns : goal.returns
returns c = all_alone_is names (name_at c.args.words.now) (rw c.count.ensures.0 at c.all_alone.ensures) hash (λ j r l h. search rules) (λ j b l h. search rules)
