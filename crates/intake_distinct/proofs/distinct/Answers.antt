-- `intake_distinct::distinct` meets its contract: each is none of the later ones.
use Rattle.std.proofs.Common.{rules}
use Rattle.intake_distinct.specs.Listed.{number_at}
use Rattle.intake_distinct.proofs.Places.{numbers, all_alone_is}
use Rattle.intake_distinct.proofs.distinct.Goals as goal

pub returns : goal.returns
returns c = all_alone_is numbers (number_at c.args.words.now c.args.k) (rw c.count.ensures.0 at c.all_alone.ensures) (λ x. x) (λ j r l h. search rules) (λ j b l h. search rules)
