use mathlib.Core.Path.{◌∙◌}
use Rattle.intake_blocks.proofs.Bodies.{cleared, body_is}
use Rattle.intake_blocks.proofs.Answers.{block_here}
use Rattle.intake_blocks.proofs.body.Goals as goal

pub returns : goal.returns
returns c =
    let few = c.args.expressions.places.placed.few in
    c.is_some.ensures ∙ body_is _ _ _ _ _ _ _ _ _ (block_here c.args.expressions c.requires) (cleared _ _ _ c.told-until few (c.fill.ensures.after (λ y q. q))) _ c.block.ensures
