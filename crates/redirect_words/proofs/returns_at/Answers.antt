use Rattle.model.specs.FunctionView.{returns_at}
use mathlib.Core.Path.{ap, ◌∙◌}
use Rattle.redirect_words.proofs.Finding.{lists_in}
use Rattle.redirect_words.proofs.returns_at.Goals as goal

pub returns_at-requires : goal.returns_at-requires
returns_at-requires c = lists_in c.args.image c.requires _ c.start.ensures

pub returns : goal.returns
returns c = (c.returns_at.ensures.0 ∙ ap (λ s. returns_at s c.args.image.words.now) c.start.ensures, c.returns_at.ensures.1)
