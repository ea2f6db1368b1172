use mathlib.Core.Path.{◌∙◌}
use native.Mathlib.Omega.{arith}
use Rattle.base_views.proofs.Places.{returns-inside, returns_is}
use Rattle.base_views.proofs.returns_at.Goals as goal

pub argument_at-requires : goal.argument_at-requires
argument_at-requires c = omega (arith, returns_is _ _ c.requires _ c.arguments.ensures.0, returns-inside _ _ c.requires)

pub returns : goal.returns
returns c = let e = c.argument_at.ensures ∙ returns_is _ _ c.requires _ c.arguments.ensures.0 in (e, omega (arith, returns-inside _ _ c.requires))
