use Rattle.intake_numbers.proofs.Framing.{function-inside}
use Rattle.intake_scope.proofs.Whole.{stated_framed, stated-known}
use Rattle.intake_scope.proofs.function.Goals as goal

pub locals_at-locals-requires : goal.locals_at-locals-requires
locals_at-locals-requires c = function-inside _ _ _ _ _ (stated_framed _ _ _ _ _ c.requires)

pub expressions_at-exprs-requires : goal.expressions_at-exprs-requires
expressions_at-exprs-requires c = function-inside _ _ _ _ _ (stated_framed _ _ _ _ _ c.requires)

pub scoped-requires : goal.scoped-requires
scoped-requires c = stated-known _ _ _ _ _ c.requires _ _ c.locals_at-locals.ensures.0 c.expressions_at-exprs.ensures.0
