use mathlib.Core.Path.{refl}
use native.Mathlib.Omega.{arith}
use Rattle.intake_initialisers.proofs.Visiting.{found_numbers}
use Rattle.intake_initialisers.proofs.Reaching.{init_locals, init_exprs, init-after, init-end, init-count, init_most, init-empty, init_few, init-none, init_reach, init_done}
use Rattle.intake_initialisers.proofs.initialised.Goals as goal

pub offset_bounds-cells-locals : goal.offset_bounds-cells-locals
offset_bounds-cells-locals c = omega (arith, init_locals _ _ _ _ _ c.requires)

pub bounds-cells-locals : goal.bounds-cells-locals
bounds-cells-locals c = init_locals _ _ _ _ _ c.requires

pub offset_bounds-cells-exprs : goal.offset_bounds-cells-exprs
offset_bounds-cells-exprs c = omega (arith, init_exprs _ _ _ _ _ c.requires)

pub bounds-cells-exprs : goal.bounds-cells-exprs
bounds-cells-exprs c = init_exprs _ _ _ _ _ c.requires

pub returns-then-count-eq0 : goal.returns-then-count-eq0
returns-then-count-eq0 c = init-empty _ _ _ _ _ c.requires _ _ refl refl c.if-count-eq0.true

pub overflow_add-locals : goal.overflow_add-locals
overflow_add-locals c = omega (arith, init_locals _ _ _ _ _ c.requires)

pub new-visited-requires : goal.new-visited-requires
new-visited-requires c = init_most _ _ _ _ _ c.requires _ _ refl refl

pub roots-requires : goal.roots-requires
roots-requires c = record { words_len = c.requires.lists.long.words_long; locals_bound = init-count _ _ _ _ _ c.requires _ _ refl refl }

pub returns-then-visited-eq0 : goal.returns-then-visited-eq0
returns-then-visited-eq0 c = init-none _ _ _ _ _ c.requires _ _ refl refl _ c.new-visited.ensures _ c.roots.ensures c.if-visited-eq0.true

pub overflow_add-exprs : goal.overflow_add-exprs
overflow_add-exprs c = omega (arith, init_exprs _ _ _ _ _ c.requires)

pub places-requires : goal.places-requires
places-requires c = (omega arith, (c.requires.lists.long.tags_long, (init-after _ _ _ _ _ c.requires, (init-end _ _ _ _ _ c.requires, init_few _ _ _ _ _ c.requires _ _ refl refl))))

pub reach-requires : goal.reach-requires
reach-requires c = init_reach _ _ _ _ _ c.requires _ _ refl refl _ c.new-visited.ensures _ c.roots.ensures _ (found_numbers c.places.ensures)

pub returns : goal.returns
returns c = init_done _ _ _ _ _ c.requires _ _ refl refl _ c.new-visited.ensures _ c.roots.ensures _ (found_numbers c.places.ensures) _ _ c.reach.ensures
