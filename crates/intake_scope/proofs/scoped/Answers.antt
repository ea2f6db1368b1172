-- `intake_scope::scoped` meets its contract: the pass over the body has what it requires, and its answer is the model's.
use Rattle.intake_initialisers.proofs.Visiting.{found_numbers}
use Rattle.intake_initialisers.proofs.Reaching.{init-count, init_few}
use Rattle.intake_statements.proofs.Laid.{read_back}
use Rattle.intake_blocks.proofs.Answers.{block_asks}
use Rattle.intake_scope.proofs.Whole.{known-listed, known_low, known_ends, known_few, known_reach, known-laid, known-named, known-body, known-scoped}
use mathlib.Core.Path.{refl}
use native.Mathlib.Omega.{arith}
use borrow.Author.Rules.{rules}
use Rattle.intake_scope.proofs.scoped.Goals as goal

pub offset_bounds-cells-locals : goal.offset_bounds-cells-locals
offset_bounds-cells-locals c = let h = known_low _ _ _ _ _ c.requires in search rules

pub bounds-cells-locals : goal.bounds-cells-locals
bounds-cells-locals c = let h = known_low _ _ _ _ _ c.requires in search rules

pub offset_bounds-cells-exprs : goal.offset_bounds-cells-exprs
offset_bounds-cells-exprs c = let h = known_low _ _ _ _ _ c.requires in search rules

pub bounds-cells-exprs : goal.bounds-cells-exprs
bounds-cells-exprs c = let h = known_low _ _ _ _ _ c.requires in search rules

pub overflow_add-exprs : goal.overflow_add-exprs
overflow_add-exprs c = let h = known_low _ _ _ _ _ c.requires in search rules

pub places-requires : goal.places-requires
places-requires c = let e = known_ends _ _ _ _ _ c.requires in (omega arith, (c.requires.lists.long.tags_long, (e.0, (e.1, init_few _ _ _ _ _ (known-listed _ _ _ _ _ c.requires) _ _ refl refl))))

pub overflow_add-locals : goal.overflow_add-locals
overflow_add-locals c = let h = known_low _ _ _ _ _ c.requires in search rules

pub begin-requires : goal.begin-requires
begin-requires c = known_few _ _ _ _ _ c.requires _ _ refl refl

pub roots-requires-clause-locals_bound : goal.roots-requires-clause-locals_bound
roots-requires-clause-locals_bound c = init-count _ _ _ _ _ (known-listed _ _ _ _ _ c.requires) _ _ refl refl

pub reach-requires : goal.reach-requires
reach-requires c = known_reach _ _ _ _ _ c.requires _ _ refl refl c.args.scratch.now.starts (omega arith) _ (found_numbers c.places.ensures) _ c.begin.ensures _ c.roots.ensures

pub bounds-scratch-e : goal.bounds-scratch-e
bounds-scratch-e c = let h = known_few _ _ _ _ _ c.requires _ _ refl refl in search rules

pub bounds-cells-named : goal.bounds-cells-named
bounds-cells-named c = known-named _ _ _ _ _ c.requires _ _ refl refl c.args.scratch.now.starts (omega arith) _ (found_numbers c.places.ensures) _ refl

pub invariant_of-places : goal.invariant_of-places
invariant_of-places c = record { placed = (known-laid _ _ _ _ _ c.requires _ _ refl refl c.args.scratch.now.starts (omega arith) _ (found_numbers c.places.ensures)).placed }

pub invariant_of-expressions : goal.invariant_of-expressions
invariant_of-expressions c = record { read_back = read_back (known-laid _ _ _ _ _ c.requires _ _ refl refl c.args.scratch.now.starts (omega arith) _ (found_numbers c.places.ensures)) }

pub body-requires : goal.body-requires
body-requires c = block_asks _ (known-body _ _ _ _ _ c.requires _ _ refl refl c.args.scratch.now.starts (omega arith) _ (found_numbers c.places.ensures) _ c.begin.ensures _ c.roots.ensures _ refl _ refl)

pub returns : goal.returns
returns c = known-scoped _ _ _ _ _ c.requires _ _ refl refl c.args.scratch.now.starts (omega arith) _ (found_numbers c.places.ensures) _ c.begin.ensures _ c.roots.ensures _ refl _ refl _ _ c.reach.ensures _ c.body.ensures
