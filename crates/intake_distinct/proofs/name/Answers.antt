-- `intake_distinct::name` meets its contract: a name is in the words, from where it starts to where it ends.
use native.Mathlib.Omega.{arith}
use borrow.Author.Rules.{rules}
use Rattle.intake_distinct.proofs.Steps.{names_inside, name_rising, name_within, name_cut}
use Rattle.intake_distinct.proofs.name.Goals as goal

pub place-start-requires : goal.place-start-requires
place-start-requires c = record { placed = c.requires.spelled.placed; j_bound = c.requires.j_bound; j_bound_2 = c.requires.j_bound_2 }

pub end_of-end-requires : goal.end_of-end-requires
end_of-end-requires c = (omega arith, c.requires.j_bound, names_inside c.requires.spelled c.requires.j_bound)

pub slice_bounds-result-count : goal.slice_bounds-result-count
slice_bounds-result-count c = name_rising c.requires.spelled c.requires.j_bound c.place-start.ensures.0 c.end_of-end.ensures.0

pub slice_bounds-result-start : goal.slice_bounds-result-start
slice_bounds-result-start c = let l = name_rising c.requires.spelled c.requires.j_bound c.place-start.ensures.0 c.end_of-end.ensures.0 in let m = name_within c.requires.spelled c.requires.j_bound c.place-start.ensures.0 c.end_of-end.ensures.0 in search rules

pub returns : goal.returns
returns c = name_cut c.requires.spelled c.requires.j_bound c.place-start.ensures.0 c.end_of-end.ensures.0
