-- `intake_layout::section::Section::special` meets its contract.
use Rattle.std.proofs.Common.{rules}
use Rattle.intake_fields.specs.Rows.{SIZE, RAYS_ROW, PAIR_ROW}
use Rattle.intake_fields.proofs.Walk.{exit}
use Rattle.intake_layout.proofs.Extents.{special_err, special-within, special_fits, special-short, pairs_err}
use Rattle.intake_layout.proofs.section.Section.special.Goals as goal

pub row-requires-clause-pc_bound : goal.row-requires-clause-pc_bound
unfolding SIZE RAYS_ROW
row-requires-clause-pc_bound c = search rules

pub returns-in_err-pairs : goal.returns-in_err-pairs
unfolding SIZE RAYS_ROW
returns-in_err-pairs c = let w = c.in_err-pairs.was in rw (exit _ c.in_err-pairs.field-0.0 c.from_residual.ensures.1) (search (special_err, rules))

pub times-requires-clause-at_le_end : goal.times-requires-clause-at_le_end
unfolding SIZE RAYS_ROW
times-requires-clause-at_le_end c = let w = c.in_ok-pairs.was in search (special-within, rules)

pub times-requires-clause-pc_bound : goal.times-requires-clause-pc_bound
unfolding SIZE PAIR_ROW
times-requires-clause-pc_bound c = search rules

pub returns-in_err-end : goal.returns-in_err-end
unfolding SIZE RAYS_ROW PAIR_ROW
returns-in_err-end c = let v = c.in_ok-pairs.was in let w = c.in_err-end.was in rw (exit _ c.in_err-end.field-0.0 c.from_residual-in_err-end.ensures.1) (search (pairs_err, rules))

pub returns-then-end-self : goal.returns-then-end-self
unfolding SIZE RAYS_ROW PAIR_ROW
returns-then-end-self c = let v = c.in_ok-pairs.was in let w = c.in_ok-end.was in search (special_fits, rules)

pub returns-else-end-self : goal.returns-else-end-self
unfolding SIZE RAYS_ROW PAIR_ROW
returns-else-end-self c = let v = c.in_ok-pairs.was in let w = c.in_ok-end.was in search (special-short, rules)
