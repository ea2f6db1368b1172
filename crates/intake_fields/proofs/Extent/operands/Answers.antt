-- `intake_fields::operands` meets its contract.
use Rattle.std.proofs.Common.{rules}
use Rattle.intake_fields.proofs.Walk.{exit, run_misfit, operands-walk}
use Rattle.intake_fields.proofs.Extent.operands.Goals as goal

pub returns-in_err-n : goal.returns-in_err-n
returns-in_err-n c = rw (exit _ c.in_err-n.field-0.0 c.from_residual.ensures.1) (run_misfit _ _ _ _ _ _ _ c.in_err-n.ensures)

pub returns : goal.returns
returns c = let t = c.in_ok-n.ensures in search (operands-walk, rules)
