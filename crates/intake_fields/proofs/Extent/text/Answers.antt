-- `intake_fields::text` meets its contract.
use Rattle.std.proofs.Common.{rules}
use Rattle.intake_fields.proofs.Walk.{exit, run_misfit, text_err, text_done, text-padded, text-within}
use Rattle.intake_fields.proofs.Extent.text.Goals as goal

pub returns-in_err-bytes : goal.returns-in_err-bytes
returns-in_err-bytes c = rw (exit _ c.in_err-bytes.field-0.0 c.from_residual.ensures.1) (run_misfit _ _ _ _ _ _ _ c.in_err-bytes.ensures)

pub returns-in_err-i : goal.returns-in_err-i
returns-in_err-i c = rw (exit _ c.in_err-i.field-0.0 c.from_residual-in_err-i.ensures.1) (text_err _ _ _ _ _ _ c.in_ok-bytes.ensures c.args.self.inside _ _ c.fill.ensures _ c.in_err-i.was)

pub padded-requires-clause-at_le_end : goal.padded-requires-clause-at_le_end
padded-requires-clause-at_le_end c = text-within _ _ _ _ _ _ c.in_ok-bytes.ensures c.args.self.inside _ _ c.fill.ensures _ c.in_ok-i.was

pub returns-in-0 : goal.returns-in-0
returns-in-0 c = text_done _ _ _ _ _ _ c.in_ok-bytes.ensures c.args.self.inside _ _ c.fill.ensures _ c.in_ok-i.was c.in-0.is

pub returns-in_default : goal.returns-in_default
returns-in_default c = let t = c.in_ok-bytes.ensures in let e = c.in_ok-i.was in search (text-padded, rules)
