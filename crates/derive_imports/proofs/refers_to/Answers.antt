-- `refers_to` meets its contract: nothing, a record, or an expression, which is a global one.
use Rattle.std.proofs.Common.{arith}
use Rattle.model.specs.References.{target}
use Rattle.derive_imports.proofs.Referring.{record_told, own_told, none_told}
use Rattle.derive_imports.proofs.refers_to.Goals as goal

pub returns-in_err-r : goal.returns-in_err-r
returns-in_err-r c = rw c.from_residual.ensures (none_told (target c.args.s) c.args.w c.in_err-r.ensures)

pub returns-in-Record : goal.returns-in-Record
returns-in-Record c = record_told (target c.args.s) c.args.w (rw c.in-Record.is at c.in_ok-r.ensures)

pub returns-in-Own : goal.returns-in-Own
returns-in-Own c = let z = own_told (target c.args.s) c.args.w (rw c.in-Own.is at c.in_ok-r.ensures) in (z.0, z.1, omega arith)
