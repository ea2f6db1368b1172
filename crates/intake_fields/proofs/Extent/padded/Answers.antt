-- `intake_fields::padded` meets its contract.
use Rattle.std.proofs.Common.{arith}
use Rattle.intake_fields.proofs.Walk.{exit, run_misfit, pad_wrong, pad_right, below_pad}
use Rattle.intake_fields.proofs.Extent.padded.Goals as goal

pub returns-in_err-last : goal.returns-in_err-last
returns-in_err-last c = rw (exit _ c.in_err-last.field-0.0 c.from_residual.ensures.1) (run_misfit _ _ _ _ _ _ _ c.in_err-last.ensures)

pub returns-then-most-last : goal.returns-then-most-last
returns-then-most-last c = pad_wrong c.args.self.words.now c.args.tags.now c.args.at c.args.self.end c.args.k c.requires.k_nonzero.0 c.requires.k_nonzero.1 c.args.self.inside _ _ (omega arith) (below_pad c.args.k c.requires.k_nonzero.0 c.requires.k_nonzero.1) _ _ c.in_ok-last.ensures c.if-most-last.true

pub returns : goal.returns
returns c = pad_right c.args.self.words.now c.args.tags.now c.args.at c.args.self.end c.args.k c.requires.k_nonzero.0 c.requires.k_nonzero.1 c.args.self.inside _ _ (omega arith) (below_pad c.args.k c.requires.k_nonzero.0 c.requires.k_nonzero.1) _ _ c.in_ok-last.ensures c.if-most-last.false
