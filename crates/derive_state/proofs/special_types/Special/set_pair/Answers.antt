use native.Mathlib.Omega.{arith}
use Rattle.derive_state.proofs.Pairs.{pair-set}
use Rattle.derive_state.proofs.special_types.Special.set_pair.Goals as goal

pub returns : goal.returns
returns c = let i = c.self.inside in rw (← c.self.view_is) (pair-set i.rays i.pairs c.args.p c.args.key c.args.number c.self.invariant.0 (omega (arith, c.self.invariant.1)))
