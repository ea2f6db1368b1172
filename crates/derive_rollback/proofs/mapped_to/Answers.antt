use Rattle.derive_rollback.proofs.Answer.{answers}
use Rattle.derive_rollback.proofs.mapped_to.Goals as goal

pub returns : goal.returns
returns c = answers c.args.maps.now c.args.r.table c.args.r.number _ c.requires.0 (c.number_of.ensures)
