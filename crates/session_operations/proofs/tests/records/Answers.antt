-- A session in arrays of zeros is a new one, so that its first operation may be called.
use mathlib.Core.Path.{ap}
use Rattle.derive_state.specs.Sizes.{going}
use Rattle.derive_session.specs.Fresh.{valid_new, zeros}
use Rattle.session_operations.proofs.tests.records.Goals as goal

pub set_shader_source-source-requires : goal.set_shader_source-source-requires
set_shader_source-source-requires g c = rw (c.new-special.ensures, ap going c.empty.ensures) (valid_new zeros 0 0)
