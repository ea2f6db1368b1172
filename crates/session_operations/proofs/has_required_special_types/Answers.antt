use borrow.Author.Tests.{ne_eqb}
use Rattle.derive_state.specs.Sizes.{going}
use Rattle.session_operations.proofs.Plain.{by-pairs, by_rays}
use Rattle.session_operations.proofs.has_required_special_types.Goals as goal

pub returns-then-ends-ne0 : goal.returns-then-ends-ne0
returns-then-ends-ne0 c = let a = c.args in rw (ne_eqb a.ends.pairs 0 c.if-ends-ne0.true) (by-pairs a.special.now (going a.ends) c.if-ends-ne0.true)

pub returns-else-ends-ne0 : goal.returns-else-ends-ne0
returns-else-ends-ne0 c = let a = c.args in by_rays a.special.now (going a.ends) c.if-ends-ne0.false c.has_ray.result c.has_ray.ensures
