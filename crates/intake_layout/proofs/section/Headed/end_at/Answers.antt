-- `intake_layout::section::Headed::end_at` meets its contract.
use Rattle.std.proofs.Common.{rules}
use Rattle.intake_layout.proofs.Header.{end_at_last, end_at_next}
use Rattle.intake_layout.proofs.section.Headed.end_at.Goals as goal

pub returns-then-k-eq-SPECIAL : goal.returns-then-k-eq-SPECIAL
returns-then-k-eq-SPECIAL c = end_at_last c.args.self.extent.words.now c.args.self.extent.end c.args.k c.args.self.header c.args.self.extent.inside c.args.self.extent.few c.if-k-eq-SPECIAL.true

pub returns-else-k-eq-SPECIAL : goal.returns-else-k-eq-SPECIAL
returns-else-k-eq-SPECIAL c = rw c.offset.ensures.0 (end_at_next c.args.self.extent.words.now c.args.self.extent.end c.args.k c.args.self.header c.args.self.extent.inside c.requires c.if-k-eq-SPECIAL.false (rw c.offset.ensures.0 at c.offset.ensures.1))
