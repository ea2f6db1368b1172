-- `intake_layout::section::Section::end_of` meets its contract.
use Rattle.std.proofs.Common.{rules}
use Rattle.intake_layout.proofs.Header.{end_of_some, end_of_none}
use Rattle.intake_layout.proofs.section.Section.end_of.Goals as goal

pub returns-then-j-n : goal.returns-then-j-n
returns-then-j-n c = end_of_some c.args.self.extent.words.now c.args.self.base c.args.self.extent.end c.args.n c.args.j c.requires.j_lt_n c.requires.n_bound c.args.self.extent.inside c.args.self.extent.few c.if-j-n.true (search rules)

pub returns-else-j-n : goal.returns-else-j-n
returns-else-j-n c = end_of_none c.args.self.extent.words.now c.args.self.base c.args.self.extent.end c.args.n c.args.j c.requires.j_lt_n c.requires.n_bound c.args.self.extent.inside c.args.self.extent.few c.if-j-n.false
