use Rattle.derive_sections.proofs.Writes.{start_in, offering_begin, offering_next, offering_done}
use borrow.Author.Rules.{rules}
use Rattle.derive_sections.proofs.Table.write_offsets.Goals as goal

pub loop-j-init : goal.loop-j-init
loop-j-init c = search (offering_begin, rules)

pub bounds-self-s : goal.bounds-self-s
bounds-self-s c = search (start_in, rules)

pub loop-j-preserved : goal.loop-j-preserved
loop-j-preserved c = search (offering_next, rules)

pub returns : goal.returns
returns c = search (offering_done, rules)
