use mathlib.Core.Path.{refl}
use Rattle.derive_sections.proofs.Writes.{copying_begin, copying_low, copying_next, copying_done}
use borrow.Author.Rules.{rules}
use Rattle.derive_sections.proofs.write_record.Goals as goal

pub loop-i-init : goal.loop-i-init
loop-i-init c = search (copying_begin, rules)

pub renamed-requires : goal.renamed-requires
renamed-requires c = search (copying_low, rules)

pub loop-i-preserved : goal.loop-i-preserved
loop-i-preserved c = search (copying_next, rules)

pub returns : goal.returns
returns c = (copying_done _ _ _ _ _ _ c.requires.rec _ _ c.loop-i.invariant c.loop-i-test.false, refl)
