use Rattle.derive_sections.proofs.Notes.{noting_r_begin, noting_r_rec, noting_r_next, noting_r_done}
use borrow.Author.Rules.{rules}
use Rattle.derive_sections.proofs.Met.note_table.Goals as goal

pub loop-s-init : goal.loop-s-init
loop-s-init g c = search (noting_r_begin, rules)

pub note_record-requires : goal.note_record-requires
note_record-requires g c = search (noting_r_rec, rules)

pub loop-s-preserved : goal.loop-s-preserved
loop-s-preserved g c = search (noting_r_next, rules)

pub returns : goal.returns
returns g c = search (noting_r_done, rules)
