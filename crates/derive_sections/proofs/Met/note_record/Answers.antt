use Rattle.derive_sections.proofs.Notes.{noting_begin, noting_low, noting_next, noting_done}
use borrow.Author.Rules.{rules}
use Rattle.derive_sections.proofs.Met.note_record.Goals as goal

pub loop-j-init : goal.loop-j-init
loop-j-init g c = search (noting_begin, rules)

pub note_word-requires : goal.note_word-requires
note_word-requires g c = search (noting_low, rules)

pub loop-j-preserved : goal.loop-j-preserved
loop-j-preserved g c = search (noting_next, rules)

pub returns : goal.returns
returns g c = search (noting_done, rules)
