use Rattle.derive_sections.proofs.Met.note_word.Given as goal

abbrev pub ghost-note : goal.ghost-note
ghost-note g a = g.names
