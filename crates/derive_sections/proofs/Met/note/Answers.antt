use Rattle.derive_sections.proofs.Names.{note_same, note_room, note_new}
use Rattle.derive_sections.proofs.Met.note.Goals as goal

pub returns-then-self-m-ne0 : goal.returns-then-self-m-ne0
returns-then-self-m-ne0 g c = note_same _ _ _ _ _ c.requires.1 c.if-self-m-ne0.true

pub bounds-self-self : goal.bounds-self-self
bounds-self-self g c = note_room _ _ _ _ _ c.requires.1 c.requires.0 c.if-self-m-ne0.false

pub returns : goal.returns
returns g c = note_new _ _ _ _ _ c.requires.1 c.requires.0 c.if-self-m-ne0.false
