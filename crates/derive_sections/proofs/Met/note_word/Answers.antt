use mathlib.Core.Path.{refl}
use mathlib.Core.Logic.{inl, inr}
use Rattle.derive_sections.proofs.Names.{word_none, word_low, word_name}
use borrow.Author.Rules.{rules}
use Rattle.derive_sections.proofs.Met.note_word.Goals as goal
use Rattle.derive_sections.proofs.Met.note_word.Goals.{else-s-eq-NAME-via-then-s-eq-NAME+else-w-ne0, else-s-eq-NAME-via-else-s-eq-NAME}

pub note-requires : goal.note-requires
note-requires g c = search (word_low, rules)

pub returns-then-w-ne0 : goal.returns-then-w-ne0
returns-then-w-ne0 g c = let a = c.args in word_name g.names a.self.now.order a.self.now.places a.self.now.count a.s a.w c.if-s-eq-NAME.true c.if-w-ne0.true _ refl _ _ _ c.note.ensures

pub returns-else-s-eq-NAME : goal.returns-else-s-eq-NAME
returns-else-s-eq-NAME g c =
    elim c.else-s-eq-NAME.branch [
      | else-s-eq-NAME-via-then-s-eq-NAME+else-w-ne0 w ↦ word_none _ _ _ _ _ _ c.requires.1 (inr w.if-w-ne0.false)
      | else-s-eq-NAME-via-else-s-eq-NAME w ↦ word_none _ _ _ _ _ _ c.requires.1 (inl w.if-s-eq-NAME.false)
    ]
