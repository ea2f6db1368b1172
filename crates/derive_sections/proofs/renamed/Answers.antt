use mathlib.Core.Logic.{inl, inr}
use Rattle.derive_sections.proofs.Writes.{renamed-plain, renamed_name, renamed_low}
use borrow.Author.Rules.{rules}
use Rattle.derive_sections.proofs.renamed.Goals as goal
use Rattle.derive_sections.proofs.renamed.Goals.{else-s-eq-NAME-via-then-s-eq-NAME+else-w-ne0, else-s-eq-NAME-via-else-s-eq-NAME}

pub bounds-places-w : goal.bounds-places-w
bounds-places-w c = search (renamed_low, rules)

pub returns-then-w-ne0 : goal.returns-then-w-ne0
returns-then-w-ne0 c = search (renamed_name, rules)

pub returns-else-s-eq-NAME : goal.returns-else-s-eq-NAME
returns-else-s-eq-NAME c = elim c.else-s-eq-NAME.branch [
  | else-s-eq-NAME-via-then-s-eq-NAME+else-w-ne0 w ↦ renamed-plain _ _ _ (inr w.if-w-ne0.false)
  | else-s-eq-NAME-via-else-s-eq-NAME w ↦ renamed-plain _ _ _ (inl w.if-s-eq-NAME.false)
]
