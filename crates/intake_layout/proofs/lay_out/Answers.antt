-- `intake_layout::lay_out` meets its contract: one of four tests of the size fails, or the words are laid out.
use mathlib.Core.Path.{refl}
use Rattle.std.proofs.Common.{rules}
use Rattle.intake_layout.proofs.Laying.{size_short, size_long, size_edition, size_total, laid_out}
use Rattle.intake_layout.proofs.lay_out.Goals.{then-n-via-then-n, then-n-via-else-n+then-n-2, then-n-via-else-n+else-n-2+then-word_at-ne-EDITION, then-n-via-else-n+else-n-2+else-word_at-ne-EDITION+then-word_at-n}
use Rattle.intake_layout.proofs.lay_out.Goals as goal

pub returns-then-n : goal.returns-then-n
returns-then-n c = elim c.then-n.branch [
  | then-n-via-then-n w ↦ size_short _ _ _ _ _ w.if-n.true
  | then-n-via-else-n+then-n-2 w ↦ size_long _ _ _ _ _ w.if-n.false w.if-n-2.true
  | then-n-via-else-n+else-n-2+then-word_at-ne-EDITION w ↦ size_edition _ _ _ _ _ w.if-n.false w.if-n-2.false _ w.word_at.ensures _ refl w.if-word_at-ne-EDITION.true
  | then-n-via-else-n+else-n-2+else-word_at-ne-EDITION+then-word_at-n w ↦ size_total _ _ _ _ _ w.if-n.false w.if-n-2.false _ w.word_at.ensures _ w.word_at-else-word_at-ne-EDITION.ensures w.if-word_at-ne-EDITION.false w.if-word_at-n.true
]

pub returns : goal.returns
returns c = search (laid_out, rules)
