use borrow.Author.Rules.{rules}
use borrow.Author.Tests.{tests}
use mathlib.Core.Bool.{◌&&◌}
use mathlib.Core.Path.{refl, ◌∙◌}
use Prim.Native.Nat.{◌+◌, ◌-◌}
use lib.ListN.{get_or}
use Rattle.std.proofs.lemmas.Iterator.{YieldsList-from_range}
use Rattle.std.proofs.lemmas.Iterator.Search.{all_from_yields_List}
use Rattle.model.specs.Numbers.{bound, below, rising}
use Rattle.model.specs.Between.{between}
use Rattle.intake_ranges.proofs.Ranging.{tested, all_ordered}
use Rattle.intake_ranges.proofs.Bounds.function_in_range.Goals as goal

pub returns : goal.returns
returns c = let a = c.args in record {
  same = λ b e.
      all_from_yields_List (λ j. below (bound b (get_or a.cells.tags.now j 0)) (get_or a.cells.words.now j 0) && rising (get_or a.cells.tags.now j 0, get_or a.cells.words.now j 0) (between a.cells.tags.now a.cells.words.now (j + 1) a.end)) _ _ c.all.result c.all.ensures.ran (YieldsList-from_range a.at a.end (a.end - a.at) refl refl) (λ x v q k. let g = tested a.cells.words.now a.cells.tags.now a.self.now.below b e x in search (g, rules, tests))
      ∙ all_ordered a.cells.words.now a.cells.tags.now b a.end a.cells.long c.requires.end_bound a.at c.requires.at_le_end;
}
