use native.Mathlib.Omega.{arith}
use mathlib.Core.Path.{refl, ◌∙◌}
use lib.ListN.{get_or}
use borrow.Author.Tests.{tests}
use Rattle.std.proofs.Common.{rules}
use Rattle.std.proofs.lemmas.Iterator.{YieldsList-from_range}
use Rattle.std.proofs.lemmas.Iterator.Search.{all_from_yields_List}
use Rattle.model.specs.Operands.{constant_kind}
use Rattle.model.specs.View.{record_at}
use Rattle.intake_numbers.proofs.Tabling.{kinds_are}
use Rattle.intake_numbers.proofs.kinds.Goals as goal

pub returns : goal.returns
returns c = record {
  same = λ m tp.
      all_from_yields_List (λ j. constant_kind (get_or c.args.image.words.now (record_at 5 j c.args.image.words.now) 0)) _ _ c.all.result c.all.ensures.ran (YieldsList-from_range 0 c.count.result c.count.result refl (omega arith)) (λ x v q k. search (rules, tests))
      ∙ kinds_are c.args.image.words.now c.args.image.tags.now c.args.image.n tp c.count.result c.count.ensures.0;
}
