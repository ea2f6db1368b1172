use mathlib.Core.Path.{◌∙◌}
use borrow.Author.Tests.{tests}
use Rattle.std.proofs.Common.{rules}
use Rattle.std.proofs.lemmas.Iterator.{YieldsList-from_slice}
use Rattle.std.proofs.lemmas.Iterator.Search.{find_from_yields_List}
use Rattle.program_streams.proofs.Numbers.{all, has_number, number_is}
use Rattle.program_streams.proofs.refusal_of_number.Goals as goal

pub returns : goal.returns
returns c =
    let first = find_from_yields_List (has_number c.args.k) _ _ c.find.result c.find.ensures.ran (YieldsList-from_slice all cc) (λ x b q k. search (rules, tests)) in
    number_is c.args.k c.copied.result (c.copied.ensures ∙ first)
