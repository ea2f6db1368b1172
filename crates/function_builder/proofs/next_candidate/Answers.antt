use mathlib.Core.Path.{refl, sym, ◌∙◌}
use native.Mathlib.Nat.{le_of_lt}
use native.Mathlib.Omega.{arith}
use borrow.Author.Tests.{tests}
use Rattle.std.proofs.Common.{rules, ◌-◌}
use Rattle.std.proofs.lemmas.Iterator.{YieldsList-from_range}
use Rattle.std.proofs.lemmas.Iterator.Search.{find_from_yields_List}
use Rattle.function_builder.proofs.Sieve.{hop_none, has_word, is_candidate}
use Rattle.function_builder.proofs.next_candidate.Goals as goal

pub returns-then-is_span : goal.returns-then-is_span
returns-then-is_span c = let a = c.args in let p = c.requires in (p.2, hop_none a.stacks.now a.e1 a.made a.i a.s a.y a.k (le_of_lt p.2))

pub returns : goal.returns
returns c =
    let a = c.args in
    let p = c.requires in
    let n = sym c.is_span.ensures ∙ c.if-is_span.false in
    is_candidate a.stacks.now a.e1 a.made a.i a.s a.y a.k n (le_of_lt p.2) c.find.result (find_from_yields_List (has_word a.stacks.now a.e1 a.made a.i a.s a.y a.k n) _ _ c.find.result c.find.ensures.ran (YieldsList-from_range a.k a.made (a.made - a.k) refl (omega arith)) (λ x b q k. search (rules, tests)))
