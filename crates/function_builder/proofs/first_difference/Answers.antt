-- `function_builder::first_difference` meets its contract: the word that the library's search finds differs, and where it finds none all are alike.
use mathlib.Core.Path.{◌≡◌, refl}
use native.Mathlib.Omega.{arith}
use borrow.Author.Tests.{tests}
use Prim.Native.Nat.{◌+◌, ◌-◌, ◌<◌}
use Rattle.std.proofs.Common.{rules}
use Rattle.std.proofs.lemmas.Iterator.{YieldsList-from_range, serves_from_Range}
use Rattle.std.proofs.lemmas.Iterator.Search.{find_from_yields_List}
use Rattle.derive_state.specs.Held.{row}
use Rattle.derive_state.specs.Sizes.{going}
use Rattle.function_builder.specs.Stacks.{went_of}
use Rattle.function_builder.proofs.Differs.{differs, first_differs}
use Rattle.function_builder.proofs.first_difference.Goals as goal

pub find-requires-clause-callable : goal.find-requires-clause-callable
find-requires-clause-callable c =
    serves_from_Range (λ x q k. search (rules, tests)) (λ x lo hi.
    let a = c.args in
    let q = c.requires.stacks in
    let z = a.piece.now.legible.stretch.small in
    let inside : x < 16384 = omega arith in
    let level : a.a + (x - a.piece.now.at) < 16384 = omega (arith, q.1) in
    search (rules, tests))

pub returns : goal.returns
returns c =
    let a = c.args in
    let L = a.piece.now.legible in
    let q = c.requires.stacks in
    let b = a.a + (a.piece.now.end - a.piece.now.at) in
    let even : b - a.a ≡ a.piece.now.end - a.piece.now.at = omega arith in
    let words = row a.stacks.now 0 in
    let tags = row a.stacks.now 1 in
    let words_long = q.0.rows 0 (omega arith) in
    let tags_long = q.0.rows 1 (omega arith) in
    let went = went_of a.piece.now.source.image.words.now a.piece.now.source.image.n a.derived.view.now.log.now a.derived.view.now.logtags.now a.derived.view.now.starts.now a.derived.view.now.maps.now (going a.derived.view.now.sizes) a.exprmap.now in
    let differs_here = differs a.piece.now.source.image.words.now a.piece.now.source.image.tags.now words tags went a.piece.now.at a.piece.now.end a.a b L (omega arith) q.1 words_long tags_long even in
    first_differs a.piece.now.source.image.words.now a.piece.now.source.image.tags.now words tags went a.piece.now.at a.piece.now.end a.a b L (omega arith) q.1 words_long tags_long even c.find.result (find_from_yields_List differs_here _ _ c.find.result c.find.ensures.ran (YieldsList-from_range a.piece.now.at a.piece.now.end (a.piece.now.end - a.piece.now.at) refl (omega arith)) (λ x b q k. search (rules, tests)))
