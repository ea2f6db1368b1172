-- `derive_state::hash` meets its contract: the fold over the words is the hash of what they become.
use mathlib.Core.Path.{◌≡◌, refl, ◌∙◌}
use native.Mathlib.Omega.{arith}
use borrow.Author.Tests.{tests}
use Prim.Native.Nat.{◌-◌, ◌<◌, ◌≤◌, ◌^◌}
use Rattle.std.proofs.Common.{rules}
use Rattle.std.proofs.lemmas.Fn.{serves_by}
use Rattle.std.proofs.lemmas.Iterator.{YieldsList-from_range}
use Rattle.std.proofs.lemmas.Iterator.Consumers.{fold_from_yields_List}
use Rattle.derive_state.specs.Refers.{went_r}
use Rattle.derive_state.specs.Marks.{hash_r}
use Rattle.derive_state.proofs.Passes.{hash_step, hash_fold, hash_small, range_within}
use Rattle.derive_state.proofs.hash.Goals as goal

pub fold-requires-clause-callable : goal.fold-requires-clause-callable
fold-requires-clause-callable c =
    let a = c.args in
    let r = a.original in
    serves_by _ (λ xs q. (q.0 ≡ (c.args.original.cells.words, c.args.original.cells.tags, c.args.maps)) × (q.1 < 2 ^ 24)) (λ xs q x v j k. search (rules, tests)) _ _ _ _ (refl, omega (arith, c.requires))
    (λ xs t q x u y e j.
    let w = range_within xs _ t y in
    let low : r.at ≤ x = omega (arith, w.1, e.1.1) in
    let high : x < r.end = omega (arith, w.0, e.1.0, e.1.1) in
    let s = hash_small r.cells.words.now r.cells.tags.now r.end r.stretch.in_tags r.stretch.in_words r.at x low high r.small in
    let inside : x < 16384 = omega (arith, r.stretch) in
    search (rules, tests))

pub returns : goal.returns
unfolding hash_r
returns c =
    let a = c.args in
    let r = a.original in
    fold_from_yields_List _ (hash_step r.cells.words.now r.cells.tags.now (went_r a.maps.now)) a.t c.fold.result c.fold.ensures.ran (YieldsList-from_range r.at r.end (r.end - r.at) refl refl) (λ h j b q k. search (rules, tests))
    ∙ hash_fold r.cells.words.now r.cells.tags.now (went_r a.maps.now) r.end r.stretch.in_tags r.stretch.in_words (r.end - r.at) r.at a.t (omega (arith, r.stretch.rising))
