-- A whole body: nothing is evaluated and nothing is in scope where it begins, since the words of its expressions are cleared.
use mathlib.Core.Path.{◌≡◌, refl, sym, ◌∙◌}
use mathlib.Core.Bool.{Bool, true, false}
use mathlib.Core.List.{List, []}
use Prim.Native.Nat.{ℕ, ◌≤◌, ◌<◌}
use native.Mathlib.Omega.{arith}
use Rattle.std.proofs.Common.{length, get_or, take, replicate, ◌++◌, length-append, length-drop, length-take-le}
use Rattle.std.proofs.lemmas.List.{get_or-replicate}
use Rattle.std.proofs.Math.ListN.{get_or-append, length-replicate}
use borrow.Rule.Slice.PartMut.{post_of}
use borrow.Author.Tests.{le-ltb}
use Rattle.model.specs.Scope.{in_body, expand, has, holds_b}
use Rattle.intake_statements.specs.Fine.{fine_b}
use Rattle.intake_statements.specs.Tape.{block_of, exprs_of, marks}
use Rattle.intake_statements.specs.Lasts.{Scope}
use Rattle.std.specs.Prelude.{is_some}
use Rattle.std.specs.declared.option.Option as code
use Rattle.intake_blocks.specs.declared.Flow.{Flow}
use Rattle.intake_blocks.specs.Found.{Cleared, told, place_of, BlockHere, FindsB, FoundB}
use Rattle.intake_statements.proofs.Scopes.{absurd_bool}

-- ---- the numbers of its expressions are 0, and the others stay
pub cleared : (u ys : List ℕ) (count : ℕ) → length u ≡ 1024 → count ≤ 1024 → ys ≡ replicate (length (take count u)) 0 → Cleared (ys ++ post_of 0 count u) count
cleared u ys count l h is =
    let n : length (take count u) ≡ count = length-take-le count u (omega arith) in
    let k : length ys ≡ count = rw (is, n) (length-replicate count 0) in
    record {
      long = length-append ys (post_of 0 count u) ∙ omega (arith, k, length-drop count u);
      none = λ e g. get_or-append ys (post_of 0 count u) 0 e (omega arith) ∙ rw (is, n) (get_or-replicate count e 0 0 g);
    }

-- ---- the pass
begins : (count at k : ℕ) (u : List ℕ) → 0 < at → Cleared u count → Scope count at k [] [] u
unfolding has
begins count at k u h cl = record {
  long = cl.long;
  later = h;
  known = λ e g. absurd_bool g refl;
  inside = λ e g. absurd_bool g refl;
  outside = λ e i g. omega (arith, cl.none e i);
  done = λ e i. sym (le-ltb 0 (get_or u e 0) (omega (arith, cl.none e i)));
}

told_is : (ok h : Bool) (r : code.Option Flow) → r ≡ told ok h → is_some r ≡ ok
unfolding told
told_is true h r e = rw e refl
told_is false h r e = rw e refl

module _ (ws ts st : List ℕ) (ini : List Bool) (u₀ u : List ℕ) (count at end : ℕ) (here : BlockHere ws ts st count at end end) (cl : Cleared u₀ count) (r : code.Option Flow) (got : FoundB ws ts st ini count at end end (place_of false false true) u₀ u r) where
  finds : FindsB ws ts st ini count at end end (place_of false false true) u₀ u r (block_of ws ts at end) [] []
  finds = got.found [] [] (begins count at end u₀ here.later cl)

  pub body_is : is_some r ≡ fine_b (exprs_of ws ts st count) (marks ws ts st count ini) (block_of ws ts at end) in_body [] []
  body_is = told_is (fine_b (exprs_of ws ts st count) (marks ws ts st count ini) (block_of ws ts at end) in_body [] []) (holds_b (expand (block_of ws ts at end) (marks ws ts st count ini))) r finds.says
