-- `span_undefined` meets its contract: a span is undefined where its start and the word after it are 0.
use mathlib.Core.Path.{sym, ap, ◌∙◌}
use Prim.Native.Nat.{ℕ}
use lib.ListN.{get_or}
use Rattle.model.specs.References.{target, undefined_at}
use Rattle.derive_state.proofs.Classes.{undefined-other}
use Rattle.function_runs.proofs.Firsts.{first_some, first-none}
use Rattle.function_runs.proofs.span_undefined.Goals.{then-s-eq-SPAN+then-i-end, else-s-eq-SPAN, else-s-eq-SPAN-via-then-s-eq-SPAN+else-i-end, else-s-eq-SPAN-via-else-s-eq-SPAN}
use Rattle.function_runs.proofs.span_undefined.Goals as goal

pub returns : goal.returns
returns c =
    let a = c.args in
    let S = c.requires.0 in
    c.undefined_at.ensures
    ∙ elim c.if-s-eq-SPAN.branch [
      | then-s-eq-SPAN+then-i-end w ↦ ap (λ (x : ℕ). undefined_at (target (get_or a.cells.tags.now a.i 0)) (get_or a.cells.words.now a.i 0) x a.u) (w.next-is ∙ first_some a.cells.tags.now a.cells.words.now a.i a.end w.if-i-end.true S.in_tags S.in_words)
      | else-s-eq-SPAN w ↦ elim w.else-s-eq-SPAN.branch [
        | else-s-eq-SPAN-via-then-s-eq-SPAN+else-i-end v ↦ ap (λ (x : ℕ). undefined_at (target (get_or a.cells.tags.now a.i 0)) (get_or a.cells.words.now a.i 0) x a.u) (w.next-is ∙ first-none a.cells.tags.now a.cells.words.now a.i a.end v.if-i-end.false)
        | else-s-eq-SPAN-via-else-s-eq-SPAN v ↦ sym (undefined-other (get_or a.cells.tags.now a.i 0) (get_or a.cells.words.now a.i 0) _ a.u v.if-s-eq-SPAN.false) ∙ undefined-other (get_or a.cells.tags.now a.i 0) (get_or a.cells.words.now a.i 0) _ a.u v.if-s-eq-SPAN.false
      ]
    ]
