-- `derive_intern::equals_record` meets its contract: records of other lengths, or with other last words, are not alike; others are compared.
use mathlib.Core.Bool.{true, false}
use Rattle.std.proofs.Common.{rules}
use mathlib.Core.Path.{◌≡◌, refl, sym, ◌∙◌}
use native.Mathlib.Omega.{arith}
use borrow.Author.Tests.{eq-eqb}
use Rattle.derive_state.specs.Refers.{went_r}
use Rattle.derive_state.proofs.Passes.{compare-short}
use Rattle.derive_state.proofs.Unlike.{last_small, last_not}
use Rattle.derive_intern.proofs.equals_record.Goals.{then-n-eq0, else-n-eq0+then-derived-s, else-n-eq0+else-derived-s}
use Rattle.derive_intern.proofs.equals_record.Goals as goal

pub carried-requires : goal.carried-requires
carried-requires c = record { all = let a = c.args in let some = c.if-n-eq0.false in last_small a.original.cells.words.now a.original.cells.tags.now a.derived.now.log.now a.derived.now.logtags.now (went_r a.derived.now.maps.now) a.original.at a.original.end a.s a.original.stretch c.requires.0 c.requires.1 c.requires.2 (omega arith) a.original.small }

pub returns-else-may_equal : goal.returns-else-may_equal
returns-else-may_equal c =
    let a = c.args in
    c.if-may_equal.false
    ∙ elim c.if-n-eq0.branch [
      | then-n-eq0 w ↦ absurd (let x : true ≡ false = sym (eq-eqb _ _ w.if-n-eq0.true) ∙ sym w.may_equal-is ∙ c.if-may_equal.false in search rules)
      | else-n-eq0+then-derived-s w ↦ let some = w.if-n-eq0.false in last_not a.original.cells.words.now a.original.cells.tags.now a.derived.now.log.now a.derived.now.logtags.now (went_r a.derived.now.maps.now) a.original.at a.original.end a.s a.original.stretch c.requires.0 c.requires.1 c.requires.2 (omega arith) _ refl (w.if-derived-s.true ∙ c.len-n.ensures) _ w.carried.ensures _ (rw c.len-n.ensures at w.alike_cell.ensures) (sym w.may_equal-is ∙ c.if-may_equal.false)
      | else-n-eq0+else-derived-s w ↦ compare-short a.original.cells.words.now a.original.cells.tags.now a.derived.now.log.now a.derived.now.logtags.now (went_r a.derived.now.maps.now) a.original.at a.original.end a.s a.original.stretch a.original.small c.requires.0 c.requires.1 c.requires.2 _ refl (λ e. w.if-derived-s.false (e ∙ sym c.len-n.ensures))
    ]
