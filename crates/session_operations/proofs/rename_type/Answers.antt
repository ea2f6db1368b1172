-- `rename_type` meets its contract: without a source, outside of types or of names, full, or imported.
use mathlib.Core.Bool.{true, false}
use mathlib.Core.Logic.{inl, inr}
use mathlib.Core.Path.{refl}
use native.Mathlib.Omega.{arith}
use Rattle.derive_imports.proofs.Sources.{small_number}
use Rattle.session_operations.proofs.Importing.{below, source-held, rename_unset, rename-none, rename_no_name, rename_full, rename-room}
use Rattle.std.proofs.lemmas.Result.{err_from_is_err_and}
use Rattle.session_operations.proofs.Memory.{memory_same, set_not, set_ground}
use Rattle.session_operations.specs.Theorems.{operates_valid}
use Rattle.session_operations.proofs.rename_type.Goals as goal

pub returns-in_err-source-clause-operates : goal.returns-in_err-source-clause-operates
returns-in_err-source-clause-operates c =
    let p = err_from_is_err_and c.from_residual.result c.from_residual.ensures.1 in
    let a = c.args in
    elim c.in_err-source.ensures [
      | inl q ↦ (let L = rw q.0 at c.requires in let zz = rename_unset _ _ _ _ _ _ _ _ _ _ _ a.h.0 a.name false L refl in rw (p.1, p.2, q.1) (record { does = rw q.0 zz.0; valid = c.requires; same = memory_same _ }))
      | inr q ↦ (let zz = rename-none _ _ _ _ _ _ _ _ _ _ _ _ c.requires (set_not q.0) a.h.0 a.name _ _ refl refl (rw c.from-r.ensures at q.1) in rw (p.1, p.2, q.2) (record { does = zz.0; valid = c.requires; same = memory_same _ }))
    ]

pub source_with-requires-clause-passed : goal.source_with-requires-clause-passed
source_with-requires-clause-passed c = set_ground c.args.session.now c.requires

pub returns-then-count-name-clause-operates : goal.returns-then-count-name-clause-operates
returns-then-count-name-clause-operates c = let L = rw c.in_ok-source.ensures.0 at c.requires in let zz = rename_no_name _ _ _ _ _ _ _ _ _ _ _ true L refl c.args.h.0 c.args.name (rw c.from-r.ensures at c.in_ok-source.ensures.3) _ _ (rw c.in_ok-source.ensures.1 at c.count.ensures.0) refl c.if-count-name.true in record { does = rw c.in_ok-source.ensures.0 zz.0; valid = c.requires; same = memory_same _ }

pub rename_type-requires-clause-h_bound : goal.rename_type-requires-clause-h_bound
rename_type-requires-clause-h_bound c = rw (c.source.ensures.0, c.in_ok-source.ensures.1) ((rw c.from-r.ensures at c.in_ok-source.ensures.3), below (rw c.in_ok-source.ensures.1 at c.count.ensures.0) refl c.if-count-name.false)

pub returns-in_err-sizes-clause-operates : goal.returns-in_err-sizes-clause-operates
returns-in_err-sizes-clause-operates c = let p = err_from_is_err_and c.from_residual-in_err-sizes.result c.from_residual-in_err-sizes.ensures.1 in let o = c.in_ok-source.ensures in let a = c.args in let L = rw c.in_ok-source.ensures.0 at c.requires in let zz = rename_full _ _ _ _ _ _ _ _ _ _ _ a.h.0 a.name _ _ _ _ _ _ true L refl (rw c.from-r.ensures at c.in_ok-source.ensures.3) (below (rw c.in_ok-source.ensures.1 at c.count.ensures.0) refl c.if-count-name.false) (rw (c.source.ensures.0, c.source.ensures.1, o.1) at c.in_err-sizes.ensures.does) refl in rw (p.1, p.2) (record { does = rw c.in_ok-source.ensures.0 zz.0; valid = rw c.in_ok-source.ensures.0 zz.1; same = record { words_same = refl; tags_same = refl; derived_same = c.rename_type.ensures.same; special_same = refl; stacks_same = refl } })

pub mapped_to-requires : goal.mapped_to-requires
mapped_to-requires c = let a = c.args in let L = rw c.in_ok-source.ensures.0 at c.requires in rw c.from-r.ensures (omega arith, small_number _ _ _ (source-held _ _ _ _ _ _ _ _ _ _ _ true L refl) 1 a.h.0 (omega arith) (rw c.from-r.ensures at c.in_ok-source.ensures.3))

pub returns-clause-operates : goal.returns-clause-operates
returns-clause-operates c = let o = c.in_ok-source.ensures in let a = c.args in let L = rw c.in_ok-source.ensures.0 at c.requires in let v = c.view.ensures in let zz = rename-room _ _ _ _ _ _ _ _ _ _ _ a.h.0 a.name _ _ _ _ _ _ true L refl (rw c.from-r.ensures at c.in_ok-source.ensures.3) (below (rw c.in_ok-source.ensures.1 at c.count.ensures.0) refl c.if-count-name.false) (rw (c.source.ensures.0, c.source.ensures.1, o.1) at c.in_ok-sizes.ensures.does) refl _ (rw (v.3, c.from-r.ensures) at c.mapped_to.ensures) in record { does = rw c.in_ok-source.ensures.0 zz.0; valid = rw c.in_ok-source.ensures.0 zz.1; same = record { words_same = refl; tags_same = refl; derived_same = c.rename_type.ensures.same; special_same = refl; stacks_same = refl } }

pub returns-in_err-source-clause-valid : goal.returns-in_err-source-clause-valid
returns-in_err-source-clause-valid c = λ v. operates_valid v refl (returns-in_err-source-clause-operates c)

pub returns-then-count-name-clause-valid : goal.returns-then-count-name-clause-valid
returns-then-count-name-clause-valid c = λ v. operates_valid v refl (returns-then-count-name-clause-operates c)

pub returns-in_err-sizes-clause-valid : goal.returns-in_err-sizes-clause-valid
returns-in_err-sizes-clause-valid c = λ v. operates_valid v refl (returns-in_err-sizes-clause-operates c)

pub returns-clause-valid : goal.returns-clause-valid
returns-clause-valid c = λ v. operates_valid v refl (returns-clause-operates c)
