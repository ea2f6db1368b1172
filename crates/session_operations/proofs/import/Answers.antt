-- `import` meets its contract: without a source, outside of the table, full, or imported.
use mathlib.Core.Bool.{true, false}
use mathlib.Core.Logic.{inl, inr}
use mathlib.Core.Path.{refl, ap}
use Rattle.base_handles.specs.Handles.{table_of, number_in}
use Rattle.derive_imports.proofs.Sources.{small_number}
use Rattle.session_operations.proofs.Importing.{section_low, section_is, source-held, import_unset, import_none, import_full, import_room}
use Rattle.std.proofs.lemmas.Result.{err_from_is_err_and}
use Rattle.session_operations.proofs.Memory.{memory_same, set_not, set_ground}
use native.Mathlib.Omega.{arith}
use Rattle.session_operations.specs.Theorems.{operates_valid}
use Rattle.session_operations.proofs.import.Goals as goal

pub source_with-requires : goal.source_with-requires
source_with-requires c = record { table_bound = omega (arith, (section_low c.args.handle _ (ap (λ q. q.table) c.from-r.ensures)).1); passed = set_ground c.args.session.now c.requires }

pub returns-in_err-source-clause-operates : goal.returns-in_err-source-clause-operates
returns-in_err-source-clause-operates c =
    let p = err_from_is_err_and c.from_residual.result c.from_residual.ensures.1 in
    let a = c.args in
    elim c.in_err-source.ensures [
      | inl q ↦ (let L = rw q.0 at c.requires in let zz = import_unset _ _ _ _ _ _ _ _ _ _ _ (table_of a.handle) (number_in a.handle) false L refl in rw (p.1, p.2, q.1) (record { does = rw q.0 zz.0; valid = c.requires; same = memory_same _ }))
      | inr q ↦ (let zz = import_none _ _ _ _ _ _ _ _ _ _ _ _ c.requires (set_not q.0) c.from-r.result.table c.from-r.result.number (section_low c.args.handle _ (ap (λ q. q.table) c.from-r.ensures)).1 _ _ refl refl q.1 in rw (p.1, p.2, q.2, ← section_is c.args.handle _ (ap (λ q. q.table) c.from-r.ensures), ← (ap (λ q. q.number) c.from-r.ensures)) (record { does = zz.0; valid = c.requires; same = memory_same _ }))
    ]

pub import-requires-clause-number_bound : goal.import-requires-clause-number_bound
import-requires-clause-number_bound c = rw (c.source.ensures.0, c.in_ok-source.ensures.1) ((section_low c.args.handle _ (ap (λ q. q.table) c.from-r.ensures)).1, c.in_ok-source.ensures.3)

pub returns-in_err-sizes-clause-operates : goal.returns-in_err-sizes-clause-operates
returns-in_err-sizes-clause-operates c = let p = err_from_is_err_and c.from_residual-in_err-sizes.result c.from_residual-in_err-sizes.ensures.1 in let o = c.in_ok-source.ensures in let a = c.args in let L = rw c.in_ok-source.ensures.0 at c.requires in let zz = import_full _ _ _ _ _ _ _ _ _ _ _ c.from-r.result.table c.from-r.result.number (section_low c.args.handle _ (ap (λ q. q.table) c.from-r.ensures)).0 (section_low c.args.handle _ (ap (λ q. q.table) c.from-r.ensures)).1 _ _ _ _ _ _ true L refl c.in_ok-source.ensures.3 (rw (c.source.ensures.0, c.source.ensures.1, o.1) at c.in_err-sizes.ensures.does) refl in rw (p.1, p.2, ← section_is c.args.handle _ (ap (λ q. q.table) c.from-r.ensures), ← (ap (λ q. q.number) c.from-r.ensures)) (record { does = rw c.in_ok-source.ensures.0 zz.0; valid = rw c.in_ok-source.ensures.0 zz.1; same = record { words_same = refl; tags_same = refl; derived_same = c.import.ensures.same; special_same = refl; stacks_same = refl } })

pub mapped_to-requires : goal.mapped_to-requires
mapped_to-requires c = let a = c.args in let L = rw c.in_ok-source.ensures.0 at c.requires in ((section_low c.args.handle _ (ap (λ q. q.table) c.from-r.ensures)).1, small_number _ _ _ (source-held _ _ _ _ _ _ _ _ _ _ _ true L refl) c.from-r.result.table c.from-r.result.number (section_low c.args.handle _ (ap (λ q. q.table) c.from-r.ensures)).1 c.in_ok-source.ensures.3)

pub returns-clause-operates : goal.returns-clause-operates
returns-clause-operates c = let o = c.in_ok-source.ensures in let a = c.args in let L = rw c.in_ok-source.ensures.0 at c.requires in let v = c.view.ensures in let zz = import_room _ _ _ _ _ _ _ _ _ _ _ c.from-r.result.table c.from-r.result.number (section_low c.args.handle _ (ap (λ q. q.table) c.from-r.ensures)).0 (section_low c.args.handle _ (ap (λ q. q.table) c.from-r.ensures)).1 _ _ _ _ _ _ true L refl c.in_ok-source.ensures.3 (rw (c.source.ensures.0, c.source.ensures.1, o.1) at c.in_ok-sizes.ensures.does) refl _ (rw v.3 at c.mapped_to.ensures) in rw (← section_is c.args.handle _ (ap (λ q. q.table) c.from-r.ensures), ← (ap (λ q. q.number) c.from-r.ensures)) (record { does = rw c.in_ok-source.ensures.0 zz.0; valid = rw c.in_ok-source.ensures.0 zz.1; same = record { words_same = refl; tags_same = refl; derived_same = c.import.ensures.same; special_same = refl; stacks_same = refl } })

pub returns-in_err-source-clause-valid : goal.returns-in_err-source-clause-valid
returns-in_err-source-clause-valid c = λ v. operates_valid v refl (returns-in_err-source-clause-operates c)

pub returns-in_err-sizes-clause-valid : goal.returns-in_err-sizes-clause-valid
returns-in_err-sizes-clause-valid c = λ v. operates_valid v refl (returns-in_err-sizes-clause-operates c)

pub returns-clause-valid : goal.returns-clause-valid
returns-clause-valid c = λ v. operates_valid v refl (returns-clause-operates c)
