-- `import_function` meets its contract: without a source, out of range, into a ring of unknown functions, full, or imported.
use mathlib.Core.Logic.{inl, inr}
use mathlib.Core.Path.{refl}
use native.Mathlib.Omega.{arith}
use Prim.Native.Nat.{◌<◌}
use Rattle.derive_lookup.proofs.Bears.{bearing}
use Rattle.function_entry.proofs.Sources as Sources
use Rattle.std.proofs.lemmas.Result.{err_from_is_err_and}
use Rattle.session_operations.proofs.Memory.{memory_same, set_not, set_ground}
use Rattle.session_functions.proofs.Answers as Answers
use Rattle.session_functions.proofs.import_function.Goals as goal

pub returns-in_err-source-clause-operates : goal.returns-in_err-source-clause-operates
returns-in_err-source-clause-operates c =
    let p = err_from_is_err_and c.from_residual.result c.from_residual.ensures.1 in
    let a = c.args in
    let S = c.requires.stacks in
    elim c.in_err-source.ensures [
      | inl q ↦ (let L = rw q.0 at c.requires.session in let zz = Answers.import_none _ _ _ _ _ _ _ _ _ _ _ _ L _ S a.f.0 refl in rw (p.1, p.2, q.1) (record { does = rw q.0 zz.0; valid = c.requires; same = memory_same _ }))
      | inr q ↦ (let zz = Answers.import_out _ _ _ _ _ _ _ _ _ _ _ _ c.requires.session _ S a.f.0 (set_not q.0) (rw c.from.ensures at q.1) in rw (p.1, p.2, q.2) (record { does = zz.0; valid = c.requires; same = memory_same _ }))
    ]

pub source_with-requires : goal.source_with-requires
source_with-requires c = rw c.from.ensures (record { table_bound = omega arith; passed = set_ground c.args.session.now c.requires.session })

pub invariant_of-import_rings : goal.invariant_of-import_rings
invariant_of-import_rings c = let L = rw c.in_ok-source.ensures.0 at c.requires.session in let v = c.view-view.ensures in record { bearing = rw (v.0, v.1, v.2, v.5) (bearing L.kept) }

pub import_rings-requires : goal.import_rings-requires
import_rings-requires c = let a = c.args in let o = c.in_ok-source.ensures in let L = rw c.in_ok-source.ensures.0 at c.requires.session in let S = c.requires.stacks in let l = rw c.from.ensures at o.3 in record { f_bound = rw o.1 l }

pub returns-then-import_rings-clause-operates : goal.returns-then-import_rings-clause-operates
returns-then-import_rings-clause-operates c = let a = c.args in let o = c.in_ok-source.ensures in let L = rw c.in_ok-source.ensures.0 at c.requires.session in let S = c.requires.stacks in let l = rw c.from.ensures at o.3 in let v = c.view-view.ensures in let G = rw (v.0, v.1, v.2, v.5, o.1) at c.import_rings.ensures in let zz = Answers.import_ring _ _ _ _ _ _ _ _ _ _ _ _ L _ S a.f.0 refl l _ refl _ G c.if-import_rings.true in record { does = rw c.in_ok-source.ensures.0 zz.0; valid = c.requires; same = memory_same _ }

pub append_or_undo-requires : goal.append_or_undo-requires
append_or_undo-requires c = let a = c.args in let o = c.in_ok-source.ensures in let L = rw c.in_ok-source.ensures.0 at c.requires.session in let S = c.requires.stacks in let k = rw o.1 at c.count-room.ensures.0 in let l = rw c.from.ensures at o.3 in let v = c.view-view.ensures in let G = rw (v.0, v.1, v.2, v.5, o.1) at c.import_rings.ensures in rw (o.1, o.2) (record { valid_session = L; f_bound = (l, S); ready = Answers.import_ready _ _ _ _ _ _ _ _ _ _ _ _ L _ S a.f.0 refl l _ refl _ G c.if-import_rings.false _ refl _ k })

pub returns-in_err-sizes-clause-operates : goal.returns-in_err-sizes-clause-operates
returns-in_err-sizes-clause-operates c = let p = err_from_is_err_and c.from_residual-in_err-sizes.result c.from_residual-in_err-sizes.ensures.1 in let a = c.args in let o = c.in_ok-source.ensures in let L = rw c.in_ok-source.ensures.0 at c.requires.session in let S = c.requires.stacks in let k = rw o.1 at c.count-room.ensures.0 in let l = rw c.from.ensures at o.3 in let v = c.view-view.ensures in let G = rw (v.0, v.1, v.2, v.5, o.1) at c.import_rings.ensures in let zz = Answers.import_full _ _ _ _ _ _ _ _ _ _ _ _ L _ S a.f.0 refl l _ refl _ G c.if-import_rings.false _ refl _ k _ _ _ _ _ _ _ (rw o.1 at c.in_err-sizes.ensures.does) refl in rw (p.1, p.2) (record { does = rw c.in_ok-source.ensures.0 zz.0; valid = record { session = rw c.in_ok-source.ensures.0 zz.1.0; stacks = zz.1.1 }; same = record { words_same = refl; tags_same = refl; derived_same = c.append_or_undo.ensures.same; special_same = refl; stacks_same = refl } })

pub returns-clause-operates : goal.returns-clause-operates
returns-clause-operates c = let a = c.args in let o = c.in_ok-source.ensures in let L = rw c.in_ok-source.ensures.0 at c.requires.session in let S = c.requires.stacks in let k = rw o.1 at c.count-room.ensures.0 in let l = rw c.from.ensures at o.3 in let v = c.view-view.ensures in let G = rw (v.0, v.1, v.2, v.5, o.1) at c.import_rings.ensures in let zz = Answers.import_done _ _ _ _ _ _ _ _ _ _ _ _ L _ S a.f.0 refl l _ refl _ G c.if-import_rings.false _ refl _ k _ _ _ _ _ _ _ (rw o.1 at c.in_ok-sizes.ensures.does) refl _ c.number_of.ensures in record { does = rw c.in_ok-source.ensures.0 zz.0; valid = record { session = rw c.in_ok-source.ensures.0 zz.1.0; stacks = zz.1.1 }; same = record { words_same = refl; tags_same = refl; derived_same = c.append_or_undo.ensures.same; special_same = refl; stacks_same = refl } }
