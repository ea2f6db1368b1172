-- `derive_imports::rename_type` meets its contract: the view is a source, and what is imported from it is what the source's import under the new name is.
use Rattle.std.proofs.Common.{arith, refl}
use Rattle.base_views.proofs.LaidOut.{laid_out}
use Rattle.derive_state.proofs.Sources.{source_of}
use Rattle.derive_state.proofs.State.{arrays_same}
use Rattle.derive_imports.proofs.Sources.{count_few, small_number}
use Rattle.derive_imports.proofs.Renames.{view_in, view_source, view_count, lands_view, rename-known}
use Rattle.derive_imports.proofs.rename_type.Goals as goal

pub bounds-derived-k : goal.bounds-derived-k
bounds-derived-k c = small_number _ _ _ (source_of c.args.source) 1 c.args.h.0 (omega arith) c.requires.h_bound.0

pub returns-then-derived-k-ne0 : goal.returns-then-derived-k-ne0
returns-then-derived-k-ne0 c =
    let q = c.requires.h_bound in
    record { does = rename-known _ _ _ (source_of c.args.source) c.args.h.0 q.0 c.args.name q.1 _ refl c.args.source.offset _ _ _ _ _ _ refl c.requires.valid_arrays c.if-derived-k-ne0.true; same = arrays_same _ }

pub overflow_add-view : goal.overflow_add-view
overflow_add-view c = let z = count_few _ _ _ (source_of c.args.source) 0 (omega arith) in let y = c.requires.h_bound.1 in omega arith

pub offset_bounds-view-at : goal.offset_bounds-view-at
offset_bounds-view-at c = let q = c.requires.h_bound in let z = view_in _ _ _ (source_of c.args.source) c.args.h.0 q.0 c.args.name q.1 _ c.record_at-at.ensures in let y = (source_of c.args.source).taped.small in omega arith

pub bounds-view-at : goal.bounds-view-at
bounds-view-at c = let q = c.requires.h_bound in let z = view_in _ _ _ (source_of c.args.source) c.args.h.0 q.0 c.args.name q.1 _ c.record_at-at.ensures in let y = (source_of c.args.source).taped.small in omega arith

pub invariant_of-image-clause-laid_out : goal.invariant_of-image-clause-laid_out
invariant_of-image-clause-laid_out c = let q = c.requires.h_bound in laid_out (record { holds = _; taped = (view_source _ _ _ (source_of c.args.source) c.args.h.0 q.0 c.args.name q.1 _ c.record_at-at.ensures).taped })

pub invariant_of-renamed-clause-test_3 : goal.invariant_of-renamed-clause-test_3
invariant_of-renamed-clause-test_3 c = let q = c.requires.h_bound in (view_source _ _ _ (source_of c.args.source) c.args.h.0 q.0 c.args.name q.1 _ c.record_at-at.ensures).three

pub invariant_of-renamed-clause-test_4 : goal.invariant_of-renamed-clause-test_4
invariant_of-renamed-clause-test_4 c = let q = c.requires.h_bound in (view_source _ _ _ (source_of c.args.source) c.args.h.0 q.0 c.args.name q.1 _ c.record_at-at.ensures).four

pub import-requires : goal.import-requires
import-requires c =
    let q = c.requires.h_bound in
    let z = view_count _ _ _ (source_of c.args.source) c.args.h.0 q.0 c.args.name q.1 _ c.record_at-at.ensures 1 (omega arith) in
    rw c.from.ensures (record { number_bound = (omega arith, omega (arith, z, q.0)); valid_arrays = c.requires.valid_arrays })

pub returns : goal.returns
returns c =
    let q = c.requires.h_bound in
    let L = rw c.from.ensures at c.import.ensures in
    record { does = lands_view _ _ _ (source_of c.args.source) c.args.h.0 q.0 c.args.name q.1 _ c.record_at-at.ensures c.args.source.offset _ _ _ _ _ _ _ _ _ _ _ _ L.does; same = L.same }
