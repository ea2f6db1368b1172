-- What a stretch refers to outside the function: the loop passes one word at a turn.
use mathlib.Core.Path.{refl}
use lib.ListN.{get_or}
use Rattle.derive_state.specs.Source.{mod_of}
use Rattle.theory_passes.specs.Light.{still}
use Rattle.derive_imports.proofs.Sources.{small_number}
use Rattle.function_references.proofs.Sources.{ground}
use Rattle.function_outside.proofs.Cells.{record_found, own_found, nothing_found, outward_inner, outward_none}
use Rattle.function_outside.proofs.Passing.{pass-first, pass_skip, pass_number, pass_full, pass-next, pass_done}
use Rattle.function_outside.proofs.Records.{lands_mapped, lands_record}
use Rattle.function_outside.proofs.import_outside.Goals.{in-None, in-Some-Record+then-missing+in_ok-e-in-Some-Record, in-Some-Record+else-missing, in-Some-Own}
use Rattle.derive_state.specs.Sizes.{going}
use Rattle.std.proofs.lemmas.Result.{err_from_is_err_and}
use Rattle.derive_state.proofs.State.{arrays_same, arrays_then}
use Rattle.function_outside.proofs.import_outside.Goals as goal

pub loop-j-init : goal.loop-j-init
loop-j-init c = (let a = c.args in pass-first a.piece.source.image.words.now a.piece.source.image.tags.now a.piece.source.image.n a.piece.source.offset a.piece.at a.piece.end a.derived.now.log.now a.derived.now.logtags.now a.derived.now.starts.now a.derived.now.maps.now a.derived.now.buckets.now (going a.ends) c.requires.valid_arrays c.args.piece.legible refl, arrays_same _)

pub missing-requires : goal.missing-requires
missing-requires c = λ h. let a = c.args in let l = c.loop-j in let q = record_found (get_or a.piece.source.image.tags.now l.j 0) (get_or a.piece.source.image.words.now l.j 0) c.in-Some-Record.field-0-is c.in-Some-Record.ensures in small_number a.piece.source.image.words.now a.piece.source.image.tags.now a.piece.source.image.n (ground a.piece.source).source _ _ h (pass_number a.piece.source.image.words.now a.piece.source.image.tags.now a.piece.source.image.n a.piece.source.offset a.piece.at a.piece.end a.derived.now.log.now a.derived.now.logtags.now a.derived.now.starts.now a.derived.now.maps.now a.derived.now.buckets.now (going a.ends) c.requires.valid_arrays l.derived.log.now l.derived.logtags.now l.derived.starts.now l.derived.maps.now l.derived.buckets.now (going l.e) l.j l.invariant.0 c.loop-j-test.true (get_or a.piece.source.image.tags.now l.j 0) refl q.0 _ _ q.1 q.2 h)

pub import-requires : goal.import-requires
import-requires c = let a = c.args in let l = c.loop-j in let q = record_found (get_or a.piece.source.image.tags.now l.j 0) (get_or a.piece.source.image.words.now l.j 0) c.in-Some-Record.field-0-is c.in-Some-Record.ensures in record { number_bound = (q.3, rw c.source.ensures.0 (pass_number a.piece.source.image.words.now a.piece.source.image.tags.now a.piece.source.image.n a.piece.source.offset a.piece.at a.piece.end a.derived.now.log.now a.derived.now.logtags.now a.derived.now.starts.now a.derived.now.maps.now a.derived.now.buckets.now (going a.ends) c.requires.valid_arrays l.derived.log.now l.derived.logtags.now l.derived.starts.now l.derived.maps.now l.derived.buckets.now (going l.e) l.j l.invariant.0 c.loop-j-test.true (get_or a.piece.source.image.tags.now l.j 0) refl q.0 _ _ q.1 q.2 q.3)); valid_arrays = l.invariant.0.kept }

pub returns-in_err-e-in-Some-Record : goal.returns-in_err-e-in-Some-Record
returns-in_err-e-in-Some-Record c = let p = err_from_is_err_and c.from_residual.result c.from_residual.ensures.1 in rw (p.1, p.2) (record { does = let a = c.args in let l = c.loop-j in let q = record_found (get_or a.piece.source.image.tags.now l.j 0) (get_or a.piece.source.image.words.now l.j 0) c.in-Some-Record.field-0-is c.in-Some-Record.ensures in pass_full a.piece.source.image.words.now a.piece.source.image.tags.now a.piece.source.image.n a.piece.source.offset a.piece.at a.piece.end a.derived.now.log.now a.derived.now.logtags.now a.derived.now.starts.now a.derived.now.maps.now a.derived.now.buckets.now (going a.ends) c.requires.valid_arrays l.derived.log.now l.derived.logtags.now l.derived.starts.now l.derived.maps.now l.derived.buckets.now (going l.e) l.j l.invariant.0 c.loop-j-test.true (get_or a.piece.source.image.tags.now l.j 0) refl q.0 _ _ q.1 q.2 _ _ _ _ _ _ (lands_record a.piece.source.offset _ _ _ _ q.3 refl (rw (c.source.ensures.0, c.source.ensures.1) at c.in_err-e-in-Some-Record.ensures.does)) refl; same = arrays_then c.loop-j.invariant.1 c.in_err-e-in-Some-Record.ensures.same })

pub loop-j-preserved : goal.loop-j-preserved
loop-j-preserved c =
    elim c.match-referent_of.branch [
      | in-None w ↦ rw (w.derived-is, w.e-is) (let a = c.args in let l = c.loop-j in pass_skip a.piece.source.image.words.now a.piece.source.image.tags.now a.piece.source.image.n a.piece.source.offset a.piece.at a.piece.end a.derived.now.log.now a.derived.now.logtags.now a.derived.now.starts.now a.derived.now.maps.now a.derived.now.buckets.now (going a.ends) c.requires.valid_arrays l.derived.log.now l.derived.logtags.now l.derived.starts.now l.derived.maps.now l.derived.buckets.now (going l.e) l.j l.invariant.0 c.loop-j-test.true (outward_none a.piece.source.offset (mod_of a.piece.source.image.words.now a.piece.source.image.n) (get_or a.piece.source.image.tags.now l.j 0) (get_or a.piece.source.image.words.now l.j 0) (nothing_found (get_or a.piece.source.image.tags.now l.j 0) (get_or a.piece.source.image.words.now l.j 0) w.in-None.ensures)), c.loop-j.invariant.1)
      | in-Some-Record+then-missing+in_ok-e-in-Some-Record w ↦ rw (w.derived-is, w.e-is) (let a = c.args in let l = c.loop-j in let q = record_found (get_or a.piece.source.image.tags.now l.j 0) (get_or a.piece.source.image.words.now l.j 0) w.in-Some-Record.field-0-is w.in-Some-Record.ensures in pass-next a.piece.source.image.words.now a.piece.source.image.tags.now a.piece.source.image.n a.piece.source.offset a.piece.at a.piece.end a.derived.now.log.now a.derived.now.logtags.now a.derived.now.starts.now a.derived.now.maps.now a.derived.now.buckets.now (going a.ends) c.requires.valid_arrays l.derived.log.now l.derived.logtags.now l.derived.starts.now l.derived.maps.now l.derived.buckets.now (going l.e) l.j l.invariant.0 c.loop-j-test.true (get_or a.piece.source.image.tags.now l.j 0) refl q.0 _ _ q.1 q.2 _ _ _ _ _ _ (lands_record a.piece.source.offset _ _ _ _ q.3 refl (rw (w.source.ensures.0, w.source.ensures.1) at w.in_ok-e-in-Some-Record.ensures.does)) refl, arrays_then c.loop-j.invariant.1 w.in_ok-e-in-Some-Record.ensures.same)
      | in-Some-Record+else-missing w ↦ rw (w.derived-is, w.e-is) (let a = c.args in let l = c.loop-j in let q = record_found (get_or a.piece.source.image.tags.now l.j 0) (get_or a.piece.source.image.words.now l.j 0) w.in-Some-Record.field-0-is w.in-Some-Record.ensures in pass-next a.piece.source.image.words.now a.piece.source.image.tags.now a.piece.source.image.n a.piece.source.offset a.piece.at a.piece.end a.derived.now.log.now a.derived.now.logtags.now a.derived.now.starts.now a.derived.now.maps.now a.derived.now.buckets.now (going a.ends) c.requires.valid_arrays l.derived.log.now l.derived.logtags.now l.derived.starts.now l.derived.maps.now l.derived.buckets.now (going l.e) l.j l.invariant.0 c.loop-j-test.true (get_or a.piece.source.image.tags.now l.j 0) refl q.0 _ _ q.1 q.2 _ _ _ _ _ _ (lands_mapped (ground a.piece.source).source a.piece.source.offset (pass_number a.piece.source.image.words.now a.piece.source.image.tags.now a.piece.source.image.n a.piece.source.offset a.piece.at a.piece.end a.derived.now.log.now a.derived.now.logtags.now a.derived.now.starts.now a.derived.now.maps.now a.derived.now.buckets.now (going a.ends) c.requires.valid_arrays l.derived.log.now l.derived.logtags.now l.derived.starts.now l.derived.maps.now l.derived.buckets.now (going l.e) l.j l.invariant.0 c.loop-j-test.true (get_or a.piece.source.image.tags.now l.j 0) refl q.0 _ _ q.1 q.2) refl l.invariant.0.kept (w.missing.ensures.h_nonzero w.if-missing.false)) refl, c.loop-j.invariant.1)
      | in-Some-Own w ↦ rw (w.derived-is, w.e-is) (let a = c.args in let l = c.loop-j in pass_skip a.piece.source.image.words.now a.piece.source.image.tags.now a.piece.source.image.n a.piece.source.offset a.piece.at a.piece.end a.derived.now.log.now a.derived.now.logtags.now a.derived.now.starts.now a.derived.now.maps.now a.derived.now.buckets.now (going a.ends) c.requires.valid_arrays l.derived.log.now l.derived.logtags.now l.derived.starts.now l.derived.maps.now l.derived.buckets.now (going l.e) l.j l.invariant.0 c.loop-j-test.true (λ s. outward_inner a.piece.source.offset (mod_of a.piece.source.image.words.now a.piece.source.image.n) still (get_or a.piece.source.image.tags.now l.j 0) (get_or a.piece.source.image.words.now l.j 0) s (own_found (get_or a.piece.source.image.tags.now l.j 0) (get_or a.piece.source.image.words.now l.j 0) w.in-Some-Own.field-0-is w.in-Some-Own.ensures).0), c.loop-j.invariant.1)
    ]

pub returns : goal.returns
returns c = record { does = let a = c.args in let l = c.loop-j in pass_done a.piece.source.image.words.now a.piece.source.image.tags.now a.piece.source.image.n a.piece.source.offset a.piece.at a.piece.end a.derived.now.log.now a.derived.now.logtags.now a.derived.now.starts.now a.derived.now.maps.now a.derived.now.buckets.now (going a.ends) c.requires.valid_arrays l.derived.log.now l.derived.logtags.now l.derived.starts.now l.derived.maps.now l.derived.buckets.now (going l.e) l.j l.invariant.0 c.loop-j-test.false; same = c.loop-j.invariant.1 }
