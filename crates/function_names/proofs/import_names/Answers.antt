-- The names of the pairs on the stack are imported one at a turn, and its word is what it is mapped to.
use native.Mathlib.Omega.{arith}
use Prim.Native.Nat.{◌+◌, ◌-◌}
use mathlib.Core.Path.{refl}
use lib.ListN.{get_or}
use Rattle.derive_state.specs.Held.{row, SameArrays}
use Rattle.derive_state.specs.Refers.{tab_of}
use Rattle.derive_imports.proofs.Sources.{small_number}
use Rattle.function_references.proofs.Sources.{ground}
use Rattle.function_names.proofs.Naming.{Naming, name_first, name_in_lem, name_number, name_full, name_next, name_skip, name_done}
use Rattle.function_names.proofs.import_names.Goals.{Joined-w-ne0, then-w-ne0+in_ok-e, else-w-ne0}
use Rattle.derive_state.specs.Sizes.{going}
use Rattle.std.proofs.lemmas.Result.{err_from_is_err_and}
use Rattle.derive_state.proofs.State.{arrays_same, arrays_then}
use Rattle.function_names.proofs.import_names.Goals as goal

pub loop-i-init : goal.loop-i-init
loop-i-init c = (let a = c.args in name_first a.source.image.words.now a.source.image.n a.source.offset a.b a.derived.now.log.now a.derived.now.logtags.now a.derived.now.starts.now a.derived.now.maps.now a.derived.now.buckets.now a.stacks.now (going a.ends) c.requires.valid_arrays c.requires.b_le_bodytop c.requires.by_index refl c.requires.stacks, arrays_same _)

pub overflow_add-j : goal.overflow_add-j
overflow_add-j c = let a = c.args in let l = c.loop-i in let z = name_in_lem a.source.image.words.now a.source.image.n a.source.offset a.b a.derived.now.log.now a.derived.now.logtags.now a.derived.now.starts.now a.derived.now.maps.now a.derived.now.buckets.now a.stacks.now (going a.ends) c.requires.valid_arrays l.derived.log.now l.derived.logtags.now l.derived.starts.now l.derived.maps.now l.derived.buckets.now l.stacks (going l.e) l.i l.invariant.0 c.loop-i-test.true in omega arith

pub offset_bounds-stacks-j : goal.offset_bounds-stacks-j
offset_bounds-stacks-j c = let a = c.args in let l = c.loop-i in let z = name_in_lem a.source.image.words.now a.source.image.n a.source.offset a.b a.derived.now.log.now a.derived.now.logtags.now a.derived.now.starts.now a.derived.now.maps.now a.derived.now.buckets.now a.stacks.now (going a.ends) c.requires.valid_arrays l.derived.log.now l.derived.logtags.now l.derived.starts.now l.derived.maps.now l.derived.buckets.now l.stacks (going l.e) l.i l.invariant.0 c.loop-i-test.true in omega arith

pub bounds-stacks-j : goal.bounds-stacks-j
bounds-stacks-j c = let a = c.args in let l = c.loop-i in let z = name_in_lem a.source.image.words.now a.source.image.n a.source.offset a.b a.derived.now.log.now a.derived.now.logtags.now a.derived.now.starts.now a.derived.now.maps.now a.derived.now.buckets.now a.stacks.now (going a.ends) c.requires.valid_arrays l.derived.log.now l.derived.logtags.now l.derived.starts.now l.derived.maps.now l.derived.buckets.now l.stacks (going l.e) l.i l.invariant.0 c.loop-i-test.true in omega arith

pub overflow_sub-r : goal.overflow_sub-r
overflow_sub-r c = let h = c.if-w-ne0.true in omega arith

pub import-requires : goal.import-requires
import-requires c = let a = c.args in let l = c.loop-i in let h = name_number a.source.image.words.now a.source.image.n a.source.offset a.b a.derived.now.log.now a.derived.now.logtags.now a.derived.now.starts.now a.derived.now.maps.now a.derived.now.buckets.now a.stacks.now (going a.ends) c.requires.valid_arrays l.derived.log.now l.derived.logtags.now l.derived.starts.now l.derived.maps.now l.derived.buckets.now l.stacks (going l.e) l.i l.invariant.0 c.loop-i-test.true (get_or (row l.stacks 3) (l.i + 1) 0) ((get_or (row l.stacks 3) (l.i + 1) 0) - 1) refl c.if-w-ne0.true refl in record { number_bound = (omega arith, rw c.source.ensures.0 h); valid_arrays = l.invariant.0.kept }

pub returns-in_err-e : goal.returns-in_err-e
unfolding tab_of
returns-in_err-e c = let p = err_from_is_err_and c.from_residual.result c.from_residual.ensures.1 in rw (p.1, p.2) (record { does = let a = c.args in let l = c.loop-i in let h = name_number a.source.image.words.now a.source.image.n a.source.offset a.b a.derived.now.log.now a.derived.now.logtags.now a.derived.now.starts.now a.derived.now.maps.now a.derived.now.buckets.now a.stacks.now (going a.ends) c.requires.valid_arrays l.derived.log.now l.derived.logtags.now l.derived.starts.now l.derived.maps.now l.derived.buckets.now l.stacks (going l.e) l.i l.invariant.0 c.loop-i-test.true (get_or (row l.stacks 3) (l.i + 1) 0) ((get_or (row l.stacks 3) (l.i + 1) 0) - 1) refl c.if-w-ne0.true refl in name_full a.source.image.words.now a.source.image.n a.source.offset a.b a.derived.now.log.now a.derived.now.logtags.now a.derived.now.starts.now a.derived.now.maps.now a.derived.now.buckets.now a.stacks.now (going a.ends) c.requires.valid_arrays l.derived.log.now l.derived.logtags.now l.derived.starts.now l.derived.maps.now l.derived.buckets.now l.stacks (going l.e) l.i l.invariant.0 c.loop-i-test.true (get_or (row l.stacks 3) (l.i + 1) 0) ((get_or (row l.stacks 3) (l.i + 1) 0) - 1) refl c.if-w-ne0.true refl _ _ _ _ _ _ (rw (c.source.ensures.0, c.source.ensures.1) at c.in_err-e.ensures.does) refl; same = arrays_then c.loop-i.invariant.1 c.in_err-e.ensures.same })

pub bounds-derived-r : goal.bounds-derived-r
bounds-derived-r c = let a = c.args in let l = c.loop-i in let h = name_number a.source.image.words.now a.source.image.n a.source.offset a.b a.derived.now.log.now a.derived.now.logtags.now a.derived.now.starts.now a.derived.now.maps.now a.derived.now.buckets.now a.stacks.now (going a.ends) c.requires.valid_arrays l.derived.log.now l.derived.logtags.now l.derived.starts.now l.derived.maps.now l.derived.buckets.now l.stacks (going l.e) l.i l.invariant.0 c.loop-i-test.true (get_or (row l.stacks 3) (l.i + 1) 0) ((get_or (row l.stacks 3) (l.i + 1) 0) - 1) refl c.if-w-ne0.true refl in let s = small_number a.source.image.words.now a.source.image.tags.now a.source.image.n (ground c.args.source).source 0 ((get_or (row l.stacks 3) (l.i + 1) 0) - 1) (omega arith) h in omega arith

pub offset_bounds-stacks-j-then-w-ne0 : goal.offset_bounds-stacks-j-then-w-ne0
offset_bounds-stacks-j-then-w-ne0 c = let a = c.args in let l = c.loop-i in let z = name_in_lem a.source.image.words.now a.source.image.n a.source.offset a.b a.derived.now.log.now a.derived.now.logtags.now a.derived.now.starts.now a.derived.now.maps.now a.derived.now.buckets.now a.stacks.now (going a.ends) c.requires.valid_arrays l.derived.log.now l.derived.logtags.now l.derived.starts.now l.derived.maps.now l.derived.buckets.now l.stacks (going l.e) l.i l.invariant.0 c.loop-i-test.true in omega arith

pub bounds-stacks-j-in_ok-e : goal.bounds-stacks-j-in_ok-e
bounds-stacks-j-in_ok-e c = let a = c.args in let l = c.loop-i in let z = name_in_lem a.source.image.words.now a.source.image.n a.source.offset a.b a.derived.now.log.now a.derived.now.logtags.now a.derived.now.starts.now a.derived.now.maps.now a.derived.now.buckets.now a.stacks.now (going a.ends) c.requires.valid_arrays l.derived.log.now l.derived.logtags.now l.derived.starts.now l.derived.maps.now l.derived.buckets.now l.stacks (going l.e) l.i l.invariant.0 c.loop-i-test.true in omega arith

-- a turn, with a name or with none
turn : (c : Joined-w-ne0) → let a = c.args in let x = c.if-w-ne0 in (Naming a.source.image.words.now a.source.image.n a.source.offset a.b a.derived.now.log.now a.derived.now.logtags.now a.derived.now.starts.now a.derived.now.maps.now a.derived.now.buckets.now a.stacks.now (going a.ends) x.derived.log.now x.derived.logtags.now x.derived.starts.now x.derived.maps.now x.derived.buckets.now x.stacks (going x.e) (c.loop-i.i + 2)) × SameArrays a.derived.now x.derived
unfolding tab_of
turn c =
    elim c.if-w-ne0.branch [
      | then-w-ne0+in_ok-e w ↦ rw (w.derived-is, w.stacks-is, w.e-is) ((let a = c.args in let l = c.loop-i in let h = name_number a.source.image.words.now a.source.image.n a.source.offset a.b a.derived.now.log.now a.derived.now.logtags.now a.derived.now.starts.now a.derived.now.maps.now a.derived.now.buckets.now a.stacks.now (going a.ends) c.requires.valid_arrays l.derived.log.now l.derived.logtags.now l.derived.starts.now l.derived.maps.now l.derived.buckets.now l.stacks (going l.e) l.i l.invariant.0 c.loop-i-test.true (get_or (row l.stacks 3) (l.i + 1) 0) ((get_or (row l.stacks 3) (l.i + 1) 0) - 1) refl w.if-w-ne0.true refl in name_next a.source.image.words.now a.source.image.n a.source.offset a.b a.derived.now.log.now a.derived.now.logtags.now a.derived.now.starts.now a.derived.now.maps.now a.derived.now.buckets.now a.stacks.now (going a.ends) c.requires.valid_arrays l.derived.log.now l.derived.logtags.now l.derived.starts.now l.derived.maps.now l.derived.buckets.now l.stacks (going l.e) l.i l.invariant.0 c.loop-i-test.true (get_or (row l.stacks 3) (l.i + 1) 0) ((get_or (row l.stacks 3) (l.i + 1) 0) - 1) refl w.if-w-ne0.true refl _ _ _ _ _ _ (rw (w.source.ensures.0, w.source.ensures.1) at w.in_ok-e.ensures.does) refl _ refl _ refl), arrays_then c.loop-i.invariant.1 w.in_ok-e.ensures.same)
      | else-w-ne0 w ↦ rw (w.derived-is, w.stacks-is, w.e-is) ((let a = c.args in let l = c.loop-i in name_skip a.source.image.words.now a.source.image.n a.source.offset a.b a.derived.now.log.now a.derived.now.logtags.now a.derived.now.starts.now a.derived.now.maps.now a.derived.now.buckets.now a.stacks.now (going a.ends) c.requires.valid_arrays l.derived.log.now l.derived.logtags.now l.derived.starts.now l.derived.maps.now l.derived.buckets.now l.stacks (going l.e) l.i l.invariant.0 c.loop-i-test.true (get_or (row l.stacks 3) (l.i + 1) 0) refl w.if-w-ne0.false), c.loop-i.invariant.1)
    ]

pub loop-i-preserved : goal.loop-i-preserved
loop-i-preserved c = turn c.before

pub returns-after-w-ne0 : goal.returns-after-w-ne0
returns-after-w-ne0 c = record { does = let a = c.args in let x = c.if-w-ne0 in name_done a.source.image.words.now a.source.image.n a.source.offset a.b a.derived.now.log.now a.derived.now.logtags.now a.derived.now.starts.now a.derived.now.maps.now a.derived.now.buckets.now a.stacks.now (going a.ends) c.requires.valid_arrays x.derived.log.now x.derived.logtags.now x.derived.starts.now x.derived.maps.now x.derived.buckets.now x.stacks (going x.e) (c.loop-i.i + 2) (turn c.before).0 (omega arith); same = (turn c.before).1 }

pub returns : goal.returns
returns c = record { does = let a = c.args in let l = c.loop-i in name_done a.source.image.words.now a.source.image.n a.source.offset a.b a.derived.now.log.now a.derived.now.logtags.now a.derived.now.starts.now a.derived.now.maps.now a.derived.now.buckets.now a.stacks.now (going a.ends) c.requires.valid_arrays l.derived.log.now l.derived.logtags.now l.derived.starts.now l.derived.maps.now l.derived.buckets.now l.stacks (going l.e) l.i l.invariant.0 c.loop-i-test.false; same = c.loop-i.invariant.1 }
