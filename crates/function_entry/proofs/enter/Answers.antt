-- `enter` meets its contract: its function is whole on the stacks, what its head refers to is imported, and its head is above its expressions; or one of these is too large.
use native.Mathlib.Omega.{arith}
use native.Mathlib.Nat.{le_of_lt}
use Rattle.function_references.proofs.Sources.{ground}
use Rattle.function_entry.proofs.Entry.{entry-piece, entry-nested, entry-stands, head_some, head_read, function_full, head_full, stacks_led, led_bears, write_full, close_may, entry_done}
use Rattle.derive_state.specs.Sizes.{going}
use Rattle.std.proofs.lemmas.Result.{err_from_is_err_and}
use mathlib.Core.Path.{refl}
use Rattle.derive_state.proofs.State.{arrays_then}
use Rattle.function_entry.proofs.enter.Goals as goal

pub localize-requires : goal.localize-requires
localize-requires c = let a = c.args in record { part = entry-piece (ground c.args.source).source c.requires.j_bound.1 a.j c.requires.j_bound.0 _ _ _ c.record-at.ensures.0 c.entry_function-s.ensures c.record-at.ensures.1; nested = entry-nested (ground c.args.source).source c.requires.j_bound.1 a.j c.requires.j_bound.0 _ _ _ c.record-at.ensures.0 c.entry_function-s.ensures c.record-at.ensures.1 c.requires.nested_e; stacks = c.requires.stacks; valid_arrays = c.requires.valid_arrays }

pub returns-in_err-got : goal.returns-in_err-got
returns-in_err-got c = let p = err_from_is_err_and c.from_residual.result c.from_residual.ensures.1 in rw (p.1, p.2) (record { does = let a = c.args in function_full (ground c.args.source).source c.requires.j_bound.1 a.j c.requires.j_bound.0 _ _ _ c.record-at.ensures.0 c.entry_function-s.ensures c.record-at.ensures.1 a.source.offset _ _ a.derived.now.log.now a.derived.now.logtags.now a.derived.now.starts.now a.derived.now.maps.now a.derived.now.buckets.now a.stacks.now (going a.ends) c.requires.valid_arrays _ _ _ _ _ _ _ c.in_err-got.ensures.does refl; same = c.in_err-got.ensures.same })

pub invariant_of-head : goal.invariant_of-head
invariant_of-head c = let a = c.args in record { legible = head_read (ground c.args.source).source c.requires.j_bound.1 a.j c.requires.j_bound.0 _ _ _ c.record-at.ensures.0 c.entry_function-s.ensures c.record-at.ensures.1 }

pub import_outside-requires : goal.import_outside-requires
import_outside-requires c = let a = c.args in record { valid_arrays = c.in_ok-got.ensures.does.kept refl }

pub returns-in_err-led : goal.returns-in_err-led
returns-in_err-led c = let p = err_from_is_err_and c.from_residual-in_err-led.result c.from_residual-in_err-led.ensures.1 in rw (p.1, p.2) (record { does = let a = c.args in head_full (ground c.args.source).source c.requires.j_bound.1 a.j c.requires.j_bound.0 _ _ _ c.record-at.ensures.0 c.entry_function-s.ensures c.record-at.ensures.1 a.source.offset _ _ a.derived.now.log.now a.derived.now.logtags.now a.derived.now.starts.now a.derived.now.maps.now a.derived.now.buckets.now a.stacks.now (going a.ends) c.requires.valid_arrays _ _ _ _ _ _ _ c.in_ok-got.ensures.does refl _ _ _ _ _ _ c.in_err-led.ensures.does refl; same = arrays_then c.in_ok-got.ensures.same c.in_err-led.ensures.same })

pub overflow_sub-exprtop : goal.overflow_sub-exprtop
overflow_sub-exprtop c = let a = c.args in (stacks_led (ground c.args.source).source c.requires.j_bound.1 a.j c.requires.j_bound.0 _ _ _ c.record-at.ensures.0 c.entry_function-s.ensures c.record-at.ensures.1 a.source.offset _ _ a.derived.now.log.now a.derived.now.logtags.now a.derived.now.starts.now a.derived.now.maps.now a.derived.now.buckets.now a.stacks.now (going a.ends) c.requires.valid_arrays _ _ _ _ _ _ _ c.in_ok-got.ensures.does refl _ _ _ _ _ _ c.in_ok-led.ensures.does refl).high

pub overflow_sub-s : goal.overflow_sub-s
overflow_sub-s c = let a = c.args in le_of_lt (head_some (ground c.args.source).source c.requires.j_bound.1 a.j c.requires.j_bound.0 _ _ _ c.record-at.ensures.0 c.entry_function-s.ensures c.record-at.ensures.1)

pub returns-then-exprtop-s : goal.returns-then-exprtop-s
returns-then-exprtop-s c = record { does = let a = c.args in write_full (ground c.args.source).source c.requires.j_bound.1 a.j c.requires.j_bound.0 _ _ _ c.record-at.ensures.0 c.entry_function-s.ensures c.record-at.ensures.1 a.source.offset _ _ a.derived.now.log.now a.derived.now.logtags.now a.derived.now.starts.now a.derived.now.maps.now a.derived.now.buckets.now a.stacks.now (going a.ends) c.requires.valid_arrays _ _ _ _ _ _ _ c.in_ok-got.ensures.does refl _ _ _ _ _ _ c.in_ok-led.ensures.does refl c.if-exprtop-s.true _ refl; same = arrays_then c.in_ok-got.ensures.same c.in_ok-led.ensures.same }

pub invariant_of-write : goal.invariant_of-write
invariant_of-write c = let v = c.view.ensures in let a = c.args in let s = stacks_led (ground c.args.source).source c.requires.j_bound.1 a.j c.requires.j_bound.0 _ _ _ c.record-at.ensures.0 c.entry_function-s.ensures c.record-at.ensures.1 a.source.offset _ _ a.derived.now.log.now a.derived.now.logtags.now a.derived.now.starts.now a.derived.now.maps.now a.derived.now.buckets.now a.stacks.now (going a.ends) c.requires.valid_arrays _ _ _ _ _ _ _ c.in_ok-got.ensures.does refl _ _ _ _ _ _ c.in_ok-led.ensures.does refl in let h = s.high in let l = c.if-exprtop-s.false in record { bearing = rw (v.0, v.1, v.2, v.5) (led_bears (ground c.args.source).source c.requires.j_bound.1 a.j c.requires.j_bound.0 _ _ _ c.record-at.ensures.0 c.entry_function-s.ensures c.record-at.ensures.1 a.source.offset _ _ a.derived.now.log.now a.derived.now.logtags.now a.derived.now.starts.now a.derived.now.maps.now a.derived.now.buckets.now a.stacks.now (going a.ends) c.requires.valid_arrays _ _ _ _ _ _ _ c.in_ok-got.ensures.does refl _ _ _ _ _ _ c.in_ok-led.ensures.does refl) }

pub write-requires : goal.write-requires
write-requires c = let v = c.view.ensures in let a = c.args in let s = stacks_led (ground c.args.source).source c.requires.j_bound.1 a.j c.requires.j_bound.0 _ _ _ c.record-at.ensures.0 c.entry_function-s.ensures c.record-at.ensures.1 a.source.offset _ _ a.derived.now.log.now a.derived.now.logtags.now a.derived.now.starts.now a.derived.now.maps.now a.derived.now.buckets.now a.stacks.now (going a.ends) c.requires.valid_arrays _ _ _ _ _ _ _ c.in_ok-got.ensures.does refl _ _ _ _ _ _ c.in_ok-led.ensures.does refl in let h = s.high in let l = c.if-exprtop-s.false in record { stacks = rw v.5 (s, omega arith) }

pub of-place-requires : goal.of-place-requires
of-place-requires c = let a = c.args in rw (c.cells.ensures.0, c.cells.ensures.1) (entry-stands (ground c.args.source).source c.requires.j_bound.1 a.j c.requires.j_bound.0 _ _ _ c.record-at.ensures.0 c.entry_function-s.ensures c.record-at.ensures.1)

pub overflow_sub-s-2 : goal.overflow_sub-s-2
overflow_sub-s-2 c = let a = c.args in le_of_lt (head_some (ground c.args.source).source c.requires.j_bound.1 a.j c.requires.j_bound.0 _ _ _ c.record-at.ensures.0 c.entry_function-s.ensures c.record-at.ensures.1)

pub append_record-requires : goal.append_record-requires
append_record-requires c = let v = c.view.ensures in let P = rw (c.cells.ensures.0, c.cells.ensures.1) at c.of-place.ensures in let a = c.args in let zz = close_may (ground c.args.source).source c.requires.j_bound.1 a.j c.requires.j_bound.0 _ _ _ c.record-at.ensures.0 c.entry_function-s.ensures c.record-at.ensures.1 a.source.offset _ _ a.derived.now.log.now a.derived.now.logtags.now a.derived.now.starts.now a.derived.now.maps.now a.derived.now.buckets.now a.stacks.now (going a.ends) c.requires.valid_arrays _ _ _ _ _ _ _ c.in_ok-got.ensures.does refl _ _ _ _ _ _ c.in_ok-led.ensures.does refl _ c.if-exprtop-s.false _ (rw (v.0, v.1, v.2, v.3, v.5) at c.write.ensures) _ _ P.1 P.2 in rw (P.0, P.3) (record { s_le_exprs = zz.0; t_bound = (let z = zz.1.0 in (z.0, z.1, z.2, z.3, z.4)); stacks = zz.1.1.0; body_len = zz.1.1.1.0; by_index = zz.1.1.1.1.0; loglen_bound = zz.1.1.1.1.1 })

pub returns : goal.returns
returns c = let v = c.view.ensures in let P = rw (c.cells.ensures.0, c.cells.ensures.1) at c.of-place.ensures in record { does = let a = c.args in let m = c.requires.nested_e in entry_done (ground c.args.source).source c.requires.j_bound.1 a.j c.requires.j_bound.0 _ _ _ c.record-at.ensures.0 c.entry_function-s.ensures c.record-at.ensures.1 a.source.offset _ _ a.derived.now.log.now a.derived.now.logtags.now a.derived.now.starts.now a.derived.now.maps.now a.derived.now.buckets.now a.stacks.now (going a.ends) c.requires.valid_arrays _ _ _ _ _ _ _ c.in_ok-got.ensures.does refl _ _ _ _ _ _ c.in_ok-led.ensures.does refl _ c.if-exprtop-s.false _ (rw (v.0, v.1, v.2, v.3, v.5) at c.write.ensures) _ _ P.1 P.2 _ _ _ _ (rw (P.0, P.3) at c.append_record.ensures) m.special m.made.reads m.made.named; same = (let S = arrays_then c.in_ok-got.ensures.same c.in_ok-led.ensures.same in record { log_same = S.log_same; logtags_same = S.logtags_same; starts_same = S.starts_same; maps_same = S.maps_same; buckets_same = S.buckets_same }) }
