-- `finish_with_entries` meets its contract: without a source, into a ring of unknown functions, full, refused, or finished, and then the session is a new one.
use mathlib.Core.Path.{refl}
use Rattle.derive_lookup.proofs.Bears.{bearing}
use Rattle.function_entry.proofs.Sources as Sources
use Rattle.base_refusals.specs.declared.Refusal.TheVariants.{NoSource}
use Rattle.session_operations.proofs.Memory.{no_source, memory_same, set_ground}
use Rattle.std.proofs.lemmas.Result.{err_from_is_err_and}
use Prim.Native.Nat.{ℕ}
use lib.ListN.{length-replicate}
use Rattle.derive_session.specs.Valid.{session_of}
use Rattle.derive_finish.proofs.Refused.{not_zero}
use Rattle.session_operations.proofs.Finishing.{unset_valid}
use Rattle.session_functions.proofs.Ending as Ending
use Rattle.session_functions.proofs.finish_with_entries.Goals as goal

pub returns-in_err-set-clause-finishes : goal.returns-in_err-set-clause-finishes
returns-in_err-set-clause-finishes c = let p = err_from_is_err_and c.from_residual.result c.from_residual.ensures.1 in let q = no_source _ NoSource _ _ c.ok_or.ensures.value c.in_err-set.was in let a = c.args in let L = rw q.0 at c.requires.session in let S = c.requires.stacks in let zz = Ending.end_none _ _ _ _ _ _ _ _ _ _ _ _ L _ S a.output.now refl in rw (p.1, p.2, q.1) (record { does = rw q.0 zz.0; valid = c.requires; same = memory_same _ })

pub over-source-requires : goal.over-source-requires
over-source-requires c = set_ground c.args.session.now c.requires.session _ c.in_ok-set.ensures.ok_part

pub invariant_of-entries_ring : goal.invariant_of-entries_ring
invariant_of-entries_ring c = let L = rw c.in_ok-set.ensures.ok_part at c.requires.session in let v = c.view-view.ensures in record { bearing = rw (v.0, v.1, v.2, v.5) (bearing L.kept) }

pub returns-then-entries_ring-clause-finishes : goal.returns-then-entries_ring-clause-finishes
returns-then-entries_ring-clause-finishes c = let a = c.args in let o = c.over-source.ensures in let L = rw c.in_ok-set.ensures.ok_part at c.requires.session in let S = c.requires.stacks in let v = c.view-view.ensures in let G = rw (v.0, v.1, v.2, v.5, o.0, o.2) at c.entries_ring.ensures in let zz = Ending.end_ring _ _ _ _ _ _ _ _ _ _ _ _ L _ S a.output.now refl _ G c.if-entries_ring.true in record { does = rw c.in_ok-set.ensures.ok_part zz.0; valid = c.requires; same = memory_same _ }

pub enter_all-requires : goal.enter_all-requires
enter_all-requires c = let a = c.args in let o = c.over-source.ensures in let L = rw c.in_ok-set.ensures.ok_part at c.requires.session in let S = c.requires.stacks in let v = c.view-view.ensures in let G = rw (v.0, v.1, v.2, v.5, o.0, o.2) at c.entries_ring.ensures in rw (o.0, o.1, o.2, o.3) (record { valid_session = L; stacks = S; ends_value = Ending.end-free _ _ _ _ _ _ _ _ _ _ _ _ L _ S a.output.now refl _ G c.if-entries_ring.false })

pub returns-in_default-clause-finishes : goal.returns-in_default-clause-finishes
returns-in_default-clause-finishes c = let a = c.args in let o = c.over-source.ensures in let L = rw c.in_ok-set.ensures.ok_part at c.requires.session in let S = c.requires.stacks in let v = c.view-view.ensures in let G = rw (v.0, v.1, v.2, v.5, o.0, o.2) at c.entries_ring.ensures in let zz = Ending.end_full _ _ _ _ _ _ _ _ _ _ _ _ L _ S a.output.now refl _ G c.if-entries_ring.false _ _ _ _ _ _ _ (rw (o.0, o.2, o.3) at c.in_default.ensures.does) refl _ c.empty_stacks.ensures in let t = c.restore.ensures.stays refl in rw (t.0, t.1) (record { does = rw c.in_ok-set.ensures.ok_part zz.0; valid = record { session = rw c.in_ok-set.ensures.ok_part zz.1.0; stacks = zz.1.1 }; same = record { words_same = refl; tags_same = refl; derived_same = (let T = c.enter_all.ensures.same in record { log_same = T.log_same; logtags_same = T.logtags_same; starts_same = T.starts_same; maps_same = T.maps_same; buckets_same = T.buckets_same }); special_same = refl; stacks_same = refl } })

pub finish-ended-requires : goal.finish-ended-requires
finish-ended-requires c = let a = c.args in let o = c.over-source.ensures in let L = rw c.in_ok-set.ensures.ok_part at c.requires.session in let S = c.requires.stacks in let v = c.view-view.ensures in let G = rw (v.0, v.1, v.2, v.5, o.0, o.2) at c.entries_ring.ensures in let w = c.view.ensures in record { held = rw (w.0, w.1, w.2, w.5) (Ending.end-held _ _ _ _ _ _ _ _ _ _ _ _ L _ S a.output.now refl _ G c.if-entries_ring.false _ _ _ _ _ _ _ (rw (o.0, o.2, o.3) at c.in-Ok.ensures.does) refl); special_len = (L.specials.special_long, length-replicate {A = ℕ} 16384 0) }

pub returns-in_err-bytes-clause-finishes : goal.returns-in_err-bytes-clause-finishes
returns-in_err-bytes-clause-finishes c = let a = c.args in let o = c.over-source.ensures in let L = rw c.in_ok-set.ensures.ok_part at c.requires.session in let S = c.requires.stacks in let v = c.view-view.ensures in let G = rw (v.0, v.1, v.2, v.5, o.0, o.2) at c.entries_ring.ensures in let w = c.view.ensures in let p = err_from_is_err_and c.from_residual-in_err-bytes.result c.from_residual-in_err-bytes.ensures.1 in let zz = Ending.end_refused _ _ _ _ _ _ _ _ _ _ _ _ L _ S a.output.now refl _ G c.if-entries_ring.false _ _ _ _ _ _ _ (rw (o.0, o.2, o.3) at c.in-Ok.ensures.does) refl _ _ _ (rw (w.0, w.1, w.2, w.5) at c.in_err-bytes.ensures) (not_zero _) in let t = c.restore-2.ensures.stays refl in rw (p.1, p.2, t.0, t.1) (record { does = rw c.in_ok-set.ensures.ok_part zz.0; valid = record { session = rw c.in_ok-set.ensures.ok_part zz.1.0; stacks = zz.1.1 }; same = record { words_same = refl; tags_same = refl; derived_same = (let T = c.enter_all.ensures.same in record { log_same = T.log_same; logtags_same = T.logtags_same; starts_same = T.starts_same; maps_same = T.maps_same; buckets_same = T.buckets_same }); special_same = refl; stacks_same = refl } })

pub returns-clause-finishes : goal.returns-clause-finishes
unfolding session_of
returns-clause-finishes c = let a = c.args in let o = c.over-source.ensures in let L = rw c.in_ok-set.ensures.ok_part at c.requires.session in let S = c.requires.stacks in let v = c.view-view.ensures in let G = rw (v.0, v.1, v.2, v.5, o.0, o.2) at c.entries_ring.ensures in let w = c.view.ensures in let zz = Ending.end_done _ _ _ _ _ _ _ _ _ _ _ _ L _ S a.output.now refl _ G c.if-entries_ring.false _ _ _ _ _ _ _ (rw (o.0, o.2, o.3) at c.in-Ok.ensures.does) refl _ _ _ (rw (w.0, w.1, w.2, w.5) at c.in_ok-bytes.ensures) refl _ refl _ refl in let t = c.restore-2.ensures.stays refl in rw (c.renew.ensures, t.0) (record { does = rw c.in_ok-set.ensures.ok_part zz.0; valid = record { session = unset_valid zz.1.0; stacks = zz.1.1 }; same = record { words_same = refl; tags_same = refl; derived_same = (let T = c.enter_all.ensures.same in record { log_same = T.log_same; logtags_same = T.logtags_same; starts_same = T.starts_same; maps_same = T.maps_same; buckets_same = T.buckets_same }); special_same = refl; stacks_same = refl } })
