-- `set_first_source` meets its contract: refused by intake, full, or set.
use mathlib.Core.Bool.{false}
use mathlib.Core.Path.{refl}
use Prim.Native.Nat.{ℕ}
use lib.ListN.{length-replicate}
use Rattle.std.proofs.lemmas.Result.{err_from_is_err_and}
use Rattle.derive_state.proofs.State.{arrays_same}
use Rattle.session_operations.proofs.Setting.{accepted_source, accepted_ground, elsewhere, set_refused, set_not, set_so}
use Rattle.session_operations.proofs.set_first_source.Goals as goal

pub returns-in-Err-clause-operates : goal.returns-in-Err-clause-operates
returns-in-Err-clause-operates c = let a = c.args in let L = c.requires.valid in let u = c.requires.unset in let zz = elsewhere (length-replicate {A = ℕ} 16384 0) (length-replicate {A = ℕ} 16384 0) (set_refused a.image.now c.take_in.new.words c.take_in.new.tags c.take_in.result c.take_in.ensures false _ _ _ _ _ _ _ _ _ _ _ (rw u at L) a.offset c.in-Err.refusal c.in-Err.is _ refl) in record { does = rw u zz.0; valid = rw u zz.1; same = record { words_same = refl; tags_same = refl; derived_same = arrays_same _; special_same = refl; stacks_same = refl } }

pub over-source-requires : goal.over-source-requires
over-source-requires c = let a = c.args in accepted_ground a.image.now c.take_in.new.words c.take_in.new.tags c.take_in.result c.take_in.ensures c.in-Ok.n c.in-Ok.is

pub returns-in_err-sizes-clause-operates : goal.returns-in_err-sizes-clause-operates
returns-in_err-sizes-clause-operates c = let p = err_from_is_err_and c.from_residual.result c.from_residual.ensures.1 in let o = c.over-source.ensures in let a = c.args in let L = c.requires.valid in let u = c.requires.unset in let long = (accepted_source a.image.now c.take_in.new.words c.take_in.new.tags c.take_in.result c.take_in.ensures c.in-Ok.n c.in-Ok.is).taped in let zz = elsewhere long.words_long long.tags_long (set_not a.image.now c.take_in.new.words c.take_in.new.tags c.take_in.result c.take_in.ensures false _ _ _ _ _ _ _ _ _ _ _ (rw u at L) a.offset c.in-Ok.n c.in-Ok.is _ _ _ _ _ _ _ (rw (c.source.ensures.0, c.source.ensures.1, o.0, o.2, o.3) at c.in_err-sizes.ensures.does) refl) in rw (p.1, p.2) (record { does = rw u zz.0; valid = rw u zz.1; same = record { words_same = refl; tags_same = refl; derived_same = c.set_source.ensures.same; special_same = refl; stacks_same = refl } })

pub returns-clause-operates : goal.returns-clause-operates
returns-clause-operates c = let o = c.over-source.ensures in let a = c.args in let L = c.requires.valid in let zz = set_so a.image.now c.take_in.new.words c.take_in.new.tags c.take_in.result c.take_in.ensures _ _ _ _ _ _ _ _ _ _ _ _ L a.offset c.in-Ok.n c.in-Ok.is _ _ _ _ _ _ _ (rw (c.source.ensures.0, c.source.ensures.1, o.0, o.2, o.3) at c.in_ok-sizes.ensures.does) refl in record { does = zz.0; valid = zz.1; same = record { words_same = refl; tags_same = refl; derived_same = c.set_source.ensures.same; special_same = refl; stacks_same = refl } }
