use lib.ListN.{get_or}
use mathlib.Core.Path.{refl}
use native.Mathlib.Omega.{arith}
use Rattle.derive_state.specs.Sizes.{going}
use Rattle.derive_state.proofs.State.{sought_none, sought_stale, sought_one, sought_other}
use Rattle.derive_intern.proofs.find_by_bucket.Goals as goal

pub returns-in-Empty : goal.returns-in-Empty
returns-in-Empty c = let a = c.args in let K = c.requires.valid_arrays in let q = c.requires.t_bound in sought_none a.derived.now.log.now a.derived.now.logtags.now a.derived.now.starts.now a.derived.now.maps.now a.derived.now.buckets.now (going a.derived.now.sizes) K a.t q.0 _ a.p q.1 c.in-Empty.ensures

pub alike-requires : goal.alike-requires
alike-requires c = let a = c.args in let K = c.requires.valid_arrays in let q = c.requires.t_bound in let ht = q.0 in let h = c.if-j-n.true in let w = K.within a.t c.in-One.j (omega arith) h in let r = K.room in (omega arith, K.log_long, K.tags_long)

pub returns-in-One : goal.returns-in-One
returns-in-One c = let a = c.args in let K = c.requires.valid_arrays in let q = c.requires.t_bound in let o = c.in-One.ensures in (c.if-j-n.true, sought_one a.derived.now.log.now a.derived.now.logtags.now a.derived.now.starts.now a.derived.now.maps.now a.derived.now.buckets.now (going a.derived.now.sizes) K a.t q.0 _ a.p q.1 (get_or a.derived.now.buckets.now a.p 0) c.in-One.j refl o.0 o.1 c.if-j-n.true _ refl _ c.alike.ensures c.if-alike.true)

pub returns-in-One-2 : goal.returns-in-One-2
returns-in-One-2 c = let a = c.args in let K = c.requires.valid_arrays in let q = c.requires.t_bound in let o = c.in-One.ensures in sought_other a.derived.now.log.now a.derived.now.logtags.now a.derived.now.starts.now a.derived.now.maps.now a.derived.now.buckets.now (going a.derived.now.sizes) K a.t q.0 _ a.p q.1 (get_or a.derived.now.buckets.now a.p 0) c.in-One.j refl o.0 o.1 c.if-j-n.true _ refl _ c.alike.ensures c.if-alike.false

pub returns-in-One-2-2 : goal.returns-in-One-2-2
returns-in-One-2-2 c = let a = c.args in let K = c.requires.valid_arrays in let q = c.requires.t_bound in let o = c.in-One.ensures in sought_stale a.derived.now.log.now a.derived.now.logtags.now a.derived.now.starts.now a.derived.now.maps.now a.derived.now.buckets.now (going a.derived.now.sizes) K a.t q.0 _ a.p q.1 (get_or a.derived.now.buckets.now a.p 0) c.in-One.j refl o.0 o.1 c.if-j-n.false

pub find-requires : goal.find-requires
find-requires c = let a = c.args in let K = c.requires.valid_arrays in let q = c.requires.t_bound in let ht = q.0 in record { t_bound = (omega arith, K.few a.t (omega arith), K.log_long, K.tags_long, K.rows a.t (omega arith)); by_index = λ k h. let w = K.within a.t k (omega arith) h in let r = K.room in omega arith }
