use native.Mathlib.Omega.{arith}
use lib.ListN.{length-set}
use mathlib.Core.Path.{◌∙◌, refl, ap}
use Rattle.derive_state.proofs.State.{settle_old, settle_many, settle_long, settle_new}
use Rattle.derive_state.specs.Sizes.{going}
use Rattle.derive_intern.proofs.intern.Goals.{then-n-eq512-via-then-n-eq512, then-n-eq512-via-else-n-eq512+then-words_left-len}
use Rattle.derive_intern.proofs.intern.Goals as goal

pub bucket_of-p-requires : goal.bucket_of-p-requires
bucket_of-p-requires c = let a = c.args in let q = c.requires.number_bound in let K = c.requires.valid_arrays in let f = K.few a.r.table (let z = q.0 in omega arith) in let z = q.0 in omega arith

pub find_by_bucket-found-requires : goal.find_by_bucket-found-requires
find_by_bucket-found-requires c = let a = c.args in let q = c.requires.number_bound in let K = c.requires.valid_arrays in let f = K.few a.r.table (let z = q.0 in omega arith) in let v = c.view.ensures in record { t_bound = (q.0, rw v.3 c.bucket_of-p.ensures.0, c.bucket_of-p.ensures.1); valid_arrays = rw (v.0, v.1, v.2, v.3, v.4, v.5) K }

pub returns-in-Some : goal.returns-in-Some
returns-in-Some c = let a = c.args in let q = c.requires.number_bound in let K = c.requires.valid_arrays in let f = K.few a.r.table (let z = q.0 in omega arith) in let v = c.view.ensures in record { does = settle_old a.original.cells.words.now a.original.cells.tags.now a.derived.now.log.now a.derived.now.logtags.now a.derived.now.starts.now a.derived.now.maps.now a.derived.now.buckets.now (going a.ends) refl K a.r.table a.r.number a.original.at a.original.end a.offset q.0 q.1 q.2 a.original.stretch c.requires.nameless c.in-Some.j (rw (v.0, v.1, v.2, v.3, v.5) at c.in-Some.ensures.1) (rw v.5 at c.in-Some.ensures.0); same = record { log_same = refl; logtags_same = refl; starts_same = refl; maps_same = refl; buckets_same = refl } }

pub returns-then-n-eq512 : goal.returns-then-n-eq512
returns-then-n-eq512 c =
    let a = c.args in
    let q = c.requires.number_bound in
    let K = c.requires.valid_arrays in
    let f = K.few a.r.table (let z = q.0 in omega arith) in
    let v = c.view.ensures in
    elim c.then-n-eq512.branch [
      | then-n-eq512-via-then-n-eq512 w ↦ record { does = settle_many a.original.cells.words.now a.original.cells.tags.now a.derived.now.log.now a.derived.now.logtags.now a.derived.now.starts.now a.derived.now.maps.now a.derived.now.buckets.now (going a.ends) refl K a.r.table a.r.number a.original.at a.original.end a.offset q.0 q.1 q.2 a.original.stretch c.requires.nameless _ (rw (v.0, v.1, v.2, v.3, v.5) at c.in_default.ensures) (omega arith) w.if-n-eq512.true _ refl; same = record { log_same = refl; logtags_same = refl; starts_same = refl; maps_same = refl; buckets_same = refl } }
      | then-n-eq512-via-else-n-eq512+then-words_left-len w ↦ record { does = settle_long a.original.cells.words.now a.original.cells.tags.now a.derived.now.log.now a.derived.now.logtags.now a.derived.now.starts.now a.derived.now.maps.now a.derived.now.buckets.now (going a.ends) refl K a.r.table a.r.number a.original.at a.original.end a.offset q.0 q.1 q.2 a.original.stretch c.requires.nameless _ (rw (v.0, v.1, v.2, v.3, v.5) at c.in_default.ensures) (omega arith) _ w.words_left.ensures (rw c.len-len.ensures at w.if-words_left-len.true) _ refl; same = record { log_same = refl; logtags_same = refl; starts_same = refl; maps_same = refl; buckets_same = refl } }
    ]

pub words_left-requires : goal.words_left-requires
words_left-requires c = let a = c.args in let q = c.requires.number_bound in let K = c.requires.valid_arrays in let f = K.few a.r.table (let z = q.0 in omega arith) in let v = c.view.ensures in K.room

pub write-requires : goal.write-requires
write-requires c = let a = c.args in let q = c.requires.number_bound in let K = c.requires.valid_arrays in let f = K.few a.r.table (let z = q.0 in omega arith) in let v = c.view.ensures in let z = c.if-words_left-len.false in let y = c.words_left.ensures in (omega arith, length-set a.derived.now.log.now a.ends.loglen _ ∙ K.log_long, K.tags_long)

pub set_bucket-requires : goal.set_bucket-requires
set_bucket-requires c = let a = c.args in let q = c.requires.number_bound in let K = c.requires.valid_arrays in let f = K.few a.r.table (let z = q.0 in omega arith) in let v = c.view.ensures in let z = c.if-n-eq512.false in (c.bucket_of-p.ensures.1, omega arith, K.marks_long)

pub with_record-requires : goal.with_record-requires
with_record-requires c = let a = c.args in let q = c.requires.number_bound in let K = c.requires.valid_arrays in let f = K.few a.r.table (let z = q.0 in omega arith) in let v = c.view.ensures in let z = c.if-n-eq512.false in let y = c.if-words_left-len.false in let x = c.words_left.ensures in let w = q.0 in (omega arith, omega arith, omega arith)

pub returns : goal.returns
returns c = let a = c.args in let q = c.requires.number_bound in let K = c.requires.valid_arrays in let f = K.few a.r.table (let z = q.0 in omega arith) in let v = c.view.ensures in record { does = settle_new a.original.cells.words.now a.original.cells.tags.now a.derived.now.log.now a.derived.now.logtags.now a.derived.now.starts.now a.derived.now.maps.now a.derived.now.buckets.now (going a.ends) refl K a.r.table a.r.number a.original.at a.original.end a.offset q.0 q.1 q.2 a.original.stretch c.requires.nameless _ (rw (v.0, v.1, v.2, v.3, v.5) at c.in_default.ensures) (omega arith) c.if-n-eq512.false _ c.words_left.ensures (rw c.len-len.ensures at c.if-words_left-len.false) _ _ (rw c.len-len.ensures at c.write.ensures) c.bucket_of-p.result c.bucket_of-p.ensures.0 _ c.set_bucket.ensures _ (ap going (rw c.len-len.ensures at c.with_record.ensures)); same = record { log_same = refl; logtags_same = refl; starts_same = refl; maps_same = refl; buckets_same = refl } }
