-- `append_record` meets its contract: the table is full or there is no room, or seven parts are written one after the other, in words and in classes.
use mathlib.Core.Path.{refl, ap, ◌∙◌}
use native.Mathlib.Omega.{arith}
use lib.ListN.{length, get_or, length-set}
use lib.Seq.{length-sets}
use Rattle.function_record.proofs.Closing.{room, seated, many, long, closes}
use Rattle.derive_state.specs.Sizes.{going}
use Rattle.function_record.proofs.append_record.Goals.{then-count-limit-via-then-count-limit, then-count-limit-via-else-count-limit+then-words_left-size}
use Rattle.function_record.proofs.append_record.Goals as goal

pub returns-then-count-limit : goal.returns-then-count-limit
returns-then-count-limit c =
    let a = c.args in let q = c.requires.loglen_bound in
    elim c.then-count-limit.branch [
      | then-count-limit-via-then-count-limit w ↦ many a.tags.now a.stacks.now (going a.before) (going a.ends) a.place.start a.place.exprs a.place.body a.place.end a.head c.requires.s_le_exprs c.requires.t_bound.3 c.requires.stacks c.requires.body_len a.log.now a.logtags.now a.starts.now a.limit a.t _ refl q.1 q.2 w.if-count-limit.true
      | then-count-limit-via-else-count-limit+then-words_left-size w ↦ long a.tags.now a.stacks.now (going a.before) (going a.ends) a.place.start a.place.exprs a.place.body a.place.end a.head c.requires.s_le_exprs c.requires.t_bound.3 c.requires.stacks c.requires.body_len a.log.now a.logtags.now a.starts.now a.limit a.t _ refl q.1 q.2 w.words_left.result w.words_left.ensures w.if-words_left-size.true
    ]

pub copy_expressions-requires : goal.copy_expressions-requires
copy_expressions-requires c = let a = c.args in let r = room a.tags.now (going a.before) (going a.ends) a.place.start a.place.exprs a.place.body a.place.end a.head c.requires.s_le_exprs c.requires.t_bound.3 c.requires.stacks c.words_left.result c.words_left.ensures c.if-words_left-size.false in let l₁ = c.requires.loglen_bound.1 in let k₁ = c.requires.loglen_bound.2 in record { count_bound = (omega (arith, r), omega (arith, r), simp length-set l₁, k₁, c.requires.stacks.0.rows 0 (omega arith), c.requires.stacks.0.rows 1 (omega arith)); by_index = λ i h g. c.requires.by_index i (omega (arith, r)) (omega (arith, r)) }

pub copy_carried-requires : goal.copy_carried-requires
copy_carried-requires c = let a = c.args in let r = room a.tags.now (going a.before) (going a.ends) a.place.start a.place.exprs a.place.body a.place.end a.head c.requires.s_le_exprs c.requires.t_bound.3 c.requires.stacks c.words_left.result c.words_left.ensures c.if-words_left-size.false in let l₁ = c.requires.loglen_bound.1 in let k₁ = c.requires.loglen_bound.2 in let l₂ = (simp (length-sets, length-set) at (ap length c.copy_expressions.ensures.log_after)) ∙ l₁ in let k₂ = (simp (length-sets, length-set) at (ap length c.copy_expressions.ensures.logtags_after)) ∙ k₁ in (omega (arith, r), omega (arith, r), omega (arith, r), l₂, k₂, c.requires.stacks.0.rows 3 (omega arith), c.requires.s_le_exprs.4)

pub copy_expressions-requires-2 : goal.copy_expressions-requires-2
copy_expressions-requires-2 c = let a = c.args in let r = room a.tags.now (going a.before) (going a.ends) a.place.start a.place.exprs a.place.body a.place.end a.head c.requires.s_le_exprs c.requires.t_bound.3 c.requires.stacks c.words_left.result c.words_left.ensures c.if-words_left-size.false in let l₁ = c.requires.loglen_bound.1 in let k₁ = c.requires.loglen_bound.2 in let l₂ = (simp (length-sets, length-set) at (ap length c.copy_expressions.ensures.log_after)) ∙ l₁ in let k₂ = (simp (length-sets, length-set) at (ap length c.copy_expressions.ensures.logtags_after)) ∙ k₁ in let l₃ = (simp (length-sets, length-set) at (ap length c.copy_carried.ensures.log_after)) ∙ l₂ in let k₃ = (simp (length-sets, length-set) at (ap length c.copy_carried.ensures.logtags_after)) ∙ k₂ in record { count_bound = (omega (arith, r), omega (arith, r), simp length-set l₃, simp length-set k₃, c.requires.stacks.0.rows 0 (omega arith), c.requires.stacks.0.rows 1 (omega arith)); by_index = λ i h g. c.requires.by_index i (omega (arith, r)) (omega (arith, r)) }

pub overflow_add-b : goal.overflow_add-b
overflow_add-b c = let a = c.args in let r = room a.tags.now (going a.before) (going a.ends) a.place.start a.place.exprs a.place.body a.place.end a.head c.requires.s_le_exprs c.requires.t_bound.3 c.requires.stacks c.words_left.result c.words_left.ensures c.if-words_left-size.false in let u = c.requires.t_bound in omega (arith, r)

pub overflow_add-b-2 : goal.overflow_add-b-2
overflow_add-b-2 c = let a = c.args in let r = room a.tags.now (going a.before) (going a.ends) a.place.start a.place.exprs a.place.body a.place.end a.head c.requires.s_le_exprs c.requires.t_bound.3 c.requires.stacks c.words_left.result c.words_left.ensures c.if-words_left-size.false in let u = c.requires.t_bound in omega (arith, r)

pub copy_names-requires : goal.copy_names-requires
copy_names-requires c = let a = c.args in let r = room a.tags.now (going a.before) (going a.ends) a.place.start a.place.exprs a.place.body a.place.end a.head c.requires.s_le_exprs c.requires.t_bound.3 c.requires.stacks c.words_left.result c.words_left.ensures c.if-words_left-size.false in let l₁ = c.requires.loglen_bound.1 in let k₁ = c.requires.loglen_bound.2 in let l₂ = (simp (length-sets, length-set) at (ap length c.copy_expressions.ensures.log_after)) ∙ l₁ in let k₂ = (simp (length-sets, length-set) at (ap length c.copy_expressions.ensures.logtags_after)) ∙ k₁ in let l₃ = (simp (length-sets, length-set) at (ap length c.copy_carried.ensures.log_after)) ∙ l₂ in let k₃ = (simp (length-sets, length-set) at (ap length c.copy_carried.ensures.logtags_after)) ∙ k₂ in let l₄ = (simp (length-sets, length-set) at (ap length c.copy_expressions-2.ensures.log_after)) ∙ l₃ in let k₄ = (simp (length-sets, length-set) at (ap length c.copy_expressions-2.ensures.logtags_after)) ∙ k₃ in (omega (arith, r), omega (arith, r), simp length-set l₄, simp length-set k₄, c.requires.stacks.0.rows 3 (omega arith))

pub overflow_add-b-3 : goal.overflow_add-b-3
overflow_add-b-3 c = let a = c.args in let r = room a.tags.now (going a.before) (going a.ends) a.place.start a.place.exprs a.place.body a.place.end a.head c.requires.s_le_exprs c.requires.t_bound.3 c.requires.stacks c.words_left.result c.words_left.ensures c.if-words_left-size.false in let u = c.requires.t_bound in omega (arith, r)

pub copy_carried-requires-2 : goal.copy_carried-requires-2
copy_carried-requires-2 c = let a = c.args in let r = room a.tags.now (going a.before) (going a.ends) a.place.start a.place.exprs a.place.body a.place.end a.head c.requires.s_le_exprs c.requires.t_bound.3 c.requires.stacks c.words_left.result c.words_left.ensures c.if-words_left-size.false in let l₁ = c.requires.loglen_bound.1 in let k₁ = c.requires.loglen_bound.2 in let l₂ = (simp (length-sets, length-set) at (ap length c.copy_expressions.ensures.log_after)) ∙ l₁ in let k₂ = (simp (length-sets, length-set) at (ap length c.copy_expressions.ensures.logtags_after)) ∙ k₁ in let l₃ = (simp (length-sets, length-set) at (ap length c.copy_carried.ensures.log_after)) ∙ l₂ in let k₃ = (simp (length-sets, length-set) at (ap length c.copy_carried.ensures.logtags_after)) ∙ k₂ in let l₄ = (simp (length-sets, length-set) at (ap length c.copy_expressions-2.ensures.log_after)) ∙ l₃ in let k₄ = (simp (length-sets, length-set) at (ap length c.copy_expressions-2.ensures.logtags_after)) ∙ k₃ in let l₅ = (simp (length-sets, length-set) at (ap length c.copy_names.ensures.log_after)) ∙ l₄ in let k₅ = (simp (length-sets, length-set) at (ap length c.copy_names.ensures.logtags_after)) ∙ k₄ in (omega (arith, r), omega (arith, r), omega (arith, r), l₅, k₅, c.requires.stacks.0.rows 3 (omega arith), c.requires.s_le_exprs.4)

pub offset_bounds-starts-t : goal.offset_bounds-starts-t
offset_bounds-starts-t c = let a = c.args in let r = room a.tags.now (going a.before) (going a.ends) a.place.start a.place.exprs a.place.body a.place.end a.head c.requires.s_le_exprs c.requires.t_bound.3 c.requires.stacks c.words_left.result c.words_left.ensures c.if-words_left-size.false in let u = c.requires.t_bound in omega (arith, r)

pub offset_bounds-starts-count : goal.offset_bounds-starts-count
offset_bounds-starts-count c = let a = c.args in let r = room a.tags.now (going a.before) (going a.ends) a.place.start a.place.exprs a.place.body a.place.end a.head c.requires.s_le_exprs c.requires.t_bound.3 c.requires.stacks c.words_left.result c.words_left.ensures c.if-words_left-size.false in let u = c.requires.t_bound in omega (arith, r)

pub bounds-starts-t : goal.bounds-starts-t
bounds-starts-t c = let a = c.args in let r = room a.tags.now (going a.before) (going a.ends) a.place.start a.place.exprs a.place.body a.place.end a.head c.requires.s_le_exprs c.requires.t_bound.3 c.requires.stacks c.words_left.result c.words_left.ensures c.if-words_left-size.false in let u = c.requires.t_bound in omega (arith, r)

pub bounds-starts-count : goal.bounds-starts-count
bounds-starts-count c = let a = c.args in seated (get_or a.ends.counts a.t 0) a.limit c.requires.t_bound.2 c.if-count-limit.false c.requires.t_bound.1

pub with_record-requires : goal.with_record-requires
with_record-requires c = let a = c.args in let r = room a.tags.now (going a.before) (going a.ends) a.place.start a.place.exprs a.place.body a.place.end a.head c.requires.s_le_exprs c.requires.t_bound.3 c.requires.stacks c.words_left.result c.words_left.ensures c.if-words_left-size.false in let h = c.words_left.ensures in let g = c.if-words_left-size.false in (omega arith, omega (arith, r), seated (get_or a.ends.counts a.t 0) a.limit c.requires.t_bound.2 c.if-count-limit.false c.requires.t_bound.1)

pub returns : goal.returns
returns c = let a = c.args in let q = c.requires.loglen_bound in rw c.with_record.ensures (closes a.tags.now a.stacks.now (going a.before) (going a.ends) a.place.start a.place.exprs a.place.body a.place.end a.head c.requires.s_le_exprs c.requires.t_bound.3 c.requires.stacks c.requires.body_len a.log.now a.logtags.now c.copy_expressions.ensures.log_after c.copy_carried.ensures.log_after c.copy_expressions-2.ensures.log_after c.copy_names.ensures.log_after c.copy_carried-2.ensures.log_after c.copy_expressions.ensures.logtags_after c.copy_carried.ensures.logtags_after c.copy_expressions-2.ensures.logtags_after c.copy_names.ensures.logtags_after c.copy_carried-2.ensures.logtags_after a.limit a.t a.starts.now c.requires.t_bound.2 c.if-count-limit.false q.1 q.2 c.words_left.result c.words_left.ensures c.if-words_left-size.false)
