use Prim.Native.Nat.{◌+◌, ◌*◌}
use native.Mathlib.Omega.{arith}
use lib.ListN.{take}
use Rattle.std.proofs.lemmas.Result.{err_from_is_err_and}
use Rattle.derive_image.proofs.Storing.{many_functions, many_entries, too_long, no_room, stored, small, store-room}
use Rattle.derive_image.proofs.finish.Goals as goal
use Rattle.derive_image.proofs.finish.Goals.{then-counts-gt-MOST_FUNCTIONS-via-then-counts-gt-MOST_FUNCTIONS, then-counts-gt-MOST_FUNCTIONS-via-else-counts-gt-MOST_FUNCTIONS+then-counts-gt-MOST_ENTRIES}

pub returns-then-counts-gt-MOST_FUNCTIONS : goal.returns-then-counts-gt-MOST_FUNCTIONS
returns-then-counts-gt-MOST_FUNCTIONS c =
    let a = c.args in
    elim c.then-counts-gt-MOST_FUNCTIONS.branch [
      | then-counts-gt-MOST_FUNCTIONS-via-then-counts-gt-MOST_FUNCTIONS w ↦ many_functions a.derived.now.log.now a.derived.now.logtags.now a.derived.now.starts.now a.derived.now.sizes.counts c.requires.valid_tables a.derived.now.sizes.pairs (take (3 + 2 * a.derived.now.sizes.pairs) a.special.now) a.output.now w.if-counts-gt-MOST_FUNCTIONS.true
      | then-counts-gt-MOST_FUNCTIONS-via-else-counts-gt-MOST_FUNCTIONS+then-counts-gt-MOST_ENTRIES w ↦ many_entries a.derived.now.log.now a.derived.now.logtags.now a.derived.now.starts.now a.derived.now.sizes.counts c.requires.valid_tables a.derived.now.sizes.pairs (take (3 + 2 * a.derived.now.sizes.pairs) a.special.now) a.output.now w.if-counts-gt-MOST_ENTRIES.true
    ]

pub returns-in_err-k : goal.returns-in_err-k
returns-in_err-k c =
    let p = err_from_is_err_and c.from_residual.result c.from_residual.ensures.1 in
    let a = c.args in
    rw (p.1, p.2) (too_long a.derived.now.log.now a.derived.now.logtags.now a.derived.now.starts.now a.derived.now.sizes.counts c.requires.valid_tables a.derived.now.sizes.pairs (take (3 + 2 * a.derived.now.sizes.pairs) a.special.now) a.output.now _ _ _ c.finish_words.ensures _ c.in_err-k.was)

pub overflow_mul-k : goal.overflow_mul-k
overflow_mul-k c = let a = c.args in let h = small a.derived.now.log.now a.derived.now.logtags.now a.derived.now.starts.now a.derived.now.sizes.counts c.requires.valid_tables a.derived.now.sizes.pairs (take (3 + 2 * a.derived.now.sizes.pairs) a.special.now) a.output.now _ _ _ c.finish_words.ensures c.if-counts-gt-MOST_FUNCTIONS.false c.if-counts-gt-MOST_ENTRIES.false _ c.in_ok-k.was in omega arith

pub returns-then-output-k : goal.returns-then-output-k
returns-then-output-k c = let a = c.args in no_room a.derived.now.log.now a.derived.now.logtags.now a.derived.now.starts.now a.derived.now.sizes.counts c.requires.valid_tables a.derived.now.sizes.pairs (take (3 + 2 * a.derived.now.sizes.pairs) a.special.now) a.output.now _ _ _ c.finish_words.ensures c.if-counts-gt-MOST_FUNCTIONS.false c.if-counts-gt-MOST_ENTRIES.false _ c.in_ok-k.was c.if-output-k.true

pub store-requires : goal.store-requires
store-requires c = let a = c.args in store-room a.derived.now.log.now a.derived.now.logtags.now a.derived.now.starts.now a.derived.now.sizes.counts c.requires.valid_tables a.derived.now.sizes.pairs (take (3 + 2 * a.derived.now.sizes.pairs) a.special.now) a.output.now _ _ _ c.finish_words.ensures c.if-counts-gt-MOST_FUNCTIONS.false c.if-counts-gt-MOST_ENTRIES.false _ c.in_ok-k.was c.requires.pairs_bound.2 c.if-output-k.false

pub returns : goal.returns
returns c = let a = c.args in stored a.derived.now.log.now a.derived.now.logtags.now a.derived.now.starts.now a.derived.now.sizes.counts c.requires.valid_tables a.derived.now.sizes.pairs (take (3 + 2 * a.derived.now.sizes.pairs) a.special.now) a.output.now _ _ _ c.finish_words.ensures c.if-counts-gt-MOST_FUNCTIONS.false c.if-counts-gt-MOST_ENTRIES.false _ c.in_ok-k.was c.requires.pairs_bound.2 c.if-output-k.false _ c.store.ensures
