use lib.ListN.{length}
use mathlib.Core.Path.{ap, ◌∙◌}
use Rattle.derive_image.proofs.Finishing.{order_few, order_low, rows-chosen, finish_over, tables-room, special-room, finish_done}
use lib.Seq.{length-sets}
use lib.ListN.{length-set}
use native.Mathlib.Omega.{arith}
use Rattle.derive_sections.proofs.Notes.{rows_few}
use Rattle.derive_image.proofs.finish_words.Goals as goal

pub appearing-met-requires : goal.appearing-met-requires
appearing-met-requires c = (rows_few c.requires.valid_tables.rows 0 (omega arith), c.requires.valid_tables.rows)

pub choose-requires : goal.choose-requires
choose-requires c = let a = c.args in let v = c.appearing-met.ensures in record { order_bound = order_few a.derived.now.log.now a.derived.now.logtags.now a.derived.now.starts.now a.derived.now.sizes.counts c.requires.valid_tables _ _ _ v; by_index = order_low a.derived.now.log.now a.derived.now.logtags.now a.derived.now.starts.now a.derived.now.sizes.counts c.requires.valid_tables _ _ _ v }

pub invariant_of-writable : goal.invariant_of-writable
invariant_of-writable c = let a = c.args in record { rows = rows-chosen a.derived.now.log.now a.derived.now.logtags.now a.derived.now.starts.now a.derived.now.sizes.counts c.requires.valid_tables _ _ _ c.appearing-met.ensures _ c.choose.ensures }

pub invariant_of-writable-2 : goal.invariant_of-writable-2
invariant_of-writable-2 c = let a = c.args in record { rows = rows-chosen a.derived.now.log.now a.derived.now.logtags.now a.derived.now.starts.now a.derived.now.sizes.counts c.requires.valid_tables _ _ _ c.appearing-met.ensures _ c.choose.ensures }

pub invariant_of-writable-3 : goal.invariant_of-writable-3
invariant_of-writable-3 c = let a = c.args in record { rows = rows-chosen a.derived.now.log.now a.derived.now.logtags.now a.derived.now.starts.now a.derived.now.sizes.counts c.requires.valid_tables _ _ _ c.appearing-met.ensures _ c.choose.ensures }

pub returns-then-k-gt-MOST_WORDS : goal.returns-then-k-gt-MOST_WORDS
returns-then-k-gt-MOST_WORDS c = let a = c.args in finish_over a.derived.now.log.now a.derived.now.logtags.now a.derived.now.starts.now a.derived.now.sizes.counts c.requires.valid_tables _ _ _ c.appearing-met.ensures _ c.choose.ensures a.special.now a.derived.now.sizes.pairs c.requires.pairs_bound.0 c.requires.pairs_bound.1 _ c.all_sizes.ensures _ _ c.if-k-gt-MOST_WORDS.true

pub write_heads-requires : goal.write_heads-requires
write_heads-requires c = let a = c.args in record { out_len = simp length-set c.requires.pairs_bound.2 }

pub write_tables-at-requires : goal.write_tables-at-requires
write_tables-at-requires c = let a = c.args in record { sizes_bound = (tables-room a.derived.now.log.now a.derived.now.logtags.now a.derived.now.starts.now a.derived.now.sizes.counts c.requires.valid_tables _ _ _ c.appearing-met.ensures _ c.choose.ensures a.special.now a.derived.now.sizes.pairs c.requires.pairs_bound.0 c.requires.pairs_bound.1 _ c.all_sizes.ensures c.if-k-gt-MOST_WORDS.false, ap length c.write_heads.ensures ∙ simp (length-sets, length-set) c.requires.pairs_bound.2) }

pub write-requires : goal.write-requires
write-requires c = let a = c.args in (c.requires.pairs_bound.0, special-room a.derived.now.log.now a.derived.now.logtags.now a.derived.now.starts.now a.derived.now.sizes.counts c.requires.valid_tables _ _ _ c.appearing-met.ensures _ c.choose.ensures a.special.now a.derived.now.sizes.pairs c.requires.pairs_bound.0 c.requires.pairs_bound.1 _ c.all_sizes.ensures c.if-k-gt-MOST_WORDS.false _ c.write_tables-at.ensures.1, ap length c.write_tables-at.ensures.0 ∙ simp length-sets (ap length c.write_heads.ensures ∙ simp (length-sets, length-set) c.requires.pairs_bound.2))

pub returns : goal.returns
returns c = let a = c.args in finish_done a.derived.now.log.now a.derived.now.logtags.now a.derived.now.starts.now a.derived.now.sizes.counts c.requires.valid_tables _ _ _ c.appearing-met.ensures _ c.choose.ensures a.special.now a.derived.now.sizes.pairs c.requires.pairs_bound.0 c.requires.pairs_bound.1 _ c.all_sizes.ensures c.if-k-gt-MOST_WORDS.false _ _ c.write_heads.ensures _ _ c.write_tables-at.ensures _ c.write.ensures
