-- `intake_fields::Extent::+opened_part_row_stmt_times` meets its contract.
use Rattle.std.proofs.Common.{rules, arith, ◌≡◌, ◌+◌, ◌-◌}
use Rattle.intake_fields.specs.Rows.{SIZE, KIND_ROW}
use Rattle.intake_fields.proofs.Rows.{rows_few, class_or_0}
use Rattle.intake_fields.proofs.Walk.{exit}
use Rattle.intake_fields.proofs.Steps.{opened-short, opened_err, opened_rows, stmt_short, stmt_err, stmt_next, stmt_wrong, part-text, part-operands, part_stmt, part_block, part-other, part_deep, row_done, row_symbol, row_large, row-short, row_plain, row_err, row-again, times_done, times_err, times-next}
use Rattle.intake_fields.proofs.Extent.+opened_part_row_stmt_times.Goals as goal

pub opened-returns-in_err-w : goal.opened-returns-in_err-w
opened-returns-in_err-w t c = rw (exit _ c.in_err-w.field-0.0 c.from_residual.ensures.1) (opened-short _ _ _ _ _ _ _ _ c.in_err-w.ensures)

pub opened-returns-in_err-pc : goal.opened-returns-in_err-pc
opened-returns-in_err-pc t c = let u = c.in_ok-w.ensures in let w = c.in_err-pc.was in rw (exit _ c.in_err-pc.field-0.0 c.from_residual-in_err-pc.ensures.1) (search (opened_err, rules))

pub opened-returns : goal.opened-returns
opened-returns t c = let u = c.in_ok-w.ensures in let w = c.in_ok-pc.was in search (opened_rows, rules)

pub part-returns-in-108 : goal.part-returns-in-108
part-returns-in-108 t c = search (part-text, rules)

pub part-returns-in-109 : goal.part-returns-in-109
part-returns-in-109 t c = search (part-operands, rules)

pub part-returns-in-124 : goal.part-returns-in-124
part-returns-in-124 t c = search (part_stmt, rules)

pub part-returns-in-122 : goal.part-returns-in-122
part-returns-in-122 t c = search (part_deep, rules)

pub part-returns-in-122-2 : goal.part-returns-in-122-2
part-returns-in-122-2 t c = search (part_block, rules)

pub part-returns-in_default : goal.part-returns-in_default
part-returns-in_default t c = search (part-other, rules)

pub row-entry-s-requires : goal.row-entry-s-requires
row-entry-s-requires t c = let h = rows_few in let y = c.loop-at.invariant.in_rows in omega arith

pub row-overflow_cast-s : goal.row-overflow_cast-s
row-overflow_cast-s t c = let h = class_or_0 c.loop-at.p c.loop-at.invariant.in_rows in omega (arith, h, c.entry-s.ensures)

pub row-returns-then-s-eq0 : goal.row-returns-then-s-eq0
row-returns-then-s-eq0 t c = search (row_done, rules)

pub row-part-requires : goal.row-part-requires
row-part-requires t c = (search rules, (search rules, (search (row_large, rules), search (row_symbol, rules))))

pub row-returns-in_err-i : goal.row-returns-in_err-i
row-returns-in_err-i t c = let w = c.in_err-i.was in rw (exit _ c.in_err-i.field-0.0 c.from_residual-in_err-i.ensures.1) (search (row_err, rules))

pub row-returns-in_err-word : goal.row-returns-in_err-word
row-returns-in_err-word t c = let u = c.in_err-word.ensures in rw (exit _ c.in_err-word.field-0.0 c.from_residual.ensures.1) (search (row-short, rules))

pub row-overflow_add-p : goal.row-overflow_add-p
row-overflow_add-p t c = let h = rows_few in let y = c.loop-at.invariant.in_rows in omega arith

pub row-loop-at-preserved-then-s-lt-PAD : goal.row-loop-at-preserved-then-s-lt-PAD
row-loop-at-preserved-then-s-lt-PAD t c = let u = c.in_ok-word.ensures in search (row_plain, rules)

pub row-loop-at-preserved : goal.row-loop-at-preserved
row-loop-at-preserved t c = let w = c.in_ok-i.was in search (row-again, rules)

pub stmt-returns-in_err-n : goal.stmt-returns-in_err-n
stmt-returns-in_err-n t c = rw (exit _ c.in_err-n.field-0.0 c.from_residual.ensures.1) (stmt_short _ _ _ _ _ _ _ c.in_err-n.ensures)

pub stmt-row-requires : goal.stmt-row-requires
unfolding SIZE KIND_ROW
stmt-row-requires t c = (search rules, (search rules, search rules))

pub stmt-returns-in_err-i : goal.stmt-returns-in_err-i
unfolding SIZE KIND_ROW
stmt-returns-in_err-i t c = let u = c.in_ok-n.ensures in let w = c.in_err-i.was in rw (exit _ c.in_err-i.field-0.0 c.from_residual-in_err-i.ensures.1) (search (stmt_err, rules))

pub stmt-returns-then-at-n : goal.stmt-returns-then-at-n
unfolding SIZE KIND_ROW
stmt-returns-then-at-n t c = let u = c.in_ok-n.ensures in let w = c.in_ok-i.was in search (stmt_next, rules)

pub stmt-returns-else-at-n : goal.stmt-returns-else-at-n
unfolding SIZE KIND_ROW
stmt-returns-else-at-n t c = let u = c.in_ok-n.ensures in let w = c.in_ok-i.was in search (stmt_wrong, rules)

pub times-returns-in_err-i : goal.times-returns-in_err-i
times-returns-in_err-i t c = let w = c.in_err-i.was in rw (exit _ c.in_err-i.field-0.0 c.from_residual.ensures.1) (search (times_err, rules))

pub times-loop-preserved : goal.times-loop-preserved
times-loop-preserved t c =
    let left : c.args.count - (c.loop.counter + 1) ≡ c.args.count - c.loop.counter - 1 = omega arith in
    rw left (times-next c.args.self.words.now c.args.tags.now c.args.at c.args.count c.args.self.end c.args.pc c.args.left c.args.self.inside c.loop.tags c.loop.i _ c.loop.invariant (omega arith) _ _ c.row.ensures _ c.in_ok-i.was)

pub times-returns : goal.times-returns
times-returns t c = search (times_done, rules)
