-- `intake_fields::brings` meets its contract.
use Rattle.std.proofs.Common.{arith, ◌∙◌, ◌<◌, ◌≤◌}
use mathlib.Core.Logic.{◌⊎◌, inl, inr}
use Rattle.intake_fields.specs.Rows.{SIZE}
use Rattle.intake_fields.proofs.Rows.{brings_over, brings_list, brings_block, brings_none, in_group, brings_row}
use Rattle.intake_fields.proofs.brings.Goals.{in_default-via-then-s-lt122, in_default-via-else-s-lt122+else-s-lt124}
use Rattle.intake_fields.proofs.brings.Goals as goal

pub returns-in-122 : goal.returns-in-122
returns-in-122 c = let k = c.in-122 in brings_block c.args.s c.args.w _ _ c.requires.le_s.0 c.requires.le_s.1 c.pair-from.ensures.row_or_group c.pair-from.ensures.limit_or_count (omega (arith, k)) (omega (arith, k))

pub returns-in-0-to-114 : goal.returns-in-0-to-114
returns-in-0-to-114 c = let k = c.in-0-to-114 in brings_list c.args.s c.args.w _ _ c.requires.le_s.0 c.requires.le_s.1 c.pair-from.ensures.row_or_group c.pair-from.ensures.limit_or_count (omega (arith, k)) c.if-w-most.true

pub returns-in-0-to-114-2 : goal.returns-in-0-to-114-2
returns-in-0-to-114-2 c = let k = c.in-0-to-114 in brings_over c.args.s c.args.w _ _ c.requires.le_s.0 c.requires.le_s.1 c.pair-from.ensures.row_or_group c.pair-from.ensures.limit_or_count (omega (arith, k)) c.if-w-most.false

pub returns-in_default-2 : goal.returns-in_default-2
returns-in_default-2 c =
    let out : (c.args.s < 122) ⊎ (124 ≤ c.args.s) = elim c.in_default.branch [
      | in_default-via-then-s-lt122 w ↦ inl (omega (arith, w))
      | in_default-via-else-s-lt122+else-s-lt124 w ↦ inr (omega (arith, w))
    ] in
    let low : 115 ≤ c.args.s = omega arith in
    brings_none c.args.s c.args.w _ _ c.requires.le_s.0 c.requires.le_s.1 c.pair-from.ensures.row_or_group c.pair-from.ensures.limit_or_count low out c.requires.not_length c.if-w-most-2.false

pub overflow_add-from : goal.overflow_add-from
unfolding SIZE
overflow_add-from c =
    let out : (c.args.s < 122) ⊎ (124 ≤ c.args.s) = elim c.in_default.branch [
      | in_default-via-then-s-lt122 w ↦ inl (omega (arith, w))
      | in_default-via-else-s-lt122+else-s-lt124 w ↦ inr (omega (arith, w))
    ] in
    let low : 115 ≤ c.args.s = omega arith in
    let h = in_group c.args.s c.args.w _ _ c.requires.le_s.0 c.requires.le_s.1 c.pair-from.ensures.row_or_group c.pair-from.ensures.limit_or_count low out c.requires.not_length c.if-w-most-2.true in
    omega (arith, h)

pub entry-requires : goal.entry-requires
unfolding SIZE
entry-requires c =
    let out : (c.args.s < 122) ⊎ (124 ≤ c.args.s) = elim c.in_default.branch [
      | in_default-via-then-s-lt122 w ↦ inl (omega (arith, w))
      | in_default-via-else-s-lt122+else-s-lt124 w ↦ inr (omega (arith, w))
    ] in
    let low : 115 ≤ c.args.s = omega arith in
    in_group c.args.s c.args.w _ _ c.requires.le_s.0 c.requires.le_s.1 c.pair-from.ensures.row_or_group c.pair-from.ensures.limit_or_count low out c.requires.not_length c.if-w-most-2.true

pub returns-in_default : goal.returns-in_default
returns-in_default c =
    let out : (c.args.s < 122) ⊎ (124 ≤ c.args.s) = elim c.in_default.branch [
      | in_default-via-then-s-lt122 w ↦ inl (omega (arith, w))
      | in_default-via-else-s-lt122+else-s-lt124 w ↦ inr (omega (arith, w))
    ] in
    let low : 115 ≤ c.args.s = omega arith in
    brings_row c.args.s c.args.w _ _ c.requires.le_s.0 c.requires.le_s.1 c.pair-from.ensures.row_or_group c.pair-from.ensures.limit_or_count low out c.requires.not_length c.from.result (c.from.ensures ∙ c.entry.ensures) c.if-w-most-2.true
