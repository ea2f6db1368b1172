-- What `specs/NumbersExamples.antt` states holds: each side computes to the other.
use Rattle.std.specs.Prelude.{refl}
use Rattle.model.specs.Tree.{kind_of, size_b, flat_all, flat_list, flat_x, flat_s, flat_block, flat, flat_entry, word_of}
use Rattle.model.specs.Operands.{optional, operand, ops_of, kind, constant_kind}
use Rattle.model.specs.Initial.{inits_of, roots, mark, unmarked, read_by, close, reached_marks, constant_at, initialised}
use Rattle.model.specs.Numbers.{caps, bound, below, within, rising, ordered, every, outside, inside, sound, constant_only, numbered}
use Rattle.model.specs.NumbersExamples.{with-tables, Shown}

pub shown : Shown
unfolding with-tables caps bound below within rising ordered every outside inside sound constant_only numbered optional operand ops_of kind constant_kind inits_of roots mark unmarked read_by close reached_marks constant_at initialised kind_of size_b flat_all flat_list flat_x flat_s flat_block flat flat_entry word_of
shown = record {
  fine = refl;
  name_over = refl;
  code_over = refl;
  type_over = refl;
  init_over = refl;
  global-operand = refl;
  global_over = refl;
  global_barred = refl;
  operand_own = refl;
  operand_over = refl;
  statement_over = refl;
  local_over = refl;
  local_own = refl;
  argument_over = refl;
  function_own = refl;
  function_over = refl;
  emit_all = refl;
  emit_falls = refl;
  emit_over = refl;
  reaches = refl;
  reaches_barred = refl;
  reaches_not = refl;
  local_init_over = refl;
}
