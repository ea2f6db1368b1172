-- What `specs/Sample.antt` states holds: each side computes to the other.
use Rattle.std.specs.Prelude.{refl}
use Rattle.model.specs.Outcome.{◌⟫◌, eat, map_o, exact, both, map_l}
use Rattle.model.specs.Table.{types, expressions, levels, queries, values, atomics, results, statements, name_row, type_row, constant_row, override_row, global_row, expression_row, function_head, entry_head, counted, limit, variants, repeat, text, variant, more, follow, run}
use Rattle.model.specs.Tree.{opt_of, word_of, kind_of, size_b, size_c, flat_all, flat_list, flat_x, flat_s, flat_block, flat, flat_entry, rows, listed, operands, stmts, case_at, cases, form, checked, shaped, statement, block_at, function_at, entry_at}
use Rattle.model.specs.Module.{next, records, table, special_at, count_at, offset_at, end_at, limits, placed, section, table_at, ◌⊛◌, read, places, flat_table, flat_special, sections, pairs_from, bodies, flat_module, write}
use Rattle.model.specs.Carry.{carry_cell, carry_opt, carry_range, carry_s, carry_function, carry_entry, carry_special, carry}
use Rattle.model.specs.Sample.{body, function, sample, moved, named, padded, short, odd, Shown}

pub shown : Shown
unfolding body function sample moved named padded short odd ◌⟫◌ eat map_o exact both map_l types expressions levels queries values atomics results statements name_row type_row constant_row override_row global_row expression_row function_head entry_head counted limit variants repeat text variant more follow run opt_of word_of kind_of size_b size_c flat_all flat_list flat_x flat_s flat_block flat flat_entry rows listed operands stmts case_at cases form checked shaped statement block_at function_at entry_at next records table special_at count_at offset_at end_at limits placed section table_at ◌⊛◌ read places flat_table flat_special sections pairs_from bodies flat_module write carry_cell carry_opt carry_range carry_s carry_function carry_entry carry_special carry
shown = record { sample-read = refl; sample-carried = refl; carried-read = refl; padded-read = refl; short-read = refl; odd-read = refl }
