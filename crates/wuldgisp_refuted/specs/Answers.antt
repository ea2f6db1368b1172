-- What the exported functions and the text of `order` answer for document 01's marked cases P5, P6 and P8, and for P6 with two functions of one name. Written by tools/compute_vectors.py.
use Rattle.std.specs.Prelude.{◌≡◌, refl, List, [], ◌∷◌, ℕ, get_or}
use Rattle.base_words.specs.Words.{word_of, words_of, bytes_of}
use Rattle.model.specs.Outcome.{◌⟫◌, eat as Outcome-eat, map_o as Outcome-map_o, exact as Outcome-exact, both as Outcome-both, map_l as Outcome-map_l}
use Rattle.model.specs.Table.{types as Table-types, expressions as Table-expressions, levels as Table-levels, queries as Table-queries, values as Table-values, atomics as Table-atomics, results as Table-results, statements as Table-statements, name_row as Table-name_row, type_row as Table-type_row, constant_row as Table-constant_row, override_row as Table-override_row, global_row as Table-global_row, expression_row as Table-expression_row, function_head as Table-function_head, entry_head as Table-entry_head, counted as Table-counted, limit as Table-limit, variants as Table-variants, repeat as Table-repeat, text as Table-text, variant as Table-variant, more as Table-more, follow as Table-follow, run as Table-run}
use Rattle.model.specs.Tree.{opt_of as Tree-opt_of, word_of as Tree-word_of, kind_of as Tree-kind_of, size_b as Tree-size_b, size_c as Tree-size_c, flat_all as Tree-flat_all, flat_list as Tree-flat_list, flat_x as Tree-flat_x, flat_s as Tree-flat_s, flat_f as Tree-flat_f, flat_b as Tree-flat_b, flat_k as Tree-flat_k, flat_c as Tree-flat_c, flat_block as Tree-flat_block, flat as Tree-flat, flat_entry as Tree-flat_entry, rows as Tree-rows, listed as Tree-listed, operands as Tree-operands, stmts as Tree-stmts, case_at as Tree-case_at, cases as Tree-cases, form as Tree-form, checked as Tree-checked, shaped as Tree-shaped, statement as Tree-statement, block_at as Tree-block_at, function_at as Tree-function_at, entry_at as Tree-entry_at}
use Rattle.model.specs.Module.{next as Module-next, records as Module-records, table as Module-table, special_at as Module-special_at, count_at as Module-count_at, offset_at as Module-offset_at, end_at as Module-end_at, limits as Module-limits, placed as Module-placed, section as Module-section, table_at as Module-table_at, ◌⊛◌, read as Module-read, places as Module-places, flat_table as Module-flat_table, flat_special as Module-flat_special, sections as Module-sections, pairs_from as Module-pairs_from, bodies as Module-bodies, flat_module as Module-flat_module, write as Module-write, sized as Module-sized}
use Rattle.model.specs.Carry.{carry_cell as Carry-carry_cell, carry_opt as Carry-carry_opt, carry_range as Carry-carry_range, carry_s as Carry-carry_s, carry_f as Carry-carry_f, carry_b as Carry-carry_b, carry_k as Carry-carry_k, carry_c as Carry-carry_c, carry_function as Carry-carry_function, carry_entry as Carry-carry_entry, carry_special as Carry-carry_special, carry as Carry-carry}
use Rattle.model.specs.Operands.{optional as Operands-optional, operand as Operands-operand, ops_of as Operands-ops_of, result_of as Operands-result_of, function_of as Operands-function_of, kind as Operands-kind, standing_kind as Operands-standing_kind, result_kind as Operands-result_kind, emitted_kind as Operands-emitted_kind, constant_kind as Operands-constant_kind, ops as Operands-ops, kind_at as Operands-kind_at, standing as Operands-standing}
use Rattle.model.specs.Lower.{below as Lower-below, bases_of as Lower-bases_of, types_lower as Lower-types_lower, operands_lower as Lower-operands_lower, functions_lower as Lower-functions_lower, entries_lower as Lower-entries_lower, init_of as Lower-init_of, inits_of as Lower-inits_of, inits_lower as Lower-inits_lower, lower as Lower-lower}
use Rattle.model.specs.Names.{field as Names-field, present as Names-present, absent as Names-absent, distinct as Names-distinct, same as Names-same, unlike as Names-unlike, differ as Names-differ, expressions_named as Names-expressions_named, functions_named as Names-functions_named, entries_named as Names-entries_named, function_names as Names-function_names, entry_names as Names-entry_names, named as Names-named}
use Rattle.model.specs.Initial.{inits_of as Initial-inits_of, roots as Initial-roots, marked as Initial-marked, mark as Initial-mark, unmarked as Initial-unmarked, read_by as Initial-read_by, close as Initial-close, reached_marks as Initial-reached_marks, reached as Initial-reached, moving as Initial-moving, initials as Initial-initials, initial as Initial-initial, constant_at as Initial-constant_at, initialised as Initial-initialised}
use Rattle.model.specs.Numbers.{caps as Numbers-caps, bound as Numbers-bound, below as Numbers-below, within as Numbers-within, rising as Numbers-rising, ordered as Numbers-ordered, every as Numbers-every, outside as Numbers-outside, inside as Numbers-inside, sound as Numbers-sound, constant_only as Numbers-constant_only, numbered as Numbers-numbered}
use Rattle.model.specs.Scope.{up_from as Scope-up_from, in_range as Scope-in_range, live as Scope-live, expand_s as Scope-expand_s, expand_f as Scope-expand_f, expand as Scope-expand, expand_k as Scope-expand_k, expand_c as Scope-expand_c, shape_s as Scope-shape_s, shape_f as Scope-shape_f, shape_b as Scope-shape_b, shape_k as Scope-shape_k, shape_c as Scope-shape_c, emitted as Scope-emitted, is_of as Scope-is_of, call_result as Scope-call_result, effect_result as Scope-effect_result, kinds_s as Scope-kinds_s, kinds_f as Scope-kinds_f, kinds_b as Scope-kinds_b, kinds_k as Scope-kinds_k, kinds_c as Scope-kinds_c, evals_opt as Scope-evals_opt, evals_s as Scope-evals_s, evals_f as Scope-evals_f, evals_b as Scope-evals_b, evals_k as Scope-evals_k, evals_c as Scope-evals_c, has as Scope-has, distinct as Scope-distinct, add_e as Scope-add_e, add_opt as Scope-add_opt, add_f as Scope-add_f, add_s as Scope-add_s, top_b as Scope-top_b, holds_s as Scope-holds_s, holds_f as Scope-holds_f, holds_b as Scope-holds_b, holds_k as Scope-holds_k, holds_c as Scope-holds_c, cont_b as Scope-cont_b, vis as Scope-vis, all_vis as Scope-all_vis, opt_vis as Scope-opt_vis, ok_e as Scope-ok_e, ok_s as Scope-ok_s, ok_f as Scope-ok_f, ok_b as Scope-ok_b, ok_k as Scope-ok_k, ok_c as Scope-ok_c, all_of as Scope-all_of, seen as Scope-seen, scoped_as as Scope-scoped_as, scoped as Scope-scoped, all_scoped as Scope-all_scoped, entries_scoped as Scope-entries_scoped, in_scope as Scope-in_scope}
use Rattle.model.specs.Intake.{tested as Intake-tested, verdict as Intake-verdict, intake_of as Intake-intake_of, of_laid as Intake-of_laid, after_intake as Intake-after_intake, on_words as Intake-on_words}
use Rattle.model.specs.Calls.{numbers as Calls-numbers, any as Calls-any, keep as Calls-keep, free as Calls-free, held as Calls-held, round as Calls-round, rounds as Calls-rounds, answer as Calls-answer, order as Calls-order}
use Rattle.model.specs.Callees.{callees_s as Callees-callees_s, callees_f as Callees-callees_f, callees_b as Callees-callees_b, callees_k as Callees-callees_k, callees_c as Callees-callees_c, callees_at as Callees-callees_at, calls as Callees-calls, order_of as Callees-order_of}
use Rattle.model.specs.Redirect.{name_word as Redirect-name_word, find as Redirect-find, omitted as Redirect-omitted, all_below as Redirect-all_below, argument_types as Redirect-argument_types, agree as Redirect-agree, type_behind as Redirect-type_behind, result_type as Redirect-result_type, same as Redirect-same, redirecting as Redirect-redirecting, redirect_fn as Redirect-redirect_fn, redirect_entry as Redirect-redirect_entry, stays as Redirect-stays, redirect_fns as Redirect-redirect_fns, with_functions as Redirect-with_functions, with_entries as Redirect-with_entries, redirect as Redirect-redirect, refusal as Redirect-refusal, after as Redirect-after, nothing as Redirect-nothing, function as Redirect-function, compared as Redirect-compared, with_replacement as Redirect-with_replacement, with_original as Redirect-with_original, redirect_function as Redirect-redirect_function}
use Rattle.model.specs.Refusals.{answer_by}
use Rattle.model.specs.Image.{on_image, wuldgisp_intake, order_ended, order_image, order_after, wuldgisp_order, redirect_ended, redirect_after, redirect_image, wuldgisp_redirect, order_answer}
use Rattle.order_lines.specs.Lines.{decimal, name_text, name_in, name_of, numbers_text, line_text, lines_text, headed, ordered_text}
use Rattle.order_text.specs.Telling.{refusing, telling, telling_of}

unfoldable pub p5 : List ℕ
p5 = 1 ∷ 0 ∷ 0 ∷ 0 ∷ 69 ∷ 0 ∷ 0 ∷ 0 ∷ 3 ∷ 0 ∷ 0 ∷ 0 ∷ 20 ∷ 0 ∷ 0 ∷ 0 ∷ 0 ∷ 0 ∷ 0 ∷ 0 ∷ 29 ∷ 0 ∷ 0 ∷ 0 ∷ 0 ∷ 0 ∷ 0 ∷ 0 ∷ 29 ∷ 0 ∷ 0 ∷ 0 ∷ 0 ∷ 0 ∷ 0 ∷ 0 ∷ 29 ∷ 0 ∷ 0 ∷ 0 ∷ 0 ∷ 0 ∷ 0 ∷ 0 ∷ 29 ∷ 0 ∷ 0 ∷ 0 ∷ 0 ∷ 0 ∷ 0 ∷ 0 ∷ 29 ∷ 0 ∷ 0 ∷ 0 ∷ 3 ∷ 0 ∷ 0 ∷ 0 ∷ 29 ∷ 0 ∷ 0 ∷ 0 ∷ 0 ∷ 0 ∷ 0 ∷ 0 ∷ 66 ∷ 0 ∷ 0 ∷ 0 ∷ 0 ∷ 0 ∷ 0 ∷ 0 ∷ 66 ∷ 0 ∷ 0 ∷ 0 ∷ 3 ∷ 0 ∷ 0 ∷ 0 ∷ 5 ∷ 0 ∷ 0 ∷ 0 ∷ 7 ∷ 0 ∷ 0 ∷ 0 ∷ 1 ∷ 0 ∷ 0 ∷ 0 ∷ 97 ∷ 0 ∷ 0 ∷ 0 ∷ 1 ∷ 0 ∷ 0 ∷ 0 ∷ 98 ∷ 0 ∷ 0 ∷ 0 ∷ 1 ∷ 0 ∷ 0 ∷ 0 ∷ 99 ∷ 0 ∷ 0 ∷ 0 ∷ 3 ∷ 0 ∷ 0 ∷ 0 ∷ 19 ∷ 0 ∷ 0 ∷ 0 ∷ 28 ∷ 0 ∷ 0 ∷ 0 ∷ 1 ∷ 0 ∷ 0 ∷ 0 ∷ 0 ∷ 0 ∷ 0 ∷ 0 ∷ 0 ∷ 0 ∷ 0 ∷ 0 ∷ 0 ∷ 0 ∷ 0 ∷ 0 ∷ 0 ∷ 0 ∷ 0 ∷ 0 ∷ 0 ∷ 0 ∷ 0 ∷ 0 ∷ 0 ∷ 0 ∷ 0 ∷ 0 ∷ 0 ∷ 0 ∷ 0 ∷ 0 ∷ 1 ∷ 0 ∷ 0 ∷ 0 ∷ 7 ∷ 0 ∷ 0 ∷ 0 ∷ 15 ∷ 0 ∷ 0 ∷ 0 ∷ 0 ∷ 0 ∷ 0 ∷ 0 ∷ 0 ∷ 0 ∷ 0 ∷ 0 ∷ 1 ∷ 0 ∷ 0 ∷ 0 ∷ 0 ∷ 0 ∷ 0 ∷ 0 ∷ 0 ∷ 0 ∷ 0 ∷ 0 ∷ 2 ∷ 0 ∷ 0 ∷ 0 ∷ 0 ∷ 0 ∷ 0 ∷ 0 ∷ 0 ∷ 0 ∷ 0 ∷ 0 ∷ 0 ∷ 0 ∷ 0 ∷ 0 ∷ 0 ∷ 0 ∷ 0 ∷ 0 ∷ 0 ∷ 0 ∷ 0 ∷ 0 ∷ 0 ∷ 0 ∷ 0 ∷ 0 ∷ 0 ∷ 0 ∷ 0 ∷ 0 ∷ 0 ∷ 0 ∷ 0 ∷ 0 ∷ 3 ∷ 0 ∷ 0 ∷ 0 ∷ 0 ∷ 0 ∷ 0 ∷ 0 ∷ 0 ∷ 0 ∷ 0 ∷ 0 ∷ 0 ∷ 0 ∷ 0 ∷ 0 ∷ 0 ∷ 0 ∷ 0 ∷ 0 ∷ 0 ∷ 0 ∷ 0 ∷ 0 ∷ 0 ∷ 0 ∷ 0 ∷ 0 ∷ 0 ∷ 0 ∷ 0 ∷ 0 ∷ 0 ∷ 0 ∷ 0 ∷ 0 ∷ 0 ∷ 0 ∷ 0 ∷ 0 ∷ 0 ∷ 0 ∷ 0 ∷ 0 ∷ 0 ∷ 0 ∷ 0 ∷ 0 ∷ []

unfoldable pub p6 : List ℕ
p6 = 1 ∷ 0 ∷ 0 ∷ 0 ∷ 77 ∷ 0 ∷ 0 ∷ 0 ∷ 3 ∷ 0 ∷ 0 ∷ 0 ∷ 20 ∷ 0 ∷ 0 ∷ 0 ∷ 0 ∷ 0 ∷ 0 ∷ 0 ∷ 30 ∷ 0 ∷ 0 ∷ 0 ∷ 0 ∷ 0 ∷ 0 ∷ 0 ∷ 30 ∷ 0 ∷ 0 ∷ 0 ∷ 0 ∷ 0 ∷ 0 ∷ 0 ∷ 30 ∷ 0 ∷ 0 ∷ 0 ∷ 0 ∷ 0 ∷ 0 ∷ 0 ∷ 30 ∷ 0 ∷ 0 ∷ 0 ∷ 0 ∷ 0 ∷ 0 ∷ 0 ∷ 30 ∷ 0 ∷ 0 ∷ 0 ∷ 3 ∷ 0 ∷ 0 ∷ 0 ∷ 30 ∷ 0 ∷ 0 ∷ 0 ∷ 0 ∷ 0 ∷ 0 ∷ 0 ∷ 74 ∷ 0 ∷ 0 ∷ 0 ∷ 0 ∷ 0 ∷ 0 ∷ 0 ∷ 74 ∷ 0 ∷ 0 ∷ 0 ∷ 3 ∷ 0 ∷ 0 ∷ 0 ∷ 6 ∷ 0 ∷ 0 ∷ 0 ∷ 8 ∷ 0 ∷ 0 ∷ 0 ∷ 5 ∷ 0 ∷ 0 ∷ 0 ∷ 115 ∷ 104 ∷ 97 ∷ 100 ∷ 101 ∷ 0 ∷ 0 ∷ 0 ∷ 4 ∷ 0 ∷ 0 ∷ 0 ∷ 116 ∷ 111 ∷ 110 ∷ 101 ∷ 3 ∷ 0 ∷ 0 ∷ 0 ∷ 102 ∷ 111 ∷ 103 ∷ 0 ∷ 3 ∷ 0 ∷ 0 ∷ 0 ∷ 19 ∷ 0 ∷ 0 ∷ 0 ∷ 28 ∷ 0 ∷ 0 ∷ 0 ∷ 1 ∷ 0 ∷ 0 ∷ 0 ∷ 0 ∷ 0 ∷ 0 ∷ 0 ∷ 0 ∷ 0 ∷ 0 ∷ 0 ∷ 0 ∷ 0 ∷ 0 ∷ 0 ∷ 0 ∷ 0 ∷ 0 ∷ 0 ∷ 0 ∷ 0 ∷ 0 ∷ 0 ∷ 0 ∷ 0 ∷ 0 ∷ 0 ∷ 0 ∷ 0 ∷ 0 ∷ 0 ∷ 1 ∷ 0 ∷ 0 ∷ 0 ∷ 7 ∷ 0 ∷ 0 ∷ 0 ∷ 15 ∷ 0 ∷ 0 ∷ 0 ∷ 0 ∷ 0 ∷ 0 ∷ 0 ∷ 0 ∷ 0 ∷ 0 ∷ 0 ∷ 2 ∷ 0 ∷ 0 ∷ 0 ∷ 0 ∷ 0 ∷ 0 ∷ 0 ∷ 0 ∷ 0 ∷ 0 ∷ 0 ∷ 2 ∷ 0 ∷ 0 ∷ 0 ∷ 0 ∷ 0 ∷ 0 ∷ 0 ∷ 0 ∷ 0 ∷ 0 ∷ 0 ∷ 0 ∷ 0 ∷ 0 ∷ 0 ∷ 0 ∷ 0 ∷ 0 ∷ 0 ∷ 0 ∷ 0 ∷ 0 ∷ 0 ∷ 0 ∷ 0 ∷ 0 ∷ 0 ∷ 0 ∷ 0 ∷ 0 ∷ 0 ∷ 0 ∷ 0 ∷ 0 ∷ 0 ∷ 3 ∷ 0 ∷ 0 ∷ 0 ∷ 0 ∷ 0 ∷ 0 ∷ 0 ∷ 0 ∷ 0 ∷ 0 ∷ 0 ∷ 0 ∷ 0 ∷ 0 ∷ 0 ∷ 0 ∷ 0 ∷ 0 ∷ 0 ∷ 0 ∷ 0 ∷ 0 ∷ 0 ∷ 0 ∷ 0 ∷ 0 ∷ 0 ∷ 0 ∷ 0 ∷ 0 ∷ 0 ∷ 1 ∷ 0 ∷ 0 ∷ 0 ∷ 7 ∷ 0 ∷ 0 ∷ 0 ∷ 15 ∷ 0 ∷ 0 ∷ 0 ∷ 0 ∷ 0 ∷ 0 ∷ 0 ∷ 0 ∷ 0 ∷ 0 ∷ 0 ∷ 1 ∷ 0 ∷ 0 ∷ 0 ∷ 0 ∷ 0 ∷ 0 ∷ 0 ∷ 0 ∷ 0 ∷ 0 ∷ 0 ∷ 0 ∷ 0 ∷ 0 ∷ 0 ∷ 0 ∷ 0 ∷ 0 ∷ 0 ∷ 0 ∷ 0 ∷ 0 ∷ 0 ∷ []

unfoldable pub p8 : List ℕ
p8 = 1 ∷ 0 ∷ 0 ∷ 0 ∷ 77 ∷ 0 ∷ 0 ∷ 0 ∷ 3 ∷ 0 ∷ 0 ∷ 0 ∷ 20 ∷ 0 ∷ 0 ∷ 0 ∷ 0 ∷ 0 ∷ 0 ∷ 0 ∷ 30 ∷ 0 ∷ 0 ∷ 0 ∷ 0 ∷ 0 ∷ 0 ∷ 0 ∷ 30 ∷ 0 ∷ 0 ∷ 0 ∷ 0 ∷ 0 ∷ 0 ∷ 0 ∷ 30 ∷ 0 ∷ 0 ∷ 0 ∷ 0 ∷ 0 ∷ 0 ∷ 0 ∷ 30 ∷ 0 ∷ 0 ∷ 0 ∷ 0 ∷ 0 ∷ 0 ∷ 0 ∷ 30 ∷ 0 ∷ 0 ∷ 0 ∷ 3 ∷ 0 ∷ 0 ∷ 0 ∷ 30 ∷ 0 ∷ 0 ∷ 0 ∷ 0 ∷ 0 ∷ 0 ∷ 0 ∷ 74 ∷ 0 ∷ 0 ∷ 0 ∷ 0 ∷ 0 ∷ 0 ∷ 0 ∷ 74 ∷ 0 ∷ 0 ∷ 0 ∷ 3 ∷ 0 ∷ 0 ∷ 0 ∷ 6 ∷ 0 ∷ 0 ∷ 0 ∷ 8 ∷ 0 ∷ 0 ∷ 0 ∷ 5 ∷ 0 ∷ 0 ∷ 0 ∷ 115 ∷ 104 ∷ 97 ∷ 100 ∷ 101 ∷ 0 ∷ 0 ∷ 0 ∷ 4 ∷ 0 ∷ 0 ∷ 0 ∷ 116 ∷ 111 ∷ 110 ∷ 101 ∷ 3 ∷ 0 ∷ 0 ∷ 0 ∷ 102 ∷ 111 ∷ 103 ∷ 0 ∷ 3 ∷ 0 ∷ 0 ∷ 0 ∷ 19 ∷ 0 ∷ 0 ∷ 0 ∷ 28 ∷ 0 ∷ 0 ∷ 0 ∷ 1 ∷ 0 ∷ 0 ∷ 0 ∷ 0 ∷ 0 ∷ 0 ∷ 0 ∷ 0 ∷ 0 ∷ 0 ∷ 0 ∷ 0 ∷ 0 ∷ 0 ∷ 0 ∷ 0 ∷ 0 ∷ 0 ∷ 0 ∷ 0 ∷ 0 ∷ 0 ∷ 0 ∷ 0 ∷ 0 ∷ 0 ∷ 0 ∷ 0 ∷ 0 ∷ 0 ∷ 0 ∷ 1 ∷ 0 ∷ 0 ∷ 0 ∷ 7 ∷ 0 ∷ 0 ∷ 0 ∷ 15 ∷ 0 ∷ 0 ∷ 0 ∷ 0 ∷ 0 ∷ 0 ∷ 0 ∷ 0 ∷ 0 ∷ 0 ∷ 0 ∷ 2 ∷ 0 ∷ 0 ∷ 0 ∷ 0 ∷ 0 ∷ 0 ∷ 0 ∷ 0 ∷ 0 ∷ 0 ∷ 0 ∷ 2 ∷ 0 ∷ 0 ∷ 0 ∷ 0 ∷ 0 ∷ 0 ∷ 0 ∷ 0 ∷ 0 ∷ 0 ∷ 0 ∷ 0 ∷ 0 ∷ 0 ∷ 0 ∷ 0 ∷ 0 ∷ 0 ∷ 0 ∷ 0 ∷ 0 ∷ 0 ∷ 0 ∷ 0 ∷ 0 ∷ 0 ∷ 0 ∷ 0 ∷ 0 ∷ 0 ∷ 0 ∷ 0 ∷ 0 ∷ 0 ∷ 0 ∷ 3 ∷ 0 ∷ 0 ∷ 0 ∷ 0 ∷ 0 ∷ 0 ∷ 0 ∷ 0 ∷ 0 ∷ 0 ∷ 0 ∷ 0 ∷ 0 ∷ 0 ∷ 0 ∷ 0 ∷ 0 ∷ 0 ∷ 0 ∷ 0 ∷ 0 ∷ 0 ∷ 0 ∷ 0 ∷ 0 ∷ 0 ∷ 0 ∷ 0 ∷ 0 ∷ 0 ∷ 0 ∷ 1 ∷ 0 ∷ 0 ∷ 0 ∷ 7 ∷ 0 ∷ 0 ∷ 0 ∷ 15 ∷ 0 ∷ 0 ∷ 0 ∷ 0 ∷ 0 ∷ 0 ∷ 0 ∷ 0 ∷ 0 ∷ 0 ∷ 0 ∷ 0 ∷ 0 ∷ 0 ∷ 0 ∷ 0 ∷ 0 ∷ 0 ∷ 0 ∷ 0 ∷ 0 ∷ 0 ∷ 0 ∷ 0 ∷ 0 ∷ 0 ∷ 0 ∷ 0 ∷ 0 ∷ 0 ∷ 0 ∷ 0 ∷ 0 ∷ 0 ∷ 0 ∷ []

unfoldable pub twice : List ℕ
twice = 1 ∷ 0 ∷ 0 ∷ 0 ∷ 77 ∷ 0 ∷ 0 ∷ 0 ∷ 3 ∷ 0 ∷ 0 ∷ 0 ∷ 20 ∷ 0 ∷ 0 ∷ 0 ∷ 0 ∷ 0 ∷ 0 ∷ 0 ∷ 30 ∷ 0 ∷ 0 ∷ 0 ∷ 0 ∷ 0 ∷ 0 ∷ 0 ∷ 30 ∷ 0 ∷ 0 ∷ 0 ∷ 0 ∷ 0 ∷ 0 ∷ 0 ∷ 30 ∷ 0 ∷ 0 ∷ 0 ∷ 0 ∷ 0 ∷ 0 ∷ 0 ∷ 30 ∷ 0 ∷ 0 ∷ 0 ∷ 0 ∷ 0 ∷ 0 ∷ 0 ∷ 30 ∷ 0 ∷ 0 ∷ 0 ∷ 3 ∷ 0 ∷ 0 ∷ 0 ∷ 30 ∷ 0 ∷ 0 ∷ 0 ∷ 0 ∷ 0 ∷ 0 ∷ 0 ∷ 74 ∷ 0 ∷ 0 ∷ 0 ∷ 0 ∷ 0 ∷ 0 ∷ 0 ∷ 74 ∷ 0 ∷ 0 ∷ 0 ∷ 3 ∷ 0 ∷ 0 ∷ 0 ∷ 6 ∷ 0 ∷ 0 ∷ 0 ∷ 8 ∷ 0 ∷ 0 ∷ 0 ∷ 5 ∷ 0 ∷ 0 ∷ 0 ∷ 115 ∷ 104 ∷ 97 ∷ 100 ∷ 101 ∷ 0 ∷ 0 ∷ 0 ∷ 4 ∷ 0 ∷ 0 ∷ 0 ∷ 116 ∷ 111 ∷ 110 ∷ 101 ∷ 3 ∷ 0 ∷ 0 ∷ 0 ∷ 102 ∷ 111 ∷ 103 ∷ 0 ∷ 3 ∷ 0 ∷ 0 ∷ 0 ∷ 19 ∷ 0 ∷ 0 ∷ 0 ∷ 28 ∷ 0 ∷ 0 ∷ 0 ∷ 1 ∷ 0 ∷ 0 ∷ 0 ∷ 0 ∷ 0 ∷ 0 ∷ 0 ∷ 0 ∷ 0 ∷ 0 ∷ 0 ∷ 0 ∷ 0 ∷ 0 ∷ 0 ∷ 0 ∷ 0 ∷ 0 ∷ 0 ∷ 0 ∷ 0 ∷ 0 ∷ 0 ∷ 0 ∷ 0 ∷ 0 ∷ 0 ∷ 0 ∷ 0 ∷ 0 ∷ 0 ∷ 1 ∷ 0 ∷ 0 ∷ 0 ∷ 7 ∷ 0 ∷ 0 ∷ 0 ∷ 15 ∷ 0 ∷ 0 ∷ 0 ∷ 0 ∷ 0 ∷ 0 ∷ 0 ∷ 0 ∷ 0 ∷ 0 ∷ 0 ∷ 2 ∷ 0 ∷ 0 ∷ 0 ∷ 0 ∷ 0 ∷ 0 ∷ 0 ∷ 0 ∷ 0 ∷ 0 ∷ 0 ∷ 1 ∷ 0 ∷ 0 ∷ 0 ∷ 0 ∷ 0 ∷ 0 ∷ 0 ∷ 0 ∷ 0 ∷ 0 ∷ 0 ∷ 0 ∷ 0 ∷ 0 ∷ 0 ∷ 0 ∷ 0 ∷ 0 ∷ 0 ∷ 0 ∷ 0 ∷ 0 ∷ 0 ∷ 0 ∷ 0 ∷ 0 ∷ 0 ∷ 0 ∷ 0 ∷ 0 ∷ 0 ∷ 0 ∷ 0 ∷ 0 ∷ 0 ∷ 3 ∷ 0 ∷ 0 ∷ 0 ∷ 0 ∷ 0 ∷ 0 ∷ 0 ∷ 0 ∷ 0 ∷ 0 ∷ 0 ∷ 0 ∷ 0 ∷ 0 ∷ 0 ∷ 0 ∷ 0 ∷ 0 ∷ 0 ∷ 0 ∷ 0 ∷ 0 ∷ 0 ∷ 0 ∷ 0 ∷ 0 ∷ 0 ∷ 0 ∷ 0 ∷ 0 ∷ 0 ∷ 1 ∷ 0 ∷ 0 ∷ 0 ∷ 7 ∷ 0 ∷ 0 ∷ 0 ∷ 15 ∷ 0 ∷ 0 ∷ 0 ∷ 0 ∷ 0 ∷ 0 ∷ 0 ∷ 0 ∷ 0 ∷ 0 ∷ 0 ∷ 1 ∷ 0 ∷ 0 ∷ 0 ∷ 0 ∷ 0 ∷ 0 ∷ 0 ∷ 0 ∷ 0 ∷ 0 ∷ 0 ∷ 0 ∷ 0 ∷ 0 ∷ 0 ∷ 0 ∷ 0 ∷ 0 ∷ 0 ∷ 0 ∷ 0 ∷ 0 ∷ 0 ∷ []

pub p6_accepted : wuldgisp_intake p6 ≡ 0
unfolding word_of words_of ◌⟫◌ Outcome-eat Outcome-map_o Outcome-exact Outcome-both Outcome-map_l Table-types Table-expressions Table-levels Table-queries Table-values Table-atomics Table-results Table-statements Table-name_row Table-type_row Table-constant_row Table-override_row Table-global_row Table-expression_row Table-function_head Table-entry_head Table-counted Table-limit Table-variants Table-repeat Table-text Table-variant Table-more Table-follow Table-run Tree-opt_of Tree-word_of Tree-kind_of Tree-size_b Tree-size_c Tree-flat_all Tree-flat_list Tree-flat_x Tree-flat_s Tree-flat_f Tree-flat_b Tree-flat_k Tree-flat_c Tree-flat_block Tree-flat Tree-flat_entry Tree-rows Tree-listed Tree-operands Tree-stmts Tree-case_at Tree-cases Tree-form Tree-checked Tree-shaped Tree-statement Tree-block_at Tree-function_at Tree-entry_at Module-next Module-records Module-table Module-special_at Module-count_at Module-offset_at Module-end_at Module-limits Module-placed Module-section Module-table_at ◌⊛◌ Module-read Module-places Module-flat_table Module-flat_special Module-sections Module-pairs_from Module-bodies Module-flat_module Module-write Module-sized Carry-carry_cell Carry-carry_opt Carry-carry_range Carry-carry_s Carry-carry_f Carry-carry_b Carry-carry_k Carry-carry_c Carry-carry_function Carry-carry_entry Carry-carry_special Carry-carry Operands-optional Operands-operand Operands-ops_of Operands-result_of Operands-function_of Operands-kind Operands-standing_kind Operands-result_kind Operands-emitted_kind Operands-constant_kind Operands-ops Operands-kind_at Operands-standing Lower-below Lower-bases_of Lower-types_lower Lower-operands_lower Lower-functions_lower Lower-entries_lower Lower-init_of Lower-inits_of Lower-inits_lower Lower-lower Names-field Names-present Names-absent Names-distinct Names-same Names-unlike Names-differ Names-expressions_named Names-functions_named Names-entries_named Names-function_names Names-entry_names Names-named Initial-inits_of Initial-roots Initial-marked Initial-mark Initial-unmarked Initial-read_by Initial-close Initial-reached_marks Initial-reached Initial-moving Initial-initials Initial-initial Initial-constant_at Initial-initialised Numbers-caps Numbers-bound Numbers-below Numbers-within Numbers-rising Numbers-ordered Numbers-every Numbers-outside Numbers-inside Numbers-sound Numbers-constant_only Numbers-numbered Scope-up_from Scope-in_range Scope-live Scope-expand_s Scope-expand_f Scope-expand Scope-expand_k Scope-expand_c Scope-shape_s Scope-shape_f Scope-shape_b Scope-shape_k Scope-shape_c Scope-emitted Scope-is_of Scope-call_result Scope-effect_result Scope-kinds_s Scope-kinds_f Scope-kinds_b Scope-kinds_k Scope-kinds_c Scope-evals_opt Scope-evals_s Scope-evals_f Scope-evals_b Scope-evals_k Scope-evals_c Scope-has Scope-distinct Scope-add_e Scope-add_opt Scope-add_f Scope-add_s Scope-top_b Scope-holds_s Scope-holds_f Scope-holds_b Scope-holds_k Scope-holds_c Scope-cont_b Scope-vis Scope-all_vis Scope-opt_vis Scope-ok_e Scope-ok_s Scope-ok_f Scope-ok_b Scope-ok_k Scope-ok_c Scope-all_of Scope-seen Scope-scoped_as Scope-scoped Scope-all_scoped Scope-entries_scoped Scope-in_scope Intake-tested Intake-verdict Intake-intake_of Intake-of_laid Intake-after_intake Intake-on_words Calls-numbers Calls-any Calls-keep Calls-free Calls-held Calls-round Calls-rounds Calls-answer Calls-order Callees-callees_s Callees-callees_f Callees-callees_b Callees-callees_k Callees-callees_c Callees-callees_at Callees-calls Callees-order_of Redirect-name_word Redirect-find Redirect-omitted Redirect-all_below Redirect-argument_types Redirect-agree Redirect-type_behind Redirect-result_type Redirect-same Redirect-redirecting Redirect-redirect_fn Redirect-redirect_entry Redirect-stays Redirect-redirect_fns Redirect-with_functions Redirect-with_entries Redirect-redirect Redirect-refusal Redirect-after Redirect-nothing Redirect-function Redirect-compared Redirect-with_replacement Redirect-with_original Redirect-redirect_function bytes_of answer_by on_image wuldgisp_intake order_ended order_image order_after wuldgisp_order redirect_ended redirect_after redirect_image wuldgisp_redirect p6
p6_accepted = refl

pub twice_refused : wuldgisp_intake twice ≡ 5
unfolding word_of words_of ◌⟫◌ Outcome-eat Outcome-map_o Outcome-exact Outcome-both Outcome-map_l Table-types Table-expressions Table-levels Table-queries Table-values Table-atomics Table-results Table-statements Table-name_row Table-type_row Table-constant_row Table-override_row Table-global_row Table-expression_row Table-function_head Table-entry_head Table-counted Table-limit Table-variants Table-repeat Table-text Table-variant Table-more Table-follow Table-run Tree-opt_of Tree-word_of Tree-kind_of Tree-size_b Tree-size_c Tree-flat_all Tree-flat_list Tree-flat_x Tree-flat_s Tree-flat_f Tree-flat_b Tree-flat_k Tree-flat_c Tree-flat_block Tree-flat Tree-flat_entry Tree-rows Tree-listed Tree-operands Tree-stmts Tree-case_at Tree-cases Tree-form Tree-checked Tree-shaped Tree-statement Tree-block_at Tree-function_at Tree-entry_at Module-next Module-records Module-table Module-special_at Module-count_at Module-offset_at Module-end_at Module-limits Module-placed Module-section Module-table_at ◌⊛◌ Module-read Module-places Module-flat_table Module-flat_special Module-sections Module-pairs_from Module-bodies Module-flat_module Module-write Module-sized Carry-carry_cell Carry-carry_opt Carry-carry_range Carry-carry_s Carry-carry_f Carry-carry_b Carry-carry_k Carry-carry_c Carry-carry_function Carry-carry_entry Carry-carry_special Carry-carry Operands-optional Operands-operand Operands-ops_of Operands-result_of Operands-function_of Operands-kind Operands-standing_kind Operands-result_kind Operands-emitted_kind Operands-constant_kind Operands-ops Operands-kind_at Operands-standing Lower-below Lower-bases_of Lower-types_lower Lower-operands_lower Lower-functions_lower Lower-entries_lower Lower-init_of Lower-inits_of Lower-inits_lower Lower-lower Names-field Names-present Names-absent Names-distinct Names-same Names-unlike Names-differ Names-expressions_named Names-functions_named Names-entries_named Names-function_names Names-entry_names Names-named Initial-inits_of Initial-roots Initial-marked Initial-mark Initial-unmarked Initial-read_by Initial-close Initial-reached_marks Initial-reached Initial-moving Initial-initials Initial-initial Initial-constant_at Initial-initialised Numbers-caps Numbers-bound Numbers-below Numbers-within Numbers-rising Numbers-ordered Numbers-every Numbers-outside Numbers-inside Numbers-sound Numbers-constant_only Numbers-numbered Scope-up_from Scope-in_range Scope-live Scope-expand_s Scope-expand_f Scope-expand Scope-expand_k Scope-expand_c Scope-shape_s Scope-shape_f Scope-shape_b Scope-shape_k Scope-shape_c Scope-emitted Scope-is_of Scope-call_result Scope-effect_result Scope-kinds_s Scope-kinds_f Scope-kinds_b Scope-kinds_k Scope-kinds_c Scope-evals_opt Scope-evals_s Scope-evals_f Scope-evals_b Scope-evals_k Scope-evals_c Scope-has Scope-distinct Scope-add_e Scope-add_opt Scope-add_f Scope-add_s Scope-top_b Scope-holds_s Scope-holds_f Scope-holds_b Scope-holds_k Scope-holds_c Scope-cont_b Scope-vis Scope-all_vis Scope-opt_vis Scope-ok_e Scope-ok_s Scope-ok_f Scope-ok_b Scope-ok_k Scope-ok_c Scope-all_of Scope-seen Scope-scoped_as Scope-scoped Scope-all_scoped Scope-entries_scoped Scope-in_scope Intake-tested Intake-verdict Intake-intake_of Intake-of_laid Intake-after_intake Intake-on_words Calls-numbers Calls-any Calls-keep Calls-free Calls-held Calls-round Calls-rounds Calls-answer Calls-order Callees-callees_s Callees-callees_f Callees-callees_b Callees-callees_k Callees-callees_c Callees-callees_at Callees-calls Callees-order_of Redirect-name_word Redirect-find Redirect-omitted Redirect-all_below Redirect-argument_types Redirect-agree Redirect-type_behind Redirect-result_type Redirect-same Redirect-redirecting Redirect-redirect_fn Redirect-redirect_entry Redirect-stays Redirect-redirect_fns Redirect-with_functions Redirect-with_entries Redirect-redirect Redirect-refusal Redirect-after Redirect-nothing Redirect-function Redirect-compared Redirect-with_replacement Redirect-with_original Redirect-redirect_function bytes_of answer_by on_image wuldgisp_intake order_ended order_image order_after wuldgisp_order redirect_ended redirect_after redirect_image wuldgisp_redirect twice
twice_refused = refl

pub p5-ordered : (wuldgisp_order p5 (9 ∷ 9 ∷ 9 ∷ [])).1 ≡ 1 ∷ 2 ∷ 0 ∷ []
unfolding word_of words_of ◌⟫◌ Outcome-eat Outcome-map_o Outcome-exact Outcome-both Outcome-map_l Table-types Table-expressions Table-levels Table-queries Table-values Table-atomics Table-results Table-statements Table-name_row Table-type_row Table-constant_row Table-override_row Table-global_row Table-expression_row Table-function_head Table-entry_head Table-counted Table-limit Table-variants Table-repeat Table-text Table-variant Table-more Table-follow Table-run Tree-opt_of Tree-word_of Tree-kind_of Tree-size_b Tree-size_c Tree-flat_all Tree-flat_list Tree-flat_x Tree-flat_s Tree-flat_f Tree-flat_b Tree-flat_k Tree-flat_c Tree-flat_block Tree-flat Tree-flat_entry Tree-rows Tree-listed Tree-operands Tree-stmts Tree-case_at Tree-cases Tree-form Tree-checked Tree-shaped Tree-statement Tree-block_at Tree-function_at Tree-entry_at Module-next Module-records Module-table Module-special_at Module-count_at Module-offset_at Module-end_at Module-limits Module-placed Module-section Module-table_at ◌⊛◌ Module-read Module-places Module-flat_table Module-flat_special Module-sections Module-pairs_from Module-bodies Module-flat_module Module-write Module-sized Carry-carry_cell Carry-carry_opt Carry-carry_range Carry-carry_s Carry-carry_f Carry-carry_b Carry-carry_k Carry-carry_c Carry-carry_function Carry-carry_entry Carry-carry_special Carry-carry Operands-optional Operands-operand Operands-ops_of Operands-result_of Operands-function_of Operands-kind Operands-standing_kind Operands-result_kind Operands-emitted_kind Operands-constant_kind Operands-ops Operands-kind_at Operands-standing Lower-below Lower-bases_of Lower-types_lower Lower-operands_lower Lower-functions_lower Lower-entries_lower Lower-init_of Lower-inits_of Lower-inits_lower Lower-lower Names-field Names-present Names-absent Names-distinct Names-same Names-unlike Names-differ Names-expressions_named Names-functions_named Names-entries_named Names-function_names Names-entry_names Names-named Initial-inits_of Initial-roots Initial-marked Initial-mark Initial-unmarked Initial-read_by Initial-close Initial-reached_marks Initial-reached Initial-moving Initial-initials Initial-initial Initial-constant_at Initial-initialised Numbers-caps Numbers-bound Numbers-below Numbers-within Numbers-rising Numbers-ordered Numbers-every Numbers-outside Numbers-inside Numbers-sound Numbers-constant_only Numbers-numbered Scope-up_from Scope-in_range Scope-live Scope-expand_s Scope-expand_f Scope-expand Scope-expand_k Scope-expand_c Scope-shape_s Scope-shape_f Scope-shape_b Scope-shape_k Scope-shape_c Scope-emitted Scope-is_of Scope-call_result Scope-effect_result Scope-kinds_s Scope-kinds_f Scope-kinds_b Scope-kinds_k Scope-kinds_c Scope-evals_opt Scope-evals_s Scope-evals_f Scope-evals_b Scope-evals_k Scope-evals_c Scope-has Scope-distinct Scope-add_e Scope-add_opt Scope-add_f Scope-add_s Scope-top_b Scope-holds_s Scope-holds_f Scope-holds_b Scope-holds_k Scope-holds_c Scope-cont_b Scope-vis Scope-all_vis Scope-opt_vis Scope-ok_e Scope-ok_s Scope-ok_f Scope-ok_b Scope-ok_k Scope-ok_c Scope-all_of Scope-seen Scope-scoped_as Scope-scoped Scope-all_scoped Scope-entries_scoped Scope-in_scope Intake-tested Intake-verdict Intake-intake_of Intake-of_laid Intake-after_intake Intake-on_words Calls-numbers Calls-any Calls-keep Calls-free Calls-held Calls-round Calls-rounds Calls-answer Calls-order Callees-callees_s Callees-callees_f Callees-callees_b Callees-callees_k Callees-callees_c Callees-callees_at Callees-calls Callees-order_of Redirect-name_word Redirect-find Redirect-omitted Redirect-all_below Redirect-argument_types Redirect-agree Redirect-type_behind Redirect-result_type Redirect-same Redirect-redirecting Redirect-redirect_fn Redirect-redirect_entry Redirect-stays Redirect-redirect_fns Redirect-with_functions Redirect-with_entries Redirect-redirect Redirect-refusal Redirect-after Redirect-nothing Redirect-function Redirect-compared Redirect-with_replacement Redirect-with_original Redirect-redirect_function bytes_of answer_by on_image wuldgisp_intake order_ended order_image order_after wuldgisp_order redirect_ended redirect_after redirect_image wuldgisp_redirect p5
p5-ordered = refl

pub p8_left : order_answer (order_image p8) ≡ 8589934604
unfolding word_of words_of ◌⟫◌ Outcome-eat Outcome-map_o Outcome-exact Outcome-both Outcome-map_l Table-types Table-expressions Table-levels Table-queries Table-values Table-atomics Table-results Table-statements Table-name_row Table-type_row Table-constant_row Table-override_row Table-global_row Table-expression_row Table-function_head Table-entry_head Table-counted Table-limit Table-variants Table-repeat Table-text Table-variant Table-more Table-follow Table-run Tree-opt_of Tree-word_of Tree-kind_of Tree-size_b Tree-size_c Tree-flat_all Tree-flat_list Tree-flat_x Tree-flat_s Tree-flat_f Tree-flat_b Tree-flat_k Tree-flat_c Tree-flat_block Tree-flat Tree-flat_entry Tree-rows Tree-listed Tree-operands Tree-stmts Tree-case_at Tree-cases Tree-form Tree-checked Tree-shaped Tree-statement Tree-block_at Tree-function_at Tree-entry_at Module-next Module-records Module-table Module-special_at Module-count_at Module-offset_at Module-end_at Module-limits Module-placed Module-section Module-table_at ◌⊛◌ Module-read Module-places Module-flat_table Module-flat_special Module-sections Module-pairs_from Module-bodies Module-flat_module Module-write Module-sized Carry-carry_cell Carry-carry_opt Carry-carry_range Carry-carry_s Carry-carry_f Carry-carry_b Carry-carry_k Carry-carry_c Carry-carry_function Carry-carry_entry Carry-carry_special Carry-carry Operands-optional Operands-operand Operands-ops_of Operands-result_of Operands-function_of Operands-kind Operands-standing_kind Operands-result_kind Operands-emitted_kind Operands-constant_kind Operands-ops Operands-kind_at Operands-standing Lower-below Lower-bases_of Lower-types_lower Lower-operands_lower Lower-functions_lower Lower-entries_lower Lower-init_of Lower-inits_of Lower-inits_lower Lower-lower Names-field Names-present Names-absent Names-distinct Names-same Names-unlike Names-differ Names-expressions_named Names-functions_named Names-entries_named Names-function_names Names-entry_names Names-named Initial-inits_of Initial-roots Initial-marked Initial-mark Initial-unmarked Initial-read_by Initial-close Initial-reached_marks Initial-reached Initial-moving Initial-initials Initial-initial Initial-constant_at Initial-initialised Numbers-caps Numbers-bound Numbers-below Numbers-within Numbers-rising Numbers-ordered Numbers-every Numbers-outside Numbers-inside Numbers-sound Numbers-constant_only Numbers-numbered Scope-up_from Scope-in_range Scope-live Scope-expand_s Scope-expand_f Scope-expand Scope-expand_k Scope-expand_c Scope-shape_s Scope-shape_f Scope-shape_b Scope-shape_k Scope-shape_c Scope-emitted Scope-is_of Scope-call_result Scope-effect_result Scope-kinds_s Scope-kinds_f Scope-kinds_b Scope-kinds_k Scope-kinds_c Scope-evals_opt Scope-evals_s Scope-evals_f Scope-evals_b Scope-evals_k Scope-evals_c Scope-has Scope-distinct Scope-add_e Scope-add_opt Scope-add_f Scope-add_s Scope-top_b Scope-holds_s Scope-holds_f Scope-holds_b Scope-holds_k Scope-holds_c Scope-cont_b Scope-vis Scope-all_vis Scope-opt_vis Scope-ok_e Scope-ok_s Scope-ok_f Scope-ok_b Scope-ok_k Scope-ok_c Scope-all_of Scope-seen Scope-scoped_as Scope-scoped Scope-all_scoped Scope-entries_scoped Scope-in_scope Intake-tested Intake-verdict Intake-intake_of Intake-of_laid Intake-after_intake Intake-on_words Calls-numbers Calls-any Calls-keep Calls-free Calls-held Calls-round Calls-rounds Calls-answer Calls-order Callees-callees_s Callees-callees_f Callees-callees_b Callees-callees_k Callees-callees_c Callees-callees_at Callees-calls Callees-order_of Redirect-name_word Redirect-find Redirect-omitted Redirect-all_below Redirect-argument_types Redirect-agree Redirect-type_behind Redirect-result_type Redirect-same Redirect-redirecting Redirect-redirect_fn Redirect-redirect_entry Redirect-stays Redirect-redirect_fns Redirect-with_functions Redirect-with_entries Redirect-redirect Redirect-refusal Redirect-after Redirect-nothing Redirect-function Redirect-compared Redirect-with_replacement Redirect-with_original Redirect-redirect_function bytes_of answer_by on_image wuldgisp_intake order_ended order_image order_after wuldgisp_order redirect_ended redirect_after redirect_image wuldgisp_redirect p8
p8_left = refl

pub p6-called : get_or p6 184 0 ≡ 2
unfolding word_of words_of ◌⟫◌ Outcome-eat Outcome-map_o Outcome-exact Outcome-both Outcome-map_l Table-types Table-expressions Table-levels Table-queries Table-values Table-atomics Table-results Table-statements Table-name_row Table-type_row Table-constant_row Table-override_row Table-global_row Table-expression_row Table-function_head Table-entry_head Table-counted Table-limit Table-variants Table-repeat Table-text Table-variant Table-more Table-follow Table-run Tree-opt_of Tree-word_of Tree-kind_of Tree-size_b Tree-size_c Tree-flat_all Tree-flat_list Tree-flat_x Tree-flat_s Tree-flat_f Tree-flat_b Tree-flat_k Tree-flat_c Tree-flat_block Tree-flat Tree-flat_entry Tree-rows Tree-listed Tree-operands Tree-stmts Tree-case_at Tree-cases Tree-form Tree-checked Tree-shaped Tree-statement Tree-block_at Tree-function_at Tree-entry_at Module-next Module-records Module-table Module-special_at Module-count_at Module-offset_at Module-end_at Module-limits Module-placed Module-section Module-table_at ◌⊛◌ Module-read Module-places Module-flat_table Module-flat_special Module-sections Module-pairs_from Module-bodies Module-flat_module Module-write Module-sized Carry-carry_cell Carry-carry_opt Carry-carry_range Carry-carry_s Carry-carry_f Carry-carry_b Carry-carry_k Carry-carry_c Carry-carry_function Carry-carry_entry Carry-carry_special Carry-carry Operands-optional Operands-operand Operands-ops_of Operands-result_of Operands-function_of Operands-kind Operands-standing_kind Operands-result_kind Operands-emitted_kind Operands-constant_kind Operands-ops Operands-kind_at Operands-standing Lower-below Lower-bases_of Lower-types_lower Lower-operands_lower Lower-functions_lower Lower-entries_lower Lower-init_of Lower-inits_of Lower-inits_lower Lower-lower Names-field Names-present Names-absent Names-distinct Names-same Names-unlike Names-differ Names-expressions_named Names-functions_named Names-entries_named Names-function_names Names-entry_names Names-named Initial-inits_of Initial-roots Initial-marked Initial-mark Initial-unmarked Initial-read_by Initial-close Initial-reached_marks Initial-reached Initial-moving Initial-initials Initial-initial Initial-constant_at Initial-initialised Numbers-caps Numbers-bound Numbers-below Numbers-within Numbers-rising Numbers-ordered Numbers-every Numbers-outside Numbers-inside Numbers-sound Numbers-constant_only Numbers-numbered Scope-up_from Scope-in_range Scope-live Scope-expand_s Scope-expand_f Scope-expand Scope-expand_k Scope-expand_c Scope-shape_s Scope-shape_f Scope-shape_b Scope-shape_k Scope-shape_c Scope-emitted Scope-is_of Scope-call_result Scope-effect_result Scope-kinds_s Scope-kinds_f Scope-kinds_b Scope-kinds_k Scope-kinds_c Scope-evals_opt Scope-evals_s Scope-evals_f Scope-evals_b Scope-evals_k Scope-evals_c Scope-has Scope-distinct Scope-add_e Scope-add_opt Scope-add_f Scope-add_s Scope-top_b Scope-holds_s Scope-holds_f Scope-holds_b Scope-holds_k Scope-holds_c Scope-cont_b Scope-vis Scope-all_vis Scope-opt_vis Scope-ok_e Scope-ok_s Scope-ok_f Scope-ok_b Scope-ok_k Scope-ok_c Scope-all_of Scope-seen Scope-scoped_as Scope-scoped Scope-all_scoped Scope-entries_scoped Scope-in_scope Intake-tested Intake-verdict Intake-intake_of Intake-of_laid Intake-after_intake Intake-on_words Calls-numbers Calls-any Calls-keep Calls-free Calls-held Calls-round Calls-rounds Calls-answer Calls-order Callees-callees_s Callees-callees_f Callees-callees_b Callees-callees_k Callees-callees_c Callees-callees_at Callees-calls Callees-order_of Redirect-name_word Redirect-find Redirect-omitted Redirect-all_below Redirect-argument_types Redirect-agree Redirect-type_behind Redirect-result_type Redirect-same Redirect-redirecting Redirect-redirect_fn Redirect-redirect_entry Redirect-stays Redirect-redirect_fns Redirect-with_functions Redirect-with_entries Redirect-redirect Redirect-refusal Redirect-after Redirect-nothing Redirect-function Redirect-compared Redirect-with_replacement Redirect-with_original Redirect-redirect_function bytes_of answer_by on_image wuldgisp_intake order_ended order_image order_after wuldgisp_order redirect_ended redirect_after redirect_image wuldgisp_redirect p6
p6-called = refl

pub p6_redirected : get_or (wuldgisp_redirect p6 2 1 []).1 184 0 ≡ 1
unfolding word_of words_of ◌⟫◌ Outcome-eat Outcome-map_o Outcome-exact Outcome-both Outcome-map_l Table-types Table-expressions Table-levels Table-queries Table-values Table-atomics Table-results Table-statements Table-name_row Table-type_row Table-constant_row Table-override_row Table-global_row Table-expression_row Table-function_head Table-entry_head Table-counted Table-limit Table-variants Table-repeat Table-text Table-variant Table-more Table-follow Table-run Tree-opt_of Tree-word_of Tree-kind_of Tree-size_b Tree-size_c Tree-flat_all Tree-flat_list Tree-flat_x Tree-flat_s Tree-flat_f Tree-flat_b Tree-flat_k Tree-flat_c Tree-flat_block Tree-flat Tree-flat_entry Tree-rows Tree-listed Tree-operands Tree-stmts Tree-case_at Tree-cases Tree-form Tree-checked Tree-shaped Tree-statement Tree-block_at Tree-function_at Tree-entry_at Module-next Module-records Module-table Module-special_at Module-count_at Module-offset_at Module-end_at Module-limits Module-placed Module-section Module-table_at ◌⊛◌ Module-read Module-places Module-flat_table Module-flat_special Module-sections Module-pairs_from Module-bodies Module-flat_module Module-write Module-sized Carry-carry_cell Carry-carry_opt Carry-carry_range Carry-carry_s Carry-carry_f Carry-carry_b Carry-carry_k Carry-carry_c Carry-carry_function Carry-carry_entry Carry-carry_special Carry-carry Operands-optional Operands-operand Operands-ops_of Operands-result_of Operands-function_of Operands-kind Operands-standing_kind Operands-result_kind Operands-emitted_kind Operands-constant_kind Operands-ops Operands-kind_at Operands-standing Lower-below Lower-bases_of Lower-types_lower Lower-operands_lower Lower-functions_lower Lower-entries_lower Lower-init_of Lower-inits_of Lower-inits_lower Lower-lower Names-field Names-present Names-absent Names-distinct Names-same Names-unlike Names-differ Names-expressions_named Names-functions_named Names-entries_named Names-function_names Names-entry_names Names-named Initial-inits_of Initial-roots Initial-marked Initial-mark Initial-unmarked Initial-read_by Initial-close Initial-reached_marks Initial-reached Initial-moving Initial-initials Initial-initial Initial-constant_at Initial-initialised Numbers-caps Numbers-bound Numbers-below Numbers-within Numbers-rising Numbers-ordered Numbers-every Numbers-outside Numbers-inside Numbers-sound Numbers-constant_only Numbers-numbered Scope-up_from Scope-in_range Scope-live Scope-expand_s Scope-expand_f Scope-expand Scope-expand_k Scope-expand_c Scope-shape_s Scope-shape_f Scope-shape_b Scope-shape_k Scope-shape_c Scope-emitted Scope-is_of Scope-call_result Scope-effect_result Scope-kinds_s Scope-kinds_f Scope-kinds_b Scope-kinds_k Scope-kinds_c Scope-evals_opt Scope-evals_s Scope-evals_f Scope-evals_b Scope-evals_k Scope-evals_c Scope-has Scope-distinct Scope-add_e Scope-add_opt Scope-add_f Scope-add_s Scope-top_b Scope-holds_s Scope-holds_f Scope-holds_b Scope-holds_k Scope-holds_c Scope-cont_b Scope-vis Scope-all_vis Scope-opt_vis Scope-ok_e Scope-ok_s Scope-ok_f Scope-ok_b Scope-ok_k Scope-ok_c Scope-all_of Scope-seen Scope-scoped_as Scope-scoped Scope-all_scoped Scope-entries_scoped Scope-in_scope Intake-tested Intake-verdict Intake-intake_of Intake-of_laid Intake-after_intake Intake-on_words Calls-numbers Calls-any Calls-keep Calls-free Calls-held Calls-round Calls-rounds Calls-answer Calls-order Callees-callees_s Callees-callees_f Callees-callees_b Callees-callees_k Callees-callees_c Callees-callees_at Callees-calls Callees-order_of Redirect-name_word Redirect-find Redirect-omitted Redirect-all_below Redirect-argument_types Redirect-agree Redirect-type_behind Redirect-result_type Redirect-same Redirect-redirecting Redirect-redirect_fn Redirect-redirect_entry Redirect-stays Redirect-redirect_fns Redirect-with_functions Redirect-with_entries Redirect-redirect Redirect-refusal Redirect-after Redirect-nothing Redirect-function Redirect-compared Redirect-with_replacement Redirect-with_original Redirect-redirect_function bytes_of answer_by on_image wuldgisp_intake order_ended order_image order_after wuldgisp_order redirect_ended redirect_after redirect_image wuldgisp_redirect p6
p6_redirected = refl

pub p6_answered : (wuldgisp_redirect p6 2 1 []).0 ≡ 281483566645248
unfolding word_of words_of ◌⟫◌ Outcome-eat Outcome-map_o Outcome-exact Outcome-both Outcome-map_l Table-types Table-expressions Table-levels Table-queries Table-values Table-atomics Table-results Table-statements Table-name_row Table-type_row Table-constant_row Table-override_row Table-global_row Table-expression_row Table-function_head Table-entry_head Table-counted Table-limit Table-variants Table-repeat Table-text Table-variant Table-more Table-follow Table-run Tree-opt_of Tree-word_of Tree-kind_of Tree-size_b Tree-size_c Tree-flat_all Tree-flat_list Tree-flat_x Tree-flat_s Tree-flat_f Tree-flat_b Tree-flat_k Tree-flat_c Tree-flat_block Tree-flat Tree-flat_entry Tree-rows Tree-listed Tree-operands Tree-stmts Tree-case_at Tree-cases Tree-form Tree-checked Tree-shaped Tree-statement Tree-block_at Tree-function_at Tree-entry_at Module-next Module-records Module-table Module-special_at Module-count_at Module-offset_at Module-end_at Module-limits Module-placed Module-section Module-table_at ◌⊛◌ Module-read Module-places Module-flat_table Module-flat_special Module-sections Module-pairs_from Module-bodies Module-flat_module Module-write Module-sized Carry-carry_cell Carry-carry_opt Carry-carry_range Carry-carry_s Carry-carry_f Carry-carry_b Carry-carry_k Carry-carry_c Carry-carry_function Carry-carry_entry Carry-carry_special Carry-carry Operands-optional Operands-operand Operands-ops_of Operands-result_of Operands-function_of Operands-kind Operands-standing_kind Operands-result_kind Operands-emitted_kind Operands-constant_kind Operands-ops Operands-kind_at Operands-standing Lower-below Lower-bases_of Lower-types_lower Lower-operands_lower Lower-functions_lower Lower-entries_lower Lower-init_of Lower-inits_of Lower-inits_lower Lower-lower Names-field Names-present Names-absent Names-distinct Names-same Names-unlike Names-differ Names-expressions_named Names-functions_named Names-entries_named Names-function_names Names-entry_names Names-named Initial-inits_of Initial-roots Initial-marked Initial-mark Initial-unmarked Initial-read_by Initial-close Initial-reached_marks Initial-reached Initial-moving Initial-initials Initial-initial Initial-constant_at Initial-initialised Numbers-caps Numbers-bound Numbers-below Numbers-within Numbers-rising Numbers-ordered Numbers-every Numbers-outside Numbers-inside Numbers-sound Numbers-constant_only Numbers-numbered Scope-up_from Scope-in_range Scope-live Scope-expand_s Scope-expand_f Scope-expand Scope-expand_k Scope-expand_c Scope-shape_s Scope-shape_f Scope-shape_b Scope-shape_k Scope-shape_c Scope-emitted Scope-is_of Scope-call_result Scope-effect_result Scope-kinds_s Scope-kinds_f Scope-kinds_b Scope-kinds_k Scope-kinds_c Scope-evals_opt Scope-evals_s Scope-evals_f Scope-evals_b Scope-evals_k Scope-evals_c Scope-has Scope-distinct Scope-add_e Scope-add_opt Scope-add_f Scope-add_s Scope-top_b Scope-holds_s Scope-holds_f Scope-holds_b Scope-holds_k Scope-holds_c Scope-cont_b Scope-vis Scope-all_vis Scope-opt_vis Scope-ok_e Scope-ok_s Scope-ok_f Scope-ok_b Scope-ok_k Scope-ok_c Scope-all_of Scope-seen Scope-scoped_as Scope-scoped Scope-all_scoped Scope-entries_scoped Scope-in_scope Intake-tested Intake-verdict Intake-intake_of Intake-of_laid Intake-after_intake Intake-on_words Calls-numbers Calls-any Calls-keep Calls-free Calls-held Calls-round Calls-rounds Calls-answer Calls-order Callees-callees_s Callees-callees_f Callees-callees_b Callees-callees_k Callees-callees_c Callees-callees_at Callees-calls Callees-order_of Redirect-name_word Redirect-find Redirect-omitted Redirect-all_below Redirect-argument_types Redirect-agree Redirect-type_behind Redirect-result_type Redirect-same Redirect-redirecting Redirect-redirect_fn Redirect-redirect_entry Redirect-stays Redirect-redirect_fns Redirect-with_functions Redirect-with_entries Redirect-redirect Redirect-refusal Redirect-after Redirect-nothing Redirect-function Redirect-compared Redirect-with_replacement Redirect-with_original Redirect-redirect_function bytes_of answer_by on_image wuldgisp_intake order_ended order_image order_after wuldgisp_order redirect_ended redirect_after redirect_image wuldgisp_redirect p6
p6_answered = refl

pub p6-told : (telling_of p6).text ≡ 102 ∷ 117 ∷ 110 ∷ 99 ∷ 116 ∷ 105 ∷ 111 ∷ 110 ∷ 115 ∷ 32 ∷ 51 ∷ 10 ∷ 48 ∷ 32 ∷ 49 ∷ 32 ∷ 116 ∷ 111 ∷ 110 ∷ 101 ∷ 10 ∷ 49 ∷ 32 ∷ 50 ∷ 32 ∷ 102 ∷ 111 ∷ 103 ∷ 10 ∷ 50 ∷ 32 ∷ 48 ∷ 32 ∷ 115 ∷ 104 ∷ 97 ∷ 100 ∷ 101 ∷ 10 ∷ []
unfolding word_of words_of ◌⟫◌ Outcome-eat Outcome-map_o Outcome-exact Outcome-both Outcome-map_l Table-types Table-expressions Table-levels Table-queries Table-values Table-atomics Table-results Table-statements Table-name_row Table-type_row Table-constant_row Table-override_row Table-global_row Table-expression_row Table-function_head Table-entry_head Table-counted Table-limit Table-variants Table-repeat Table-text Table-variant Table-more Table-follow Table-run Tree-opt_of Tree-word_of Tree-kind_of Tree-size_b Tree-size_c Tree-flat_all Tree-flat_list Tree-flat_x Tree-flat_s Tree-flat_f Tree-flat_b Tree-flat_k Tree-flat_c Tree-flat_block Tree-flat Tree-flat_entry Tree-rows Tree-listed Tree-operands Tree-stmts Tree-case_at Tree-cases Tree-form Tree-checked Tree-shaped Tree-statement Tree-block_at Tree-function_at Tree-entry_at Module-next Module-records Module-table Module-special_at Module-count_at Module-offset_at Module-end_at Module-limits Module-placed Module-section Module-table_at ◌⊛◌ Module-read Module-places Module-flat_table Module-flat_special Module-sections Module-pairs_from Module-bodies Module-flat_module Module-write Module-sized Carry-carry_cell Carry-carry_opt Carry-carry_range Carry-carry_s Carry-carry_f Carry-carry_b Carry-carry_k Carry-carry_c Carry-carry_function Carry-carry_entry Carry-carry_special Carry-carry Operands-optional Operands-operand Operands-ops_of Operands-result_of Operands-function_of Operands-kind Operands-standing_kind Operands-result_kind Operands-emitted_kind Operands-constant_kind Operands-ops Operands-kind_at Operands-standing Lower-below Lower-bases_of Lower-types_lower Lower-operands_lower Lower-functions_lower Lower-entries_lower Lower-init_of Lower-inits_of Lower-inits_lower Lower-lower Names-field Names-present Names-absent Names-distinct Names-same Names-unlike Names-differ Names-expressions_named Names-functions_named Names-entries_named Names-function_names Names-entry_names Names-named Initial-inits_of Initial-roots Initial-marked Initial-mark Initial-unmarked Initial-read_by Initial-close Initial-reached_marks Initial-reached Initial-moving Initial-initials Initial-initial Initial-constant_at Initial-initialised Numbers-caps Numbers-bound Numbers-below Numbers-within Numbers-rising Numbers-ordered Numbers-every Numbers-outside Numbers-inside Numbers-sound Numbers-constant_only Numbers-numbered Scope-up_from Scope-in_range Scope-live Scope-expand_s Scope-expand_f Scope-expand Scope-expand_k Scope-expand_c Scope-shape_s Scope-shape_f Scope-shape_b Scope-shape_k Scope-shape_c Scope-emitted Scope-is_of Scope-call_result Scope-effect_result Scope-kinds_s Scope-kinds_f Scope-kinds_b Scope-kinds_k Scope-kinds_c Scope-evals_opt Scope-evals_s Scope-evals_f Scope-evals_b Scope-evals_k Scope-evals_c Scope-has Scope-distinct Scope-add_e Scope-add_opt Scope-add_f Scope-add_s Scope-top_b Scope-holds_s Scope-holds_f Scope-holds_b Scope-holds_k Scope-holds_c Scope-cont_b Scope-vis Scope-all_vis Scope-opt_vis Scope-ok_e Scope-ok_s Scope-ok_f Scope-ok_b Scope-ok_k Scope-ok_c Scope-all_of Scope-seen Scope-scoped_as Scope-scoped Scope-all_scoped Scope-entries_scoped Scope-in_scope Intake-tested Intake-verdict Intake-intake_of Intake-of_laid Intake-after_intake Intake-on_words Calls-numbers Calls-any Calls-keep Calls-free Calls-held Calls-round Calls-rounds Calls-answer Calls-order Callees-callees_s Callees-callees_f Callees-callees_b Callees-callees_k Callees-callees_c Callees-callees_at Callees-calls Callees-order_of Redirect-name_word Redirect-find Redirect-omitted Redirect-all_below Redirect-argument_types Redirect-agree Redirect-type_behind Redirect-result_type Redirect-same Redirect-redirecting Redirect-redirect_fn Redirect-redirect_entry Redirect-stays Redirect-redirect_fns Redirect-with_functions Redirect-with_entries Redirect-redirect Redirect-refusal Redirect-after Redirect-nothing Redirect-function Redirect-compared Redirect-with_replacement Redirect-with_original Redirect-redirect_function bytes_of answer_by on_image wuldgisp_intake order_ended order_image order_after wuldgisp_order redirect_ended redirect_after redirect_image wuldgisp_redirect decimal name_text name_in name_of numbers_text line_text lines_text headed ordered_text refusing telling telling_of p6
p6-told = refl

pub p8-told : (telling_of p8).text ≡ 114 ∷ 101 ∷ 102 ∷ 117 ∷ 115 ∷ 101 ∷ 100 ∷ 32 ∷ 49 ∷ 50 ∷ 32 ∷ 108 ∷ 101 ∷ 102 ∷ 116 ∷ 32 ∷ 50 ∷ 10 ∷ []
unfolding word_of words_of ◌⟫◌ Outcome-eat Outcome-map_o Outcome-exact Outcome-both Outcome-map_l Table-types Table-expressions Table-levels Table-queries Table-values Table-atomics Table-results Table-statements Table-name_row Table-type_row Table-constant_row Table-override_row Table-global_row Table-expression_row Table-function_head Table-entry_head Table-counted Table-limit Table-variants Table-repeat Table-text Table-variant Table-more Table-follow Table-run Tree-opt_of Tree-word_of Tree-kind_of Tree-size_b Tree-size_c Tree-flat_all Tree-flat_list Tree-flat_x Tree-flat_s Tree-flat_f Tree-flat_b Tree-flat_k Tree-flat_c Tree-flat_block Tree-flat Tree-flat_entry Tree-rows Tree-listed Tree-operands Tree-stmts Tree-case_at Tree-cases Tree-form Tree-checked Tree-shaped Tree-statement Tree-block_at Tree-function_at Tree-entry_at Module-next Module-records Module-table Module-special_at Module-count_at Module-offset_at Module-end_at Module-limits Module-placed Module-section Module-table_at ◌⊛◌ Module-read Module-places Module-flat_table Module-flat_special Module-sections Module-pairs_from Module-bodies Module-flat_module Module-write Module-sized Carry-carry_cell Carry-carry_opt Carry-carry_range Carry-carry_s Carry-carry_f Carry-carry_b Carry-carry_k Carry-carry_c Carry-carry_function Carry-carry_entry Carry-carry_special Carry-carry Operands-optional Operands-operand Operands-ops_of Operands-result_of Operands-function_of Operands-kind Operands-standing_kind Operands-result_kind Operands-emitted_kind Operands-constant_kind Operands-ops Operands-kind_at Operands-standing Lower-below Lower-bases_of Lower-types_lower Lower-operands_lower Lower-functions_lower Lower-entries_lower Lower-init_of Lower-inits_of Lower-inits_lower Lower-lower Names-field Names-present Names-absent Names-distinct Names-same Names-unlike Names-differ Names-expressions_named Names-functions_named Names-entries_named Names-function_names Names-entry_names Names-named Initial-inits_of Initial-roots Initial-marked Initial-mark Initial-unmarked Initial-read_by Initial-close Initial-reached_marks Initial-reached Initial-moving Initial-initials Initial-initial Initial-constant_at Initial-initialised Numbers-caps Numbers-bound Numbers-below Numbers-within Numbers-rising Numbers-ordered Numbers-every Numbers-outside Numbers-inside Numbers-sound Numbers-constant_only Numbers-numbered Scope-up_from Scope-in_range Scope-live Scope-expand_s Scope-expand_f Scope-expand Scope-expand_k Scope-expand_c Scope-shape_s Scope-shape_f Scope-shape_b Scope-shape_k Scope-shape_c Scope-emitted Scope-is_of Scope-call_result Scope-effect_result Scope-kinds_s Scope-kinds_f Scope-kinds_b Scope-kinds_k Scope-kinds_c Scope-evals_opt Scope-evals_s Scope-evals_f Scope-evals_b Scope-evals_k Scope-evals_c Scope-has Scope-distinct Scope-add_e Scope-add_opt Scope-add_f Scope-add_s Scope-top_b Scope-holds_s Scope-holds_f Scope-holds_b Scope-holds_k Scope-holds_c Scope-cont_b Scope-vis Scope-all_vis Scope-opt_vis Scope-ok_e Scope-ok_s Scope-ok_f Scope-ok_b Scope-ok_k Scope-ok_c Scope-all_of Scope-seen Scope-scoped_as Scope-scoped Scope-all_scoped Scope-entries_scoped Scope-in_scope Intake-tested Intake-verdict Intake-intake_of Intake-of_laid Intake-after_intake Intake-on_words Calls-numbers Calls-any Calls-keep Calls-free Calls-held Calls-round Calls-rounds Calls-answer Calls-order Callees-callees_s Callees-callees_f Callees-callees_b Callees-callees_k Callees-callees_c Callees-callees_at Callees-calls Callees-order_of Redirect-name_word Redirect-find Redirect-omitted Redirect-all_below Redirect-argument_types Redirect-agree Redirect-type_behind Redirect-result_type Redirect-same Redirect-redirecting Redirect-redirect_fn Redirect-redirect_entry Redirect-stays Redirect-redirect_fns Redirect-with_functions Redirect-with_entries Redirect-redirect Redirect-refusal Redirect-after Redirect-nothing Redirect-function Redirect-compared Redirect-with_replacement Redirect-with_original Redirect-redirect_function bytes_of answer_by on_image wuldgisp_intake order_ended order_image order_after wuldgisp_order redirect_ended redirect_after redirect_image wuldgisp_redirect decimal name_text name_in name_of numbers_text line_text lines_text headed ordered_text refusing telling telling_of p8
p8-told = refl

pub twice-told : (telling_of twice).text ≡ 114 ∷ 101 ∷ 102 ∷ 117 ∷ 115 ∷ 101 ∷ 100 ∷ 32 ∷ 53 ∷ 10 ∷ []
unfolding word_of words_of ◌⟫◌ Outcome-eat Outcome-map_o Outcome-exact Outcome-both Outcome-map_l Table-types Table-expressions Table-levels Table-queries Table-values Table-atomics Table-results Table-statements Table-name_row Table-type_row Table-constant_row Table-override_row Table-global_row Table-expression_row Table-function_head Table-entry_head Table-counted Table-limit Table-variants Table-repeat Table-text Table-variant Table-more Table-follow Table-run Tree-opt_of Tree-word_of Tree-kind_of Tree-size_b Tree-size_c Tree-flat_all Tree-flat_list Tree-flat_x Tree-flat_s Tree-flat_f Tree-flat_b Tree-flat_k Tree-flat_c Tree-flat_block Tree-flat Tree-flat_entry Tree-rows Tree-listed Tree-operands Tree-stmts Tree-case_at Tree-cases Tree-form Tree-checked Tree-shaped Tree-statement Tree-block_at Tree-function_at Tree-entry_at Module-next Module-records Module-table Module-special_at Module-count_at Module-offset_at Module-end_at Module-limits Module-placed Module-section Module-table_at ◌⊛◌ Module-read Module-places Module-flat_table Module-flat_special Module-sections Module-pairs_from Module-bodies Module-flat_module Module-write Module-sized Carry-carry_cell Carry-carry_opt Carry-carry_range Carry-carry_s Carry-carry_f Carry-carry_b Carry-carry_k Carry-carry_c Carry-carry_function Carry-carry_entry Carry-carry_special Carry-carry Operands-optional Operands-operand Operands-ops_of Operands-result_of Operands-function_of Operands-kind Operands-standing_kind Operands-result_kind Operands-emitted_kind Operands-constant_kind Operands-ops Operands-kind_at Operands-standing Lower-below Lower-bases_of Lower-types_lower Lower-operands_lower Lower-functions_lower Lower-entries_lower Lower-init_of Lower-inits_of Lower-inits_lower Lower-lower Names-field Names-present Names-absent Names-distinct Names-same Names-unlike Names-differ Names-expressions_named Names-functions_named Names-entries_named Names-function_names Names-entry_names Names-named Initial-inits_of Initial-roots Initial-marked Initial-mark Initial-unmarked Initial-read_by Initial-close Initial-reached_marks Initial-reached Initial-moving Initial-initials Initial-initial Initial-constant_at Initial-initialised Numbers-caps Numbers-bound Numbers-below Numbers-within Numbers-rising Numbers-ordered Numbers-every Numbers-outside Numbers-inside Numbers-sound Numbers-constant_only Numbers-numbered Scope-up_from Scope-in_range Scope-live Scope-expand_s Scope-expand_f Scope-expand Scope-expand_k Scope-expand_c Scope-shape_s Scope-shape_f Scope-shape_b Scope-shape_k Scope-shape_c Scope-emitted Scope-is_of Scope-call_result Scope-effect_result Scope-kinds_s Scope-kinds_f Scope-kinds_b Scope-kinds_k Scope-kinds_c Scope-evals_opt Scope-evals_s Scope-evals_f Scope-evals_b Scope-evals_k Scope-evals_c Scope-has Scope-distinct Scope-add_e Scope-add_opt Scope-add_f Scope-add_s Scope-top_b Scope-holds_s Scope-holds_f Scope-holds_b Scope-holds_k Scope-holds_c Scope-cont_b Scope-vis Scope-all_vis Scope-opt_vis Scope-ok_e Scope-ok_s Scope-ok_f Scope-ok_b Scope-ok_k Scope-ok_c Scope-all_of Scope-seen Scope-scoped_as Scope-scoped Scope-all_scoped Scope-entries_scoped Scope-in_scope Intake-tested Intake-verdict Intake-intake_of Intake-of_laid Intake-after_intake Intake-on_words Calls-numbers Calls-any Calls-keep Calls-free Calls-held Calls-round Calls-rounds Calls-answer Calls-order Callees-callees_s Callees-callees_f Callees-callees_b Callees-callees_k Callees-callees_c Callees-callees_at Callees-calls Callees-order_of Redirect-name_word Redirect-find Redirect-omitted Redirect-all_below Redirect-argument_types Redirect-agree Redirect-type_behind Redirect-result_type Redirect-same Redirect-redirecting Redirect-redirect_fn Redirect-redirect_entry Redirect-stays Redirect-redirect_fns Redirect-with_functions Redirect-with_entries Redirect-redirect Redirect-refusal Redirect-after Redirect-nothing Redirect-function Redirect-compared Redirect-with_replacement Redirect-with_original Redirect-redirect_function bytes_of answer_by on_image wuldgisp_intake order_ended order_image order_after wuldgisp_order redirect_ended redirect_after redirect_image wuldgisp_redirect decimal name_text name_in name_of numbers_text line_text lines_text headed ordered_text refusing telling telling_of twice
twice-told = refl
