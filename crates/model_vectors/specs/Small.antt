-- Sessions of a few steps computed: the answers of all steps, and what was written. Written by tools/compute_vectors.py.
use Rattle.std.specs.Prelude.{◌≡◌, refl, List, [], ◌∷◌, ℕ, replicate}
use Rattle.base_words.specs.Words.{word_of, words_of, bytes_of}
use Rattle.model.specs.Outcome.{◌⟫◌, eat as Outcome-eat, map_o as Outcome-map_o, exact as Outcome-exact, both as Outcome-both, map_l as Outcome-map_l}
use Rattle.model.specs.Table.{types as Table-types, expressions as Table-expressions, levels as Table-levels, queries as Table-queries, values as Table-values, atomics as Table-atomics, results as Table-results, statements as Table-statements, name_row as Table-name_row, type_row as Table-type_row, constant_row as Table-constant_row, override_row as Table-override_row, global_row as Table-global_row, expression_row as Table-expression_row, function_head as Table-function_head, entry_head as Table-entry_head, counted as Table-counted, limit as Table-limit, variants as Table-variants, repeat as Table-repeat, text as Table-text, variant as Table-variant, more as Table-more, follow as Table-follow, run as Table-run}
use Rattle.model.specs.Tree.{opt_of as Tree-opt_of, word_of as Tree-word_of, kind_of as Tree-kind_of, size_b as Tree-size_b, size_c as Tree-size_c, flat_all as Tree-flat_all, flat_list as Tree-flat_list, flat_x as Tree-flat_x, flat_s as Tree-flat_s, flat_f as Tree-flat_f, flat_b as Tree-flat_b, flat_k as Tree-flat_k, flat_c as Tree-flat_c, flat_block as Tree-flat_block, flat as Tree-flat, flat_entry as Tree-flat_entry, rows as Tree-rows, listed as Tree-listed, operands as Tree-operands, stmts as Tree-stmts, case_at as Tree-case_at, cases as Tree-cases, form as Tree-form, checked as Tree-checked, shaped as Tree-shaped, statement as Tree-statement, block_at as Tree-block_at, function_at as Tree-function_at, entry_at as Tree-entry_at}
use Rattle.model.specs.Module.{next as Module-next, records as Module-records, table as Module-table, special_at as Module-special_at, count_at as Module-count_at, offset_at as Module-offset_at, end_at as Module-end_at, limits as Module-limits, placed as Module-placed, section as Module-section, table_at as Module-table_at, ◌⊛◌, read as Module-read, places as Module-places, flat_table as Module-flat_table, flat_special as Module-flat_special, sections as Module-sections, pairs_from as Module-pairs_from, bodies as Module-bodies, flat_module as Module-flat_module, write as Module-write, sized as Module-sized}
use Rattle.model.specs.Carry.{carry_cell as Carry-carry_cell, carry_opt as Carry-carry_opt, carry_range as Carry-carry_range, carry_s as Carry-carry_s, carry_f as Carry-carry_f, carry_b as Carry-carry_b, carry_k as Carry-carry_k, carry_c as Carry-carry_c, carry_function as Carry-carry_function, carry_entry as Carry-carry_entry, carry_special as Carry-carry_special, carry as Carry-carry}
use Rattle.model.specs.Operands.{optional as Operands-optional, operand as Operands-operand, ops_of as Operands-ops_of, result_of as Operands-result_of, function_of as Operands-function_of, kind as Operands-kind, standing_kind as Operands-standing_kind, result_kind as Operands-result_kind, emitted_kind as Operands-emitted_kind, constant_kind as Operands-constant_kind, ops as Operands-ops, kind_at as Operands-kind_at, standing as Operands-standing}
use Rattle.model.specs.Lower.{below as Lower-below, bases_of as Lower-bases_of, types_lower as Lower-types_lower, operands_lower as Lower-operands_lower, functions_lower as Lower-functions_lower, entries_lower as Lower-entries_lower, init_of as Lower-init_of, inits_of as Lower-inits_of, inits_lower as Lower-inits_lower, lower as Lower-lower}
use Rattle.model.specs.Names.{field as Names-field, present as Names-present, absent as Names-absent, distinct as Names-distinct, same as Names-same, unlike as Names-unlike, differ as Names-differ, expressions_named as Names-expressions_named, functions_named as Names-functions_named, entries_named as Names-entries_named, function_names as Names-function_names, entry_names as Names-entry_names, named as Names-named}
use Rattle.model.specs.Initial.{inits_of as Initial-inits_of, roots as Initial-roots, marked as Initial-marked, mark as Initial-mark, unmarked as Initial-unmarked, read_by as Initial-read_by, close as Initial-close, reached_marks as Initial-reached_marks, reached as Initial-reached, moving as Initial-moving, initials as Initial-initials, initial as Initial-initial, constant_at as Initial-constant_at, initialised as Initial-initialised}
use Rattle.model.specs.Numbers.{caps as Numbers-caps, bound as Numbers-bound, below as Numbers-below, within as Numbers-within, rising as Numbers-rising, ordered as Numbers-ordered, every as Numbers-every, outside as Numbers-outside, inside as Numbers-inside, sound as Numbers-sound, constant_only as Numbers-constant_only, numbered as Numbers-numbered}
use Rattle.model.specs.Scope.{up_from as Scope-up_from, in_range as Scope-in_range, live as Scope-live, expand_s as Scope-expand_s, expand_f as Scope-expand_f, expand as Scope-expand, expand_k as Scope-expand_k, expand_c as Scope-expand_c, shape_s as Scope-shape_s, shape_f as Scope-shape_f, shape_b as Scope-shape_b, shape_k as Scope-shape_k, shape_c as Scope-shape_c, emitted as Scope-emitted, is_of as Scope-is_of, call_result as Scope-call_result, effect_result as Scope-effect_result, kinds_s as Scope-kinds_s, kinds_f as Scope-kinds_f, kinds_b as Scope-kinds_b, kinds_k as Scope-kinds_k, kinds_c as Scope-kinds_c, evals_opt as Scope-evals_opt, evals_s as Scope-evals_s, evals_f as Scope-evals_f, evals_b as Scope-evals_b, evals_k as Scope-evals_k, evals_c as Scope-evals_c, has as Scope-has, distinct as Scope-distinct, add_e as Scope-add_e, add_opt as Scope-add_opt, add_f as Scope-add_f, add_s as Scope-add_s, top_b as Scope-top_b, holds_s as Scope-holds_s, holds_f as Scope-holds_f, holds_b as Scope-holds_b, holds_k as Scope-holds_k, holds_c as Scope-holds_c, cont_b as Scope-cont_b, vis as Scope-vis, all_vis as Scope-all_vis, opt_vis as Scope-opt_vis, ok_e as Scope-ok_e, ok_s as Scope-ok_s, ok_f as Scope-ok_f, ok_b as Scope-ok_b, ok_k as Scope-ok_k, ok_c as Scope-ok_c, all_of as Scope-all_of, seen as Scope-seen, scoped_as as Scope-scoped_as, scoped as Scope-scoped, all_scoped as Scope-all_scoped, entries_scoped as Scope-entries_scoped, in_scope as Scope-in_scope}
use Rattle.model.specs.Intake.{tested as Intake-tested, verdict as Intake-verdict, intake_of as Intake-intake_of, of_laid as Intake-of_laid, after_intake as Intake-after_intake, on_words as Intake-on_words}
use Rattle.model.specs.Calls.{numbers as Calls-numbers, any as Calls-any, keep as Calls-keep, free as Calls-free, held as Calls-held, round as Calls-round, rounds as Calls-rounds, answer as Calls-answer, order as Calls-order}
use Rattle.model.specs.Callees.{callees_s as Callees-callees_s, callees_f as Callees-callees_f, callees_b as Callees-callees_b, callees_k as Callees-callees_k, callees_c as Callees-callees_c, callees_at as Callees-callees_at, calls as Callees-calls, order_of as Callees-order_of}
use Rattle.model.specs.Redirect.{name_word as Redirect-name_word, find as Redirect-find, omitted as Redirect-omitted, all_below as Redirect-all_below, argument_types as Redirect-argument_types, agree as Redirect-agree, type_behind as Redirect-type_behind, result_type as Redirect-result_type, same as Redirect-same, redirecting as Redirect-redirecting, redirect_fn as Redirect-redirect_fn, redirect_entry as Redirect-redirect_entry, stays as Redirect-stays, redirect_fns as Redirect-redirect_fns, with_functions as Redirect-with_functions, with_entries as Redirect-with_entries, redirect as Redirect-redirect, refusal as Redirect-refusal, after as Redirect-after, nothing as Redirect-nothing, function as Redirect-function, compared as Redirect-compared, with_replacement as Redirect-with_replacement, with_original as Redirect-with_original, redirect_function as Redirect-redirect_function}
use Rattle.model.specs.Tables.{code_t as Tables-code_t, is_t as Tables-is_t, at as Tables-at, upd as Tables-upd, six as Tables-six, tables as Tables-tables, rec_at as Tables-rec_at, count as Tables-count, map_at as Tables-map_at}
use Rattle.model.specs.References.{targets as References-targets, target as References-target, ref_of as References-ref_of, refs as References-refs, fold_refs as References-fold_refs, carry_w as References-carry_w, through as References-through, undefined as References-undefined, add as References-add, span_by as References-span_by, first_word as References-first_word, undefined_at as References-undefined_at, moved as References-moved, shift as References-shift, alike_c as References-alike_c, alike as References-alike, index_of as References-index_of, interned as References-interned}
use Rattle.model.specs.Imports.{unless_mapped as Imports-unless_mapped, intern as Imports-intern, mapped_to_t as Imports-mapped_to_t, made as Imports-made, commit as Imports-commit, step_t as Imports-step_t, import_f as Imports-import_f, levels as Imports-levels, import_t as Imports-import_t, rename as Imports-rename, renamed as Imports-renamed, unmapped as Imports-unmapped, emptied as Imports-emptied, fresh as Imports-fresh}
use Rattle.model.specs.Bodies.{last_of as Bodies-last_of, known as Bodies-known, bring as Bodies-bring, compare_of as Bodies-compare_of, compares_of as Bodies-compares_of, each_e as Bodies-each_e, opt_e as Bodies-opt_e, mapped_to as Bodies-mapped_to, carried as Bodies-carried, step as Bodies-step, append_expr as Bodies-append_expr, intern_expr as Bodies-intern_expr, append_standing as Bodies-append_standing, import_e as Bodies-import_e, import_body as Bodies-import_body, import_initialiser as Bodies-import_initialiser, import_standing as Bodies-import_standing, import_stmt as Bodies-import_stmt, import_form as Bodies-import_form, import_block as Bodies-import_block, import_case as Bodies-import_case, import_cases as Bodies-import_cases, carried_form as Bodies-carried_form, rebuild_stmt as Bodies-rebuild_stmt, rebuild_form as Bodies-rebuild_form, rebuild_block as Bodies-rebuild_block, rebuild_case as Bodies-rebuild_case, rebuild_cases as Bodies-rebuild_cases, put_name as Bodies-put_name, name_if as Bodies-name_if, keep_names as Bodies-keep_names, name_cells as Bodies-name_cells, named_rows as Bodies-named_rows, declarations as Bodies-declarations, declared as Bodies-declared, walked as Bodies-walked, rebuilt as Bodies-rebuilt, kept_names as Bodies-kept_names, named_after as Bodies-named_after, derived as Bodies-derived, final as Bodies-final, localized as Bodies-localized, appended as Bodies-appended, append as Bodies-append, follow_f as Bodies-follow_f, follow as Bodies-follow, entered as Bodies-entered, entry_made as Bodies-entry_made, enter_all as Bodies-enter_all, entries_made as Bodies-entries_made}
use Rattle.model.specs.Special.{force as Special-force, with_special as Special-with_special, put_ray as Special-put_ray, ray_to as Special-ray_to, ray as Special-ray, rays as Special-rays, keyed as Special-keyed, put_pair as Special-put_pair, pair_to as Special-pair_to, pairs as Special-pairs, sourced as Special-sourced}
use Rattle.model.specs.Finish.{names_in as Finish-names_in, keep_n as Finish-keep_n, firsts as Finish-firsts, index_n as Finish-index_n, appearing as Finish-appearing, renumber as Finish-renumber, with_names as Finish-with_names, named_by as Finish-named_by, gathered as Finish-gathered, finished as Finish-finished, passes as Finish-passes, too_large as Finish-too_large}
use Rattle.model.specs.Session.{after as Session-after, new as Session-new, with_source as Session-with_source, unless_full as Session-unless_full, unknown as Session-unknown, stuck as Session-stuck, meets_ring as Session-meets_ring, set_module as Session-set_module, set as Session-set, clear as Session-clear, map_span as Session-map_span, importing as Session-importing, rename_type as Session-rename_type, import_function as Session-import_function, map_function_handle as Session-map_function_handle, any_ray as Session-any_ray, has_required_special_types as Session-has_required_special_types, write_if_fits as Session-write_if_fits, finish as Session-finish, callees_of as Session-callees_of, with_entries as Session-with_entries, finish_with_entry_points as Session-finish_with_entry_points}
use Rattle.model.specs.Link.{append_all as Link-append_all, link_by as Link-link_by, in_order as Link-in_order, link_module as Link-link_module, link as Link-link, output_after as Link-output_after, link_image as Link-link_image}
use Rattle.model.specs.Steps.{operations as Steps-operations, part as Steps-part, says as Steps-says, writes as Steps-writes, bit as Steps-bit, perform as Steps-perform, run as Steps-run, answers_of as Steps-answers_of, output_of as Steps-output_of, first_refused as Steps-first_refused, session as Steps-session}
use Rattle.model.specs.Steps.{Said}

-- the places and words of the steps that write
unfoldable pub wrote : List Said → List (ℕ × List ℕ)
wrote [] = []
wrote (x ∷ xs) = elim x.written [ [] ↦ wrote xs | w ∷ ws ↦ (x.at, w ∷ ws) ∷ wrote xs ]

-- what these steps answer and write with these sources, in an output of 400 bytes
unfoldable pub does : List ℕ → List ℕ → ℕ × List ℕ × List (ℕ × List ℕ)
does sources steps = let xs = Steps-run steps sources (replicate 400 0) Session-new in (Steps-first_refused xs 0, Steps-answers_of xs, wrote xs)

-- ---- sources, and images derived from them, as words
unfoldable pub p5 : List ℕ
p5 = 1 ∷ 69 ∷ 3 ∷ 20 ∷ 0 ∷ 29 ∷ 0 ∷ 29 ∷ 0 ∷ 29 ∷ 0 ∷ 29 ∷ 0 ∷ 29 ∷ 3 ∷ 29 ∷ 0 ∷ 66 ∷ 0 ∷ 66 ∷ 3 ∷ 5 ∷ 7 ∷ 1 ∷ 97 ∷ 1 ∷ 98 ∷ 1 ∷ 99 ∷ 3 ∷ 19 ∷ 28 ∷ 1 ∷ 0 ∷ 0 ∷ 0 ∷ 0 ∷ 0 ∷ 0 ∷ 0 ∷ 1 ∷ 7 ∷ 15 ∷ 0 ∷ 0 ∷ 1 ∷ 0 ∷ 0 ∷ 2 ∷ 0 ∷ 0 ∷ 0 ∷ 0 ∷ 0 ∷ 0 ∷ 0 ∷ 0 ∷ 3 ∷ 0 ∷ 0 ∷ 0 ∷ 0 ∷ 0 ∷ 0 ∷ 0 ∷ 0 ∷ 0 ∷ 0 ∷ 0 ∷ []

unfoldable pub p10 : List ℕ
p10 = 1 ∷ 84 ∷ 1 ∷ 20 ∷ 1 ∷ 23 ∷ 0 ∷ 35 ∷ 0 ∷ 35 ∷ 0 ∷ 35 ∷ 0 ∷ 35 ∷ 1 ∷ 35 ∷ 0 ∷ 81 ∷ 0 ∷ 81 ∷ 1 ∷ 1 ∷ 102 ∷ 1 ∷ 0 ∷ 0 ∷ 0 ∷ 0 ∷ 0 ∷ 0 ∷ 0 ∷ 0 ∷ 0 ∷ 0 ∷ 0 ∷ 1 ∷ 1 ∷ 0 ∷ 0 ∷ 0 ∷ 0 ∷ 0 ∷ 5 ∷ 0 ∷ 0 ∷ 0 ∷ 3 ∷ 12 ∷ 0 ∷ 0 ∷ 0 ∷ 0 ∷ 3 ∷ 10 ∷ 0 ∷ 0 ∷ 0 ∷ 0 ∷ 3 ∷ 11 ∷ 0 ∷ 17 ∷ 0 ∷ 0 ∷ 0 ∷ 1 ∷ 2 ∷ 17 ∷ 0 ∷ 0 ∷ 0 ∷ 3 ∷ 0 ∷ 0 ∷ 1 ∷ 6 ∷ 0 ∷ 0 ∷ 0 ∷ 3 ∷ 5 ∷ 0 ∷ 0 ∷ 0 ∷ []

unfoldable pub p11 : List ℕ
p11 = 1 ∷ 70 ∷ 1 ∷ 20 ∷ 1 ∷ 23 ∷ 0 ∷ 35 ∷ 0 ∷ 35 ∷ 0 ∷ 35 ∷ 0 ∷ 35 ∷ 1 ∷ 35 ∷ 0 ∷ 67 ∷ 0 ∷ 67 ∷ 1 ∷ 1 ∷ 102 ∷ 1 ∷ 0 ∷ 0 ∷ 0 ∷ 0 ∷ 0 ∷ 0 ∷ 0 ∷ 0 ∷ 0 ∷ 0 ∷ 0 ∷ 1 ∷ 1 ∷ 0 ∷ 0 ∷ 0 ∷ 0 ∷ 1 ∷ 0 ∷ 0 ∷ 0 ∷ 0 ∷ 2 ∷ 2 ∷ 0 ∷ 0 ∷ 0 ∷ 3 ∷ 1 ∷ 0 ∷ 7 ∷ 0 ∷ 0 ∷ 0 ∷ 0 ∷ 0 ∷ 1 ∷ 6 ∷ 0 ∷ 0 ∷ 0 ∷ 1 ∷ 2 ∷ 0 ∷ 0 ∷ 0 ∷ []

unfoldable pub nothing : List ℕ
nothing = 1 ∷ 23 ∷ 0 ∷ 20 ∷ 0 ∷ 20 ∷ 0 ∷ 20 ∷ 0 ∷ 20 ∷ 0 ∷ 20 ∷ 0 ∷ 20 ∷ 0 ∷ 20 ∷ 0 ∷ 20 ∷ 0 ∷ 20 ∷ 0 ∷ 0 ∷ 0 ∷ []

unfoldable pub p5-called : List ℕ
p5-called = 1 ∷ 56 ∷ 2 ∷ 20 ∷ 0 ∷ 26 ∷ 0 ∷ 26 ∷ 0 ∷ 26 ∷ 0 ∷ 26 ∷ 0 ∷ 26 ∷ 2 ∷ 26 ∷ 0 ∷ 53 ∷ 0 ∷ 53 ∷ 2 ∷ 4 ∷ 1 ∷ 98 ∷ 1 ∷ 97 ∷ 2 ∷ 11 ∷ 1 ∷ 0 ∷ 0 ∷ 0 ∷ 0 ∷ 0 ∷ 0 ∷ 0 ∷ 0 ∷ 2 ∷ 0 ∷ 0 ∷ 0 ∷ 0 ∷ 0 ∷ 0 ∷ 0 ∷ 1 ∷ 7 ∷ 15 ∷ 0 ∷ 0 ∷ 0 ∷ 0 ∷ 0 ∷ 0 ∷ 0 ∷ 0 ∷ []

unfoldable pub p10-passed : List ℕ
p10-passed = 1 ∷ 72 ∷ 1 ∷ 20 ∷ 0 ∷ 23 ∷ 0 ∷ 23 ∷ 0 ∷ 23 ∷ 0 ∷ 23 ∷ 0 ∷ 23 ∷ 1 ∷ 23 ∷ 0 ∷ 69 ∷ 0 ∷ 69 ∷ 1 ∷ 1 ∷ 102 ∷ 1 ∷ 1 ∷ 0 ∷ 0 ∷ 0 ∷ 0 ∷ 0 ∷ 5 ∷ 0 ∷ 0 ∷ 0 ∷ 3 ∷ 10 ∷ 0 ∷ 0 ∷ 0 ∷ 0 ∷ 3 ∷ 11 ∷ 0 ∷ 0 ∷ 0 ∷ 0 ∷ 3 ∷ 12 ∷ 0 ∷ 17 ∷ 0 ∷ 0 ∷ 0 ∷ 0 ∷ 1 ∷ 17 ∷ 0 ∷ 0 ∷ 0 ∷ 3 ∷ 2 ∷ 0 ∷ 1 ∷ 6 ∷ 0 ∷ 0 ∷ 0 ∷ 3 ∷ 5 ∷ 0 ∷ 0 ∷ 0 ∷ []

unfoldable pub p11-emitted : List ℕ
p11-emitted = 1 ∷ 70 ∷ 1 ∷ 20 ∷ 1 ∷ 23 ∷ 0 ∷ 35 ∷ 0 ∷ 35 ∷ 0 ∷ 35 ∷ 0 ∷ 35 ∷ 1 ∷ 35 ∷ 0 ∷ 67 ∷ 0 ∷ 67 ∷ 1 ∷ 1 ∷ 102 ∷ 1 ∷ 0 ∷ 0 ∷ 0 ∷ 0 ∷ 0 ∷ 0 ∷ 0 ∷ 0 ∷ 0 ∷ 0 ∷ 0 ∷ 1 ∷ 1 ∷ 0 ∷ 0 ∷ 0 ∷ 0 ∷ 1 ∷ 0 ∷ 0 ∷ 0 ∷ 0 ∷ 2 ∷ 2 ∷ 0 ∷ 0 ∷ 0 ∷ 3 ∷ 1 ∷ 0 ∷ 7 ∷ 0 ∷ 0 ∷ 0 ∷ 0 ∷ 0 ∷ 1 ∷ 6 ∷ 0 ∷ 0 ∷ 0 ∷ 2 ∷ 2 ∷ 0 ∷ 0 ∷ 0 ∷ []

unfoldable pub unread : List ℕ
unread = 1 ∷ 47 ∷ 2 ∷ 20 ∷ 0 ∷ 26 ∷ 0 ∷ 26 ∷ 0 ∷ 26 ∷ 0 ∷ 26 ∷ 0 ∷ 26 ∷ 1 ∷ 26 ∷ 0 ∷ 44 ∷ 0 ∷ 44 ∷ 2 ∷ 4 ∷ 1 ∷ 102 ∷ 1 ∷ 120 ∷ 1 ∷ 1 ∷ 0 ∷ 0 ∷ 0 ∷ 0 ∷ 0 ∷ 1 ∷ 0 ∷ 0 ∷ 0 ∷ 3 ∷ 1 ∷ 0 ∷ 1 ∷ 0 ∷ 2 ∷ 0 ∷ 0 ∷ 0 ∷ 0 ∷ []

unfoldable pub unread_dropped : List ℕ
unread_dropped = 1 ∷ 36 ∷ 1 ∷ 20 ∷ 0 ∷ 23 ∷ 0 ∷ 23 ∷ 0 ∷ 23 ∷ 0 ∷ 23 ∷ 0 ∷ 23 ∷ 1 ∷ 23 ∷ 0 ∷ 33 ∷ 0 ∷ 33 ∷ 1 ∷ 1 ∷ 102 ∷ 1 ∷ 1 ∷ 0 ∷ 0 ∷ 0 ∷ 0 ∷ 0 ∷ 0 ∷ 0 ∷ 0 ∷ 0 ∷ 0 ∷ 0 ∷ []

unfoldable pub two_sources : List ℕ
two_sources = 1 ∷ 35 ∷ 0 ∷ 20 ∷ 1 ∷ 20 ∷ 0 ∷ 32 ∷ 0 ∷ 32 ∷ 0 ∷ 32 ∷ 0 ∷ 32 ∷ 0 ∷ 32 ∷ 0 ∷ 32 ∷ 0 ∷ 32 ∷ 1 ∷ 0 ∷ 1 ∷ 2 ∷ 0 ∷ 0 ∷ 0 ∷ 0 ∷ 0 ∷ 0 ∷ 0 ∷ 0 ∷ 0 ∷ 0 ∷ 0 ∷ 1 ∷ 47 ∷ 0 ∷ 20 ∷ 2 ∷ 20 ∷ 0 ∷ 44 ∷ 0 ∷ 44 ∷ 0 ∷ 44 ∷ 0 ∷ 44 ∷ 0 ∷ 44 ∷ 0 ∷ 44 ∷ 0 ∷ 44 ∷ 2 ∷ 13 ∷ 0 ∷ 3 ∷ 4 ∷ 0 ∷ 0 ∷ 0 ∷ 0 ∷ 0 ∷ 0 ∷ 0 ∷ 0 ∷ 0 ∷ 0 ∷ 0 ∷ 0 ∷ 1 ∷ 0 ∷ 0 ∷ 0 ∷ 0 ∷ 0 ∷ 0 ∷ 0 ∷ 0 ∷ 0 ∷ []

unfoldable pub merged : List ℕ
merged = 1 ∷ 47 ∷ 0 ∷ 20 ∷ 2 ∷ 20 ∷ 0 ∷ 44 ∷ 0 ∷ 44 ∷ 0 ∷ 44 ∷ 0 ∷ 44 ∷ 0 ∷ 44 ∷ 0 ∷ 44 ∷ 0 ∷ 44 ∷ 2 ∷ 13 ∷ 0 ∷ 1 ∷ 2 ∷ 0 ∷ 0 ∷ 0 ∷ 0 ∷ 0 ∷ 0 ∷ 0 ∷ 0 ∷ 0 ∷ 0 ∷ 0 ∷ 0 ∷ 1 ∷ 0 ∷ 0 ∷ 0 ∷ 0 ∷ 0 ∷ 0 ∷ 0 ∷ 0 ∷ 0 ∷ []

unfoldable pub later : List ℕ
later = 1 ∷ 59 ∷ 1 ∷ 20 ∷ 0 ∷ 23 ∷ 0 ∷ 23 ∷ 0 ∷ 23 ∷ 0 ∷ 23 ∷ 0 ∷ 23 ∷ 1 ∷ 23 ∷ 0 ∷ 56 ∷ 0 ∷ 56 ∷ 1 ∷ 1 ∷ 102 ∷ 1 ∷ 1 ∷ 0 ∷ 0 ∷ 0 ∷ 0 ∷ 0 ∷ 3 ∷ 0 ∷ 0 ∷ 0 ∷ 3 ∷ 7 ∷ 0 ∷ 0 ∷ 0 ∷ 0 ∷ 3 ∷ 7 ∷ 0 ∷ 16 ∷ 0 ∷ 0 ∷ 0 ∷ 1 ∷ 0 ∷ 1 ∷ 6 ∷ 0 ∷ 0 ∷ 0 ∷ 2 ∷ 3 ∷ 0 ∷ 0 ∷ 0 ∷ []

unfoldable pub later-moved : List ℕ
later-moved = 1 ∷ 53 ∷ 1 ∷ 20 ∷ 0 ∷ 23 ∷ 0 ∷ 23 ∷ 0 ∷ 23 ∷ 0 ∷ 23 ∷ 0 ∷ 23 ∷ 1 ∷ 23 ∷ 0 ∷ 50 ∷ 0 ∷ 50 ∷ 1 ∷ 1 ∷ 102 ∷ 1 ∷ 1 ∷ 0 ∷ 0 ∷ 0 ∷ 0 ∷ 0 ∷ 2 ∷ 0 ∷ 0 ∷ 0 ∷ 3 ∷ 7 ∷ 0 ∷ 16 ∷ 0 ∷ 0 ∷ 0 ∷ 0 ∷ 0 ∷ 1 ∷ 6 ∷ 0 ∷ 0 ∷ 0 ∷ 1 ∷ 2 ∷ 0 ∷ 0 ∷ 0 ∷ []

unfoldable pub initialised : List ℕ
initialised = 1 ∷ 79 ∷ 2 ∷ 20 ∷ 1 ∷ 26 ∷ 0 ∷ 38 ∷ 0 ∷ 38 ∷ 0 ∷ 38 ∷ 0 ∷ 38 ∷ 1 ∷ 38 ∷ 0 ∷ 76 ∷ 0 ∷ 76 ∷ 2 ∷ 4 ∷ 1 ∷ 102 ∷ 1 ∷ 120 ∷ 1 ∷ 0 ∷ 0 ∷ 0 ∷ 0 ∷ 0 ∷ 0 ∷ 0 ∷ 0 ∷ 0 ∷ 0 ∷ 0 ∷ 1 ∷ 1 ∷ 0 ∷ 0 ∷ 0 ∷ 0 ∷ 2 ∷ 0 ∷ 0 ∷ 0 ∷ 0 ∷ 2 ∷ 0 ∷ 0 ∷ 0 ∷ 0 ∷ 3 ∷ 3 ∷ 0 ∷ 0 ∷ 0 ∷ 3 ∷ 7 ∷ 0 ∷ 7 ∷ 0 ∷ 0 ∷ 0 ∷ 0 ∷ 16 ∷ 0 ∷ 0 ∷ 0 ∷ 0 ∷ 1 ∷ 1 ∷ 2 ∷ 0 ∷ 0 ∷ 0 ∷ 0 ∷ []

unfoldable pub constant : List ℕ
constant = 1 ∷ 53 ∷ 0 ∷ 20 ∷ 1 ∷ 20 ∷ 1 ∷ 32 ∷ 0 ∷ 38 ∷ 0 ∷ 38 ∷ 2 ∷ 38 ∷ 0 ∷ 50 ∷ 0 ∷ 50 ∷ 0 ∷ 50 ∷ 1 ∷ 0 ∷ 0 ∷ 0 ∷ 0 ∷ 0 ∷ 0 ∷ 0 ∷ 0 ∷ 0 ∷ 0 ∷ 0 ∷ 1 ∷ 0 ∷ 0 ∷ 0 ∷ 0 ∷ 0 ∷ 2 ∷ 8 ∷ 0 ∷ 0 ∷ 0 ∷ 3 ∷ 7 ∷ 0 ∷ 1 ∷ 0 ∷ 0 ∷ 0 ∷ 0 ∷ 0 ∷ 0 ∷ []

unfoldable pub special : List ℕ
special = 1 ∷ 37 ∷ 0 ∷ 20 ∷ 1 ∷ 20 ∷ 0 ∷ 32 ∷ 0 ∷ 32 ∷ 0 ∷ 32 ∷ 0 ∷ 32 ∷ 0 ∷ 32 ∷ 0 ∷ 32 ∷ 1 ∷ 32 ∷ 1 ∷ 0 ∷ 0 ∷ 0 ∷ 0 ∷ 0 ∷ 0 ∷ 0 ∷ 0 ∷ 0 ∷ 0 ∷ 0 ∷ 1 ∷ 0 ∷ 0 ∷ 7 ∷ 0 ∷ []

unfoldable pub two-special : List ℕ
two-special = 1 ∷ 37 ∷ 0 ∷ 20 ∷ 1 ∷ 20 ∷ 0 ∷ 32 ∷ 0 ∷ 32 ∷ 0 ∷ 32 ∷ 0 ∷ 32 ∷ 0 ∷ 32 ∷ 0 ∷ 32 ∷ 1 ∷ 32 ∷ 1 ∷ 0 ∷ 0 ∷ 0 ∷ 0 ∷ 0 ∷ 0 ∷ 0 ∷ 0 ∷ 0 ∷ 0 ∷ 0 ∷ 1 ∷ 0 ∷ 0 ∷ 7 ∷ 0 ∷ 1 ∷ 49 ∷ 0 ∷ 20 ∷ 2 ∷ 20 ∷ 0 ∷ 44 ∷ 0 ∷ 44 ∷ 0 ∷ 44 ∷ 0 ∷ 44 ∷ 0 ∷ 44 ∷ 0 ∷ 44 ∷ 1 ∷ 44 ∷ 2 ∷ 13 ∷ 0 ∷ 0 ∷ 0 ∷ 0 ∷ 1 ∷ 0 ∷ 0 ∷ 0 ∷ 0 ∷ 0 ∷ 0 ∷ 0 ∷ 0 ∷ 0 ∷ 0 ∷ 2 ∷ 0 ∷ 0 ∷ 0 ∷ 0 ∷ 0 ∷ 0 ∷ 2 ∷ 0 ∷ 0 ∷ 7 ∷ 0 ∷ []

-- ---- P5, of which a is imported, and b, which it calls, first
unfoldable pub nested-steps : List ℕ
nested-steps = 0 ∷ 0 ∷ 276 ∷ 0 ∷ 9 ∷ 0 ∷ 0 ∷ 0 ∷ 13 ∷ 0 ∷ 400 ∷ 0 ∷ []

unfoldable pub nested_answers : List ℕ
nested_answers = 0 ∷ 0 ∷ 0 ∷ 0 ∷ 1 ∷ 0 ∷ 0 ∷ 224 ∷ 0 ∷ []

pub nested : does (bytes_of p5) nested-steps ≡ (0, nested_answers, (0, p5-called) ∷ [])
unfolding word_of words_of ◌⟫◌ Outcome-eat Outcome-map_o Outcome-exact Outcome-both Outcome-map_l Table-types Table-expressions Table-levels Table-queries Table-values Table-atomics Table-results Table-statements Table-name_row Table-type_row Table-constant_row Table-override_row Table-global_row Table-expression_row Table-function_head Table-entry_head Table-counted Table-limit Table-variants Table-repeat Table-text Table-variant Table-more Table-follow Table-run Tree-opt_of Tree-word_of Tree-kind_of Tree-size_b Tree-size_c Tree-flat_all Tree-flat_list Tree-flat_x Tree-flat_s Tree-flat_f Tree-flat_b Tree-flat_k Tree-flat_c Tree-flat_block Tree-flat Tree-flat_entry Tree-rows Tree-listed Tree-operands Tree-stmts Tree-case_at Tree-cases Tree-form Tree-checked Tree-shaped Tree-statement Tree-block_at Tree-function_at Tree-entry_at Module-next Module-records Module-table Module-special_at Module-count_at Module-offset_at Module-end_at Module-limits Module-placed Module-section Module-table_at ◌⊛◌ Module-read Module-places Module-flat_table Module-flat_special Module-sections Module-pairs_from Module-bodies Module-flat_module Module-write Module-sized Carry-carry_cell Carry-carry_opt Carry-carry_range Carry-carry_s Carry-carry_f Carry-carry_b Carry-carry_k Carry-carry_c Carry-carry_function Carry-carry_entry Carry-carry_special Carry-carry Operands-optional Operands-operand Operands-ops_of Operands-result_of Operands-function_of Operands-kind Operands-standing_kind Operands-result_kind Operands-emitted_kind Operands-constant_kind Operands-ops Operands-kind_at Operands-standing Lower-below Lower-bases_of Lower-types_lower Lower-operands_lower Lower-functions_lower Lower-entries_lower Lower-init_of Lower-inits_of Lower-inits_lower Lower-lower Names-field Names-present Names-absent Names-distinct Names-same Names-unlike Names-differ Names-expressions_named Names-functions_named Names-entries_named Names-function_names Names-entry_names Names-named Initial-inits_of Initial-roots Initial-marked Initial-mark Initial-unmarked Initial-read_by Initial-close Initial-reached_marks Initial-reached Initial-moving Initial-initials Initial-initial Initial-constant_at Initial-initialised Numbers-caps Numbers-bound Numbers-below Numbers-within Numbers-rising Numbers-ordered Numbers-every Numbers-outside Numbers-inside Numbers-sound Numbers-constant_only Numbers-numbered Scope-up_from Scope-in_range Scope-live Scope-expand_s Scope-expand_f Scope-expand Scope-expand_k Scope-expand_c Scope-shape_s Scope-shape_f Scope-shape_b Scope-shape_k Scope-shape_c Scope-emitted Scope-is_of Scope-call_result Scope-effect_result Scope-kinds_s Scope-kinds_f Scope-kinds_b Scope-kinds_k Scope-kinds_c Scope-evals_opt Scope-evals_s Scope-evals_f Scope-evals_b Scope-evals_k Scope-evals_c Scope-has Scope-distinct Scope-add_e Scope-add_opt Scope-add_f Scope-add_s Scope-top_b Scope-holds_s Scope-holds_f Scope-holds_b Scope-holds_k Scope-holds_c Scope-cont_b Scope-vis Scope-all_vis Scope-opt_vis Scope-ok_e Scope-ok_s Scope-ok_f Scope-ok_b Scope-ok_k Scope-ok_c Scope-all_of Scope-seen Scope-scoped_as Scope-scoped Scope-all_scoped Scope-entries_scoped Scope-in_scope Intake-tested Intake-verdict Intake-intake_of Intake-of_laid Intake-after_intake Intake-on_words Calls-numbers Calls-any Calls-keep Calls-free Calls-held Calls-round Calls-rounds Calls-answer Calls-order Callees-callees_s Callees-callees_f Callees-callees_b Callees-callees_k Callees-callees_c Callees-callees_at Callees-calls Callees-order_of Redirect-name_word Redirect-find Redirect-omitted Redirect-all_below Redirect-argument_types Redirect-agree Redirect-type_behind Redirect-result_type Redirect-same Redirect-redirecting Redirect-redirect_fn Redirect-redirect_entry Redirect-stays Redirect-redirect_fns Redirect-with_functions Redirect-with_entries Redirect-redirect Redirect-refusal Redirect-after Redirect-nothing Redirect-function Redirect-compared Redirect-with_replacement Redirect-with_original Redirect-redirect_function Tables-code_t Tables-is_t Tables-at Tables-upd Tables-six Tables-tables Tables-rec_at Tables-count Tables-map_at References-targets References-target References-ref_of References-refs References-fold_refs References-carry_w References-through References-undefined References-add References-span_by References-first_word References-undefined_at References-moved References-shift References-alike_c References-alike References-index_of References-interned Imports-unless_mapped Imports-intern Imports-mapped_to_t Imports-made Imports-commit Imports-step_t Imports-import_f Imports-levels Imports-import_t Imports-rename Imports-renamed Imports-unmapped Imports-emptied Imports-fresh Bodies-last_of Bodies-known Bodies-bring Bodies-compare_of Bodies-compares_of Bodies-each_e Bodies-opt_e Bodies-mapped_to Bodies-carried Bodies-step Bodies-append_expr Bodies-intern_expr Bodies-append_standing Bodies-import_e Bodies-import_body Bodies-import_initialiser Bodies-import_standing Bodies-import_stmt Bodies-import_form Bodies-import_block Bodies-import_case Bodies-import_cases Bodies-carried_form Bodies-rebuild_stmt Bodies-rebuild_form Bodies-rebuild_block Bodies-rebuild_case Bodies-rebuild_cases Bodies-put_name Bodies-name_if Bodies-keep_names Bodies-name_cells Bodies-named_rows Bodies-declarations Bodies-declared Bodies-walked Bodies-rebuilt Bodies-kept_names Bodies-named_after Bodies-derived Bodies-final Bodies-localized Bodies-appended Bodies-append Bodies-follow_f Bodies-follow Bodies-entered Bodies-entry_made Bodies-enter_all Bodies-entries_made Special-force Special-with_special Special-put_ray Special-ray_to Special-ray Special-rays Special-keyed Special-put_pair Special-pair_to Special-pairs Special-sourced Finish-names_in Finish-keep_n Finish-firsts Finish-index_n Finish-appearing Finish-renumber Finish-with_names Finish-named_by Finish-gathered Finish-finished Finish-passes Finish-too_large Session-after Session-new Session-with_source Session-unless_full Session-unknown Session-stuck Session-meets_ring Session-set_module Session-set Session-clear Session-map_span Session-importing Session-rename_type Session-import_function Session-map_function_handle Session-any_ray Session-has_required_special_types Session-write_if_fits Session-finish Session-callees_of Session-with_entries Session-finish_with_entry_points Link-append_all Link-link_by Link-in_order Link-link_module Link-link Link-output_after Link-link_image Steps-operations Steps-part Steps-says Steps-writes Steps-bit Steps-perform Steps-run Steps-answers_of Steps-output_of Steps-first_refused Steps-session bytes_of wrote does nested-steps nested_answers p5 p5-called
nested = refl

-- ---- the same, and a function 7 where no source is set, and a function 3 of P5
unfoldable pub refused_steps : List ℕ
refused_steps = 9 ∷ 7 ∷ 0 ∷ 0 ∷ 0 ∷ 0 ∷ 276 ∷ 0 ∷ 9 ∷ 3 ∷ 0 ∷ 0 ∷ 9 ∷ 0 ∷ 0 ∷ 0 ∷ 13 ∷ 0 ∷ 400 ∷ 0 ∷ []

unfoldable pub refused_answers : List ℕ
refused_answers = 20 ∷ 0 ∷ 0 ∷ 0 ∷ 0 ∷ 0 ∷ 13 ∷ 0 ∷ 0 ∷ 0 ∷ 1 ∷ 0 ∷ 0 ∷ 224 ∷ 0 ∷ []

pub refused : does (bytes_of p5) refused_steps ≡ (20, refused_answers, (0, p5-called) ∷ [])
unfolding word_of words_of ◌⟫◌ Outcome-eat Outcome-map_o Outcome-exact Outcome-both Outcome-map_l Table-types Table-expressions Table-levels Table-queries Table-values Table-atomics Table-results Table-statements Table-name_row Table-type_row Table-constant_row Table-override_row Table-global_row Table-expression_row Table-function_head Table-entry_head Table-counted Table-limit Table-variants Table-repeat Table-text Table-variant Table-more Table-follow Table-run Tree-opt_of Tree-word_of Tree-kind_of Tree-size_b Tree-size_c Tree-flat_all Tree-flat_list Tree-flat_x Tree-flat_s Tree-flat_f Tree-flat_b Tree-flat_k Tree-flat_c Tree-flat_block Tree-flat Tree-flat_entry Tree-rows Tree-listed Tree-operands Tree-stmts Tree-case_at Tree-cases Tree-form Tree-checked Tree-shaped Tree-statement Tree-block_at Tree-function_at Tree-entry_at Module-next Module-records Module-table Module-special_at Module-count_at Module-offset_at Module-end_at Module-limits Module-placed Module-section Module-table_at ◌⊛◌ Module-read Module-places Module-flat_table Module-flat_special Module-sections Module-pairs_from Module-bodies Module-flat_module Module-write Module-sized Carry-carry_cell Carry-carry_opt Carry-carry_range Carry-carry_s Carry-carry_f Carry-carry_b Carry-carry_k Carry-carry_c Carry-carry_function Carry-carry_entry Carry-carry_special Carry-carry Operands-optional Operands-operand Operands-ops_of Operands-result_of Operands-function_of Operands-kind Operands-standing_kind Operands-result_kind Operands-emitted_kind Operands-constant_kind Operands-ops Operands-kind_at Operands-standing Lower-below Lower-bases_of Lower-types_lower Lower-operands_lower Lower-functions_lower Lower-entries_lower Lower-init_of Lower-inits_of Lower-inits_lower Lower-lower Names-field Names-present Names-absent Names-distinct Names-same Names-unlike Names-differ Names-expressions_named Names-functions_named Names-entries_named Names-function_names Names-entry_names Names-named Initial-inits_of Initial-roots Initial-marked Initial-mark Initial-unmarked Initial-read_by Initial-close Initial-reached_marks Initial-reached Initial-moving Initial-initials Initial-initial Initial-constant_at Initial-initialised Numbers-caps Numbers-bound Numbers-below Numbers-within Numbers-rising Numbers-ordered Numbers-every Numbers-outside Numbers-inside Numbers-sound Numbers-constant_only Numbers-numbered Scope-up_from Scope-in_range Scope-live Scope-expand_s Scope-expand_f Scope-expand Scope-expand_k Scope-expand_c Scope-shape_s Scope-shape_f Scope-shape_b Scope-shape_k Scope-shape_c Scope-emitted Scope-is_of Scope-call_result Scope-effect_result Scope-kinds_s Scope-kinds_f Scope-kinds_b Scope-kinds_k Scope-kinds_c Scope-evals_opt Scope-evals_s Scope-evals_f Scope-evals_b Scope-evals_k Scope-evals_c Scope-has Scope-distinct Scope-add_e Scope-add_opt Scope-add_f Scope-add_s Scope-top_b Scope-holds_s Scope-holds_f Scope-holds_b Scope-holds_k Scope-holds_c Scope-cont_b Scope-vis Scope-all_vis Scope-opt_vis Scope-ok_e Scope-ok_s Scope-ok_f Scope-ok_b Scope-ok_k Scope-ok_c Scope-all_of Scope-seen Scope-scoped_as Scope-scoped Scope-all_scoped Scope-entries_scoped Scope-in_scope Intake-tested Intake-verdict Intake-intake_of Intake-of_laid Intake-after_intake Intake-on_words Calls-numbers Calls-any Calls-keep Calls-free Calls-held Calls-round Calls-rounds Calls-answer Calls-order Callees-callees_s Callees-callees_f Callees-callees_b Callees-callees_k Callees-callees_c Callees-callees_at Callees-calls Callees-order_of Redirect-name_word Redirect-find Redirect-omitted Redirect-all_below Redirect-argument_types Redirect-agree Redirect-type_behind Redirect-result_type Redirect-same Redirect-redirecting Redirect-redirect_fn Redirect-redirect_entry Redirect-stays Redirect-redirect_fns Redirect-with_functions Redirect-with_entries Redirect-redirect Redirect-refusal Redirect-after Redirect-nothing Redirect-function Redirect-compared Redirect-with_replacement Redirect-with_original Redirect-redirect_function Tables-code_t Tables-is_t Tables-at Tables-upd Tables-six Tables-tables Tables-rec_at Tables-count Tables-map_at References-targets References-target References-ref_of References-refs References-fold_refs References-carry_w References-through References-undefined References-add References-span_by References-first_word References-undefined_at References-moved References-shift References-alike_c References-alike References-index_of References-interned Imports-unless_mapped Imports-intern Imports-mapped_to_t Imports-made Imports-commit Imports-step_t Imports-import_f Imports-levels Imports-import_t Imports-rename Imports-renamed Imports-unmapped Imports-emptied Imports-fresh Bodies-last_of Bodies-known Bodies-bring Bodies-compare_of Bodies-compares_of Bodies-each_e Bodies-opt_e Bodies-mapped_to Bodies-carried Bodies-step Bodies-append_expr Bodies-intern_expr Bodies-append_standing Bodies-import_e Bodies-import_body Bodies-import_initialiser Bodies-import_standing Bodies-import_stmt Bodies-import_form Bodies-import_block Bodies-import_case Bodies-import_cases Bodies-carried_form Bodies-rebuild_stmt Bodies-rebuild_form Bodies-rebuild_block Bodies-rebuild_case Bodies-rebuild_cases Bodies-put_name Bodies-name_if Bodies-keep_names Bodies-name_cells Bodies-named_rows Bodies-declarations Bodies-declared Bodies-walked Bodies-rebuilt Bodies-kept_names Bodies-named_after Bodies-derived Bodies-final Bodies-localized Bodies-appended Bodies-append Bodies-follow_f Bodies-follow Bodies-entered Bodies-entry_made Bodies-enter_all Bodies-entries_made Special-force Special-with_special Special-put_ray Special-ray_to Special-ray Special-rays Special-keyed Special-put_pair Special-pair_to Special-pairs Special-sourced Finish-names_in Finish-keep_n Finish-firsts Finish-index_n Finish-appearing Finish-renumber Finish-with_names Finish-named_by Finish-gathered Finish-finished Finish-passes Finish-too_large Session-after Session-new Session-with_source Session-unless_full Session-unknown Session-stuck Session-meets_ring Session-set_module Session-set Session-clear Session-map_span Session-importing Session-rename_type Session-import_function Session-map_function_handle Session-any_ray Session-has_required_special_types Session-write_if_fits Session-finish Session-callees_of Session-with_entries Session-finish_with_entry_points Link-append_all Link-link_by Link-in_order Link-link_module Link-link Link-output_after Link-link_image Steps-operations Steps-part Steps-says Steps-writes Steps-bit Steps-perform Steps-run Steps-answers_of Steps-output_of Steps-first_refused Steps-session bytes_of wrote does refused_steps refused_answers p5 p5-called
refused = refl

-- ---- P5, of which b is imported, and then a, which calls it
unfoldable pub known-steps : List ℕ
known-steps = 0 ∷ 0 ∷ 276 ∷ 0 ∷ 9 ∷ 1 ∷ 0 ∷ 0 ∷ 9 ∷ 0 ∷ 0 ∷ 0 ∷ 13 ∷ 0 ∷ 400 ∷ 0 ∷ []

unfoldable pub known_answers : List ℕ
known_answers = 0 ∷ 0 ∷ 0 ∷ 0 ∷ 0 ∷ 0 ∷ 0 ∷ 1 ∷ 0 ∷ 0 ∷ 224 ∷ 0 ∷ []

pub known : does (bytes_of p5) known-steps ≡ (0, known_answers, (0, p5-called) ∷ [])
unfolding word_of words_of ◌⟫◌ Outcome-eat Outcome-map_o Outcome-exact Outcome-both Outcome-map_l Table-types Table-expressions Table-levels Table-queries Table-values Table-atomics Table-results Table-statements Table-name_row Table-type_row Table-constant_row Table-override_row Table-global_row Table-expression_row Table-function_head Table-entry_head Table-counted Table-limit Table-variants Table-repeat Table-text Table-variant Table-more Table-follow Table-run Tree-opt_of Tree-word_of Tree-kind_of Tree-size_b Tree-size_c Tree-flat_all Tree-flat_list Tree-flat_x Tree-flat_s Tree-flat_f Tree-flat_b Tree-flat_k Tree-flat_c Tree-flat_block Tree-flat Tree-flat_entry Tree-rows Tree-listed Tree-operands Tree-stmts Tree-case_at Tree-cases Tree-form Tree-checked Tree-shaped Tree-statement Tree-block_at Tree-function_at Tree-entry_at Module-next Module-records Module-table Module-special_at Module-count_at Module-offset_at Module-end_at Module-limits Module-placed Module-section Module-table_at ◌⊛◌ Module-read Module-places Module-flat_table Module-flat_special Module-sections Module-pairs_from Module-bodies Module-flat_module Module-write Module-sized Carry-carry_cell Carry-carry_opt Carry-carry_range Carry-carry_s Carry-carry_f Carry-carry_b Carry-carry_k Carry-carry_c Carry-carry_function Carry-carry_entry Carry-carry_special Carry-carry Operands-optional Operands-operand Operands-ops_of Operands-result_of Operands-function_of Operands-kind Operands-standing_kind Operands-result_kind Operands-emitted_kind Operands-constant_kind Operands-ops Operands-kind_at Operands-standing Lower-below Lower-bases_of Lower-types_lower Lower-operands_lower Lower-functions_lower Lower-entries_lower Lower-init_of Lower-inits_of Lower-inits_lower Lower-lower Names-field Names-present Names-absent Names-distinct Names-same Names-unlike Names-differ Names-expressions_named Names-functions_named Names-entries_named Names-function_names Names-entry_names Names-named Initial-inits_of Initial-roots Initial-marked Initial-mark Initial-unmarked Initial-read_by Initial-close Initial-reached_marks Initial-reached Initial-moving Initial-initials Initial-initial Initial-constant_at Initial-initialised Numbers-caps Numbers-bound Numbers-below Numbers-within Numbers-rising Numbers-ordered Numbers-every Numbers-outside Numbers-inside Numbers-sound Numbers-constant_only Numbers-numbered Scope-up_from Scope-in_range Scope-live Scope-expand_s Scope-expand_f Scope-expand Scope-expand_k Scope-expand_c Scope-shape_s Scope-shape_f Scope-shape_b Scope-shape_k Scope-shape_c Scope-emitted Scope-is_of Scope-call_result Scope-effect_result Scope-kinds_s Scope-kinds_f Scope-kinds_b Scope-kinds_k Scope-kinds_c Scope-evals_opt Scope-evals_s Scope-evals_f Scope-evals_b Scope-evals_k Scope-evals_c Scope-has Scope-distinct Scope-add_e Scope-add_opt Scope-add_f Scope-add_s Scope-top_b Scope-holds_s Scope-holds_f Scope-holds_b Scope-holds_k Scope-holds_c Scope-cont_b Scope-vis Scope-all_vis Scope-opt_vis Scope-ok_e Scope-ok_s Scope-ok_f Scope-ok_b Scope-ok_k Scope-ok_c Scope-all_of Scope-seen Scope-scoped_as Scope-scoped Scope-all_scoped Scope-entries_scoped Scope-in_scope Intake-tested Intake-verdict Intake-intake_of Intake-of_laid Intake-after_intake Intake-on_words Calls-numbers Calls-any Calls-keep Calls-free Calls-held Calls-round Calls-rounds Calls-answer Calls-order Callees-callees_s Callees-callees_f Callees-callees_b Callees-callees_k Callees-callees_c Callees-callees_at Callees-calls Callees-order_of Redirect-name_word Redirect-find Redirect-omitted Redirect-all_below Redirect-argument_types Redirect-agree Redirect-type_behind Redirect-result_type Redirect-same Redirect-redirecting Redirect-redirect_fn Redirect-redirect_entry Redirect-stays Redirect-redirect_fns Redirect-with_functions Redirect-with_entries Redirect-redirect Redirect-refusal Redirect-after Redirect-nothing Redirect-function Redirect-compared Redirect-with_replacement Redirect-with_original Redirect-redirect_function Tables-code_t Tables-is_t Tables-at Tables-upd Tables-six Tables-tables Tables-rec_at Tables-count Tables-map_at References-targets References-target References-ref_of References-refs References-fold_refs References-carry_w References-through References-undefined References-add References-span_by References-first_word References-undefined_at References-moved References-shift References-alike_c References-alike References-index_of References-interned Imports-unless_mapped Imports-intern Imports-mapped_to_t Imports-made Imports-commit Imports-step_t Imports-import_f Imports-levels Imports-import_t Imports-rename Imports-renamed Imports-unmapped Imports-emptied Imports-fresh Bodies-last_of Bodies-known Bodies-bring Bodies-compare_of Bodies-compares_of Bodies-each_e Bodies-opt_e Bodies-mapped_to Bodies-carried Bodies-step Bodies-append_expr Bodies-intern_expr Bodies-append_standing Bodies-import_e Bodies-import_body Bodies-import_initialiser Bodies-import_standing Bodies-import_stmt Bodies-import_form Bodies-import_block Bodies-import_case Bodies-import_cases Bodies-carried_form Bodies-rebuild_stmt Bodies-rebuild_form Bodies-rebuild_block Bodies-rebuild_case Bodies-rebuild_cases Bodies-put_name Bodies-name_if Bodies-keep_names Bodies-name_cells Bodies-named_rows Bodies-declarations Bodies-declared Bodies-walked Bodies-rebuilt Bodies-kept_names Bodies-named_after Bodies-derived Bodies-final Bodies-localized Bodies-appended Bodies-append Bodies-follow_f Bodies-follow Bodies-entered Bodies-entry_made Bodies-enter_all Bodies-entries_made Special-force Special-with_special Special-put_ray Special-ray_to Special-ray Special-rays Special-keyed Special-put_pair Special-pair_to Special-pairs Special-sourced Finish-names_in Finish-keep_n Finish-firsts Finish-index_n Finish-appearing Finish-renumber Finish-with_names Finish-named_by Finish-gathered Finish-finished Finish-passes Finish-too_large Session-after Session-new Session-with_source Session-unless_full Session-unknown Session-stuck Session-meets_ring Session-set_module Session-set Session-clear Session-map_span Session-importing Session-rename_type Session-import_function Session-map_function_handle Session-any_ray Session-has_required_special_types Session-write_if_fits Session-finish Session-callees_of Session-with_entries Session-finish_with_entry_points Link-append_all Link-link_by Link-in_order Link-link_module Link-link Link-output_after Link-link_image Steps-operations Steps-part Steps-says Steps-writes Steps-bit Steps-perform Steps-run Steps-answers_of Steps-output_of Steps-first_refused Steps-session bytes_of wrote does known-steps known_answers p5 p5-called
known = refl

-- ---- P5, finished with its entry points, of which it has none; and then an import
unfoldable pub ended_steps : List ℕ
ended_steps = 0 ∷ 0 ∷ 276 ∷ 0 ∷ 14 ∷ 0 ∷ 400 ∷ 0 ∷ 9 ∷ 0 ∷ 0 ∷ 0 ∷ []

unfoldable pub ended_answers : List ℕ
ended_answers = 0 ∷ 0 ∷ 0 ∷ 0 ∷ 92 ∷ 0 ∷ 20 ∷ 0 ∷ 0 ∷ []

pub ended : does (bytes_of p5) ended_steps ≡ (8589934612, ended_answers, (0, nothing) ∷ [])
unfolding word_of words_of ◌⟫◌ Outcome-eat Outcome-map_o Outcome-exact Outcome-both Outcome-map_l Table-types Table-expressions Table-levels Table-queries Table-values Table-atomics Table-results Table-statements Table-name_row Table-type_row Table-constant_row Table-override_row Table-global_row Table-expression_row Table-function_head Table-entry_head Table-counted Table-limit Table-variants Table-repeat Table-text Table-variant Table-more Table-follow Table-run Tree-opt_of Tree-word_of Tree-kind_of Tree-size_b Tree-size_c Tree-flat_all Tree-flat_list Tree-flat_x Tree-flat_s Tree-flat_f Tree-flat_b Tree-flat_k Tree-flat_c Tree-flat_block Tree-flat Tree-flat_entry Tree-rows Tree-listed Tree-operands Tree-stmts Tree-case_at Tree-cases Tree-form Tree-checked Tree-shaped Tree-statement Tree-block_at Tree-function_at Tree-entry_at Module-next Module-records Module-table Module-special_at Module-count_at Module-offset_at Module-end_at Module-limits Module-placed Module-section Module-table_at ◌⊛◌ Module-read Module-places Module-flat_table Module-flat_special Module-sections Module-pairs_from Module-bodies Module-flat_module Module-write Module-sized Carry-carry_cell Carry-carry_opt Carry-carry_range Carry-carry_s Carry-carry_f Carry-carry_b Carry-carry_k Carry-carry_c Carry-carry_function Carry-carry_entry Carry-carry_special Carry-carry Operands-optional Operands-operand Operands-ops_of Operands-result_of Operands-function_of Operands-kind Operands-standing_kind Operands-result_kind Operands-emitted_kind Operands-constant_kind Operands-ops Operands-kind_at Operands-standing Lower-below Lower-bases_of Lower-types_lower Lower-operands_lower Lower-functions_lower Lower-entries_lower Lower-init_of Lower-inits_of Lower-inits_lower Lower-lower Names-field Names-present Names-absent Names-distinct Names-same Names-unlike Names-differ Names-expressions_named Names-functions_named Names-entries_named Names-function_names Names-entry_names Names-named Initial-inits_of Initial-roots Initial-marked Initial-mark Initial-unmarked Initial-read_by Initial-close Initial-reached_marks Initial-reached Initial-moving Initial-initials Initial-initial Initial-constant_at Initial-initialised Numbers-caps Numbers-bound Numbers-below Numbers-within Numbers-rising Numbers-ordered Numbers-every Numbers-outside Numbers-inside Numbers-sound Numbers-constant_only Numbers-numbered Scope-up_from Scope-in_range Scope-live Scope-expand_s Scope-expand_f Scope-expand Scope-expand_k Scope-expand_c Scope-shape_s Scope-shape_f Scope-shape_b Scope-shape_k Scope-shape_c Scope-emitted Scope-is_of Scope-call_result Scope-effect_result Scope-kinds_s Scope-kinds_f Scope-kinds_b Scope-kinds_k Scope-kinds_c Scope-evals_opt Scope-evals_s Scope-evals_f Scope-evals_b Scope-evals_k Scope-evals_c Scope-has Scope-distinct Scope-add_e Scope-add_opt Scope-add_f Scope-add_s Scope-top_b Scope-holds_s Scope-holds_f Scope-holds_b Scope-holds_k Scope-holds_c Scope-cont_b Scope-vis Scope-all_vis Scope-opt_vis Scope-ok_e Scope-ok_s Scope-ok_f Scope-ok_b Scope-ok_k Scope-ok_c Scope-all_of Scope-seen Scope-scoped_as Scope-scoped Scope-all_scoped Scope-entries_scoped Scope-in_scope Intake-tested Intake-verdict Intake-intake_of Intake-of_laid Intake-after_intake Intake-on_words Calls-numbers Calls-any Calls-keep Calls-free Calls-held Calls-round Calls-rounds Calls-answer Calls-order Callees-callees_s Callees-callees_f Callees-callees_b Callees-callees_k Callees-callees_c Callees-callees_at Callees-calls Callees-order_of Redirect-name_word Redirect-find Redirect-omitted Redirect-all_below Redirect-argument_types Redirect-agree Redirect-type_behind Redirect-result_type Redirect-same Redirect-redirecting Redirect-redirect_fn Redirect-redirect_entry Redirect-stays Redirect-redirect_fns Redirect-with_functions Redirect-with_entries Redirect-redirect Redirect-refusal Redirect-after Redirect-nothing Redirect-function Redirect-compared Redirect-with_replacement Redirect-with_original Redirect-redirect_function Tables-code_t Tables-is_t Tables-at Tables-upd Tables-six Tables-tables Tables-rec_at Tables-count Tables-map_at References-targets References-target References-ref_of References-refs References-fold_refs References-carry_w References-through References-undefined References-add References-span_by References-first_word References-undefined_at References-moved References-shift References-alike_c References-alike References-index_of References-interned Imports-unless_mapped Imports-intern Imports-mapped_to_t Imports-made Imports-commit Imports-step_t Imports-import_f Imports-levels Imports-import_t Imports-rename Imports-renamed Imports-unmapped Imports-emptied Imports-fresh Bodies-last_of Bodies-known Bodies-bring Bodies-compare_of Bodies-compares_of Bodies-each_e Bodies-opt_e Bodies-mapped_to Bodies-carried Bodies-step Bodies-append_expr Bodies-intern_expr Bodies-append_standing Bodies-import_e Bodies-import_body Bodies-import_initialiser Bodies-import_standing Bodies-import_stmt Bodies-import_form Bodies-import_block Bodies-import_case Bodies-import_cases Bodies-carried_form Bodies-rebuild_stmt Bodies-rebuild_form Bodies-rebuild_block Bodies-rebuild_case Bodies-rebuild_cases Bodies-put_name Bodies-name_if Bodies-keep_names Bodies-name_cells Bodies-named_rows Bodies-declarations Bodies-declared Bodies-walked Bodies-rebuilt Bodies-kept_names Bodies-named_after Bodies-derived Bodies-final Bodies-localized Bodies-appended Bodies-append Bodies-follow_f Bodies-follow Bodies-entered Bodies-entry_made Bodies-enter_all Bodies-entries_made Special-force Special-with_special Special-put_ray Special-ray_to Special-ray Special-rays Special-keyed Special-put_pair Special-pair_to Special-pairs Special-sourced Finish-names_in Finish-keep_n Finish-firsts Finish-index_n Finish-appearing Finish-renumber Finish-with_names Finish-named_by Finish-gathered Finish-finished Finish-passes Finish-too_large Session-after Session-new Session-with_source Session-unless_full Session-unknown Session-stuck Session-meets_ring Session-set_module Session-set Session-clear Session-map_span Session-importing Session-rename_type Session-import_function Session-map_function_handle Session-any_ray Session-has_required_special_types Session-write_if_fits Session-finish Session-callees_of Session-with_entries Session-finish_with_entry_points Link-append_all Link-link_by Link-in_order Link-link_module Link-link Link-output_after Link-link_image Steps-operations Steps-part Steps-says Steps-writes Steps-bit Steps-perform Steps-run Steps-answers_of Steps-output_of Steps-first_refused Steps-session bytes_of wrote does ended_steps ended_answers p5 nothing
ended = refl

-- ---- P10, with an offset: all its spans are undefined
unfoldable pub passed-steps : List ℕ
passed-steps = 0 ∷ 0 ∷ 336 ∷ 10 ∷ 9 ∷ 0 ∷ 0 ∷ 0 ∷ 13 ∷ 0 ∷ 400 ∷ 0 ∷ []

unfoldable pub passed_answers : List ℕ
passed_answers = 0 ∷ 0 ∷ 0 ∷ 0 ∷ 0 ∷ 0 ∷ 0 ∷ 288 ∷ 0 ∷ []

pub passed : does (bytes_of p10) passed-steps ≡ (0, passed_answers, (0, p10-passed) ∷ [])
unfolding word_of words_of ◌⟫◌ Outcome-eat Outcome-map_o Outcome-exact Outcome-both Outcome-map_l Table-types Table-expressions Table-levels Table-queries Table-values Table-atomics Table-results Table-statements Table-name_row Table-type_row Table-constant_row Table-override_row Table-global_row Table-expression_row Table-function_head Table-entry_head Table-counted Table-limit Table-variants Table-repeat Table-text Table-variant Table-more Table-follow Table-run Tree-opt_of Tree-word_of Tree-kind_of Tree-size_b Tree-size_c Tree-flat_all Tree-flat_list Tree-flat_x Tree-flat_s Tree-flat_f Tree-flat_b Tree-flat_k Tree-flat_c Tree-flat_block Tree-flat Tree-flat_entry Tree-rows Tree-listed Tree-operands Tree-stmts Tree-case_at Tree-cases Tree-form Tree-checked Tree-shaped Tree-statement Tree-block_at Tree-function_at Tree-entry_at Module-next Module-records Module-table Module-special_at Module-count_at Module-offset_at Module-end_at Module-limits Module-placed Module-section Module-table_at ◌⊛◌ Module-read Module-places Module-flat_table Module-flat_special Module-sections Module-pairs_from Module-bodies Module-flat_module Module-write Module-sized Carry-carry_cell Carry-carry_opt Carry-carry_range Carry-carry_s Carry-carry_f Carry-carry_b Carry-carry_k Carry-carry_c Carry-carry_function Carry-carry_entry Carry-carry_special Carry-carry Operands-optional Operands-operand Operands-ops_of Operands-result_of Operands-function_of Operands-kind Operands-standing_kind Operands-result_kind Operands-emitted_kind Operands-constant_kind Operands-ops Operands-kind_at Operands-standing Lower-below Lower-bases_of Lower-types_lower Lower-operands_lower Lower-functions_lower Lower-entries_lower Lower-init_of Lower-inits_of Lower-inits_lower Lower-lower Names-field Names-present Names-absent Names-distinct Names-same Names-unlike Names-differ Names-expressions_named Names-functions_named Names-entries_named Names-function_names Names-entry_names Names-named Initial-inits_of Initial-roots Initial-marked Initial-mark Initial-unmarked Initial-read_by Initial-close Initial-reached_marks Initial-reached Initial-moving Initial-initials Initial-initial Initial-constant_at Initial-initialised Numbers-caps Numbers-bound Numbers-below Numbers-within Numbers-rising Numbers-ordered Numbers-every Numbers-outside Numbers-inside Numbers-sound Numbers-constant_only Numbers-numbered Scope-up_from Scope-in_range Scope-live Scope-expand_s Scope-expand_f Scope-expand Scope-expand_k Scope-expand_c Scope-shape_s Scope-shape_f Scope-shape_b Scope-shape_k Scope-shape_c Scope-emitted Scope-is_of Scope-call_result Scope-effect_result Scope-kinds_s Scope-kinds_f Scope-kinds_b Scope-kinds_k Scope-kinds_c Scope-evals_opt Scope-evals_s Scope-evals_f Scope-evals_b Scope-evals_k Scope-evals_c Scope-has Scope-distinct Scope-add_e Scope-add_opt Scope-add_f Scope-add_s Scope-top_b Scope-holds_s Scope-holds_f Scope-holds_b Scope-holds_k Scope-holds_c Scope-cont_b Scope-vis Scope-all_vis Scope-opt_vis Scope-ok_e Scope-ok_s Scope-ok_f Scope-ok_b Scope-ok_k Scope-ok_c Scope-all_of Scope-seen Scope-scoped_as Scope-scoped Scope-all_scoped Scope-entries_scoped Scope-in_scope Intake-tested Intake-verdict Intake-intake_of Intake-of_laid Intake-after_intake Intake-on_words Calls-numbers Calls-any Calls-keep Calls-free Calls-held Calls-round Calls-rounds Calls-answer Calls-order Callees-callees_s Callees-callees_f Callees-callees_b Callees-callees_k Callees-callees_c Callees-callees_at Callees-calls Callees-order_of Redirect-name_word Redirect-find Redirect-omitted Redirect-all_below Redirect-argument_types Redirect-agree Redirect-type_behind Redirect-result_type Redirect-same Redirect-redirecting Redirect-redirect_fn Redirect-redirect_entry Redirect-stays Redirect-redirect_fns Redirect-with_functions Redirect-with_entries Redirect-redirect Redirect-refusal Redirect-after Redirect-nothing Redirect-function Redirect-compared Redirect-with_replacement Redirect-with_original Redirect-redirect_function Tables-code_t Tables-is_t Tables-at Tables-upd Tables-six Tables-tables Tables-rec_at Tables-count Tables-map_at References-targets References-target References-ref_of References-refs References-fold_refs References-carry_w References-through References-undefined References-add References-span_by References-first_word References-undefined_at References-moved References-shift References-alike_c References-alike References-index_of References-interned Imports-unless_mapped Imports-intern Imports-mapped_to_t Imports-made Imports-commit Imports-step_t Imports-import_f Imports-levels Imports-import_t Imports-rename Imports-renamed Imports-unmapped Imports-emptied Imports-fresh Bodies-last_of Bodies-known Bodies-bring Bodies-compare_of Bodies-compares_of Bodies-each_e Bodies-opt_e Bodies-mapped_to Bodies-carried Bodies-step Bodies-append_expr Bodies-intern_expr Bodies-append_standing Bodies-import_e Bodies-import_body Bodies-import_initialiser Bodies-import_standing Bodies-import_stmt Bodies-import_form Bodies-import_block Bodies-import_case Bodies-import_cases Bodies-carried_form Bodies-rebuild_stmt Bodies-rebuild_form Bodies-rebuild_block Bodies-rebuild_case Bodies-rebuild_cases Bodies-put_name Bodies-name_if Bodies-keep_names Bodies-name_cells Bodies-named_rows Bodies-declarations Bodies-declared Bodies-walked Bodies-rebuilt Bodies-kept_names Bodies-named_after Bodies-derived Bodies-final Bodies-localized Bodies-appended Bodies-append Bodies-follow_f Bodies-follow Bodies-entered Bodies-entry_made Bodies-enter_all Bodies-entries_made Special-force Special-with_special Special-put_ray Special-ray_to Special-ray Special-rays Special-keyed Special-put_pair Special-pair_to Special-pairs Special-sourced Finish-names_in Finish-keep_n Finish-firsts Finish-index_n Finish-appearing Finish-renumber Finish-with_names Finish-named_by Finish-gathered Finish-finished Finish-passes Finish-too_large Session-after Session-new Session-with_source Session-unless_full Session-unknown Session-stuck Session-meets_ring Session-set_module Session-set Session-clear Session-map_span Session-importing Session-rename_type Session-import_function Session-map_function_handle Session-any_ray Session-has_required_special_types Session-write_if_fits Session-finish Session-callees_of Session-with_entries Session-finish_with_entry_points Link-append_all Link-link_by Link-in_order Link-link_module Link-link Link-output_after Link-link_image Steps-operations Steps-part Steps-says Steps-writes Steps-bit Steps-perform Steps-run Steps-answers_of Steps-output_of Steps-first_refused Steps-session bytes_of wrote does passed-steps passed_answers p10 p10-passed
passed = refl

-- ---- P11
unfoldable pub emitted-steps : List ℕ
emitted-steps = 0 ∷ 0 ∷ 280 ∷ 0 ∷ 9 ∷ 0 ∷ 0 ∷ 0 ∷ 13 ∷ 0 ∷ 400 ∷ 0 ∷ []

unfoldable pub emitted_answers : List ℕ
emitted_answers = 0 ∷ 0 ∷ 0 ∷ 0 ∷ 0 ∷ 0 ∷ 0 ∷ 280 ∷ 0 ∷ []

pub emitted : does (bytes_of p11) emitted-steps ≡ (0, emitted_answers, (0, p11-emitted) ∷ [])
unfolding word_of words_of ◌⟫◌ Outcome-eat Outcome-map_o Outcome-exact Outcome-both Outcome-map_l Table-types Table-expressions Table-levels Table-queries Table-values Table-atomics Table-results Table-statements Table-name_row Table-type_row Table-constant_row Table-override_row Table-global_row Table-expression_row Table-function_head Table-entry_head Table-counted Table-limit Table-variants Table-repeat Table-text Table-variant Table-more Table-follow Table-run Tree-opt_of Tree-word_of Tree-kind_of Tree-size_b Tree-size_c Tree-flat_all Tree-flat_list Tree-flat_x Tree-flat_s Tree-flat_f Tree-flat_b Tree-flat_k Tree-flat_c Tree-flat_block Tree-flat Tree-flat_entry Tree-rows Tree-listed Tree-operands Tree-stmts Tree-case_at Tree-cases Tree-form Tree-checked Tree-shaped Tree-statement Tree-block_at Tree-function_at Tree-entry_at Module-next Module-records Module-table Module-special_at Module-count_at Module-offset_at Module-end_at Module-limits Module-placed Module-section Module-table_at ◌⊛◌ Module-read Module-places Module-flat_table Module-flat_special Module-sections Module-pairs_from Module-bodies Module-flat_module Module-write Module-sized Carry-carry_cell Carry-carry_opt Carry-carry_range Carry-carry_s Carry-carry_f Carry-carry_b Carry-carry_k Carry-carry_c Carry-carry_function Carry-carry_entry Carry-carry_special Carry-carry Operands-optional Operands-operand Operands-ops_of Operands-result_of Operands-function_of Operands-kind Operands-standing_kind Operands-result_kind Operands-emitted_kind Operands-constant_kind Operands-ops Operands-kind_at Operands-standing Lower-below Lower-bases_of Lower-types_lower Lower-operands_lower Lower-functions_lower Lower-entries_lower Lower-init_of Lower-inits_of Lower-inits_lower Lower-lower Names-field Names-present Names-absent Names-distinct Names-same Names-unlike Names-differ Names-expressions_named Names-functions_named Names-entries_named Names-function_names Names-entry_names Names-named Initial-inits_of Initial-roots Initial-marked Initial-mark Initial-unmarked Initial-read_by Initial-close Initial-reached_marks Initial-reached Initial-moving Initial-initials Initial-initial Initial-constant_at Initial-initialised Numbers-caps Numbers-bound Numbers-below Numbers-within Numbers-rising Numbers-ordered Numbers-every Numbers-outside Numbers-inside Numbers-sound Numbers-constant_only Numbers-numbered Scope-up_from Scope-in_range Scope-live Scope-expand_s Scope-expand_f Scope-expand Scope-expand_k Scope-expand_c Scope-shape_s Scope-shape_f Scope-shape_b Scope-shape_k Scope-shape_c Scope-emitted Scope-is_of Scope-call_result Scope-effect_result Scope-kinds_s Scope-kinds_f Scope-kinds_b Scope-kinds_k Scope-kinds_c Scope-evals_opt Scope-evals_s Scope-evals_f Scope-evals_b Scope-evals_k Scope-evals_c Scope-has Scope-distinct Scope-add_e Scope-add_opt Scope-add_f Scope-add_s Scope-top_b Scope-holds_s Scope-holds_f Scope-holds_b Scope-holds_k Scope-holds_c Scope-cont_b Scope-vis Scope-all_vis Scope-opt_vis Scope-ok_e Scope-ok_s Scope-ok_f Scope-ok_b Scope-ok_k Scope-ok_c Scope-all_of Scope-seen Scope-scoped_as Scope-scoped Scope-all_scoped Scope-entries_scoped Scope-in_scope Intake-tested Intake-verdict Intake-intake_of Intake-of_laid Intake-after_intake Intake-on_words Calls-numbers Calls-any Calls-keep Calls-free Calls-held Calls-round Calls-rounds Calls-answer Calls-order Callees-callees_s Callees-callees_f Callees-callees_b Callees-callees_k Callees-callees_c Callees-callees_at Callees-calls Callees-order_of Redirect-name_word Redirect-find Redirect-omitted Redirect-all_below Redirect-argument_types Redirect-agree Redirect-type_behind Redirect-result_type Redirect-same Redirect-redirecting Redirect-redirect_fn Redirect-redirect_entry Redirect-stays Redirect-redirect_fns Redirect-with_functions Redirect-with_entries Redirect-redirect Redirect-refusal Redirect-after Redirect-nothing Redirect-function Redirect-compared Redirect-with_replacement Redirect-with_original Redirect-redirect_function Tables-code_t Tables-is_t Tables-at Tables-upd Tables-six Tables-tables Tables-rec_at Tables-count Tables-map_at References-targets References-target References-ref_of References-refs References-fold_refs References-carry_w References-through References-undefined References-add References-span_by References-first_word References-undefined_at References-moved References-shift References-alike_c References-alike References-index_of References-interned Imports-unless_mapped Imports-intern Imports-mapped_to_t Imports-made Imports-commit Imports-step_t Imports-import_f Imports-levels Imports-import_t Imports-rename Imports-renamed Imports-unmapped Imports-emptied Imports-fresh Bodies-last_of Bodies-known Bodies-bring Bodies-compare_of Bodies-compares_of Bodies-each_e Bodies-opt_e Bodies-mapped_to Bodies-carried Bodies-step Bodies-append_expr Bodies-intern_expr Bodies-append_standing Bodies-import_e Bodies-import_body Bodies-import_initialiser Bodies-import_standing Bodies-import_stmt Bodies-import_form Bodies-import_block Bodies-import_case Bodies-import_cases Bodies-carried_form Bodies-rebuild_stmt Bodies-rebuild_form Bodies-rebuild_block Bodies-rebuild_case Bodies-rebuild_cases Bodies-put_name Bodies-name_if Bodies-keep_names Bodies-name_cells Bodies-named_rows Bodies-declarations Bodies-declared Bodies-walked Bodies-rebuilt Bodies-kept_names Bodies-named_after Bodies-derived Bodies-final Bodies-localized Bodies-appended Bodies-append Bodies-follow_f Bodies-follow Bodies-entered Bodies-entry_made Bodies-enter_all Bodies-entries_made Special-force Special-with_special Special-put_ray Special-ray_to Special-ray Special-rays Special-keyed Special-put_pair Special-pair_to Special-pairs Special-sourced Finish-names_in Finish-keep_n Finish-firsts Finish-index_n Finish-appearing Finish-renumber Finish-with_names Finish-named_by Finish-gathered Finish-finished Finish-passes Finish-too_large Session-after Session-new Session-with_source Session-unless_full Session-unknown Session-stuck Session-meets_ring Session-set_module Session-set Session-clear Session-map_span Session-importing Session-rename_type Session-import_function Session-map_function_handle Session-any_ray Session-has_required_special_types Session-write_if_fits Session-finish Session-callees_of Session-with_entries Session-finish_with_entry_points Link-append_all Link-link_by Link-in_order Link-link_module Link-link Link-output_after Link-link_image Steps-operations Steps-part Steps-says Steps-writes Steps-bit Steps-perform Steps-run Steps-answers_of Steps-output_of Steps-first_refused Steps-session bytes_of wrote does emitted-steps emitted_answers p11 p11-emitted
emitted = refl

-- ---- a function f with a literal that nothing reads, named x
unfoldable pub dropped_steps : List ℕ
dropped_steps = 0 ∷ 0 ∷ 188 ∷ 0 ∷ 9 ∷ 0 ∷ 0 ∷ 0 ∷ 13 ∷ 0 ∷ 400 ∷ 0 ∷ []

unfoldable pub dropped_answers : List ℕ
dropped_answers = 0 ∷ 0 ∷ 0 ∷ 0 ∷ 0 ∷ 0 ∷ 0 ∷ 144 ∷ 0 ∷ []

pub dropped : does (bytes_of unread) dropped_steps ≡ (0, dropped_answers, (0, unread_dropped) ∷ [])
unfolding word_of words_of ◌⟫◌ Outcome-eat Outcome-map_o Outcome-exact Outcome-both Outcome-map_l Table-types Table-expressions Table-levels Table-queries Table-values Table-atomics Table-results Table-statements Table-name_row Table-type_row Table-constant_row Table-override_row Table-global_row Table-expression_row Table-function_head Table-entry_head Table-counted Table-limit Table-variants Table-repeat Table-text Table-variant Table-more Table-follow Table-run Tree-opt_of Tree-word_of Tree-kind_of Tree-size_b Tree-size_c Tree-flat_all Tree-flat_list Tree-flat_x Tree-flat_s Tree-flat_f Tree-flat_b Tree-flat_k Tree-flat_c Tree-flat_block Tree-flat Tree-flat_entry Tree-rows Tree-listed Tree-operands Tree-stmts Tree-case_at Tree-cases Tree-form Tree-checked Tree-shaped Tree-statement Tree-block_at Tree-function_at Tree-entry_at Module-next Module-records Module-table Module-special_at Module-count_at Module-offset_at Module-end_at Module-limits Module-placed Module-section Module-table_at ◌⊛◌ Module-read Module-places Module-flat_table Module-flat_special Module-sections Module-pairs_from Module-bodies Module-flat_module Module-write Module-sized Carry-carry_cell Carry-carry_opt Carry-carry_range Carry-carry_s Carry-carry_f Carry-carry_b Carry-carry_k Carry-carry_c Carry-carry_function Carry-carry_entry Carry-carry_special Carry-carry Operands-optional Operands-operand Operands-ops_of Operands-result_of Operands-function_of Operands-kind Operands-standing_kind Operands-result_kind Operands-emitted_kind Operands-constant_kind Operands-ops Operands-kind_at Operands-standing Lower-below Lower-bases_of Lower-types_lower Lower-operands_lower Lower-functions_lower Lower-entries_lower Lower-init_of Lower-inits_of Lower-inits_lower Lower-lower Names-field Names-present Names-absent Names-distinct Names-same Names-unlike Names-differ Names-expressions_named Names-functions_named Names-entries_named Names-function_names Names-entry_names Names-named Initial-inits_of Initial-roots Initial-marked Initial-mark Initial-unmarked Initial-read_by Initial-close Initial-reached_marks Initial-reached Initial-moving Initial-initials Initial-initial Initial-constant_at Initial-initialised Numbers-caps Numbers-bound Numbers-below Numbers-within Numbers-rising Numbers-ordered Numbers-every Numbers-outside Numbers-inside Numbers-sound Numbers-constant_only Numbers-numbered Scope-up_from Scope-in_range Scope-live Scope-expand_s Scope-expand_f Scope-expand Scope-expand_k Scope-expand_c Scope-shape_s Scope-shape_f Scope-shape_b Scope-shape_k Scope-shape_c Scope-emitted Scope-is_of Scope-call_result Scope-effect_result Scope-kinds_s Scope-kinds_f Scope-kinds_b Scope-kinds_k Scope-kinds_c Scope-evals_opt Scope-evals_s Scope-evals_f Scope-evals_b Scope-evals_k Scope-evals_c Scope-has Scope-distinct Scope-add_e Scope-add_opt Scope-add_f Scope-add_s Scope-top_b Scope-holds_s Scope-holds_f Scope-holds_b Scope-holds_k Scope-holds_c Scope-cont_b Scope-vis Scope-all_vis Scope-opt_vis Scope-ok_e Scope-ok_s Scope-ok_f Scope-ok_b Scope-ok_k Scope-ok_c Scope-all_of Scope-seen Scope-scoped_as Scope-scoped Scope-all_scoped Scope-entries_scoped Scope-in_scope Intake-tested Intake-verdict Intake-intake_of Intake-of_laid Intake-after_intake Intake-on_words Calls-numbers Calls-any Calls-keep Calls-free Calls-held Calls-round Calls-rounds Calls-answer Calls-order Callees-callees_s Callees-callees_f Callees-callees_b Callees-callees_k Callees-callees_c Callees-callees_at Callees-calls Callees-order_of Redirect-name_word Redirect-find Redirect-omitted Redirect-all_below Redirect-argument_types Redirect-agree Redirect-type_behind Redirect-result_type Redirect-same Redirect-redirecting Redirect-redirect_fn Redirect-redirect_entry Redirect-stays Redirect-redirect_fns Redirect-with_functions Redirect-with_entries Redirect-redirect Redirect-refusal Redirect-after Redirect-nothing Redirect-function Redirect-compared Redirect-with_replacement Redirect-with_original Redirect-redirect_function Tables-code_t Tables-is_t Tables-at Tables-upd Tables-six Tables-tables Tables-rec_at Tables-count Tables-map_at References-targets References-target References-ref_of References-refs References-fold_refs References-carry_w References-through References-undefined References-add References-span_by References-first_word References-undefined_at References-moved References-shift References-alike_c References-alike References-index_of References-interned Imports-unless_mapped Imports-intern Imports-mapped_to_t Imports-made Imports-commit Imports-step_t Imports-import_f Imports-levels Imports-import_t Imports-rename Imports-renamed Imports-unmapped Imports-emptied Imports-fresh Bodies-last_of Bodies-known Bodies-bring Bodies-compare_of Bodies-compares_of Bodies-each_e Bodies-opt_e Bodies-mapped_to Bodies-carried Bodies-step Bodies-append_expr Bodies-intern_expr Bodies-append_standing Bodies-import_e Bodies-import_body Bodies-import_initialiser Bodies-import_standing Bodies-import_stmt Bodies-import_form Bodies-import_block Bodies-import_case Bodies-import_cases Bodies-carried_form Bodies-rebuild_stmt Bodies-rebuild_form Bodies-rebuild_block Bodies-rebuild_case Bodies-rebuild_cases Bodies-put_name Bodies-name_if Bodies-keep_names Bodies-name_cells Bodies-named_rows Bodies-declarations Bodies-declared Bodies-walked Bodies-rebuilt Bodies-kept_names Bodies-named_after Bodies-derived Bodies-final Bodies-localized Bodies-appended Bodies-append Bodies-follow_f Bodies-follow Bodies-entered Bodies-entry_made Bodies-enter_all Bodies-entries_made Special-force Special-with_special Special-put_ray Special-ray_to Special-ray Special-rays Special-keyed Special-put_pair Special-pair_to Special-pairs Special-sourced Finish-names_in Finish-keep_n Finish-firsts Finish-index_n Finish-appearing Finish-renumber Finish-with_names Finish-named_by Finish-gathered Finish-finished Finish-passes Finish-too_large Session-after Session-new Session-with_source Session-unless_full Session-unknown Session-stuck Session-meets_ring Session-set_module Session-set Session-clear Session-map_span Session-importing Session-rename_type Session-import_function Session-map_function_handle Session-any_ray Session-has_required_special_types Session-write_if_fits Session-finish Session-callees_of Session-with_entries Session-finish_with_entry_points Link-append_all Link-link_by Link-in_order Link-link_module Link-link Link-output_after Link-link_image Steps-operations Steps-part Steps-says Steps-writes Steps-bit Steps-perform Steps-run Steps-answers_of Steps-output_of Steps-first_refused Steps-session bytes_of wrote does dropped_steps dropped_answers unread unread_dropped
dropped = refl

-- ---- a function f with a literal that nothing reads, another, and an Emit of its Negate
unfoldable pub emitted_later_steps : List ℕ
emitted_later_steps = 0 ∷ 0 ∷ 236 ∷ 0 ∷ 9 ∷ 0 ∷ 0 ∷ 0 ∷ 13 ∷ 0 ∷ 400 ∷ 0 ∷ []

unfoldable pub emitted_later_answers : List ℕ
emitted_later_answers = 0 ∷ 0 ∷ 0 ∷ 0 ∷ 0 ∷ 0 ∷ 0 ∷ 212 ∷ 0 ∷ []

pub emitted-later : does (bytes_of later) emitted_later_steps ≡ (0, emitted_later_answers, (0, later-moved) ∷ [])
unfolding word_of words_of ◌⟫◌ Outcome-eat Outcome-map_o Outcome-exact Outcome-both Outcome-map_l Table-types Table-expressions Table-levels Table-queries Table-values Table-atomics Table-results Table-statements Table-name_row Table-type_row Table-constant_row Table-override_row Table-global_row Table-expression_row Table-function_head Table-entry_head Table-counted Table-limit Table-variants Table-repeat Table-text Table-variant Table-more Table-follow Table-run Tree-opt_of Tree-word_of Tree-kind_of Tree-size_b Tree-size_c Tree-flat_all Tree-flat_list Tree-flat_x Tree-flat_s Tree-flat_f Tree-flat_b Tree-flat_k Tree-flat_c Tree-flat_block Tree-flat Tree-flat_entry Tree-rows Tree-listed Tree-operands Tree-stmts Tree-case_at Tree-cases Tree-form Tree-checked Tree-shaped Tree-statement Tree-block_at Tree-function_at Tree-entry_at Module-next Module-records Module-table Module-special_at Module-count_at Module-offset_at Module-end_at Module-limits Module-placed Module-section Module-table_at ◌⊛◌ Module-read Module-places Module-flat_table Module-flat_special Module-sections Module-pairs_from Module-bodies Module-flat_module Module-write Module-sized Carry-carry_cell Carry-carry_opt Carry-carry_range Carry-carry_s Carry-carry_f Carry-carry_b Carry-carry_k Carry-carry_c Carry-carry_function Carry-carry_entry Carry-carry_special Carry-carry Operands-optional Operands-operand Operands-ops_of Operands-result_of Operands-function_of Operands-kind Operands-standing_kind Operands-result_kind Operands-emitted_kind Operands-constant_kind Operands-ops Operands-kind_at Operands-standing Lower-below Lower-bases_of Lower-types_lower Lower-operands_lower Lower-functions_lower Lower-entries_lower Lower-init_of Lower-inits_of Lower-inits_lower Lower-lower Names-field Names-present Names-absent Names-distinct Names-same Names-unlike Names-differ Names-expressions_named Names-functions_named Names-entries_named Names-function_names Names-entry_names Names-named Initial-inits_of Initial-roots Initial-marked Initial-mark Initial-unmarked Initial-read_by Initial-close Initial-reached_marks Initial-reached Initial-moving Initial-initials Initial-initial Initial-constant_at Initial-initialised Numbers-caps Numbers-bound Numbers-below Numbers-within Numbers-rising Numbers-ordered Numbers-every Numbers-outside Numbers-inside Numbers-sound Numbers-constant_only Numbers-numbered Scope-up_from Scope-in_range Scope-live Scope-expand_s Scope-expand_f Scope-expand Scope-expand_k Scope-expand_c Scope-shape_s Scope-shape_f Scope-shape_b Scope-shape_k Scope-shape_c Scope-emitted Scope-is_of Scope-call_result Scope-effect_result Scope-kinds_s Scope-kinds_f Scope-kinds_b Scope-kinds_k Scope-kinds_c Scope-evals_opt Scope-evals_s Scope-evals_f Scope-evals_b Scope-evals_k Scope-evals_c Scope-has Scope-distinct Scope-add_e Scope-add_opt Scope-add_f Scope-add_s Scope-top_b Scope-holds_s Scope-holds_f Scope-holds_b Scope-holds_k Scope-holds_c Scope-cont_b Scope-vis Scope-all_vis Scope-opt_vis Scope-ok_e Scope-ok_s Scope-ok_f Scope-ok_b Scope-ok_k Scope-ok_c Scope-all_of Scope-seen Scope-scoped_as Scope-scoped Scope-all_scoped Scope-entries_scoped Scope-in_scope Intake-tested Intake-verdict Intake-intake_of Intake-of_laid Intake-after_intake Intake-on_words Calls-numbers Calls-any Calls-keep Calls-free Calls-held Calls-round Calls-rounds Calls-answer Calls-order Callees-callees_s Callees-callees_f Callees-callees_b Callees-callees_k Callees-callees_c Callees-callees_at Callees-calls Callees-order_of Redirect-name_word Redirect-find Redirect-omitted Redirect-all_below Redirect-argument_types Redirect-agree Redirect-type_behind Redirect-result_type Redirect-same Redirect-redirecting Redirect-redirect_fn Redirect-redirect_entry Redirect-stays Redirect-redirect_fns Redirect-with_functions Redirect-with_entries Redirect-redirect Redirect-refusal Redirect-after Redirect-nothing Redirect-function Redirect-compared Redirect-with_replacement Redirect-with_original Redirect-redirect_function Tables-code_t Tables-is_t Tables-at Tables-upd Tables-six Tables-tables Tables-rec_at Tables-count Tables-map_at References-targets References-target References-ref_of References-refs References-fold_refs References-carry_w References-through References-undefined References-add References-span_by References-first_word References-undefined_at References-moved References-shift References-alike_c References-alike References-index_of References-interned Imports-unless_mapped Imports-intern Imports-mapped_to_t Imports-made Imports-commit Imports-step_t Imports-import_f Imports-levels Imports-import_t Imports-rename Imports-renamed Imports-unmapped Imports-emptied Imports-fresh Bodies-last_of Bodies-known Bodies-bring Bodies-compare_of Bodies-compares_of Bodies-each_e Bodies-opt_e Bodies-mapped_to Bodies-carried Bodies-step Bodies-append_expr Bodies-intern_expr Bodies-append_standing Bodies-import_e Bodies-import_body Bodies-import_initialiser Bodies-import_standing Bodies-import_stmt Bodies-import_form Bodies-import_block Bodies-import_case Bodies-import_cases Bodies-carried_form Bodies-rebuild_stmt Bodies-rebuild_form Bodies-rebuild_block Bodies-rebuild_case Bodies-rebuild_cases Bodies-put_name Bodies-name_if Bodies-keep_names Bodies-name_cells Bodies-named_rows Bodies-declarations Bodies-declared Bodies-walked Bodies-rebuilt Bodies-kept_names Bodies-named_after Bodies-derived Bodies-final Bodies-localized Bodies-appended Bodies-append Bodies-follow_f Bodies-follow Bodies-entered Bodies-entry_made Bodies-enter_all Bodies-entries_made Special-force Special-with_special Special-put_ray Special-ray_to Special-ray Special-rays Special-keyed Special-put_pair Special-pair_to Special-pairs Special-sourced Finish-names_in Finish-keep_n Finish-firsts Finish-index_n Finish-appearing Finish-renumber Finish-with_names Finish-named_by Finish-gathered Finish-finished Finish-passes Finish-too_large Session-after Session-new Session-with_source Session-unless_full Session-unknown Session-stuck Session-meets_ring Session-set_module Session-set Session-clear Session-map_span Session-importing Session-rename_type Session-import_function Session-map_function_handle Session-any_ray Session-has_required_special_types Session-write_if_fits Session-finish Session-callees_of Session-with_entries Session-finish_with_entry_points Link-append_all Link-link_by Link-in_order Link-link_module Link-link Link-output_after Link-link_image Steps-operations Steps-part Steps-says Steps-writes Steps-bit Steps-perform Steps-run Steps-answers_of Steps-output_of Steps-first_refused Steps-session bytes_of wrote does emitted_later_steps emitted_later_answers later later-moved
emitted-later = refl

-- ---- a function f with two locals and their initialisers, one of them named x
unfoldable pub initial-steps : List ℕ
initial-steps = 0 ∷ 0 ∷ 316 ∷ 0 ∷ 9 ∷ 0 ∷ 0 ∷ 0 ∷ 13 ∷ 0 ∷ 400 ∷ 0 ∷ []

unfoldable pub initial_answers : List ℕ
initial_answers = 0 ∷ 0 ∷ 0 ∷ 0 ∷ 0 ∷ 0 ∷ 0 ∷ 316 ∷ 0 ∷ []

pub initial : does (bytes_of initialised) initial-steps ≡ (0, initial_answers, (0, initialised) ∷ [])
unfolding word_of words_of ◌⟫◌ Outcome-eat Outcome-map_o Outcome-exact Outcome-both Outcome-map_l Table-types Table-expressions Table-levels Table-queries Table-values Table-atomics Table-results Table-statements Table-name_row Table-type_row Table-constant_row Table-override_row Table-global_row Table-expression_row Table-function_head Table-entry_head Table-counted Table-limit Table-variants Table-repeat Table-text Table-variant Table-more Table-follow Table-run Tree-opt_of Tree-word_of Tree-kind_of Tree-size_b Tree-size_c Tree-flat_all Tree-flat_list Tree-flat_x Tree-flat_s Tree-flat_f Tree-flat_b Tree-flat_k Tree-flat_c Tree-flat_block Tree-flat Tree-flat_entry Tree-rows Tree-listed Tree-operands Tree-stmts Tree-case_at Tree-cases Tree-form Tree-checked Tree-shaped Tree-statement Tree-block_at Tree-function_at Tree-entry_at Module-next Module-records Module-table Module-special_at Module-count_at Module-offset_at Module-end_at Module-limits Module-placed Module-section Module-table_at ◌⊛◌ Module-read Module-places Module-flat_table Module-flat_special Module-sections Module-pairs_from Module-bodies Module-flat_module Module-write Module-sized Carry-carry_cell Carry-carry_opt Carry-carry_range Carry-carry_s Carry-carry_f Carry-carry_b Carry-carry_k Carry-carry_c Carry-carry_function Carry-carry_entry Carry-carry_special Carry-carry Operands-optional Operands-operand Operands-ops_of Operands-result_of Operands-function_of Operands-kind Operands-standing_kind Operands-result_kind Operands-emitted_kind Operands-constant_kind Operands-ops Operands-kind_at Operands-standing Lower-below Lower-bases_of Lower-types_lower Lower-operands_lower Lower-functions_lower Lower-entries_lower Lower-init_of Lower-inits_of Lower-inits_lower Lower-lower Names-field Names-present Names-absent Names-distinct Names-same Names-unlike Names-differ Names-expressions_named Names-functions_named Names-entries_named Names-function_names Names-entry_names Names-named Initial-inits_of Initial-roots Initial-marked Initial-mark Initial-unmarked Initial-read_by Initial-close Initial-reached_marks Initial-reached Initial-moving Initial-initials Initial-initial Initial-constant_at Initial-initialised Numbers-caps Numbers-bound Numbers-below Numbers-within Numbers-rising Numbers-ordered Numbers-every Numbers-outside Numbers-inside Numbers-sound Numbers-constant_only Numbers-numbered Scope-up_from Scope-in_range Scope-live Scope-expand_s Scope-expand_f Scope-expand Scope-expand_k Scope-expand_c Scope-shape_s Scope-shape_f Scope-shape_b Scope-shape_k Scope-shape_c Scope-emitted Scope-is_of Scope-call_result Scope-effect_result Scope-kinds_s Scope-kinds_f Scope-kinds_b Scope-kinds_k Scope-kinds_c Scope-evals_opt Scope-evals_s Scope-evals_f Scope-evals_b Scope-evals_k Scope-evals_c Scope-has Scope-distinct Scope-add_e Scope-add_opt Scope-add_f Scope-add_s Scope-top_b Scope-holds_s Scope-holds_f Scope-holds_b Scope-holds_k Scope-holds_c Scope-cont_b Scope-vis Scope-all_vis Scope-opt_vis Scope-ok_e Scope-ok_s Scope-ok_f Scope-ok_b Scope-ok_k Scope-ok_c Scope-all_of Scope-seen Scope-scoped_as Scope-scoped Scope-all_scoped Scope-entries_scoped Scope-in_scope Intake-tested Intake-verdict Intake-intake_of Intake-of_laid Intake-after_intake Intake-on_words Calls-numbers Calls-any Calls-keep Calls-free Calls-held Calls-round Calls-rounds Calls-answer Calls-order Callees-callees_s Callees-callees_f Callees-callees_b Callees-callees_k Callees-callees_c Callees-callees_at Callees-calls Callees-order_of Redirect-name_word Redirect-find Redirect-omitted Redirect-all_below Redirect-argument_types Redirect-agree Redirect-type_behind Redirect-result_type Redirect-same Redirect-redirecting Redirect-redirect_fn Redirect-redirect_entry Redirect-stays Redirect-redirect_fns Redirect-with_functions Redirect-with_entries Redirect-redirect Redirect-refusal Redirect-after Redirect-nothing Redirect-function Redirect-compared Redirect-with_replacement Redirect-with_original Redirect-redirect_function Tables-code_t Tables-is_t Tables-at Tables-upd Tables-six Tables-tables Tables-rec_at Tables-count Tables-map_at References-targets References-target References-ref_of References-refs References-fold_refs References-carry_w References-through References-undefined References-add References-span_by References-first_word References-undefined_at References-moved References-shift References-alike_c References-alike References-index_of References-interned Imports-unless_mapped Imports-intern Imports-mapped_to_t Imports-made Imports-commit Imports-step_t Imports-import_f Imports-levels Imports-import_t Imports-rename Imports-renamed Imports-unmapped Imports-emptied Imports-fresh Bodies-last_of Bodies-known Bodies-bring Bodies-compare_of Bodies-compares_of Bodies-each_e Bodies-opt_e Bodies-mapped_to Bodies-carried Bodies-step Bodies-append_expr Bodies-intern_expr Bodies-append_standing Bodies-import_e Bodies-import_body Bodies-import_initialiser Bodies-import_standing Bodies-import_stmt Bodies-import_form Bodies-import_block Bodies-import_case Bodies-import_cases Bodies-carried_form Bodies-rebuild_stmt Bodies-rebuild_form Bodies-rebuild_block Bodies-rebuild_case Bodies-rebuild_cases Bodies-put_name Bodies-name_if Bodies-keep_names Bodies-name_cells Bodies-named_rows Bodies-declarations Bodies-declared Bodies-walked Bodies-rebuilt Bodies-kept_names Bodies-named_after Bodies-derived Bodies-final Bodies-localized Bodies-appended Bodies-append Bodies-follow_f Bodies-follow Bodies-entered Bodies-entry_made Bodies-enter_all Bodies-entries_made Special-force Special-with_special Special-put_ray Special-ray_to Special-ray Special-rays Special-keyed Special-put_pair Special-pair_to Special-pairs Special-sourced Finish-names_in Finish-keep_n Finish-firsts Finish-index_n Finish-appearing Finish-renumber Finish-with_names Finish-named_by Finish-gathered Finish-finished Finish-passes Finish-too_large Session-after Session-new Session-with_source Session-unless_full Session-unknown Session-stuck Session-meets_ring Session-set_module Session-set Session-clear Session-map_span Session-importing Session-rename_type Session-import_function Session-map_function_handle Session-any_ray Session-has_required_special_types Session-write_if_fits Session-finish Session-callees_of Session-with_entries Session-finish_with_entry_points Link-append_all Link-link_by Link-in_order Link-link_module Link-link Link-output_after Link-link_image Steps-operations Steps-part Steps-says Steps-writes Steps-bit Steps-perform Steps-run Steps-answers_of Steps-output_of Steps-first_refused Steps-session bytes_of wrote does initial-steps initial_answers initialised
initial = refl

-- ---- a global expression that names a constant
unfoldable pub constant_named_steps : List ℕ
constant_named_steps = 0 ∷ 0 ∷ 212 ∷ 0 ∷ 8 ∷ 1 ∷ 0 ∷ 0 ∷ 13 ∷ 0 ∷ 400 ∷ 0 ∷ []

unfoldable pub constant_named_answers : List ℕ
constant_named_answers = 0 ∷ 0 ∷ 0 ∷ 0 ∷ 1 ∷ 0 ∷ 0 ∷ 212 ∷ 0 ∷ []

pub constant-named : does (bytes_of constant) constant_named_steps ≡ (0, constant_named_answers, (0, constant) ∷ [])
unfolding word_of words_of ◌⟫◌ Outcome-eat Outcome-map_o Outcome-exact Outcome-both Outcome-map_l Table-types Table-expressions Table-levels Table-queries Table-values Table-atomics Table-results Table-statements Table-name_row Table-type_row Table-constant_row Table-override_row Table-global_row Table-expression_row Table-function_head Table-entry_head Table-counted Table-limit Table-variants Table-repeat Table-text Table-variant Table-more Table-follow Table-run Tree-opt_of Tree-word_of Tree-kind_of Tree-size_b Tree-size_c Tree-flat_all Tree-flat_list Tree-flat_x Tree-flat_s Tree-flat_f Tree-flat_b Tree-flat_k Tree-flat_c Tree-flat_block Tree-flat Tree-flat_entry Tree-rows Tree-listed Tree-operands Tree-stmts Tree-case_at Tree-cases Tree-form Tree-checked Tree-shaped Tree-statement Tree-block_at Tree-function_at Tree-entry_at Module-next Module-records Module-table Module-special_at Module-count_at Module-offset_at Module-end_at Module-limits Module-placed Module-section Module-table_at ◌⊛◌ Module-read Module-places Module-flat_table Module-flat_special Module-sections Module-pairs_from Module-bodies Module-flat_module Module-write Module-sized Carry-carry_cell Carry-carry_opt Carry-carry_range Carry-carry_s Carry-carry_f Carry-carry_b Carry-carry_k Carry-carry_c Carry-carry_function Carry-carry_entry Carry-carry_special Carry-carry Operands-optional Operands-operand Operands-ops_of Operands-result_of Operands-function_of Operands-kind Operands-standing_kind Operands-result_kind Operands-emitted_kind Operands-constant_kind Operands-ops Operands-kind_at Operands-standing Lower-below Lower-bases_of Lower-types_lower Lower-operands_lower Lower-functions_lower Lower-entries_lower Lower-init_of Lower-inits_of Lower-inits_lower Lower-lower Names-field Names-present Names-absent Names-distinct Names-same Names-unlike Names-differ Names-expressions_named Names-functions_named Names-entries_named Names-function_names Names-entry_names Names-named Initial-inits_of Initial-roots Initial-marked Initial-mark Initial-unmarked Initial-read_by Initial-close Initial-reached_marks Initial-reached Initial-moving Initial-initials Initial-initial Initial-constant_at Initial-initialised Numbers-caps Numbers-bound Numbers-below Numbers-within Numbers-rising Numbers-ordered Numbers-every Numbers-outside Numbers-inside Numbers-sound Numbers-constant_only Numbers-numbered Scope-up_from Scope-in_range Scope-live Scope-expand_s Scope-expand_f Scope-expand Scope-expand_k Scope-expand_c Scope-shape_s Scope-shape_f Scope-shape_b Scope-shape_k Scope-shape_c Scope-emitted Scope-is_of Scope-call_result Scope-effect_result Scope-kinds_s Scope-kinds_f Scope-kinds_b Scope-kinds_k Scope-kinds_c Scope-evals_opt Scope-evals_s Scope-evals_f Scope-evals_b Scope-evals_k Scope-evals_c Scope-has Scope-distinct Scope-add_e Scope-add_opt Scope-add_f Scope-add_s Scope-top_b Scope-holds_s Scope-holds_f Scope-holds_b Scope-holds_k Scope-holds_c Scope-cont_b Scope-vis Scope-all_vis Scope-opt_vis Scope-ok_e Scope-ok_s Scope-ok_f Scope-ok_b Scope-ok_k Scope-ok_c Scope-all_of Scope-seen Scope-scoped_as Scope-scoped Scope-all_scoped Scope-entries_scoped Scope-in_scope Intake-tested Intake-verdict Intake-intake_of Intake-of_laid Intake-after_intake Intake-on_words Calls-numbers Calls-any Calls-keep Calls-free Calls-held Calls-round Calls-rounds Calls-answer Calls-order Callees-callees_s Callees-callees_f Callees-callees_b Callees-callees_k Callees-callees_c Callees-callees_at Callees-calls Callees-order_of Redirect-name_word Redirect-find Redirect-omitted Redirect-all_below Redirect-argument_types Redirect-agree Redirect-type_behind Redirect-result_type Redirect-same Redirect-redirecting Redirect-redirect_fn Redirect-redirect_entry Redirect-stays Redirect-redirect_fns Redirect-with_functions Redirect-with_entries Redirect-redirect Redirect-refusal Redirect-after Redirect-nothing Redirect-function Redirect-compared Redirect-with_replacement Redirect-with_original Redirect-redirect_function Tables-code_t Tables-is_t Tables-at Tables-upd Tables-six Tables-tables Tables-rec_at Tables-count Tables-map_at References-targets References-target References-ref_of References-refs References-fold_refs References-carry_w References-through References-undefined References-add References-span_by References-first_word References-undefined_at References-moved References-shift References-alike_c References-alike References-index_of References-interned Imports-unless_mapped Imports-intern Imports-mapped_to_t Imports-made Imports-commit Imports-step_t Imports-import_f Imports-levels Imports-import_t Imports-rename Imports-renamed Imports-unmapped Imports-emptied Imports-fresh Bodies-last_of Bodies-known Bodies-bring Bodies-compare_of Bodies-compares_of Bodies-each_e Bodies-opt_e Bodies-mapped_to Bodies-carried Bodies-step Bodies-append_expr Bodies-intern_expr Bodies-append_standing Bodies-import_e Bodies-import_body Bodies-import_initialiser Bodies-import_standing Bodies-import_stmt Bodies-import_form Bodies-import_block Bodies-import_case Bodies-import_cases Bodies-carried_form Bodies-rebuild_stmt Bodies-rebuild_form Bodies-rebuild_block Bodies-rebuild_case Bodies-rebuild_cases Bodies-put_name Bodies-name_if Bodies-keep_names Bodies-name_cells Bodies-named_rows Bodies-declarations Bodies-declared Bodies-walked Bodies-rebuilt Bodies-kept_names Bodies-named_after Bodies-derived Bodies-final Bodies-localized Bodies-appended Bodies-append Bodies-follow_f Bodies-follow Bodies-entered Bodies-entry_made Bodies-enter_all Bodies-entries_made Special-force Special-with_special Special-put_ray Special-ray_to Special-ray Special-rays Special-keyed Special-put_pair Special-pair_to Special-pairs Special-sourced Finish-names_in Finish-keep_n Finish-firsts Finish-index_n Finish-appearing Finish-renumber Finish-with_names Finish-named_by Finish-gathered Finish-finished Finish-passes Finish-too_large Session-after Session-new Session-with_source Session-unless_full Session-unknown Session-stuck Session-meets_ring Session-set_module Session-set Session-clear Session-map_span Session-importing Session-rename_type Session-import_function Session-map_function_handle Session-any_ray Session-has_required_special_types Session-write_if_fits Session-finish Session-callees_of Session-with_entries Session-finish_with_entry_points Link-append_all Link-link_by Link-in_order Link-link_module Link-link Link-output_after Link-link_image Steps-operations Steps-part Steps-says Steps-writes Steps-bit Steps-perform Steps-run Steps-answers_of Steps-output_of Steps-first_refused Steps-session bytes_of wrote does constant_named_steps constant_named_answers constant
constant-named = refl

-- ---- two sources with special types in one place and for one key; and after a finish, whether types are required
unfoldable pub shared_steps : List ℕ
shared_steps = 0 ∷ 0 ∷ 148 ∷ 0 ∷ 0 ∷ 148 ∷ 196 ∷ 0 ∷ 3 ∷ 0 ∷ 0 ∷ 0 ∷ 3 ∷ 1 ∷ 0 ∷ 0 ∷ 13 ∷ 0 ∷ 400 ∷ 0 ∷ 12 ∷ 0 ∷ 0 ∷ 0 ∷ []

unfoldable pub shared_answers : List ℕ
shared_answers = 0 ∷ 0 ∷ 0 ∷ 0 ∷ 0 ∷ 0 ∷ 0 ∷ 0 ∷ 0 ∷ 0 ∷ 0 ∷ 0 ∷ 0 ∷ 148 ∷ 0 ∷ 0 ∷ 0 ∷ 0 ∷ []

pub shared : does (bytes_of two-special) shared_steps ≡ (0, shared_answers, (0, special) ∷ [])
unfolding word_of words_of ◌⟫◌ Outcome-eat Outcome-map_o Outcome-exact Outcome-both Outcome-map_l Table-types Table-expressions Table-levels Table-queries Table-values Table-atomics Table-results Table-statements Table-name_row Table-type_row Table-constant_row Table-override_row Table-global_row Table-expression_row Table-function_head Table-entry_head Table-counted Table-limit Table-variants Table-repeat Table-text Table-variant Table-more Table-follow Table-run Tree-opt_of Tree-word_of Tree-kind_of Tree-size_b Tree-size_c Tree-flat_all Tree-flat_list Tree-flat_x Tree-flat_s Tree-flat_f Tree-flat_b Tree-flat_k Tree-flat_c Tree-flat_block Tree-flat Tree-flat_entry Tree-rows Tree-listed Tree-operands Tree-stmts Tree-case_at Tree-cases Tree-form Tree-checked Tree-shaped Tree-statement Tree-block_at Tree-function_at Tree-entry_at Module-next Module-records Module-table Module-special_at Module-count_at Module-offset_at Module-end_at Module-limits Module-placed Module-section Module-table_at ◌⊛◌ Module-read Module-places Module-flat_table Module-flat_special Module-sections Module-pairs_from Module-bodies Module-flat_module Module-write Module-sized Carry-carry_cell Carry-carry_opt Carry-carry_range Carry-carry_s Carry-carry_f Carry-carry_b Carry-carry_k Carry-carry_c Carry-carry_function Carry-carry_entry Carry-carry_special Carry-carry Operands-optional Operands-operand Operands-ops_of Operands-result_of Operands-function_of Operands-kind Operands-standing_kind Operands-result_kind Operands-emitted_kind Operands-constant_kind Operands-ops Operands-kind_at Operands-standing Lower-below Lower-bases_of Lower-types_lower Lower-operands_lower Lower-functions_lower Lower-entries_lower Lower-init_of Lower-inits_of Lower-inits_lower Lower-lower Names-field Names-present Names-absent Names-distinct Names-same Names-unlike Names-differ Names-expressions_named Names-functions_named Names-entries_named Names-function_names Names-entry_names Names-named Initial-inits_of Initial-roots Initial-marked Initial-mark Initial-unmarked Initial-read_by Initial-close Initial-reached_marks Initial-reached Initial-moving Initial-initials Initial-initial Initial-constant_at Initial-initialised Numbers-caps Numbers-bound Numbers-below Numbers-within Numbers-rising Numbers-ordered Numbers-every Numbers-outside Numbers-inside Numbers-sound Numbers-constant_only Numbers-numbered Scope-up_from Scope-in_range Scope-live Scope-expand_s Scope-expand_f Scope-expand Scope-expand_k Scope-expand_c Scope-shape_s Scope-shape_f Scope-shape_b Scope-shape_k Scope-shape_c Scope-emitted Scope-is_of Scope-call_result Scope-effect_result Scope-kinds_s Scope-kinds_f Scope-kinds_b Scope-kinds_k Scope-kinds_c Scope-evals_opt Scope-evals_s Scope-evals_f Scope-evals_b Scope-evals_k Scope-evals_c Scope-has Scope-distinct Scope-add_e Scope-add_opt Scope-add_f Scope-add_s Scope-top_b Scope-holds_s Scope-holds_f Scope-holds_b Scope-holds_k Scope-holds_c Scope-cont_b Scope-vis Scope-all_vis Scope-opt_vis Scope-ok_e Scope-ok_s Scope-ok_f Scope-ok_b Scope-ok_k Scope-ok_c Scope-all_of Scope-seen Scope-scoped_as Scope-scoped Scope-all_scoped Scope-entries_scoped Scope-in_scope Intake-tested Intake-verdict Intake-intake_of Intake-of_laid Intake-after_intake Intake-on_words Calls-numbers Calls-any Calls-keep Calls-free Calls-held Calls-round Calls-rounds Calls-answer Calls-order Callees-callees_s Callees-callees_f Callees-callees_b Callees-callees_k Callees-callees_c Callees-callees_at Callees-calls Callees-order_of Redirect-name_word Redirect-find Redirect-omitted Redirect-all_below Redirect-argument_types Redirect-agree Redirect-type_behind Redirect-result_type Redirect-same Redirect-redirecting Redirect-redirect_fn Redirect-redirect_entry Redirect-stays Redirect-redirect_fns Redirect-with_functions Redirect-with_entries Redirect-redirect Redirect-refusal Redirect-after Redirect-nothing Redirect-function Redirect-compared Redirect-with_replacement Redirect-with_original Redirect-redirect_function Tables-code_t Tables-is_t Tables-at Tables-upd Tables-six Tables-tables Tables-rec_at Tables-count Tables-map_at References-targets References-target References-ref_of References-refs References-fold_refs References-carry_w References-through References-undefined References-add References-span_by References-first_word References-undefined_at References-moved References-shift References-alike_c References-alike References-index_of References-interned Imports-unless_mapped Imports-intern Imports-mapped_to_t Imports-made Imports-commit Imports-step_t Imports-import_f Imports-levels Imports-import_t Imports-rename Imports-renamed Imports-unmapped Imports-emptied Imports-fresh Bodies-last_of Bodies-known Bodies-bring Bodies-compare_of Bodies-compares_of Bodies-each_e Bodies-opt_e Bodies-mapped_to Bodies-carried Bodies-step Bodies-append_expr Bodies-intern_expr Bodies-append_standing Bodies-import_e Bodies-import_body Bodies-import_initialiser Bodies-import_standing Bodies-import_stmt Bodies-import_form Bodies-import_block Bodies-import_case Bodies-import_cases Bodies-carried_form Bodies-rebuild_stmt Bodies-rebuild_form Bodies-rebuild_block Bodies-rebuild_case Bodies-rebuild_cases Bodies-put_name Bodies-name_if Bodies-keep_names Bodies-name_cells Bodies-named_rows Bodies-declarations Bodies-declared Bodies-walked Bodies-rebuilt Bodies-kept_names Bodies-named_after Bodies-derived Bodies-final Bodies-localized Bodies-appended Bodies-append Bodies-follow_f Bodies-follow Bodies-entered Bodies-entry_made Bodies-enter_all Bodies-entries_made Special-force Special-with_special Special-put_ray Special-ray_to Special-ray Special-rays Special-keyed Special-put_pair Special-pair_to Special-pairs Special-sourced Finish-names_in Finish-keep_n Finish-firsts Finish-index_n Finish-appearing Finish-renumber Finish-with_names Finish-named_by Finish-gathered Finish-finished Finish-passes Finish-too_large Session-after Session-new Session-with_source Session-unless_full Session-unknown Session-stuck Session-meets_ring Session-set_module Session-set Session-clear Session-map_span Session-importing Session-rename_type Session-import_function Session-map_function_handle Session-any_ray Session-has_required_special_types Session-write_if_fits Session-finish Session-callees_of Session-with_entries Session-finish_with_entry_points Link-append_all Link-link_by Link-in_order Link-link_module Link-link Link-output_after Link-link_image Steps-operations Steps-part Steps-says Steps-writes Steps-bit Steps-perform Steps-run Steps-answers_of Steps-output_of Steps-first_refused Steps-session bytes_of wrote does shared_steps shared_answers two-special special
shared = refl

-- ---- P1 and P2, and by another offset P3 and P4
unfoldable pub spans_steps : List ℕ
spans_steps = 0 ∷ 0 ∷ 92 ∷ 10 ∷ 2 ∷ 0 ∷ 0 ∷ 0 ∷ 2 ∷ 0 ∷ 4 ∷ 0 ∷ 0 ∷ 0 ∷ 92 ∷ 4294967290 ∷ 2 ∷ 5 ∷ 9 ∷ 0 ∷ 2 ∷ 6 ∷ 6 ∷ 0 ∷ []

unfoldable pub spans_answers : List ℕ
spans_answers = 0 ∷ 0 ∷ 0 ∷ 0 ∷ 0 ∷ 0 ∷ 0 ∷ 10 ∷ 14 ∷ 0 ∷ 0 ∷ 0 ∷ 0 ∷ 4294967295 ∷ 3 ∷ 0 ∷ 0 ∷ 0 ∷ []

pub spans : does (bytes_of nothing) spans_steps ≡ (0, spans_answers, [])
unfolding word_of words_of ◌⟫◌ Outcome-eat Outcome-map_o Outcome-exact Outcome-both Outcome-map_l Table-types Table-expressions Table-levels Table-queries Table-values Table-atomics Table-results Table-statements Table-name_row Table-type_row Table-constant_row Table-override_row Table-global_row Table-expression_row Table-function_head Table-entry_head Table-counted Table-limit Table-variants Table-repeat Table-text Table-variant Table-more Table-follow Table-run Tree-opt_of Tree-word_of Tree-kind_of Tree-size_b Tree-size_c Tree-flat_all Tree-flat_list Tree-flat_x Tree-flat_s Tree-flat_f Tree-flat_b Tree-flat_k Tree-flat_c Tree-flat_block Tree-flat Tree-flat_entry Tree-rows Tree-listed Tree-operands Tree-stmts Tree-case_at Tree-cases Tree-form Tree-checked Tree-shaped Tree-statement Tree-block_at Tree-function_at Tree-entry_at Module-next Module-records Module-table Module-special_at Module-count_at Module-offset_at Module-end_at Module-limits Module-placed Module-section Module-table_at ◌⊛◌ Module-read Module-places Module-flat_table Module-flat_special Module-sections Module-pairs_from Module-bodies Module-flat_module Module-write Module-sized Carry-carry_cell Carry-carry_opt Carry-carry_range Carry-carry_s Carry-carry_f Carry-carry_b Carry-carry_k Carry-carry_c Carry-carry_function Carry-carry_entry Carry-carry_special Carry-carry Operands-optional Operands-operand Operands-ops_of Operands-result_of Operands-function_of Operands-kind Operands-standing_kind Operands-result_kind Operands-emitted_kind Operands-constant_kind Operands-ops Operands-kind_at Operands-standing Lower-below Lower-bases_of Lower-types_lower Lower-operands_lower Lower-functions_lower Lower-entries_lower Lower-init_of Lower-inits_of Lower-inits_lower Lower-lower Names-field Names-present Names-absent Names-distinct Names-same Names-unlike Names-differ Names-expressions_named Names-functions_named Names-entries_named Names-function_names Names-entry_names Names-named Initial-inits_of Initial-roots Initial-marked Initial-mark Initial-unmarked Initial-read_by Initial-close Initial-reached_marks Initial-reached Initial-moving Initial-initials Initial-initial Initial-constant_at Initial-initialised Numbers-caps Numbers-bound Numbers-below Numbers-within Numbers-rising Numbers-ordered Numbers-every Numbers-outside Numbers-inside Numbers-sound Numbers-constant_only Numbers-numbered Scope-up_from Scope-in_range Scope-live Scope-expand_s Scope-expand_f Scope-expand Scope-expand_k Scope-expand_c Scope-shape_s Scope-shape_f Scope-shape_b Scope-shape_k Scope-shape_c Scope-emitted Scope-is_of Scope-call_result Scope-effect_result Scope-kinds_s Scope-kinds_f Scope-kinds_b Scope-kinds_k Scope-kinds_c Scope-evals_opt Scope-evals_s Scope-evals_f Scope-evals_b Scope-evals_k Scope-evals_c Scope-has Scope-distinct Scope-add_e Scope-add_opt Scope-add_f Scope-add_s Scope-top_b Scope-holds_s Scope-holds_f Scope-holds_b Scope-holds_k Scope-holds_c Scope-cont_b Scope-vis Scope-all_vis Scope-opt_vis Scope-ok_e Scope-ok_s Scope-ok_f Scope-ok_b Scope-ok_k Scope-ok_c Scope-all_of Scope-seen Scope-scoped_as Scope-scoped Scope-all_scoped Scope-entries_scoped Scope-in_scope Intake-tested Intake-verdict Intake-intake_of Intake-of_laid Intake-after_intake Intake-on_words Calls-numbers Calls-any Calls-keep Calls-free Calls-held Calls-round Calls-rounds Calls-answer Calls-order Callees-callees_s Callees-callees_f Callees-callees_b Callees-callees_k Callees-callees_c Callees-callees_at Callees-calls Callees-order_of Redirect-name_word Redirect-find Redirect-omitted Redirect-all_below Redirect-argument_types Redirect-agree Redirect-type_behind Redirect-result_type Redirect-same Redirect-redirecting Redirect-redirect_fn Redirect-redirect_entry Redirect-stays Redirect-redirect_fns Redirect-with_functions Redirect-with_entries Redirect-redirect Redirect-refusal Redirect-after Redirect-nothing Redirect-function Redirect-compared Redirect-with_replacement Redirect-with_original Redirect-redirect_function Tables-code_t Tables-is_t Tables-at Tables-upd Tables-six Tables-tables Tables-rec_at Tables-count Tables-map_at References-targets References-target References-ref_of References-refs References-fold_refs References-carry_w References-through References-undefined References-add References-span_by References-first_word References-undefined_at References-moved References-shift References-alike_c References-alike References-index_of References-interned Imports-unless_mapped Imports-intern Imports-mapped_to_t Imports-made Imports-commit Imports-step_t Imports-import_f Imports-levels Imports-import_t Imports-rename Imports-renamed Imports-unmapped Imports-emptied Imports-fresh Bodies-last_of Bodies-known Bodies-bring Bodies-compare_of Bodies-compares_of Bodies-each_e Bodies-opt_e Bodies-mapped_to Bodies-carried Bodies-step Bodies-append_expr Bodies-intern_expr Bodies-append_standing Bodies-import_e Bodies-import_body Bodies-import_initialiser Bodies-import_standing Bodies-import_stmt Bodies-import_form Bodies-import_block Bodies-import_case Bodies-import_cases Bodies-carried_form Bodies-rebuild_stmt Bodies-rebuild_form Bodies-rebuild_block Bodies-rebuild_case Bodies-rebuild_cases Bodies-put_name Bodies-name_if Bodies-keep_names Bodies-name_cells Bodies-named_rows Bodies-declarations Bodies-declared Bodies-walked Bodies-rebuilt Bodies-kept_names Bodies-named_after Bodies-derived Bodies-final Bodies-localized Bodies-appended Bodies-append Bodies-follow_f Bodies-follow Bodies-entered Bodies-entry_made Bodies-enter_all Bodies-entries_made Special-force Special-with_special Special-put_ray Special-ray_to Special-ray Special-rays Special-keyed Special-put_pair Special-pair_to Special-pairs Special-sourced Finish-names_in Finish-keep_n Finish-firsts Finish-index_n Finish-appearing Finish-renumber Finish-with_names Finish-named_by Finish-gathered Finish-finished Finish-passes Finish-too_large Session-after Session-new Session-with_source Session-unless_full Session-unknown Session-stuck Session-meets_ring Session-set_module Session-set Session-clear Session-map_span Session-importing Session-rename_type Session-import_function Session-map_function_handle Session-any_ray Session-has_required_special_types Session-write_if_fits Session-finish Session-callees_of Session-with_entries Session-finish_with_entry_points Link-append_all Link-link_by Link-in_order Link-link_module Link-link Link-output_after Link-link_image Steps-operations Steps-part Steps-says Steps-writes Steps-bit Steps-perform Steps-run Steps-answers_of Steps-output_of Steps-first_refused Steps-session bytes_of wrote does spans_steps spans_answers nothing
spans = refl

-- ---- a type of one source; of another the same with another span, and a second
unfoldable pub types-steps : List ℕ
types-steps = 0 ∷ 0 ∷ 140 ∷ 0 ∷ 3 ∷ 0 ∷ 0 ∷ 0 ∷ 0 ∷ 140 ∷ 188 ∷ 0 ∷ 3 ∷ 0 ∷ 0 ∷ 0 ∷ 3 ∷ 1 ∷ 0 ∷ 0 ∷ 13 ∷ 0 ∷ 400 ∷ 0 ∷ []

unfoldable pub types_answers : List ℕ
types_answers = 0 ∷ 0 ∷ 0 ∷ 0 ∷ 0 ∷ 0 ∷ 0 ∷ 0 ∷ 0 ∷ 0 ∷ 0 ∷ 0 ∷ 0 ∷ 1 ∷ 0 ∷ 0 ∷ 188 ∷ 0 ∷ []

pub types : does (bytes_of two_sources) types-steps ≡ (0, types_answers, (0, merged) ∷ [])
unfolding word_of words_of ◌⟫◌ Outcome-eat Outcome-map_o Outcome-exact Outcome-both Outcome-map_l Table-types Table-expressions Table-levels Table-queries Table-values Table-atomics Table-results Table-statements Table-name_row Table-type_row Table-constant_row Table-override_row Table-global_row Table-expression_row Table-function_head Table-entry_head Table-counted Table-limit Table-variants Table-repeat Table-text Table-variant Table-more Table-follow Table-run Tree-opt_of Tree-word_of Tree-kind_of Tree-size_b Tree-size_c Tree-flat_all Tree-flat_list Tree-flat_x Tree-flat_s Tree-flat_f Tree-flat_b Tree-flat_k Tree-flat_c Tree-flat_block Tree-flat Tree-flat_entry Tree-rows Tree-listed Tree-operands Tree-stmts Tree-case_at Tree-cases Tree-form Tree-checked Tree-shaped Tree-statement Tree-block_at Tree-function_at Tree-entry_at Module-next Module-records Module-table Module-special_at Module-count_at Module-offset_at Module-end_at Module-limits Module-placed Module-section Module-table_at ◌⊛◌ Module-read Module-places Module-flat_table Module-flat_special Module-sections Module-pairs_from Module-bodies Module-flat_module Module-write Module-sized Carry-carry_cell Carry-carry_opt Carry-carry_range Carry-carry_s Carry-carry_f Carry-carry_b Carry-carry_k Carry-carry_c Carry-carry_function Carry-carry_entry Carry-carry_special Carry-carry Operands-optional Operands-operand Operands-ops_of Operands-result_of Operands-function_of Operands-kind Operands-standing_kind Operands-result_kind Operands-emitted_kind Operands-constant_kind Operands-ops Operands-kind_at Operands-standing Lower-below Lower-bases_of Lower-types_lower Lower-operands_lower Lower-functions_lower Lower-entries_lower Lower-init_of Lower-inits_of Lower-inits_lower Lower-lower Names-field Names-present Names-absent Names-distinct Names-same Names-unlike Names-differ Names-expressions_named Names-functions_named Names-entries_named Names-function_names Names-entry_names Names-named Initial-inits_of Initial-roots Initial-marked Initial-mark Initial-unmarked Initial-read_by Initial-close Initial-reached_marks Initial-reached Initial-moving Initial-initials Initial-initial Initial-constant_at Initial-initialised Numbers-caps Numbers-bound Numbers-below Numbers-within Numbers-rising Numbers-ordered Numbers-every Numbers-outside Numbers-inside Numbers-sound Numbers-constant_only Numbers-numbered Scope-up_from Scope-in_range Scope-live Scope-expand_s Scope-expand_f Scope-expand Scope-expand_k Scope-expand_c Scope-shape_s Scope-shape_f Scope-shape_b Scope-shape_k Scope-shape_c Scope-emitted Scope-is_of Scope-call_result Scope-effect_result Scope-kinds_s Scope-kinds_f Scope-kinds_b Scope-kinds_k Scope-kinds_c Scope-evals_opt Scope-evals_s Scope-evals_f Scope-evals_b Scope-evals_k Scope-evals_c Scope-has Scope-distinct Scope-add_e Scope-add_opt Scope-add_f Scope-add_s Scope-top_b Scope-holds_s Scope-holds_f Scope-holds_b Scope-holds_k Scope-holds_c Scope-cont_b Scope-vis Scope-all_vis Scope-opt_vis Scope-ok_e Scope-ok_s Scope-ok_f Scope-ok_b Scope-ok_k Scope-ok_c Scope-all_of Scope-seen Scope-scoped_as Scope-scoped Scope-all_scoped Scope-entries_scoped Scope-in_scope Intake-tested Intake-verdict Intake-intake_of Intake-of_laid Intake-after_intake Intake-on_words Calls-numbers Calls-any Calls-keep Calls-free Calls-held Calls-round Calls-rounds Calls-answer Calls-order Callees-callees_s Callees-callees_f Callees-callees_b Callees-callees_k Callees-callees_c Callees-callees_at Callees-calls Callees-order_of Redirect-name_word Redirect-find Redirect-omitted Redirect-all_below Redirect-argument_types Redirect-agree Redirect-type_behind Redirect-result_type Redirect-same Redirect-redirecting Redirect-redirect_fn Redirect-redirect_entry Redirect-stays Redirect-redirect_fns Redirect-with_functions Redirect-with_entries Redirect-redirect Redirect-refusal Redirect-after Redirect-nothing Redirect-function Redirect-compared Redirect-with_replacement Redirect-with_original Redirect-redirect_function Tables-code_t Tables-is_t Tables-at Tables-upd Tables-six Tables-tables Tables-rec_at Tables-count Tables-map_at References-targets References-target References-ref_of References-refs References-fold_refs References-carry_w References-through References-undefined References-add References-span_by References-first_word References-undefined_at References-moved References-shift References-alike_c References-alike References-index_of References-interned Imports-unless_mapped Imports-intern Imports-mapped_to_t Imports-made Imports-commit Imports-step_t Imports-import_f Imports-levels Imports-import_t Imports-rename Imports-renamed Imports-unmapped Imports-emptied Imports-fresh Bodies-last_of Bodies-known Bodies-bring Bodies-compare_of Bodies-compares_of Bodies-each_e Bodies-opt_e Bodies-mapped_to Bodies-carried Bodies-step Bodies-append_expr Bodies-intern_expr Bodies-append_standing Bodies-import_e Bodies-import_body Bodies-import_initialiser Bodies-import_standing Bodies-import_stmt Bodies-import_form Bodies-import_block Bodies-import_case Bodies-import_cases Bodies-carried_form Bodies-rebuild_stmt Bodies-rebuild_form Bodies-rebuild_block Bodies-rebuild_case Bodies-rebuild_cases Bodies-put_name Bodies-name_if Bodies-keep_names Bodies-name_cells Bodies-named_rows Bodies-declarations Bodies-declared Bodies-walked Bodies-rebuilt Bodies-kept_names Bodies-named_after Bodies-derived Bodies-final Bodies-localized Bodies-appended Bodies-append Bodies-follow_f Bodies-follow Bodies-entered Bodies-entry_made Bodies-enter_all Bodies-entries_made Special-force Special-with_special Special-put_ray Special-ray_to Special-ray Special-rays Special-keyed Special-put_pair Special-pair_to Special-pairs Special-sourced Finish-names_in Finish-keep_n Finish-firsts Finish-index_n Finish-appearing Finish-renumber Finish-with_names Finish-named_by Finish-gathered Finish-finished Finish-passes Finish-too_large Session-after Session-new Session-with_source Session-unless_full Session-unknown Session-stuck Session-meets_ring Session-set_module Session-set Session-clear Session-map_span Session-importing Session-rename_type Session-import_function Session-map_function_handle Session-any_ray Session-has_required_special_types Session-write_if_fits Session-finish Session-callees_of Session-with_entries Session-finish_with_entry_points Link-append_all Link-link_by Link-in_order Link-link_module Link-link Link-output_after Link-link_image Steps-operations Steps-part Steps-says Steps-writes Steps-bit Steps-perform Steps-run Steps-answers_of Steps-output_of Steps-first_refused Steps-session bytes_of wrote does types-steps types_answers two_sources merged
types = refl
