-- What `specs/SessionExamples.antt` states holds: each side computes to the other.
use Rattle.std.specs.Prelude.{refl}
use Rattle.base_words.specs.Words.{word_of as wordAt4, words_of, bytes_of}
use Rattle.model.specs.Outcome.{◌⟫◌, eat as Outcome-eat, map_o as Outcome-mapO, exact as Outcome-exact, both as Outcome-both, map_l as Outcome-mapL}
use Rattle.model.specs.Table.{types as Table-types, expressions as Table-expressions, levels as Table-levels, queries as Table-queries, values as Table-values, atomics as Table-atomics, results as Table-results, statements as Table-statements, name_row as Table-nameRow, type_row as Table-typeRow, constant_row as Table-constantRow, override_row as Table-overrideRow, global_row as Table-globalRow, expression_row as Table-expressionRow, function_head as Table-functionHead, entry_head as Table-entryHead, counted as Table-counted, limit as Table-limit, variants as Table-variants, repeat as Table-repeat, text as Table-text, variant as Table-variant, more as Table-more, follow as Table-follow, run as Table-run}
use Rattle.model.specs.Tree.{opt_of as Tree-optOf, word_of as Tree-wordOf, kind_of as Tree-kindOf, size_b as Tree-sizeB, size_c as Tree-sizeC, flat_all as Tree-flatAll, flat_list as Tree-flatList, flat_x as Tree-flatX, flat_s as Tree-flatS, flat_f as Tree-flatF, flat_b as Tree-flatB, flat_k as Tree-flatK, flat_c as Tree-flatC, flat_block as Tree-flatBlock, flat as Tree-flat, flat_entry as Tree-flatEntry, rows as Tree-rows, listed as Tree-listed, operands as Tree-operands, stmts as Tree-stmts, case_at as Tree-caseAt, cases as Tree-cases, form as Tree-form, checked as Tree-checked, shaped as Tree-shaped, statement as Tree-statement, block_at as Tree-blockAt, function_at as Tree-functionAt, entry_at as Tree-entryAt}
use Rattle.model.specs.Module.{write, next as Module-next, records as Module-records, table as Module-table, special_at as Module-specialAt, count_at as Module-countAt, offset_at as Module-offsetAt, end_at as Module-endAt, limits as Module-limits, placed as Module-placed, section as Module-section, table_at as Module-tableAt, ◌⊛◌, read as Module-read, places as Module-places, flat_table as Module-flatTable, flat_special as Module-flatSpecial, sections as Module-sections, pairs_from as Module-pairsFrom, bodies as Module-bodies, flat_module as Module-flatModule, sized as Module-sized}
use Rattle.model.specs.Carry.{carry_cell as Carry-carryCell, carry_opt as Carry-carryOpt, carry_range as Carry-carryRange, carry_s as Carry-carryS, carry_f as Carry-carryF, carry_b as Carry-carryB, carry_k as Carry-carryK, carry_c as Carry-carryC, carry_function as Carry-carryFunction, carry_entry as Carry-carryEntry, carry_special as Carry-carrySpecial, carry as Carry-carry}
use Rattle.model.specs.Operands.{optional as Operands-optional, operand as Operands-operand, ops_of as Operands-opsOf, result_of as Operands-resultOf, function_of as Operands-functionOf, kind as Operands-kind, standing_kind as Operands-standingKind, result_kind as Operands-resultKind, emitted_kind as Operands-emittedKind, constant_kind as Operands-constantKind, ops as Operands-ops, kind_at as Operands-kindAt, standing as Operands-standing}
use Rattle.model.specs.Lower.{below as Lower-below, bases_of as Lower-basesOf, types_lower as Lower-typesLower, operands_lower as Lower-operandsLower, functions_lower as Lower-functionsLower, entries_lower as Lower-entriesLower, init_of as Lower-initOf, inits_of as Lower-initsOf, inits_lower as Lower-initsLower, lower as Lower-lower}
use Rattle.model.specs.Names.{field as Names-field, present as Names-present, absent as Names-absent, distinct as Names-distinct, same as Names-same, unlike as Names-unlike, differ as Names-differ, expressions_named as Names-expressionsNamed, functions_named as Names-functionsNamed, entries_named as Names-entriesNamed, function_names as Names-functionNames, entry_names as Names-entryNames, named as Names-named}
use Rattle.model.specs.Initial.{inits_of as Initial-initsOf, roots as Initial-roots, marked as Initial-marked, mark as Initial-mark, unmarked as Initial-unmarked, read_by as Initial-readBy, close as Initial-close, reached_marks as Initial-reachedMarks, reached as Initial-reached, moving as Initial-moving, initials as Initial-initials, initial as Initial-initial, constant_at as Initial-constantAt, initialised as Initial-initialised}
use Rattle.model.specs.Numbers.{caps as Numbers-caps, bound as Numbers-bound, below as Numbers-below, within as Numbers-within, rising as Numbers-rising, ordered as Numbers-ordered, every as Numbers-every, outside as Numbers-outside, inside as Numbers-inside, sound as Numbers-sound, constant_only as Numbers-constantOnly, numbered as Numbers-numbered}
use Rattle.model.specs.Scope.{up_from as Scope-upFrom, in_range as Scope-inRange, live as Scope-live, expand_s as Scope-expandS, expand_f as Scope-expandF, expand as Scope-expand, expand_k as Scope-expandK, expand_c as Scope-expandC, shape_s as Scope-shapeS, shape_f as Scope-shapeF, shape_b as Scope-shapeB, shape_k as Scope-shapeK, shape_c as Scope-shapeC, emitted as Scope-emitted, is_of as Scope-isOf, call_result as Scope-callResult, effect_result as Scope-effectResult, kinds_s as Scope-kindsS, kinds_f as Scope-kindsF, kinds_b as Scope-kindsB, kinds_k as Scope-kindsK, kinds_c as Scope-kindsC, evals_opt as Scope-evalsOpt, evals_s as Scope-evalsS, evals_f as Scope-evalsF, evals_b as Scope-evalsB, evals_k as Scope-evalsK, evals_c as Scope-evalsC, has as Scope-has, distinct as Scope-distinct, add_e as Scope-addE, add_opt as Scope-addOpt, add_f as Scope-addF, add_s as Scope-addS, top_b as Scope-topB, holds_s as Scope-holdsS, holds_f as Scope-holdsF, holds_b as Scope-holdsB, holds_k as Scope-holdsK, holds_c as Scope-holdsC, cont_b as Scope-contB, vis as Scope-vis, all_vis as Scope-allVis, opt_vis as Scope-optVis, ok_e as Scope-okE, ok_s as Scope-okS, ok_f as Scope-okF, ok_b as Scope-okB, ok_k as Scope-okK, ok_c as Scope-okC, all_of as Scope-allOf, seen as Scope-seen, scoped_as as Scope-scopedAs, scoped as Scope-scoped, all_scoped as Scope-allScoped, entries_scoped as Scope-entriesScoped, in_scope as Scope-inScope}
use Rattle.model.specs.Intake.{tested as Intake-tested, verdict as Intake-verdict, intake_of as Intake-intakeOf, of_laid as Intake-ofLaid, after_intake as Intake-afterIntake, on_words as Intake-onWords}
use Rattle.model.specs.Calls.{numbers as Calls-numbers, any as Calls-any, keep as Calls-keep, free as Calls-free, held as Calls-held, round as Calls-round, rounds as Calls-rounds, answer as Calls-answer, order as Calls-order}
use Rattle.model.specs.Callees.{callees_s as Callees-calleesS, callees_f as Callees-calleesF, callees_b as Callees-calleesB, callees_k as Callees-calleesK, callees_c as Callees-calleesC, callees_at as Callees-calleesAt, calls as Callees-calls, order_of as Callees-orderOf}
use Rattle.model.specs.Redirect.{name_word as Redirect-nameWord, find as Redirect-find, omitted as Redirect-omitted, all_below as Redirect-allBelow, argument_types as Redirect-argumentTypes, agree as Redirect-agree, type_behind as Redirect-typeBehind, result_type as Redirect-resultType, same as Redirect-same, redirecting as Redirect-redirecting, redirect_fn as Redirect-redirectFn, redirect_entry as Redirect-redirectEntry, stays as Redirect-stays, redirect_fns as Redirect-redirectFns, with_functions as Redirect-withFunctions, with_entries as Redirect-withEntries, redirect as Redirect-redirect, refusal as Redirect-refusal, after as Redirect-after, nothing as Redirect-nothing, function as Redirect-function, compared as Redirect-compared, with_replacement as Redirect-withReplacement, with_original as Redirect-withOriginal, redirect_function as Redirect-redirectFunction}
use Rattle.model.specs.Tables.{tables, code_t as Tables-codeT, is_t as Tables-isT, at as Tables-at, upd as Tables-upd, six as Tables-six, rec_at as Tables-recAt, count as Tables-count, map_at as Tables-mapAt}
use Rattle.model.specs.References.{targets as References-targets, target as References-target, ref_of as References-refOf, refs as References-refs, fold_refs as References-foldRefs, carry_w as References-carryW, through as References-through, undefined as References-undefined, add as References-add, span_by as References-spanBy, first_word as References-firstWord, undefined_at as References-undefinedAt, moved as References-moved, shift as References-shift, alike_c as References-alikeC, alike as References-alike, index_of as References-indexOf, interned as References-interned}
use Rattle.model.specs.Imports.{unmapped, fresh, unless_mapped as Imports-unlessMapped, intern as Imports-intern, mapped_to_t as Imports-mappedToT, made as Imports-made, commit as Imports-commit, step_t as Imports-stepT, import_f as Imports-importF, levels as Imports-levels, import_t as Imports-importT, rename as Imports-rename, renamed as Imports-renamed, emptied as Imports-emptied}
use Rattle.model.specs.Bodies.{last_of as Bodies-lastOf, known as Bodies-known, bring as Bodies-bring, compare_of as Bodies-compareOf, compares_of as Bodies-comparesOf, each_e as Bodies-eachE, opt_e as Bodies-optE, mapped_to as Bodies-mappedTo, carried as Bodies-carried, step as Bodies-step, append_expr as Bodies-appendExpr, intern_expr as Bodies-internExpr, append_standing as Bodies-appendStanding, import_e as Bodies-importE, import_body as Bodies-importBody, import_initialiser as Bodies-importInitialiser, import_standing as Bodies-importStanding, import_stmt as Bodies-importStmt, import_form as Bodies-importForm, import_block as Bodies-importBlock, import_case as Bodies-importCase, import_cases as Bodies-importCases, carried_form as Bodies-carriedForm, rebuild_stmt as Bodies-rebuildStmt, rebuild_form as Bodies-rebuildForm, rebuild_block as Bodies-rebuildBlock, rebuild_case as Bodies-rebuildCase, rebuild_cases as Bodies-rebuildCases, put_name as Bodies-putName, name_if as Bodies-nameIf, keep_names as Bodies-keepNames, name_cells as Bodies-nameCells, named_rows as Bodies-namedRows, declarations as Bodies-declarations, declared as Bodies-declared, walked as Bodies-walked, rebuilt as Bodies-rebuilt, kept_names as Bodies-keptNames, named_after as Bodies-namedAfter, derived as Bodies-derived, final as Bodies-final, localized as Bodies-localized, appended as Bodies-appended, append as Bodies-append, follow_f as Bodies-followF, follow as Bodies-follow, entered as Bodies-entered, entry_made as Bodies-entryMade, enter_all as Bodies-enterAll, entries_made as Bodies-entriesMade}
use Rattle.model.specs.Special.{force as Special-force, with_special as Special-withSpecial, put_ray as Special-putRay, ray_to as Special-rayTo, ray as Special-ray, rays as Special-rays, keyed as Special-keyed, put_pair as Special-putPair, pair_to as Special-pairTo, pairs as Special-pairs, sourced as Special-sourced}
use Rattle.model.specs.Finish.{finished, names_in as Finish-namesIn, keep_n as Finish-keepN, firsts as Finish-firsts, index_n as Finish-indexN, appearing as Finish-appearing, renumber as Finish-renumber, with_names as Finish-withNames, named_by as Finish-namedBy, gathered as Finish-gathered, passes as Finish-passes, too_large as Finish-tooLarge}
use Rattle.model.specs.Session.{after, new, set, clear, map_span, rename_type, import_function, map_function_handle, finish, finish_with_entry_points, with_source as Session-withSource, unless_full as Session-unlessFull, unknown as Session-unknown, stuck as Session-stuck, meets_ring as Session-meetsRing, set_module as Session-setModule, importing as Session-importing, any_ray as Session-anyRay, has_required_special_types as Session-hasRequiredSpecialTypes, write_if_fits as Session-writeIfFits, callees_of as Session-calleesOf, with_entries as Session-withEntries}
use Rattle.model.specs.Link.{append_all as Link-appendAll, link_by as Link-linkBy, in_order as Link-inOrder, link_module as Link-linkModule, link as Link-link}
use Rattle.model.specs.Steps.{run, answers_of, first_refused, operations as Steps-operations, part as Steps-part, says as Steps-says, writes as Steps-writes, bit as Steps-bit, perform as Steps-perform, output_of as Steps-outputOf, session as Steps-session}
use Rattle.model.specs.SessionExamples.{on, refusal, known-before, rays_of_two, function-first, source_bytes, steps, Sessions}

pub sessions : Sessions
unfolding wordAt4 words_of bytes_of on refusal known-before rays_of_two function-first source_bytes steps ◌⟫◌ Outcome-eat Outcome-mapO Outcome-exact Outcome-both Outcome-mapL Table-types Table-expressions Table-levels Table-queries Table-values Table-atomics Table-results Table-statements Table-nameRow Table-typeRow Table-constantRow Table-overrideRow Table-globalRow Table-expressionRow Table-functionHead Table-entryHead Table-counted Table-limit Table-variants Table-repeat Table-text Table-variant Table-more Table-follow Table-run Tree-optOf Tree-wordOf Tree-kindOf Tree-sizeB Tree-sizeC Tree-flatAll Tree-flatList Tree-flatX Tree-flatS Tree-flatF Tree-flatB Tree-flatK Tree-flatC Tree-flatBlock Tree-flat Tree-flatEntry Tree-rows Tree-listed Tree-operands Tree-stmts Tree-caseAt Tree-cases Tree-form Tree-checked Tree-shaped Tree-statement Tree-blockAt Tree-functionAt Tree-entryAt write Module-next Module-records Module-table Module-specialAt Module-countAt Module-offsetAt Module-endAt Module-limits Module-placed Module-section Module-tableAt ◌⊛◌ Module-read Module-places Module-flatTable Module-flatSpecial Module-sections Module-pairsFrom Module-bodies Module-flatModule Module-sized Carry-carryCell Carry-carryOpt Carry-carryRange Carry-carryS Carry-carryF Carry-carryB Carry-carryK Carry-carryC Carry-carryFunction Carry-carryEntry Carry-carrySpecial Carry-carry Operands-optional Operands-operand Operands-opsOf Operands-resultOf Operands-functionOf Operands-kind Operands-standingKind Operands-resultKind Operands-emittedKind Operands-constantKind Operands-ops Operands-kindAt Operands-standing Lower-below Lower-basesOf Lower-typesLower Lower-operandsLower Lower-functionsLower Lower-entriesLower Lower-initOf Lower-initsOf Lower-initsLower Lower-lower Names-field Names-present Names-absent Names-distinct Names-same Names-unlike Names-differ Names-expressionsNamed Names-functionsNamed Names-entriesNamed Names-functionNames Names-entryNames Names-named Initial-initsOf Initial-roots Initial-marked Initial-mark Initial-unmarked Initial-readBy Initial-close Initial-reachedMarks Initial-reached Initial-moving Initial-initials Initial-initial Initial-constantAt Initial-initialised Numbers-caps Numbers-bound Numbers-below Numbers-within Numbers-rising Numbers-ordered Numbers-every Numbers-outside Numbers-inside Numbers-sound Numbers-constantOnly Numbers-numbered Scope-upFrom Scope-inRange Scope-live Scope-expandS Scope-expandF Scope-expand Scope-expandK Scope-expandC Scope-shapeS Scope-shapeF Scope-shapeB Scope-shapeK Scope-shapeC Scope-emitted Scope-isOf Scope-callResult Scope-effectResult Scope-kindsS Scope-kindsF Scope-kindsB Scope-kindsK Scope-kindsC Scope-evalsOpt Scope-evalsS Scope-evalsF Scope-evalsB Scope-evalsK Scope-evalsC Scope-has Scope-distinct Scope-addE Scope-addOpt Scope-addF Scope-addS Scope-topB Scope-holdsS Scope-holdsF Scope-holdsB Scope-holdsK Scope-holdsC Scope-contB Scope-vis Scope-allVis Scope-optVis Scope-okE Scope-okS Scope-okF Scope-okB Scope-okK Scope-okC Scope-allOf Scope-seen Scope-scopedAs Scope-scoped Scope-allScoped Scope-entriesScoped Scope-inScope Intake-tested Intake-verdict Intake-intakeOf Intake-ofLaid Intake-afterIntake Intake-onWords Calls-numbers Calls-any Calls-keep Calls-free Calls-held Calls-round Calls-rounds Calls-answer Calls-order Callees-calleesS Callees-calleesF Callees-calleesB Callees-calleesK Callees-calleesC Callees-calleesAt Callees-calls Callees-orderOf Redirect-nameWord Redirect-find Redirect-omitted Redirect-allBelow Redirect-argumentTypes Redirect-agree Redirect-typeBehind Redirect-resultType Redirect-same Redirect-redirecting Redirect-redirectFn Redirect-redirectEntry Redirect-stays Redirect-redirectFns Redirect-withFunctions Redirect-withEntries Redirect-redirect Redirect-refusal Redirect-after Redirect-nothing Redirect-function Redirect-compared Redirect-withReplacement Redirect-withOriginal Redirect-redirectFunction tables Tables-codeT Tables-isT Tables-at Tables-upd Tables-six Tables-recAt Tables-count Tables-mapAt References-targets References-target References-refOf References-refs References-foldRefs References-carryW References-through References-undefined References-add References-spanBy References-firstWord References-undefinedAt References-moved References-shift References-alikeC References-alike References-indexOf References-interned unmapped fresh Imports-unlessMapped Imports-intern Imports-mappedToT Imports-made Imports-commit Imports-stepT Imports-importF Imports-levels Imports-importT Imports-rename Imports-renamed Imports-emptied Bodies-lastOf Bodies-known Bodies-bring Bodies-compareOf Bodies-comparesOf Bodies-eachE Bodies-optE Bodies-mappedTo Bodies-carried Bodies-step Bodies-appendExpr Bodies-internExpr Bodies-appendStanding Bodies-importE Bodies-importBody Bodies-importInitialiser Bodies-importStanding Bodies-importStmt Bodies-importForm Bodies-importBlock Bodies-importCase Bodies-importCases Bodies-carriedForm Bodies-rebuildStmt Bodies-rebuildForm Bodies-rebuildBlock Bodies-rebuildCase Bodies-rebuildCases Bodies-putName Bodies-nameIf Bodies-keepNames Bodies-nameCells Bodies-namedRows Bodies-declarations Bodies-declared Bodies-walked Bodies-rebuilt Bodies-keptNames Bodies-namedAfter Bodies-derived Bodies-final Bodies-localized Bodies-appended Bodies-append Bodies-followF Bodies-follow Bodies-entered Bodies-entryMade Bodies-enterAll Bodies-entriesMade Special-force Special-withSpecial Special-putRay Special-rayTo Special-ray Special-rays Special-keyed Special-putPair Special-pairTo Special-pairs Special-sourced finished Finish-namesIn Finish-keepN Finish-firsts Finish-indexN Finish-appearing Finish-renumber Finish-withNames Finish-namedBy Finish-gathered Finish-passes Finish-tooLarge after new set clear map_span rename_type import_function map_function_handle finish finish_with_entry_points Session-withSource Session-unlessFull Session-unknown Session-stuck Session-meetsRing Session-setModule Session-importing Session-anyRay Session-hasRequiredSpecialTypes Session-writeIfFits Session-calleesOf Session-withEntries Link-appendAll Link-linkBy Link-inOrder Link-linkModule Link-link run answers_of first_refused Steps-operations Steps-part Steps-says Steps-writes Steps-bit Steps-perform Steps-outputOf Steps-session
sessions = record { too_short = refl; no_source = refl; no_span = refl; no_entries = refl; outside = refl; outside_name = refl; rings = refl; rings_before_full = refl; full = refl; no_ring_by_name = refl; full_before_short = refl; short = refl; empty = refl; still-known = refl; cleared = refl; first-ray = refl; one_type_lem = refl; maps_there = refl; names_first = refl; types-first = refl; answers = refl; first_refused_lem = refl }
