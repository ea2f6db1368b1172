-- DEMAND 3 BY EXAMPLE: a small image that meets what the theorem requires, with its link and its maps by computation, and one whose function calls itself. So the theorem is not empty: of the first it gives agreement in full with what is linked, of the second that nothing is.
use Rattle.std.specs.Prelude.{◌≡◌, refl, true, List, [], ◌∷◌, ℕ, ◌*◌, ◌<◌, length}
use Rattle.std.proofs.Math.Option.{none}
use Rattle.std.proofs.Common.{le_refl, le-ltb}
use native.Mathlib.Omega.{arith}
use Rattle.model.specs.Outcome.{Cells, laid, ◌⟫◌, eat, map_o, exact, both, map_l}
use Rattle.model.specs.Table.{WORD, SPAN, UPTO, NAME, TYPE, OPT_TYPE, LOCAL-INIT, KEY, types as typeRows, expressions, levels as levelRows, queries, values, atomics, results, statements, name_row, type_row, constant_row, override_row, global_row, expression_row, function_head, entry_head, counted, limit, variants, repeat, text, variant, more, follow as following, run}
use Rattle.model.specs.Tree.{call, end, ◌then◌, Function, Entry, opt_of, word_of, kind_of, size_b, size_c, flat_all, flat_list, flat_x, flat_s, flat_block, flat, flat_entry, rows, listed, operands, stmts, case_at, cases, form, checked, shaped, statement, block_at, function_at, entry_at}
use Rattle.model.specs.Module.{Module, next, records, table, special_at, count_at, offset_at, end_at, limits, placed, section, table_at, ◌⊛◌, read, places, flat_table, flat_special, sections, pairs_from, bodies, flat_module, write, sized}
use Rattle.model.specs.Carry.{carry_cell, carry_opt, carry_range, carry_s, carry_function, carry_entry, carry_special, carry}
use Rattle.model.specs.Operands.{optional, operand, ops_of, result_of, function_of, kind, standing_kind, result_kind, emitted_kind, constant_kind, ops, kind_at, standing}
use Rattle.model.specs.Initial.{inits_of as localInits, roots, marked, mark, unmarked, read_by, close, reached_marks, moving, initials, constant_at, initialised}
use Rattle.model.specs.Numbers.{caps, bound, below, within, rising, ordered as rises, every, outside, inside, sound, constant_only, numbered}
use Rattle.model.specs.Lower.{below as lowerThan, bases_of, types_lower, operands_lower, functions_lower, entries_lower, init_of, inits_of, inits_lower, lower}
use Rattle.model.specs.Names.{field, present, absent, distinct, same, unlike, differ, expressions_named, functions_named, entries_named, function_names, entry_names, named}
use Rattle.model.specs.Scope.{up_from, in_range, live, expand_s, shape_s, emitted, is_of, call_result, effect_result, kinds_s, evals_opt, evals_s, has, distinct as apart, add_e, add_opt, add_f, add_s, top_b, holds_s, cont_b, vis, all_vis, opt_vis, ok_e, ok_s, all_of, seen, scoped_as, scoped, all_scoped, entries_scoped, in_scope}
use Rattle.model.specs.Intake.{tested, verdict, intake_of, of_laid, after_intake, on_words}
use Rattle.model.specs.Calls.{one, ordered, numbers as counting, any, keep, free, held, round, rounds, answer, order}
use Rattle.model.specs.Callees.{callees_s, callees_at, calls, order_of}
use Rattle.model.specs.Redirect.{name_word, nothing, function}
use Rattle.model.specs.Tables.{code_t, is_t, at, upd, six, tables, rec_at, count, map_at}
use Rattle.model.specs.References.{targets, target, ref_of, refs, fold_refs, carry_w, through, undefined, add as addSpan, span_by, first_word, undefined_at, moved, shift, alike_c, alike, index_of, interned}
use Rattle.model.specs.Imports.{unless_mapped, intern, mapped_to_t, made, commit, step_t, import_f, levels, import_t, unmapped, emptied, fresh}
use Rattle.model.specs.Bodies.{last_of, known, bring, compare_of, compares_of, each_e, opt_e, mapped_to, carried, step, append_expr, intern_expr, append_standing, import_e, import_body, import_initialiser, import_standing, import_stmt, carried_form, rebuild_stmt, put_name, name_if, keep_names, name_cells, named_rows, declarations, declared, walked, rebuilt, kept_names, named_after, derived, final, localized, appended, append, follow_f, follow, entered, entry_made, enter_all, entries_made}
use Rattle.model.specs.Special.{force, with_special, put_ray, ray_to, ray, rays, keyed, put_pair, pair_to, pairs, sourced}
use Rattle.model.specs.Finish.{names_in, keep_n, firsts, index_n, appearing, renumber, with_names, named_by, gathered, finished}
use Rattle.model.specs.Session.{with_entries}
use Rattle.model.specs.Refusals.{done}
use Rattle.model.specs.Link.{append_all, link_by, in_order, link_module, link}
use Rattle.model.specs.LinkMaps.{places_of, memos_of, memos_in, link_maps}
use Rattle.model.specs.Agreement.{Mapping, Agreement}
use Rattle.model.specs.SampleBodies.{literal, splat, add, does, evals}
use Rattle.model.specs.RedirectExamples.{letter}
use Rattle.model.specs.ImportExamples.{leaf, function_with, named as naming}
use Rattle.theory_link.specs.Demand.{Linking, Output, Demand3}
use Rattle.theory_link.proofs.Theorem.{demand3}

-- ---- A LAMP. "shade calls fog; tone; fog calls tone", tone with the body of P10, an entry point with that of P11. Of four names one is nowhere used; of four types two are equal, ignoring spans, and one is nowhere used
abbrev point : Cells → Function → Entry
point l f = record { head = l; function = f }

unfoldable pub lamp : Module
lamp = record {
  names = letter 120 ∷ letter 115 ∷ letter 116 ∷ letter 102 ∷ [];
  types = leaf 0 1 0 ∷ leaf 0 2 1 ∷ leaf 0 5 0 ∷ leaf 0 3 2 ∷ [];
  constants = [];
  overrides = [];
  globals = [];
  exprs = [];
  functions = function_with 1 [] [] [] (does (call 2 [] none) then end)
      ∷ function_with 2 [] (literal 99 ∷ literal 97 ∷ literal 98 ∷ add 1 2 ∷ add 3 0 ∷ []) (naming 4 1 ∷ []) (evals 3 5 then end)
      ∷ function_with 3 [] [] [] (does (call 1 [] none) then end)
      ∷ [];
  entries = point ((NAME, 4) ∷ (WORD, 2) ∷ (WORD, 0) ∷ (WORD, 0) ∷ (WORD, 1) ∷ (WORD, 1) ∷ (WORD, 1) ∷ []) (function_with 2 (((SPAN, 0) ∷ (UPTO, 0) ∷ (NAME, 0) ∷ (TYPE, 1) ∷ (LOCAL-INIT, 2) ∷ []) ∷ []) (literal 7 ∷ splat 0 ∷ []) [] (evals 1 2 then does (call 0 [] none) then end)) ∷ [];
  special = record { rays = (OPT_TYPE, 0) ∷ (OPT_TYPE, 3) ∷ (OPT_TYPE, 0) ∷ []; pairs = ((KEY, 7) ∷ (TYPE, 0) ∷ []) ∷ [] };
}

-- what is linked: tone, fog, shade; names by first appearance; the entry point evaluates nothing, since what its Emit had is an initialiser
unfoldable pub lit : Module
lit = record {
  names = letter 116 ∷ letter 115 ∷ letter 102 ∷ [];
  types = leaf 0 5 0 ∷ leaf 0 2 1 ∷ [];
  constants = [];
  overrides = [];
  globals = [];
  exprs = [];
  functions = function_with 0 [] (literal 97 ∷ literal 98 ∷ literal 99 ∷ add 0 1 ∷ add 3 2 ∷ []) (naming 4 1 ∷ []) (evals 3 5 then end)
      ∷ function_with 2 [] [] [] (does (call 0 [] none) then end)
      ∷ function_with 1 [] [] [] (does (call 1 [] none) then end)
      ∷ [];
  entries = point ((NAME, 3) ∷ (WORD, 2) ∷ (WORD, 0) ∷ (WORD, 0) ∷ (WORD, 1) ∷ (WORD, 1) ∷ (WORD, 1) ∷ []) (function_with 0 (((SPAN, 0) ∷ (UPTO, 0) ∷ (NAME, 0) ∷ (TYPE, 1) ∷ (LOCAL-INIT, 2) ∷ []) ∷ []) (literal 7 ∷ splat 0 ∷ []) [] (evals 2 2 then does (call 2 [] none) then end)) ∷ [];
  special = record { rays = (OPT_TYPE, 0) ∷ (OPT_TYPE, 1) ∷ (OPT_TYPE, 0) ∷ []; pairs = ((KEY, 7) ∷ (TYPE, 0) ∷ []) ∷ [] };
}

unfoldable pub ways : Mapping
ways = record {
  in_tables = record { of_names = 0 ∷ 2 ∷ 1 ∷ 3 ∷ []; of_types = 1 ∷ 2 ∷ 1 ∷ 0 ∷ []; of_constants = []; of_overrides = []; of_globals = []; of_exprs = [] };
  functions = 3 ∷ 1 ∷ 2 ∷ [];
  in_functions = [] ∷ (3 ∷ 1 ∷ 2 ∷ 4 ∷ 5 ∷ []) ∷ [] ∷ [];
  in_entries = (1 ∷ 2 ∷ []) ∷ [];
}

-- a function that calls itself
unfoldable pub self : Module
self = record { names = letter 115 ∷ []; types = []; constants = []; overrides = []; globals = []; exprs = []; functions = function_with 0 [] [] [] (does (call 0 [] none) then end) ∷ []; entries = []; special = record { rays = (OPT_TYPE, 0) ∷ (OPT_TYPE, 0) ∷ (OPT_TYPE, 0) ∷ []; pairs = [] } }

-- what intake requires of the words of a module
record Taken (m : Module) : Type 0 where
  reads : read (write m) ≡ laid m
  size : sized (4 * length (write m)) (write m) ≡ true
  numbers : numbered m ≡ true
  lowers : lower m ≡ true
  names : named m ≡ true
  scope : in_scope m ≡ true

record Computed : Type 0 where
  lamp-taken : Taken lamp
  lamp-order : order_of lamp ≡ ordered (1 ∷ 2 ∷ 0 ∷ [])
  lamp_links : link_by (1 ∷ 2 ∷ 0 ∷ []) lamp ≡ lit
  lamp-ways : link_maps (1 ∷ 2 ∷ 0 ∷ []) lamp ≡ ways
  self-taken : Taken self
  self-calls : calls self 0 0 ≡ true

computed : Computed
unfolding lamp lit ways self ◌⟫◌ eat map_o exact both map_l typeRows expressions levelRows queries values atomics results statements name_row type_row constant_row override_row global_row expression_row function_head entry_head counted limit variants repeat text variant more following run opt_of word_of kind_of size_b size_c flat_all flat_list flat_x flat_s flat_block flat flat_entry rows listed operands stmts case_at cases form checked shaped statement block_at function_at entry_at next records table special_at count_at offset_at end_at limits placed section table_at ◌⊛◌ read places flat_table flat_special sections pairs_from bodies flat_module write sized caps bound below within rising rises every outside inside sound constant_only numbered optional operand ops_of result_of function_of kind standing_kind result_kind emitted_kind constant_kind ops kind_at standing localInits roots marked mark unmarked read_by close reached_marks moving initials constant_at initialised lowerThan bases_of types_lower operands_lower functions_lower entries_lower init_of inits_of inits_lower lower field present absent distinct same unlike differ expressions_named functions_named entries_named function_names entry_names named up_from in_range live expand_s shape_s emitted is_of call_result effect_result kinds_s evals_opt evals_s has apart add_e add_opt add_f add_s top_b holds_s cont_b vis all_vis opt_vis ok_e ok_s all_of seen scoped_as scoped all_scoped entries_scoped in_scope carry_cell carry_opt carry_range carry_s carry_function carry_entry carry_special carry counting any keep free held round rounds answer order callees_s callees_at calls order_of name_word nothing function code_t is_t at upd six tables rec_at count map_at targets target ref_of refs fold_refs carry_w through undefined addSpan span_by first_word undefined_at moved shift alike_c alike index_of interned unless_mapped intern mapped_to_t made commit step_t import_f levels import_t unmapped emptied fresh last_of known bring compare_of compares_of each_e opt_e mapped_to carried step append_expr intern_expr append_standing import_e import_body import_initialiser import_standing import_stmt carried_form rebuild_stmt put_name name_if keep_names name_cells named_rows declarations declared walked rebuilt kept_names named_after derived final localized appended append follow_f follow entered entry_made enter_all entries_made force with_special put_ray ray_to ray rays keyed put_pair pair_to pairs sourced names_in keep_n firsts index_n appearing renumber with_names named_by gathered finished with_entries append_all link_by places_of memos_of memos_in link_maps
computed = record {
  lamp-taken = record { reads = refl; size = refl; numbers = refl; lowers = refl; names = refl; scope = refl };
  lamp-order = refl;
  lamp_links = refl;
  lamp-ways = refl;
  self-taken = record { reads = refl; size = refl; numbers = refl; lowers = refl; names = refl; scope = refl };
  self-calls = refl;
}

-- ---- what the theorem requires holds of both
taken_links : (m : Module) → Taken m → Linking (write m) (4 * length (write m)) m
unfolding intake_of verdict tested
taken_links m t = record { passes = rw (intake_of, t.size, t.reads, verdict, tested, t.numbers, t.lowers, t.names, t.scope); reads = t.reads; roomy = le_refl _ }

pub lamp_linking : Linking (write lamp) (4 * length (write lamp)) lamp
lamp_linking = taken_links lamp computed.lamp-taken

pub self_linking : Linking (write self) (4 * length (write self)) self
self_linking = taken_links self computed.self-taken

-- ---- WHAT IT SAYS OF THE LAMP
pub lamp_demand : Demand3 (write lamp) (4 * length (write lamp)) lamp
lamp_demand = demand3 (write lamp) (4 * length (write lamp)) lamp lamp_linking

pub lamp-linked : link (4 * length (write lamp)) (write lamp) (4 * length (write lamp)) ≡ done (write lit)
unfolding link on_words after_intake of_laid link_module in_order
lamp-linked = rw (link, on_words, lamp_linking.passes, after_intake, lamp_linking.reads, of_laid, link_module, le-ltb _ _ lamp_linking.roomy, computed.lamp-order, in_order, computed.lamp_links)

-- it agrees, in full, through the maps
pub lamp_agrees : Agreement lamp lit ways
lamp_agrees = given (lamp_demand.output (write lit) lamp-linked)
  where
    given : (os : List ℕ) × (order_of lamp ≡ ordered os) × (write lit ≡ write (link_by os lamp)) × Output (write lamp) (4 * length (write lamp)) lamp os → Agreement lamp lit ways
    given a = let q : a.0 ≡ 1 ∷ 2 ∷ 0 ∷ [] = (let x = a.1 in let y = computed.lamp-order in cc) in rw (← computed.lamp_links, ← computed.lamp-ways) (rw q at a.3.agree)

-- ---- AND OF ONE THAT CALLS ITSELF: nothing is linked
pub self_refused : (vs : List ℕ) → link (4 * length (write self)) (write self) (4 * length (write self)) ≡ done vs → ⊥
self_refused vs e = (demand3 (write self) (4 * length (write self)) self self_linking).exactly.0 (vs, e) 0 (one (record { from = there; to = there; is = computed.self-calls }))
  where
    there : 0 < length self.functions
    there = unfold self in omega arith
