-- The sample of `WholeExamples` with every form of statement passes tests 3 to 6, and has the order by which it is linked there.
use Rattle.std.specs.Prelude.{◌≡◌, refl, [], ◌∷◌}
use Rattle.model.specs.Tree.{opt_of, word_of, kind_of, size_b, size_c, flat_all, flat_list, flat_x, flat_s, flat_block, flat, flat_entry}
use Rattle.model.specs.Operands.{optional, operand, ops_of, result_of, function_of, kind, standing_kind, result_kind, emitted_kind, constant_kind, ops, kind_at, standing}
use Rattle.model.specs.Initial.{inits_of, roots, marked, mark, unmarked, read_by, close, reached_marks, moving, initials, constant_at, initialised}
use Rattle.model.specs.Numbers.{caps, bound, below, within, rising, ordered as ordering, every, outside, inside, sound, constant_only, numbered}
use Rattle.model.specs.Lower.{below as lowerThan, bases_of, types_lower, operands_lower, functions_lower, entries_lower, init_of, inits_of as initsAt, inits_lower, lower}
use Rattle.model.specs.Names.{field, present, absent, distinct as different, same, unlike, differ, expressions_named, functions_named, entries_named, function_names, entry_names, named}
use Rattle.model.specs.Scope.{up_from, in_range, live, expand_s, shape_s, emitted, is_of, call_result, effect_result, kinds_s, evals_opt, evals_s, has, distinct, add_e, add_opt, add_f, add_s, top_b, holds_s, cont_b, vis, all_vis, opt_vis, ok_e, ok_s, all_of, seen, scoped_as, scoped, all_scoped, entries_scoped, in_scope}
use Rattle.model.specs.Intake.{tested}
use Rattle.model.specs.Calls.{ordered, numbers, any, keep, free, held, round, rounds, answer, order}
use Rattle.model.specs.Callees.{callees_s, callees_at, calls, order_of}
use Rattle.theory_walks.specs.WholeExamples.{wide}

pub wide-passes : tested wide ≡ 0
unfolding wide tested opt_of word_of kind_of size_b size_c flat_all flat_list flat_x flat_s flat_block flat flat_entry optional operand ops_of result_of function_of kind standing_kind result_kind emitted_kind constant_kind ops kind_at standing inits_of roots marked mark unmarked read_by close reached_marks moving initials constant_at initialised caps bound below within rising ordering every outside inside sound constant_only numbered lowerThan bases_of types_lower operands_lower functions_lower entries_lower init_of initsAt inits_lower lower field present absent different same unlike differ expressions_named functions_named entries_named function_names entry_names named up_from in_range live expand_s shape_s emitted is_of call_result effect_result kinds_s evals_opt evals_s has distinct add_e add_opt add_f add_s top_b holds_s cont_b vis all_vis opt_vis ok_e ok_s all_of seen scoped_as scoped all_scoped entries_scoped in_scope
wide-passes = refl

pub wide-order : order_of wide ≡ ordered (1 ∷ 0 ∷ [])
unfolding wide numbers any keep free held round rounds answer order callees_s callees_at calls order_of
wide-order = refl
