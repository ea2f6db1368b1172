-- The assumptions are not vacuous: a function with an Emit passes the tests, in a module without functions, from the start of a session.
use Rattle.std.specs.Prelude.{◌≡◌, refl, true, [], ◌∷◌}
use Rattle.std.proofs.Common.{arith}
use Rattle.model.specs.Table.{OPT_TYPE, NAME, SPAN, UPTO, RETURNS, expressions, results, function_head, counted, limit, variants, variant, more}
use Rattle.model.specs.Tree.{Function, end, ◌then◌, opt_of, word_of, kind_of, size_b, flat_all, flat_list, flat_x, flat_s, flat_block, flat}
use Rattle.model.specs.Operands.{optional, operand, ops_of, result_of, function_of, kind, standing_kind, result_kind, emitted_kind, constant_kind, ops, kind_at, standing}
use Rattle.model.specs.Initial.{inits_of, roots, marked, mark, unmarked, read_by, close, reached_marks, moving, initials, constant_at, initialised}
use Rattle.model.specs.Scope.{up_from, in_range, live, expand_s, shape_s, emitted, is_of, call_result, effect_result, kinds_s, evals_opt, evals_s, has, distinct, add_e, add_opt, add_f, add_s, top_b, holds_s, cont_b, vis, all_vis, opt_vis, ok_e, ok_s, all_of, seen, scoped_as, scoped}
use Rattle.model.specs.Numbers.{caps, bound, below as under, within, rising, ordered, every, outside, inside, sound, numbered}
use Rattle.model.specs.Lower.{below, types_lower, operands_lower, functions_lower, entries_lower, inits_lower, lower}
use Rattle.model.specs.Module.{Module}
use Rattle.model.specs.Carry.{each_none, each_next, lays_none, lays_next, ok_stmt, ok_emit, ok_deeper, ok_end, ok_then, WellFunction, WellFormed}
use Rattle.model.specs.SampleBodies.{literal, negate, evals}
use Rattle.model.specs.Imports.{unmapped, emptied, fresh}
use Rattle.model.specs.Tables.{tables}
use Rattle.model.specs.Bodies.{localized}
use Rattle.theory_records.specs.Imported.{emptied-kept, fresh_kept}
use Rattle.theory_bodies.specs.Passing.{Passes}
use Rattle.model.specs.Callees.{callees_s, callees}
use Rattle.theory_bodies.specs.Lists.{All}
use Rattle.theory_bodies.specs.Lawful.{Good}
use Rattle.theory_bodies.specs.Source.{good_start}
use Rattle.theory_bodies.specs.Theorems.{none_followed, scoped_again}

abbrev bare : Module
bare = record { names = []; types = []; constants = []; overrides = []; globals = []; exprs = []; functions = []; entries = []; special = record { rays = (OPT_TYPE, 0) ∷ (OPT_TYPE, 0) ∷ (OPT_TYPE, 0) ∷ []; pairs = [] } }

-- -7, evaluated
abbrev once : Function
once = record { head = (NAME, 0) ∷ (SPAN, 0) ∷ (UPTO, 0) ∷ []; arguments = []; result = (RETURNS, 0) ∷ []; locals = []; exprs = literal 7 ∷ negate 0 ∷ []; named = []; body = evals 1 2 then end }

pub begun : (M : Module) → Good M (emptied (unmapped (tables M)) fresh)
unfolding emptied fresh
begun M = good_start M _ (emptied-kept fresh.recs (tables M) (emptied (unmapped fresh.recs) fresh) fresh_kept) refl

well : WellFunction once
unfolding function_head counted limit more variants variant expressions results
well = record {
  head_ok = lays_next refl (lays_next refl (lays_next refl lays_none));
  arguments_ok = record { few = omega arith; each = each_none };
  result_ok_lem = lays_next refl lays_none;
  locals_ok = record { few = omega arith; each = each_none };
  exprs_ok = record {
    few = omega arith;
    each = each_next (lays_next refl (lays_next refl (lays_next refl (lays_next refl (lays_next refl (lays_next refl lays_none)))))) (each_next (lays_next refl (lays_next refl (lays_next refl (lays_next refl (lays_next refl lays_none))))) each_none);
  };
  named_ok = record { few = omega arith; each = each_none };
  body_ok = ok_deeper (ok_then (ok_stmt ok_emit) ok_end);
}

pub passed : Passes bare once
unfolding opt_of word_of kind_of size_b flat_all flat_list flat_x flat_s flat_block flat optional operand ops_of result_of function_of kind standing_kind result_kind emitted_kind constant_kind ops kind_at standing inits_of roots marked mark unmarked read_by close reached_marks moving initials constant_at initialised up_from in_range live expand_s shape_s emitted is_of call_result effect_result kinds_s evals_opt evals_s has distinct add_e add_opt add_f add_s top_b holds_s cont_b vis all_vis opt_vis ok_e ok_s all_of seen scoped_as scoped caps bound under within rising ordered outside inside sound below operands_lower
passed = record { well = well; three = refl; four = refl; six = refl }

no_calls : All (λ n. ⊥) (callees once)
unfolding callees_s
no_calls = tt

bare_well : WellFormed bare
unfolding more
bare_well = record {
  names_ok = record { few = omega arith; each = each_none };
  types-ok = record { few = omega arith; each = each_none };
  constants_ok = record { few = omega arith; each = each_none };
  overrides_ok = record { few = omega arith; each = each_none };
  globals_ok = record { few = omega arith; each = each_none };
  exprs_ok = record { few = omega arith; each = each_none };
  functions_ok = record { few = omega arith; each = each_none };
  entries_ok = record { few = omega arith; each = each_none };
  rays-ok = lays_next refl (lays_next refl (lays_next refl lays_none));
  pairs-ok = record { few = omega arith; each = each_none };
}

bare-three : numbered bare ≡ true
unfolding numbered every within caps bound under outside
bare-three = refl

bare_four : lower bare ≡ true
unfolding lower types_lower operands_lower inits_lower functions_lower entries_lower
bare_four = refl

-- the theorems apply
pub again : scoped (localized 0 bare (λ n s. s) once (emptied (unmapped (tables bare)) fresh)) ≡ true
again = scoped_again bare bare_well bare-three bare_four 0 (λ n s. s) (λ n. ⊥) (Good bare) (none_followed bare bare_well bare-three bare_four 0) once passed no_calls (emptied (unmapped (tables bare)) fresh) (begun bare)
