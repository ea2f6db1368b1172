-- What `specs/ScopeExamples.antt` states holds: each side computes to the other.
use Rattle.std.specs.Prelude.{◌≡◌, refl, true, false, replicate}
use Rattle.model.specs.Tree.{opt_of}
use Rattle.model.specs.Operands.{optional, operand, ops_of, result_of, function_of, kind, standing_kind, result_kind, emitted_kind, ops, kind_at, standing}
use Rattle.model.specs.Initial.{inits_of, roots, marked, mark, unmarked, read_by, close, reached_marks, moving, initials}
use Rattle.model.specs.Scope.{up_from, in_range, live, expand_s, shape_s, emitted, is_of, call_result, effect_result, kinds_s, evals_opt, evals_s, has, distinct, add_e, add_opt, add_f, add_s, top_b, holds_s, cont_b, vis, all_vis, opt_vis, ok_e, ok_s, all_of, seen, scoped_as, scoped}
use Rattle.model.specs.ScopeExamples.{pairs, verdicts}

sentences : verdicts pairs ≡ replicate 25 (true, false)
unfolding verdicts pairs opt_of optional operand ops_of result_of function_of kind standing_kind result_kind emitted_kind ops kind_at standing inits_of roots marked mark unmarked read_by close reached_marks moving initials up_from in_range live expand_s shape_s emitted is_of call_result effect_result kinds_s evals_opt evals_s has distinct add_e add_opt add_f add_s top_b holds_s cont_b vis all_vis opt_vis ok_e ok_s all_of seen scoped_as scoped
sentences = refl
