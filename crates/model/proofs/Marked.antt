-- The marked cases of `specs/Marked.antt` hold: each side computes to the other.
use Rattle.std.specs.Prelude.{refl}
use Rattle.model.specs.Tree.{opt_of, word_of, kind_of, size_b, size_c, flat_all, flat_list, flat_x, flat_s, flat_block, flat}
use Rattle.model.specs.Carry.{carry_cell, carry_opt, carry_range, carry_s, carry_function, carry_entry}
use Rattle.model.specs.Calls.{numbers, any, keep, free, held, round, rounds, answer, order}
use Rattle.model.specs.Callees.{callees_s, callees_at, calls, order_of}
use Rattle.model.specs.Redirect.{name_word, find, omitted, all_below, argument_types, agree, type_behind, result_type, same, redirecting, redirect_fn, redirect_entry, stays, redirect_fns, with_functions, with_entries, redirect, after, nothing, function, compared, with_replacement, with_original, redirect_function}
use Rattle.model.specs.Operands.{optional, kind, standing_kind, kind_at, standing}
use Rattle.model.specs.Names.{field}
use Rattle.model.specs.Scope.{up_from, in_range}
use Rattle.model.specs.Tables.{code_t, is_t, at, upd, six, tables, rec_at, count, map_at}
use Rattle.model.specs.References.{targets, target, ref_of, refs, fold_refs, carry_w, through, undefined, add, span_by, first_word, undefined_at, moved, shift, alike_c, alike, index_of, interned}
use Rattle.model.specs.Imports.{unless_mapped, intern, mapped_to_t, made, commit, step_t, import_f, levels, import_t, unmapped, emptied, fresh}
use Rattle.model.specs.Bodies.{last_of, known, bring, compare_of, compares_of, each_e, opt_e, mapped_to, carried, step, append_expr, intern_expr, append_standing, import_e, import_body as plainly, import_initialiser, import_standing, import_stmt, carried_form, rebuild_stmt, put_name, name_if, keep_names, name_cells, named_rows, declarations, declared, walked, rebuilt, kept_names, named_after, derived, final, localized, appended, append, follow_f, follow}
use Rattle.model.specs.Special.{force, with_special, put_ray, ray_to, ray, rays, keyed, put_pair, pair_to, pairs, sourced}
use Rattle.model.specs.ImportExamples.{only, under, becomes}
use Rattle.model.specs.Marked.{Marked}

pub marked : Marked
unfolding opt_of word_of kind_of size_b size_c flat_all flat_list flat_x flat_s flat_block flat carry_cell carry_opt carry_range carry_s carry_function carry_entry numbers any keep free held round rounds answer order callees_s callees_at calls order_of name_word find omitted all_below argument_types agree type_behind result_type same redirecting redirect_fn redirect_entry stays redirect_fns with_functions with_entries redirect after nothing function compared with_replacement with_original redirect_function only under becomes optional kind standing_kind kind_at standing field up_from in_range code_t is_t at upd six tables rec_at count map_at targets target ref_of refs fold_refs carry_w through undefined add span_by first_word undefined_at moved shift alike_c alike index_of interned unless_mapped intern mapped_to_t made commit step_t import_f levels import_t unmapped emptied fresh last_of known bring compare_of compares_of each_e opt_e mapped_to carried step append_expr intern_expr append_standing import_e plainly import_initialiser import_standing import_stmt carried_form rebuild_stmt put_name name_if keep_names name_cells named_rows declarations declared walked rebuilt kept_names named_after derived final localized appended append follow_f follow force with_special put_ray ray_to ray rays keyed put_pair pair_to pairs sourced
marked = record { p1 = refl; p2 = refl; p3 = refl; p4 = refl; p5 = refl; p6 = refl; p7 = refl; p7_order = refl; p8 = refl; p8-order = refl; p9 = refl; p10 = refl; p10-maps = refl; p11 = refl; p12 = refl }
