-- What `specs/ImportExamples.antt` states holds: each side computes to the other.
use Rattle.std.specs.Prelude.{refl}
use Rattle.model.specs.Tree.{opt_of, word_of, flat_all}
use Rattle.model.specs.Carry.{carry_cell, carry_opt, carry_range, carry_s}
use Rattle.model.specs.Operands.{optional, kind, standing_kind, kind_at, standing}
use Rattle.model.specs.Names.{field}
use Rattle.model.specs.Scope.{up_from, in_range}
use Rattle.model.specs.Redirect.{name_word, nothing, function}
use Rattle.model.specs.Tables.{code_t, is_t, at, upd, six, tables, rec_at, count, map_at}
use Rattle.model.specs.References.{targets, target, ref_of, refs, fold_refs, carry_w, through, undefined, add as addSpan, span_by, first_word, undefined_at, moved, shift, alike_c, alike, index_of, interned}
use Rattle.model.specs.Imports.{unless_mapped, intern, mapped_to_t, made, commit, step_t, import_f, levels, import_t, rename, renamed, unmapped, emptied, fresh}
use Rattle.model.specs.Bodies.{last_of, known, bring, compare_of, compares_of, each_e, opt_e, mapped_to, carried, step, append_expr, intern_expr, append_standing, import_e, import_body, import_initialiser, import_standing, import_stmt, carried_form, rebuild_stmt, put_name, name_if, keep_names, name_cells, named_rows, declarations, declared, walked, rebuilt, kept_names, named_after, derived, final, localized, appended, append, follow_f, follow}
use Rattle.model.specs.Special.{force, with_special, put_ray, ray_to, ray, rays, keyed, put_pair, pair_to, pairs, sourced}
use Rattle.model.specs.ImportExamples.{only, under, becomes, name_words, thrice, renames, Imported}

pub imported : Imported
unfolding only under becomes name_words thrice renames opt_of word_of flat_all carry_cell carry_opt carry_range carry_s optional kind standing_kind kind_at standing field up_from in_range name_word nothing function code_t is_t at upd six tables rec_at count map_at targets target ref_of refs fold_refs carry_w through undefined addSpan span_by first_word undefined_at moved shift alike_c alike index_of interned unless_mapped intern mapped_to_t made commit step_t import_f levels import_t rename renamed unmapped emptied fresh last_of known bring compare_of compares_of each_e opt_e mapped_to carried step append_expr intern_expr append_standing import_e import_body import_initialiser import_standing import_stmt carried_form rebuild_stmt put_name name_if keep_names name_cells named_rows declarations declared walked rebuilt kept_names named_after derived final localized appended append follow_f follow force with_special put_ray ray_to ray rays keyed put_pair pair_to pairs sourced
imported = record { compose-order = refl; body-apart = refl; operands-apart = refl; init_merges = refl; last_name = refl; unused = refl; compare-first = refl; callees-first = refl; later-known = refl; rename-once = refl; rename-maps = refl }
