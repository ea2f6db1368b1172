-- The passes by example, computed: P10 and P11 of document 01, an Atomic with its compare, a call with a result, a merged initialiser, blocks in blocks, spans. What is written is the flat list of the derived function, and the state after is the model's.
use Rattle.std.specs.Prelude.{◌≡◌, refl, List, [], ◌∷◌, Bool, true, false, ◌&&◌, ℕ, eqb}
use Rattle.std.proofs.Common.{ap₂, eqb-true}
use Rattle.std.proofs.lemmas.Bool.{false≢true}
use Rattle.std.proofs.Math.Option.{none, some}
use Rattle.theory_lists.specs.Booleans.{and_first, and_second}
use Rattle.model.specs.Outcome.{Cell, Cells, class, word}
use Rattle.model.specs.Table.{WORD, NAME, SPAN, UPTO, TYPE, LOCAL-INIT, VALUE, RETURNS}
use Rattle.model.specs.Tree.{stmt, block, branch, switch, loop, break, return, kill, call, end, ◌then◌, case, nomore, ◌also◌, Function, opt_of, word_of, kind_of, size_b, size_c, flat_all, flat_list, flat_x, flat_s, flat_block, flat}
use Rattle.model.specs.Module.{Module}
use Rattle.model.specs.Carry.{carry_cell, carry_opt, carry_range, carry_s}
use Rattle.model.specs.Operands.{optional, kind, standing_kind, kind_at, standing}
use Rattle.model.specs.Names.{field}
use Rattle.model.specs.Scope.{up_from, in_range}
use Rattle.model.specs.SampleBodies.{literal, splat, negate, add as plus, called, does, evals, store, exchange, local}
use Rattle.model.specs.Redirect.{name_word, nothing, function}
use Rattle.model.specs.Tables.{code_t, is_t, at, upd, six, tables, rec_at, count, map_at}
use Rattle.model.specs.References.{targets, target, ref_of, refs, fold_refs, carry_w, through, undefined, add, span_by, first_word, undefined_at, moved, shift, alike_c, alike, index_of, interned}
use Rattle.model.specs.Imports.{unless_mapped, intern, mapped_to_t, made, commit, step_t, import_f, levels, import_t, unmapped, emptied, fresh}
use Rattle.model.specs.Bodies.{last_of, known, Builder, bring, compare_of, compares_of, each_e, opt_e, mapped_to, carried, step, append_expr, intern_expr, append_standing, import_e, import_body, import_initialiser, import_standing, import_stmt, carried_form, rebuild_stmt, put_name, name_if, keep_names, name_cells, named_rows, declarations, declared, walked, rebuilt, kept_names, named_after, derived, final, localized, appended, append, follow_f, follow}
use Rattle.model.specs.Special.{force, with_special, put_ray, ray_to, ray, rays, keyed, put_pair, pair_to, pairs, sourced}
use Rattle.model.specs.ImportExamples.{leaf, module_of_lem, function_with, named as name_of}
use Rattle.theory_bodies.specs.Shallow.{need, peek, glance}
use Rattle.theory_passes.specs.Pass.{atomic_kind, arrive, first, both, early, passed, word_of as word_at, after, written, named, rows, front, begin, front_after, front_written, body_after, body_written, names_after, names_written, whole_after, whole_written}

-- a module of two types and these functions, spans moved by 10
abbrev pub world : List Function → Module
world fs = module_of_lem (leaf 0 1 0 ∷ leaf 0 2 1 ∷ []) fs

-- what the passes over the first function of a module make, and what it becomes
unfoldable pub passes : Module → Cells
passes M = whole_written 10 M (follow 10 M) (function M 0) (sourced 10 M fresh)

unfoldable pub becomes : Module → Cells
becomes M = flat (localized 10 M (follow 10 M) (function M 0) (sourced 10 M fresh))

unfoldable pub state : Module → Builder
state M = whole_after 10 M (follow 10 M) (function M 0) (sourced 10 M fresh)

unfoldable pub ends : Module → Builder
ends M = final 10 M (follow 10 M) (function M 0) (sourced 10 M fresh)

-- equal cells, by a test: to compute it is quicker than to compare both sides step by step
unfoldable pub equal : Cells → Cells → Bool
equal [] [] = true
equal [] (d ∷ ds) = false
equal (c ∷ cs) [] = false
equal (c ∷ cs) (d ∷ ds) = (eqb (class c) (class d) && eqb (word c) (word d)) && equal cs ds

same-cell : (c d : Cell) → (eqb (class c) (class d) && eqb (word c) (word d)) ≡ true → c ≡ d
same-cell (s, w) (t, v) e = ap₂ (λ (a b : ℕ). (a, b)) (eqb-true s t (and_first (eqb s t) (eqb w v) e)) (eqb-true w v (and_second (eqb s t) (eqb w v) e))

pub equals : (cs ds : Cells) → equal cs ds ≡ true → cs ≡ ds
unfolding equal
equals [] [] e = refl
equals [] (d ∷ ds) e = absurd (false≢true e)
equals (c ∷ cs) [] e = absurd (false≢true e)
equals (c ∷ cs) (d ∷ ds) e =
    let t = eqb (class c) (class d) && eqb (word c) (word d) in
    ap₂ (λ (x : Cell) (xs : Cells). x ∷ xs) (same-cell c d (and_first t (equal cs ds) e)) (equals cs ds (and_second t (equal cs ds) e))

pub record Same (M : Module) : Type 0 where
  pub cells : passes M ≡ becomes M
  pub memo : (state M).memo ≡ (ends M).memo

abbrev pub p10 : Module
p10 = world (function_with 0 [] (literal 99 ∷ literal 97 ∷ literal 98 ∷ plus 1 2 ∷ plus 3 0 ∷ []) (name_of 4 1 ∷ name_of 3 2 ∷ []) (evals 3 5 then end) ∷ [])

abbrev pub p11 : Module
p11 = world (function_with 0 (local 2 ∷ []) (literal 7 ∷ splat 0 ∷ []) (name_of 0 1 ∷ []) (evals 1 2 then end) ∷ [])

-- the compare is not mapped before the other operands
abbrev pub compare : Module
compare = world (function_with 0 [] (literal 5 ∷ literal 6 ∷ literal 7 ∷ []) [] (exchange 0 2 2 0 then end) ∷ [])

-- a call with an operand and a result, which is read after it, in a block; statements have spans
abbrev pub calls : Module
calls = world (function_with 0 [] (literal 7 ∷ called 1 ∷ negate 1 ∷ []) [] (stmt 5 6 (block (stmt 3 0 (call 1 (0 ∷ []) (some 1)) then evals 2 3 then end)) then end) ∷ function_with 1 [] [] [] end ∷ [])

-- blocks in blocks
abbrev pub nested : Module
nested = world (function_with 0 [] (literal 7 ∷ literal 8 ∷ []) [] (does (branch 1 (stmt 0 0 kill then end) (stmt 0 7 (loop end (store 0 1 then end) (some 1)) then end)) then end) ∷ [])

abbrev pub cases : Module
cases = world (function_with 0 [] (literal 7 ∷ []) [] (does (switch 0 (case ((VALUE, 0) ∷ (WORD, 3) ∷ []) (does break then end) 0 also case ((VALUE, 2) ∷ []) end 1 also nomore)) then does (return none) then end) ∷ [])

-- an argument, and locals whose initialisers are equal
abbrev pub declares : Module
declares =
    world (record {
      head = (NAME, 1) ∷ (SPAN, 1) ∷ (UPTO, 9) ∷ [];
      arguments = ((NAME, 0) ∷ (TYPE, 1) ∷ (WORD, 0) ∷ (WORD, 0) ∷ (WORD, 0) ∷ (WORD, 0) ∷ (WORD, 0) ∷ (WORD, 0) ∷ []) ∷ [];
      result = (RETURNS, 0) ∷ [];
      locals = local 1 ∷ ((SPAN, 2) ∷ (UPTO, 0) ∷ (NAME, 3) ∷ (TYPE, 0) ∷ (LOCAL-INIT, 2) ∷ []) ∷ [];
      exprs = literal 7 ∷ literal 7 ∷ [];
      named = [];
      body = end;
    } ∷ [])

pub of_p10 : Same p10
unfolding equal passes becomes state ends atomic_kind arrive first both early passed word_at after written named rows front begin front_after front_written body_after body_written names_after names_written whole_after whole_written need peek glance opt_of word_of kind_of size_b size_c flat_all flat_list flat_x flat_s flat_block flat carry_cell carry_opt carry_range carry_s optional kind standing_kind kind_at standing field up_from in_range name_word nothing function code_t is_t at upd six tables rec_at count map_at targets target ref_of refs fold_refs carry_w through undefined add span_by first_word undefined_at moved shift alike_c alike index_of interned unless_mapped intern mapped_to_t made commit step_t import_f levels import_t unmapped emptied fresh last_of known bring compare_of compares_of each_e opt_e mapped_to carried step append_expr intern_expr append_standing import_e import_body import_initialiser import_standing import_stmt carried_form rebuild_stmt put_name name_if keep_names name_cells named_rows declarations declared walked rebuilt kept_names named_after derived final localized appended append follow_f follow force with_special put_ray ray_to ray rays keyed put_pair pair_to pairs sourced
of_p10 = record { cells = equals (passes p10) (becomes p10) refl; memo = refl }

pub of_p11 : Same p11
unfolding equal passes becomes state ends atomic_kind arrive first both early passed word_at after written named rows front begin front_after front_written body_after body_written names_after names_written whole_after whole_written need peek glance opt_of word_of kind_of size_b size_c flat_all flat_list flat_x flat_s flat_block flat carry_cell carry_opt carry_range carry_s optional kind standing_kind kind_at standing field up_from in_range name_word nothing function code_t is_t at upd six tables rec_at count map_at targets target ref_of refs fold_refs carry_w through undefined add span_by first_word undefined_at moved shift alike_c alike index_of interned unless_mapped intern mapped_to_t made commit step_t import_f levels import_t unmapped emptied fresh last_of known bring compare_of compares_of each_e opt_e mapped_to carried step append_expr intern_expr append_standing import_e import_body import_initialiser import_standing import_stmt carried_form rebuild_stmt put_name name_if keep_names name_cells named_rows declarations declared walked rebuilt kept_names named_after derived final localized appended append follow_f follow force with_special put_ray ray_to ray rays keyed put_pair pair_to pairs sourced
of_p11 = record { cells = equals (passes p11) (becomes p11) refl; memo = refl }

pub of_compare : Same compare
unfolding equal passes becomes state ends atomic_kind arrive first both early passed word_at after written named rows front begin front_after front_written body_after body_written names_after names_written whole_after whole_written need peek glance opt_of word_of kind_of size_b size_c flat_all flat_list flat_x flat_s flat_block flat carry_cell carry_opt carry_range carry_s optional kind standing_kind kind_at standing field up_from in_range name_word nothing function code_t is_t at upd six tables rec_at count map_at targets target ref_of refs fold_refs carry_w through undefined add span_by first_word undefined_at moved shift alike_c alike index_of interned unless_mapped intern mapped_to_t made commit step_t import_f levels import_t unmapped emptied fresh last_of known bring compare_of compares_of each_e opt_e mapped_to carried step append_expr intern_expr append_standing import_e import_body import_initialiser import_standing import_stmt carried_form rebuild_stmt put_name name_if keep_names name_cells named_rows declarations declared walked rebuilt kept_names named_after derived final localized appended append follow_f follow force with_special put_ray ray_to ray rays keyed put_pair pair_to pairs sourced
of_compare = record { cells = equals (passes compare) (becomes compare) refl; memo = refl }

pub of_calls : Same calls
unfolding equal passes becomes state ends atomic_kind arrive first both early passed word_at after written named rows front begin front_after front_written body_after body_written names_after names_written whole_after whole_written need peek glance opt_of word_of kind_of size_b size_c flat_all flat_list flat_x flat_s flat_block flat carry_cell carry_opt carry_range carry_s optional kind standing_kind kind_at standing field up_from in_range name_word nothing function code_t is_t at upd six tables rec_at count map_at targets target ref_of refs fold_refs carry_w through undefined add span_by first_word undefined_at moved shift alike_c alike index_of interned unless_mapped intern mapped_to_t made commit step_t import_f levels import_t unmapped emptied fresh last_of known bring compare_of compares_of each_e opt_e mapped_to carried step append_expr intern_expr append_standing import_e import_body import_initialiser import_standing import_stmt carried_form rebuild_stmt put_name name_if keep_names name_cells named_rows declarations declared walked rebuilt kept_names named_after derived final localized appended append follow_f follow force with_special put_ray ray_to ray rays keyed put_pair pair_to pairs sourced
of_calls = record { cells = equals (passes calls) (becomes calls) refl; memo = refl }

pub of_nested : Same nested
unfolding equal passes becomes state ends atomic_kind arrive first both early passed word_at after written named rows front begin front_after front_written body_after body_written names_after names_written whole_after whole_written need peek glance opt_of word_of kind_of size_b size_c flat_all flat_list flat_x flat_s flat_block flat carry_cell carry_opt carry_range carry_s optional kind standing_kind kind_at standing field up_from in_range name_word nothing function code_t is_t at upd six tables rec_at count map_at targets target ref_of refs fold_refs carry_w through undefined add span_by first_word undefined_at moved shift alike_c alike index_of interned unless_mapped intern mapped_to_t made commit step_t import_f levels import_t unmapped emptied fresh last_of known bring compare_of compares_of each_e opt_e mapped_to carried step append_expr intern_expr append_standing import_e import_body import_initialiser import_standing import_stmt carried_form rebuild_stmt put_name name_if keep_names name_cells named_rows declarations declared walked rebuilt kept_names named_after derived final localized appended append follow_f follow force with_special put_ray ray_to ray rays keyed put_pair pair_to pairs sourced
of_nested = record { cells = equals (passes nested) (becomes nested) refl; memo = refl }

pub of_cases : Same cases
unfolding equal passes becomes state ends atomic_kind arrive first both early passed word_at after written named rows front begin front_after front_written body_after body_written names_after names_written whole_after whole_written need peek glance opt_of word_of kind_of size_b size_c flat_all flat_list flat_x flat_s flat_block flat carry_cell carry_opt carry_range carry_s optional kind standing_kind kind_at standing field up_from in_range name_word nothing function code_t is_t at upd six tables rec_at count map_at targets target ref_of refs fold_refs carry_w through undefined add span_by first_word undefined_at moved shift alike_c alike index_of interned unless_mapped intern mapped_to_t made commit step_t import_f levels import_t unmapped emptied fresh last_of known bring compare_of compares_of each_e opt_e mapped_to carried step append_expr intern_expr append_standing import_e import_body import_initialiser import_standing import_stmt carried_form rebuild_stmt put_name name_if keep_names name_cells named_rows declarations declared walked rebuilt kept_names named_after derived final localized appended append follow_f follow force with_special put_ray ray_to ray rays keyed put_pair pair_to pairs sourced
of_cases = record { cells = equals (passes cases) (becomes cases) refl; memo = refl }

pub of_declares : Same declares
unfolding equal passes becomes state ends atomic_kind arrive first both early passed word_at after written named rows front begin front_after front_written body_after body_written names_after names_written whole_after whole_written need peek glance opt_of word_of kind_of size_b size_c flat_all flat_list flat_x flat_s flat_block flat carry_cell carry_opt carry_range carry_s optional kind standing_kind kind_at standing field up_from in_range name_word nothing function code_t is_t at upd six tables rec_at count map_at targets target ref_of refs fold_refs carry_w through undefined add span_by first_word undefined_at moved shift alike_c alike index_of interned unless_mapped intern mapped_to_t made commit step_t import_f levels import_t unmapped emptied fresh last_of known bring compare_of compares_of each_e opt_e mapped_to carried step append_expr intern_expr append_standing import_e import_body import_initialiser import_standing import_stmt carried_form rebuild_stmt put_name name_if keep_names name_cells named_rows declarations declared walked rebuilt kept_names named_after derived final localized appended append follow_f follow force with_special put_ray ray_to ray rays keyed put_pair pair_to pairs sourced
of_declares = record { cells = equals (passes declares) (becomes declares) refl; memo = refl }
