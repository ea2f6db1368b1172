-- The theorems are not empty: sessions on a small source, computed, and the theorems applied to them.
-- The source has three functions, shade, tone and fog, where shade calls fog and fog calls tone, an entry point that calls shade, and two types, of which one is special. It is set twice, with another offset, so that the special type's place is taken.
use Rattle.std.specs.Prelude.{◌≡◌, refl, true, false, List, [], ◌∷◌, ◌++◌, ℕ, ◌*◌, ◌≤◌, length}
use Rattle.std.proofs.Common.{sym, ap, ◌∙◌, arith}
use Rattle.std.proofs.Math.Option.{Option, none, some}
use Rattle.model.specs.Table.{WORD, NAME, OPT_TYPE}
use Rattle.model.specs.Tree.{call, end, ◌then◌, Function}
use Rattle.model.specs.SampleBodies.{does as doing}
use Rattle.model.specs.RedirectExamples.{letter}
use Rattle.model.specs.ImportExamples.{leaf, function_with}
use Rattle.theory_sessions.specs.Operating.{Operation, sets, imports, renames, functions}
use Rattle.model.specs.Module.{Module}
use Rattle.theory_records.specs.Trace.{Keeps}
use Rattle.theory_records.specs.Theorems.{Distinct, Sound}
use Rattle.theory_sessions.specs.Height.{unknowns}
use Rattle.theory_sessions.specs.Ending.{Written, Origins}
use Rattle.theory_sessions.proofs.Theorems.{written-with, function-gives, mapped-records, mapped-plainly, every-state, source-set, fuel_removed, follow_is, origins}
use Rattle.theory_sessions.specs.Operating.{Set, new_good, run_good}
use Rattle.theory_sessions.proofs.Operating.{finish-written}
use Rattle.theory_sessions.specs.Mapped.{hand_if, hand_ray, hand_rays, hand_pairs, taken, renamed_by, all_renamed, Stays, stays-none, stays-next, But}
use Rattle.theory_sessions.specs.Answers.{Appends}
use Rattle.theory_sessions.specs.Growing.{Grew, ends, turns, does_grow, does-keep, all-distinct, refused_keeps}
use Rattle.model.specs.Session.{Source, Session, Answer, answered, refused}
use Rattle.model.specs.Bodies.{append, appended, bring, carried, compare_of, compares_of, declarations, declared, derived, each_e, enter_all, entered, entries_made, entry_made, final, follow as bodies-follow, follow_f, import_stmt, import_e, intern_expr, keep_names, kept_names, known, last_of, localized, rebuild_stmt, name_cells, name_if, named_after, named_rows, opt_e, import_body, append_expr, put_name, import_standing, rebuilt, carried_form, append_standing, step, import_initialiser, walked, mapped_to}
use Rattle.model.specs.Callees.{callees_at, callees_s, calls}
use Rattle.model.specs.Calls.{any, free, held, keep, numbers, round, rounds}
use Rattle.model.specs.Carry.{carry, carry_cell, carry_entry, carry_function, carry_opt, carry_range, carry_s, carry_special}
use Rattle.model.specs.Finish.{appearing, finished, firsts, gathered, index_n, keep_n, named_by, names_in, passes, renumber, too_large, with_names}
use Rattle.model.specs.Imports.{commit, emptied, fresh, import_f, import_t, levels as imports-levels, made, unless_mapped, rename, renamed, intern, step_t, unmapped, mapped_to_t}
use Rattle.model.specs.Initial.{close, constant_at, initialised, initials, inits_of as initial-initsOf, mark, marked, moving, reached_marks, read_by, roots, unmarked}
use Rattle.model.specs.Intake.{intake_of, tested, verdict, of_laid, after_intake, on_words}
use Rattle.model.specs.Lower.{bases_of, below as lower-below, entries_lower, functions_lower, init_of, inits_lower, inits_of as lower-initsOf, lower, operands_lower, types_lower}
use Rattle.model.specs.Module.{◌⊛◌, bodies, count_at, end_at, flat_module, flat_special, flat_table, limits, next, offset_at, pairs_from, placed, places, read, records, section, sections, sized, special_at, table, table_at, write}
use Rattle.model.specs.Names.{absent, differ, distinct as names_distinct, entries_named, entry_names, expressions_named, field, function_names, functions_named, named as names-named, present, same, unlike}
use Rattle.model.specs.Numbers.{below as numbers-below, bound, caps, constant_only, every, inside, numbered, ordered, outside, rising, sound, within}
use Rattle.model.specs.Operands.{constant_kind, emitted_kind, function_of, kind, kind_at, operand, ops, ops_of, optional, result_kind, result_of, standing, standing_kind}
use Rattle.model.specs.Outcome.{◌⟫◌, both, eat, exact, map_l, map_o}
use Rattle.model.specs.Redirect.{function, name_word, nothing}
use Rattle.model.specs.References.{add, alike, alike_c, carry_w, fold_refs, first_word, interned, moved, ref_of, refs, index_of, shift, span_by, target, targets, through, undefined, undefined_at}
use Rattle.theory_sessions.specs.Operating.{does, run}
use Rattle.model.specs.Scope.{add_e, add_f, add_opt, add_s, all_of, all_scoped, all_vis, call_result, cont_b, distinct as scope-distinct, effect_result, emitted, entries_scoped, evals_opt, evals_s, expand_s, has, holds_s, in_range, in_scope, is_of, kinds_s, live, ok_e, ok_s, opt_vis, scoped, scoped_as, seen, shape_s, top_b, up_from, vis}
use Rattle.model.specs.Session.{after, callees_of, clear, write_if_fits, finish, finish_with_entry_points, import_function, importing, unless_full, map_function_handle, map_span, with_source, new, rename_type, meets_ring, set as session-set, set_module, stuck, unknown, with_entries}
use Rattle.model.specs.Special.{force, keyed, pair_to, pairs, put_pair, put_ray, ray, ray_to, rays, sourced, with_special}
use Rattle.model.specs.Table.{atomics, constant_row, counted, entry_head, expression_row, expressions, follow as table-follow, function_head, global_row, levels as table-levels, limit, more, name_row, override_row, queries, repeat, results, run as table-run, statements, text, type_row, types, values, variant, variants}
use Rattle.model.specs.Tables.{types as tab-types, at, code_t, count, is_t, map_at, rec_at, six, tables, upd}
use Rattle.model.specs.Tree.{block_at, case_at, cases, checked, entry_at, flat, flat_all, flat_block, flat_entry, flat_list, flat_s, flat_x, form, function_at, kind_of, listed, operands, opt_of, rows, shaped, size_b, size_c, statement, stmts, word_of}

abbrev calling : ℕ → ℕ → Function
calling n f = function_with n [] [] [] (doing (call f [] none) then end)

abbrev pub shades : Module
shades = record {
  names = letter 97 ∷ letter 98 ∷ letter 99 ∷ [];
  types = leaf 1 1 0 ∷ leaf 0 5 1 ∷ [];
  constants = [];
  overrides = [];
  globals = [];
  exprs = [];
  functions = calling 0 2 ∷ function_with 1 [] [] [] end ∷ calling 2 1 ∷ [];
  entries = record { head = (NAME, 1) ∷ (WORD, 0) ∷ (WORD, 0) ∷ (WORD, 0) ∷ (WORD, 0) ∷ (WORD, 0) ∷ (WORD, 0) ∷ []; function = calling 1 0 } ∷ [];
  special = record { rays = (OPT_TYPE, 1) ∷ (OPT_TYPE, 0) ∷ (OPT_TYPE, 0) ∷ []; pairs = [] };
}

abbrev setting_it : ℕ → Operation
setting_it o = sets (4 * length (write shades)) (write shades) o

-- the source is set with offset 10, and shade is imported: once, and twice
abbrev pub one : List Operation
one = setting_it 10 ∷ functions 0 ∷ []

abbrev pub two : List Operation
two = setting_it 10 ∷ functions 0 ∷ imports tab-types 1 ∷ functions 0 ∷ []

-- it is set again with offset 100: the place of its special type is taken
abbrev pub again : List Operation
again = setting_it 10 ∷ functions 0 ∷ setting_it 100 ∷ renames 1 2 ∷ []

-- a function that calls itself
abbrev rings : Operation
rings = sets (4 * length (write ring)) (write ring) 0
  where
    ring : Module
    ring = record { names = letter 97 ∷ []; types = []; constants = []; overrides = []; globals = []; exprs = []; functions = calling 0 0 ∷ []; entries = []; special = record { rays = (OPT_TYPE, 0) ∷ (OPT_TYPE, 0) ∷ (OPT_TYPE, 0) ∷ []; pairs = [] } }

-- what is answered, and that the session after an answer is the one that the operation leaves: so that sessions need not be compared by computing them
number : Answer ℕ → Option ℕ
number (answered a s) = some a
number (refused n) = none

answered_is : (k : ℕ) (s : Session) (x : Answer ℕ) → number x ≡ some k → x ≡ answered k (after s x)
unfolding number after
answered_is k s (answered a s') e = let q : a ≡ k = cc in ap (λ b. answered b s') q
answered_is k s (refused n) e = let z : ◌≡◌ {A = ℕ} 0 1 = cc in absurd (omega arith)

abbrev ready : Session
ready = record { source = some (record { image = shades; offset = 10 }); state = (run (setting_it 10 ∷ []) new).state }

one_left : (run (setting_it 10 ∷ []) new).source ≡ some (record { image = shades; offset = 10 }) → ◌≡◌ {A = Answer ℕ} (answered 2 (after ready (import_function 0 ready))) (answered 2 (run one new))
unfolding run does
one_left e = ap leaves (sym e)
  where
    leaves : Option Source → Answer ℕ
    leaves x = let s : Session = record { source = x; state = (run (setting_it 10 ∷ []) new).state } in answered 2 (after s (import_function 0 s))

pub record Computed : Type 0 where
  -- shade imports fog, which imports tone
  pub brought : function_names (run one new).state.functions ≡ 3 ∷ 2 ∷ 1 ∷ []
  pub brought-once : function_names (run two new).state.functions ≡ 3 ∷ 2 ∷ 1 ∷ 1 ∷ []
  -- what finishing answers
  pub ends-one : finish 65536 (run one new) ≡ answered (write (finished (run one new).state [])) new
  pub ends-two : finish 65536 (run two new) ≡ answered (write (finished (run two new).state [])) new
  pub ends_with : finish_with_entry_points 65536 (run one new) ≡ answered (write (with_entries (record { image = shades; offset = 10 }) (run one new).state)) new
  -- and test 5 is passed unless two functions have one name
  pub apart : names_distinct (function_names (finished (run one new).state []).functions) ≡ true
  pub twice : names_distinct (function_names (finished (run two new).state []).functions) ≡ false
  -- the special type is mapped to what was derived for its place, with the span of the first
  pub place-taken : (run again new).state.maps.of_types ≡ 1 ∷ 2 ∷ []
  pub spans_first : (run again new).state.recs.of_types ≡ leaf 1 11 0 ∷ leaf 2 105 1 ∷ []
  -- that type is mapped by hand, and it is the only one; at first none is
  pub by_hand : taken 100 shades (run one new).state ≡ 0 ∷ []
  pub none_at_first : taken 10 shades fresh ≡ []
  -- with the source just set no name is known, and no ring is met
  pub one_set : (run one new).source ≡ some (record { image = shades; offset = 10 })
  pub just_set : (run (setting_it 10 ∷ []) new).source ≡ some (record { image = shades; offset = 10 })
  pub all-unknown : unknowns shades (run (setting_it 10 ∷ []) new).state ≡ 3
  pub no_ring : meets_ring (0 ∷ []) shades (run (setting_it 10 ∷ []) new).state ≡ false
  -- shade becomes the third function
  pub answers_third : import_function 0 (record { source = some (record { image = shades; offset = 10 }); state = (run (setting_it 10 ∷ []) new).state }) ≡ answered 2 (run one new)
  -- a ring is refused, and so is a number past the table
  pub ring_refused : import_function 0 (run (rings ∷ []) new) ≡ refused 22
  pub range_refused : import_function 3 (run one new) ≡ refused 13

pub computed : Computed
unfolding number append appended bring carried compare_of compares_of declarations declared derived each_e enter_all entered entries_made entry_made final bodies-follow follow_f import_stmt import_e intern_expr keep_names kept_names known last_of localized rebuild_stmt name_cells name_if named_after named_rows opt_e import_body append_expr put_name import_standing rebuilt carried_form append_standing step import_initialiser walked mapped_to callees_at callees_s calls any free held keep numbers round rounds carry carry_cell carry_entry carry_function carry_opt carry_range carry_s carry_special appearing finished firsts gathered index_n keep_n named_by names_in passes renumber too_large with_names commit emptied fresh import_f import_t imports-levels made unless_mapped rename renamed intern step_t unmapped mapped_to_t close constant_at initialised initials initial-initsOf mark marked moving reached_marks read_by roots unmarked intake_of tested verdict of_laid after_intake on_words bases_of lower-below entries_lower functions_lower init_of inits_lower lower-initsOf lower operands_lower types_lower ◌⊛◌ bodies count_at end_at flat_module flat_special flat_table limits next offset_at pairs_from placed places read records section sections sized special_at table table_at write absent differ names_distinct entries_named entry_names expressions_named field function_names functions_named names-named present same unlike numbers-below bound caps constant_only every inside numbered ordered outside rising sound within constant_kind emitted_kind function_of kind kind_at operand ops ops_of optional result_kind result_of standing standing_kind ◌⟫◌ both eat exact map_l map_o function name_word nothing add alike alike_c carry_w fold_refs first_word interned moved ref_of refs index_of shift span_by target targets through undefined undefined_at does run add_e add_f add_opt add_s all_of all_scoped all_vis call_result cont_b scope-distinct effect_result emitted entries_scoped evals_opt evals_s expand_s has holds_s in_range in_scope is_of kinds_s live ok_e ok_s opt_vis scoped scoped_as seen shape_s top_b up_from vis after callees_of clear write_if_fits finish finish_with_entry_points import_function importing unless_full map_function_handle map_span with_source new rename_type meets_ring session-set set_module stuck unknown with_entries force keyed pair_to pairs put_pair put_ray ray ray_to rays sourced with_special atomics constant_row counted entry_head expression_row expressions table-follow function_head global_row table-levels limit more name_row override_row queries repeat results table-run statements text type_row types values variant variants at code_t count is_t map_at rec_at six tables upd block_at case_at cases checked entry_at flat flat_all flat_block flat_entry flat_list flat_s flat_x form function_at kind_of listed operands opt_of rows shaped size_b size_c statement stmts word_of unknowns hand_if hand_ray hand_rays hand_pairs taken
computed = record { brought = refl; brought-once = refl; ends-one = refl; ends-two = refl; ends_with = refl; apart = refl; twice = refl; place-taken = refl; spans_first = refl; by_hand = refl; none_at_first = refl; one_set = refl; just_set = refl; all-unknown = refl; no_ring = refl; answers_third = answered_is 2 ready (import_function 0 ready) refl ∙ one_left refl; ring_refused = refl; range_refused = refl }

-- ---- the theorems apply
-- what the first session writes is read back and passes all tests
pub written_one : Written (finished (run one new).state []) (write (finished (run one new).state []))
written_one = finish-written (run one new) (run_good one new new_good) 65536 _ new computed.ends-one

-- with its entry point too
pub written_with_entry : Written (with_entries (record { image = shades; offset = 10 }) (run one new).state) (write (with_entries (record { image = shades; offset = 10 }) (run one new).state))
written_with_entry = written-with (run one new) (every-state one) (record { image = shades; offset = 10 }) computed.one_set 65536 _ new computed.ends_with

-- the second's is turned back with 5, and by no other test
pub written-two : intake_of (4 * length (write (finished (run two new).state []))) (write (finished (run two new).state [])) ≡ 5
written-two = (finish-written (run two new) (run_good two new new_good) 65536 _ new computed.ends-two).intake ∙ ap (λ b. elim b [ true ↦ 0 | false ↦ 5 ]) computed.twice

-- nothing that was derived is lost when the source is set again, and no two records are equal
pub grown_again : Grew (run one new).state (does (setting_it 100) (run one new)).state
grown_again = does_grow (setting_it 100) (unfold ends in refl) (run one new) (run_good one new new_good)

pub kept_on : Keeps (run one new).state (does (functions 0) (run one new)).state
kept_on = does-keep (functions 0) (unfold turns in refl) (run one new) (run_good one new new_good)

pub distinct-again : Distinct (run again new).state
distinct-again = all-distinct (run again new) (run_good again new new_good)

pub stays : after (run one new) (import_function 3 (run one new)) ≡ run one new
stays = refused_keeps (run one new) 13 (import_function 3 (run one new)) computed.range_refused

-- a bound of 3 or of 9 is as good as that of `follow`, which follows shade by importing it
abbrev pub begun : Session
begun = run (setting_it 10 ∷ []) new

pub set-begun : Set (record { image = shades; offset = 10 }) begun.state
set-begun = source-set begun (every-state (setting_it 10 ∷ [])) (record { image = shades; offset = 10 }) computed.just_set

pub three_deep : follow_f 3 10 shades 0 begun.state ≡ follow_f 9 10 shades 0 begun.state
three_deep = deep 3 (omega arith) ∙ sym (deep 9 (omega arith))
  where
    deep : (k : ℕ) → 3 ≤ k → follow_f k 10 shades 0 begun.state ≡ bodies-follow 10 shades 0 begun.state
    deep k l = fuel_removed (record { image = shades; offset = 10 }) begun.state set-begun 0 (omega arith) computed.no_ring k (rw computed.all-unknown l)

pub followed_by_import : bodies-follow 10 shades 0 begun.state ≡ unless_mapped (known shades begun.state 0) (λ z. append 10 shades (bodies-follow 10 shades) 0 begun.state) begun.state
followed_by_import = follow_is (record { image = shades; offset = 10 }) begun.state set-begun 0 (omega arith) computed.no_ring

-- each function of the first session agrees with the one that it comes from
pub walks_one : Origins (run one new).state (finished (run one new).state [])
walks_one = origins one

-- set for the first time, all that is mapped has its source's record; set again, all but that type and the renamed one
abbrev pub shades-at : ℕ → Source
shades-at o = record { image = shades; offset = o }

two_stay : Stays (functions 0 ∷ imports tab-types 1 ∷ [])
unfolding turns
two_stay = stays-next refl (stays-next refl stays-none)

rename-stays : Stays (renames 1 2 ∷ [])
unfolding turns
rename-stays = stays-next refl stays-none

pub all_sound : Sound (tables shades) (run (functions 0 ∷ imports tab-types 1 ∷ []) (record { source = some (shades-at 10); state = sourced 10 shades fresh })).state
unfolding new
all_sound = mapped-plainly (shades-at 10) set-begun.well set-begun.passes new new_good two_stay computed.none_at_first (unfold all_renamed renamed_by in refl)

pub sound_but : But (taken 100 shades (run one new).state ++ all_renamed (renames 1 2 ∷ [])) (shades-at 100) (run (renames 1 2 ∷ []) (record { source = some (shades-at 100); state = sourced 100 shades (run one new).state }))
sound_but = mapped-records (shades-at 100) set-begun.well set-begun.passes (run one new) (every-state one) rename-stays

-- what is answered is the function that comes from shade
pub third : Appends (shades-at 10) begun.state set-begun 0 2 (run one new) (append 10 shades (bodies-follow 10 shades) 0 begun.state)
third = function-gives (shades-at 10) begun.state set-begun 0 2 (run one new) computed.answers_third
