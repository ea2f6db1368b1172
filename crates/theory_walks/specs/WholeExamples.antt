-- Agreement in full shuts out what it is to shut out, and is met.
-- Shut out: a function renamed, an argument dropped, types mapped to one type, a constant's init changed, a local's initialiser changed, two body expressions with one record, a special type dropped. Met: a module with P10 and P11, and what linking makes of it: functions and names in another order, types and expressions merged and dropped, an Emit moved.
use Rattle.std.specs.Prelude.{◌≡◌, refl, true, List, [], ◌∷◌, ℕ, zero, suc, ltb, get_or}
use Rattle.std.proofs.Common.{sym, subst, ⊎_elim, arith}
use Rattle.std.proofs.lemmas.Bool.{false≢true}
use Rattle.std.proofs.Math.Option.{none, some}
use Rattle.std.proofs.Math.ListN.{get_elem?}
use Rattle.theory_lists.specs.Booleans.{and_second}
use Rattle.model.specs.Outcome.{Cells}
use Rattle.model.specs.Table.{WORD, SPAN, UPTO, NAME, TYPE, OPT_TYPE, CONSTANT, GLOBAL, INIT, OPT_INIT, EXPR, KEY, TYPE_KIND, LOCAL-INIT, OVERRIDE, FUNCTION, OPT_EXPR, ARGUMENT, LOCAL, MEMBERS, LEVEL, VALUE, RETURNS, NAMED-EXPR}
use Rattle.model.specs.Tree.{Block, call, return, block, branch, switch, loop, break, continue, kill, effect, case, nomore, ◌also◌, end, ◌then◌, Range, Function, Entry, opt_of, word_of, kind_of, size_b, size_c, flat_all, flat_list, flat_x, flat_s, flat_block, flat, flat_entry}
use Rattle.model.specs.Module.{Special, Module, flat_special, places, flat_table, sections, pairs_from, bodies, flat_module}
use Rattle.model.specs.Operands.{optional, operand, ops_of, kind, standing_kind, kind_at, standing}
use Rattle.model.specs.Initial.{inits_of, roots, marked, mark, unmarked, read_by, close, reached_marks, moving, initials, initial}
use Rattle.model.specs.Names.{field, same}
use Rattle.model.specs.Scope.{up_from, in_range, live, expand_s, seen}
use Rattle.model.specs.SampleBodies.{record_with, literal, negate, splat, add, does, evals, store, exchange, uniform_load, local}
use Rattle.model.specs.RedirectExamples.{letter}
use Rattle.model.specs.ImportExamples.{leaf}
use Rattle.model.specs.Tables.{Tab, types, constants, exprs, code_t, is_t, at, upd, six, tables, rec_at, count, map_at}
use Rattle.model.specs.References.{Node, target as target_of, targets, ref_of, refs, first_word, fold_refs, carry_w, through, undefined, add as addSpan, span_by, undefined_at, moved, shift, alike_c, alike, index_of, interned}
use Rattle.model.specs.Imports.{unless_mapped, intern, mapped_to_t, made, commit, step_t, import_f, levels, import_t, unmapped, emptied, fresh}
use Rattle.model.specs.Special.{force, with_special, put_ray, ray_to, ray, rays, keyed, put_pair, pair_to, pairs, sourced}
use Rattle.model.specs.Finish.{names_in, keep_n, firsts, index_n, appearing, renumber, with_names, named_by, gathered, finished}
use Rattle.model.specs.Session.{with_entries}
use Rattle.model.specs.Link.{append_all, link_by}
use Rattle.model.specs.LinkMaps.{places_of, memos_of, memos_in, link_maps}
use Rattle.theory_walks.specs.WholeTest.{test_f, test_o, test_p, test_fs, inverse, comes, test_es, test_t, test_ts, test, owner, owners, below, test_agrees}
use Rattle.model.specs.Redirect.{name_word, nothing, function as function_at}
use Rattle.model.specs.Carry.{carry_cell, carry_opt, carry_range, carry_s, carry_function, carry_entry, carry_special, carry}
use Rattle.model.specs.Bodies.{last_of, known, bring, compare_of, compares_of, each_e, opt_e, mapped_to, carried, step, append_expr, intern_expr, append_standing, import_e, import_body, import_initialiser, import_standing, import_stmt, carried_form, rebuild_stmt, put_name, name_if, keep_names, name_cells, named_rows, declarations, declared, walked, rebuilt, kept_names, named_after, derived, final, localized, appended, append, follow_f, follow, entered, entry_made, enter_all, entries_made}
use Rattle.model.specs.Agreement.{Mapping, Among, Holds, as_entry, Reached, from_special, from_operand, first, later, opened, body_of, stated, becomes, agrees_w, agrees_r, agrees_l, stands, agrees_n, Agrees, as_function, from_function, from_kept, from_record, global, Agreement}
use Rattle.theory_image.specs.Members.{no_mem}
use Rattle.theory_walks.specs.Agreement.{carry_s as carryX, mentions_s, mentioned}
use Rattle.theory_walks.specs.Agreement as Old
use Rattle.theory_walks.specs.WholeLaws.{all_stand, may_share, owned, sole}

abbrev empty : Special
empty = record { rays = (OPT_TYPE, 0) ∷ (OPT_TYPE, 0) ∷ (OPT_TYPE, 0) ∷ []; pairs = [] }

-- a module of names a and b, and of these types, constants, global expressions and functions
abbrev holds : List Cells → List Cells → List Cells → List Function → Special → Module
holds ts cs xs fs s = record { names = letter 97 ∷ letter 98 ∷ []; types = ts; constants = cs; overrides = []; globals = []; exprs = xs; functions = fs; entries = []; special = s }

-- a function by its name, arguments, locals, expressions and body
abbrev makes : ℕ → List Cells → List Cells → List Cells → Block Range → Function
makes n gs ls xs b = record { head = (NAME, n) ∷ (SPAN, 0) ∷ (UPTO, 0) ∷ []; arguments = gs; result = (RETURNS, 0) ∷ []; locals = ls; exprs = xs; named = []; body = b }

abbrev argument : ℕ → Cells
argument t = (NAME, 0) ∷ (TYPE, t) ∷ (WORD, 0) ∷ (WORD, 0) ∷ (WORD, 0) ∷ (WORD, 0) ∷ (WORD, 0) ∷ (WORD, 0) ∷ []

-- the only function of a module
only : (G F' : Function) (j : ℕ) → get_elem? (G ∷ []) j ≡ some F' → G ≡ F'
only G F' zero q = cc
only G F' (suc j) q = absurd (let z : ◌≡◌ {A = ℕ} 0 1 = cc in omega arith)

-- whatever the maps: if the only functions of two modules do not agree, the modules do not
alone : (M M' : Module) (μ : Mapping) (F G : Function) → M.functions ≡ F ∷ [] → M'.functions ≡ G ∷ [] → Agreement M M' μ → Agrees M M' μ (get_or μ.in_functions 0 []) F G
alone M M' μ F G p q a =
    let r = a.functions 0 F (rw p) in
    subst (λ H. Agrees M M' μ (get_or μ.in_functions 0 []) F H) (sym (only G r.1 r.0 (rw q at r.3))) r.4

-- ---- the pair that agreement of bodies alone let through: the function renamed, its argument, result and local dropped, no type left, every type mapped to 0
abbrev rich : Module
rich = holds (leaf 0 1 0 ∷ []) [] [] (record { head = (NAME, 1) ∷ (SPAN, 0) ∷ (UPTO, 0) ∷ []; arguments = argument 0 ∷ []; result = (RETURNS, 1) ∷ (TYPE, 0) ∷ (WORD, 0) ∷ (WORD, 0) ∷ (WORD, 0) ∷ (WORD, 0) ∷ (WORD, 0) ∷ (WORD, 0) ∷ []; locals = local 1 ∷ []; exprs = literal 7 ∷ []; named = []; body = end } ∷ []) empty

abbrev poor : Module
poor = holds [] [] [] (makes 2 [] [] [] end ∷ []) empty

abbrev to_0 : Old.Maps
to_0 = record { type = λ n. 0; constant = λ n. 0; override = λ n. 0; global = λ n. 0; global_expr = λ n. 0; function = λ n. n; in_function = λ i e. 0; in_entry = λ i e. 0 }

let_through : Old.Agreement rich poor to_0
unfolding seen expand_s carryX mentioned mentions_s
let_through = record { functions = each_function; entries = λ i E q. absurd (let z : ◌≡◌ {A = ℕ} 0 1 = cc in omega arith) }
  where
    each_function : (i : ℕ) (F : Function) → get_elem? rich.functions i ≡ some F
        → (F' : Function) × (get_elem? poor.functions i ≡ some F') × Old.Agrees rich poor to_0 F F' (λ e. 0)
    each_function zero F q = (
      makes 2 [] [] [] end,
      refl,
      let p : get_or rich.functions 0 (makes 2 [] [] [] end) ≡ F = cc in
          subst (λ x. Old.Agrees rich poor to_0 x (makes 2 [] [] [] end) (λ e. 0)) p (record { body = refl; records = λ e m. absurd (no_mem m); apart = λ e d m n z. absurd (no_mem m) }),
    )
    each_function (suc i) F q = absurd (let z : ◌≡◌ {A = ℕ} 0 1 = cc in omega arith)

shut_out : (μ : Mapping) → Agreement rich poor μ → ⊥
unfolding agrees_l
shut_out μ a = false≢true (alone _ _ μ (get_or rich.functions 0 (makes 2 [] [] [] end)) (makes 2 [] [] [] end) refl refl a).arguments

-- ---- a function renamed
renamed : (μ : Mapping) → Agreement (holds [] [] [] (makes 1 [] [] [] end ∷ []) empty) (holds [] [] [] (makes 2 [] [] [] end ∷ []) empty) μ → ⊥
unfolding agrees_r agrees_w target_of targets becomes is_t code_t same
renamed μ a = false≢true (alone _ _ μ (makes 1 [] [] [] end) (makes 2 [] [] [] end) refl refl a).head

-- ---- an argument dropped
dropped : (μ : Mapping) → Agreement (holds (leaf 0 1 0 ∷ []) [] [] (makes 1 (argument 0 ∷ []) [] [] end ∷ []) empty) (holds (leaf 0 1 0 ∷ []) [] [] (makes 1 [] [] [] end ∷ []) empty) μ → ⊥
unfolding agrees_l
dropped μ a = false≢true (alone _ _ μ (makes 1 (argument 0 ∷ []) [] [] end) (makes 1 [] [] [] end) refl refl a).arguments

-- ---- maps that keep every number of a small module
abbrev stays : Mapping
stays = record {
  in_tables = record { of_names = []; of_types = 1 ∷ []; of_constants = 1 ∷ []; of_overrides = []; of_globals = []; of_exprs = 1 ∷ [] };
  functions = 1 ∷ [];
  in_functions = (1 ∷ []) ∷ [];
  in_entries = [];
}

-- ---- two types mapped to one: whatever the maps, the target has no type of the other kind
abbrev two_types : Module
two_types = holds (leaf 0 1 0 ∷ leaf 0 1 1 ∷ []) [] [] (makes 1 (argument 0 ∷ argument 1 ∷ []) [] [] end ∷ []) empty

abbrev one_type : Module
one_type = holds (leaf 0 1 0 ∷ []) [] [] (makes 1 (argument 0 ∷ argument 0 ∷ []) [] [] end ∷ []) empty

types-to_0 : (μ : Mapping) → Agreement two_types one_type μ → ⊥
unfolding agrees_r agrees_w target_of targets is_t code_t stated flat_all refs ref_of stands tables rec_at at
types-to_0 μ a = go (map_at μ.in_tables types 1) (a.records types 1 refl (from_function (as_function 0 _ refl) (later (later first))))
  where
    go : (v : ℕ) → stands two_types one_type μ (global two_types one_type μ) (leaf 0 1 0 ∷ []) v (leaf 0 1 1) ≡ true → ⊥
    go zero h = false≢true h
    go (suc zero) h = false≢true h
    go (suc (suc k)) h = false≢true (and_second (ltb (suc k) 1) _ h)

-- ---- a constant's init changed: the function returns the constant
abbrev seven : ℕ → Module
seven n = holds (leaf 0 1 0 ∷ []) (((NAME, 2) ∷ (SPAN, 0) ∷ (UPTO, 0) ∷ (TYPE, 0) ∷ (INIT, 0) ∷ []) ∷ []) (literal n ∷ []) (makes 1 [] [] (record_with 1 ((CONSTANT, 0) ∷ []) ∷ []) (does (return (some 0)) then end) ∷ []) empty

init_changed : Agreement (seven 7) (seven 8) stays → ⊥
unfolding agrees_r agrees_w target_of targets is_t code_t refs ref_of stands tables rec_at at map_at
init_changed a = false≢true (a.records exprs 0 refl (from_record {t = constants} refl (from_kept 0 0 (as_function 0 _ refl) refl first) (later (later first))))

-- ---- a local's initialiser changed
abbrev local7 : ℕ → Module
local7 n = holds (leaf 0 1 0 ∷ []) [] [] (makes 1 [] (local 1 ∷ []) (literal n ∷ []) end ∷ []) empty

local_changed : Agreement (local7 7) (local7 8) stays → ⊥
unfolding agrees_r agrees_w target_of targets stands
local_changed a = false≢true ((alone _ _ stays (makes 1 [] (local 1 ∷ []) (literal 7 ∷ []) end) (makes 1 [] (local 1 ∷ []) (literal 8 ∷ []) end) refl refl a).kept 0 0 refl)

-- ---- two body expressions with one record, whatever the modules and the target
abbrev twice : Function
twice = makes 1 [] [] (literal 7 ∷ negate 0 ∷ negate 0 ∷ []) (evals 1 3 then end)

one_record : (M M' : Module) (μ : Mapping) (F' : Function) → Agrees M M' μ (1 ∷ 2 ∷ 2 ∷ []) twice F' → ⊥
unfolding standing kind_at kind standing_kind initial marked initials moving reached_marks close mark read_by unmarked roots
one_record M M' μ F' a = ⊎_elim (λ q. omega (arith, q)) (λ s. ⊎_elim false≢true false≢true s.0) (a.apart 1 2 1 refl refl)

-- ---- what an Emit evaluates, in another order
swapped : (M M' : Module) (μ : Mapping) → Agrees M M' μ (1 ∷ 3 ∷ 2 ∷ []) (makes 1 [] [] (literal 7 ∷ negate 0 ∷ splat 0 ∷ []) (evals 1 3 then end)) (makes 1 [] [] (literal 7 ∷ splat 0 ∷ negate 0 ∷ []) (evals 1 3 then end)) → ⊥
unfolding agrees_r agrees_w target_of targets becomes is_t code_t body_of opened first_word up_from in_range live word_of kind_of size_b size_c flat_x flat_s flat_block initial marked initials moving reached_marks close mark read_by unmarked roots ops_of operand kind standing_kind
swapped M M' μ a = false≢true a.body

-- ---- another callee, where the maps leave every function at its place
abbrev in_place : Mapping
in_place = record { in_tables = stays.in_tables; functions = 1 ∷ 2 ∷ []; in_functions = [] ∷ [] ∷ []; in_entries = [] }

other-callee : (M M' : Module) → Agrees M M' in_place [] (makes 1 [] [] [] (does (call 1 [] none) then end)) (makes 1 [] [] [] (does (call 0 [] none) then end)) → ⊥
unfolding agrees_r agrees_w target_of targets becomes is_t code_t body_of opened first_word up_from in_range live word_of kind_of size_b size_c flat_x flat_s flat_block initial marked initials moving reached_marks close mark read_by unmarked roots ops_of operand kind standing_kind
other-callee M M' a = false≢true a.body

-- ---- another name of a kept expression, and none
calls_it : List Cells → Function
calls_it ns = record { head = []; arguments = []; result = []; locals = []; exprs = literal 7 ∷ []; named = ns; body = does (return (some 0)) then end }

other_name : (μ : Mapping) → Agrees (holds [] [] [] [] empty) (holds [] [] [] [] empty) μ (1 ∷ []) (calls_it (((NAMED-EXPR, 0) ∷ (NAME, 1) ∷ []) ∷ [])) (calls_it (((NAMED-EXPR, 0) ∷ (NAME, 2) ∷ []) ∷ [])) → ⊥
unfolding calls_it agrees_n agrees_w target_of targets becomes is_t code_t same field put_name name_if keep_names
other_name μ a = false≢true a.named

no_name : (μ : Mapping) → Agrees (holds [] [] [] [] empty) (holds [] [] [] [] empty) μ (1 ∷ []) (calls_it (((NAMED-EXPR, 0) ∷ (NAME, 1) ∷ []) ∷ [])) (calls_it []) → ⊥
unfolding calls_it agrees_n field put_name name_if keep_names
no_name μ a = false≢true a.named

-- ---- a function added
added : (μ : Mapping) → Agreement (holds [] [] [] [] empty) (holds [] [] [] (makes 1 [] [] [] end ∷ []) empty) μ → ⊥
added μ a = let r = a.onto 0 (omega arith) in let z : ◌≡◌ {A = ℕ} 0 1 = (let q = r.2 in cc) in omega (arith, z)

-- ---- a special type dropped, or one added
abbrev rayed : ℕ → List Cells → Module
rayed n ps = holds (leaf 0 1 0 ∷ []) [] [] [] (record { rays = (OPT_TYPE, n) ∷ (OPT_TYPE, 0) ∷ (OPT_TYPE, 0) ∷ []; pairs = ps })

ray_dropped : (μ : Mapping) → Agreement (rayed 1 []) (rayed 0 []) μ → ⊥
unfolding agrees_r agrees_w target_of targets
ray_dropped μ a = false≢true a.rays

ray_added : (μ : Mapping) → Agreement (rayed 0 []) (rayed 1 []) μ → ⊥
unfolding agrees_r agrees_w target_of targets
ray_added μ a = false≢true a.rays

key_dropped : (μ : Mapping) → Agreement (rayed 0 (((KEY, 7) ∷ (TYPE, 0) ∷ []) ∷ [])) (rayed 0 []) μ → ⊥
unfolding agrees_l
key_dropped μ a = false≢true a.pairs

-- ---- what is not reached need not agree: a type that nothing names may be mapped anywhere
abbrev lonely : Module
lonely = holds (leaf 0 1 0 ∷ []) [] [] [] empty

abbrev astray : Mapping
astray = record { in_tables = record { of_names = []; of_types = 9 ∷ []; of_constants = []; of_overrides = []; of_globals = []; of_exprs = [] }; functions = []; in_functions = []; in_entries = [] }

no_holder : {o : List ℕ} {F : Function} → Holds lonely lonely astray o F → ⊥
no_holder (as_function i F q) = let z : ◌≡◌ {A = ℕ} 0 1 = cc in omega (arith, z)
no_holder (as_entry i E q) = let z : ◌≡◌ {A = ℕ} 0 1 = cc in omega (arith, z)

not_among : {x : Node} → Among x [] → ⊥
not_among = elim [ ]

nothing-reached : {t : Tab} {n : ℕ} → Reached lonely lonely astray t n → ⊥
unfolding flat_special flat_all refs ref_of target_of targets
nothing-reached (from_function s a) = no_holder s
nothing-reached (from_kept e k s q a) = no_holder s
nothing-reached (from_special a) = not_among a
nothing-reached (from_record i r a) = nothing-reached r
nothing-reached (from_operand i r a) = nothing-reached r

unreached : Agreement lonely lonely astray
unfolding agrees_r agrees_l agrees_w target_of targets
unreached = record {
  records = λ t n h r. absurd (nothing-reached r);
  functions = λ i F q. absurd (let z : ◌≡◌ {A = ℕ} 0 1 = cc in omega (arith, z));
  once = λ i j g h q. absurd (omega (arith, g));
  onto = λ j h. absurd (omega (arith, h));
  entries = λ i E q. absurd (let z : ◌≡◌ {A = ℕ} 0 1 = cc in omega (arith, z));
  no_entry_added = refl;
  rays = refl;
  pairs = refl;
}

-- ---- MET
-- the source: functions a (P10, which then calls b) and b (P11), and an entry point e. Types 0 and 1 are equal, type 4 and global expression 0 are not reached
abbrev fields : ℕ → List Cells → Cells → List Cells → List Cells → List Cells → Block Range → Function
fields n gs r ls xs ns b = record { head = (NAME, n) ∷ (SPAN, 0) ∷ (UPTO, 0) ∷ []; arguments = gs; result = r; locals = ls; exprs = xs; named = ns; body = b }

abbrev pointer : ℕ → Cells
pointer t = (NAME, 0) ∷ (SPAN, 0) ∷ (UPTO, 0) ∷ (TYPE_KIND, 1) ∷ (TYPE, t) ∷ (WORD, 3) ∷ (WORD, 4) ∷ []

abbrev constant : ℕ → ℕ → ℕ → Cells
constant n t e = (NAME, n) ∷ (SPAN, 0) ∷ (UPTO, 0) ∷ (TYPE, t) ∷ (INIT, e) ∷ []

abbrev variable : ℕ → ℕ → ℕ → Cells
variable n t e = (NAME, n) ∷ (SPAN, 0) ∷ (UPTO, 0) ∷ (WORD, 1) ∷ (WORD, 2) ∷ (WORD, 3) ∷ (WORD, 4) ∷ (WORD, 5) ∷ (TYPE, t) ∷ (OPT_INIT, e) ∷ (WORD, 6) ∷ []

abbrev returns : ℕ → Cells
returns t = (RETURNS, 1) ∷ (TYPE, t) ∷ (WORD, 0) ∷ (WORD, 0) ∷ (WORD, 0) ∷ (WORD, 0) ∷ (WORD, 0) ∷ (WORD, 0) ∷ []

abbrev local_of : ℕ → ℕ → Cells
local_of t x = (SPAN, 0) ∷ (UPTO, 0) ∷ (NAME, 0) ∷ (TYPE, t) ∷ (LOCAL-INIT, x) ∷ []

abbrev named : ℕ → ℕ → Cells
named e n = (NAMED-EXPR, e) ∷ (NAME, n) ∷ []

abbrev entry : ℕ → Function → Entry
entry n F = record { head = (NAME, n) ∷ (WORD, 2) ∷ (WORD, 0) ∷ (WORD, 0) ∷ (WORD, 8) ∷ (WORD, 8) ∷ (WORD, 1) ∷ []; function = F }

abbrev constant_e : ℕ → Cells
constant_e c = record_with 1 ((CONSTANT, c) ∷ [])

abbrev global_e : ℕ → Cells
global_e g = record_with 10 ((GLOBAL, g) ∷ [])

abbrev load : ℕ → Cells
load e = record_with 12 ((EXPR, e) ∷ [])

abbrev p10 : Function
p10 = fields 1 (argument 1 ∷ []) (returns 0) [] (literal 12 ∷ literal 10 ∷ literal 11 ∷ add 1 2 ∷ add 3 0 ∷ []) [] (evals 3 5 then does (call 1 [] none) then end)

abbrev p11 : Function
p11 = fields 2 [] ((RETURNS, 0) ∷ []) (local_of 0 2 ∷ []) (literal 7 ∷ splat 0 ∷ []) [] (evals 1 2 then end)

-- its two initialisers merge, with their names; expression 4 and its name are dropped
abbrev main : Function
main = fields 0 [] ((RETURNS, 0) ∷ []) (local_of 0 1 ∷ local_of 0 2 ∷ []) (literal 7 ∷ literal 7 ∷ global_e 0 ∷ load 2 ∷ literal 9 ∷ []) (named 0 1 ∷ named 3 3 ∷ named 4 4 ∷ named 1 2 ∷ []) (evals 3 4 then does (call 0 (3 ∷ []) none) then end)

unfoldable pub source : Module
source = record {
  names = letter 97 ∷ letter 98 ∷ letter 99 ∷ letter 100 ∷ letter 101 ∷ [];
  types = leaf 0 1 0 ∷ leaf 0 5 0 ∷ leaf 2 7 1 ∷ pointer 2 ∷ leaf 0 9 5 ∷ [];
  constants = constant 3 2 1 ∷ [];
  overrides = [];
  globals = variable 4 3 3 ∷ [];
  exprs = literal 8 ∷ literal 7 ∷ constant_e 0 ∷ [];
  functions = p10 ∷ p11 ∷ [];
  entries = entry 5 main ∷ [];
  special = record { rays = (OPT_TYPE, 0) ∷ (OPT_TYPE, 2) ∷ (OPT_TYPE, 0) ∷ []; pairs = ((KEY, 7) ∷ (TYPE, 2) ∷ []) ∷ [] };
}

-- the target: names b, c, d, a, e
abbrev p10' : Function
p10' = fields 4 (argument 0 ∷ []) (returns 0) [] (literal 10 ∷ literal 11 ∷ literal 12 ∷ add 0 1 ∷ add 3 2 ∷ []) [] (evals 3 5 then does (call 0 [] none) then end)

abbrev p11' : Function
p11' = fields 1 [] ((RETURNS, 0) ∷ []) (local_of 0 2 ∷ []) (literal 7 ∷ splat 0 ∷ []) [] (evals 2 2 then end)

abbrev main' : Function
main' = fields 0 [] ((RETURNS, 0) ∷ []) (local_of 0 1 ∷ local_of 0 1 ∷ []) (literal 7 ∷ global_e 0 ∷ load 1 ∷ []) (named 0 1 ∷ named 2 2 ∷ []) (evals 2 3 then does (call 1 (2 ∷ []) none) then end)

unfoldable pub target : Module
target = record {
  names = letter 98 ∷ letter 99 ∷ letter 100 ∷ letter 97 ∷ letter 101 ∷ [];
  types = leaf 0 5 0 ∷ leaf 1 7 1 ∷ pointer 1 ∷ [];
  constants = constant 2 1 0 ∷ [];
  overrides = [];
  globals = variable 3 2 2 ∷ [];
  exprs = literal 7 ∷ constant_e 0 ∷ [];
  functions = p11' ∷ p10' ∷ [];
  entries = entry 5 main' ∷ [];
  special = record { rays = (OPT_TYPE, 0) ∷ (OPT_TYPE, 1) ∷ (OPT_TYPE, 0) ∷ []; pairs = ((KEY, 7) ∷ (TYPE, 1) ∷ []) ∷ [] };
}

unfoldable pub maps : Mapping
maps = record {
  in_tables = record { of_names = []; of_types = 1 ∷ 1 ∷ 2 ∷ 3 ∷ 0 ∷ []; of_constants = 1 ∷ []; of_overrides = []; of_globals = 1 ∷ []; of_exprs = 0 ∷ 1 ∷ 2 ∷ [] };
  functions = 2 ∷ 1 ∷ [];
  in_functions = (3 ∷ 1 ∷ 2 ∷ 4 ∷ 5 ∷ []) ∷ (1 ∷ 2 ∷ []) ∷ [];
  in_entries = (1 ∷ 1 ∷ 2 ∷ 3 ∷ 0 ∷ []) ∷ [];
}

-- it is what linking makes
linked : link_by (1 ∷ 0 ∷ []) source ≡ target
unfolding source target opt_of word_of kind_of size_b size_c flat_all flat_list flat_x flat_s flat_block carry_cell carry_opt carry_range carry_s carry_function carry_entry carry_special carry kind standing_kind kind_at standing field up_from in_range name_word nothing function_at code_t is_t at upd six tables rec_at count map_at targets target_of ref_of refs fold_refs carry_w through undefined addSpan span_by first_word undefined_at moved shift alike_c alike index_of interned unless_mapped intern mapped_to_t made commit step_t import_f levels import_t unmapped emptied fresh last_of known bring compare_of compares_of each_e opt_e mapped_to carried step append_expr intern_expr append_standing import_e import_body import_initialiser import_standing import_stmt carried_form rebuild_stmt put_name name_if keep_names name_cells named_rows declarations declared walked rebuilt kept_names named_after derived final localized appended append follow_f follow entered entry_made enter_all entries_made force with_special put_ray ray_to ray rays keyed put_pair pair_to pairs sourced names_in keep_n firsts index_n appearing renumber with_names named_by gathered finished with_entries append_all link_by places flat_table flat_special sections pairs_from bodies flat_module flat flat_entry
linked = refl

met : Agreement source target maps
unfolding source target maps word_of kind_of size_b size_c flat_all flat_x flat_s flat_block kind standing_kind kind_at standing field up_from in_range code_t is_t at tables rec_at map_at targets target_of first_word put_name name_if keep_names flat_special agrees_r agrees_l agrees_w agrees_n becomes stands body_of opened stated same live marked initials moving reached_marks close mark read_by unmarked roots inits_of optional operand ops_of initial may_share owned sole all_stand test_f test_o test_p test_fs inverse comes test_es test_t test_ts test owner owners below
met = test_agrees source target maps refl

-- and link's maps are these, with those of the names
linked-maps : ((link_maps (1 ∷ 0 ∷ []) source).functions ≡ maps.functions) × ((link_maps (1 ∷ 0 ∷ []) source).in_functions ≡ maps.in_functions) × ((link_maps (1 ∷ 0 ∷ []) source).in_entries ≡ maps.in_entries) × ((link_maps (1 ∷ 0 ∷ []) source).in_tables.of_types ≡ maps.in_tables.of_types)
unfolding source maps opt_of word_of kind_of size_b size_c flat_all flat_list flat_x flat_s flat_block carry_cell carry_opt carry_range carry_s carry_function carry_entry carry_special carry kind standing_kind kind_at standing field up_from in_range name_word nothing function_at code_t is_t at upd six tables rec_at count map_at targets target_of ref_of refs fold_refs carry_w through undefined addSpan span_by first_word undefined_at moved shift alike_c alike index_of interned unless_mapped intern mapped_to_t made commit step_t import_f levels import_t unmapped emptied fresh last_of known bring compare_of compares_of each_e opt_e mapped_to carried step append_expr intern_expr append_standing import_e import_body import_initialiser import_standing import_stmt carried_form rebuild_stmt put_name name_if keep_names name_cells named_rows declarations declared walked rebuilt kept_names named_after derived final localized appended append follow_f follow entered entry_made enter_all entries_made force with_special put_ray ray_to ray rays keyed put_pair pair_to pairs sourced names_in keep_n firsts index_n appearing renumber with_names named_by gathered finished with_entries append_all link_by places flat_table flat_special sections pairs_from bodies flat_module flat flat_entry agrees_r agrees_l agrees_w agrees_n becomes stands body_of opened stated same live marked initials moving reached_marks close mark read_by unmarked roots inits_of optional operand ops_of initial may_share owned sole all_stand test_f test_o test_p test_fs inverse comes test_es test_t test_ts test owner owners below places_of memos_of memos_in link_maps
linked-maps = (refl, refl, refl, refl)

-- ---- every form of statement, an override, a struct: linked, it agrees by link's maps
abbrev struct : Cells
struct = (NAME, 2) ∷ (SPAN, 3) ∷ (UPTO, 4) ∷ (TYPE_KIND, 2) ∷ (WORD, 16) ∷ (MEMBERS, 1) ∷ (NAME, 3) ∷ (TYPE, 0) ∷ (WORD, 0) ∷ (WORD, 0) ∷ (WORD, 0) ∷ (WORD, 0) ∷ (WORD, 0) ∷ (WORD, 0) ∷ (WORD, 0) ∷ []

abbrev walker : Function
walker = fields 1 (argument 1 ∷ []) (returns 0) (local_of 0 6 ∷ [])
    (record_with 9 ((ARGUMENT, 0) ∷ [])
    ∷ global_e 0
    ∷ record_with 11 ((LOCAL, 0) ∷ [])
    ∷ literal 1
    ∷ literal 2
    ∷ splat 4
    ∷ load 1
    ∷ add 6 3
    ∷ record_with 23 ((FUNCTION, 1) ∷ [])
    ∷ add 8 7
    ∷ record_with 24 ((TYPE, 0) ∷ (2, 0) ∷ [])
    ∷ record_with 25 ((TYPE, 0) ∷ [])
    ∷ add 3 4
    ∷ add 12 3
    ∷ record_with 21 ((79, 5) ∷ (EXPR, 7) ∷ (OPT_EXPR, 4) ∷ (OPT_EXPR, 0) ∷ (OPT_EXPR, 0) ∷ [])
    ∷ record_with 13 ((EXPR, 1) ∷ (EXPR, 1) ∷ (5, 0) ∷ (EXPR, 7) ∷ (OPT_EXPR, 0) ∷ (OPT_EXPR, 5) ∷ (LEVEL, 2) ∷ (EXPR, 3) ∷ (OPT_EXPR, 0) ∷ (2, 1) ∷ [])
    ∷ literal 99
    ∷ record_with 2 ((OVERRIDE, 0) ∷ [])
    ∷ add 17 3
    ∷ [])
    (named 7 1 ∷ named 16 4 ∷ named 5 2 ∷ [])
    (evals 6 8
    then does (call 1 (7 ∷ 3 ∷ []) (some 8))
    then evals 9 10
    then does (branch 9 (store 2 9 then evals 14 16 then end) (does (return (some 9)) then end))
    then does (switch 7 (case ((VALUE, 0) ∷ (WORD, 0) ∷ []) (does break then end) 0 also case ((VALUE, 1) ∷ (WORD, 1) ∷ []) (store 2 7 then end) 1 also case ((VALUE, 2) ∷ []) end 0 also nomore))
    then does (loop (evals 12 13 then does (branch 12 (does continue then end) end) then end) (evals 13 14 then end) (some 13))
    then exchange 1 5 3 11
    then uniform_load 1 11
    then does (effect 9 ((WORD, 3) ∷ []))
    then does (block (evals 18 19 then does kill then end))
    then does (return (some 10))
    then end)

abbrev callee : Function
callee = fields 2 (argument 0 ∷ argument 0 ∷ []) (returns 0) [] (record_with 9 ((ARGUMENT, 1) ∷ []) ∷ []) [] (does (return (some 0)) then end)

unfoldable pub wide : Module
wide = record {
  names = letter 97 ∷ letter 98 ∷ letter 99 ∷ letter 100 ∷ letter 101 ∷ [];
  types = leaf 0 1 0 ∷ struct ∷ pointer 1 ∷ [];
  constants = constant 3 0 0 ∷ [];
  overrides = ((NAME, 4) ∷ (SPAN, 0) ∷ (UPTO, 0) ∷ (WORD, 8) ∷ (TYPE, 0) ∷ (OPT_INIT, 2) ∷ []) ∷ [];
  globals = variable 5 2 0 ∷ [];
  exprs = literal 8 ∷ constant_e 0 ∷ [];
  functions = walker ∷ callee ∷ [];
  entries = entry 5 walker ∷ entry 5 callee ∷ [];
  special = record { rays = (OPT_TYPE, 0) ∷ (OPT_TYPE, 0) ∷ (OPT_TYPE, 3) ∷ []; pairs = ((KEY, 7) ∷ (TYPE, 0) ∷ []) ∷ ((KEY, 3) ∷ (TYPE, 1) ∷ []) ∷ [] };
}

wide_agrees : Agreement wide (link_by (1 ∷ 0 ∷ []) wide) (link_maps (1 ∷ 0 ∷ []) wide)
unfolding wide opt_of word_of kind_of size_b size_c flat_all flat_list flat_x flat_s flat_block carry_cell carry_opt carry_range carry_s carry_function carry_entry carry_special carry kind standing_kind kind_at standing field up_from in_range name_word nothing function_at code_t is_t at upd six tables rec_at count map_at targets target_of ref_of refs fold_refs carry_w through undefined addSpan span_by first_word undefined_at moved shift alike_c alike index_of interned unless_mapped intern mapped_to_t made commit step_t import_f levels import_t unmapped emptied fresh last_of known bring compare_of compares_of each_e opt_e mapped_to carried step append_expr intern_expr append_standing import_e import_body import_initialiser import_standing import_stmt carried_form rebuild_stmt put_name name_if keep_names name_cells named_rows declarations declared walked rebuilt kept_names named_after derived final localized appended append follow_f follow entered entry_made enter_all entries_made force with_special put_ray ray_to ray rays keyed put_pair pair_to pairs sourced names_in keep_n firsts index_n appearing renumber with_names named_by gathered finished with_entries append_all link_by places flat_table flat_special sections pairs_from bodies flat_module flat flat_entry agrees_r agrees_l agrees_w agrees_n becomes stands body_of opened stated same live marked initials moving reached_marks close mark read_by unmarked roots inits_of optional operand ops_of initial may_share owned sole all_stand test_f test_o test_p test_fs inverse comes test_es test_t test_ts test owner owners below places_of memos_of memos_in link_maps
wide_agrees = test_agrees wide (link_by (1 ∷ 0 ∷ []) wide) (link_maps (1 ∷ 0 ∷ []) wide) refl
