-- THE SESSIONS THAT THE PROMISE OF wuldgisp_session RULES OUT, on small sources, with any answers and any output that are long enough: no program that keeps `SessionEnsures` answers or writes one of these. Document 01: "A call to a name not yet known imports that function first"; an Emit "first imports the standing expressions under its range, then the range; the new range is what the second pass appended"; "Derived images number names by first appearance"; "Imports test 20, 13, 22, 21"; "derived module, set source and maps stay"; "undefined stays undefined; otherwise the 32-bit offset is added to start and end modulo 4,294,967,296". What the sessions do is computed in `crates/model_vectors`.
use Rattle.std.specs.Prelude.{◌≡◌, Bool, true, ◌&&◌, length, drop, replicate, leb}
use Rattle.std.proofs.Math.Path.{refl, sym, ap}
use Rattle.std.proofs.Common.{◌∙◌, arith, length-drop, length-take-le, get_or-take}
use mathlib.Core.List.{List, [], ◌∷◌, ◌++◌}
use Prim.Native.Nat.{ℕ, suc, ◌+◌, ◌*◌, ◌%◌, ◌<◌, ◌≤◌}
use Rattle.std.proofs.Math.ListN.{get_or}
use Rattle.std.proofs.Math.Seq.{sets, take-append_seam, drop-append_seam}
use borrow.Author.Tests.{leb-true}
use Rattle.theory_lists.specs.Booleans.{and_first, and_second}
use Rattle.base_words.specs.Words.{bytes_of}
use Rattle.base_words.proofs.Laws.{length_bytes_of, sets-front}
use Rattle.model.specs.Image.{wuldgisp_session, SessionEnsures}
use Rattle.model.specs.Session.{Session, new, finish, finish_with_entry_points}
use Rattle.model.specs.Steps.{Operation, sets-source, clears_source, maps_span, types, renames, constants, overrides, globals, expressions, functions, new_functions, handles, required, finishes, finishes_entries, unknown, operations, Said, part, perform, writes, run, answers_of, output_of, first_refused, session}
use Rattle.model_vectors.specs.Small.{wrote, does, p5, p10, p11, nothing, unread, later, initialised, constant, two_sources, two-special, p5-called, p10-passed, p11-emitted, unread_dropped, later-moved, special, merged, nested-steps, nested_answers, refused_steps, refused_answers, known-steps, known_answers, ended_steps, ended_answers, passed-steps, passed_answers, emitted-steps, emitted_answers, dropped_steps, dropped_answers, emitted_later_steps, emitted_later_answers, initial-steps, initial_answers, constant_named_steps, constant_named_answers, shared_steps, shared_answers, spans_steps, spans_answers, types-steps, types_answers}
use Rattle.model_vectors.specs.Small as Small

-- ---- a run depends only on the lengths of the output's parts: two outputs that no step reaches past the end of give the same
unfoldable within : ℕ → List ℕ → Bool
within n [] = true
within n (o ∷ []) = true
within n (o ∷ a ∷ []) = true
within n (o ∷ a ∷ b ∷ []) = true
within n (o ∷ a ∷ b ∷ c ∷ steps) = leb (a + b) n && within n steps

part_long : (a b : ℕ) (output : List ℕ) → a + b ≤ length output → length (part a b output) ≡ b
unfolding part
part_long a b output h = length-take-le b (drop a output) (omega (arith, length-drop a output))

module _ (a b c : ℕ) (sources x y : List ℕ) (s : Session) (e : length (part a b x) ≡ length (part a b y)) where
  said_alike : (o : Operation) → perform o a b c sources x s ≡ perform o a b c sources y s
  unfolding perform
  said_alike sets-source = refl
  said_alike clears_source = refl
  said_alike maps_span = refl
  said_alike types = refl
  said_alike renames = refl
  said_alike constants = refl
  said_alike overrides = refl
  said_alike globals = refl
  said_alike expressions = refl
  said_alike functions = refl
  said_alike new_functions = refl
  said_alike handles = refl
  said_alike required = refl
  said_alike finishes = ap (λ n. writes s a (finish n s)) e
  said_alike finishes_entries = ap (λ n. writes s a (finish_with_entry_points n s)) e
  said_alike unknown = refl

module _ (n : ℕ) (sources x y : List ℕ) (p : n ≤ length x) (q : n ≤ length y) where
  run-alike : (steps : List ℕ) (s : Session) → within n steps ≡ true → run steps sources x s ≡ run steps sources y s
  unfolding run within
  run-alike [] s h = refl
  run-alike (o ∷ []) s h = refl
  run-alike (o ∷ a ∷ []) s h = refl
  run-alike (o ∷ a ∷ b ∷ []) s h = refl
  run-alike (o ∷ a ∷ b ∷ c ∷ steps) s h =
      let l : a + b ≤ n = leb-true (a + b) n (and_first (leb (a + b) n) (within n steps) h) in
      let said : Operation → List ℕ → Said = λ k output. perform k a b c sources output s in
      let k = get_or operations o unknown in
      let e : said k x ≡ said k y = said_alike a b c sources x y s (part_long a b x (omega arith) ∙ sym (part_long a b y (omega arith))) k in
      ap (λ t. t ∷ run steps sources x t.session) e ∙ ap (λ ts. said k y ∷ ts) (run-alike steps (said k y).session (and_second (leb (a + b) n) (within n steps) h))

-- ---- the output is what the steps that write leave
unfoldable laid : List (ℕ × List ℕ) → List ℕ → List ℕ
laid [] output = output
laid (p ∷ ps) output = laid ps (sets output p.0 (bytes_of p.1))

output-laid : (xs : List Said) (output : List ℕ) → output_of xs output ≡ laid (wrote xs) output
unfolding output_of wrote laid
output-laid [] output = refl
output-laid (x ∷ xs) output = go x.written (output-laid xs)
  where
    go : (ws : List ℕ) → ((l : List ℕ) → output_of xs l ≡ laid (wrote xs) l) → output_of xs (sets output x.at (bytes_of ws)) ≡ laid (elim ws [ [] ↦ wrote xs | v ∷ vs ↦ (x.at, v ∷ vs) ∷ wrote xs ]) output
    go [] h = unfold bytes_of in h output
    go (v ∷ vs) h = h (sets output x.at (bytes_of (v ∷ vs)))

-- a list's own elements are at its front
get_d_front : (xs ys : List ℕ) (i : ℕ) → i < length xs → get_or (xs ++ ys) i 0 ≡ get_or xs i 0
get_d_front xs ys i h = sym (get_or-take (length xs) (xs ++ ys) i 0 h) ∙ ap (λ t. get_or t i 0) (take-append_seam xs ys)

-- ---- a case: sources and steps that stay near the output's start, and what was computed of them: the result, the answers, what was written
record Case (sources steps : List ℕ) (k : ℕ) (vs : List ℕ) (ps : List (ℕ × List ℕ)) : Type 0 where
  near : within 400 steps ≡ true
  is : does (bytes_of sources) steps ≡ (k, vs, ps)

nested : Case p5 nested-steps 0 nested_answers ((0, p5-called) ∷ [])
unfolding within nested-steps
nested = record { near = refl; is = Small.nested }

refused : Case p5 refused_steps 20 refused_answers ((0, p5-called) ∷ [])
unfolding within refused_steps
refused = record { near = refl; is = Small.refused }

known : Case p5 known-steps 0 known_answers ((0, p5-called) ∷ [])
unfolding within known-steps
known = record { near = refl; is = Small.known }

ended : Case p5 ended_steps 8589934612 ended_answers ((0, nothing) ∷ [])
unfolding within ended_steps
ended = record { near = refl; is = Small.ended }

passed : Case p10 passed-steps 0 passed_answers ((0, p10-passed) ∷ [])
unfolding within passed-steps
passed = record { near = refl; is = Small.passed }

emitted : Case p11 emitted-steps 0 emitted_answers ((0, p11-emitted) ∷ [])
unfolding within emitted-steps
emitted = record { near = refl; is = Small.emitted }

dropped : Case unread dropped_steps 0 dropped_answers ((0, unread_dropped) ∷ [])
unfolding within dropped_steps
dropped = record { near = refl; is = Small.dropped }

later-emitted : Case later emitted_later_steps 0 emitted_later_answers ((0, later-moved) ∷ [])
unfolding within emitted_later_steps
later-emitted = record { near = refl; is = Small.emitted-later }

initial : Case initialised initial-steps 0 initial_answers ((0, initialised) ∷ [])
unfolding within initial-steps
initial = record { near = refl; is = Small.initial }

constant-named : Case constant constant_named_steps 0 constant_named_answers ((0, constant) ∷ [])
unfolding within constant_named_steps
constant-named = record { near = refl; is = Small.constant-named }

shared : Case two-special shared_steps 0 shared_answers ((0, special) ∷ [])
unfolding within shared_steps
shared = record { near = refl; is = Small.shared }

spans : Case nothing spans_steps 0 spans_answers []
unfolding within spans_steps
spans = record { near = refl; is = Small.spans }

typed : Case two_sources types-steps 0 types_answers ((0, merged) ∷ [])
unfolding within types-steps
typed = record { near = refl; is = Small.types }

module _ (answers₀ output₀ : List ℕ) (room : 18 ≤ length answers₀) (roomy : 400 ≤ length output₀) (r : ℕ) (answers output : List ℕ) where
  -- what meets the contract with these sources and steps
  abbrev pub Meets : List ℕ → List ℕ → Type 0
  Meets sources steps = SessionEnsures (bytes_of sources) steps answers₀ output₀ r answers output

  -- ---- what was computed in one output holds in every one that is as long
  module _ {sources steps : List ℕ} {k : ℕ} {vs : List ℕ} {ps : List (ℕ × List ℕ)} (x : Case sources steps k vs ps) (l : Meets sources steps) where
    as_computed : run steps (bytes_of sources) output₀ new ≡ run steps (bytes_of sources) (replicate 400 0) new
    as_computed = run-alike 400 (bytes_of sources) output₀ (replicate 400 0) roomy (omega arith) steps new x.near

    result_so : r ≡ k % 18446744073709551616
    unfolding wuldgisp_session session does
    result_so = l.result_is ∙ ap (λ xs. first_refused xs 0 % 18446744073709551616) as_computed ∙ ap (λ t. t.0 % 18446744073709551616) x.is

    answer : length vs ≤ 18 → (i : ℕ) → i < length vs → get_or answers i 0 ≡ get_or vs i 0
    unfolding wuldgisp_session session does
    answer n i h = ap (λ t. get_or t i 0) (l.answers_is ∙ ap (λ xs. sets answers₀ 0 (answers_of xs)) as_computed ∙ ap (λ t. sets answers₀ 0 t.1) x.is ∙ sets-front vs answers₀ (omega arith)) ∙ get_d_front vs (drop (length vs) answers₀) i h

    output_so : output ≡ laid ps output₀
    unfolding wuldgisp_session session does
    output_so = l.output_is ∙ output-laid (run steps (bytes_of sources) output₀ new) output₀ ∙ ap (λ xs. laid (wrote xs) output₀) as_computed ∙ ap (λ t. laid t.2 output₀) x.is

  module _ {sources steps : List ℕ} {k : ℕ} {vs ws : List ℕ} (x : Case sources steps k vs ((0, ws) ∷ [])) (l : Meets sources steps) (short : length ws ≤ 100) where
    left : output ≡ bytes_of ws ++ drop (length (bytes_of ws)) output₀
    unfolding laid
    left = output_so x l ∙ sets-front (bytes_of ws) output₀ (omega (arith, length_bytes_of ws))

    byte : (i : ℕ) → i < 4 * length ws → get_or output i 0 ≡ get_or (bytes_of ws) i 0
    byte i h = ap (λ t. get_or t i 0) left ∙ get_d_front (bytes_of ws) (drop (length (bytes_of ws)) output₀) i (omega (arith, length_bytes_of ws))

    behind : drop (4 * length ws) output ≡ drop (4 * length ws) output₀
    behind =
        let n = length_bytes_of ws in
        ap (λ j. drop j output) (sym n) ∙ ap (drop (length (bytes_of ws))) left ∙ drop-append_seam (bytes_of ws) (drop (length (bytes_of ws)) output₀) ∙ ap (λ j. drop j output₀) n

  -- ---- P5, of which a is imported
  -- the nested function appended after its caller: a would be function 0, and the first function written would have a statement
  pub behind_its_caller : Meets p5 nested-steps → get_or answers 4 0 ≡ 0 → ⊥
  unfolding nested_answers
  behind_its_caller l e = let a : get_or answers 4 0 ≡ 1 = answer nested l (omega arith) 4 (omega arith) in absurd (omega arith)

  pub caller-first : Meets p5 nested-steps → get_or output 144 0 ≡ 1 → ⊥
  unfolding p5-called bytes_of
  caller-first l e = let a : get_or output 144 0 ≡ 0 = byte nested l (omega arith) 144 (omega arith) in absurd (omega arith)

  -- names in the order of the source, or as they came: a would be the first, not b
  pub source-order : Meets p5 nested-steps → get_or output 92 0 ≡ 97 → ⊥
  unfolding p5-called bytes_of
  source-order l e = let a : get_or output 92 0 ≡ 98 = byte nested l (omega arith) 92 (omega arith) in absurd (omega arith)

  -- the names of what is not imported kept: there would be three
  pub all_names : Meets p5 nested-steps → get_or output 8 0 ≡ 3 → ⊥
  unfolding p5-called bytes_of
  all_names l e = let a : get_or output 8 0 ≡ 2 = byte nested l (omega arith) 8 (omega arith) in absurd (omega arith)

  -- a byte after the image touched
  pub behind-stays : Meets p5 nested-steps → drop 224 output ≡ drop 224 output₀
  unfolding p5-called
  behind-stays l = behind nested l (omega arith)

  -- ---- the same with steps that are refused
  -- 13 before 20, where no source is set and the number is in no table
  pub number_first : Meets p5 refused_steps → get_or answers 0 0 ≡ 13 → ⊥
  unfolding refused_answers
  number_first l e = let a : get_or answers 0 0 ≡ 20 = answer refused l (omega arith) 0 (omega arith) in absurd (omega arith)

  -- the last refusal answered for the first
  pub last-refusal : Meets p5 refused_steps → r ≡ 13 + 2 * 4294967296 → ⊥
  last-refusal l e = let a : r ≡ 20 = result_so refused l in absurd (omega arith)

  -- ---- P5, of which b is imported, and then a, which calls it
  -- a function whose name is known imported again at its Call: a would be function 2
  pub known_imported_again : Meets p5 known-steps → get_or answers 7 0 ≡ 2 → ⊥
  unfolding known_answers
  known_imported_again l e = let a : get_or answers 7 0 ≡ 1 = answer known l (omega arith) 7 (omega arith) in absurd (omega arith)

  -- and three functions would be written
  pub three_functions : Meets p5 known-steps → get_or output 56 0 ≡ 3 → ⊥
  unfolding p5-called bytes_of
  three_functions l e = let a : get_or output 56 0 ≡ 2 = byte known l (omega arith) 56 (omega arith) in absurd (omega arith)

  -- ---- P5, finished with its entry points, and then an import
  -- a finish with entry points that answers no bytes
  pub length_not_told : Meets p5 ended_steps → get_or answers 4 0 ≡ 0 → ⊥
  unfolding ended_answers
  length_not_told l e = let a : get_or answers 4 0 ≡ 92 = answer ended l (omega arith) 4 (omega arith) in absurd (omega arith)

  -- a source still set after it: the import would be answered
  pub source_set_after_finish : Meets p5 ended_steps → get_or answers 6 0 ≡ 0 → ⊥
  unfolding ended_answers
  source_set_after_finish l e = let a : get_or answers 6 0 ≡ 20 = answer ended l (omega arith) 6 (omega arith) in absurd (omega arith)

  -- ---- P10: an Emit's first pass left out, whose range would start at 0
  pub no_first_pass : Meets p10 passed-steps → get_or output 268 0 ≡ 0 → ⊥
  unfolding p10-passed bytes_of
  no_first_pass l e = let a : get_or output 268 0 ≡ 3 = byte passed l (omega arith) 268 (omega arith) in absurd (omega arith)

  -- the operands that stand left out in the first pass, and so altogether: of five expressions the two that are emitted would be left
  pub standing_left_out : Meets p10 passed-steps → get_or output 120 0 ≡ 2 → ⊥
  unfolding p10-passed bytes_of
  standing_left_out l e = let a : get_or output 120 0 ≡ 5 = byte passed l (omega arith) 120 (omega arith) in absurd (omega arith)

  -- each expression mapped to the one after it: the sum of 0 and 1 would be that of 1 and 2
  pub mapped_one_further : Meets p10 passed-steps → get_or output 212 0 ≡ 1 → ⊥
  unfolding p10-passed bytes_of
  mapped_one_further l e = let a : get_or output 212 0 ≡ 0 = byte passed l (omega arith) 212 (omega arith) in absurd (omega arith)

  -- the end of an undefined span moved, here of the Emit, by the offset 10
  pub undefined_end_moved : Meets p10 passed-steps → get_or output 264 0 ≡ 10 → ⊥
  unfolding p10-passed bytes_of
  undefined_end_moved l e = let a : get_or output 264 0 ≡ 0 = byte passed l (omega arith) 264 (omega arith) in absurd (omega arith)

  -- ---- P11: the old Emit range copied, which starts at 1
  pub old_range : Meets p11 emitted-steps → get_or output 260 0 ≡ 1 → ⊥
  unfolding p11-emitted bytes_of
  old_range l e = let a : get_or output 260 0 ≡ 2 = byte emitted l (omega arith) 260 (omega arith) in absurd (omega arith)

  -- ---- an Emit after a literal that nothing reads
  -- the end of its range copied, which is 3 in the source
  pub old_end : Meets later emitted_later_steps → get_or output 196 0 ≡ 3 → ⊥
  unfolding later-moved bytes_of
  old_end l e = let a : get_or output 196 0 ≡ 2 = byte later-emitted l (omega arith) 196 (omega arith) in absurd (omega arith)

  -- ---- a named literal that nothing reads: its name kept among the names, or among the named expressions
  pub name_kept : Meets unread dropped_steps → get_or output 8 0 ≡ 2 → ⊥
  unfolding unread_dropped bytes_of
  name_kept l e = let a : get_or output 8 0 ≡ 1 = byte dropped l (omega arith) 8 (omega arith) in absurd (omega arith)

  pub named-kept : Meets unread dropped_steps → get_or output 124 0 ≡ 1 → ⊥
  unfolding unread_dropped bytes_of
  named-kept l e = let a : get_or output 124 0 ≡ 0 = byte dropped l (omega arith) 124 (omega arith) in absurd (omega arith)

  -- ---- two locals, whose initialisers differ in their kind alone, and a name for the first
  -- an initialiser that differs in its first word taken for the equal one: both locals would start alike
  pub found_by_its_first_word : Meets initialised initial-steps → get_or output 216 0 ≡ 2 → ⊥
  unfolding initialised bytes_of
  found_by_its_first_word l e = let a : get_or output 216 0 ≡ 3 = byte initial l (omega arith) 216 (omega arith) in absurd (omega arith)

  -- the body, which is the word 0, written where the named expressions are: expression 0 would have the name
  pub body_before_names : Meets initialised initial-steps → get_or output 292 0 ≡ 0 → ⊥
  unfolding initialised bytes_of
  body_before_names l e = let a : get_or output 292 0 ≡ 1 = byte initial l (omega arith) 292 (omega arith) in absurd (omega arith)

  -- ---- a global expression that names a constant
  -- the constant not imported, so that its value is not either: the expression would be the first
  pub constants_left_out : Meets constant constant_named_steps → get_or answers 4 0 ≡ 0 → ⊥
  unfolding constant_named_answers
  constants_left_out l e = let a : get_or answers 4 0 ≡ 1 = answer constant-named l (omega arith) 4 (omega arith) in absurd (omega arith)

  -- ---- two sources with special types in one place and for one key; and a finish
  -- a key looked for among the types, and so not found: the second source's type would be derived too
  pub key_is_the_type : Meets two-special shared_steps → get_or answers 7 0 ≡ 1 → ⊥
  unfolding shared_answers
  key_is_the_type l e = let a : get_or answers 7 0 ≡ 0 = answer shared l (omega arith) 7 (omega arith) in absurd (omega arith)

  -- a type whose place is taken mapped to its own number
  pub taken_place_keeps_the_source : Meets two-special shared_steps → get_or answers 10 0 ≡ 1 → ⊥
  unfolding shared_answers
  taken_place_keeps_the_source l e = let a : get_or answers 10 0 ≡ 0 = answer shared l (omega arith) 10 (omega arith) in absurd (omega arith)

  -- a special type left over from the session that was finished: types would still be required
  pub special_kept_after_finish : Meets two-special shared_steps → get_or answers 16 0 ≡ 1 → ⊥
  unfolding shared_answers
  special_kept_after_finish l e = let a : get_or answers 16 0 ≡ 0 = answer shared l (omega arith) 16 (omega arith) in absurd (omega arith)

  -- ---- P1: an undefined span moved
  pub undefined-moved : Meets nothing spans_steps → get_or answers 4 0 ≡ 10 → ⊥
  unfolding spans_answers
  undefined-moved l e = let a : get_or answers 4 0 ≡ 0 = answer spans l (omega arith) 4 (omega arith) in absurd (omega arith)

  -- P3 and P4: a sum that stops at the greatest word; P4 wraps to 0 and nothing else
  pub saturating : Meets nothing spans_steps → get_or answers 14 0 ≡ 4294967295 → ⊥
  unfolding spans_answers
  saturating l e = let a : get_or answers 14 0 ≡ 3 = answer spans l (omega arith) 14 (omega arith) in absurd (omega arith)

  pub not_undefined : (j : ℕ) → Meets nothing spans_steps → get_or answers 16 0 ≡ suc j → ⊥
  unfolding spans_answers
  not_undefined j l e = let a : get_or answers 16 0 ≡ 0 = answer spans l (omega arith) 16 (omega arith) in absurd (omega arith)

  -- P2: the second value answered in the place of the first
  pub values-swapped : Meets nothing spans_steps → get_or answers 7 0 ≡ 14 → ⊥
  unfolding spans_answers
  values-swapped l e = let a : get_or answers 7 0 ≡ 10 = answer spans l (omega arith) 7 (omega arith) in absurd (omega arith)

  -- P3 by the offset of the source that was set before
  pub offset_of_the_source_before : Meets nothing spans_steps → get_or answers 13 0 ≡ 15 → ⊥
  unfolding spans_answers
  offset_of_the_source_before l e = let a : get_or answers 13 0 ≡ 4294967295 = answer spans l (omega arith) 13 (omega arith) in absurd (omega arith)

  -- ---- equal types of two sources not merged, unequal ones merged, and of equal ones the second's span kept
  pub not_merged : Meets two_sources types-steps → get_or answers 10 0 ≡ 1 → ⊥
  unfolding types_answers
  not_merged l e = let a : get_or answers 10 0 ≡ 0 = answer typed l (omega arith) 10 (omega arith) in absurd (omega arith)

  pub merged_unequal : Meets two_sources types-steps → get_or answers 13 0 ≡ 0 → ⊥
  unfolding types_answers
  merged_unequal l e = let a : get_or answers 13 0 ≡ 1 = answer typed l (omega arith) 13 (omega arith) in absurd (omega arith)

  pub second_span : Meets two_sources types-steps → get_or output 92 0 ≡ 3 → ⊥
  unfolding merged bytes_of
  second_span l e = let a : get_or output 92 0 ≡ 1 = byte typed l (omega arith) 92 (omega arith) in absurd (omega arith)

  -- or the offset written in its place
  pub span_overwritten : Meets two_sources types-steps → get_or output 92 0 ≡ 0 → ⊥
  unfolding merged bytes_of
  span_overwritten l e = let a : get_or output 92 0 ≡ 1 = byte typed l (omega arith) 92 (omega arith) in absurd (omega arith)

-- a refused step that changes the session: with the refused steps and without them the same is written
pub refused_stays : (answers₀ output₀ : List ℕ) → 18 ≤ length answers₀ → 400 ≤ length output₀ → (r r' : ℕ) (answers answers' output output' : List ℕ) → SessionEnsures (bytes_of p5) refused_steps answers₀ output₀ r answers output → SessionEnsures (bytes_of p5) nested-steps answers₀ output₀ r' answers' output' → output ≡ output'
refused_stays answers₀ output₀ room roomy r r' answers answers' output output' l l' = output_so answers₀ output₀ room roomy r answers output refused l ∙ sym (output_so answers₀ output₀ room roomy r' answers' output' nested l')
