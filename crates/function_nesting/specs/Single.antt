-- ONE FUNCTION, imported by passes, with a way to follow calls (`fol'`) that does to each callee, in each state that is met, what the model's (`fol`) does: the same state in the end, and the cells of the model's derived function. So its record can be read back and names what is derived, and so do those of its callees wherever they do.
use Prim.Native.Nat.{ℕ, zero, suc, ◌<◌}
use Rattle.std.proofs.Math.Nat.{le_refl}
use Rattle.std.proofs.Common.{le_of_suc-le-suc, sym, ◌∙◌, eq-eqb}
use Rattle.std.specs.Prelude.{◌≡◌, Bool, eqb, get_or}
use Rattle.std.proofs.Math.Path.{refl, ap}
use Rattle.std.proofs.Math.Bool.{true, false}
use mathlib.Core.List.{List, [], ◌∷◌, ◌++◌, map, append-nil}
use Rattle.std.proofs.Math.ListN.{length}
use Rattle.theory_lists.specs.Booleans.{and_split}
use Rattle.model.specs.Outcome.{Cell, Cells, class, word}
use Rattle.model.specs.Table.{NAME, FUNCTION, CALLEE, FROM, STMT_KIND, TO, ARGUMENTS, LOCALS, EXPRESSIONS, NAMED, function_head, counted}
use Rattle.model.specs.Tree.{Function, Entry, flat_all, flat_list, flat_block, flat, flat_entry, function_at, entry_at}
use Rattle.model.specs.Module.{Module}
use Rattle.model.specs.Carry.{Each, each_next, WellFunction, WellEntry, WellFormed}
use Rattle.model.specs.Numbers.{Bounds, bound, below as under, within, outside, inside, sound, numbered}
use Rattle.model.specs.Tables.{names, at, tables, count}
use Rattle.model.specs.Lower.{lower}
use Rattle.model.specs.Callees.{callees}
use Rattle.model.specs.References.{Place, table, own, function, Target, copied, start, upto, ref, opt, targets, target, Node, ref_of, refs, through, first_word, undefined_at, moved}
use Rattle.model.specs.Imports.{Derived}
use Rattle.model.specs.Bodies.{known, Builder, step, mapped_to, keep_names, kept_names, declared, walked, final, localized}
use Rattle.model.specs.Finish.{gathered}
use Rattle.theory_records.specs.Passing.{first_of}
use Rattle.theory_image.specs.Writing.{write-function, write-entry}
use Rattle.theory_image.specs.Quiet.{each_append, each_map}
use Rattle.theory_image.specs.Within.{within-append}
use Rattle.theory_records.specs.RecordLaws.{All as AllN, all_map as alln-map, all_both as alln-both, rest_of}
use Rattle.theory_records.specs.Functions.{TabIn, in_table, in_own, in_function_lem, cells_in}
use Rattle.theory_records.specs.Imported.{gathered-tables}
use Rattle.theory_finish.specs.Finished.{within_low}
use Rattle.theory_finish.specs.Classes.{Not, calm?, calms?, all_not, functionless, calleeless}
use Rattle.theory_finish.specs.Called.{FunOk, fun_table, fun_own, fun_call, FunsOk, no_funs_lem}
use Rattle.theory_finish.specs.Walked as Walked
use Rattle.theory_bodies.specs.Lists.{All}
use Rattle.theory_bodies.specs.Context.{Inside, InN, Law}
use Rattle.theory_bodies.specs.Shallow.{need, glance}
use Rattle.theory_bodies.specs.Lawful.{Follows, lawful}
use Rattle.theory_bodies.specs.Passing.{Passes, row_in, fine, mentions_may}
use Rattle.theory_bodies.specs.Layout.{well_again}
use Rattle.theory_bodies.specs.Theorems.{sound-again}
use Rattle.theory_passes.specs.Pass.{arrive, first, both, early, passed, word_of, after, written, named, rows, front, begin, names_after, names_written}
use Rattle.theory_passes.specs.Light.{still}
use Rattle.theory_passes.proofs.Whole as Whole
use Rattle.theory_sessions.specs.Alike.{final-same, localized-same}
use Rattle.derive_state.specs.Flats.{function_in, function_of, entry_in, entry_of}
use Rattle.derive_state.specs.Held.{Named}
use Rattle.function_nesting.specs.Nested.{declared_s, walked_s, kept_s, final_s, front_s, names_s, body_s, cells_s, Reads, ReadyF}
use Rattle.function_nesting.specs.Kept.{Any, body_funs, after_on, ready_from}

-- ---- read back
pub function_back : (F : Function) → WellFunction F → function_of (flat F) ≡ F
unfolding function_of
function_back F w = ap function_in (ap function_at (sym (append-nil (map word (flat F)))) ∙ write-function F w []) ∙ unfold function_in in refl

pub entry_back : (E : Entry) → WellEntry E → entry_of (flat_entry E) ≡ E
unfolding entry_of
entry_back E w = ap entry_in (ap entry_at (sym (append-nil (map word (flat_entry E)))) ∙ write-entry E w []) ∙ unfold entry_in in refl

-- ---- cells that name no function: it does not matter how calls are followed
abbrev Bare : Cells → Type 0
Bare cs = FunsOk (λ f. ⊥) (refs cs)

abbrev BareN : Node → Type 0
BareN j = FunOk (λ f. ⊥) j.place j.num

module _ (o : ℕ) (M : Module) (follow : ℕ → Derived → Derived) (p q : ℕ → Builder → Builder) where
  step-bare : (s : Place) (n : ℕ) (m : Builder) → FunOk (λ f. ⊥) s n → step o M still p s n m ≡ step o M follow p s n m
  unfolding step
  step-bare (table t) n m fun_table = refl
  step-bare own n m fun_own = refl
  step-bare function n m (fun_call h) = absurd h

  arrive-bare : (t : Target) (w : ℕ) (m : Builder) → AllN BareN (ref_of t w []) → arrive o M still p q t w m ≡ arrive o M follow p q t w m
  unfolding arrive ref_of
  arrive-bare copied w m a = refl
  arrive-bare start w m a = refl
  arrive-bare upto w m a = refl
  arrive-bare (ref s) w m a = step-bare s w m a.0
  arrive-bare (opt s) zero m a = refl
  arrive-bare (opt s) (suc n) m a = step-bare s n m a.0

  passed-bare : (c : Cell) (cs : Cells) (m : Builder) → AllN BareN (ref_of (target (class c)) (word c) []) → passed o M still p q c cs m ≡ passed o M follow p q c cs m
  unfolding passed both first early
  passed-bare c cs m a =
      ap (λ (x : Builder). let y : Builder = elim (eqb (class c) FROM) [ true ↦ both o M follow p q (word c) (first_word cs) m | false ↦ elim (eqb (class c) STMT_KIND) [ true ↦ early o M follow p q (word c) cs m | false ↦ x ] ] in y) (arrive-bare (target (class c)) (word c) m a)

  after-bare : (cs : Cells) (m : Builder) → Bare cs → after o M still p q cs m ≡ after o M follow p q cs m
  unfolding after refs
  after-bare [] m a = refl
  after-bare (c ∷ cs) m a =
      let e = passed-bare c cs m (first_of BareN (target (class c)) (word c) (refs cs) a) in
      ap (after o M still p q cs) e ∙ after-bare cs (passed o M follow p q c cs m) (rest_of BareN (target (class c)) (word c) (refs cs) a)

  word-bare : (c : Cell) (cs : Cells) (u : Bool) (m : Builder) → AllN BareN (ref_of (target (class c)) (word c) []) → word_of o M still p q c cs u m ≡ word_of o M follow p q c cs u m
  unfolding word_of first
  word-bare c cs u m a =
      ap (λ (x : Builder). let n : ℕ = elim (eqb (class c) FROM) [ true ↦ length (first o M follow p q (word c) (first_word cs) m).made | false ↦ elim (eqb (class c) TO) [ true ↦ length m.made | false ↦ moved (target (class c)) (through (mapped_to M x) (class c) (word c)) o u ] ] in n) (passed-bare c cs m a)

  written_bare : (cs : Cells) (u : Bool) (m : Builder) → Bare cs → written o M still p q cs u m ≡ written o M follow p q cs u m
  unfolding written refs
  written_bare [] u m a = refl
  written_bare (c ∷ cs) u m a =
      let b = first_of BareN (target (class c)) (word c) (refs cs) a in
      let v = undefined_at (target (class c)) (word c) (first_word cs) u in
      rw (word-bare c cs v m b, passed-bare c cs m b, written_bare cs v (passed o M follow p q c cs m) (rest_of BareN (target (class c)) (word c) (refs cs) a)) refl

-- names are records of a table, whichever way expressions are imported and calls followed
module _ (o : ℕ) (M : Module) (follow follow' : ℕ → Derived → Derived) (p q p' q' : ℕ → Builder → Builder) where
  name_same : (w : ℕ) (m : Builder) → arrive o M follow p q (target NAME) w m ≡ arrive o M follow' p' q' (target NAME) w m
  unfolding arrive target targets step
  name_same zero m = refl
  name_same (suc n) m = refl

  named-same : (ks : List (ℕ × ℕ)) (m : Builder) → named o M follow p q ks m ≡ named o M follow' p' q' ks m
  unfolding named
  named-same [] m = refl
  named-same (k ∷ ks) m = ap (named o M follow p q ks) (name_same k.1 m) ∙ named-same ks (arrive o M follow' p' q' (target NAME) k.1 m)

  rows_same : (ks : List (ℕ × ℕ)) (m : Builder) → rows o M follow p q ks m ≡ rows o M follow' p' q' ks m
  unfolding rows
  rows_same [] m = refl
  rows_same (k ∷ ks) m = rw (name_same k.1 m, rows_same ks (arrive o M follow' p' q' (target NAME) k.1 m)) refl

-- ---- the declarations name no function
list_not : (x s : ℕ) (rs : List Cells) → eqb s x ≡ false → Each (Not x) (flat_all rs) → Each (Not x) (flat_list s rs)
unfolding flat_list
list_not x s rs e a = each_next e a

front-bare : (F : Function) → WellFunction F → Bare (front F)
unfolding front function_head counted calms? calm?
front-bare F w =
    no_funs_lem (λ f. ⊥)
    (each_append (each_append (each_append (functionless w.head_ok refl) (list_not FUNCTION ARGUMENTS F.arguments refl (all_not FUNCTION (λ cs l. functionless l refl) w.arguments_ok.each))) (functionless w.result_ok_lem refl)) (list_not FUNCTION LOCALS F.locals refl (all_not FUNCTION (λ cs l. functionless l refl) w.locals_ok.each)))
    (each_append (each_append (each_append (calleeless w.head_ok refl) (list_not CALLEE ARGUMENTS F.arguments refl (all_not CALLEE (λ cs l. calleeless l refl) w.arguments_ok.each))) (calleeless w.result_ok_lem refl)) (list_not CALLEE LOCALS F.locals refl (all_not CALLEE (λ cs l. calleeless l refl) w.locals_ok.each)))

-- ---- references in range
inside_of : (M : Module) (Q : ℕ → Type 0) {p : Place} {n : ℕ} → TabIn (tables M) p n → FunOk Q p n → Inside M Q p n
unfolding Inside
inside_of M Q (in_table l) fun_table = l
inside_of M Q in_own fun_own = tt
inside_of M Q in_function_lem (fun_call q) = q

inside-any : (M : Module) {p : Place} {n : ℕ} → TabIn (tables M) p n → Inside M Any p n
unfolding Inside
inside-any M (in_table l) = l
inside-any M in_own = tt
inside-any M in_function_lem = tt

record Ranges (M : Module) (F : Function) : Type 0 where
  front_in : within (inside (outside M) F) (front F) ≡ true
  rows_in_lem : within (inside (outside M) F) (flat_all F.exprs) ≡ true
  body_in : within (inside (outside M) F) (flat_block F.body) ≡ true

ranges : (M : Module) (F : Function) → Passes M F → Ranges M F
unfolding sound flat front flat_list within
ranges M F pass =
    let b : Bounds = inside (outside M) F in
    let h = (and_split (within b (flat F)) _ pass.three).0 in
    let a₁ = within-append b (front F ++ flat_list EXPRESSIONS F.exprs ++ flat_list NAMED F.named) (flat_block F.body) h in
    let a₂ = within-append b (front F ++ flat_list EXPRESSIONS F.exprs) (flat_list NAMED F.named) a₁.0 in
    let a₃ = within-append b (front F) (flat_list EXPRESSIONS F.exprs) a₂.0 in
    record { front_in = a₃.0; rows_in_lem = (and_split (under (bound b EXPRESSIONS) (length F.exprs)) (within b (flat_all F.exprs)) a₃.1).1; body_in = a₁.1 }

module _ (M : Module) (F : Function) (pass : Passes M F) where
  front-any : AllN (InN M Any) (refs (front F))
  front-any = alln-map (refs (front F)) (λ j a. inside-any M a) (cells_in M F (front F) (ranges M F pass).front_in)

  rows-any : (e : ℕ) → AllN (InN M Any) (refs (get_or F.exprs e []))
  rows-any e = alln-map (refs (get_or F.exprs e [])) (λ j a. inside-any M a) (cells_in M F (get_or F.exprs e []) (row_in M F F.exprs (ranges M F pass).rows_in_lem e))

  body-refs : (Q : ℕ → Type 0) → All Q (callees F) → AllN (InN M Q) (refs (flat_block F.body))
  body-refs Q calls = alln-both (refs (flat_block F.body)) (λ j a b. inside_of M Q a b) (cells_in M F (flat_block F.body) (ranges M F pass).body_in) (body_funs Q pass.well.body_ok calls)

-- ---- names in range: what passes test 3 in the module that is derived has names among those derived
pub low_named : (r : Derived) (f : Function) (cs : Cells) → sound (outside (gathered r [])) f cs ≡ true → Named (count r.recs names) cs
unfolding sound inside outside gathered count at
low_named r f cs h =
    let b = inside (outside (gathered r [])) f in
    each_map (λ c l e. le_of_suc-le-suc (l (eq-eqb (class c) NAME e))) (within_low b cs (and_split (within b cs) _ h).0)

-- ---- ways to follow calls that do the same where it is required
module _ (M : Module) (well : WellFormed M) (three : numbered M ≡ true) (four : lower M ≡ true) (o : ℕ) (fol fol' : ℕ → Derived → Derived) (Q : ℕ → Type 0) (G : Derived → Type 0) (follows : Follows o M fol Q G)
    (same : (n : ℕ) (s : Derived) → Q n → G s → fol' n s ≡ fol n s) (idle : (n : ℕ) (s : Derived) → 0 < known M s n → fol' n s ≡ s) where
  follows' : Follows o M fol' Q G
  follows' = record {
    is_good = follows.is_good;
    imports = follows.imports;
    good = λ n s q g. rw (same n s q g) (follows.good n s q g);
    maps = λ n s q g. rw (same n s q g) (follows.maps n s q g);
    keeps = λ n s q g. rw (same n s q g) (follows.keeps n s q g);
    knows = λ n s q g. rw (same n s q g) (follows.knows n s q g);
    idle = idle;
    grown = λ n s q g. rw (same n s q g) (follows.grown n s q g);
  }

  module _ (F : Function) (pass : Passes M F) (calls : All Q (callees F)) (s : Derived) (good : G s) where
    abbrev law : Law o M fol Q G
    law = lawful M well three four o fol Q G follows

    -- after the declarations, and after the body
    abbrev dec : Builder
    dec = declared o M fol' F s

    abbrev mid : Builder
    mid = walked o M fol' F dec

    abbrev F' : Function
    F' = localized o M fol' F s

    declared_is : declared_s o M fol' F s ≡ dec
    unfolding declared_s
    declared_is = after-bare o M fol' _ _ (front F) (begin F s) (front-bare F pass.well) ∙ Whole.still_front_after M well three four o fol' Q G follows' F pass calls s good

    walked_is : walked_s o M fol' F s ≡ mid
    unfolding walked_s
    walked_is = rw declared_is (Whole.still_body_after M well three four o fol' Q G follows' F pass calls s good)

    kept_is : kept_s o M fol' F s ≡ kept_names o M fol' F mid
    unfolding kept_s kept_names
    kept_is = ap (λ (m : Builder). keep_names F.named m.memo []) walked_is

    final_is : final_s o M fol' F s ≡ final o M fol' F s
    unfolding final_s names_after
    final_is =
        rw (kept_is, walked_is)
        (named-same o M still fol' _ _ (need o M fol' F.exprs) (glance o M fol' F.exprs) (kept_names o M fol' F mid) mid ∙ Whole.names_after_lem M well three four o fol' Q G follows' F pass calls s good)

    front_is : front_s o M fol' F s ≡ front F'
    unfolding front_s
    front_is = written_bare o M fol' _ _ (front F) false (begin F s) (front-bare F pass.well) ∙ Whole.still_front_written M well three four o fol' Q G follows' F pass calls s good

    body_is : body_s o M fol' F s ≡ flat_block F'.body
    unfolding body_s
    body_is = rw declared_is (Whole.still_body_written M well three four o fol' Q G follows' F pass calls s good)

    names_is : (NAMED, length (kept_s o M fol' F s)) ∷ names_s o M fol' F s ≡ flat_list NAMED F'.named
    unfolding names_s names_written
    names_is =
        rw (kept_is, walked_is)
        (ap ((NAMED, length (kept_names o M fol' F mid)) ∷◌) (rows_same o M still fol' _ _ (need o M fol' F.exprs) (glance o M fol' F.exprs) (kept_names o M fol' F mid) mid) ∙ Whole.names_written_lem M well three four o fol' Q G follows' F pass calls s good)

    cells_are : cells_s o M fol' F s ≡ flat F'
    unfolding cells_s
    cells_are =
        rw (front_is, walked_is, names_is, body_is, Whole.parts M well three four o fol' Q G follows' F pass calls s good)
        (ap (λ (e : List Cells). front F' ++ flat_list EXPRESSIONS e ++ flat_list NAMED F'.named ++ flat_block F'.body) (sym (Whole.made-same M well three four o fol' Q G follows' F pass calls s good)))

    -- THE SAME STATE AND THE SAME FUNCTION
    pub ends_same : final_s o M fol' F s ≡ final o M fol F s
    ends_same = final_is ∙ final-same o M fol fol' Q G law F (fine o M fol Q G law F pass calls) (mentions_may o M fol Q G law F pass calls) same s good

    pub cells_same : cells_s o M fol' F s ≡ flat (localized o M fol F s)
    cells_same = cells_are ∙ ap flat (localized-same o M fol fol' Q G law F (fine o M fol Q G law F pass calls) (mentions_may o M fol Q G law F pass calls) same s good)

    pub function-same : function_of (cells_s o M fol' F s) ≡ localized o M fol F s
    function-same = ap function_of cells_same ∙ function_back (localized o M fol F s) (well_again o M fol Q G law F pass calls s good)

    -- its names are derived by then: test 3 has them in range
    names_low : Named (count (final_s o M fol' F s).out.recs names) (cells_s o M fol' F s)
    names_low = rw (ends_same, cells_same) (low_named (final o M fol F s).out (localized o M fol F s) (flat (localized o M fol F s)) (sound-again M well three four o fol Q G follows F pass calls s good (gathered (final o M fol F s).out []) (λ t. rw (gathered-tables (final o M fol F s).out []) (le_refl _)) (unfold gathered in le_refl _)))

    reads : Reads o M (count (final_s o M fol' F s).out.recs names) (cells_s o M fol' F s)
    reads = record { whole = ap flat function-same ∙ sym cells_same; named = names_low }

    declared_good : G (declared_s o M fol' F s).out
    unfolding declared_s
    declared_good =
        let u = Walked.unique_kept M o (Inside M Any) G (λ t n r a g. follows.imports t n r (unfold Inside in a) g) still (λ f r a g. g) F (rows-any M F pass) in
        after_on o M G follows.imports still Any (λ n r a g. g) _ _ u u (front F) (begin F s) (front-any M F pass) (unfold begin in good)

    -- RECORDS THAT CAN BE READ, where those of the callees can
    pub ready-same : (ready : ℕ → Derived → Type 0) → ((n : ℕ) (r : Derived) → Q n → G r → ready n r) → ReadyF o M ready fol' F s
    unfolding ReadyF
    ready-same ready is = (reads, ready_from o M G follows.imports fol' Q follows'.good ready is F (rows-any M F pass) (flat_block F.body) (declared_s o M fol' F s) (body-refs M F pass Q calls) declared_good)
