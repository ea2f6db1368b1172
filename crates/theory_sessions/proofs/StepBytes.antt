-- The theorems on what is defined in `specs/StepBytes.antt`.
use Rattle.std.proofs.Math.Path.{◌≡◌, refl}
use Rattle.std.proofs.Common.{sym, ap, ap₂, ◌∙◌, subst, inl, inr, append_assoc, arith, length-take, length-drop, length-take-le, get_or-take, get_or-drop}
use Rattle.std.specs.Prelude.{◌⊎◌, List, [], ◌∷◌, ◌++◌, ℕ, ◌+◌, ◌^◌, ◌<◌, ◌≤◌, length, get_or, take, drop}
use Rattle.std.proofs.Math.Option.{Option, none, some}
use Rattle.std.proofs.lemmas.List.Edits.{sets, sets-eq}
use Rattle.std.proofs.Math.Seq.{length-sets, take-append_seam, drop-append_seam}
use Rattle.base_words.specs.Words.{AllBelow, words_of, bytes_of}
use Rattle.base_words.proofs.Laws.{length_bytes_of, words_of_bytes}
use Rattle.model.specs.Module.{Module, read}
use Rattle.model.specs.Carry.{Each, each_none, each_next}
use Rattle.model.specs.Intake.{intake_of}
use Rattle.model.specs.Session.{Source, Session, Answer, answered, refused, new, with_source, set, clear, map_span, importing, rename_type, import_function, map_function_handle, finish, finish_with_entry_points}
use Rattle.model.specs.Tables as Tab
use Rattle.model.specs.Steps.{Operation, sets-source, clears_source, maps_span, types, renames, constants, overrides, globals, expressions, functions, new_functions, handles, required, finishes, finishes_entries, unknown, operations, Said, part, says, writes, perform, run}
use Rattle.theory_sessions.specs.Operating.{Good, new_good}
use Rattle.theory_sessions.specs.Words.{GivenBy, given-source, given_clears, given_spans, given-imports, given-renames, given_functions, given_handles, given_finishes, given_finishes_with, SmallSession}
use Rattle.theory_sessions.proofs.Words.{bytes_given, new_small, run_small, finish_words, finish_with_words}
use Rattle.theory_sessions.specs.Steps.{step_as, Image}
use Rattle.theory_sessions.proofs.Steps.{says_nothing, step_is, step-stepped}
use Rattle.theory_sessions.specs.StepBytes.{ImageAt, Leaves, AllLeave, none_left, next_left}

-- ---- THE PROOF
-- what was written is there
part-sets : (out bs : List ℕ) (at : ℕ) → at + length bs ≤ length out → part at (length bs) (sets out at bs) ≡ bs
unfolding part
part-sets out bs at h =
    let rest = drop (at + length bs) out in
    let front = length-take-le at out (omega (arith, h)) in
    let whole : sets out at bs ≡ take at out ++ (bs ++ rest) = sets-eq bs out at h ∙ append_assoc (take at out) bs rest in
    ap (λ l. take (length bs) (drop at l)) whole
    ∙ (ap (λ k. take (length bs) (drop k (take at out ++ (bs ++ rest)))) (sym front)
    ∙ (ap (take (length bs)) (drop-append_seam (take at out) (bs ++ rest)) ∙ take-append_seam bs rest))

image-at : (out : List ℕ) (room : ℕ) → length out ≡ room → (x : Said) → AllBelow (2 ^ 32) x.written → (i : Image room x) → ImageAt (sets out x.at (bytes_of x.written)) x.at x.first i.holds
image-at out room l x b i =
    let ws = x.written in
    let four = length_bytes_of ws in
    let n : x.first ≡ length (bytes_of ws) = i.told ∙ sym four in
    let out' = sets out x.at (bytes_of ws) in
    let p : part x.at x.first out' ≡ bytes_of ws = ap (λ k. part x.at k out') n ∙ part-sets out (bytes_of ws) x.at (omega (arith, four, l, i.fits)) in
    let w : words_of (part x.at x.first out') ≡ ws = ap words_of p ∙ words_of_bytes ws b in
    record {
      counted = ap length p ∙ sym n;
      bytes = p ∙ ap bytes_of i.written.words;
      reads = ap read w ∙ i.written.reads;
      intake = ap₂ intake_of i.told w ∙ i.written.intake;
      scope = i.written.six;
    }

below_none : (k : ℕ) → AllBelow k []
below_none k i h = absurd (omega arith)

part-below : (k a b : ℕ) (l : List ℕ) → AllBelow k l → AllBelow k (part a b l)
unfolding part
part-below k a b l h i p =
    let q = length-take b (drop a l) in
    let r = length-drop a l in
    let e : get_or (take b (drop a l)) i 0 ≡ get_or l (a + i) 0 = get_or-take b (drop a l) i 0 (omega (arith, p, q)) ∙ get_or-drop a l i 0 in
    subst (λ v. v < k) (sym e) (h (a + i) (omega (arith, p, q, r)))

module _ (a b c : ℕ) (sources output : List ℕ) (bytes : AllBelow 256 sources) (s : Session) (g : Good s) (k : SmallSession s) where
  given : (o : Operation) → Each GivenBy (step_as o a b c sources output)
  unfolding step_as
  given sets-source = each_next (given-source (bytes_given (part a b sources) (part-below 256 a b sources bytes))) each_none
  given clears_source = each_next given_clears each_none
  given maps_span = each_next given_spans each_none
  given types = each_next given-imports each_none
  given renames = each_next given-renames each_none
  given constants = each_next given-imports each_none
  given overrides = each_next given-imports each_none
  given globals = each_next given-imports each_none
  given expressions = each_next given-imports each_none
  given functions = each_next given_functions each_none
  given new_functions = each_next given_handles each_none
  given handles = each_next given_handles each_none
  given required = each_none
  given finishes = each_next given_finishes each_none
  given finishes_entries = each_next given_finishes_with each_none
  given unknown = each_none

  step_small : (o : Operation) → SmallSession (perform o a b c sources output s).session
  step_small o = subst SmallSession (sym (step_is a b c sources output s g o)) (run_small (step_as o a b c sources output) (given o) s g k)

  -- what a step writes is words
  quiet : {A : Type 0} (v : A → ℕ × ℕ) (x : Answer A) → AllBelow (2 ^ 32) (says s v x).written
  quiet v x = subst (AllBelow (2 ^ 32)) (sym (says_nothing s v x)) (below_none (2 ^ 32))

  wrote : (x : Answer (List ℕ)) → ((ws : List ℕ) (r : Session) → x ≡ answered ws r → AllBelow (2 ^ 32) ws) → AllBelow (2 ^ 32) (writes s a x).written
  unfolding writes
  wrote (answered ws r) f = f ws r refl
  wrote (refused n) f = below_none (2 ^ 32)

  with_words : (room : ℕ) (ws : List ℕ) (r : Session) → finish_with_entry_points room s ≡ answered ws r → AllBelow (2 ^ 32) ws
  unfolding finish_with_entry_points with_source
  with_words room ws r e = go s.source refl
    where
      go : (y : Option Source) → s.source ≡ y → AllBelow (2 ^ 32) ws
      go none q = let z : refused 20 ≡ answered ws r = rw q at e in let w : ◌≡◌ {A = ℕ} 0 1 = cc in absurd (omega arith)
      go (some x) q = finish_with_words s g k x q room ws r (unfold finish_with_entry_points in e)

  step_words : (o : Operation) → AllBelow (2 ^ 32) (perform o a b c sources output s).written
  unfolding perform
  step_words sets-source = quiet _ (set (length (part a b sources)) (words_of (part a b sources)) c s)
  step_words clears_source = quiet _ (answered 0 (clear s))
  step_words maps_span = quiet _ (map_span (a, b) s)
  step_words types = quiet _ (importing Tab.types a s)
  step_words renames = quiet _ (rename_type a b s)
  step_words constants = quiet _ (importing Tab.constants a s)
  step_words overrides = quiet _ (importing Tab.overrides a s)
  step_words globals = quiet _ (importing Tab.globals a s)
  step_words expressions = quiet _ (importing Tab.exprs a s)
  step_words functions = quiet _ (import_function a s)
  step_words new_functions = quiet _ (map_function_handle a s)
  step_words handles = quiet _ (map_function_handle a s)
  step_words required = quiet _ (answered _ s)
  step_words finishes = wrote (finish (length (part a b output)) s) (finish_words s g k (length (part a b output)))
  step_words finishes_entries = wrote (finish_with_entry_points (length (part a b output)) s) (with_words (length (part a b output)))
  step_words unknown = quiet _ (refused 13)

  step_leaves : (o : Operation) (out : List ℕ) → length out ≡ length output → Leaves (sets out (perform o a b c sources output s).at (bytes_of (perform o a b c sources output s).written)) (perform o a b c sources output s)
  step_leaves o out l = record { image = go (step-stepped a b c sources output s g o).writes-image }
    where
      x : Said
      x = perform o a b c sources output s

      go : (x.written ≡ []) ⊎ Image (length output) x → (x.written ≡ []) ⊎ ((m : Module) × ImageAt (sets out x.at (bytes_of x.written)) x.at x.first m)
      go (inl e) = inl e
      go (inr i) = inr (i.holds, image-at out (length output) l x (step_words o) i)

run_leaves : (steps sources output : List ℕ) → AllBelow 256 sources → (s : Session) → Good s → SmallSession s → (out : List ℕ) → length out ≡ length output → AllLeave (run steps sources output s) out
unfolding run
run_leaves [] sources output bytes s g k out l = none_left
run_leaves (o ∷ []) sources output bytes s g k out l = none_left
run_leaves (o ∷ a ∷ []) sources output bytes s g k out l = none_left
run_leaves (o ∷ a ∷ b ∷ []) sources output bytes s g k out l = none_left
run_leaves (o ∷ a ∷ b ∷ c ∷ steps) sources output bytes s g k out l =
    let p = get_or operations o unknown in
    let x = perform p a b c sources output s in
    next_left (step_leaves a b c sources output bytes s g k p out l)
    (run_leaves steps sources output bytes x.session (step-stepped a b c sources output s g p).good (step_small a b c sources output bytes s g k p) (sets out x.at (bytes_of x.written)) (length-sets out x.at (bytes_of x.written) ∙ l))

-- THE THEOREM: of all steps that a session is given, on any sources and into any output
pub every-image : (steps sources output : List ℕ) → AllBelow 256 sources → AllLeave (run steps sources output new) output
every-image steps sources output bytes = run_leaves steps sources output bytes new new_good new_small output refl
