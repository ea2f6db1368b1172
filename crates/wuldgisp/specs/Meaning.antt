-- WHAT THE ANSWERS MEAN: for each exported function theorems on whatever keeps its promise (model/specs/Image.antt).
use Rattle.std.specs.Prelude.{◌≡◌, refl, Bool, true, false, ℕ, ◌+◌, ◌*◌, ◌%◌, length}
use Rattle.std.proofs.Common.{sym, ◌∙◌, arith}
use Rattle.std.proofs.Math.Path.{ap}
use mathlib.Core.List.{List, ◌∷◌, ◌++◌}
use Rattle.std.proofs.lemmas.List.Edits.{sets}
use Rattle.base_words.specs.Words.{AllBelow, words_of}
use Rattle.model.specs.Refusals.{done, refused, packed, answer_by}
use Rattle.model.specs.Outcome.{Laid, laid, bad, strange}
use Rattle.model.specs.Module.{Module, read, sized}
use Rattle.model.specs.Intake.{verdict, intake_of, Passes}
use Rattle.model.specs.Calls.{Call, Ring, Reaches, In, Sorted, Count, ordered}
use Rattle.model.specs.Callees.{calls, order_of}
use Rattle.model.specs.Image.{wuldgisp_intake, IntakeEnsures, order_answer, order_after, wuldgisp_order, OrderEnsures, redirect_image, redirect_answer, wuldgisp_redirect, RedirectEnsures, wuldgisp_link, LinkEnsures, wuldgisp_session, SessionEnsures}
use Rattle.model.specs.Session.{new}
use Rattle.model.specs.Steps.{Said, run, answers_of, output_of, session}
use Rattle.theory_sessions.specs.Steps.{Stepped, StepByStep}
use Rattle.theory_sessions.proofs.Steps.{every-step}
use Rattle.theory_sessions.specs.StepBytes.{AllLeave}
use Rattle.theory_sessions.proofs.StepBytes.{every-image}
use Rattle.theory_link.specs.Session.{link_steps, session_is_link}
use Rattle.link.specs.Theorems.{Halves}
use Rattle.intake.proofs.Tests.{passes}
use Rattle.order_bytes.proofs.Theorems.{listed_exactly, ring_answered, callees-first, sorted, ring_counts}
use Rattle.redirect_bytes.proofs.Theorems.{refused_keeps, passes_intake}
-- wuldgisp_link, wuldgisp_link_in: demand 3 of the bytes that are written (`demand3_code`), and what is answered where its premises fail
pub use Rattle.link.specs.Theorems.{demand3_code, intake_told, short-told, premises_hold}

-- ---- wuldgisp_intake: an accepted image holds a module that passes tests 3 to 6. What its scope test is worth is in theory_walks/proofs/Theorems.antt: every walk reads only what it may
pub intake_accepts : (image : List ℕ) → IntakeEnsures 0 image → (m : Module) × (read (words_of image) ≡ laid m) × Passes m
unfolding wuldgisp_intake intake_of verdict
intake_accepts image p = by_size (sized (length image) (words_of image)) (sym p.answer)
  where
    by_module : (x : Laid Module) → read (words_of image) ≡ x → verdict x ≡ 0 → (m : Module) × (read (words_of image) ≡ laid m) × Passes m
    by_module (laid m) e v = (m, e, passes m v)
    by_module bad e v = absurd (omega arith)
    by_module strange e v = absurd (omega arith)

    by_size : (b : Bool) → (let n : ℕ = elim b [ true ↦ verdict (read (words_of image)) | false ↦ 1 ] in n) ≡ 0 → (m : Module) × (read (words_of image) ≡ laid m) × Passes m
    by_size true v = by_module (read (words_of image)) refl v
    by_size false v = absurd (omega arith)

-- ---- wuldgisp_order, of an accepted image
module _ (image : List ℕ) (m : Module) (accepted : intake_of (length image) (words_of image) ≡ 0) (reads : read (words_of image) ≡ laid m)
    (r : ℕ) (order₀ order : List ℕ) (p : OrderEnsures r order₀ order image) where
  -- without a ring the functions are listed, by rank and then by number, so that every callee comes before its callers, and counted
  pub order-listed : ((i : ℕ) → Ring (length m.functions) (calls m) i → ⊥)
      → (os : List ℕ) × Sorted (length m.functions) (calls m) os × ((xs ys : List ℕ) (i j : ℕ) → os ≡ xs ++ (i ∷ ys) → Call (length m.functions) (calls m) i j → In j xs)
      × (r ≡ packed 0 (length os)) × (order ≡ sets order₀ 0 os)
  unfolding wuldgisp_order answer_by order_after
  order-listed f =
      let l = (listed_exactly image m accepted reads).1 f in
      (l.0, sorted image m accepted reads l.0 l.1, callees-first image m accepted reads l.0 l.1, p.answer ∙ ap order_answer l.1, p.left ∙ ap (λ x. order_after x order₀) l.1)

  -- with one, the answer is 12 and the count of functions from which a chain of calls reaches a ring, and the list is as it was
  pub order_ring : (i : ℕ) → Ring (length m.functions) (calls m) i
      → (k : ℕ) × Count (length m.functions) (Reaches (length m.functions) (calls m)) k × (r ≡ packed 12 k) × (order ≡ order₀)
  unfolding wuldgisp_order answer_by order_after
  order_ring i g =
      let l = ring_answered image m accepted reads i g in
      (l.0, ring_counts image m accepted reads l.0 l.1, p.answer ∙ ap order_answer l.1, p.left ∙ ap (λ x. order_after x order₀) l.1)

-- ---- wuldgisp_redirect
module _ (image₀ : List ℕ) (o p : ℕ) (omit : List ℕ) (r : ℕ) (image : List ℕ) (h : RedirectEnsures r image₀ image o p omit) where
  -- a refusal is answered alone, and leaves every byte
  pub redirect_refused : (k : ℕ) → (redirect_image image₀ o p omit).0 ≡ refused k → (r ≡ k) × (image ≡ image₀)
  unfolding wuldgisp_redirect answer_by
  redirect_refused k e = (h.answer ∙ ap redirect_answer e, h.left ∙ refused_keeps image₀ o p omit k e)

  -- else both functions are answered, and the image passes intake again
  pub redirect_done : AllBelow 256 image₀ → (a b : ℕ) → (redirect_image image₀ o p omit).0 ≡ done (a, b) → (r ≡ packed 0 (a + 65536 * b)) × (wuldgisp_intake image ≡ 0)
  unfolding wuldgisp_redirect wuldgisp_intake answer_by
  redirect_done bytes a b e = (h.answer ∙ ap redirect_answer e, ap (λ (l : List ℕ). intake_of (length l) (words_of l)) h.left ∙ passes_intake image₀ bytes o p omit a b e)

-- ---- wuldgisp_session, wuldgisp_session_in, of any sources and steps
-- what each step does (`Stepped`), and what it leaves in the output right after it (`AllLeave`)
pub record SessionMeans (sources steps answers₀ output₀ answers output : List ℕ) : Type 0 where
  -- what the steps do, one after the other
  pub steps_are : List Said
  -- three words for each of them, and what they write, are what the caller's memory holds
  pub answered : answers ≡ sets answers₀ 0 (answers_of steps_are)
  pub written : output ≡ output_of steps_are output₀
  -- each is an operation of a session, from the session that the one before it left, and the theorems on sessions hold of it
  pub each_step : StepByStep (Stepped (length output₀)) new steps_are
  -- every image that one writes is read back, and intake accepts it but for 5 where a function's name stands twice
  pub each_image : AllBelow 256 sources → AllLeave steps_are output₀

pub session_means : (sources steps answers₀ output₀ : List ℕ) (r : ℕ) (answers output : List ℕ) → SessionEnsures sources steps answers₀ output₀ r answers output → SessionMeans sources steps answers₀ output₀ answers output
unfolding wuldgisp_session session
session_means sources steps answers₀ output₀ r answers output p = record {
  steps_are = run steps sources output₀ new;
  answered = p.answers_is;
  written = p.output_is;
  each_step = every-step steps sources output₀;
  each_image = every-image steps sources output₀;
}

-- ---- LINK AND SESSION AGREE: whatever keeps the promise of wuldgisp_link, where it links, and whatever keeps that of wuldgisp_session, given the steps of linking, leave the same bytes, and the session refuses no step
pub same_bytes : (image output₀ out : List ℕ) (r n : ℕ) → LinkEnsures r output₀ out image → AllBelow 256 image → Halves r 0 n
    → (m : Module) × (os : List ℕ) × (read (words_of image) ≡ laid m) × (order_of m ≡ ordered os)
    × ((answers₀ answers out' : List ℕ) (r' : ℕ) → SessionEnsures image (link_steps os (length image) (length output₀)) answers₀ output₀ r' answers out' → (out' ≡ out) × (r' ≡ 0))
unfolding wuldgisp_link wuldgisp_session
same_bytes image output₀ out r n l b h =
    let q = premises_hold l n h in
    let d = demand3_code l b q.0 q.1 in
    let o = d.2.output-holds n h in (
      d.0,
      o.0,
      d.1,
      o.2.order,
      λ answers₀ answers out' r' s.
          let e = session_is_link image output₀ answers₀ d.0 o.0 o.2.session in
          (s.output_is ∙ (e.0 ∙ sym l.left), s.result_is ∙ ap (λ k. k % 18446744073709551616) e.1),
    )
