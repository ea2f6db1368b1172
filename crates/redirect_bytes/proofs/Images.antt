-- From intake's answer and the redirected words to the promise on all bytes.
use mathlib.Core.Path.{◌≡◌, refl, sym, ap, ap₂, ◌∙◌}
use mathlib.Core.List.{List}
use Prim.Native.Nat.{ℕ, zero, suc, ◌*◌, ◌≤◌}
use native.Mathlib.Omega.{arith}
use lib.ListN.{length}
use Rattle.base_words.specs.Words.{words_of}
use Rattle.model.specs.Outcome.{Laid, laid, bad, strange}
use Rattle.model.specs.Module.{Module, read}
use Rattle.model.specs.Taped.{Tape}
use Rattle.model.specs.Intake.{intake_of}
use Rattle.model.specs.Redirect.{Answer, redirected, outside, no_original, no_replacement, arguments_differ, results_differ}
use Rattle.theory_image.specs.Modules.{read_well}
use Rattle.intake.specs.Taken.{Accepts, TakeInEnsures}
use Rattle.model.specs.Refusals.{Ended, refused}
use Rattle.model.specs.Intake.{of_laid, after_intake, on_words}
use Rattle.model.specs.Image.{on_image, redirect_ended, redirect_after, redirect_image, redirect_answer, wuldgisp_redirect, RedirectEnsures}
use Rattle.theory_image.specs.OnWords.{on_refused, on_module}
use Rattle.redirect_words.specs.Passes.{Redirected, shown, asked, Stores}
use Rattle.redirect_words.specs.declared.Request.{Request}
use Rattle.redirect_words.proofs.Finding.{find_in}
use Rattle.redirect_words.proofs.Theorems.{accepted}
use Rattle.redirect_bytes.specs.Answers.{RedirectFunctionEnsures, Small, small_both, small_refused}
use Rattle.std.specs.Prelude.{Ok, Err}
use Rattle.base_refusals.specs.declared.Refusal.{Refusal}
use Rattle.base_refusals.specs.declared.Refusal.TheVariants.{Ring}
use Rattle.base_refusals.specs.Numbers.{number_of as number_of_refusal, refused_by}
use Rattle.intake.proofs.Refusals.{refused_by as is_refused}
use Rattle.theory_image.specs.IntakeNumbers.{intake_low}
use Rattle.redirect_bytes.proofs.Sizes.{image_long}

-- intake's refusals have no count
refused_low : {A : Type 0} (e : Refusal) → number_of_refusal e ≤ 6 → refused_by {A = A} e ≡ refused (number_of_refusal e)
refused_low (Ring left) h = absurd (omega (arith, h))
refused_low e h = refl

module _ (image : List ℕ) (q : Request) where
  -- what comes of a module
  abbrev of_module : Module → Ended (ℕ × ℕ) × List ℕ
  of_module m = (redirect_ended (asked m q), redirect_after image (asked m q))

  by_intake : (k : ℕ) → intake_of (length image) (words_of image) ≡ suc k → redirect_image image q.original q.replacement q.omit.now ≡ (refused (suc k), image)
  unfolding redirect_image on_image
  by_intake k e = on_refused of_module (λ k. (refused k, image)) (length image) (words_of image) k e

  by_module : (m : Module) → intake_of (length image) (words_of image) ≡ 0 → read (words_of image) ≡ laid m → redirect_image image q.original q.replacement q.omit.now ≡ of_module m
  unfolding redirect_image on_image
  by_module m e r = on_module of_module (λ k. (refused k, image)) (length image) (words_of image) m e r

  module _ (words tags : List ℕ) where
    -- ---- intake refuses
    pub intake_refuses : (e : Refusal) → TakeInEnsures (Err e) words tags image → RedirectFunctionEnsures (Err e) image image q
    unfolding shown
    intake_refuses e got =
        let x = is_refused e in
        let low : number_of_refusal e ≤ 6 = omega (arith, got.same, intake_low (length image) (words_of image)) in
        record { same = ap (λ i. (i, image)) (refused_low e low ∙ ap refused x.1) ∙ sym (by_intake x.0 (sym got.same ∙ x.1)) }

    -- ---- intake accepts
    module _ (n : ℕ) (got : TakeInEnsures (Ok n) words tags image) where
      held : Accepts image words tags n
      held = got.held n refl

      pub loaded_asks : Tape words tags n × (length image ≡ 4 * n)
      loaded_asks = (record { holds = held.holds; taped = held.taped }, image_long image held.sized_right ∙ ap (4 *◌) (sym held.long))

      pub loaded_tells : (r : Redirected) (image₁ : List ℕ) → Stores r image₁ image words tags n q → RedirectFunctionEnsures r image image₁ q
      loaded_tells r image₁ s =
          let m = held.holds in
          record { same = ap₂ (λ x y. (x, y)) (s.answer m held.taped) (s.bytes_are m held.taped) ∙ sym (by_module m (sym got.same) held.reads) }

  -- ---- room for both numbers
  told_small : (m : Module) → length m.functions ≤ 256 → (x : Answer) → asked m q ≡ x → Small (redirect_ended x)
  unfolding redirect_ended
  told_small m few (redirected a b m') e =
      let found = accepted m q.original q.replacement q.omit.now a b m' e in
      let u = find_in m.functions 0 q.original a found.original in
      let v = find_in m.functions 0 q.replacement b found.replacement in
      small_both {a = a} {b = b} (omega arith) (omega arith)
  told_small m few outside e = small_refused
  told_small m few no_original e = small_refused
  told_small m few no_replacement e = small_refused
  told_small m few arguments_differ e = small_refused
  told_small m few results_differ e = small_refused

  module_small : (x : Laid Module) → read (words_of image) ≡ x → Small (of_laid of_module (λ k. (refused k, image)) x).0
  unfolding of_laid
  module_small (laid m) e = told_small m (read_well (words_of image) m e).functions_ok.few (asked m q) refl
  module_small bad e = small_refused
  module_small strange e = small_refused

  intake_small : (k : ℕ) → Small (after_intake of_module (λ k. (refused k, image)) (words_of image) k).0
  unfolding after_intake
  intake_small zero = module_small (read (words_of image)) refl
  intake_small (suc k) = small_refused

  image_small : Small (redirect_image image q.original q.replacement q.omit.now).0
  unfolding redirect_image on_image on_words
  image_small = intake_small (intake_of (length image) (words_of image))

  module _ (a : Redirected) (image₁ : List ℕ) (h : RedirectFunctionEnsures a image image₁ q) where
    told_is : shown a ≡ (redirect_image image q.original q.replacement q.omit.now).0
    told_is = ap (λ x. x.0) h.same

    pub number_asks : Small (shown a)
    number_asks = rw told_is image_small

    pub packs : (r : ℕ) → r ≡ redirect_answer (shown a) → RedirectEnsures r image image₁ q.original q.replacement q.omit.now
    unfolding wuldgisp_redirect
    packs r e = record { answer = e ∙ ap redirect_answer told_is; left = ap (λ x. x.1) h.same }
