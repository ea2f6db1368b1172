-- The theorems on redirecting, of images: each is about all bytes and about the definition alone; that the code is the definition is the contract of
-- `redirect_function`. Assumes nothing but, where it says so, that bytes are below 256.
use mathlib.Core.Path.{◌≡◌, refl, sym, ap, ap₂, ◌∙◌, subst}
use mathlib.Core.Bool.{Bool, true, false}
use mathlib.Core.List.{List, map}
use Prim.Native.Nat.{ℕ, zero, suc, ◌*◌, ◌^◌, ◌<◌}
use native.Mathlib.Omega.{arith}
use lib.ListN.{length}
use Rattle.base_words.specs.Words.{AllBelow, words_of, bytes_of}
use Rattle.base_words.proofs.Laws.{length_bytes_of, bytes_of_words, words_of_bytes, words_below}
use Rattle.model.specs.Outcome.{Cells, word, Laid, laid, bad, strange}
use Rattle.model.specs.Module.{Module, read, write, sized}
use Rattle.model.specs.Carry.{WellFormed}
use Rattle.model.specs.Intake.{verdict, intake_of, of_laid, after_intake, on_words, Passes}
use Rattle.model.specs.Redirect.{redirect, redirected, redirect_function}
use Rattle.theory_image.specs.Modules.{read_well}
use Rattle.intake.proofs.Tests.{passes}
use Rattle.redirect_words.specs.Claims.{Differs, differs_none, differs_same, differs_call, differs_result}
use Rattle.model.specs.Refusals.{Ended, done, refused}
use Rattle.model.specs.Image.{on_image, redirect_ended, redirect_after, redirect_image}
use Rattle.redirect_words.proofs.Ending.{answered}
use Rattle.redirect_words.proofs.Finding.{find_in}
use Rattle.redirect_words.proofs.Theorems.{nothing_else, accepted, as_long, redirected_intake, redirected_itself}
use Rattle.redirect_words.proofs.Storing.{image-stays}
use Rattle.redirect_bytes.proofs.Sizes.{image_long, image-written}

-- ---- A REFUSAL KEEPS EVERY BYTE
-- what comes of a module, and of a refusal
abbrev of_module : List ℕ → ℕ → ℕ → List ℕ → Module → Ended (ℕ × ℕ) × List ℕ
of_module image o p omit m = (redirect_ended (redirect_function m o p omit), redirect_after image (redirect_function m o p omit))

abbrev refusing : List ℕ → ℕ → Ended (ℕ × ℕ) × List ℕ
refusing image k = (refused k, image)

module_keeps : (image : List ℕ) (o p : ℕ) (omit : List ℕ) (k : ℕ) (x : Laid Module) → (of_laid (of_module image o p omit) (refusing image) x).0 ≡ refused k → (of_laid (of_module image o p omit) (refusing image) x).1 ≡ image
unfolding of_laid
module_keeps image o p omit k (laid m) e = image-stays image (redirect_function m o p omit) λ p q. let z : refused k ≡ done p = sym e ∙ q in let y : ◌≡◌ {A = ℕ} 0 1 = cc in omega arith
module_keeps image o p omit k bad e = refl
module_keeps image o p omit k strange e = refl

pub refused_keeps : (image : List ℕ) (o p : ℕ) (omit : List ℕ) (k : ℕ) → (redirect_image image o p omit).0 ≡ refused k → (redirect_image image o p omit).1 ≡ image
unfolding redirect_image on_image on_words after_intake
refused_keeps image o p omit k e = go (intake_of (length image) (words_of image)) e
  where
    go : (i : ℕ) → (after_intake (of_module image o p omit) (refusing image) (words_of image) i).0 ≡ refused k → (after_intake (of_module image o p omit) (refusing image) (words_of image) i).1 ≡ image
    go zero q = module_keeps image o p omit k (read (words_of image)) q
    go (suc i) q = refl

-- ---- an accepted redirecting: the module that the image holds, and the one that it holds afterwards
pub record AcceptedImage (image : List ℕ) (o p : ℕ) (omit : List ℕ) (a b : ℕ) : Type 0 where
  pub holds : Module
  pub sized_right : sized (length image) (words_of image) ≡ true
  pub reads : read (words_of image) ≡ laid holds
  pub passed : Passes holds
  pub answer : redirect_function holds o p omit ≡ redirected a b (redirect holds a b omit)
  pub image_is : (redirect_image image o p omit).1 ≡ bytes_of (write (redirect holds a b omit))

module _ (image : List ℕ) (o p : ℕ) (omit : List ℕ) (a b : ℕ) where
  sized_so : (s : Bool) → sized (length image) (words_of image) ≡ s → intake_of (length image) (words_of image) ≡ 0 → (sized (length image) (words_of image) ≡ true) × (verdict (read (words_of image)) ≡ 0)
  unfolding intake_of
  sized_so true e h = (e, sym (rw (intake_of, e)) ∙ h)
  sized_so false e h = let q : ◌≡◌ {A = ℕ} 1 0 = sym (rw (intake_of, e)) ∙ h in absurd (omega arith)

  module_accepts : (x : Laid Module) → read (words_of image) ≡ x → verdict x ≡ 0 → sized (length image) (words_of image) ≡ true → (of_laid (of_module image o p omit) (refusing image) x).0 ≡ done (a, b) → (redirect_image image o p omit).1 ≡ (of_laid (of_module image o p omit) (refusing image) x).1 → AcceptedImage image o p omit a b
  unfolding of_laid verdict redirect_after
  module_accepts (laid m) r v s e q =
      let d : redirect_function m o p omit ≡ redirected a b (redirect m a b omit) = (answered m o p omit).done_is a b e in
      record { holds = m; sized_right = s; reads = r; passed = passes m v; answer = d; image_is = q ∙ ap (redirect_after image) d }
  module_accepts bad r v s e q = absurd (omega arith)
  module_accepts strange r v s e q = absurd (omega arith)

  pub accepts : (redirect_image image o p omit).0 ≡ done (a, b) → AcceptedImage image o p omit a b
  unfolding redirect_image on_image on_words after_intake
  accepts e = go (intake_of (length image) (words_of image)) refl e
    where
      go : (i : ℕ) → intake_of (length image) (words_of image) ≡ i → (after_intake (of_module image o p omit) (refusing image) (words_of image) i).0 ≡ done (a, b) → AcceptedImage image o p omit a b
      go zero h q =
          let s = sized_so (sized (length image) (words_of image)) refl h in
          module_accepts (read (words_of image)) refl s.1 s.0 q (ap (λ i. (after_intake (of_module image o p omit) (refusing image) (words_of image) i).1) h)
      go (suc i) h q = let z : ◌≡◌ {A = ℕ} 0 1 = cc in absurd (omega arith)

-- ---- words that differ in the numbers of functions alone are words
differs_below : {a b : ℕ} {cs ds : Cells} → Differs a b cs ds → b < 2 ^ 32 → AllBelow (2 ^ 32) (map word cs) → AllBelow (2 ^ 32) (map word ds)
differs_below differs_none l h i q = absurd (omega arith)
differs_below (differs_same d) l h zero q = h 0 (omega arith)
differs_below (differs_same d) l h (suc i) q = differs_below d l (λ j k. h (suc j) (omega arith)) i (omega arith)
differs_below (differs_call d) l h zero q = l
differs_below (differs_call d) l h (suc i) q = differs_below d l (λ j k. h (suc j) (omega arith)) i (omega arith)
differs_below (differs_result d) l h zero q = l
differs_below (differs_result d) l h (suc i) q = differs_below d l (λ j k. h (suc j) (omega arith)) i (omega arith)

module _ (image : List ℕ) (bytes : AllBelow 256 image) where
  whole_bytes : {o p a b : ℕ} {omit : List ℕ} (h : AcceptedImage image o p omit a b) → bytes_of (write h.holds) ≡ image
  whole_bytes h =
      ap bytes_of (sym (image-written image h.sized_right h.holds h.reads))
      ∙ bytes_of_words image bytes (omega (arith, image_long image h.sized_right))

  module _ (o p : ℕ) (omit : List ℕ) (a b : ℕ) (h : AcceptedImage image o p omit a b) where
    well : WellFormed h.holds
    well = read_well (words_of image) h.holds h.reads

    low : b < 256
    low =
        let q = accepted h.holds o p omit a b (redirect h.holds a b omit) h.answer in
        omega (arith, find_in h.holds.functions 0 p b q.replacement, well.functions_ok.few)

    words_small : AllBelow (2 ^ 32) (write (redirect h.holds a b omit))
    unfolding write
    words_small =
        let w : words_of image ≡ write h.holds = image-written image h.sized_right h.holds h.reads in
        differs_below (nothing_else h.holds a b omit) (omega (arith, low)) (subst (λ ws. AllBelow (2 ^ 32) ws) w (words_below image bytes))

    words_again : words_of (redirect_image image o p omit).1 ≡ write (redirect h.holds a b omit)
    words_again = ap words_of h.image_is ∙ words_of_bytes (write (redirect h.holds a b omit)) words_small

    pub length-again : length (redirect_image image o p omit).1 ≡ length image
    length-again =
        ap length h.image_is
        ∙ length_bytes_of (write (redirect h.holds a b omit))
        ∙ ap (4 *◌) (as_long h.holds a b omit)
        ∙ sym (length_bytes_of (write h.holds))
        ∙ ap length (whole_bytes h)

    intake_again : intake_of (length image) (write (redirect h.holds a b omit)) ≡ 0
    intake_again =
        let w : words_of image ≡ write h.holds = image-written image h.sized_right h.holds h.reads in
        redirected_intake h.holds o p omit a b (redirect h.holds a b omit) h.answer well h.passed (length image) (subst (λ ws. sized (length image) ws ≡ true) w h.sized_right)

  -- THE REDIRECTED IMAGE PASSES INTAKE
  pub passes_intake : (o p : ℕ) (omit : List ℕ) (a b : ℕ) → (redirect_image image o p omit).0 ≡ done (a, b) → intake_of (length (redirect_image image o p omit).1) (words_of (redirect_image image o p omit).1) ≡ 0
  passes_intake o p omit a b e =
      let h = accepts image o p omit a b e in
      ap₂ intake_of (length-again o p omit a b h) (words_again o p omit a b h) ∙ intake_again o p omit a b h

  -- A FUNCTION REDIRECTED TO ITSELF: no byte changes
  pub itself : (o : ℕ) (omit : List ℕ) (a b : ℕ) → (redirect_image image o o omit).0 ≡ done (a, b) → (redirect_image image o o omit).1 ≡ image
  itself o omit a b e =
      let h = accepts image o o omit a b e in
      h.image_is ∙ ap (λ m. bytes_of (write m)) (redirected_itself h.holds o omit a b (redirect h.holds a b omit) (well o o omit a b h) h.answer) ∙ whole_bytes h
