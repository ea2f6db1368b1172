-- The bytes of the image after its words.
use mathlib.Core.Path.{◌≡◌, refl, sym, ap, ◌∙◌}
use mathlib.Core.List.{List, [], append-nil}
use Prim.Native.Nat.{ℕ, ◌*◌, ◌≤◌}
use native.Mathlib.Omega.{arith}
use lib.ListN.{length, take, drop, take-append-drop}
use lib.Seq.{sets, length-sets, length-take-le, take_at}
use Rattle.model.specs.Module.{Module, write}
use Rattle.model.specs.Taped.{Taped, Tape}
use Rattle.model.specs.Redirect.{redirect, Answer, redirected, outside, no_original, no_replacement, arguments_differ, results_differ, after}
use Rattle.theory_image.specs.FunctionViews.{taped_write}
use Rattle.base_words.specs.Words.{bytes_of}
use Rattle.base_words.proofs.Laws.{length_bytes_of}
use Rattle.model.specs.Refusals.{done}
use Rattle.model.specs.Image.{redirect_ended, redirect_after}
use Rattle.redirect_words.specs.Passes.{Redirected, shown, asked, Redirects, Stores}
use Rattle.std.specs.Prelude.{Ok, Err}
use Rattle.base_handles.specs.declared.FunctionHandle.{FunctionHandle}
use Rattle.base_refusals.specs.declared.Refusal.{Refusal}
use Rattle.redirect_words.specs.declared.Request.{Request}
use Rattle.redirect_calls.proofs.Turning.{sets_middle}
use Rattle.redirect_words.proofs.Ending.{Redirecting, answered, not_done}
use Rattle.redirect_words.proofs.Theorems.{as_long}

-- what the answer leaves is as long as what was there
after_as_long : (m : Module) (omit : List ℕ) (x : Answer) → Redirecting m 0 0 omit x → length (write (after m x)) ≡ length (write m)
unfolding after redirect_ended
after_as_long m omit (redirected i k m') r =
    let e : redirected i k m' ≡ redirected i k (redirect m i k omit) = r.done_is i k refl in
    let q : m' ≡ redirect m i k omit = cc in
    ap (λ y. length (write y)) q ∙ as_long m i k omit
after_as_long m omit outside r = refl
after_as_long m omit no_original r = refl
after_as_long m omit no_replacement r = refl
after_as_long m omit arguments_differ r = refl
after_as_long m omit results_differ r = refl

sets-all : (vs l : List ℕ) → length vs ≡ length l → sets l 0 vs ≡ vs
sets-all vs l e = ap (λ x. sets x 0 vs) (sym (append-nil l)) ∙ sets_middle [] vs l [] e ∙ append-nil vs

-- ---- the image that an answer leaves
pub image-stays : (image : List ℕ) (x : Answer) → ((both : ℕ × ℕ) → redirect_ended x ≡ done both → ⊥) → redirect_after image x ≡ image
unfolding redirect_after redirect_ended
image-stays image (redirected a b m) h = absurd (h (a, b) refl)
image-stays image outside h = refl
image-stays image no_original h = refl
image-stays image no_replacement h = refl
image-stays image arguments_differ h = refl
image-stays image results_differ h = refl

image-turns : (image : List ℕ) (m : Module) (x : Answer) (a b : ℕ) → redirect_ended x ≡ done (a, b) → redirect_after image x ≡ bytes_of (write (after m x))
unfolding redirect_after after redirect_ended
image-turns image m (redirected i k m') a b e = refl
image-turns image m outside a b e = let z : ◌≡◌ {A = ℕ} 0 1 = cc in absurd (omega arith)
image-turns image m no_original a b e = let z : ◌≡◌ {A = ℕ} 0 1 = cc in absurd (omega arith)
image-turns image m no_replacement a b e = let z : ◌≡◌ {A = ℕ} 0 1 = cc in absurd (omega arith)
image-turns image m arguments_differ a b e = let z : ◌≡◌ {A = ℕ} 0 1 = cc in absurd (omega arith)
image-turns image m results_differ a b e = let z : ◌≡◌ {A = ℕ} 0 1 = cc in absurd (omega arith)

module _ (image words tags : List ℕ) (n : ℕ) (q : Request) (h : Tape words tags n) (image_long : length image ≡ 4 * n) (r : Redirected) (words₁ : List ℕ) (t : Redirects r words₁ words tags n q) where
  abbrev left : Module → Module
  left m = after m (asked m q)

  left_long : {m : Module} → Taped words tags n m → length (write (left m)) ≡ n
  left_long {m} x = after_as_long m q.omit.now (asked m q) (answered m q.original q.replacement q.omit.now) ∙ sym (taped_write x)

  words_left : {m : Module} → Taped words tags n m → take n words₁ ≡ write (left m)
  words_left {m} x =
      let l : length (write (left m)) ≡ length (take n words) = left_long x ∙ sym (length-take-le n words (omega (arith, x.small, x.words_long))) in
      ap (take n) (t.words_are m x ∙ ap (λ w. sets w 0 (write (left m))) (sym (take-append-drop n words)) ∙ sets_middle [] (write (left m)) (take n words) (drop n words) l)
      ∙ take_at (write (left m)) (drop n words) n (left_long x)

  words_long : length words₁ ≡ 16384
  words_long = let k = h.taped in ap length (t.words_are h.holds k) ∙ length-sets words 0 (write (left h.holds)) ∙ k.words_long

  pub store_asks : 4 * length (take n words₁) ≤ length image
  store_asks = let k = h.taped in omega (arith, length-take-le n words₁ (omega (arith, k.small, words_long)), image_long)

  pub stays_stored : (e : Refusal) → r ≡ Err e → Stores r image image words tags n q
  unfolding shown
  stays_stored e is = record { answer = t.answer; bytes_are = λ m x. sym (image-stays image (asked m q) (not_done e _ (sym (t.answer m x) ∙ ap shown is))) }

  pub turned_stored : (both : FunctionHandle × FunctionHandle) → r ≡ Ok both → (image₁ : List ℕ) → image₁ ≡ sets image 0 (bytes_of (take n words₁)) → Stores r image₁ image words tags n q
  unfolding shown
  turned_stored both ok image₁ is =
      record {
        answer = t.answer;
        bytes_are = λ m x.
            let w : bytes_of (take n words₁) ≡ bytes_of (write (left m)) = ap bytes_of (words_left x) in
            let l : length (bytes_of (write (left m))) ≡ length image = length_bytes_of (write (left m)) ∙ ap (4 *◌) (left_long x) ∙ sym image_long in
            is ∙ ap (sets image 0) w ∙ sets-all (bytes_of (write (left m))) image l ∙ sym (image-turns image m (asked m q) both.0.0 both.1.0 (sym (t.answer m x) ∙ ap shown ok));
      }
