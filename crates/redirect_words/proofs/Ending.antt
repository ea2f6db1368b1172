-- The whole: what is answered, and what the words hold.
use mathlib.Core.Path.{◌≡◌, refl, sym, ap, ap₂, ◌∙◌}
use mathlib.Core.Bool.{Bool, true, false}
use mathlib.Core.Option.{Option, none, some}
use mathlib.Core.List.{List, [], ◌∷◌, ◌++◌}
use Prim.Native.Nat.{ℕ}
use native.Mathlib.Omega.{arith}
use lib.ListN.{length, take, drop, take-append-drop}
use lib.Seq.{sets, length-take-le}
use Rattle.model.specs.Module.{Module, write}
use Rattle.model.specs.Taped.{Taped}
use Rattle.model.specs.Redirect.{find, all_below, argument_types, agree, result_type, same, redirect, Answer, redirected, outside, no_original, no_replacement, arguments_differ, results_differ, after, function, compared, with_replacement, with_original, redirect_function}
use Rattle.theory_image.specs.FunctionViews.{taped_write}
use Rattle.model.specs.Refusals.{Ended, done, refused}
use Rattle.model.specs.Image.{redirect_ended}
use Rattle.redirect_words.specs.Passes.{shown, asked, Tests, Redirects}
use Rattle.redirect_calls.specs.Turns.{RedirectAllEnsures, redirected_by}
use Rattle.std.specs.Prelude.{Ok, Err}
use Rattle.base_refusals.specs.declared.Refusal.{Refusal}
use Rattle.base_refusals.specs.declared.Refusal.TheVariants.{Ring}
use Rattle.base_refusals.specs.Numbers.{refused_by}
use Rattle.base_views.specs.declared.Image.{Image}
use Rattle.redirect_words.specs.declared.Request.{Request}
use Rattle.redirect_calls.proofs.Turning.{sets_middle}
use Rattle.base_handles.specs.declared.FunctionHandle.{FunctionHandle}

-- ---- an answer that gives both functions is the redirected module; one that is refused leaves the module
pub record Redirecting (m : Module) (a b : ℕ) (omit : List ℕ) (x : Answer) : Type 0 where
  pub done_is : (i k : ℕ) → redirect_ended x ≡ done (i, k) → x ≡ redirected i k (redirect m i k omit)

refuses : (m : Module) (a b : ℕ) (omit : List ℕ) (x : Answer) (k : ℕ) → redirect_ended x ≡ refused k → Redirecting m a b omit x
refuses m a b omit x k e = record { done_is = λ i j f. let z : ◌≡◌ {A = ℕ} 0 1 = cc in absurd (omega arith) }

is_compared : (m : Module) (a b : ℕ) (omit : List ℕ) → Redirecting m a b omit (compared m a b omit)
unfolding compared redirect_ended
is_compared m a b omit = args (agree (argument_types (function m a)) (argument_types (function m b)))
  where
    results : (r : Bool) → Redirecting m a b omit (elim r [ true ↦ redirected a b (redirect m a b omit) | false ↦ results_differ ])
    results true = record { done_is = λ i k e. let w : ◌≡◌ {A = ℕ × ℕ} (a, b) (i, k) = cc in ap (λ (x : ℕ × ℕ). redirected x.0 x.1 (redirect m x.0 x.1 omit)) w }
    results false = refuses m a b omit results_differ 11 refl

    args : (r : Bool) → Redirecting m a b omit (elim r [ true ↦ elim (same (result_type (function m a)) (result_type (function m b))) [ true ↦ redirected a b (redirect m a b omit) | false ↦ results_differ ] | false ↦ arguments_differ ])
    args true = results (same (result_type (function m a)) (result_type (function m b)))
    args false = refuses m a b omit arguments_differ 10 refl

with_replacement_lem : (m : Module) (a : ℕ) (omit : List ℕ) (o : Option ℕ) → Redirecting m a 0 omit (with_replacement m a omit o)
unfolding with_replacement redirect_ended
with_replacement_lem m a omit none = refuses m a 0 omit no_replacement 9 refl
with_replacement_lem m a omit (some b) = record { done_is = (is_compared m a b omit).done_is }

with_original_lem : (m : Module) (replacement : ℕ) (omit : List ℕ) (o : Option ℕ) → Redirecting m 0 0 omit (with_original m replacement omit o)
unfolding with_original redirect_ended
with_original_lem m replacement omit none = refuses m 0 0 omit no_original 8 refl
with_original_lem m replacement omit (some a) = record { done_is = (with_replacement_lem m a omit (find m.functions 0 replacement)).done_is }

pub answered : (m : Module) (o p : ℕ) (omit : List ℕ) → Redirecting m 0 0 omit (redirect_function m o p omit)
unfolding redirect_function redirect_ended
answered m o p omit = go (all_below (o ∷ p ∷ omit) (length m.names))
  where
    go : (r : Bool) → Redirecting m 0 0 omit (elim r [ true ↦ with_original m p omit (find m.functions 0 o) | false ↦ outside ])
    go true = with_original_lem m p omit (find m.functions 0 o)
    go false = refuses m 0 0 omit outside 13 refl

-- an answer that gives no functions leaves the module
pub after-stays : (m : Module) (x : Answer) → ((both : ℕ × ℕ) → redirect_ended x ≡ done both → ⊥) → after m x ≡ m
unfolding after redirect_ended
after-stays m (redirected a b m') h = absurd (h (a, b) refl)
after-stays m outside h = refl
after-stays m no_original h = refl
after-stays m no_replacement h = refl
after-stays m arguments_differ h = refl
after-stays m results_differ h = refl

refused_not_done : {A : Type 0} (e : Refusal) (a : A) → refused_by e ≡ done a → ⊥
refused_not_done (Ring left) a q = let z : ◌≡◌ {A = ℕ} 0 1 = cc in omega arith
refused_not_done e a q = let z : ◌≡◌ {A = ℕ} 0 1 = cc in omega arith

pub not_done : {A : Type 0} (e : Refusal) (x : Ended A) → x ≡ refused_by e → (a : A) → x ≡ done a → ⊥
not_done e x q a d = refused_not_done e a (sym q ∙ d)

-- ---- words that hold a module are its words, and then what was after
held_words : {words tags : List ℕ} {n : ℕ} {m : Module} → Taped words tags n m → (words₀ : List ℕ) → length words₀ ≡ 16384 → drop n words ≡ drop n words₀ → words ≡ sets words₀ 0 (write m)
held_words {words} {n} {m} t words₀ long e =
    let a : words ≡ write m ++ drop n words₀ = sym (take-append-drop n words) ∙ ap₂ ◌++◌ t.words_are e in
    let l : length (write m) ≡ length (take n words₀) = sym (taped_write t) ∙ sym (length-take-le n words₀ (omega (arith, t.small))) in
    a ∙ sym (ap (λ w. sets w 0 (write m)) (sym (take-append-drop n words₀)) ∙ sets_middle [] (write m) (take n words₀) (drop n words₀) l)

-- ---- redirect_words
module _ (image : Image) (q : Request) where
  pub words_stay : (e : Refusal) → Tests (Err e) image q → Redirects (Err e) image.words.now image.words.now image.tags.now image.n q
  unfolding shown
  words_stay e t =
      record {
        answer = t.same;
        words_are = λ m x. held_words x image.words.now x.words_long refl ∙ ap (λ y. sets image.words.now 0 (write y)) (sym (after-stays m (asked m q) (not_done e _ (sym (t.same m x)))));
      }

  pub words_turn : (a b : FunctionHandle) → Tests (Ok (a, b)) image q → (words₁ : List ℕ) → RedirectAllEnsures words₁ image.words.now image.tags.now image.n (redirected_by (record { original = a; replacement = b; omit = q.omit })) → Redirects (Ok (a, b)) words₁ image.words.now image.tags.now image.n q
  unfolding shown redirected_by after
  words_turn a b t words₁ u =
      record {
        answer = t.same;
        words_are = λ m x.
            let turns : asked m q ≡ redirected a.0 b.0 (redirect m a.0 b.0 q.omit.now) = (answered m q.original q.replacement q.omit.now).done_is a.0 b.0 (sym (t.same m x)) in
            held_words (u.holds m x) image.words.now x.words_long u.rest ∙ ap (λ y. sets image.words.now 0 (write (after m y))) (sym turns);
      }
