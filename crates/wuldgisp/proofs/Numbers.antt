-- Both functions of a redirecting as one number, in which there is room for them.
use mathlib.Core.Path.{◌≡◌, refl, ap, ◌∙◌}
use Prim.Native.Nat.{ℕ, ◌+◌, ◌*◌, ◌<◌}
use native.Mathlib.Omega.{arith}
use mir.Val.{Fits}
use mir.Syntax.{w32}
use Rattle.std.specs.Prelude.{Result, Ok, Err, MatchResult, IsOkAnd}
use Rattle.model.specs.Refusals.{done, packed, answer_by}
use Rattle.model.specs.Image.{redirect_answer}
use Rattle.base_handles.specs.declared.FunctionHandle.{FunctionHandle}
use Rattle.base_refusals.specs.declared.Refusal.{Refusal}
use Rattle.base_refusals.specs.declared.Refusal.TheVariants.{Ring}
use Rattle.base_refusals.specs.Numbers.{refused_by, ended}
use Rattle.redirect_words.specs.Passes.{Redirected, shown}
use Rattle.redirect_bytes.specs.Answers.{Small, small_both}

both_small : {a b : ℕ} → Small (done (a, b)) → (a < 65536) × (b < 65536)
both_small (small_both x y) = (x, y)

module _ (p : FunctionHandle × FunctionHandle) (h : Small (shown (Ok p))) where
  pub times_fits : Fits w32 (65536 * p.1.0)
  unfolding shown
  times_fits = record { fits = omega (arith, (both_small h).1) }

  pub number_fits : Fits w32 (p.0.0 + 65536 * p.1.0)
  unfolding shown
  number_fits = record { fits = omega (arith, (both_small h).0, (both_small h).1) }

refusal_number : (e : Refusal) → answer_by (λ v. v) (refused_by e) ≡ redirect_answer (refused_by e)
unfolding answer_by
refusal_number (Ring left) = refl
refusal_number e = refl

pub number_is : (q : Redirected) (m : Result ℕ Refusal) (P : FunctionHandle × FunctionHandle → ℕ → Type 0) → MatchResult q (λ p. IsOkAnd m (P p)) (λ e. m ≡ Err e) → ((p : FunctionHandle × FunctionHandle) (v : ℕ) → P p v → v ≡ p.0.0 + 65536 * p.1.0) → (r : ℕ) → r ≡ answer_by (λ v. v) (ended m) → r ≡ redirect_answer (shown q)
unfolding shown answer_by
number_is (Ok p) (Ok v) P e h r is = is ∙ ap (packed 0) (h p v e)
number_is (Ok p) (Err d) P e h r is = absurd e
number_is (Err d) m P e h r is = is ∙ ap (λ x. answer_by (λ v. v) (ended x)) e ∙ refusal_number d
