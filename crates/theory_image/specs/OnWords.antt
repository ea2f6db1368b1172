-- What comes after intake, by intake's answer: `on_words` is the refusal, or f of the module that the words hold.
use Rattle.std.specs.Prelude.{◌≡◌, List, ℕ, suc}
use Rattle.std.proofs.Math.Path.{ap}
use Rattle.std.proofs.Common.{◌∙◌}
use Rattle.model.specs.Outcome.{laid}
use Rattle.model.specs.Module.{Module, read}
use Rattle.model.specs.Intake.{intake_of, of_laid, after_intake, on_words}

module _ {A : Type 0} (f : Module → A) (refuse : ℕ → A) (bytes : ℕ) (ws : List ℕ) where
  pub on_refused : (k : ℕ) → intake_of bytes ws ≡ suc k → on_words f refuse bytes ws ≡ refuse (suc k)
  unfolding on_words after_intake
  on_refused k h = ap (after_intake f refuse ws) h

  pub on_module : (m : Module) → intake_of bytes ws ≡ 0 → read ws ≡ laid m → on_words f refuse bytes ws ≡ f m
  unfolding on_words after_intake of_laid
  on_module m h q = ap (after_intake f refuse ws) h ∙ ap (of_laid f refuse) q
