-- What `redirect_function` answers and leaves in the image: the model's `redirect_image`. As one number it is the model's `wuldgisp_redirect`.
use Rattle.std.specs.Prelude.{◌≡◌, List, ℕ, ◌<◌}
use Rattle.model.specs.Refusals.{Ended, done, refused}
use Rattle.model.specs.Image.{redirect_image}
use Rattle.redirect_words.specs.declared.Request.{Request}
use Rattle.redirect_words.specs.Passes.{Redirected, shown}

-- of the model: the answer, and the image that it leaves
pub record RedirectFunctionEnsures (r : Redirected) (image₀ image : List ℕ) (q : Request) : Type 0 where
  pub same : (shown r, image) ≡ redirect_image image₀ q.original q.replacement q.omit.now

-- numbers that have room in an answer
pub data Small : Ended (ℕ × ℕ) → Type 0 where
  small_both : {a b : ℕ} → a < 65536 → b < 65536 → Small (done (a, b))
  small_refused : {k : ℕ} → Small (refused k)
