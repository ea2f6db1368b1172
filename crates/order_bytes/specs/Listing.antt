-- The order of the module that words and tags hold: what is answered, and what is written to the caller's list. Of any bytes it is the model's `wuldgisp_order`.
use Rattle.std.specs.Prelude.{◌≡◌, List, ℕ}
use Rattle.model.specs.Module.{Module}
use Rattle.model.specs.Taped.{Taped}
use Rattle.model.specs.Callees.{order_of}
use Rattle.model.specs.Image.{order_ended, order_answer, order_after}

-- of the module that words and tags hold: what is answered, and what the list is then
pub record ListEnsures (r : ℕ) (out₀ out words tags : List ℕ) (n : ℕ) : Type 0 where
  pub answer : (m : Module) → Taped words tags n m → r ≡ order_answer (order_ended (order_of m))
  pub left : (m : Module) → Taped words tags n m → out ≡ order_after (order_ended (order_of m)) out₀
