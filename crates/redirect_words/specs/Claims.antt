-- What is claimed of every redirected module, beside the definition itself. Assumes nothing: these are statements, and proofs/Theorems.antt proves them.
use Rattle.std.specs.Prelude.{[], ◌∷◌, ℕ}
use Rattle.model.specs.Outcome.{Cell, Cells}
use Rattle.model.specs.Table.{CALLEE, FUNCTION}

-- cells that are the same but for Calls and CallResults of a, which are those of b
pub data Differs (a b : ℕ) : Cells → Cells → Type 0 where
  differs_none : Differs a b [] []
  differs_same : {c : Cell} {cs ds : Cells} → Differs a b cs ds → Differs a b (c ∷ cs) (c ∷ ds)
  differs_call : {cs ds : Cells} → Differs a b cs ds → Differs a b ((CALLEE, a) ∷ cs) ((CALLEE, b) ∷ ds)
  differs_result : {cs ds : Cells} → Differs a b cs ds → Differs a b ((FUNCTION, a) ∷ cs) ((FUNCTION, b) ∷ ds)
