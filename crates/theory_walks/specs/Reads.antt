-- What it is for a walk to read, apart from standing expressions, only what it has already evaluated: a judgement on its trace, that goes along with the list of what was evaluated.
use Rattle.std.specs.Prelude.{◌≡◌, Bool, true, List, ◌∷◌, ℕ}
use Rattle.model.specs.Scope.{vis}
use Rattle.model.specs.Walk.{End, Trace, halt, ◌▸◌, read, eval, calls}

-- `stands` says which expressions are standing; σ is what was evaluated before the trace. Of what is read, `vis stands σ e` says that e is standing or is one of σ
pub data Sound (stands : ℕ → Bool) : Trace → List ℕ → Type 0 where
  s_halt : {h : End} {σ : List ℕ} → Sound stands (halt h) σ
  s_read : {e : ℕ} {t : Trace} {σ : List ℕ} → vis stands σ e ≡ true → Sound stands t σ → Sound stands (read e ▸ t) σ
  s_eval : {e : ℕ} {t : Trace} {σ : List ℕ} → Sound stands t (e ∷ σ) → Sound stands (eval e ▸ t) σ
  s_call_lem : {f : ℕ} {t : Trace} {σ : List ℕ} → Sound stands t σ → Sound stands (calls f ▸ t) σ
