-- Where a function has the lists that initialisers are about, and what is answered of them.
use Rattle.std.specs.Prelude.{◌≡◌, Bool, List, ℕ, ◌≤◌, length}
use Rattle.model.specs.Outcome.{Cells}
use Rattle.model.specs.Tree.{Function}
use Rattle.model.specs.Between.{Long}
use Rattle.model.specs.FunctionView.{locals_at, expressions_at}
use Rattle.model.specs.Initial.{initialised}
use Rattle.theory_image.specs.FunctionViews.{Stands}

-- ---- the two lists of a function that initialisers are about, by where they have their counts
-- words and tags hold the function f, whose lists of locals and of expressions have their numbers at the words `locals` and `exprs`
pub record Lists (words tags : List ℕ) (locals exprs end : ℕ) (f : Function) : Type 0 where
  pub start : ℕ
  pub long : Long words tags
  pub cells : Cells
  pub small : length cells ≤ 16384
  pub own : Stands words tags cells start end f
  pub locals_at_lem : locals ≡ locals_at start words
  pub exprs_at : exprs ≡ expressions_at start words

-- a function has its lists there
pub record Listed (words tags : List ℕ) (locals exprs end : ℕ) : Type 0 where
  pub function : Function
  pub lists : Lists words tags locals exprs end function

-- the answer is the model's
pub record Initialised (r : Bool) (words tags : List ℕ) (locals exprs end : ℕ) : Type 0 where
  pub same : (f : Function) → Lists words tags locals exprs end f → r ≡ initialised f
