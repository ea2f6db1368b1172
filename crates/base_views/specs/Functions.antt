-- A function in words and tags, and where its named expressions and its body are: after expressions, whose sizes differ.
use Rattle.std.specs.Prelude.{◌≡◌, List, ℕ, ◌≤◌, ◌<◌, length}
use Rattle.model.specs.Outcome.{Cells}
use Rattle.model.specs.Tree.{Function}
use Rattle.theory_image.specs.FunctionViews.{Stands, named_at, body_at}

-- a function starts at s
pub record Standing (words tags : List ℕ) (s : ℕ) : Type 0 where
  pub end : ℕ
  pub function : Function
  pub cells : Cells
  pub small : length cells ≤ 16384
  pub own : Stands words tags cells s end function

-- the count of its named expressions
pub record Named (r : ℕ) (words tags : List ℕ) (s : ℕ) : Type 0 where
  pub inside : r < 16384
  pub same : {cells : Cells} {end : ℕ} {f : Function} → Stands words tags cells s end f → r ≡ named_at s words f

-- the count of its statements
pub record Body (r : ℕ) (words tags : List ℕ) (s : ℕ) : Type 0 where
  pub inside : r < 16384
  pub same : {cells : Cells} {end : ℕ} {f : Function} → Stands words tags cells s end f → r ≡ body_at s words f
