-- 21 IS EXACT: of a state that a session reaches, and of what an operation makes of it, the finished module is too large exactly if the code means that it is full. So it is with the source's entry points at the end.
use Rattle.std.specs.Prelude.{◌≡◌, true, false, List}
use Rattle.model.specs.Tree.{Entry}
use Rattle.model.specs.Imports.{Derived}
use Rattle.model.specs.Finish.{finished, too_large}
use Rattle.derive_limits.specs.Full.{Full}

pub record Exactly (s : Derived) (es : List Entry) : Type 0 where
  pub full : Full s es → too_large (finished s es) ≡ true
  pub only : too_large (finished s es) ≡ true → Full s es
  pub fits : (Full s es → ⊥) → too_large (finished s es) ≡ false
