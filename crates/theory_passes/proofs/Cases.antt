-- A statement's kind: what is imported early of an atomic one, and nothing of any other.
use Rattle.std.specs.Prelude.{◌≡◌, true, false, ℕ}
use Rattle.model.specs.Outcome.{Cells}
use Rattle.model.specs.Module.{Module}
use Rattle.model.specs.Imports.{Derived}
use Rattle.model.specs.Bodies.{Builder, compares_of, each_e}
use Rattle.theory_passes.specs.Pass.{atomic_kind, early}

module _ (o : ℕ) (M : Module) (follow : ℕ → Derived → Derived) (p q : ℕ → Builder → Builder) where
  pub early-atomic : (k : ℕ) (cs : Cells) (m : Builder) → atomic_kind k ≡ true → early o M follow p q k cs m ≡ each_e (compares_of cs) p m
  unfolding early
  early-atomic k cs m h = rw (h, early)

  pub early-other : (k : ℕ) (cs : Cells) (m : Builder) → atomic_kind k ≡ false → early o M follow p q k cs m ≡ m
  unfolding early
  early-other k cs m h = rw (h, early)
