-- Calls are followed at a Call's word alone. In the body an expression names a function only where it is the result of a Call, and that function was followed a few words before; so the import of an expression need not follow calls (`still`), and code has no recursion there.
use Prim.Native.Nat.{ℕ}
use Rattle.model.specs.Imports.{Derived}

abbrev pub still : ℕ → Derived → Derived
still n s = s
