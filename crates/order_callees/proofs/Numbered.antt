-- Test 3, of the module that words and tags hold, gives what gathering needs.
use mathlib.Core.Path.{◌≡◌}
use mathlib.Core.Bool.{true}
use mathlib.Core.List.{List}
use Prim.Native.Nat.{ℕ}
use Rattle.model.specs.Module.{Module}
use Rattle.model.specs.Taped.{Taped}
use Rattle.model.specs.Numbers.{numbered}
use Rattle.theory_order.specs.Numbered.{numbered-known}
use Rattle.order_callees.specs.Gathering.{Known}

pub passed-known : {words tags : List ℕ} {n : ℕ} → ((m : Module) → Taped words tags n m → numbered m ≡ true) → Known words tags n
passed-known h m t = numbered-known m t.well (h m t)
