-- What the rounds leave of the functions of which p holds, by chains of calls among them.
use Rattle.std.specs.Prelude.{Bool, ◌↔◌}
use Rattle.std.proofs.Math.Path.{sym}
use Rattle.std.proofs.Common.{subst}
use mathlib.Core.List.{List}
use Prim.Native.Nat.{ℕ}
use Rattle.model.specs.Calls.{Reaches, In, numbers, keep, rounds}
use Rattle.theory_order.proofs.Theorems.{claims}
use Rattle.theory_order.specs.Among.{among, left_among}

-- WHAT IS LEFT of the functions of which p holds: those from which a chain of calls among them reaches a ring of such
pub left_reaches : (c : ℕ → ℕ → Bool) (p : ℕ → Bool) (n i : ℕ) → In i (rounds c n (keep (numbers n 0) p)).left ↔ Reaches n (among p c) i
left_reaches c p n i =
    let l = (claims n (among p c)).left_exactly i in
    let e = left_among c p n in
    ((λ h. l.0 (subst (λ (ws : List ℕ). In i ws) (sym e) h)), λ r. subst (λ (ws : List ℕ). In i ws) e (l.1 r))
