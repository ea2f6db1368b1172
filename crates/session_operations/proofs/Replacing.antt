-- Words put in place of as many others, one by one: what is left from here is the whole.
use mathlib.Core.Path.{◌≡◌, refl, sym, ap, ◌∙◌}
use mathlib.Core.List.{List, [], ◌++◌, append-nil}
use Prim.Native.Nat.{ℕ, suc, ◌+◌, ◌≤◌, ◌<◌}
use native.Mathlib.Nat.{le_refl}
use native.Mathlib.Omega.{arith}
use lib.ListN.{length, get_or, set, take, drop, length-set, length-take, drop_of_length-le}
use lib.Seq.{sets, sets-eq, slice, slice-cons}
use Rattle.std.proofs.Math.Seq.{take-length}

-- as many words, written from the first on
sets-all : (vs l : List ℕ) → length vs ≡ length l → sets l 0 vs ≡ vs
sets-all vs l e =
    let d : drop (0 + length vs) l ≡ [] = drop_of_length-le l {i = 0 + length vs} (omega (arith, e)) in
    let s : sets l 0 vs ≡ vs ++ drop (0 + length vs) l = sets-eq vs l 0 (omega (arith, e)) in
    s ∙ ap (λ r. vs ++ r) d ∙ append-nil vs

pub record Replacing (by l out : List ℕ) (j : ℕ) : Type 0 where
  pub within : j ≤ length by
  pub long : length out ≡ length l
  pub same : sets out j (slice j (length by) by) ≡ sets l 0 by

module _ (by l : List ℕ) where
  pub replacing_begin : Replacing by l l 0
  replacing_begin = record { within = omega arith; long = refl; same = ap (sets l 0) (take-length by) }

  module _ (out : List ℕ) (j : ℕ) (inv : Replacing by l out j) where
    pub replacing_next : j < length by → Replacing by l (set out j (get_or by j 0)) (j + 1)
    replacing_next h =
        let e = slice-cons j (length by) by 0 h (le_refl _) in
        let y : j + 1 ≡ suc j = omega arith in
        record { within = omega arith; long = length-set out j (get_or by j 0) ∙ inv.long; same = rw y (rw e at inv.same) }

    pub replacing_done : length by ≤ j → length l ≡ length by → out ≡ by
    replacing_done h k =
        let z : out ≡ sets l 0 by = rw (drop_of_length-le (take (length by) by) {i = j} (omega (arith, length-take (length by) by))) at inv.same in
        z ∙ sets-all by l (sym k)
