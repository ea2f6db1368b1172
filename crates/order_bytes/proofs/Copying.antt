-- What a copy that stops where the list ends does.
use mathlib.Core.Path.{◌≡◌, refl, sym, ap, ◌∙◌}
use mathlib.Core.List.{List, [], ◌∷◌, ◌++◌}
use Prim.Native.Nat.{ℕ, zero, suc, ◌+◌, ◌≤◌}
use native.Mathlib.Omega.{arith}
use lib.Dec.{ltb}
use lib.ListN.{length, set, take, drop, length-set}
use lib.Seq.{sets, sets-eq, length-take-le, take-length}
use borrow.Author.Tests.{ltb-true, ltb-false}
use mathlib.Core.Bool.{Bool, true, false}
use Rattle.std.proofs.Common.{min}

set_past : (l : List ℕ) (i a : ℕ) → length l ≤ i → set l i a ≡ l
set_past [] i a h = refl
set_past (x ∷ l) zero a h = absurd (omega arith)
set_past (x ∷ l) (suc i) a h = ap (x ∷◌) (set_past l i a (omega arith))

sets_past : (vs l : List ℕ) (i : ℕ) → length l ≤ i → sets l i vs ≡ l
sets_past [] l i h = refl
sets_past (a ∷ vs) l i h = ap (λ k. sets k (suc i) vs) (set_past l i a h) ∙ sets_past vs l (suc i) (omega arith)

-- what is written past the end is not written
pub sets_cut : (vs l : List ℕ) (i n : ℕ) → length l ≤ i + n → sets l i (take n vs) ≡ sets l i vs
sets_cut [] l i zero h = refl
sets_cut [] l i (suc n) h = refl
sets_cut (a ∷ vs) l i zero h = sym (sets_past (a ∷ vs) l i (omega arith))
sets_cut (a ∷ vs) l i (suc n) h = sets_cut vs (set l i a) (suc i) n (omega (arith, length-set l i a))

pub copied : (order out part : List ℕ) (n : ℕ) → n ≡ min (length order) (length out) → part ≡ take n order → part ++ drop n out ≡ sets out 0 order
copied order out part n is taken =
    let long : 0 + length (take n order) ≡ n = omega (arith, length-take-le n order (omega arith)) in
    let whole : sets out 0 (take n order) ≡ take n order ++ drop (0 + length (take n order)) out = sets-eq (take n order) out 0 (omega arith) in
    ap (◌++ drop n out) taken ∙ ap (λ k. take n order ++ drop k out) (sym long) ∙ sym whole ∙ go (ltb (length out) (length order)) refl
  where
    go : (b : Bool) → ltb (length out) (length order) ≡ b → sets out 0 (take n order) ≡ sets out 0 order
    go true e = let h = ltb-true (length out) (length order) e in sets_cut order out 0 n (omega arith)
    go false e = let h = ltb-false (length out) (length order) e in let k : n ≡ length order = omega arith in ap (sets out 0) (ap (λ j. take j order) k ∙ take-length order)
